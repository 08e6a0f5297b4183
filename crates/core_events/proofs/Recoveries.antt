-- A recovery squashes all rows behind its row, since none of them was squashed before.
use Rattle.std.proofs.Common.{◌≡◌, ℕ, zero, suc, ◌+◌, ◌-◌, ◌<◌, ◌≤◌, Bool, true, false, cond, List, [], ◌∷◌, ◌++◌, Option, Some, None, refl, sym, ap, ◌∙◌, subst, arith, inl, inr, length, length-append}
use Rattle.std.specs.Prelude.{◌&&◌, ◌||◌, ◌==◌, not, find, is_none, map}
use Rattle.std.specs.List.{list_any, range_with_len}
use Rattle.std.proofs.lemmas.Bool.{and_parts, eqb-true}
use Rattle.std.proofs.lemmas.Bool.Decides.{nat_tests}
use Rattle.mem_hier.specs.Replay.{greatest_fetch_of, greatest_load_of}
use Rattle.ooo_table.specs.declared.event.Mark.TheVariants as mark
use Rattle.ooo_table.specs.declared.event.Event.{Event}
use Rattle.ooo_table.specs.Row.{Row, is_at, is_before, sweep}
use Rattle.ooo_table.specs.Table.{Setting}
use Rattle.ooo_table.specs.Path.{execution, mispredicted}
use Rattle.ooo_table.specs.Done.{written}
use Rattle.ooo_table.specs.Commit.{commit_row}
use Rattle.ooo_table.specs.Recovery.{recovers, squash_row}
use Rattle.ooo_table.specs.Cycle.{table, after_commit}
use Rattle.ooo_table.specs.Events.{by_row, event_at}
use Rattle.ooo_table.specs.Later.{Each, Where}
use Rattle.ooo_table.specs.Legal.{Before}
use Rattle.ooo_table.specs.Machine.{Given, setting_of}
use Rattle.ooo_table.specs.MachineLaws.{IsSound}
use Rattle.ooo_table.specs.PathLaws.{newest}
use Rattle.ooo_table.proofs.CycleFacts.{route_one}
use Rattle.ooo_table.proofs.Over.{not_at}
use Rattle.ooo_table.proofs.Quiet.{Own, own_commit, each_turn, both_table, squash_still}
use Rattle.ooo_table.proofs.Route.{Route, Strays, any_same, recovers_newest, right_stands}
use Rattle.ooo_table.proofs.Timely.{bounded}
use Rattle.core_parts.specs.Rows.{newest_number}
use Rattle.core_events.specs.Recoveries.{squash_event, squashes_behind, SquashesBehind}
use Rattle.core_events.proofs.Sources.{Sourced, Earlier, sources_commit}

-- ---- the newest row that passes

pub record Newest (p : Row → Bool) (rows : List Row) (k : ℕ) : Type 0 where
  pub younger : List Row
  pub row : Row
  pub older : List Row
  pub is : rows ≡ younger ++ (row ∷ older)
  pub passes : p row ≡ true
  pub number : length older ≡ k

newest_at : (p : Row → Bool) (rows : List Row) (k : ℕ) → newest_number p rows ≡ Some k → Newest p rows k
newest_at p [] k e = absurd cc
newest_at p (r ∷ rows) k e = by_test (p r) refl e (λ h. newest_at p rows k h)
  where
    deeper : Newest p rows k → Newest p (r ∷ rows) k
    deeper n = record { younger = r ∷ n.younger; row = n.row; older = n.older; is = ap (λ l. r ∷ l) n.is; passes = n.passes; number = n.number }

    by_test : (b : Bool) → p r ≡ b → cond b (Some (length rows)) (newest_number p rows) ≡ Some k → (newest_number p rows ≡ Some k → Newest p rows k) → Newest p (r ∷ rows) k
    by_test true h f ih = let n : length rows ≡ k = cc in record { younger = []; row = r; older = rows; is = refl; passes = h; number = n }
    by_test false h f ih = deeper (ih f)

none_newest : (p : Row → Bool) (rows : List Row) → newest_number p rows ≡ None → list_any p rows ≡ false
none_newest p [] e = refl
none_newest p (r ∷ rows) e = by_test (p r) refl e (none_newest p rows)
  where
    by_test : (b : Bool) → p r ≡ b → cond b (Some (length rows)) (newest_number p rows) ≡ None → (newest_number p rows ≡ None → list_any p rows ≡ false) → (p r || list_any p rows) ≡ false
    by_test true h f ih = absurd cc
    by_test false h f ih = ap (λ b. b || list_any p rows) h ∙ ih f

back_of : (P : List Row → Row → Type 0) (younger older : List Row) → Each P (younger ++ older) → Each P older
back_of P [] older h = h
back_of P (y ∷ younger) older h = back_of P younger older h.1

-- ---- events of no row

no_squash : (c : ℕ) (rows : List Row) → Each (λ _. Own c) rows → by_row (λ n r. event_at c r.squashed mark.Squashed n) rows ≡ []
no_squash c [] h = refl
no_squash c (r ∷ rows) h =
    ap (λ l. l ++ event_at c r.squashed mark.Squashed (length rows)) (no_squash c rows h.1)
    ∙ ap (λ b. cond b (record { cycle = c; row = length rows; mark = mark.Squashed } ∷ []) []) (not_at c r.squashed (below r.squashed h.0.squashed))
  where
    below : (m : Option ℕ) → Where m (λ x. (x < c) × Before x r) → Where m (λ x. x < c)
    below None w = tt
    below (Some x) w = w.0

-- squashes of so many rows from this number on
abbrev squashes_from : ℕ → ℕ → ℕ → List Event
squashes_from c least n = map (squash_event c) (range_with_len least n)

more_numbers : (a n : ℕ) → range_with_len a (suc n) ≡ range_with_len a n ++ ((a + n) ∷ [])
more_numbers a zero = ap (λ k. k ∷ []) (omega arith)
more_numbers a (suc n) =
    let e : a + 1 + n ≡ a + suc n = omega arith in
    ap (λ l. a ∷ l) (more_numbers (a + 1) n ∙ ap (λ k. range_with_len (a + 1) n ++ (k ∷ [])) e)

map_more : (c : ℕ) (ks : List ℕ) (k : ℕ) → map (squash_event c) (ks ++ (k ∷ [])) ≡ map (squash_event c) ks ++ (squash_event c k ∷ [])
map_more c [] k = refl
map_more c (x ∷ ks) k = ap (λ l. squash_event c x ∷ l) (map_more c ks k)

more_squashes : (c least n : ℕ) → squashes_from c least n ++ (squash_event c (least + n) ∷ []) ≡ squashes_from c least (suc n)
more_squashes c least n = sym (ap (map (squash_event c)) (more_numbers least n) ∙ map_more c (range_with_len least n) (least + n))

swept_length : (f : List Row → Row → Row) (rows : List Row) → length (sweep f rows) ≡ length rows
swept_length f [] = refl
swept_length f (r ∷ rows) = ap (λ n. suc n) (swept_length f rows)

module _ (set : Setting) (c : ℕ) where
  -- ---- rows behind one that recovers

  any_in : (ys older : List Row) (k : Row) → recovers set c k ≡ true → list_any (recovers set c) (ys ++ (k ∷ older)) ≡ true
  any_in [] older k e = ap (λ b. b || list_any (recovers set c) older) e
  any_in (y ∷ ys) older k e = second (recovers set c y) (list_any (recovers set c) (ys ++ (k ∷ older))) (any_in ys older k e)
    where
      second : (a b : Bool) → b ≡ true → (a || b) ≡ true
      second true b e = refl
      second false b e = e

  found : (x : ℕ) (rows : List Row) → list_any (recovers set x) rows ≡ true → (m : Row) × (find (recovers set x) rows ≡ Some m)
  found x [] e = absurd cc
  found x (r ∷ rows) e = by_test (recovers set x r) e (λ h. found x rows h)
    where
      by_test : (b : Bool) → (b || list_any (recovers set x) rows) ≡ true → (list_any (recovers set x) rows ≡ true → (m : Row) × (find (recovers set x) rows ≡ Some m))
          → (m : Row) × (cond b (Some r) (find (recovers set x) rows) ≡ Some m)
      by_test true h ih = (r, refl)
      by_test false h ih = ih h

  not_before_less : (x : ℕ) (m : Option ℕ) → x ≤ c → is_before c m ≡ false → is_before x m ≡ false
  not_before_less x None le e = refl
  not_before_less x (Some t) le e = grind (arith, nat_tests)

  strays_less : (x : ℕ) (m : Option Row) → x ≤ c → Strays set c m → Strays set x m
  strays_less x None le h = h
  strays_less x (Some m) le (inl h) = inl h
  strays_less x (Some m) le (inr (p, q)) = inr (p, not_before_less x (written set m) le q)

  -- as things were when these rows were there
  route_less : (x : ℕ) (rows : List Row) → x ≤ c → Earlier x rows → Each (Route set c) rows → Each (Route set x) rows
  route_less x [] le b h = tt
  route_less x (r ∷ rows) le b h =
      (record { early = b.0; follows = h.0.follows; clean = h.0.clean; strays = λ w e. strays_less x (newest rows) le (h.0.strays w e) }, route_less x rows le b.1 h.1)

  same_mark : (x : ℕ) (m : Option ℕ) → is_at x m ≡ true → is_at c m ≡ true → x ≡ c
  same_mark x None e f = absurd cc
  same_mark x (Some t) e f = sym (eqb-true t x e) ∙ eqb-true t c f

  -- no other recovery came behind the row
  other_recovery : (x : ℕ) (rows : List Row) → x < c → Earlier x rows → Each (Route set c) rows → list_any (recovers set c) rows ≡ true → list_any (recovers set x) rows ≡ true → ⊥
  other_recovery x rows lt b route here there =
      let at : (m : Row) × (find (recovers set c) rows ≡ Some m) = found c rows here in
      let before : (m : Row) × (find (recovers set x) rows ≡ Some m) = found x rows there in
      let new : (newest rows ≡ Some at.0) × (recovers set c at.0 ≡ true) = recovers_newest set c rows at.0 route at.1 in
      let old : (newest rows ≡ Some before.0) × (recovers set x before.0 ≡ true) = recovers_newest set x rows before.0 (route_less x rows (omega (arith, lt)) b route) before.1 in
      let same : before.0 ≡ at.0 = one_of before.0 at.0 (sym old.0 ∙ new.0) in
      let again : recovers set x at.0 ≡ true = subst (λ m. recovers set x m ≡ true) same old.1 in
      let e : x ≡ c = same_mark x (written set at.0) (and_parts (mispredicted set at.0) (is_at x (written set at.0)) again).1 (and_parts (mispredicted set at.0) (is_at c (written set at.0)) new.1).1 in
      omega (arith, e, lt)
    where
      one_of : (a b : Row) → Some a ≡ Some b → a ≡ b
      one_of a b e = cc

  unsquashed : (ys older : List Row) (k : Row) → recovers set c k ≡ true → Each (Sourced set) (ys ++ (k ∷ older)) → Each (λ _. Own c) (ys ++ (k ∷ older)) → Each (Route set c) (ys ++ (k ∷ older))
      → Each (λ _ o. o.squashed ≡ None) ys
  unsquashed [] older k e s o h = tt
  unsquashed (y ∷ ys) older k e s o h = (by_mark y.squashed s.0 o.0.squashed, unsquashed ys older k e s.1 o.1 h.1)
    where
      by_mark : (m : Option ℕ) → Where m (λ x. (list_any (recovers set x) (ys ++ (k ∷ older)) ≡ true) × Earlier x (ys ++ (k ∷ older)))
          → Where m (λ x. (x < c) × Before x y) → m ≡ None
      by_mark None s o = refl
      by_mark (Some x) s o = absurd (other_recovery x (ys ++ (k ∷ older)) o.0 s.1 h.1 (any_in ys older k e) s.0)

  -- ---- the squashes

  -- up to the row none
  still : (older : List Row) (k : Row) → list_any (recovers set c) older ≡ false → sweep (squash_row set c) (k ∷ older) ≡ k ∷ older
  still older k e =
      ap (λ l. squash_row set c l k ∷ l) (squash_still set c older e)
      ∙ ap (λ b. cond (b && is_none k.squashed) (record k { squashed = Some c }) k ∷ older) e

  -- and behind it all
  all_behind : (ys older : List Row) (k : Row) → recovers set c k ≡ true → list_any (recovers set c) older ≡ false → Each (λ _. Own c) (k ∷ older) → Each (λ _ o. o.squashed ≡ None) ys
      → by_row (λ n r. event_at c r.squashed mark.Squashed n) (sweep (squash_row set c) (ys ++ (k ∷ older))) ≡ squashes_from c (suc (length older)) (length ys)
  all_behind [] older k e f o u =
      ap (λ l. by_row (λ n r. event_at c r.squashed mark.Squashed n) l) (still older k f) ∙ no_squash c (k ∷ older) o
  all_behind (y ∷ ys) older k e f o u =
      ap (λ l. l ++ event_at c (squash_row set c before y).squashed mark.Squashed (length before)) (all_behind ys older k e f o u.1)
      ∙ (ap (λ l. squashes_from c (suc (length older)) (length ys) ++ l) shown ∙ more_squashes c (suc (length older)) (length ys))
    where
      before : List Row
      before = sweep (squash_row set c) (ys ++ (k ∷ older))

      test : (list_any (recovers set c) before && is_none y.squashed) ≡ true
      test =
          ap (λ b. b && is_none y.squashed) (any_same set c (ys ++ (k ∷ older)) ∙ any_in ys older k e)
          ∙ ap is_none u.0

      itself : (c == c) ≡ true
      itself = grind (arith, nat_tests)

      place : length before ≡ suc (length older) + length ys
      place = swept_length (squash_row set c) (ys ++ (k ∷ older)) ∙ (length-append ys (k ∷ older) ∙ omega arith)

      shown : event_at c (squash_row set c before y).squashed mark.Squashed (length before) ≡ record { cycle = c; row = suc (length older) + length ys; mark = mark.Squashed } ∷ []
      shown =
          ap (λ b. event_at c (cond b (record y { squashed = Some c }) y).squashed mark.Squashed (length before)) test
          ∙ (ap (λ b. cond b (record { cycle = c; row = length before; mark = mark.Squashed } ∷ []) []) itself
          ∙ ap (λ n. record { cycle = c; row = n; mark = mark.Squashed } ∷ []) place)

  all_squashes : (rows : List Row) → Each (Sourced set) rows → Each (λ _. Own c) rows → Each (Route set c) rows
      → by_row (λ n r. event_at c r.squashed mark.Squashed n) (sweep (squash_row set c) rows) ≡ squashes_behind c (newest_number (recovers set c) rows) (length rows)
  all_squashes rows s o h = by_number (newest_number (recovers set c) rows) refl
    where
      right_of : (k : Row) → recovers set c k ≡ true → k.fetched.right ≡ true
      right_of k e =
          (and_parts k.fetched.right (not (execution set k).stops)
          (and_parts (k.fetched.right && not (execution set k).stops) (not (k.fetched.predicted == (execution set k).next)) (and_parts (mispredicted set k) (is_at c (written set k)) e).0).0).0

      none_older : (k : Row) (older : List Row) → recovers set c k ≡ true → Each (Route set c) (k ∷ older) → (b : Bool) → list_any (recovers set c) older ≡ b → b ≡ false
      none_older k older e route true f = absurd (right_stands set c older k route.1 route.0 (right_of k e) f)
      none_older k older e route false f = refl

      of_row : (ys older : List Row) (k : Row) → rows ≡ ys ++ (k ∷ older) → recovers set c k ≡ true
          → by_row (λ n r. event_at c r.squashed mark.Squashed n) (sweep (squash_row set c) rows) ≡ squashes_from c (suc (length older)) (length rows - suc (length older))
      of_row ys older k is e =
          let route : Each (Route set c) (ys ++ (k ∷ older)) = subst (Each (Route set c)) is h in
          let own : Each (λ _. Own c) (ys ++ (k ∷ older)) = subst (Each (λ _. Own c)) is o in
          let source : Each (Sourced set) (ys ++ (k ∷ older)) = subst (Each (Sourced set)) is s in
          let free : list_any (recovers set c) older ≡ false = none_older k older e (back_of (Route set c) ys (k ∷ older) route) (list_any (recovers set c) older) refl in
          let count : length ys ≡ length rows - suc (length older) = omega (arith, ap length is, length-append ys (k ∷ older)) in
          ap (λ l. by_row (λ n r. event_at c r.squashed mark.Squashed n) (sweep (squash_row set c) l)) is
          ∙ (all_behind ys older k e free (back_of (λ _. Own c) ys (k ∷ older) own) (unsquashed ys older k e source own route)
          ∙ ap (squashes_from c (suc (length older))) count)

      by_number : (m : Option ℕ) → newest_number (recovers set c) rows ≡ m
          → by_row (λ n r. event_at c r.squashed mark.Squashed n) (sweep (squash_row set c) rows) ≡ squashes_behind c m (length rows)
      by_number None e =
          ap (λ l. by_row (λ n r. event_at c r.squashed mark.Squashed n) l) (squash_still set c rows (none_newest (recovers set c) rows e)) ∙ no_squash c rows o
      by_number (Some n) e =
          let at : Newest (recovers set c) rows n = newest_at (recovers set c) rows n e in
          let one_more : suc n ≡ n + 1 = omega arith in
          of_row at.younger at.older at.row at.is at.passes ∙ (ap (λ k. squashes_from c (suc k) (length rows - suc k)) at.number ∙ ap (λ k. squashes_from c k (length rows - k)) one_more)

pub squashes_are_behind : (g : Given) (c : ℕ) → IsSound g → SquashesBehind g c
squashes_are_behind g c sound =
    all_squashes (setting_of g) c (after_commit (setting_of g) c).rows (sources_commit (setting_of g) c)
    (each_turn (Own c) (Own c) (commit_row (setting_of g) c) (own_commit (setting_of g) c c) (table (setting_of g) c).rows (both_table (setting_of g) c).0)
    (route_one (setting_of g) (greatest_fetch_of g.hier) (greatest_load_of g.hier) (bounded g sound) c).0
