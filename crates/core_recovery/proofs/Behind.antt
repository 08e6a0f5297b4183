-- The table behind a recovery: the rows up to the one that recovers stay, and no later one is live or waits.
use Rattle.std.proofs.Common.{◌≡◌, ℕ, Bool, true, false, cond, List, [], ◌∷◌, ◌++◌, Option, Some, None, refl, sym, ap, ◌∙◌, subst, length}
use Rattle.std.specs.Prelude.{◌&&◌, ◌||◌, ◌==◌, is_some, is_none, find, filter_map}
use Rattle.std.specs.List.{list_any}
use Rattle.std.proofs.lemmas.Bool.{and_left, and_right, cond_both}
use Rattle.mem_hier.specs.Replay.{Reference, Fetch, Load, Store}
use Rattle.bpred_unit.specs.History.{Event, LookUp, Update, Recover}
use Rattle.ooo_table.specs.Row.{Row, is_at, accessed, not_forwarded, sweep}
use Rattle.ooo_table.specs.Execution.{Pool, Alus, Multipliers, Ports, address, uses_memory}
use Rattle.ooo_table.specs.Table.{Setting, NextFetch}
use Rattle.ooo_table.specs.Path.{execution, stores}
use Rattle.ooo_table.specs.Done.{live, waiting}
use Rattle.ooo_table.specs.Recovery.{recovers, squash_row}
use Rattle.ooo_table.specs.References.{references_of, updates_of, predictor_events_of}
use Rattle.ooo_table.specs.Issue.{holds}
use Rattle.ooo_table.specs.Later.{Each}
use Rattle.ooo_table.specs.CycleLaws.{Fresh, Passed, as_next}
use Rattle.ooo_table.specs.PathLaws.{newest}
use Rattle.ooo_table.proofs.Route.{any_same}
use Rattle.ooo_table.proofs.Quiet.{squash_still}
use Rattle.ooo_table.proofs.Units.{not_at}
use Rattle.core_parts.specs.Rows.{pick, newest_number, in_queue}
use Rattle.core_parts.specs.Stands.{next_of, settled, state_after}
use Rattle.core_parts.proofs.Lists.{map_some, map_none, pick_skip, length_sweep, map_sweep}

-- ---- the newest row that passes

pub record NewestAt (p : Row → Bool) (n : ℕ) (rows : List Row) : Type 0 where
  pub younger : List Row
  pub row : Row
  pub older : List Row
  pub is : rows ≡ younger ++ (row ∷ older)
  pub passes : p row ≡ true
  pub number : n ≡ length older
  pub none : Each (λ _ o. p o ≡ false) younger

pub newest_at : (p : Row → Bool) (n : ℕ) (rows : List Row) → newest_number p rows ≡ Some n → NewestAt p n rows
newest_at p n [] e = absurd cc
newest_at p n (r ∷ rows) e = by_case (p r) refl e (newest_at p n rows)
  where
    by_case : (b : Bool) → p r ≡ b → cond b (Some (length rows)) (newest_number p rows) ≡ Some n → (newest_number p rows ≡ Some n → NewestAt p n rows) → NewestAt p n (r ∷ rows)
    by_case true t e ih =
        let k : length rows ≡ n = cc in
        record { younger = []; row = r; older = rows; is = refl; passes = t; number = sym k; none = tt }
    by_case false t e ih =
        let k = ih e in
        record { younger = r ∷ k.younger; row = k.row; older = k.older; is = ap (λ l. r ∷ l) k.is; passes = k.passes; number = k.number; none = (t, k.none) }

pub none_passes : (p : Row → Bool) (rows : List Row) → newest_number p rows ≡ None → Each (λ _ o. p o ≡ false) rows
none_passes p [] e = tt
none_passes p (r ∷ rows) e = by_case (p r) refl e (none_passes p rows)
  where
    by_case : (b : Bool) → p r ≡ b → cond b (Some (length rows)) (newest_number p rows) ≡ None → (newest_number p rows ≡ None → Each (λ _ o. p o ≡ false) rows)
        → (p r ≡ false) × Each (λ _ o. p o ≡ false) rows
    by_case true t e ih = absurd cc
    by_case false t e ih = (t, ih e)

pub none_any : (p : Row → Bool) (rows : List Row) → Each (λ _ o. p o ≡ false) rows → list_any p rows ≡ false
none_any p [] h = refl
none_any p (r ∷ rows) h = ap (λ b. b || list_any p rows) h.0 ∙ none_any p rows h.1

pub find_newest : (p : Row → Bool) (younger older : List Row) (m : Row) → p m ≡ true → Each (λ _ o. p o ≡ false) younger → find p (younger ++ (m ∷ older)) ≡ Some m
find_newest p [] older m t h = ap (λ b. cond b (Some m) (find p older)) t
find_newest p (y ∷ younger) older m t h = ap (λ b. cond b (Some y) (find p (younger ++ (m ∷ older)))) h.0 ∙ find_newest p younger older m t h.1

-- what is true of each row is so in the middle
pub each_at : (P : List Row → Row → Type 0) (younger older : List Row) (m : Row) → Each P (younger ++ (m ∷ older)) → P older m × Each P older
each_at P [] older m h = h
each_at P (y ∷ younger) older m h = each_at P younger older m h.1

-- ---- rows that wait

not_picked : (p : Row → Bool) (o : Row) (older : List Row) → pick p (o ∷ older) ≡ [] → (p o ≡ false) × (pick p older ≡ [])
not_picked p o older e = by_case (p o) e
  where
    by_case : (b : Bool) → cond b (record { row = o; older = older } ∷ pick p older) (pick p older) ≡ [] → (b ≡ false) × (pick p older ≡ [])
    by_case true e = absurd cc
    by_case false e = (refl, e)

pub none_waits : (older : List Row) → Passed older → pick waiting older ≡ []
none_waits [] h = refl
none_waits (o ∷ older) h = pick_skip waiting o older h.0 ∙ none_waits older h.1

pub no_next : (rows : List Row) (n : NextFetch) → pick waiting rows ≡ [] → next_of rows n ≡ n
no_next [] n e = refl
no_next (r ∷ rows) n e =
    let k = not_picked waiting r rows e in
    ap (λ b. next_of rows (cond b (as_next r) n)) k.0 ∙ no_next rows n k.1

-- ---- the settled state

pub newest_dispatched : (rows : List Row) (m : Row) → newest rows ≡ Some m → is_some m.dispatched ≡ true → find (λ (r : Row). r.fetched.right && is_some r.dispatched) rows ≡ Some m
newest_dispatched [] m n d = absurd cc
newest_dispatched (r ∷ rows) m n d = by_right r.fetched.right n (newest_dispatched rows m)
  where
    by_right : (b : Bool) → cond b (Some r) (newest rows) ≡ Some m → (newest rows ≡ Some m → is_some m.dispatched ≡ true → find (λ (r : Row). r.fetched.right && is_some r.dispatched) rows ≡ Some m)
        → cond (b && is_some r.dispatched) (Some r) (find (λ (r : Row). r.fetched.right && is_some r.dispatched) rows) ≡ Some m
    by_right true e ih =
        let k : r ≡ m = cc in
        ap (λ b. cond b (Some r) (find (λ (r : Row). r.fetched.right && is_some r.dispatched) rows)) (subst (λ (x : Row). is_some x.dispatched ≡ true) (sym k) d) ∙ e
    by_right false e ih = ih e d

newest_sweep : (p : Row → Bool) (f : List Row → Row → Row) → ((before : List Row) (r : Row) → p (f before r) ≡ p r) → (rows : List Row) → newest_number p (sweep f rows) ≡ newest_number p rows
newest_sweep p f same [] = refl
newest_sweep p f same (r ∷ rows) =
    ap (λ b. cond b (Some (length (sweep f rows))) (newest_number p (sweep f rows))) (same (sweep f rows) r)
    ∙ (ap (λ k. cond (p r) (Some k) (newest_number p (sweep f rows))) (length_sweep f rows)
    ∙ ap (λ m. cond (p r) (Some (length rows)) m) (newest_sweep p f same rows))

module _ (set : Setting) (c : ℕ) where
  -- ---- rows that are squashed

  any_in : (younger older : List Row) (m : Row) → recovers set c m ≡ true → list_any (recovers set c) (younger ++ (m ∷ older)) ≡ true
  any_in [] older m at = ap (λ b. b || list_any (recovers set c) older) at
  any_in (y ∷ younger) older m at = any_right (recovers set c y) (list_any (recovers set c) (younger ++ (m ∷ older))) (any_in younger older m at)
    where
      any_right : (a b : Bool) → b ≡ true → (a || b) ≡ true
      any_right true b e = refl
      any_right false b e = e

  pub live_gone : (r : Row) → is_none r.squashed ≡ false → live r ≡ false
  live_gone r e = and_right (is_some r.dispatched && is_none r.committed) (is_none r.squashed) e

  pub waiting_gone : (r : Row) → is_none r.squashed ≡ false → waiting r ≡ false
  waiting_gone r e = and_right (is_none r.dispatched) (is_none r.squashed) e

  pub queue_gone : (r : Row) → is_none r.squashed ≡ false → in_queue set r ≡ false
  queue_gone r e = and_left (live r) (uses_memory (execution set r).memory) (live_gone r e)

  module _ (older : List Row) (m : Row) (at : recovers set c m ≡ true) (none : list_any (recovers set c) older ≡ false) where
    -- that row and all older ones stay
    kept : sweep (squash_row set c) (m ∷ older) ≡ m ∷ older
    kept =
        ap (λ l. squash_row set c l m ∷ l) (squash_still set c older none)
        ∙ ap (λ x. x ∷ older) (ap (λ b. cond (b && is_none m.squashed) (record m { squashed = Some c }) m) none)

    -- each later one is squashed
    behind : (younger : List Row) (y : Row) → is_none (squash_row set c (sweep (squash_row set c) (younger ++ (m ∷ older))) y).squashed ≡ false
    behind younger y =
        by_mark (list_any (recovers set c) (sweep (squash_row set c) (younger ++ (m ∷ older)))) (is_none y.squashed)
        (any_same set c (younger ++ (m ∷ older)) ∙ any_in younger older m at) refl
      where
        by_mark : (b d : Bool) → b ≡ true → is_none y.squashed ≡ d → is_none (cond (b && d) (record y { squashed = Some c }) y).squashed ≡ false
        by_mark true true e f = refl
        by_mark true false e f = f
        by_mark false d e f = absurd cc

    -- so none of these is live or waits
    pub pick_behind : (p : Row → Bool) → ((r : Row) → is_none r.squashed ≡ false → p r ≡ false) → (younger : List Row)
        → pick p (sweep (squash_row set c) (younger ++ (m ∷ older))) ≡ pick p (m ∷ older)
    pick_behind p gone [] = ap (pick p) kept
    pick_behind p gone (y ∷ younger) =
        let before : List Row = sweep (squash_row set c) (younger ++ (m ∷ older)) in
        pick_skip p (squash_row set c before y) before (gone (squash_row set c before y) (behind younger y)) ∙ pick_behind p gone younger

  -- ---- what a squash leaves of a row

  pub squash_same : {Y : Type 0} (f : Row → Y) → ((r : Row) → f (record r { squashed = Some c }) ≡ f r) → (before : List Row) (r : Row) → f (squash_row set c before r) ≡ f r
  squash_same f same before r =
      cond_both (list_any (recovers set c) before && is_none r.squashed) (record r { squashed = Some c }) r (λ s. f s ≡ f r) (λ _. same r) (λ _. refl)

  -- its units, also where it is squashed
  pub holds_squash : (p : Pool) (x : ℕ) (before : List Row) (r : Row) → holds set p x (squash_row set c before r) ≡ holds set p x r
  holds_squash Alus x = squash_same (holds set Alus x) (λ r. refl)
  holds_squash Multipliers x = squash_same (holds set Multipliers x) (λ r. refl)
  holds_squash Ports x = squash_same (holds set Ports x) (λ r. refl)

  pub newest_squash : (p : Row → Bool) → ((r : Row) → p (record r { squashed = Some c }) ≡ p r) → (rows : List Row) → newest_number p (sweep (squash_row set c) rows) ≡ newest_number p rows
  newest_squash p same = newest_sweep p (squash_row set c) (squash_same p same)

  pub settled_squash : (rows : List Row) → settled set (sweep (squash_row set c) rows) ≡ settled set rows
  settled_squash [] = refl
  settled_squash (r ∷ rows) =
      let before : List Row = sweep (squash_row set c) rows in
      cond_both (list_any (recovers set c) before && is_none r.squashed) (record r { squashed = Some c }) r
      (λ s. state_after set (cond (s.fetched.right && is_some s.dispatched) (Some s) (find (λ (r : Row). r.fetched.right && is_some r.dispatched) before)) ≡ settled set (r ∷ rows))
      (λ _. turn (r.fetched.right && is_some r.dispatched) (record r { squashed = Some c }) refl (settled_squash rows))
      (λ _. turn (r.fetched.right && is_some r.dispatched) r refl (settled_squash rows))
    where
      turn : (d : Bool) (s : Row) → (execution set s).after ≡ (execution set r).after → settled set (sweep (squash_row set c) rows) ≡ settled set rows
          → state_after set (cond d (Some s) (find (λ (r : Row). r.fetched.right && is_some r.dispatched) (sweep (squash_row set c) rows)))
          ≡ state_after set (cond d (Some r) (find (λ (r : Row). r.fetched.right && is_some r.dispatched) rows))
      turn true s e ih = e
      turn false s e ih = ih

  -- ---- histories

  abbrev store : Row → Option Reference
  store r = cond (stores set r && is_at c r.committed) (Some (Store (address (execution set r).memory) c)) None

  abbrev load : Row → Option Reference
  load r = cond (is_at c (accessed r) && not_forwarded r.access) (Some (Load (address (execution set r).memory) c)) None

  abbrev fetched : Row → Option Reference
  fetched r = cond ((r.fetched.at == c) && set.is_text r.fetched.pc) (Some (Fetch r.fetched.pc c)) None

  -- no reference comes by a squash
  pub references_squash : (rows : List Row) (base : List Reference) → references_of set c (sweep (squash_row set c) rows) base ≡ references_of set c rows base
  references_squash rows base =
      joined (map_sweep fetched (squash_row set c) (squash_same fetched (λ r. refl)) rows) (map_sweep load (squash_row set c) (squash_same load (λ r. refl)) rows)
      (map_sweep store (squash_row set c) (squash_same store (λ r. refl)) rows)
    where
      joined : {a a' b b' d d' : List Reference} → a ≡ a' → b ≡ b' → d ≡ d' → a ++ (b ++ (d ++ base)) ≡ a' ++ (b' ++ (d' ++ base))
      joined e f g = rw (e, f, g) refl

  abbrev looked : Row → Option Event
  looked r = cond (r.fetched.at == c) (Some (LookUp r.fetched.pc (set.instruction r.fetched.pc))) None

  abbrev recovered : Row → Option Event
  recovered r = cond (recovers set c r) (Some (Recover r.fetched.top)) None

  abbrev update : Row → Option Event
  update r = cond (is_at c r.committed && (execution set r).control) (Some (Update r.fetched.pc (set.instruction r.fetched.pc) (execution set r).taken (execution set r).next)) None

  no_looks : (rows : List Row) → Each (λ _. Fresh c) rows → filter_map looked rows ≡ []
  no_looks [] f = refl
  no_looks (r ∷ rows) f =
      map_none looked r rows (ap (λ b. cond b (Some (LookUp r.fetched.pc (set.instruction r.fetched.pc))) None) (not_at c (Some r.fetched.at) f.0.at)) ∙ no_looks rows f.1

  no_recoveries : (rows : List Row) → Each (λ _ o. recovers set c o ≡ false) rows → filter_map recovered rows ≡ []
  no_recoveries [] h = refl
  no_recoveries (r ∷ rows) h = map_none recovered r rows (ap (λ b. cond b (Some (Recover r.fetched.top)) None) h.0) ∙ no_recoveries rows h.1

  recovered_in : (younger older : List Row) (m : Row) → recovers set c m ≡ true → Each (λ _ o. recovers set c o ≡ false) younger → Each (λ _ o. recovers set c o ≡ false) older
      → filter_map recovered (younger ++ (m ∷ older)) ≡ Recover m.fetched.top ∷ []
  recovered_in [] older m at off none =
      map_some recovered m older (Recover m.fetched.top) (ap (λ b. cond b (Some (Recover m.fetched.top)) None) at) ∙ ap (λ l. Recover m.fetched.top ∷ l) (no_recoveries older none)
  recovered_in (y ∷ younger) older m at off none =
      map_none recovered y (younger ++ (m ∷ older)) (ap (λ b. cond b (Some (Recover y.fetched.top)) None) off.0) ∙ recovered_in younger older m at off.1 none

  -- the recovery is the newest event of the predictor
  pub events_behind : (younger older : List Row) (m : Row) (base : List Event) → recovers set c m ≡ true → Each (λ _ o. recovers set c o ≡ false) younger → Each (λ _ o. recovers set c o ≡ false) older
      → Each (λ _. Fresh c) (younger ++ (m ∷ older))
      → predictor_events_of set c (sweep (squash_row set c) (younger ++ (m ∷ older))) base ≡ Recover m.fetched.top ∷ updates_of set c (younger ++ (m ∷ older)) base
  events_behind younger older m base at off none fresh =
      joined (map_sweep looked (squash_row set c) (squash_same looked (λ r. refl)) (younger ++ (m ∷ older)) ∙ no_looks (younger ++ (m ∷ older)) fresh)
      (map_sweep recovered (squash_row set c) (squash_same recovered (λ r. refl)) (younger ++ (m ∷ older)) ∙ recovered_in younger older m at off none)
      (map_sweep update (squash_row set c) (squash_same update (λ r. refl)) (younger ++ (m ∷ older)))
    where
      joined : {a b d d' : List Event} → a ≡ [] → b ≡ Recover m.fetched.top ∷ [] → d ≡ d' → a ++ (b ++ (d ++ base)) ≡ Recover m.fetched.top ∷ (d' ++ base)
      joined e f g = rw (e, f, g) refl

  -- without one there is no event but the updates
  pub events_without : (rows : List Row) (base : List Event) → Each (λ _ o. recovers set c o ≡ false) rows → Each (λ _. Fresh c) rows → predictor_events_of set c rows base ≡ updates_of set c rows base
  events_without rows base none fresh = joined (no_looks rows fresh) (no_recoveries rows none)
    where
      joined : {a b d : List Event} → a ≡ [] → b ≡ [] → a ++ (b ++ d) ≡ d
      joined e f = rw (e, f) refl
