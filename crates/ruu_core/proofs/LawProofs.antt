-- The laws of the rows in flight.
use Rattle.std.proofs.Common.{◌≡◌, ℕ, ◌+◌, ◌<◌, ◌≤◌, Some, None, cond, Bool, true, false, List, [], ◌∷◌, ◌++◌, refl, sym, ap, ◌∙◌, arith, eq-eqb, inl, inr, ◌⊎◌}
use Rattle.std.specs.Prelude.{map, filter, find, max, Option, ◌&&◌, ◌||◌, not, is_none, nat_le, nat_lt, if◌then◌else◌}
use Rattle.std.proofs.lemmas.Bool.{eqb-true, ltb-true, lt-ltb, leb-true, le-leb}
use Rattle.pisa_isa.specs.declared.instr.Instr.{Instr}
use Rattle.pisa_isa.specs.declared.classes.AccessKind.{AccessKind}
use Rattle.pisa_isa.specs.declared.classes.AccessKind.TheVariants as access
use Rattle.pisa_isa.specs.declared.table.Kind.{Kind}
use Rattle.pisa_isa.specs.declared.table.Kind.TheVariants as kind
use Rattle.pisa_isa.specs.declared.places.Place.{Place}
use Rattle.pisa_isa.specs.Table.{row_of as code_of}
use Rattle.pisa_isa.specs.Fields.{uses}
use Rattle.pisa_isa.specs.Classes.{access_by, access_of}
use Rattle.pisa_isa.specs.Places.{members, destination, writes_of}
use Rattle.ruu_core.specs.declared.station.Station.{Station}
use Rattle.ruu_core.specs.Window.{Row, Window, is_at, is_by, is_before, is_above, is_load_kind, is_store_kind, is_load, is_store, writes, writes_place, producer, finished, has_produced, main_done, second_done, is_ready, completes, or_else, least, next, is_row, row_of, passes, first, later, done_cycle, issuing, retired, falls_below, rises_to}
use Rattle.ruu_core.specs.Laws.{AnswersTheLeast, IssuesOnce, LeavesOlder, CompletesThere, StaysProduced, StandsAt}
use Rattle.ruu_core.proofs.Rows.{and_left, and_right, all_kept, or_this, or_last}

apart : {b : Bool} → b ≡ true → b ≡ false → ⊥
apart e f = cc

-- ---- the least row

passes_below : (test : List Row → Row → Bool) (n m : ℕ) (rs : List Row) → falls_below m rs ≡ true → passes test n rs ≡ true → n < m
passes_below test n m [] h e = absurd cc
passes_below test n m (r ∷ older) h e = by_row (is_row n r) refl e (λ k. passes_below test n r.station.row older (and_right _ _ h) k)
  where
    here : r.station.row < m
    here = ltb-true r.station.row m (and_left (nat_lt r.station.row m) (falls_below r.station.row older) h)

    by_row : (b : Bool) → is_row n r ≡ b → cond b (test older r) (passes test n older) ≡ true → (passes test n older ≡ true → n < r.station.row) → n < m
    by_row true is k ih = let same : r.station.row ≡ n = eqb-true r.station.row n is in let less = here in omega arith
    by_row false is k ih = let less : n < r.station.row = ih k in let more = here in omega arith

either_false : (a b d : Bool) → b ≡ false → d ≡ false → cond a b d ≡ false
either_false true b d e f = e
either_false false b d e f = f

none_passes : (test : List Row → Row → Bool) (k : ℕ) (rs : List Row) → least test rs ≡ None → passes test k rs ≡ false
none_passes test k [] e = refl
none_passes test k (r ∷ older) e = by_older (least test older) (test older r) refl refl e (none_passes test k older)
  where
    by_older : (o : Option ℕ) (b : Bool) → least test older ≡ o → test older r ≡ b → or_else o (cond b (Some r.station.row) None) ≡ None
        → (least test older ≡ None → passes test k older ≡ false) → cond (is_row k r) (test older r) (passes test k older) ≡ false
    by_older (Some m) b f g e ih = absurd cc
    by_older None true f g e ih = absurd cc
    by_older None false f g e ih = either_false (is_row k r) (test older r) (passes test k older) g (ih f)

least_passes : (test : List Row → Row → Bool) (n m : ℕ) (rs : List Row) → falls_below m rs ≡ true → least test rs ≡ Some n → passes test n rs ≡ true
least_passes test n m [] h e = absurd cc
least_passes test n m (r ∷ older) h e = by_older (least test older) (test older r) refl refl e (least_passes test n r.station.row older (and_right _ _ h))
  where
    in_older : (b : Bool) → is_row n r ≡ b → passes test n older ≡ true → cond b (test older r) (passes test n older) ≡ true
    in_older true is k =
        let same : r.station.row ≡ n = eqb-true r.station.row n is in
        let less : n < r.station.row = passes_below test n r.station.row older (and_right (nat_lt r.station.row m) (falls_below r.station.row older) h) k in
        absurd (omega arith)
    in_older false is k = k

    this : (b : Bool) → r.station.row ≡ n → is_row n r ≡ b → test older r ≡ true → cond b (test older r) (passes test n older) ≡ true
    this true is e k = k
    this false is e k = absurd (apart (eq-eqb r.station.row n is) e)

    by_older : (o : Option ℕ) (b : Bool) → least test older ≡ o → test older r ≡ b → or_else o (cond b (Some r.station.row) None) ≡ Some n
        → (least test older ≡ Some n → passes test n older ≡ true) → cond (is_row n r) (test older r) (passes test n older) ≡ true
    by_older (Some k) b f g e ih = in_older (is_row n r) refl (ih (f ∙ e))
    by_older None true f g e ih = this (is_row n r) (cc) refl g
    by_older None false f g e ih = absurd cc

least_first : (test : List Row → Row → Bool) (n k m : ℕ) (rs : List Row) → falls_below m rs ≡ true → least test rs ≡ Some n → passes test k rs ≡ true → n ≤ k
least_first test n k m [] h e p = absurd cc
least_first test n k m (r ∷ older) h e p =
    by_older (least test older) (test older r) refl refl e (λ f q. least_first test n k r.station.row older (and_right _ _ h) f q)
  where
    falls : falls_below r.station.row older ≡ true
    falls = and_right (nat_lt r.station.row m) (falls_below r.station.row older) h

    older_first : least test older ≡ Some n → (passes test k older ≡ true → n ≤ k) → (b : Bool) → is_row k r ≡ b → cond b (test older r) (passes test k older) ≡ true → n ≤ k
    older_first f ih true is q =
        let same : r.station.row ≡ k = eqb-true r.station.row k is in
        let less : n < r.station.row = passes_below test n r.station.row older falls (least_passes test n r.station.row older falls f) in
        omega arith
    older_first f ih false is q = ih q

    alone : least test older ≡ None → r.station.row ≡ n → (b : Bool) → is_row k r ≡ b → cond b (test older r) (passes test k older) ≡ true → n ≤ k
    alone f is true e q = let same : r.station.row ≡ k = eqb-true r.station.row k e in omega arith
    alone f is false e q = absurd (apart q (none_passes test k older f))

    by_older : (o : Option ℕ) (b : Bool) → least test older ≡ o → test older r ≡ b → or_else o (cond b (Some r.station.row) None) ≡ Some n
        → (least test older ≡ Some n → passes test k older ≡ true → n ≤ k) → n ≤ k
    by_older (Some l) b f g e ih = older_first (f ∙ e) (ih (f ∙ e)) (is_row k r) refl p
    by_older None true f g e ih = alone f (cc) (is_row k r) refl p
    by_older None false f g e ih = absurd cc

-- passing, and being above a number
passes_both : (test : List Row → Row → Bool) (after : Option ℕ) (k : ℕ) (rs : List Row)
    → passes (λ older r. is_above after r.station.row && test older r) k rs ≡ (is_above after k && passes test k rs)
passes_both test after k [] = sym (and_false (is_above after k))
  where
    and_false : (a : Bool) → (a && false) ≡ false
    and_false true = refl
    and_false false = refl
passes_both test after k (r ∷ older) = by_row (is_row k r) refl (passes_both test after k older)
  where
    by_row : (b : Bool) → is_row k r ≡ b → passes (λ older r. is_above after r.station.row && test older r) k older ≡ (is_above after k && passes test k older)
        → cond b (is_above after r.station.row && test older r) (passes (λ older r. is_above after r.station.row && test older r) k older)
        ≡ (is_above after k && cond b (test older r) (passes test k older))
    by_row true is ih = ap (λ n. is_above after n && test older r) (eqb-true r.station.row k is)
    by_row false is ih = ih

both_true : (a b : Bool) → a ≡ true → b ≡ true → (a && b) ≡ true
both_true true b e f = f
both_true false b e f = e

falls : (last : Option ℕ) (rows : List Row) → rises_to last rows ≡ true → (m : ℕ) × (falls_below m rows ≡ true)
falls (Some m) rows r = (m + 1, r)
falls None [] r = (0, refl)
falls None (y ∷ rows) r = absurd cc

pub answers_the_least : (test : List Row → Row → Bool) (after : Option ℕ) (w : Window) → rises_to w.last w.rows ≡ true → AnswersTheLeast test after w
answers_the_least test after w h =
    let (m, below) = falls w.last w.rows h in
    record {
      found = λ n e. found m below n e;
      older_first = λ n k e above p. least_first (λ older r. is_above after r.station.row && test older r) n k m w.rows below e (passes_both test after k w.rows ∙ both_true (is_above after k) (passes test k w.rows) above p);
      none = λ k e above. none k e above;
    }
  where
    found : (m : ℕ) → falls_below m w.rows ≡ true → (n : ℕ) → next test after w.rows ≡ Some n → (is_above after n ≡ true) × (passes test n w.rows ≡ true)
    found m below n e =
        let p : (is_above after n && passes test n w.rows) ≡ true = sym (passes_both test after n w.rows) ∙ least_passes (λ older r. is_above after r.station.row && test older r) n m w.rows below e in
        (and_left (is_above after n) (passes test n w.rows) p, and_right (is_above after n) (passes test n w.rows) p)

    none : (k : ℕ) → next test after w.rows ≡ None → is_above after k ≡ true → passes test k w.rows ≡ false
    none k e above =
        let p : (is_above after k && passes test k w.rows) ≡ false = sym (passes_both test after k w.rows) ∙ none_passes (λ older r. is_above after r.station.row && test older r) k w.rows e in
        ap (λ a. a && passes test k w.rows) (sym above) ∙ p

-- ---- an issue is the last

issued_row : (c t : ℕ) (older : List Row) (r : Row) → r.issued ≡ Some t → is_ready c older r ≡ false
issued_row c t older r e = ap (λ o. nat_lt r.dispatched c && is_none o && main_done (is_by c) older r) e ∙ never (nat_lt r.dispatched c) (main_done (is_by c) older r)
  where
    never : (a b : Bool) → (a && false && b) ≡ false
    never true b = refl
    never false b = refl

issued_passes : (n c at done : ℕ) (rs : List Row) → passes (is_ready c) n (map (λ r. if is_row n r then issuing at done r else r) rs) ≡ false
issued_passes n c at done [] = refl
issued_passes n c at done (r ∷ older) = by_row (is_row n r) refl (issued_passes n c at done older)
  where
    by_row : (b : Bool) → is_row n r ≡ b → passes (is_ready c) n (map (λ r. if is_row n r then issuing at done r else r) older) ≡ false
        → cond (is_row n (cond b (issuing at done r) r)) (is_ready c (map (λ r. if is_row n r then issuing at done r else r) older) (cond b (issuing at done r) r))
        (passes (is_ready c) n (map (λ r. if is_row n r then issuing at done r else r) older)) ≡ false
    by_row true is ih =
        ap (λ b. cond b (is_ready c (map (λ r. if is_row n r then issuing at done r else r) older) (issuing at done r)) (passes (is_ready c) n (map (λ r. if is_row n r then issuing at done r else r) older))) is
        ∙ issued_row c at (map (λ r. if is_row n r then issuing at done r else r) older) (issuing at done r) refl
    by_row false is ih =
        ap (λ b. cond b (is_ready c (map (λ r. if is_row n r then issuing at done r else r) older) r) (passes (is_ready c) n (map (λ r. if is_row n r then issuing at done r else r) older))) is ∙ ih

pub issues_once : (n : ℕ) (w : Window) → IssuesOnce n w
issues_once n w = record { row = issued_row; issue = λ c at done. issued_passes n c at done w.rows }

-- ---- a squash

squash_row : (n m k : ℕ) (rs : List Row) → n ≤ m → falls_below k rs ≡ true → find (is_row n) (filter (λ r. nat_le r.station.row m) rs) ≡ find (is_row n) rs
squash_row n m k [] le h = refl
squash_row n m k (r ∷ older) le h = by_test (nat_le r.station.row m) refl (squash_row n m r.station.row older le (and_right _ _ h))
  where
    skip : (b : Bool) → is_row n r ≡ b → nat_le r.station.row m ≡ false → find (is_row n) older ≡ cond b (Some r) (find (is_row n) older)
    skip true is e = let same : r.station.row ≡ n = eqb-true r.station.row n is in absurd (apart (le-leb r.station.row m (omega arith)) e)
    skip false is e = refl

    by_test : (b : Bool) → nat_le r.station.row m ≡ b → find (is_row n) (filter (λ r. nat_le r.station.row m) older) ≡ find (is_row n) older
        → find (is_row n) (cond b (r ∷ filter (λ r. nat_le r.station.row m) older) (filter (λ r. nat_le r.station.row m) older)) ≡ find (is_row n) (r ∷ older)
    by_test true is ih = ap (λ o. cond (is_row n r) (Some r) o) ih
    by_test false is ih = ih ∙ skip (is_row n r) refl is

squash_passes : (test : List Row → Row → Bool) (n m k : ℕ) (rs : List Row) → n ≤ m → falls_below k rs ≡ true → passes test n (filter (λ r. nat_le r.station.row m) rs) ≡ passes test n rs
squash_passes test n m k [] le h = refl
squash_passes test n m k (r ∷ older) le h = by_test (nat_le r.station.row m) refl (squash_passes test n m r.station.row older le (and_right _ _ h))
  where
    skip : (b : Bool) → is_row n r ≡ b → nat_le r.station.row m ≡ false → passes test n older ≡ cond b (test older r) (passes test n older)
    skip true is e = let same : r.station.row ≡ n = eqb-true r.station.row n is in absurd (apart (le-leb r.station.row m (omega arith)) e)
    skip false is e = refl

    by_test : (b : Bool) → nat_le r.station.row m ≡ b → passes test n (filter (λ r. nat_le r.station.row m) older) ≡ passes test n older
        → passes test n (cond b (r ∷ filter (λ r. nat_le r.station.row m) older) (filter (λ r. nat_le r.station.row m) older)) ≡ passes test n (r ∷ older)
    by_test true is ih =
        let within : r.station.row ≤ m = leb-true r.station.row m is in
        ap (λ l. passes test n (r ∷ l)) (all_kept m r.station.row older (omega arith) (and_right (nat_lt r.station.row k) (falls_below r.station.row older) h))
    by_test false is ih = ih ∙ skip (is_row n r) refl is

pub leaves_older : (n m : ℕ) (w : Window) → rises_to w.last w.rows ≡ true → n ≤ m → LeavesOlder n m w
leaves_older n m w h le =
    let (k, below) = falls w.last w.rows h in
    record { row = squash_row n m k w.rows le below; answers = λ test. squash_passes test n m k w.rows le below }

-- ---- completions

at_mark : (c : ℕ) (o : Option ℕ) → is_at c o ≡ true → o ≡ Some c
at_mark c None e = absurd cc
at_mark c (Some t) e = ap Some (eqb-true t c e)

one_mark : (c : ℕ) (a b : Option ℕ) → (is_at c a || is_at c b) ≡ true → (a ≡ Some c) ⊎ (b ≡ Some c)
one_mark c a b e = by_test (is_at c a) refl e
  where
    by_test : (t : Bool) → is_at c a ≡ t → (t || is_at c b) ≡ true → (a ≡ Some c) ⊎ (b ≡ Some c)
    by_test true f e = inl (at_mark c a f)
    by_test false f e = inr (at_mark c b e)

by_mark : (c : ℕ) (o : Option ℕ) → o ≡ Some c → is_by c o ≡ true
by_mark c o e = ap (is_by c) e ∙ le-leb c c (omega arith)

done_plain : (c : ℕ) (older : List Row) (r : Row) (s l : Bool) → is_store r.station ≡ s → is_load r.station ≡ l → s ≡ false → l ≡ false → r.written ≡ Some c
    → cond (is_store r.station) (is_by c r.written && second_done (is_by c) older r) (is_by c (cond (is_load r.station) r.returned r.written)) ≡ true
done_plain c older r s l es el fs fl w =
    ap (λ b. cond b (is_by c r.written && second_done (is_by c) older r) (is_by c (cond (is_load r.station) r.returned r.written))) (es ∙ fs)
    ∙ (ap (λ b. is_by c (cond b r.returned r.written)) (el ∙ fl) ∙ by_mark c r.written w)

kinds : (inert : Bool) (k : AccessKind) → (not inert && is_load_kind k) ≡ true → (not inert && is_store_kind k) ≡ false
kinds true k e = refl
kinds false access.Load e = refl
kinds false access.Store e = absurd cc
kinds false access.Nothing e = refl

load_no_store : (r : Row) → is_load r.station ≡ true → is_store r.station ≡ false
load_no_store r e = kinds r.station.inert (access_of r.station.instr.op) e

pub completes_there : (c : ℕ) (older : List Row) (r : Row) → completes c older r ≡ true → CompletesThere c older r
completes_there c older r e =
    record {
      marks = one_mark c r.written r.returned e;
      plain = λ l s w. done_plain c older r (is_store r.station) (is_load r.station) refl refl s l w;
      load = λ l w.
          ap (λ b. cond b (is_by c r.written && second_done (is_by c) older r) (is_by c (cond (is_load r.station) r.returned r.written))) (load_no_store r l)
          ∙ (ap (λ b. is_by c (cond b r.returned r.written)) l ∙ by_mark c r.returned w);
      store = λ s w d.
          ap (λ b. cond b (is_by c r.written && second_done (is_by c) older r) (is_by c (cond (is_load r.station) r.returned r.written))) s
          ∙ both_true (is_by c r.written) (second_done (is_by c) older r) (by_mark c r.written w) d;
    }

-- ---- retired producers

above_later : (a b : Option ℕ) (c : ℕ) → is_none b ≡ false → is_above (later a b) c ≡ true → is_before c b ≡ true
above_later None (Some t) c e h = h
above_later (Some s) (Some t) c e h = let k : max s t < c = ltb-true (max s t) c h in lt-ltb t c (omega arith)
above_later a None c e h = absurd cc

before_by : (c : ℕ) (o : Option ℕ) → is_before c o ≡ true → is_by c o ≡ true
before_by c None e = e
before_by c (Some t) e = let k : t < c = ltb-true t c e in le-leb t c (omega arith)

with_last : (test : Option ℕ → Bool) (older : List Row) (r : Row) (p : Place) → test (finished r) ≡ true
    → has_produced test (producer (older ++ r ∷ []) p) ≡ has_produced test (producer older p)
with_last test older r p h =
    ap (has_produced test) (or_last (λ o. writes_place p o.station) older r (producer older p) refl) ∙ by_found (producer older p) (writes_place p r.station)
  where
    by_found : (found : Option Row) (b : Bool) → has_produced test (or_this found (if b then Some r else None)) ≡ has_produced test found
    by_found (Some o) b = refl
    by_found None true = h
    by_found None false = refl

pub stays_produced : (w : Window) (r : Row) (c : ℕ) → first w.rows ≡ Some r → not (is_none (finished r)) ≡ true → is_above (retired w).past c ≡ true → StaysProduced w r c
stays_produced w r c e some above =
    let done : is_before c (finished r) ≡ true = above_later w.past (finished r) c (not_true (is_none (finished r)) some) (ap (λ o. is_above (later w.past (done_cycle o)) c) (sym e) ∙ above) in
    record {
      done = done;
      by = λ older p. with_last (is_by c) older r p (before_by c (finished r) done);
      before = λ older p. with_last (is_before c) older r p done;
    }
  where
    not_true : (b : Bool) → not b ≡ true → b ≡ false
    not_true true e = absurd cc
    not_true false e = refl

-- ---- stores write nothing

no_place : (i : Instr) (k : Kind) (rd : Bool) → is_store_kind (access_by k) ≡ true → members i (destination k rd) ≡ []
no_place i kind.Store rd e = refl
no_place i kind.StorePair rd e = refl
no_place i kind.StoreZero rd e = refl
no_place i k rd e = absurd cc

pub stores_write_nothing : (s : Station) → is_store s ≡ true → writes s ≡ []
stores_write_nothing s e = by_inert s.inert e
  where
    by_inert : (b : Bool) → (not b && is_store_kind (access_of s.instr.op)) ≡ true → (if b then [] else writes_of s.instr) ≡ []
    by_inert true k = refl
    by_inert false k = no_place s.instr (code_of s.instr.op).kind (uses s.instr.op).rd k

-- ---- rows by their numbers

above_mid : (m : ℕ) (younger older : List Row) (r : Row) → falls_below m (younger ++ r ∷ older) ≡ true → r.station.row < m
above_mid m [] older r h = ltb-true r.station.row m (and_left _ _ h)
above_mid m (y ∷ ys) older r h =
    let here : y.station.row < m = ltb-true y.station.row m (and_left _ _ h) in
    let behind : r.station.row < y.station.row = above_mid y.station.row ys older r (and_right _ _ h) in
    omega arith

other_row : (k : ℕ) (r : Row) → k < r.station.row → is_row k r ≡ false
other_row k r h = by_test (is_row k r) refl
  where
    by_test : (b : Bool) → is_row k r ≡ b → b ≡ false
    by_test true e = let same : r.station.row ≡ k = eqb-true r.station.row k e in absurd (omega arith)
    by_test false e = refl

below_row : (k : ℕ) (r : Row) → r.station.row < k → is_row k r ≡ false
below_row k r h = by_test (is_row k r) refl
  where
    by_test : (b : Bool) → is_row k r ≡ b → b ≡ false
    by_test true e = let same : r.station.row ≡ k = eqb-true r.station.row k e in absurd (omega arith)
    by_test false e = refl

own_row : (r : Row) → is_row r.station.row r ≡ true
own_row r = eq-eqb r.station.row r.station.row refl

row_at : (m : ℕ) (younger older : List Row) (r : Row) → falls_below m (younger ++ r ∷ older) ≡ true → row_of r.station.row (younger ++ r ∷ older) ≡ Some r
row_at m [] older r h = ap (λ b. cond b (Some r) (row_of r.station.row older)) (own_row r)
row_at m (y ∷ ys) older r h =
    ap (λ b. cond b (Some y) (row_of r.station.row (ys ++ r ∷ older))) (other_row r.station.row y (above_mid y.station.row ys older r (and_right _ _ h)))
    ∙ row_at y.station.row ys older r (and_right _ _ h)

passes_at : (test : List Row → Row → Bool) (m : ℕ) (younger older : List Row) (r : Row) → falls_below m (younger ++ r ∷ older) ≡ true
    → passes test r.station.row (younger ++ r ∷ older) ≡ test older r
passes_at test m [] older r h = ap (λ b. cond b (test older r) (passes test r.station.row older)) (own_row r)
passes_at test m (y ∷ ys) older r h =
    ap (λ b. cond b (test (ys ++ r ∷ older) y) (passes test r.station.row (ys ++ r ∷ older))) (other_row r.station.row y (above_mid y.station.row ys older r (and_right _ _ h)))
    ∙ passes_at test y.station.row ys older r (and_right _ _ h)

older_stay : (k m : ℕ) (f : Row → Row) (rs : List Row) → m ≤ k → falls_below m rs ≡ true → map (λ x. if is_row k x then f x else x) rs ≡ rs
older_stay k m f [] le h = refl
older_stay k m f (r ∷ rs) le h =
    let here : r.station.row < m = ltb-true r.station.row m (and_left _ _ h) in
    ap (λ b. cond b (f r) r ∷ map (λ x. if is_row k x then f x else x) rs) (below_row k r (omega arith))
    ∙ ap (λ l. r ∷ l) (older_stay k r.station.row f rs (omega arith) (and_right _ _ h))

change_at : (f : Row → Row) (m : ℕ) (younger older : List Row) (r : Row) → falls_below m (younger ++ r ∷ older) ≡ true
    → map (λ x. if is_row r.station.row x then f x else x) (younger ++ r ∷ older) ≡ younger ++ f r ∷ older
change_at f m [] older r h =
    ap (λ b. cond b (f r) r ∷ map (λ x. if is_row r.station.row x then f x else x) older) (own_row r)
    ∙ ap (λ l. f r ∷ l) (older_stay r.station.row r.station.row f older (omega arith) (and_right _ _ h))
change_at f m (y ∷ ys) older r h =
    ap (λ b. cond b (f y) y ∷ map (λ x. if is_row r.station.row x then f x else x) (ys ++ r ∷ older)) (other_row r.station.row y (above_mid y.station.row ys older r (and_right _ _ h)))
    ∙ ap (λ l. y ∷ l) (change_at f y.station.row ys older r (and_right _ _ h))

pub stands_at : (younger older : List Row) (r : Row) (w : Window) → w.rows ≡ younger ++ r ∷ older → rises_to w.last w.rows ≡ true → StandsAt younger older r w
stands_at younger older r w e h =
    let (m, below) = falls w.last w.rows h in
    let below' : falls_below m (younger ++ r ∷ older) ≡ true = ap (falls_below m) (sym e) ∙ below in
    record {
      row = ap (row_of r.station.row) e ∙ row_at m younger older r below';
      answers = λ test. ap (passes test r.station.row) e ∙ passes_at test m younger older r below';
      change = λ f. ap (map (λ x. if is_row r.station.row x then f x else x)) e ∙ change_at f m younger older r below';
    }
