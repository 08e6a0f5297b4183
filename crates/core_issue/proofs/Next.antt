-- Whose turn is next.
use Rattle.std.proofs.Common.{◌≡◌, ℕ, ◌<◌, ◌≤◌, Some, None, cond, Bool, true, false, List, [], ◌∷◌, refl, sym, ap, ◌∙◌, subst, arith, eq-eqb}
use Rattle.std.specs.Prelude.{map, filter, min, Option, ◌==◌, ◌&&◌, ◌||◌, not, is_none, nat_le}
use Rattle.std.specs.List.{list_any}
use Rattle.std.proofs.lemmas.Bool.{eqb-true, leb-true, le-leb}
use Rattle.pisa_isa.specs.declared.classes.AccessKind.{AccessKind}
use Rattle.pisa_isa.specs.declared.classes.AccessKind.TheVariants as access
use Rattle.pisa_isa.specs.Classes.{access_of}
use Rattle.lsq_core.specs.Queue.{Entry, holds_load}
use Rattle.ruu_core.specs.declared.station.Station.{Station}
use Rattle.ruu_core.specs.Window.{Row, Window, is_above, is_row, is_live, is_by, is_ready, may_access, second_done, is_load, is_load_kind, is_store_kind, is_store, next, passes, rises_to}
use Rattle.ruu_core.specs.Laws.{AnswersTheLeast}
use Rattle.ruu_core.proofs.LawProofs.{answers_the_least}
use Rattle.core_parts.specs.Fits.{Tag, is_memory, unit_tags, queue_tags}
use Rattle.core_issue.specs.declared.turns.Turn.{Turn}
use Rattle.core_issue.specs.Turns.{sooner, is_that, turn_for, next_turn}

pub apart : {b : Bool} → b ≡ true → b ≡ false → ⊥
apart e f = cc

false_of : (b : Bool) → (b ≡ true → ⊥) → b ≡ false
false_of true h = absurd (h refl)
false_of false h = refl

-- the row that has the next turn, among the rows
pub record IsNext (c : ℕ) (after : Option ℕ) (rows : List Row) (t : Turn) : Type 0 where
  pub above : is_above after t.row ≡ true
  pub main : t.main ≡ passes (is_ready c) t.row rows
  pub access : t.access ≡ passes (may_access c) t.row rows
  pub some : (t.main || t.access) ≡ true
  pub ready_before : (k : ℕ) → is_above after k ≡ true → k < t.row → passes (is_ready c) k rows ≡ false
  pub access_before : (k : ℕ) → is_above after k ≡ true → k < t.row → passes (may_access c) k rows ≡ false

Bound : Option ℕ → ℕ → Type 0
Bound None row = Unit {0}
Bound (Some m) row = row ≤ m

module _ (test : List Row → Row → Bool) (after : Option ℕ) (w : Window) (law : AnswersTheLeast test after w) where
  that : (o : Option ℕ) (row : ℕ) → next test after w.rows ≡ o → is_above after row ≡ true → Bound o row → is_that row o ≡ passes test row w.rows
  unfolding Bound
  that None row e above le = sym (law.none row e above)
  that (Some m) row e above le = by_test (m == row) refl
    where
      by_test : (b : Bool) → (m == row) ≡ b → b ≡ passes test row w.rows
      by_test true is = let same : m ≡ row = eqb-true m row is in sym (ap (λ k. passes test k w.rows) (sym same) ∙ (law.found m e).1)
      by_test false is =
          sym (false_of (passes test row w.rows)
          (λ p. let more : m ≤ row = law.older_first m row e above p in apart (eq-eqb m row (omega (arith, le))) is))

  earlier : (o : Option ℕ) (row k : ℕ) → next test after w.rows ≡ o → Bound o row → is_above after k ≡ true → k < row → passes test k w.rows ≡ false
  unfolding Bound
  earlier None row k e le above less = law.none k e above
  earlier (Some m) row k e le above less =
      false_of (passes test k w.rows) (λ p. let more : m ≤ k = law.older_first m k e above p in omega (arith, le, less))

same_is : (n : ℕ) → (n == n) ≡ true
same_is n = eq-eqb n n refl

module _ (c : ℕ) (after : Option ℕ) (w : Window) (rises : rises_to w.last w.rows ≡ true) where
  ready_law : AnswersTheLeast (is_ready c) after w
  ready_law = answers_the_least (is_ready c) after w rises

  access_law : AnswersTheLeast (may_access c) after w
  access_law = answers_the_least (may_access c) after w rises

  next_of : (o p : Option ℕ) (row : ℕ) → next (is_ready c) after w.rows ≡ o → next (may_access c) after w.rows ≡ p → is_above after row ≡ true → Bound o row → Bound p row
      → (is_that row o || is_that row p) ≡ true → IsNext c after w.rows (record { row = row; main = is_that row o; access = is_that row p })
  next_of o p row e f above le le' some =
      record {
        above = above;
        main = that (is_ready c) after w ready_law o row e above le;
        access = that (may_access c) after w access_law p row f above le';
        some = some;
        ready_before = λ k a less. earlier (is_ready c) after w ready_law o row k e le a less;
        access_before = λ k a less. earlier (may_access c) after w access_law p row k f le' a less;
      }

  pub found : (t : Turn) → next_turn c after w.rows ≡ Some t → IsNext c after w.rows t
  unfolding Bound
  found t e = by_found (next (is_ready c) after w.rows) (next (may_access c) after w.rows) refl refl e
    where
      or_true : (b : Bool) → (b || true) ≡ true
      or_true true = refl
      or_true false = refl

      moved : (u : Turn) → Some u ≡ Some t → IsNext c after w.rows u → IsNext c after w.rows t
      moved u e h = let same : u ≡ t = cc in subst_next same h
        where
          subst_next : u ≡ t → IsNext c after w.rows u → IsNext c after w.rows t
          subst_next s h = subst (IsNext c after w.rows) s h

      by_order : (a b : ℕ) (d : Bool) → nat_le a b ≡ d → next (is_ready c) after w.rows ≡ Some a → next (may_access c) after w.rows ≡ Some b
          → turn_for (Some a) (Some b) (Some (min a b)) ≡ Some t → IsNext c after w.rows t
      by_order a b true le f g e =
          let l : a ≤ b = leb-true a b le in
          let same : min a b ≡ a = omega arith in
          moved (record { row = min a b; main = a == min a b; access = b == min a b }) e
          (next_of (Some a) (Some b) (min a b) f g (ap (is_above after) same ∙ (ready_law.found a f).0) (omega arith) (omega arith) (ap (λ n. (a == n) || (b == n)) same ∙ ap (λ x. x || (b == a)) (same_is a)))
      by_order a b false le f g e =
          let same : min a b ≡ b = least a b le in
          moved (record { row = min a b; main = a == min a b; access = b == min a b }) e
          (next_of (Some a) (Some b) (min a b) f g (ap (is_above after) same ∙ (access_law.found b g).0) (omega arith) (omega arith) (ap (λ n. (a == n) || (b == n)) same ∙ (ap (λ x. (a == b) || x) (same_is b) ∙ or_true (a == b))))
        where
          least : (a b : ℕ) → nat_le a b ≡ false → min a b ≡ b
          least a b e = let more : (a ≤ b → ⊥) = λ l. apart (le-leb a b l) e in omega arith

      by_found : (o p : Option ℕ) → next (is_ready c) after w.rows ≡ o → next (may_access c) after w.rows ≡ p → turn_for o p (sooner o p) ≡ Some t → IsNext c after w.rows t
      by_found None None f g e = absurd cc
      by_found (Some a) None f g e =
          moved (record { row = a; main = a == a; access = false }) e
          (next_of (Some a) None a f g (ready_law.found a f).0 (omega arith) tt (ap (λ x. x || false) (same_is a)))
      by_found None (Some b) f g e =
          moved (record { row = b; main = false; access = b == b }) e
          (next_of None (Some b) b f g (access_law.found b g).0 tt (omega arith) (same_is b))
      by_found (Some a) (Some b) f g e = by_order a b (nat_le a b) refl f g e

  pub over : next_turn c after w.rows ≡ None → (k : ℕ) → is_above after k ≡ true → (passes (is_ready c) k w.rows ≡ false) × (passes (may_access c) k w.rows ≡ false)
  over e k above = by_found (next (is_ready c) after w.rows) (next (may_access c) after w.rows) refl refl e
    where
      by_found : (o p : Option ℕ) → next (is_ready c) after w.rows ≡ o → next (may_access c) after w.rows ≡ p → turn_for o p (sooner o p) ≡ None
          → (passes (is_ready c) k w.rows ≡ false) × (passes (may_access c) k w.rows ≡ false)
      by_found None None f g e = (ready_law.none k f above, access_law.none k g above)
      by_found (Some a) None f g e = absurd cc
      by_found None (Some b) f g e = absurd cc
      by_found (Some a) (Some b) f g e = absurd cc

-- ---- what passes is live, and a load that passes is held

pub passes_live : (test : List Row → Row → Bool) (k : ℕ) (rows : List Row) → passes test k rows ≡ true → is_live k rows ≡ true
passes_live test k [] e = absurd cc
passes_live test k (r ∷ older) e = by_row (is_row k r) refl e (passes_live test k older)
  where
    by_row : (b : Bool) → is_row k r ≡ b → cond b (test older r) (passes test k older) ≡ true → (passes test k older ≡ true → is_live k older ≡ true) → (b || is_live k older) ≡ true
    by_row true is e ih = refl
    by_row false is e ih = ih e

any_map : {X Y : Type 0} (f : X → Y) (p : Y → Bool) (xs : List X) → list_any p (map f xs) ≡ list_any (λ x. p (f x)) xs
any_map f p [] = refl
any_map f p (x ∷ xs) = ap (λ b. p (f x) || b) (any_map f p xs)

first_of : (a b d f : Bool) → (a && b && d && f) ≡ true → a ≡ true
first_of true b d f h = refl
first_of false b d f h = absurd cc

is_load_of : ℕ → Tag → Bool
is_load_of k t = (t.row == k) && not t.store

kinds : (inert : Bool) (k : AccessKind) → (not inert && is_load_kind k) ≡ true → (not inert && is_store_kind k) ≡ false
kinds true k e = refl
kinds false access.Load e = refl
kinds false access.Store e = absurd cc
kinds false access.Nothing e = refl

load_no_store : (s : Station) → is_load s ≡ true → is_store s ≡ false
load_no_store s e = kinds s.inert (access_of s.instr.op) e

tagged : (c k : ℕ) (rows : List Row) → passes (may_access c) k rows ≡ true → list_any (is_load_of k) (unit_tags rows) ≡ true
unfolding is_load_of
tagged c k [] e = absurd cc
tagged c k (r ∷ older) e = by_row (is_row k r) refl e (tagged c k older)
  where
    more : (b : Bool) → list_any (is_load_of k) (unit_tags older) ≡ true → list_any (is_load_of k) (map (λ (u : Row). record { row = u.station.row; store = is_store u.station }) (cond b (r ∷ filter is_memory older) (filter is_memory older))) ≡ true
    more true ih = ap (λ x. ((r.station.row == k) && not (is_store r.station)) || x) ih ∙ or_true ((r.station.row == k) && not (is_store r.station))
      where
        or_true : (b : Bool) → (b || true) ≡ true
        or_true true = refl
        or_true false = refl
    more false ih = ih

    here : (b : Bool) → b ≡ true → is_row k r ≡ true → is_store r.station ≡ false
        → list_any (is_load_of k) (map (λ (u : Row). record { row = u.station.row; store = is_store u.station }) (cond b (r ∷ filter is_memory older) (filter is_memory older))) ≡ true
    here true e is st = ap (λ x. (x && not (is_store r.station)) || list_any (is_load_of k) (unit_tags older)) is ∙ ap (λ x. not x || list_any (is_load_of k) (unit_tags older)) st
    here false e is st = absurd cc

    by_row : (b : Bool) → is_row k r ≡ b → cond b (may_access c older r) (passes (may_access c) k older) ≡ true
        → (passes (may_access c) k older ≡ true → list_any (is_load_of k) (unit_tags older) ≡ true)
        → list_any (is_load_of k) (unit_tags (r ∷ older)) ≡ true
    by_row true is e ih =
        let load : is_load r.station ≡ true = first_of (is_load r.station) (is_by c r.written) (is_none r.accessed) (second_done (is_by c) older r) e in
        here (is_memory r) (ap (λ b. b || is_store r.station) load) is (load_no_store r.station load)
    by_row false is e ih = more (is_memory r) (ih e)

pub held : (c k : ℕ) (rows : List Row) (entries : List Entry) → queue_tags entries ≡ unit_tags rows → passes (may_access c) k rows ≡ true → holds_load k entries ≡ true
unfolding is_load_of
held c k rows entries same e =
    sym (any_map (λ (x : Entry). record { row = x.row; store = x.store }) (is_load_of k) entries) ∙ (ap (list_any (is_load_of k)) same ∙ tagged c k rows e)
