-- The units that turns take, in the pools and in the table.
use Rattle.std.proofs.Common.{◌≡◌, ℕ, ◌+◌, ◌≤◌, Bool, true, false, cond, List, [], ◌∷◌, Option, Some, None, refl, sym, ap, ◌∙◌, arith}
use Rattle.std.specs.Prelude.{◌&&◌, ◌||◌, ◌==◌, nat_lt, count_by, option_map}
use Rattle.std.proofs.lemmas.Bool.{and_right, le-leb, lt-ltb}
use Rattle.pisa_isa.specs.declared.classes.UnitClass.{UnitClass}
use Rattle.pisa_isa.specs.declared.classes.UnitClass.TheVariants as class
use Rattle.mem_hier.specs.Replay.{Reference}
use Rattle.mem_hier.specs.Stands as hierarchy
use Rattle.fu_pool.specs.declared.pools.Pool.TheVariants as pool
use Rattle.fu_pool.specs.Takes.{Units, units_of, units_in, busy, same_pool}
use Rattle.ooo_table.specs.Row.{Row, MemoryAccess, is_at, accessed, sweep}
use Rattle.ooo_table.specs.Execution.{MemoryUse, NoMemory, LoadFrom, StoreTo, Pool, Alus, Multipliers, Ports, is_of, is_load, is_store, unit_hold, pool_size}
use Rattle.ooo_table.specs.Table.{Setting}
use Rattle.ooo_table.specs.Path.{execution, loads, stores}
use Rattle.ooo_table.specs.References.{load_references}
use Rattle.ooo_table.specs.Issue.{issue_row, access_of, holds, takes, has_unit, has_unit_for, issues_at, spans}
use Rattle.ooo_table.specs.Later.{Each}
use Rattle.ooo_table.specs.CycleLaws.{Fresh}
use Rattle.ooo_table.specs.Bound.{Rises}
use Rattle.ooo_table.specs.Machine.{Given}
use Rattle.ooo_table.proofs.Units.{not_at, not_at_access, takes_none}
use Rattle.core_parts.specs.Stands.{pool_of}
use Rattle.core_parts.proofs.Lists.{same_number, count_cons}
use Rattle.core_issue.specs.Turns.{pool_for, has_free, has_unit as has_one, TakesUnit}
use Rattle.core_issue.proofs.Sweep.{Slow, turn_cases, unissued, unread, is_loaded}

abbrev pub one : Bool → ℕ
one b = cond {A = ℕ} b 1 0

pub load_no_store : (m : MemoryUse) → is_load m ≡ true → is_store m ≡ false
load_no_store NoMemory h = refl
load_no_store (LoadFrom x) h = refl
load_no_store (StoreTo x) h = absurd cc

module _ (set : Setting) (slow : Slow set) (c : ℕ) (base : List Reference) (rising : Rises c base) (start : List Row) where
  abbrev turn_of : List Row → Row → Row
  turn_of = issue_row set c base start

  unheld : (x n : ℕ) (m : Option ℕ) → m ≡ None → spans x n m ≡ false
  unheld x n None e = refl
  unheld x n (Some y) e = absurd cc

  now_spans : (x n : ℕ) → c ≤ x → spans x n (Some c) ≡ nat_lt x (c + n)
  now_spans x n le = ap (λ b. b && nat_lt x (c + n)) (le-leb c x le)

  more_of : (a b d f : Bool) → b ≡ f → d ≡ false → one (a && b) ≡ one (a && d) + one (a && f)
  more_of true b d f e g = omega (arith, ap one e, ap one g)
  more_of false b d f e g = omega arith

  -- the issue of a main operation
  pub issue_holds : (q : Pool) (x : ℕ) (r : Row) → c ≤ x → r.issued ≡ None
      → one (holds set q x (record r { issued = Some c })) ≡ one (holds set q x r) + one (is_of q (execution set r).unit && nat_lt x (c + unit_hold (execution set r).unit))
  issue_holds Alus x r le e =
      more_of (is_of Alus (execution set r).unit) (spans x (unit_hold (execution set r).unit) (Some c)) (spans x (unit_hold (execution set r).unit) r.issued) (nat_lt x (c + unit_hold (execution set r).unit)) (now_spans x (unit_hold (execution set r).unit) le) (unheld x (unit_hold (execution set r).unit) r.issued e)
  issue_holds Multipliers x r le e =
      more_of (is_of Multipliers (execution set r).unit) (spans x (unit_hold (execution set r).unit) (Some c)) (spans x (unit_hold (execution set r).unit) r.issued) (nat_lt x (c + unit_hold (execution set r).unit)) (now_spans x (unit_hold (execution set r).unit) le) (unheld x (unit_hold (execution set r).unit) r.issued e)
  issue_holds Ports x r le e = no_port (execution set r).unit
    where
      no_port : (u : UnitClass) → one (holds set Ports x (record r { issued = Some c })) ≡ one (holds set Ports x r) + one (is_of Ports u && nat_lt x (c + unit_hold u))
      no_port class.Free = omega arith
      no_port class.Alu = omega arith
      no_port class.Multiply = omega arith
      no_port class.Divide = omega arith

  -- the access of a load
  pub access_holds : (q : Pool) (x : ℕ) (r : Row) (a : MemoryAccess) → a.at ≡ c → c ≤ x → r.access ≡ None → loads set r ≡ true
      → one (holds set q x (record r { access = Some a })) ≡ one (holds set q x r) + one (same_pool pool.Port (pool_of q) && nat_lt x (c + 1))
  access_holds Alus x r a at le e l = omega arith
  access_holds Multipliers x r a at le e l = omega arith
  access_holds Ports x r a at le e l =
      held_of (loads set r) (spans x 1 (Some a.at)) (spans x 1 (accessed r)) (stores set r) (is_at x r.committed) (nat_lt x (c + 1)) l (load_no_store (execution set r).memory l)
      (ap (λ k. spans x 1 (Some k)) at ∙ now_spans x 1 le) (unheld x 1 (accessed r) (ap (option_map (λ (y : MemoryAccess). y.at)) e))
    where
      held_of : (l b d st k f : Bool) → l ≡ true → st ≡ false → b ≡ f → d ≡ false → one ((l && b) || (st && k)) ≡ one ((l && d) || (st && k)) + one (true && f)
      held_of l b d st k f e g h i = rw (e, g, h, i) (by_value f)
        where
          by_value : (f : Bool) → one ((true && f) || (false && k)) ≡ one ((true && false) || (false && k)) + one (true && f)
          by_value true = omega arith
          by_value false = omega arith

  none_taken : (q : Pool) (r : Row) → Fresh c r → takes set q c r ≡ false
  none_taken q r f = takes_none set q c r f.issued f.access

  hold_some : (q : Pool) (u : UnitClass) → is_of q u ≡ true → nat_lt c (c + unit_hold u) ≡ true
  hold_some Alus class.Alu h = lt-ltb c (c + 1) (omega arith)
  hold_some Multipliers class.Multiply h = lt-ltb c (c + 1) (omega arith)
  hold_some Multipliers class.Divide h = lt-ltb c (c + 19) (omega arith)
  hold_some Alus class.Free h = absurd cc
  hold_some Alus class.Multiply h = absurd cc
  hold_some Alus class.Divide h = absurd cc
  hold_some Multipliers class.Free h = absurd cc
  hold_some Multipliers class.Alu h = absurd cc
  hold_some Ports class.Free h = absurd cc
  hold_some Ports class.Alu h = absurd cc
  hold_some Ports class.Multiply h = absurd cc
  hold_some Ports class.Divide h = absurd cc

  held_taken : (q : Pool) (u : UnitClass) → one (is_of q u && nat_lt c (c + unit_hold u)) ≡ one (is_of q u && (c == c))
  held_taken q u = by_of (is_of q u) refl
    where
      by_of : (b : Bool) → is_of q u ≡ b → one (b && nat_lt c (c + unit_hold u)) ≡ one (b && (c == c))
      by_of true e = ap one (hold_some q u e ∙ sym (same_number c))
      by_of false e = refl

  -- a row holds at c what it held and what it took
  taken_turn : (q : Pool) (before : List Row) (r : Row) → Fresh c r → one (holds set q c (turn_of before r)) ≡ one (holds set q c r) + one (takes set q c (turn_of before r))
  taken_turn q before r f =
      turn_cases set slow c base rising start (λ x. one (holds set q c x) ≡ one (holds set q c r) + one (takes set q c x)) before r
      (λ e. issue_holds q c r (omega arith) (unissued set slow c base rising start before r e) ∙ ap (λ n. one (holds set q c r) + n) (issued_taken q))
      (λ _ e. access_holds q c r (access_of set c base before r) refl (omega arith) (unread set slow c base rising start before r e) (is_loaded set slow c base rising start before r e) ∙ ap (λ n. one (holds set q c r) + n) (access_taken q (access_of set c base before r) refl (is_loaded set slow c base rising start before r e)))
      (λ _ _. omega (arith, ap one (none_taken q r f)))
    where
      issued_taken : (q : Pool) → one (is_of q (execution set r).unit && nat_lt c (c + unit_hold (execution set r).unit)) ≡ one (takes set q c (record r { issued = Some c }))
      issued_taken Alus = held_taken Alus (execution set r).unit
      issued_taken Multipliers = held_taken Multipliers (execution set r).unit
      issued_taken Ports = held_taken Ports (execution set r).unit ∙ (none (execution set r).unit ∙ sym (ap one (and_right (loads set r) (is_at c (accessed r)) (not_at_access c r.access f.access))))
        where
          none : (u : UnitClass) → one (is_of Ports u && (c == c)) ≡ 0
          none class.Free = refl
          none class.Alu = refl
          none class.Multiply = refl
          none class.Divide = refl

      access_taken : (q : Pool) (a : MemoryAccess) → a.at ≡ c → loads set r ≡ true → one (same_pool pool.Port (pool_of q) && nat_lt c (c + 1)) ≡ one (takes set q c (record r { access = Some a }))
      access_taken Alus a at l = sym (ap one (and_right (is_of Alus (execution set r).unit) (is_at c r.issued) (not_at c r.issued f.issued)))
      access_taken Multipliers a at l = sym (ap one (and_right (is_of Multipliers (execution set r).unit) (is_at c r.issued) (not_at c r.issued f.issued)))
      access_taken Ports a at l = ap one (lt-ltb c (c + 1) (omega arith)) ∙ sym (ap one (ap (λ b. b && (a.at == c)) l ∙ (ap (λ k. k == c) at ∙ same_number c)))

  taken : (q : Pool) (rows : List Row) → Each (λ _. Fresh c) rows → count_by (holds set q c) (sweep turn_of rows) ≡ count_by (holds set q c) rows + count_by (takes set q c) (sweep turn_of rows)
  taken q [] f = refl
  taken q (r ∷ rows) f =
      omega (arith, taken_turn q (sweep turn_of rows) r f.0, taken q rows f.1, count_cons (holds set q c) (turn_of (sweep turn_of rows) r) (sweep turn_of rows), count_cons (holds set q c) r rows, count_cons (takes set q c) (turn_of (sweep turn_of rows) r) (sweep turn_of rows))

  -- What the pools and the hierarchy are after the turns of these rows, from what they were at first.
  pub record Mid (k : Given) (first : Units) (v : Units) (hier : hierarchy.Held) (n : ℕ) (older before : List Row) : Type 0 where
    pub count : n ≡ count_by (issues_at set c) before
    pub held : (q : Pool) (x : ℕ) → c ≤ x → busy x (units_of v (pool_of q)) + count_by (holds set q x) older ≡ busy x (units_of first (pool_of q)) + count_by (holds set q x) before
    pub size : (q : Pool) → units_in v (pool_of q) ≡ pool_size set.config q
    pub hierarchy : hierarchy.StandsFor hier k.hier (load_references set c before base)

  -- a unit is left in the pools exactly where it is in the table
  pub free_same : (k : Given) (first v : Units) (hier : hierarchy.Held) (n : ℕ) (rows : List Row) → ((q : Pool) (x : ℕ) → c ≤ x → busy x (units_of first (pool_of q)) ≡ count_by (holds set q x) start)
      → Mid k first v hier n rows (sweep turn_of rows) → Each (λ _. Fresh c) rows → (q : Pool) → has_unit set c start (sweep turn_of rows) q ≡ has_free c v (pool_of q)
  free_same k first v hier n rows begins mid f q =
      let e : count_by (holds set q c) start + count_by (takes set q c) (sweep turn_of rows) ≡ busy c (units_of v (pool_of q)) =
      omega (arith, mid.held q c (omega arith), taken q rows f, begins q c (omega arith)) in
      ap (λ m. nat_lt m (pool_size set.config q)) e ∙ ap (λ m. nat_lt (busy c (units_of v (pool_of q))) m) (sym (mid.size q))

  pub unit_same : (v : Units) (before : List Row) → ((q : Pool) → has_unit set c start before q ≡ has_free c v (pool_of q)) → (u : UnitClass) → has_unit_for set c start before u ≡ has_one c v (pool_for u)
  unit_same v before h class.Free = refl
  unit_same v before h class.Alu = h Alus
  unit_same v before h class.Multiply = h Multipliers
  unit_same v before h class.Divide = h Multipliers

-- the units that an operation takes
pub taken_units : (c : ℕ) (u : UnitClass) (old new : Units) → TakesUnit (pool_for u) c (unit_hold u) old new → (q : Pool) (x : ℕ) → c ≤ x
    → busy x (units_of new (pool_of q)) ≡ busy x (units_of old (pool_of q)) + one (is_of q u && nat_lt x (c + unit_hold u))
taken_units c class.Free old new h Alus x le = omega (arith, ap (λ v. busy x (units_of v pool.Alu)) h)
taken_units c class.Free old new h Multipliers x le = omega (arith, ap (λ v. busy x (units_of v pool.Mult)) h)
taken_units c class.Free old new h Ports x le = omega (arith, ap (λ v. busy x (units_of v pool.Port)) h)
taken_units c class.Alu old new h Alus x le = h.more pool.Alu x le
taken_units c class.Alu old new h Multipliers x le = h.more pool.Mult x le
taken_units c class.Alu old new h Ports x le = h.more pool.Port x le
taken_units c class.Multiply old new h Alus x le = h.more pool.Alu x le
taken_units c class.Multiply old new h Multipliers x le = h.more pool.Mult x le
taken_units c class.Multiply old new h Ports x le = h.more pool.Port x le
taken_units c class.Divide old new h Alus x le = h.more pool.Alu x le
taken_units c class.Divide old new h Multipliers x le = h.more pool.Mult x le
taken_units c class.Divide old new h Ports x le = h.more pool.Port x le
