-- Counts that are far below their types' end.
use Rattle.std.specs.Prelude.{◌≡◌, ◌+◌, ◌-◌, ◌^◌, ◌<◌, ◌≤◌, ℕ, Bool, true, false, min, if◌then◌else◌}
use Rattle.std.proofs.Common.{refl, arith}
use Rattle.std.proofs.Math.Nat.{min-eq_left}
use Rattle.pisa_isa.specs.declared.instr.Instr.{Instr}
use Rattle.pisa_isa.specs.declared.classes.AccessKind.{AccessKind}
use Rattle.pisa_isa.specs.declared.classes.AccessKind.TheVariants as access
use Rattle.pisa_isa.specs.declared.classes.ControlKind.{ControlKind}
use Rattle.pisa_isa.specs.declared.classes.ControlKind.TheVariants as control
use Rattle.pisa_isa.specs.Classes.{access_of, control_of}
use Rattle.sim_safe.specs.declared.statistics.Statistics.{Statistics}
use Rattle.sim_safe.specs.Step.{is_call}
use Rattle.sim_safe.specs.Statistics.{load_count, store_count, branch_count, counted, at_most, IsCountable}

load_most : (a : AccessKind) → load_count a ≤ 1
load_most access.Load = omega arith
load_most access.Store = omega arith
load_most access.Nothing = omega arith

store_most : (a : AccessKind) → store_count a ≤ 1
store_most access.Load = omega arith
store_most access.Store = omega arith
store_most access.Nothing = omega arith

branch_most : (c : ControlKind) → branch_count c ≤ 1
branch_most control.Nothing = omega arith
branch_most control.Cond = omega arith
branch_most control.Jump = omega arith
branch_most control.Call = omega arith
branch_most control.Return = omega arith

call_most : (b : Bool) → (if b then 1 else 0) ≤ 1
call_most true = omega arith
call_most false = omega arith

-- what is added to a count that is far below its type's end stays below it
min_small : (count more : ℕ) → count < 2 ^ 62 → more ≤ 1 → min (count + more) (2 ^ 64 - 1) ≡ count + more
min_small count more h k = min-eq_left (omega arith)

-- one more instruction is counted exactly
pub counted_exactly : (i : Instr) (s : Statistics) → IsCountable s → at_most (counted i s) ≡ counted i s
counted_exactly i s h =
    let insn = min_small s.insn 1 h.insn (omega arith) in
    let loads = min_small s.loads (load_count (access_of i.op)) h.loads (load_most (access_of i.op)) in
    let stores = min_small s.stores (store_count (access_of i.op)) h.stores (store_most (access_of i.op)) in
    let branches = min_small s.branches (branch_count (control_of i)) h.branches (branch_most (control_of i)) in
    let calls = min_small s.calls (if is_call i.op then 1 else 0) h.calls (call_most (is_call i.op)) in
    rw (insn, loads, stores, branches, calls) refl
