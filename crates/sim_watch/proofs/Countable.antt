-- The counts of a history are at most its length.
use Rattle.std.specs.Prelude.{◌≤◌, ◌<◌, ◌^◌, ℕ, List, [], ◌∷◌, length, Bool, true, false, if◌then◌else◌}
use Rattle.std.proofs.Common.{arith}
use Rattle.pisa_isa.specs.declared.classes.AccessKind.{AccessKind}
use Rattle.pisa_isa.specs.declared.classes.AccessKind.TheVariants as access
use Rattle.pisa_isa.specs.declared.classes.ControlKind.{ControlKind}
use Rattle.pisa_isa.specs.declared.classes.ControlKind.TheVariants as control
use Rattle.pisa_isa.specs.Classes.{access_of, control_of}
use Rattle.sim_safe.specs.Record.{Item}
use Rattle.sim_safe.specs.Step.{is_call}
use Rattle.sim_safe.specs.Statistics.{load_count, store_count, branch_count, statistics_back, IsCountable}

load_most : (k : AccessKind) → load_count k ≤ 1
load_most access.Load = omega arith
load_most access.Store = omega arith
load_most access.Nothing = omega arith

store_most : (k : AccessKind) → store_count k ≤ 1
store_most access.Load = omega arith
store_most access.Store = omega arith
store_most access.Nothing = omega arith

branch_most : (k : ControlKind) → branch_count k ≤ 1
branch_most control.Nothing = omega arith
branch_most control.Cond = omega arith
branch_most control.Jump = omega arith
branch_most control.Call = omega arith
branch_most control.Return = omega arith

call_most : (b : Bool) → (if b then 1 else 0) ≤ 1
call_most true = omega arith
call_most false = omega arith

insn_back : (h : List Item) → (statistics_back h).insn ≤ length h
insn_back [] = omega arith
insn_back (i ∷ h) = let k : (statistics_back h).insn ≤ length h = insn_back h in omega arith

loads_back : (h : List Item) → (statistics_back h).loads ≤ length h
loads_back [] = omega arith
loads_back (i ∷ h) = omega (arith, loads_back h, load_most (access_of i.did.instr.op))

stores_back : (h : List Item) → (statistics_back h).stores ≤ length h
stores_back [] = omega arith
stores_back (i ∷ h) = omega (arith, stores_back h, store_most (access_of i.did.instr.op))

branches_back : (h : List Item) → (statistics_back h).branches ≤ length h
branches_back [] = omega arith
branches_back (i ∷ h) = omega (arith, branches_back h, branch_most (control_of i.did.instr))

calls_back : (h : List Item) → (statistics_back h).calls ≤ length h
calls_back [] = omega arith
calls_back (i ∷ h) = omega (arith, calls_back h, call_most (is_call i.did.instr.op))

below : (x n m : ℕ) → x ≤ n → n < m → x < m
below x n m h k = omega arith

pub countable_back : (h : List Item) → length h < 2 ^ 62 → IsCountable (statistics_back h)
countable_back h l = record {
  insn = below (statistics_back h).insn (length h) (2 ^ 62) (insn_back h) l;
  loads = below (statistics_back h).loads (length h) (2 ^ 62) (loads_back h) l;
  stores = below (statistics_back h).stores (length h) (2 ^ 62) (stores_back h) l;
  branches = below (statistics_back h).branches (length h) (2 ^ 62) (branches_back h) l;
  calls = below (statistics_back h).calls (length h) (2 ^ 62) (calls_back h) l;
}
