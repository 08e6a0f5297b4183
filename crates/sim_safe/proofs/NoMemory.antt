-- The pages that a step writes, where it takes no memory.
use Rattle.std.proofs.Common.{◌≡◌, ◌≢◌, ℕ, refl, subst, ◌∙◌, length}
use Rattle.std.specs.Prelude.{false, Result, Ok, Err, IfOk}
use Rattle.pisa_isa.specs.declared.instr.Op.{Op}
use Rattle.pisa_isa.specs.declared.instr.Op.TheVariants as op
use Rattle.pisa_isa.specs.declared.instr.Instr.{Instr}
use Rattle.pisa_isa.specs.contracts.instr.Op.{the_type}
use denote.Enum.Bare.{sameb}
use Rattle.pisa_step.specs.declared.cause.Cause.{Cause}
use Rattle.pisa_step.specs.declared.changes.Changes.{Changes}
use Rattle.pisa_step.specs.Effect.{effect_of}
use Rattle.event_trace.specs.declared.trace.Trace.{Trace}
use Rattle.paged_mem.specs.Memory.{Pages, IsReserved, Meets}
use Rattle.sim_safe.specs.State.{State, range_of}
use Rattle.sim_safe.specs.Step.{Outcome, Next, Halt, is_call, executed, step_at, step_of, StoreHeld, TakesNoMemory}
use Rattle.sim_safe.proofs.Serving.{blocks_kept}

-- an operation that isn't the same as a system call
pub not_syscall : (o : Op) → false ≡ sameb the_type o op.Syscall → o ≢ op.Syscall
not_syscall o h e = let k : false ≡ sameb the_type op.Syscall op.Syscall = subst (λ (x : Op). false ≡ sameb the_type x op.Syscall) e h in cc

pub no_call : (o : Op) → o ≢ op.Syscall → is_call o ≡ false
no_call op.Syscall h = absurd (h refl)
no_call _ h = refl

executed_held : (trace : Trace) (pages : Pages) (s : State) (i : Instr) (e : Result Changes Cause) → TakesNoMemory trace pages (executed s i e) → IfOk e (StoreHeld pages)
executed_held trace pages s i (Ok e) takes = takes.store
executed_held trace pages s i (Err why) takes = tt

-- a step that takes no memory has the pages of its store reserved
pub step_held : (trace : Trace) (pages : Pages) (s : State) (i : Instr) → i.op ≢ op.Syscall → step_of trace s ≡ step_at trace s i → TakesNoMemory trace pages (step_of trace s)
    → IfOk (effect_of s.reads i s.pc (range_of s.text)) (StoreHeld pages)
step_held trace pages s i other at takes =
    let e : Result Changes Cause = effect_of s.reads i s.pc (range_of s.text) in
    let is : step_at trace s i ≡ executed s i e = rw (no_call i.op other) refl in
    executed_held trace pages s i e (subst (TakesNoMemory trace pages) (at ∙ is) takes)

-- a step that takes no memory takes none where more pages are reserved
pub takes_kept : (trace : Trace) (was now : Pages) (o : Outcome) → ((n : ℕ) → IsReserved was n → IsReserved now n) → TakesNoMemory trace was o → TakesNoMemory trace now o
takes_kept trace was now (Next r s) kept takes = record {
  store = λ w e n (m : Meets w.addr (length w.bytes.items) n). kept n (takes.store w e n m);
  blocks = λ c e. blocks_kept was now c.out_blocks kept (takes.blocks c e);
}
takes_kept trace was now (Halt why) kept takes = tt
