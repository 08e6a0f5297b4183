-- What a turn of the dispatch stage comes to, by the parts before it.
use Rattle.std.specs.Prelude.{ℕ, Bool, not, length, All, Option, Some, None, Result, Ok, Err, is_some, nat_lt, ◌==◌, ◌<◌, ◌&&◌, ◌||◌, if◌then◌else◌}
use Rattle.std.specs.Option.{ForSome}
use Rattle.pisa_isa.specs.declared.instr.Instr.{Instr}
use Rattle.pisa_isa.specs.Classes.{access_of}
use Rattle.pisa_isa.specs.Coding.{IsWellFormed}
use Rattle.pisa_step.specs.declared.cause.Cause.{Cause}
use Rattle.pisa_step.specs.declared.changes.Changes.{Changes}
use Rattle.pisa_step.specs.declared.changes.TextRange.{TextRange}
use Rattle.pisa_step.specs.Reader.{Reader}
use Rattle.pisa_step.specs.Effect.{effect_of}
use Rattle.ecoff_load.specs.Fetch.{fetch}
use Rattle.event_trace.specs.declared.trace.Trace.{Trace}
use Rattle.sim_safe.specs.State.{state_of, reader_of, range_of}
use Rattle.sim_safe.specs.Step.{Outcome, Next, Halt, is_call, step_of}
use Rattle.sim_safe.specs.Decoded.{coded_by}
use Rattle.spec_state.specs.Overlay.{WritesInBlock, seen}
use Rattle.ruu_core.specs.Window.{is_load_kind, is_store_kind}
use Rattle.ooo_front.specs.declared.row.FetchRow.{FetchRow}
use Rattle.ooo_front.specs.Stands.{oldest, queued_before}
use Rattle.ooo_table.specs.Machine.{nop}
use Rattle.core_parts.specs.declared.parts.Parts.{Parts}
use Rattle.core_dispatch.specs.declared.verdict.WrongAct.{WrongAct}
use Rattle.core_dispatch.specs.declared.verdict.Verdict.{Verdict}
use Rattle.core_dispatch.specs.declared.verdict.Verdict.TheVariants.{Stays, Stops, Right, Wrong}

-- ---- places

-- a load or store
abbrev pub has_access : Instr → Bool
has_access i = is_load_kind (access_of i.op) || is_store_kind (access_of i.op)

abbrev pub is_empty : Parts → Bool
is_empty parts = length parts.unit.rows == 0

-- width, a place in the unit and, for a load or store, one in the queue are left after n dispatches in the cycle, and none
-- of them was of a call
abbrev pub has_place : ℕ → Bool → Parts → Bool → Bool
has_place n called parts memory =
    nat_lt n parts.config.decode && nat_lt (length parts.unit.rows) parts.unit.size
    && (not memory || nat_lt (length parts.queue.entries) parts.queue.size) && not called

-- ---- right rows

-- a right row is done by the next step of the state; one that stops does so where no row is live
abbrev pub right_verdict : ℕ → Bool → Parts → Outcome → Verdict
right_verdict n called parts (Halt why) = if is_empty parts then Stops why else Stays
right_verdict n called parts (Next did after) =
    if has_place n called parts (has_access did.instr) && (not (is_call did.instr.op) || is_empty parts) then Right else Stays

-- ---- wrong rows

abbrev pub ok : Result Changes Cause → Option Changes
ok (Ok e) = Some e
ok (Err why) = None

-- what an instruction does in a wrong row; a call does nothing
abbrev pub act_by : TextRange → Reader → ℕ → Option Instr → WrongAct
act_by text s pc None = record { instr = nop; changes = None }
act_by text s pc (Some i) = record { instr = i; changes = if is_call i.op then None else ok (effect_of s i pc text) }

-- the one at this address, on the state under the overlay
abbrev pub wrong_act : Parts → ℕ → WrongAct
wrong_act parts pc =
    act_by (range_of parts.arch.text) (seen (reader_of parts.arch) parts.overlay) pc (coded_by (fetch parts.arch.text pc))

-- a wrong row is dispatched also where it can't be done, but no call is, and none behind an exit
abbrev pub wrong_verdict : ℕ → Bool → Parts → WrongAct → Verdict
wrong_verdict n called parts act =
    if not (is_some parts.arch.ended) && not (is_call act.instr.op) && has_place n called parts (is_some act.changes && has_access act.instr)
    then Wrong act else Stays

-- ---- the oldest waiting row

abbrev pub head_of : ℕ → Parts → Option FetchRow
head_of c parts = queued_before c (oldest parts.front.rows)

abbrev pub verdict_at : Trace → ℕ → Bool → Parts → Option FetchRow → Verdict
verdict_at trace n called parts None = Stays
verdict_at trace n called parts (Some h) =
    if parts.wrong then wrong_verdict n called parts (wrong_act parts h.pc)
    else right_verdict n called parts (step_of trace (state_of parts.arch))

-- in cycle c, after n dispatches, of a call among them or of none
abbrev pub verdict_of : Trace → ℕ → ℕ → Bool → Parts → Verdict
verdict_of trace c n called parts = verdict_at trace n called parts (head_of c parts)

-- ---- what can be made

-- changes that can be made under an overlay
pub record CanBeMade (e : Changes) : Type 0 where
  pub registers : All (λ w. w.0 < 32) e.regs.items
  pub block : WritesInBlock e

-- so can those of a wrong row, whose instruction is well formed
pub record CanAct (act : WrongAct) : Type 0 where
  pub formed : IsWellFormed act.instr
  pub changes : ForSome act.changes CanBeMade

abbrev pub Admits : Verdict → Type 0
Admits (Wrong act) = CanAct act
Admits Stays = Unit {0}
Admits (Stops why) = Unit {0}
Admits Right = Unit {0}
