-- What holds of a recorded call of a trace, so that it can be done.
use Rattle.event_trace.specs.declared.trace.Record.{Record}
use Rattle.event_trace.specs.Grammar.{AreRegisters, AreBlocks}
use Rattle.paged_mem.specs.Memory.{Pages}
use Rattle.sim_safe.specs.Step.{Outcome, Next, Halt, AreBlocksReserved}

-- its registers and blocks are those that a trace can bring
pub record FitsCall (r : Record) : Type 0 where
  pub ins : AreRegisters r.ins
  pub in_blocks : AreBlocks r.in_blocks
  pub outs : AreRegisters r.outs
  pub out_blocks : AreBlocks r.out_blocks

-- where a call is done, the pages that it writes are reserved
abbrev pub HeldFor : Pages → Record → Outcome → Type 0
HeldFor pages r (Next did after) = AreBlocksReserved pages r.out_blocks
HeldFor pages r (Halt why) = Unit {0}
