-- System calls: what a recorded one must agree with, and what it gives back.
use Rattle.std.specs.Prelude.{◌+◌, ℕ, List, [], ◌∷◌, ◌++◌, length, map, Option, Some, None, nat_eq, if◌then◌else◌}
use Rattle.std.specs.List.{flat_map}
use Rattle.pisa_step.specs.declared.cause.Cause.{Cause}
use Rattle.pisa_step.specs.declared.cause.Cause.TheVariants as cause
use Rattle.pisa_step.specs.declared.cause.Field.{Field}
use Rattle.pisa_step.specs.declared.cause.Field.TheVariants as field
use Rattle.pisa_step.specs.declared.changes.TextRange.{TextRange}
use Rattle.pisa_step.specs.Reader.{Reader, bytes_with}
use Rattle.pisa_step.specs.Memory.{meets}
use Rattle.event_trace.specs.declared.trace.CallKind.{CallKind}
use Rattle.event_trace.specs.declared.trace.CallKind.TheVariants as kind
use Rattle.event_trace.specs.declared.trace.Block.{Block}
use Rattle.event_trace.specs.declared.trace.Record.{Record}
use Rattle.sim_safe.specs.State.{State}

-- a field of a recorded call, with its value in the record and in the machine
pub record Comparison : Type 0 where
  pub field : Field
  pub kept : ℕ
  pub found : ℕ

abbrev pub register_compared : Reader → ℕ × ℕ → Comparison
register_compared s item = record { field = field.Reg item.0; kept = item.1; found = s.regs item.0 }

-- the bytes from an address on
abbrev pub bytes_compared : Reader → ℕ → List ℕ → List Comparison
bytes_compared s addr [] = []
bytes_compared s addr (b ∷ bs) = record { field = field.Byte addr; kept = b; found = s.bytes addr } ∷ bytes_compared s (addr + 1) bs

abbrev pub block_compared : Reader → Block → List Comparison
block_compared s block = bytes_compared s block.addr block.bytes

-- a record's count, pc, input registers and input bytes, in this order
abbrev pub comparisons : State → Record → List Comparison
comparisons s r =
    record { field = field.Count; kept = r.icnt; found = s.icnt } ∷
    record { field = field.Pc; kept = r.pc; found = s.pc } ∷
    map (register_compared s.reads) r.ins ++ flat_map (block_compared s.reads) r.in_blocks

-- the first of them that differs
abbrev pub mismatch : List Comparison → Option Cause
mismatch [] = None
mismatch (c ∷ cs) = if nat_eq c.kept c.found then mismatch cs else Some (cause.TraceMismatch c.field c.kept c.found)

-- the first of these blocks of which a byte lies in text
abbrev pub block_in_text : TextRange → List Block → Option Cause
block_in_text text [] = None
block_in_text text (b ∷ bs) = if meets text b.addr (length b.bytes) then Some (cause.TextWrite b.addr) else block_in_text text bs

-- memory after these blocks were written
abbrev pub blocks_written : (ℕ → ℕ) → List Block → ℕ → ℕ
blocks_written bytes [] = bytes
blocks_written bytes (b ∷ bs) = blocks_written (bytes_with bytes b.addr b.bytes) bs

-- what is read after these blocks were written
abbrev pub with_blocks : Reader → List Block → Reader
with_blocks s blocks = record s { bytes = blocks_written s.bytes blocks }

-- the exit code that a call of a kind leaves
abbrev pub exit_of : CallKind → ℕ → Option ℕ
exit_of kind.Plain code = None
exit_of kind.Emit code = None
exit_of kind.Exit code = Some code
