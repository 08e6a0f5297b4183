-- The commit text: a line for each instruction that is done; and the output of a run.
use Rattle.std.specs.Prelude.{◌≡◌, ◌++◌, ◌-◌, ℕ, List, [], ◌∷◌, length, take, drop, Option, Some, None, codes, decimal}
use Rattle.std.specs.List.{flat_map}
use Rattle.std.proofs.Common.{sym, ◌∙◌, append_assoc, append-nil}
use Rattle.ss_base.specs.Text.{hex8, hex_bytes}
use Rattle.pisa_isa.specs.Texts.{name_of}
use Rattle.pisa_step.specs.declared.changes.MemWrite.{MemWrite}
use Rattle.event_trace.specs.declared.trace.CallKind.{CallKind}
use Rattle.event_trace.specs.declared.trace.CallKind.TheVariants as kind
use Rattle.event_trace.specs.declared.trace.Block.{Block}
use Rattle.event_trace.specs.declared.trace.Record.{Record}
use Rattle.sim_safe.specs.declared.record.CallNote.{CallNote}
use Rattle.sim_safe.specs.declared.record.CommitRecord.{CommitRecord}
use Rattle.sim_safe.specs.Record.{Item}

-- ---- output

-- the blocks that a call of a kind emits: its input blocks
abbrev pub blocks_by : CallKind → Option Record → List Block
blocks_by kind.Plain by = []
blocks_by kind.Exit by = []
blocks_by kind.Emit None = []
blocks_by kind.Emit (Some r) = r.in_blocks

abbrev pub blocks_from : Option CallNote → Option Record → List Block
blocks_from None by = []
blocks_from (Some note) by = blocks_by note.kind by

-- the blocks that an instruction emits
abbrev pub blocks_of : Item → List Block
blocks_of i = blocks_from i.did.call i.by

abbrev pub block_bytes : Block → List ℕ
block_bytes block = block.bytes

-- the bytes of them
abbrev pub output_of : Item → List ℕ
output_of i = flat_map block_bytes (blocks_of i)

-- the bytes that a recorded call emits
abbrev pub record_output : Record → List ℕ
record_output r = flat_map block_bytes (blocks_by r.kind (Some r))

-- the bytes that recorded calls emit, in order
abbrev pub emitted_by : List Record → List ℕ
emitted_by records = flat_map record_output records

-- the records from a number on and before another one
abbrev pub records_between : ℕ → ℕ → List Record → List Record
records_between from to records = take (to - from) (drop from records)

-- ---- lines

-- the written registers
abbrev pub regs_text : List (ℕ × ℕ) → List ℕ
regs_text [] = []
regs_text (w ∷ ws) = codes " r" ++ decimal w.0 ++ codes "=" ++ hex8 w.1 ++ regs_text ws

abbrev pub hi_text : Option ℕ → List ℕ
hi_text None = []
hi_text (Some value) = codes " hi=" ++ hex8 value

abbrev pub lo_text : Option ℕ → List ℕ
lo_text None = []
lo_text (Some value) = codes " lo=" ++ hex8 value

-- bytes that were written from an address on
abbrev pub write_text : ℕ → List ℕ → List ℕ
write_text addr bytes = codes " [" ++ hex8 addr ++ codes "]=" ++ hex_bytes bytes

abbrev pub store_text : Option MemWrite → List ℕ
store_text None = []
store_text (Some w) = write_text w.addr w.bytes.items

abbrev pub block_text : Block → List ℕ
block_text block = write_text block.addr block.bytes

-- the blocks that a recorded call wrote
abbrev pub blocks_text : Option Record → List ℕ
blocks_text None = []
blocks_text (Some r) = flat_map block_text r.out_blocks

abbrev pub kind_text : CallKind → ℕ → ℕ → List ℕ
kind_text kind.Plain code count = []
kind_text kind.Emit code count = codes " emit=" ++ decimal count
kind_text kind.Exit code count = codes " exit=" ++ decimal code

-- what is noted of a call that emits this many bytes
abbrev pub call_text : Option CallNote → ℕ → List ℕ
call_text None count = []
call_text (Some note) count = codes " call=" ++ decimal note.used ++ kind_text note.kind note.code count

-- the number, the address and the name of an instruction
abbrev pub head_of : CommitRecord → List ℕ
head_of r = decimal r.number ++ codes " " ++ hex8 r.pc ++ codes " " ++ name_of r.instr.op

-- what an instruction wrote
abbrev pub writes_text : Item → List ℕ
writes_text i = regs_text i.did.regs.items ++ hi_text i.did.hi ++ lo_text i.did.lo ++ store_text i.did.mem ++ blocks_text i.by

-- the line of an instruction
unfoldable pub line_of : Item → List ℕ
line_of i = head_of i.did ++ writes_text i ++ call_text i.did.call (length (output_of i)) ++ codes "\n"

-- ---- runs

-- the commit text of a run
abbrev pub text_of : List Item → List ℕ
text_of [] = []
text_of (i ∷ is) = line_of i ++ text_of is

-- the output of a run
abbrev pub outputs_of : List Item → List ℕ
outputs_of [] = []
outputs_of (i ∷ is) = output_of i ++ outputs_of is

-- a history has its newest item first; this is its text
abbrev pub text_back : List Item → List ℕ
text_back [] = []
text_back (i ∷ h) = text_back h ++ line_of i

abbrev pub outputs_back : List Item → List ℕ
outputs_back [] = []
outputs_back (i ∷ h) = outputs_back h ++ output_of i

-- a history and then these items, the oldest of them first
abbrev pub onto : List Item → List Item → List Item
onto [] h = h
onto (i ∷ is) h = onto is (i ∷ h)

pub text_onto : (is h : List Item) → text_back (onto is h) ≡ text_back h ++ text_of is
text_onto [] h = sym (append-nil (text_back h))
text_onto (i ∷ is) h = text_onto is (i ∷ h) ∙ append_assoc (text_back h) (line_of i) (text_of is)

pub outputs_onto : (is h : List Item) → outputs_back (onto is h) ≡ outputs_back h ++ outputs_of is
outputs_onto [] h = sym (append-nil (outputs_back h))
outputs_onto (i ∷ is) h = outputs_onto is (i ∷ h) ∙ append_assoc (outputs_back h) (output_of i) (outputs_of is)
