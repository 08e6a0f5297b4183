-- What is read from bytes brings bytes.
use Rattle.std.proofs.Common.{◌≡◌, ◌+◌, ℕ, Bool, true, false, List, [], ◌∷◌, ◌++◌, length, drop, ◌-◌, Ok, sym, subst}
use Rattle.std.specs.Int.{w32, to_le_bytes}
use Rattle.std.specs.List.{AllByRecursion, AllZip, flat_map}
use Rattle.ecoff_load.specs.declared.image.Image.{Image}
use Rattle.ecoff_load.specs.declared.image.Part.{Part}
use Rattle.ecoff_load.specs.declared.section.Section.{Section}
use Rattle.ecoff_load.specs.Object.{IsObject, IsPartOf, HasContent, section_bytes}
use Rattle.ecoff_load.specs.Sections.{brings_bytes}
use Rattle.event_trace.specs.declared.trace.Block.{Block}
use Rattle.event_trace.specs.declared.trace.Record.{Record}
use Rattle.event_trace.specs.declared.trace.Trace.{Trace}
use Rattle.event_trace.specs.Grammar.{register_bytes, block_bytes, head_bytes, record_bytes, start_bytes}
use Rattle.event_trace.specs.Reading.{checked}
use Rattle.event_trace.proofs.WholeTrace.{is_found}
use Rattle.restarted_run.specs.Within.{AreBytes, WritesBytes, BringsBytes}
use Rattle.restarted_run.proofs.Bytes.{no_bytes, front_bytes, back_bytes, taken_bytes, left_bytes}

-- ---- traces

blocks_are : (bs : List Block) → AreBytes (flat_map block_bytes bs) → AllByRecursion (λ (b : Block). AreBytes b.bytes) bs
blocks_are [] h = tt
blocks_are (b ∷ bs) h =
    let first = front_bytes (block_bytes b) (flat_map block_bytes bs) h in (
      back_bytes (to_le_bytes w32 b.addr ++ to_le_bytes w32 (length b.bytes)) b.bytes first,
      blocks_are bs (back_bytes (block_bytes b) (flat_map block_bytes bs) h),
    )

record_is : (r : Record) → AreBytes (record_bytes r) → AllByRecursion (λ (b : Block). AreBytes b.bytes) r.out_blocks
record_is r h =
    blocks_are r.out_blocks (back_bytes (head_bytes r ++ flat_map register_bytes r.ins ++ flat_map block_bytes r.in_blocks ++ flat_map register_bytes r.outs) (flat_map block_bytes r.out_blocks) h)

records_are : (rs : List Record) → AreBytes (flat_map record_bytes rs) → AllByRecursion (λ (r : Record). AllByRecursion (λ (b : Block). AreBytes b.bytes) r.out_blocks) rs
records_are [] h = tt
records_are (r ∷ rs) h = (record_is r (front_bytes (record_bytes r) (flat_map record_bytes rs) h), records_are rs (back_bytes (record_bytes r) (flat_map record_bytes rs) h))

pub read_trace : (bytes : List ℕ) (trace : Trace) → AreBytes bytes → checked bytes ≡ Ok trace → WritesBytes trace
read_trace bytes trace h e = records_are trace.records (back_bytes (start_bytes trace) (flat_map record_bytes trace.records) (subst AreBytes (is_found bytes (Ok trace) h e).1 h))

-- ---- images

section_are : (bytes : List ℕ) (section : Section) → AreBytes bytes → AreBytes (section_bytes bytes section)
section_are bytes section h = taken_bytes ((section.pointer + section.size) - section.pointer) (drop section.pointer bytes) (left_bytes section.pointer bytes h)

content_is : (brings : Bool) (bytes : List ℕ) (section : Section) (part : Part) → HasContent brings bytes section part → AreBytes bytes → AreBytes part.bytes
content_is true bytes section part is h = subst AreBytes (sym is.1) (section_are bytes section h)
content_is false bytes section part is h = subst AreBytes (sym is) no_bytes

parts_are : (bytes : List ℕ) (sections : List Section) (parts : List Part) → AllZip (IsPartOf bytes) sections parts → AreBytes bytes → AllByRecursion (λ (p : Part). AreBytes p.bytes) parts
parts_are bytes [] [] is h = tt
parts_are bytes [] (p ∷ ps) is h = absurd is
parts_are bytes (s ∷ ss) [] is h = absurd is
parts_are bytes (s ∷ ss) (p ∷ ps) is h = (content_is (brings_bytes p.kind) bytes s p is.0.content h, parts_are bytes ss ps is.1 h)

pub read_image : (bytes : List ℕ) (image : Image) → AreBytes bytes → IsObject bytes image → BringsBytes image
read_image bytes image h is = record {
  text = subst AreBytes (sym is.text.2.content) (section_are bytes is.text.0 h);
  parts = parts_are bytes _ image.parts is.parts h;
}
