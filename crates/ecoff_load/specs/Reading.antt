-- What the steps of reading an object give.
use Rattle.std.specs.Prelude.{◌≡◌, ◌+◌, ◌≤◌, ℕ, Bool, true, List, [], Option, Some, None, Result, Ok, Err, if◌then◌else◌}
use Rattle.std.specs.List.{filter_map, find}
use Rattle.ecoff_load.specs.Words.{word_in}
use Rattle.ecoff_load.specs.Sections.{sections, part_kind, brings_bytes, is_text}
use Rattle.ecoff_load.specs.Object.{section_bytes}
use Rattle.ecoff_load.specs.Checks.{is_big, refusal}
use Rattle.ecoff_load.specs.declared.image.Kind.{Kind}
use Rattle.ecoff_load.specs.declared.image.Part.{Part}
use Rattle.ecoff_load.specs.declared.image.Image.{Image}
use Rattle.ecoff_load.specs.declared.section.Section.{Section}
use Rattle.ecoff_load.specs.declared.fault.Refusal.{Refusal}
use Rattle.ecoff_load.specs.declared.fault.ObjectFault.{ObjectFault}
use Rattle.ecoff_load.specs.declared.fault.ObjectFault.TheVariants as faults

-- an answer after checks: the refusal of the first one that fails, or a value where none does
abbrev pub Judges : {X : Type 0} → Result X Refusal → Option Refusal → (X → Type 0) → Type 0
Judges (Ok x) found IsValue = (found ≡ None) × IsValue x
Judges (Err refusal) found IsValue = found ≡ Some refusal

abbrev pub Tells : {X : Type 0} → Result X Refusal → Option Refusal → Type 0
Tells result found = Judges result found (λ _. Unit {0})

-- the first of two options that is there
abbrev pub first_of : {X : Type 0} → Option X → Option X → Option X
first_of None second = second
first_of (Some x) second = Some x

-- the bytes of a section that brings some are in the file
abbrev pub KindInFile : ℕ → Section → Option Kind → Type 0
KindInFile size section None = Unit {0}
KindInFile size section (Some kind) = brings_bytes kind ≡ true → section.pointer + section.size ≤ size

abbrev pub InFile : ℕ → Section → Type 0
InFile size section = KindInFile size section (part_kind section.flags)

-- the part that a section is
abbrev pub part_of_kind : List ℕ → Section → Option Kind → Option Part
part_of_kind bytes section None = None
part_of_kind bytes section (Some kind) = Some (record {
  kind = kind;
  addr = section.addr;
  size = section.size;
  bytes = if brings_bytes kind then section_bytes bytes section else [];
})

abbrev pub part_of : List ℕ → Section → Option Part
part_of bytes section = part_of_kind bytes section (part_kind section.flags)

-- the image of an object with this text section
unfoldable pub image_with : Bool → List ℕ → Section → Image
image_with big bytes text = record {
  entry = word_in big bytes 36;
  text = record { start = text.addr; big = big; bytes = section_bytes bytes text };
  parts = filter_map (part_of bytes) (sections big bytes);
}

-- what reading gives by these steps
abbrev pub ReadsBySteps : List ℕ → Result Image ObjectFault → Type 0
ReadsBySteps bytes (Ok image) = (refusal bytes ≡ None)
    × (text : Section) × (find is_text (sections (is_big bytes) bytes) ≡ Some text) × (image ≡ image_with (is_big bytes) bytes text)
ReadsBySteps bytes (Err (faults.Bad at reason)) = refusal bytes ≡ Some (record { at = at; why = reason })
ReadsBySteps bytes (Err faults.OutOfMemory) = refusal bytes ≡ None
