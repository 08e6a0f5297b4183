-- The sections of an object: what their headers say, and what their flags name.
use Rattle.std.specs.Prelude.{◌+◌, ℕ, zero, suc, Bool, true, false, List, [], ◌∷◌, Option, Some, None, is_some, nat_eq, if◌then◌else◌}
use Rattle.ecoff_load.specs.Words.{half_in, word_in}
use Rattle.ecoff_load.specs.declared.image.Kind.{Kind}
use Rattle.ecoff_load.specs.declared.image.Kind.TheVariants.{Data, Rdata, Sdata, Bss, Sbss}
use Rattle.ecoff_load.specs.declared.section.Section.{Section}

-- the section whose header begins at a place of the file
abbrev pub section_at : Bool → List ℕ → ℕ → Section
section_at big bytes at = record {
  at = at;
  addr = word_in big bytes (at + 12);
  size = word_in big bytes (at + 16);
  pointer = word_in big bytes (at + 20);
  flags = word_in big bytes (at + 36);
}

-- so many sections, whose headers of 40 bytes each begin at a place
abbrev pub sections_from : Bool → List ℕ → ℕ → ℕ → List Section
sections_from big bytes zero at = []
sections_from big bytes (suc n) at = section_at big bytes at ∷ sections_from big bytes n (at + 40)

-- all sections of a file, in the order of their headers
unfoldable pub sections : Bool → List ℕ → List Section
sections big bytes = sections_from big bytes (half_in big bytes 2) 76

-- the flags of a part of each kind
abbrev pub kind_flags : Kind → ℕ
kind_flags Data = 0x40
kind_flags Bss = 0x80
kind_flags Rdata = 0x100
kind_flags Sdata = 0x200
kind_flags Sbss = 0x400

-- the kind of part that flags name
abbrev pub part_kind : ℕ → Option Kind
part_kind flags =
    if nat_eq flags 0x40 then Some Data else
    if nat_eq flags 0x80 then Some Bss else
    if nat_eq flags 0x100 then Some Rdata else
    if nat_eq flags 0x200 then Some Sdata else
    if nat_eq flags 0x400 then Some Sbss else None

-- whether the object brings the bytes of a part
abbrev pub brings_bytes : Kind → Bool
brings_bytes Data = true
brings_bytes Rdata = true
brings_bytes Sdata = true
brings_bytes Bss = false
brings_bytes Sbss = false

-- whether a section is text
abbrev pub is_text : Section → Bool
is_text section = nat_eq section.flags 0x20

-- whether it is a part of one of the five kinds
abbrev pub is_part : Section → Bool
is_part section = is_some (part_kind section.flags)
