-- The checks of an object in their order, each with the place and the reason that it is refused with.
use Rattle.std.specs.Prelude.{◌≡◌, ◌≢◌, ◌<◌, ◌+◌, ◌*◌, ◌%◌, ℕ, Bool, true, false, ◌||◌, ◌&&◌, not, List, [], ◌∷◌, ◌++◌, length, Option, Some, None, Result, Ok, Err, nat_eq, nat_lt, nat_le, if◌then◌else◌}
use Rattle.std.specs.List.{find, flat_map}
use Rattle.ecoff_load.specs.Words.{half_in}
use Rattle.ecoff_load.specs.Sections.{sections, part_kind, brings_bytes, is_text}
use Rattle.ecoff_load.specs.Object.{magic, IsObject}
use Rattle.ecoff_load.specs.declared.image.Kind.{Kind}
use Rattle.ecoff_load.specs.declared.image.Image.{Image}
use Rattle.ecoff_load.specs.declared.section.Section.{Section}
use Rattle.ecoff_load.specs.declared.fault.ObjectWhy.{ObjectWhy}
use Rattle.ecoff_load.specs.declared.fault.ObjectWhy.TheVariants as why
use Rattle.ecoff_load.specs.declared.fault.Refusal.{Refusal}
use Rattle.ecoff_load.specs.declared.fault.ObjectFault.{ObjectFault}
use Rattle.ecoff_load.specs.declared.fault.ObjectFault.TheVariants as faults

-- a test, and where and why bytes that fail it are refused
pub record Check : Type 0 where
  pub holds : Bool
  pub at : ℕ
  pub why : ObjectWhy

abbrev pub check : Bool → ℕ → ObjectWhy → Check
check holds at reason = record { holds = holds; at = at; why = reason }

-- the refusal of the first check of a list that fails, None where each one holds
abbrev pub first_failing : List Check → Option Refusal
first_failing [] = None
first_failing (c ∷ cs) = if c.holds then first_failing cs else Some (record { at = c.at; why = c.why })

-- the byte order that the first two bytes name: 62 01 little, 01 60 big
abbrev pub is_big : List ℕ → Bool
is_big bytes = nat_eq (half_in true bytes 0) (magic true)

abbrev pub is_little : List ℕ → Bool
is_little bytes = nat_eq (half_in false bytes 0) (magic false)

-- the file header and the length of all headers
unfoldable pub header_checks : List ℕ → List Check
header_checks bytes =
    let size = length bytes in
    let big = is_big bytes in
    let count = half_in big bytes 2 in
    check (nat_le 20 size) size why.Short
    ∷ check (is_little bytes || big) 0 why.Magic
    ∷ check (nat_le 1 count && nat_le count 16) 2 why.Sections
    ∷ check (nat_eq (half_in big bytes 16) 56) 16 why.OptHeader
    ∷ check (nat_le (76 + 40 * count) size) size why.Short
    ∷ []

-- a section ends where programs have memory, and its bytes end in the file
abbrev pub range_check : Section → Check
range_check section = check (nat_le (section.addr + section.size) 0x7ff00000) (section.at + 12) why.Range

abbrev pub file_check : ℕ → Section → Check
file_check size section = check (nat_le (section.pointer + section.size) size) size why.Short

-- a text section, behind another one or not
abbrev pub text_checks : ℕ → Bool → Section → List Check
text_checks size second section =
    check (not second) (section.at + 36) why.TextTwice
    ∷ check (nat_eq (section.addr % 8) 0) (section.at + 12) why.TextAlign
    ∷ check (nat_le 8 section.size && nat_le section.size 4194304) (section.at + 16) why.TextSize
    ∷ range_check section
    ∷ file_check size section
    ∷ []

-- a section of another kind: where it starts as zeros, no byte of it is in the file
abbrev pub part_checks : ℕ → Section → Option Kind → List Check
part_checks size section None = []
part_checks size section (Some kind) = range_check section ∷ (if brings_bytes kind then file_check size section ∷ [] else [])

abbrev pub section_checks : ℕ → Bool → Section → List Check
section_checks size second section = if is_text section then text_checks size second section else part_checks size section (part_kind section.flags)

-- the sections in turn
abbrev pub sections_checks : ℕ → Bool → List Section → List Check
sections_checks size seen [] = []
sections_checks size seen (s ∷ ss) = section_checks size seen s ++ sections_checks size (seen || is_text s) ss

-- there is a text section
abbrev pub text_check : Option Section → Check
text_check None = check false 2 why.NoText
text_check (Some text) = check true 2 why.NoText

-- two sections have an address in common
abbrev pub meets : Section → Section → Bool
meets a b = nat_lt a.addr (b.addr + b.size) && nat_lt b.addr (a.addr + a.size)

-- a section whose bytes would lie on the text's; one of size 0 has none
abbrev pub lies_on : Section → Section → Bool
lies_on text section = nat_lt 0 section.size && meets text section

abbrev pub overlap_check : Section → Section → Option Kind → List Check
overlap_check text section None = []
overlap_check text section (Some kind) = if brings_bytes kind then check (not (lies_on text section)) (section.at + 12) why.Overlap ∷ [] else []

abbrev pub overlap_checks : Option Section → List Section → List Check
overlap_checks None all = []
overlap_checks (Some text) all = flat_map (λ section. overlap_check text section (part_kind section.flags)) all

-- all checks of a file
unfoldable pub checks : List ℕ → List Check
checks bytes =
    let all = sections (is_big bytes) bytes in
    let text = find is_text all in
    header_checks bytes ++ (sections_checks (length bytes) false all ++ text_check text ∷ overlap_checks text all)

-- where and why bytes are refused, None where no check fails
abbrev pub refusal : List ℕ → Option Refusal
refusal bytes = first_failing (checks bytes)

-- what reading answers: an image of which the bytes are an object, or the first check that fails; memory is wanted only where no check fails
abbrev pub Reads : List ℕ → Result Image ObjectFault → Type 0
Reads bytes (Ok image) = IsObject bytes image
Reads bytes (Err (faults.Bad at reason)) = refusal bytes ≡ Some (record { at = at; why = reason })
Reads bytes (Err faults.OutOfMemory) = refusal bytes ≡ None

-- a read that answers this image, unless memory runs out
abbrev pub Gives : Result Image ObjectFault → Image → Type 0
Gives (Ok given) image = given ≡ image
Gives (Err (faults.Bad at reason)) image = ⊥
Gives (Err faults.OutOfMemory) image = Unit {0}

-- where a reason stands in a file of a size: Short at its end, every other one at a byte of it
pub record IsPlaced (size at : ℕ) (reason : ObjectWhy) : Type 0 where
  pub short : reason ≡ why.Short → at ≡ size
  pub field : reason ≢ why.Short → at < size

abbrev pub Placed : ℕ → ObjectFault → Type 0
Placed size (faults.Bad at reason) = IsPlaced size at reason
Placed size faults.OutOfMemory = Unit {0}
