-- Images that objects describe, and the objects of an image.
use Rattle.std.specs.Prelude.{◌≡◌, ◌⊎◌, ◌+◌, ◌*◌, ◌%◌, ◌^◌, ◌<◌, ◌≤◌, ℕ, Bool, true, false, List, [], ◌∷◌, length, slice_range, if◌then◌else◌}
use Rattle.std.specs.List.{AllByRecursion, AllZip, filter}
use Rattle.ecoff_load.specs.Words.{half_in, word_in}
use Rattle.ecoff_load.specs.Sections.{sections, kind_flags, brings_bytes, is_text, is_part}
use Rattle.ecoff_load.specs.declared.image.Part.{Part}
use Rattle.ecoff_load.specs.declared.image.Text.{Text}
use Rattle.ecoff_load.specs.declared.image.Image.{Image}
use Rattle.ecoff_load.specs.declared.section.Section.{Section}

-- ---- images

-- a text that an object can bring
pub record IsText (text : Text) : Type 0 where
  pub alignment : text.start % 8 ≡ 0
  pub least_size : 8 ≤ length text.bytes
  pub greatest_size : length text.bytes ≤ 4194304
  pub range : text.start + length text.bytes ≤ 0x7ff00000

-- the bytes that an object brings of a part are all of it, or none where it starts as zeros
abbrev pub brought : Part → ℕ
brought part = if brings_bytes part.kind then part.size else 0

-- the bytes of a part lie before the text or behind it, where there are any
abbrev pub IsApart : Text → Part → Type 0
IsApart text part = (length part.bytes ≡ 0) ⊎ ((part.addr + part.size ≤ text.start) ⊎ (text.start + length text.bytes ≤ part.addr))

-- a part that an object can bring beside a text
pub record IsPart (text : Text) (part : Part) : Type 0 where
  pub range : part.addr + part.size ≤ 0x7ff00000
  pub bytes : length part.bytes ≡ brought part
  pub apart : IsApart text part

-- an image that reading an object can give
pub record IsImage (image : Image) : Type 0 where
  pub entry : image.entry < 2 ^ 32
  pub text : IsText image.text
  pub count : length image.parts ≤ 15
  pub parts : AllByRecursion (IsPart image.text) image.parts

-- ---- objects

-- the number that an object of each byte order begins with
abbrev pub magic : Bool → ℕ
magic false = 0x162
magic true = 0x160

-- the headers are whole and have the form of an object in the byte order
pub record HasHeaders (big : Bool) (bytes : List ℕ) : Type 0 where
  pub file_header : 20 ≤ length bytes
  pub magic_number : half_in big bytes 0 ≡ magic big
  pub some_sections : 1 ≤ half_in big bytes 2
  pub most_sections : half_in big bytes 2 ≤ 16
  pub optional_size : half_in big bytes 16 ≡ 56
  pub headers : 76 + 40 * half_in big bytes 2 ≤ length bytes

-- the bytes that a section has in the file
abbrev pub section_bytes : List ℕ → Section → List ℕ
section_bytes bytes section = slice_range bytes section.pointer (section.pointer + section.size)

-- a section is this text, whose bytes are all in the file
pub record IsTextOf (bytes : List ℕ) (section : Section) (text : Text) : Type 0 where
  pub start : text.start ≡ section.addr
  pub in_file : section.pointer + section.size ≤ length bytes
  pub content : text.bytes ≡ section_bytes bytes section

-- a part has the bytes of its section, which are all in the file, or none where it starts as zeros
abbrev pub HasContent : Bool → List ℕ → Section → Part → Type 0
HasContent true bytes section part = (section.pointer + section.size ≤ length bytes) × (part.bytes ≡ section_bytes bytes section)
HasContent false bytes section part = part.bytes ≡ []

-- a section is this part
pub record IsPartOf (bytes : List ℕ) (section : Section) (part : Part) : Type 0 where
  pub kind : section.flags ≡ kind_flags part.kind
  pub addr : part.addr ≡ section.addr
  pub size : part.size ≡ section.size
  pub content : HasContent (brings_bytes part.kind) bytes section part

-- the bytes are an object of this image: one section is its text, those of the other kinds that
-- are named are its parts in their order, and all else is passed over
pub record IsObject (bytes : List ℕ) (image : Image) : Type 0 where
  pub headers : HasHeaders image.text.big bytes
  pub entry : image.entry ≡ word_in image.text.big bytes 36
  pub text : (section : Section) × (filter is_text (sections image.text.big bytes) ≡ section ∷ []) × IsTextOf bytes section image.text
  pub parts : AllZip (IsPartOf bytes) (filter is_part (sections image.text.big bytes)) image.parts
  pub limits : IsImage image
