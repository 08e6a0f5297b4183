-- The object that an image is written as.
use Rattle.std.specs.Prelude.{◌+◌, ◌*◌, ℕ, Bool, List, [], ◌∷◌, ◌++◌, length, replicate, if◌then◌else◌}
use Rattle.std.specs.List.{flat_map}
use Rattle.ecoff_load.specs.Words.{half_bytes, word_bytes}
use Rattle.ecoff_load.specs.Sections.{kind_flags, brings_bytes}
use Rattle.ecoff_load.specs.Object.{magic}
use Rattle.ecoff_load.specs.declared.image.Kind.{Kind}
use Rattle.ecoff_load.specs.declared.image.Kind.TheVariants.{Data, Rdata, Sdata, Bss, Sbss}
use Rattle.ecoff_load.specs.declared.image.Part.{Part}
use Rattle.ecoff_load.specs.declared.image.Image.{Image}

abbrev pub zeros : ℕ → List ℕ
zeros n = replicate n 0

-- 20 bytes: the magic number, the number of sections, the size of the optional header
abbrev pub file_header : Bool → ℕ → List ℕ
file_header big count = half_bytes big (magic big) ++ half_bytes big count ++ zeros 12 ++ half_bytes big 56 ++ zeros 2

-- 56 bytes: the magic number, the size of the text, the entry, the start of the text
abbrev pub optional_header : Bool → ℕ → ℕ → ℕ → List ℕ
optional_header big size entry start =
    half_bytes big 0x107 ++ zeros 2 ++ word_bytes big size ++ zeros 8 ++ word_bytes big entry ++ word_bytes big start ++ zeros 32

-- 40 bytes: the name, the physical and the virtual address, the size, the place in the file, the flags
abbrev pub section_header : Bool → List ℕ → ℕ → ℕ → ℕ → ℕ → List ℕ
section_header big name addr size pointer flags =
    name ++ word_bytes big addr ++ word_bytes big addr ++ word_bytes big size ++ word_bytes big pointer ++ zeros 12 ++ word_bytes big flags

-- ".text", and the names of the other sections, filled up to eight bytes
abbrev pub text_name : List ℕ
text_name = 46 ∷ 116 ∷ 101 ∷ 120 ∷ 116 ∷ 0 ∷ 0 ∷ 0 ∷ []

-- ".data", ".rdata", ".sdata", ".bss", ".sbss"
abbrev pub part_name : Kind → List ℕ
part_name Data = 46 ∷ 100 ∷ 97 ∷ 116 ∷ 97 ∷ 0 ∷ 0 ∷ 0 ∷ []
part_name Rdata = 46 ∷ 114 ∷ 100 ∷ 97 ∷ 116 ∷ 97 ∷ 0 ∷ 0 ∷ []
part_name Sdata = 46 ∷ 115 ∷ 100 ∷ 97 ∷ 116 ∷ 97 ∷ 0 ∷ 0 ∷ []
part_name Bss = 46 ∷ 98 ∷ 115 ∷ 115 ∷ 0 ∷ 0 ∷ 0 ∷ 0 ∷ []
part_name Sbss = 46 ∷ 115 ∷ 98 ∷ 115 ∷ 115 ∷ 0 ∷ 0 ∷ 0 ∷ []

-- where a part's bytes are in the file, 0 where it brings none
abbrev pub pointer_of : Kind → ℕ → ℕ
pointer_of kind at = if brings_bytes kind then at else 0

-- the headers of parts whose bytes lie without gaps from a place of the file on
abbrev pub part_headers : Bool → ℕ → List Part → List ℕ
part_headers big at [] = []
part_headers big at (p ∷ ps) =
    section_header big (part_name p.kind) p.addr p.size (pointer_of p.kind at) (kind_flags p.kind) ++ part_headers big (at + length p.bytes) ps

abbrev pub parts_bytes : List Part → List ℕ
parts_bytes parts = flat_map (λ part. part.bytes) parts

-- how many bytes stand before the text's
abbrev pub headers_length : Image → ℕ
headers_length image = 76 + 40 * (length image.parts + 1)

-- all headers
unfoldable pub headers : Image → List ℕ
headers image =
    let big = image.text.big in
    let size = length image.text.bytes in
    let start = image.text.start in
    file_header big (length image.parts + 1) ++ optional_header big size image.entry start
    ++ section_header big text_name start size (headers_length image) 0x20
    ++ part_headers big (headers_length image + size) image.parts

-- the file: all headers, and then the bytes of the text and of the parts without gaps
unfoldable pub object_bytes : Image → List ℕ
object_bytes image = headers image ++ image.text.bytes ++ parts_bytes image.parts

-- how many bytes it has
abbrev pub object_length : Image → ℕ
object_length image = headers_length image + length image.text.bytes + length (parts_bytes image.parts)
