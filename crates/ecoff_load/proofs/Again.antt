-- What was written is read again: numbers, section headers and contents.
use Rattle.std.proofs.Common.{◌≡◌, ℕ, ◌+◌, ◌-◌, ◌*◌, ◌^◌, ◌<◌, Bool, true, false, cond, eqb, List, [], ◌∷◌, ◌++◌, length, get_or, take, drop, refl, sym, ap, ◌∙◌, append_assoc, length-append, arith}
use Rattle.std.specs.Prelude.{slice_index, slice_range, is_some}
use Rattle.std.specs.List.{AllByRecursion, AllZip, filter}
use Rattle.std.proofs.lemmas.List.{get_or-append-add, take_at, drop_at, nil_from_length}
use Rattle.std.proofs.lemmas.Nat.{from_le_bytes-to_le_bytes_2, from_be_bytes-to_be_bytes_2, from_le_bytes-to_le_bytes_4, from_be_bytes-to_be_bytes_4}
use Rattle.ecoff_load.specs.declared.section.Section.{Section}
use Rattle.ecoff_load.specs.declared.image.Kind.{Kind}
use Rattle.ecoff_load.specs.declared.image.Kind.TheVariants.{Data, Rdata, Sdata, Bss, Sbss}
use Rattle.ecoff_load.specs.declared.image.Part.{Part}
use Rattle.ecoff_load.specs.declared.image.Text.{Text}
use Rattle.ecoff_load.specs.Words.{half_in, word_in, half_bytes, word_bytes}
use Rattle.ecoff_load.specs.Sections.{section_at, sections_from, part_kind, kind_flags, brings_bytes, is_text, is_part}
use Rattle.ecoff_load.specs.Object.{IsPart, magic, HasContent, IsPartOf}
use Rattle.ecoff_load.specs.Layout.{zeros, file_header, optional_header, section_header, part_name, pointer_of, part_headers, parts_bytes}
use Rattle.ecoff_load.proofs.Written.{part_header}

-- ---- numbers

byte_behind : (front rest : List ℕ) (i at : ℕ) → at ≡ length front + i → slice_index (front ++ rest) at ≡ slice_index rest i
byte_behind front rest i at e = ap (λ (n : ℕ). get_or (front ++ rest) n 0) e ∙ get_or-append-add front rest i 0

-- a word behind a front part of a file
word_behind : (big : Bool) (front rest : List ℕ) (i at : ℕ) → at ≡ length front + i → word_in big (front ++ rest) at ≡ word_in big rest i
word_behind false front rest i at e =
    omega (arith, byte_behind front rest i at e, byte_behind front rest (i + 1) (at + 1) (omega (arith, e)), byte_behind front rest (i + 2) (at + 2) (omega (arith, e)), byte_behind front rest (i + 3) (at + 3) (omega (arith, e)))
word_behind true front rest i at e =
    omega (arith, byte_behind front rest i at e, byte_behind front rest (i + 1) (at + 1) (omega (arith, e)), byte_behind front rest (i + 2) (at + 2) (omega (arith, e)), byte_behind front rest (i + 3) (at + 3) (omega (arith, e)))

word_again : (big : Bool) (n : ℕ) → n < 2 ^ 32 → word_in big (word_bytes big n) 0 ≡ n
word_again false n lt = omega (arith, from_le_bytes-to_le_bytes_4 n lt)
word_again true n lt = omega (arith, from_be_bytes-to_be_bytes_4 n lt)

half_again : (big : Bool) (n : ℕ) → n < 2 ^ 16 → half_in big (half_bytes big n) 0 ≡ n
half_again false n lt = omega (arith, from_le_bytes-to_le_bytes_2 n lt)
half_again true n lt = omega (arith, from_be_bytes-to_be_bytes_2 n lt)

-- ---- the headers before the sections'

pub record FrontAgain (big : Bool) (bytes : List ℕ) (count entry : ℕ) : Type 0 where
  pub magic_number : half_in big bytes 0 ≡ magic big
  pub sections : half_in big bytes 2 ≡ count
  pub optional_size : half_in big bytes 16 ≡ 56
  pub begin : word_in big bytes 36 ≡ entry

pub front_again : (big : Bool) (count size entry start : ℕ) (rest : List ℕ) → count < 2 ^ 16 → entry < 2 ^ 32 → FrontAgain big (file_header big count ++ (optional_header big size entry start ++ rest)) count entry
front_again false count size entry start rest lt le = record { magic_number = refl; sections = half_again false count lt; optional_size = refl; begin = word_again false entry le }
front_again true count size entry start rest lt le = record { magic_number = refl; sections = half_again true count lt; optional_size = refl; begin = word_again true entry le }

pub length-file_header : (big : Bool) (count : ℕ) → length (file_header big count) ≡ 20
length-file_header false count = refl
length-file_header true count = refl

pub length-optional_header : (big : Bool) (size entry start : ℕ) → length (optional_header big size entry start) ≡ 56
length-optional_header false size entry start = refl
length-optional_header true size entry start = refl

-- ---- section headers

-- what stands behind the name
abbrev fields_bytes : Bool → ℕ → ℕ → ℕ → ℕ → List ℕ → List ℕ
fields_bytes big addr size pointer flags rest =
    word_bytes big addr ++ (word_bytes big addr ++ (word_bytes big size ++ (word_bytes big pointer ++ (zeros 12 ++ (word_bytes big flags ++ rest)))))

regrouped : (f n a b c d z e r : List ℕ) → f ++ (((((((n ++ a) ++ b) ++ c) ++ d) ++ z) ++ e) ++ r) ≡ (f ++ n) ++ (a ++ (b ++ (c ++ (d ++ (z ++ (e ++ r))))))
regrouped f n a b c d z e r = simp append_assoc

record FieldsAgain (big : Bool) (bytes : List ℕ) (addr size pointer flags : ℕ) : Type 0 where
  at_4 : word_in big bytes 4 ≡ addr
  at_8 : word_in big bytes 8 ≡ size
  at_12 : word_in big bytes 12 ≡ pointer
  at_28 : word_in big bytes 28 ≡ flags

fields_again : (big : Bool) (addr size pointer flags : ℕ) (rest : List ℕ) → addr < 2 ^ 32 → size < 2 ^ 32 → pointer < 2 ^ 32 → flags < 2 ^ 32 → FieldsAgain big (fields_bytes big addr size pointer flags rest) addr size pointer flags
fields_again false addr size pointer flags rest la ls lp lf = record { at_4 = word_again false addr la; at_8 = word_again false size ls; at_12 = word_again false pointer lp; at_28 = word_again false flags lf }
fields_again true addr size pointer flags rest la ls lp lf = record { at_4 = word_again true addr la; at_8 = word_again true size ls; at_12 = word_again true pointer lp; at_28 = word_again true flags lf }

abbrev section_of : ℕ → ℕ → ℕ → ℕ → ℕ → Section
section_of at addr size pointer flags = record { at = at; addr = addr; size = size; pointer = pointer; flags = flags }

same_section : (at a b c d e f g h : ℕ) → a ≡ e → b ≡ f → c ≡ g → d ≡ h → section_of at a b c d ≡ section_of at e f g h
same_section at a b c d e f g h p q r s =
    ap (λ (n : ℕ). section_of at n b c d) p ∙ ap (λ (n : ℕ). section_of at e n c d) q ∙ ap (λ (n : ℕ). section_of at e f n d) r ∙ ap (λ (n : ℕ). section_of at e f g n) s

pub section_again : (big : Bool) (front name : List ℕ) (at addr size pointer flags : ℕ) (rest : List ℕ) → length front ≡ at → length name ≡ 8 → addr < 2 ^ 32 → size < 2 ^ 32 → pointer < 2 ^ 32 → flags < 2 ^ 32
    → section_at big (front ++ (section_header big name addr size pointer flags ++ rest)) at ≡ record { at = at; addr = addr; size = size; pointer = pointer; flags = flags }
section_again big front name at addr size pointer flags rest is-at eight la ls lp lf =
    let tail = fields_bytes big addr size pointer flags rest in
    let a = word_bytes big addr in
    let whole : front ++ (section_header big name addr size pointer flags ++ rest) ≡ (front ++ name) ++ tail =
    regrouped front name a a (word_bytes big size) (word_bytes big pointer) (zeros 12) (word_bytes big flags) rest in
    let long : length (front ++ name) ≡ at + 8 = omega (arith, length-append front name, is-at, eight) in
    let again = fields_again big addr size pointer flags rest la ls lp lf in
    let field = λ (i k : ℕ) (e : at + i ≡ length (front ++ name) + k). word_behind big (front ++ name) tail k (at + i) e in
    ap (λ (l : List ℕ). section_at big l at) whole
    ∙ same_section at _ _ _ _ addr size pointer flags (field 12 4 (omega (arith, long)) ∙ again.at_4) (field 16 8 (omega (arith, long)) ∙ again.at_8) (field 20 12 (omega (arith, long)) ∙ again.at_12) (field 36 28 (omega (arith, long)) ∙ again.at_28)

header_long : (n a b c d z e : List ℕ) → length n ≡ 8 → length a ≡ 4 → length b ≡ 4 → length c ≡ 4 → length d ≡ 4 → length z ≡ 12 → length e ≡ 4 → length ((((((n ++ a) ++ b) ++ c) ++ d) ++ z) ++ e) ≡ 40
header_long n a b c d z e ln la lb lc ld lz le =
    omega (arith, length-append (((((n ++ a) ++ b) ++ c) ++ d) ++ z) e, length-append ((((n ++ a) ++ b) ++ c) ++ d) z, length-append (((n ++ a) ++ b) ++ c) d, length-append ((n ++ a) ++ b) c, length-append (n ++ a) b, length-append n a)

pub length-section_header : (big : Bool) (name : List ℕ) (addr size pointer flags : ℕ) → length name ≡ 8 → length (section_header big name addr size pointer flags) ≡ 40
length-section_header false name addr size pointer flags eight = header_long name _ _ _ _ _ _ eight refl refl refl refl refl refl
length-section_header true name addr size pointer flags eight = header_long name _ _ _ _ _ _ eight refl refl refl refl refl refl

-- ---- the headers of parts

abbrev pub written : ℕ → ℕ → List Part → List Section
written at pointer [] = []
written at pointer (p ∷ ps) = record { at = at; addr = p.addr; size = p.size; pointer = pointer_of p.kind pointer; flags = kind_flags p.kind } ∷ written (at + 40) (pointer + length p.bytes) ps

name_eight : (kind : Kind) → length (part_name kind) ≡ 8
name_eight Data = refl
name_eight Rdata = refl
name_eight Sdata = refl
name_eight Bss = refl
name_eight Sbss = refl

flags_low : (kind : Kind) → kind_flags kind < 2 ^ 32
flags_low Data = omega arith
flags_low Rdata = omega arith
flags_low Sdata = omega arith
flags_low Bss = omega arith
flags_low Sbss = omega arith

pointer_low : (b : Bool) (at : ℕ) → at < 2 ^ 32 → cond b at 0 < 2 ^ 32
pointer_low true at lt = lt
pointer_low false at lt = omega arith

behind_this : (f h m r : List ℕ) → f ++ ((h ++ m) ++ r) ≡ f ++ (h ++ (m ++ r))
behind_this f h m r = simp append_assoc

with_this : (f h m r : List ℕ) → f ++ ((h ++ m) ++ r) ≡ (f ++ h) ++ (m ++ r)
with_this f h m r = simp append_assoc

pub parts_again : (big : Bool) (text : Text) (parts : List Part) (at pointer : ℕ) (front rest : List ℕ) → length front ≡ at → AllByRecursion (IsPart text) parts → pointer + length (parts_bytes parts) < 2 ^ 32
    → sections_from big (front ++ (part_headers big pointer parts ++ rest)) (length parts) at ≡ written at pointer parts
parts_again big text [] at pointer front rest is-at fit lt = refl
parts_again big text (p ∷ ps) at pointer front rest is-at fit lt =
    let h = part_header big pointer p in
    let next = pointer + length p.bytes in
    let more = part_headers big next ps in
    let eight = name_eight p.kind in
    let long : length h ≡ 40 = length-section_header big (part_name p.kind) p.addr p.size (pointer_of p.kind pointer) (kind_flags p.kind) eight in
    let bytes = length-append p.bytes (parts_bytes ps) in
    let this : section_at big (front ++ ((h ++ more) ++ rest)) at ≡ section_of at p.addr p.size (pointer_of p.kind pointer) (kind_flags p.kind) =
    ap (λ (l : List ℕ). section_at big l at) (behind_this front h more rest)
    ∙ section_again big front (part_name p.kind) at p.addr p.size (pointer_of p.kind pointer) (kind_flags p.kind) (more ++ rest) is-at eight (omega (arith, fit.0.range)) (omega (arith, fit.0.range)) (pointer_low (brings_bytes p.kind) pointer (omega (arith, lt))) (flags_low p.kind) in
    let others : sections_from big (front ++ ((h ++ more) ++ rest)) (length ps) (at + 40) ≡ written (at + 40) next ps =
    ap (λ (l : List ℕ). sections_from big l (length ps) (at + 40)) (with_this front h more rest)
    ∙ parts_again big text ps (at + 40) next (front ++ h) rest (omega (arith, length-append front h, is-at, long)) fit.1 (omega (arith, lt, bytes)) in
    ap (λ (s : Section). s ∷ sections_from big (front ++ ((h ++ more) ++ rest)) (length ps) (at + 40)) this
    ∙ ap (λ (l : List Section). section_of at p.addr p.size (pointer_of p.kind pointer) (kind_flags p.kind) ∷ l) others

pub length-part_headers : (big : Bool) (pointer : ℕ) (parts : List Part) → length (part_headers big pointer parts) ≡ 40 * length parts
length-part_headers big pointer [] = refl
length-part_headers big pointer (p ∷ ps) =
    let next = pointer + length p.bytes in
    omega (arith, length-append (part_header big pointer p) (part_headers big next ps), length-section_header big (part_name p.kind) p.addr p.size (pointer_of p.kind pointer) (kind_flags p.kind) (name_eight p.kind), length-part_headers big next ps)

kind_no_text : (kind : Kind) → eqb (kind_flags kind) 0x20 ≡ false
kind_no_text Data = refl
kind_no_text Rdata = refl
kind_no_text Sdata = refl
kind_no_text Bss = refl
kind_no_text Sbss = refl

kind_is_part : (kind : Kind) → is_some (part_kind (kind_flags kind)) ≡ true
kind_is_part Data = refl
kind_is_part Rdata = refl
kind_is_part Sdata = refl
kind_is_part Bss = refl
kind_is_part Sbss = refl

pub no_texts : (at pointer : ℕ) (parts : List Part) → filter is_text (written at pointer parts) ≡ []
no_texts at pointer [] = refl
no_texts at pointer (p ∷ ps) =
    let s = section_of at p.addr p.size (pointer_of p.kind pointer) (kind_flags p.kind) in
    let rest = filter is_text (written (at + 40) (pointer + length p.bytes) ps) in
    ap (λ (b : Bool). cond b (s ∷ rest) rest) (kind_no_text p.kind) ∙ no_texts (at + 40) (pointer + length p.bytes) ps

pub all_parts : (at pointer : ℕ) (parts : List Part) → filter is_part (written at pointer parts) ≡ written at pointer parts
all_parts at pointer [] = refl
all_parts at pointer (p ∷ ps) =
    let s = section_of at p.addr p.size (pointer_of p.kind pointer) (kind_flags p.kind) in
    let rest = filter is_part (written (at + 40) (pointer + length p.bytes) ps) in
    ap (λ (b : Bool). cond b (s ∷ rest) rest) (kind_is_part p.kind) ∙ ap (λ (l : List Section). s ∷ l) (all_parts (at + 40) (pointer + length p.bytes) ps)

-- ---- contents

pub content_again : (front body rest : List ℕ) (at size : ℕ) → length front ≡ at → length body ≡ size → slice_range (front ++ (body ++ rest)) at (at + size) ≡ body
content_again front body rest at size is-at is-size =
    let n : at + size - at ≡ size = omega arith in
    ap (λ (k : ℕ). take k (drop at (front ++ (body ++ rest)))) n ∙ ap (take size) (drop_at front (body ++ rest) at is-at) ∙ take_at body rest size is-size

part_content : (b : Bool) (bytes front rest : List ℕ) (at pointer : ℕ) (p : Part) → bytes ≡ front ++ (p.bytes ++ rest) → length front ≡ pointer → length p.bytes ≡ cond b p.size 0
    → HasContent b bytes (section_of at p.addr p.size (cond b pointer 0) (kind_flags p.kind)) p
part_content true bytes front rest at pointer p e is-at size = (
  omega (arith, ap length e, length-append front (p.bytes ++ rest), length-append p.bytes rest, is-at, size),
  sym (ap (λ (l : List ℕ). slice_range l pointer (pointer + p.size)) e ∙ content_again front p.bytes rest pointer p.size is-at size),
)
part_content false bytes front rest at pointer p e is-at size = nil_from_length p.bytes size

pub contents_again : (text : Text) (parts : List Part) (at pointer : ℕ) (bytes front rest : List ℕ) → bytes ≡ front ++ (parts_bytes parts ++ rest) → length front ≡ pointer → AllByRecursion (IsPart text) parts → AllZip (IsPartOf bytes) (written at pointer parts) parts
contents_again text [] at pointer bytes front rest e is-at fit = tt
contents_again text (p ∷ ps) at pointer bytes front rest e is-at fit =
    let others = parts_bytes ps in (
      record {
        kind = refl;
        addr = refl;
        size = refl;
        content = part_content (brings_bytes p.kind) bytes front (others ++ rest) at pointer p (e ∙ behind_this front p.bytes others rest) is-at fit.0.bytes;
      },
      contents_again text ps (at + 40) (pointer + length p.bytes) bytes (front ++ p.bytes) rest (e ∙ with_this front p.bytes others rest) (omega (arith, length-append front p.bytes, is-at)) fit.1,
    )
