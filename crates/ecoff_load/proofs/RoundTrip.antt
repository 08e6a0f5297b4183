-- The object that an image is written as is an object of that image.
use Rattle.std.proofs.Common.{◌≡◌, ℕ, suc, ◌+◌, ◌^◌, ◌<◌, List, [], ◌∷◌, ◌++◌, length, refl, sym, ap, subst, ◌∙◌, append_assoc, length-append, arith}
use Rattle.std.specs.List.{AllZip, filter}
use Rattle.std.proofs.lemmas.List.{append-nil}
use Rattle.ecoff_load.specs.declared.section.Section.{Section}
use Rattle.ecoff_load.specs.declared.image.Image.{Image}
use Rattle.ecoff_load.specs.Words.{half_in}
use Rattle.ecoff_load.specs.Sections.{section_at, sections_from, sections, is_text, is_part}
use Rattle.ecoff_load.specs.Object.{IsImage, section_bytes, IsPartOf, IsObject}
use Rattle.ecoff_load.specs.Layout.{file_header, optional_header, section_header, text_name, part_headers, parts_bytes, headers_length, headers, object_bytes, object_length}
use Rattle.ecoff_load.proofs.Again.{FrontAgain, front_again, length-file_header, length-optional_header, section_again, length-section_header, written, parts_again, length-part_headers, no_texts, all_parts, content_again, contents_again}

all_of : (f o s p t b : List ℕ) → ((((f ++ o) ++ s) ++ p) ++ t) ++ b ≡ f ++ (o ++ (s ++ (p ++ (t ++ b))))
all_of f o s p t b = simp append_assoc

from_text_header : (f o s p t b : List ℕ) → ((((f ++ o) ++ s) ++ p) ++ t) ++ b ≡ (f ++ o) ++ (s ++ (p ++ (t ++ b)))
from_text_header f o s p t b = simp append_assoc

from_part_headers : (f o s p t b : List ℕ) → ((((f ++ o) ++ s) ++ p) ++ t) ++ b ≡ ((f ++ o) ++ s) ++ (p ++ (t ++ b))
from_part_headers f o s p t b = simp append_assoc

-- the headers of an image's object, and what stands in them
record Laid (image : Image) : Type 0 where
  long : length (headers image) ≡ headers_length image
  front : FrontAgain image.text.big (object_bytes image) (length image.parts + 1) image.entry
  text_section : section_at image.text.big (object_bytes image) 76 ≡ record { at = 76; addr = image.text.start; size = length image.text.bytes; pointer = headers_length image; flags = 0x20 }
  part_sections : sections_from image.text.big (object_bytes image) (length image.parts) 116 ≡ written 116 (headers_length image + length image.text.bytes) image.parts

laid : (image : Image) → IsImage image → object_length image < 2 ^ 32 → Laid image
unfolding headers object_bytes
laid image fits lt =
    let big = image.text.big in
    let size = length image.text.bytes in
    let n = length image.parts in
    let f = file_header big (n + 1) in
    let o = optional_header big size image.entry image.text.start in
    let s = section_header big text_name image.text.start size (headers_length image) 0x20 in
    let p = part_headers big (headers_length image + size) image.parts in
    let t = image.text.bytes in
    let b = parts_bytes image.parts in
    let lf = length-file_header big (n + 1) in
    let lo = length-optional_header big size image.entry image.text.start in
    let ls = length-section_header big text_name image.text.start size (headers_length image) 0x20 refl in
    let lp = length-part_headers big (headers_length image + size) image.parts in
    let lfo = length-append f o in
    let lfos = length-append (f ++ o) s in
    let range = fits.text.range in
    record {
      long = omega (arith, length-append ((f ++ o) ++ s) p, lfos, lfo, lf, lo, ls, lp);
      front = subst (λ (l : List ℕ). FrontAgain big l (n + 1) image.entry) (sym (all_of f o s p t b)) (front_again big (n + 1) size image.entry image.text.start (s ++ (p ++ (t ++ b))) (omega (arith, fits.count)) fits.entry);
      text_section = ap (λ (l : List ℕ). section_at big l 76) (from_text_header f o s p t b)
          ∙ section_again big (f ++ o) text_name 76 image.text.start size (headers_length image) 0x20 (p ++ (t ++ b)) (omega (arith, lfo, lf, lo)) refl (omega (arith, range)) (omega (arith, range)) (omega (arith, lt)) (omega arith);
      part_sections = ap (λ (l : List ℕ). sections_from big l n 116) (from_part_headers f o s p t b)
          ∙ parts_again big image.text image.parts 116 (headers_length image + size) ((f ++ o) ++ s) (t ++ b) (omega (arith, lfos, lfo, lf, lo, ls)) fits.parts lt;
    }

-- how long it is
pub length-object_bytes : (image : Image) → IsImage image → object_length image < 2 ^ 32 → length (object_bytes image) ≡ object_length image
unfolding object_bytes
length-object_bytes image fits lt =
    omega (arith, length-append (headers image ++ image.text.bytes) (parts_bytes image.parts), length-append (headers image) image.text.bytes, (laid image fits lt).long)

-- the headers before the text, and both before the parts
object_parts : (image : Image) → (object_bytes image ≡ headers image ++ (image.text.bytes ++ parts_bytes image.parts)) × (object_bytes image ≡ (headers image ++ image.text.bytes) ++ (parts_bytes image.parts ++ []))
unfolding object_bytes
object_parts image =
    let h = headers image in
    let t = image.text.bytes in
    let b = parts_bytes image.parts in
    (append_assoc h t b, ap (λ (l : List ℕ). (h ++ t) ++ l) (sym (append-nil b)))

pub written_is_object : (image : Image) → IsImage image → object_length image < 2 ^ 32 → IsObject (object_bytes image) image
unfolding sections
written_is_object image fits lt =
    let big = image.text.big in
    let bytes = object_bytes image in
    let size = length image.text.bytes in
    let n = length image.parts in
    let h = laid image fits lt in
    let long = length-object_bytes image fits lt in
    let text : Section = record { at = 76; addr = image.text.start; size = size; pointer = headers_length image; flags = 0x20 } in
    let parts = written 116 (headers_length image + size) image.parts in
    let count : half_in big bytes 2 ≡ suc n = omega (arith, h.front.sections) in
    let all : sections big bytes ≡ text ∷ parts =
    ap (λ (k : ℕ). sections_from big bytes k 76) count
    ∙ ap (λ (s : Section). s ∷ sections_from big bytes n 116) h.text_section
    ∙ ap (λ (l : List Section). text ∷ l) h.part_sections in
    let whole = object_parts image in
    record {
      headers = record {
        file_header = omega (arith, long);
        magic_number = h.front.magic_number;
        some_sections = omega (arith, count);
        most_sections = omega (arith, count, fits.count);
        optional_size = h.front.optional_size;
        headers = omega (arith, count, long);
      };
      entry = sym h.front.begin;
      text = (
        text,
        ap (filter is_text) all ∙ ap (λ (l : List Section). text ∷ l) (no_texts 116 (headers_length image + size) image.parts),
        record {
          start = refl;
          in_file = omega (arith, long);
          content = sym (ap (λ (l : List ℕ). section_bytes l text) whole.0 ∙ content_again (headers image) image.text.bytes (parts_bytes image.parts) (headers_length image) size h.long refl);
        },
      );
      parts = subst (λ (l : List Section). AllZip (IsPartOf bytes) l image.parts) (sym (ap (filter is_part) all ∙ all_parts 116 (headers_length image + size) image.parts))
          (contents_again image.text image.parts 116 (headers_length image + size) bytes (headers image ++ image.text.bytes) [] whole.1 (omega (arith, length-append (headers image) image.text.bytes, h.long)) fits.parts);
      limits = fits;
    }
