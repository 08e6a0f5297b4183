-- What is written, part by part.
use Rattle.std.proofs.Common.{◌≡◌, ℕ, zero, suc, ◌+◌, ◌*◌, ◌<◌, ◌≤◌, Bool, List, [], ◌∷◌, ◌++◌, length, take, get_or, sym, ap, ◌∙◌, append_assoc, arith, length-append}
use Rattle.std.proofs.lemmas.List.{append-nil, take_more}
use Rattle.std.proofs.lemmas.List.Concat.{flat_map-append}
use Rattle.ecoff_load.specs.declared.image.Part.{Part}
use Rattle.ecoff_load.specs.Sections.{kind_flags}
use Rattle.ecoff_load.specs.declared.image.Image.{Image}
use Rattle.ecoff_load.specs.Layout.{file_header, optional_header, section_header, text_name, part_name, pointer_of, part_headers, parts_bytes, headers_length, headers, object_bytes}

-- the header of a part whose bytes begin at a place
abbrev pub part_header : Bool → ℕ → Part → List ℕ
part_header big at p = section_header big (part_name p.kind) p.addr p.size (pointer_of p.kind at) (kind_flags p.kind)

parts_bytes-snoc : (ps : List Part) (p : Part) → parts_bytes (ps ++ p ∷ []) ≡ parts_bytes ps ++ p.bytes
parts_bytes-snoc ps p = flat_map-append (λ (x : Part). x.bytes) ps (p ∷ []) ∙ ap (λ (l : List ℕ). parts_bytes ps ++ l) (append-nil p.bytes)

-- one part more
part_headers-snoc : (big : Bool) (at : ℕ) (ps : List Part) (p : Part) → part_headers big at (ps ++ p ∷ []) ≡ part_headers big at ps ++ part_header big (at + length (parts_bytes ps)) p
part_headers-snoc big at [] p = append-nil (part_header big at p) ∙ ap (λ (n : ℕ). part_header big n p) (omega arith)
part_headers-snoc big at (q ∷ qs) p =
    let here = part_header big at q in
    let next = at + length q.bytes in
    let place : next + length (parts_bytes qs) ≡ at + length (parts_bytes (q ∷ qs)) = omega (arith, length-append q.bytes (parts_bytes qs)) in
    ap (λ (l : List ℕ). here ++ l) (part_headers-snoc big next qs p ∙ ap (λ (n : ℕ). part_headers big next qs ++ part_header big n p) place)
    ∙ sym (append_assoc here (part_headers big next qs) (part_header big (at + length (parts_bytes (q ∷ qs))) p))

-- the headers of the first parts, and where the bytes of the next one begin
pub record HeadersSoFar (big : Bool) (start : ℕ) (parts : List Part) (k at : ℕ) (before now : List ℕ) : Type 0 where
  pub place : at ≡ start + length (parts_bytes (take k parts))
  pub written : now ≡ before ++ part_headers big start (take k parts)

pub part_header_is : (big : Bool) (at : ℕ) (p : Part) (name : List ℕ) (pointer flags : ℕ) (now more : List ℕ) → name ≡ part_name p.kind → pointer ≡ pointer_of p.kind at → flags ≡ kind_flags p.kind
    → more ≡ now ++ section_header big name p.addr p.size pointer flags → more ≡ now ++ part_header big at p
part_header_is big at p name pointer flags now more is-name is-pointer are-flags put =
    put ∙ ap (λ (l : List ℕ). now ++ section_header big l p.addr p.size pointer flags) is-name
    ∙ ap (λ (n : ℕ). now ++ section_header big (part_name p.kind) p.addr p.size n flags) is-pointer
    ∙ ap (λ (n : ℕ). now ++ section_header big (part_name p.kind) p.addr p.size (pointer_of p.kind at) n) are-flags

next_take : (parts : List Part) (k : ℕ) (p : Part) → k < length parts → p ≡ get_or parts k p → take (k + 1) parts ≡ take k parts ++ p ∷ []
next_take parts k p lt e = take_more parts k p lt ∙ ap (λ (x : Part). take k parts ++ x ∷ []) (sym e)

pub headers_go : (big : Bool) (start : ℕ) (parts : List Part) (k at after : ℕ) (p : Part) (before now more : List ℕ) → k < length parts → p ≡ get_or parts k p → after ≡ at + length p.bytes
    → more ≡ now ++ part_header big at p → HeadersSoFar big start parts k at before now → HeadersSoFar big start parts (k + 1) after before more
headers_go big start parts k at after p before now more lt e is-after is-more h =
    let first = take k parts in
    let next = next_take parts k p lt e in
    let size : length (parts_bytes (take (k + 1) parts)) ≡ length (parts_bytes first) + length p.bytes =
    ap (λ (l : List Part). length (parts_bytes l)) next ∙ ap length (parts_bytes-snoc first p) ∙ length-append (parts_bytes first) p.bytes in
    record {
      place = omega (arith, size, is-after, h.place);
      written = is-more ∙ ap (λ (l : List ℕ). l ++ part_header big at p) h.written
          ∙ append_assoc before (part_headers big start first) (part_header big at p)
          ∙ ap (λ (l : List ℕ). before ++ l) (ap (λ (n : ℕ). part_headers big start first ++ part_header big n p) h.place ∙ sym (part_headers-snoc big start first p) ∙ sym (ap (part_headers big start) next));
    }

-- the bytes of the next part end where those of all parts do, or before
pub next_within : (parts : List Part) (k : ℕ) (p : Part) → k < length parts → p ≡ get_or parts k p → length (parts_bytes (take k parts)) + length p.bytes ≤ length (parts_bytes parts)
next_within [] k p lt e = absurd (omega arith)
next_within (q ∷ qs) zero p lt e = omega (arith, ap (λ (x : Part). length x.bytes) e, length-append q.bytes (parts_bytes qs))
next_within (q ∷ qs) (suc k) p lt e =
    omega (arith, next_within qs k p (omega arith) e, length-append q.bytes (parts_bytes qs), length-append q.bytes (parts_bytes (take k qs)))

four : (x a b c d : List ℕ) → (((x ++ a) ++ b) ++ c) ++ d ≡ x ++ (((a ++ b) ++ c) ++ d)
four x a b c d = simp append_assoc

-- all headers
pub headers_laid : (image : Image) (x x1 x2 x3 x4 text : List ℕ) (parts : List Part) (count pointer : ℕ) → text ≡ image.text.bytes → parts ≡ image.parts → count ≡ length parts + 1 → pointer ≡ 76 + 40 * count
    → x1 ≡ x ++ file_header image.text.big count → x2 ≡ x1 ++ optional_header image.text.big (length text) image.entry image.text.start
    → x3 ≡ x2 ++ section_header image.text.big text_name image.text.start (length text) pointer 0x20 → x4 ≡ x3 ++ part_headers image.text.big (pointer + length text) parts → x4 ≡ x ++ headers image
unfolding headers
headers_laid image x x1 x2 x3 x4 text parts count pointer is-text are-parts is-count is-pointer w1 w2 w3 w4 =
    let big = image.text.big in
    let start = image.text.start in
    let size : length text ≡ length image.text.bytes = ap length is-text in
    let counted : count ≡ length image.parts + 1 = is-count ∙ ap (λ (l : List Part). length l + 1) are-parts in
    let placed : pointer ≡ headers_length image = is-pointer ∙ ap (λ (n : ℕ). 76 + 40 * n) counted in
    let a1 : x1 ≡ x ++ file_header big (length image.parts + 1) = w1 ∙ ap (λ (n : ℕ). x ++ file_header big n) counted in
    let a2 : x2 ≡ x1 ++ optional_header big (length image.text.bytes) image.entry start = w2 ∙ ap (λ (n : ℕ). x1 ++ optional_header big n image.entry start) size in
    let a3 : x3 ≡ x2 ++ section_header big text_name start (length image.text.bytes) (headers_length image) 0x20 =
    w3 ∙ ap (λ (n : ℕ). x2 ++ section_header big text_name start n pointer 0x20) size ∙ ap (λ (n : ℕ). x2 ++ section_header big text_name start (length image.text.bytes) n 0x20) placed in
    let a4 : x4 ≡ x3 ++ part_headers big (headers_length image + length image.text.bytes) image.parts =
    w4 ∙ ap (λ (l : List Part). x3 ++ part_headers big (pointer + length text) l) are-parts
    ∙ ap (λ (n : ℕ). x3 ++ part_headers big (pointer + n) image.parts) size ∙ ap (λ (n : ℕ). x3 ++ part_headers big (n + length image.text.bytes) image.parts) placed in
    let f = file_header big (length image.parts + 1) in
    let o = optional_header big (length image.text.bytes) image.entry start in
    let s = section_header big text_name start (length image.text.bytes) (headers_length image) 0x20 in
    let p = part_headers big (headers_length image + length image.text.bytes) image.parts in
    a4 ∙ ap (λ (l : List ℕ). l ++ p) (a3 ∙ ap (λ (l : List ℕ). l ++ s) (a2 ∙ ap (λ (l : List ℕ). l ++ o) a1)) ∙ four x f o s p

-- the whole file
pub object_laid : (image : Image) (x x1 x2 x3 text : List ℕ) (parts : List Part) → x ≡ [] → text ≡ image.text.bytes → parts ≡ image.parts → x1 ≡ x ++ headers image → x2 ≡ x1 ++ text → x3 ≡ x2 ++ parts_bytes parts → x3 ≡ object_bytes image
unfolding object_bytes
object_laid image x x1 x2 x3 text parts empty is-text are-parts w1 w2 w3 =
    w3 ∙ ap (λ (l : List Part). x2 ++ parts_bytes l) are-parts
    ∙ ap (λ (l : List ℕ). l ++ parts_bytes image.parts) (w2 ∙ ap (λ (l : List ℕ). x1 ++ l) is-text ∙ ap (λ (l : List ℕ). l ++ image.text.bytes) (w1 ∙ ap (λ (l : List ℕ). l ++ headers image) empty))
