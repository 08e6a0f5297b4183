-- Bytes at which no check fails are an object of the image that the steps of reading give.
use Rattle.std.proofs.Common.{◌≡◌, ℕ, zero, suc, ◌+◌, ◌-◌, ◌*◌, ◌^◌, ◌<◌, ◌≤◌, ◌⊎◌, Bool, true, false, cond, eqb, leb, List, [], ◌∷◌, ◌++◌, length, get_or, drop, Option, Some, None, Result, Ok, Err, refl, sym, ap, subst, ◌∙◌, arith, inl, inr, length-take, length-drop}
use Rattle.std.specs.Prelude.{◌||◌, ◌&&◌, is_some, IfOk}
use Rattle.std.specs.List.{AllByRecursion, AllZip, filter, filter_map, find, cons_option}
use Rattle.std.proofs.lemmas.Bool.{eqb-true, leb-true, and_parts, or_cases}
use Rattle.ecoff_load.specs.declared.section.Section.{Section}
use Rattle.ecoff_load.specs.declared.image.Kind.{Kind}
use Rattle.ecoff_load.specs.declared.image.Kind.TheVariants.{Data, Rdata, Sdata, Bss, Sbss}
use Rattle.ecoff_load.specs.declared.image.Part.{Part}
use Rattle.ecoff_load.specs.declared.image.Text.{Text}
use Rattle.ecoff_load.specs.declared.image.Image.{Image}
use Rattle.ecoff_load.specs.declared.fault.ObjectWhy.TheVariants as why
use Rattle.ecoff_load.specs.declared.fault.ObjectFault.{ObjectFault}
use Rattle.ecoff_load.specs.declared.fault.ObjectFault.TheVariants as faults
use Rattle.ecoff_load.specs.Words.{half_in, word_in}
use Rattle.ecoff_load.specs.Sections.{sections, sections_from, part_kind, kind_flags, brings_bytes, is_text, is_part}
use Rattle.ecoff_load.specs.Object.{IsPart, IsImage, magic, HasHeaders, section_bytes, HasContent, IsPartOf, IsObject}
use Rattle.ecoff_load.specs.Checks.{Check, check, first_failing, is_big, is_little, header_checks, sections_checks, text_check, overlap_checks, checks, refusal, Reads}
use Rattle.ecoff_load.specs.Reading.{InFile, part_of_kind, part_of, image_with, ReadsBySteps}
use Rattle.ecoff_load.proofs.FirstFailing.{first_holds, both_none}
use Rattle.ecoff_load.proofs.Passed.{TextPassed, KindPassed, AllPassed, sections_passed, all_in_file, text_no_kind, LiesBeside, KindBeside, IsBeside, overlaps_passed}

-- ---- the headers

big_magic : (bytes : List ℕ) (b : Bool) → is_big bytes ≡ b → (is_little bytes || b) ≡ true → half_in b bytes 0 ≡ magic b
big_magic bytes true e h = eqb-true (half_in true bytes 0) (magic true) e
big_magic bytes false e h =
    elim (or_cases (is_little bytes) false h) [
      | inl l ↦ eqb-true (half_in false bytes 0) (magic false) l
      | inr f ↦ absurd cc
    ]

pub headers_passed : (bytes : List ℕ) → first_failing (header_checks bytes) ≡ None → HasHeaders (is_big bytes) bytes
unfolding header_checks
headers_passed bytes e =
    let size = length bytes in
    let big = is_big bytes in
    let count = half_in big bytes 2 in
    let l4 : List Check = check (leb (76 + 40 * count) size) size why.Short ∷ [] in
    let l3 : List Check = check (eqb (half_in big bytes 16) 56) 16 why.OptHeader ∷ l4 in
    let l2 : List Check = check (leb 1 count && leb count 16) 2 why.Sections ∷ l3 in
    let l1 : List Check = check (is_little bytes || big) 0 why.Magic ∷ l2 in
    let p0 = first_holds (check (leb 20 size) size why.Short) l1 e in
    let p1 = first_holds (check (is_little bytes || big) 0 why.Magic) l2 p0.1 in
    let p2 = first_holds (check (leb 1 count && leb count 16) 2 why.Sections) l3 p1.1 in
    let p3 = first_holds (check (eqb (half_in big bytes 16) 56) 16 why.OptHeader) l4 p2.1 in
    let p4 = first_holds (check (leb (76 + 40 * count) size) size why.Short) [] p3.1 in
    let counts = and_parts (leb 1 count) (leb count 16) p2.0 in
    record {
      file_header = leb-true 20 size p0.0;
      magic_number = big_magic bytes big refl p1.0;
      some_sections = leb-true 1 count counts.0;
      most_sections = leb-true count 16 counts.1;
      optional_size = eqb-true (half_in big bytes 16) 56 p3.0;
      headers = leb-true (76 + 40 * count) size p4.0;
    }

-- ---- the one text

true_is_false : {X : Type 0} → true ≡ false → X
true_is_false e = absurd cc

no_more : (size : ℕ) (s : Section) (b : Bool) (rest : List Section) → (b ≡ true → TextPassed size true s) → rest ≡ [] → cond b (s ∷ rest) rest ≡ []
no_more size s true rest p e = true_is_false (p refl).first
no_more size s false rest p e = e

no_more_text : (size : ℕ) (ss : List Section) → AllPassed size true ss → filter is_text ss ≡ []
no_more_text size [] h = refl
no_more_text size (s ∷ ss) h = no_more size s (is_text s) (filter is_text ss) h.0.text (no_more_text size ss h.1)

some_is : (s t : Section) → Some s ≡ Some t → s ≡ t
some_is s t e = cc

abbrev OneText : ℕ → List Section → Section → Type 0
OneText size texts text = (texts ≡ text ∷ []) × TextPassed size false text

one_text_by : (size : ℕ) (s text : Section) (b : Bool) (ss : List Section) → (b ≡ true → TextPassed size false s) → AllPassed size (false || b) ss
    → (AllPassed size false ss → find is_text ss ≡ Some text → OneText size (filter is_text ss) text) → cond b (Some s) (find is_text ss) ≡ Some text → OneText size (cond b (s ∷ filter is_text ss) (filter is_text ss)) text
one_text_by size s text true ss p others more e =
    subst (OneText size (s ∷ filter is_text ss)) (some_is s text e) (ap (λ (l : List Section). s ∷ l) (no_more_text size ss others), p refl)
one_text_by size s text false ss p others more e = more others e

pub one_text : (size : ℕ) (ss : List Section) (text : Section) → AllPassed size false ss → find is_text ss ≡ Some text → OneText size (filter is_text ss) text
one_text size [] text h e = absurd cc
one_text size (s ∷ ss) text h e = one_text_by size s text (is_text s) ss h.0.text h.1 (one_text size ss text) e

-- ---- the parts

kind_is : (a b : Kind) → Some a ≡ Some b → a ≡ b
kind_is a b e = cc

some_none : {X : Type 0} (kind : Kind) → Some kind ≡ None → X
some_none kind e = absurd cc

-- the flags of a kind that was found
kind_by : (flags : ℕ) (b0 b1 b2 b3 b4 : Bool) (kind : Kind) → eqb flags 0x40 ≡ b0 → eqb flags 0x80 ≡ b1 → eqb flags 0x100 ≡ b2 → eqb flags 0x200 ≡ b3 → eqb flags 0x400 ≡ b4
    → cond b0 (Some Data) (cond b1 (Some Bss) (cond b2 (Some Rdata) (cond b3 (Some Sdata) (cond b4 (Some Sbss) None)))) ≡ Some kind → flags ≡ kind_flags kind
kind_by flags true b1 b2 b3 b4 kind e0 e1 e2 e3 e4 e = eqb-true flags 0x40 e0 ∙ ap kind_flags (kind_is Data kind e)
kind_by flags false true b2 b3 b4 kind e0 e1 e2 e3 e4 e = eqb-true flags 0x80 e1 ∙ ap kind_flags (kind_is Bss kind e)
kind_by flags false false true b3 b4 kind e0 e1 e2 e3 e4 e = eqb-true flags 0x100 e2 ∙ ap kind_flags (kind_is Rdata kind e)
kind_by flags false false false true b4 kind e0 e1 e2 e3 e4 e = eqb-true flags 0x200 e3 ∙ ap kind_flags (kind_is Sdata kind e)
kind_by flags false false false false true kind e0 e1 e2 e3 e4 e = eqb-true flags 0x400 e4 ∙ ap kind_flags (kind_is Sbss kind e)
kind_by flags false false false false false kind e0 e1 e2 e3 e4 e = absurd cc

pub kind_found : (flags : ℕ) (kind : Kind) → part_kind flags ≡ Some kind → flags ≡ kind_flags kind
kind_found flags kind e = kind_by flags (eqb flags 0x40) (eqb flags 0x80) (eqb flags 0x100) (eqb flags 0x200) (eqb flags 0x400) kind refl refl refl refl refl e

has_content : (bytes : List ℕ) (s : Section) (b : Bool) (part : Part) → part.bytes ≡ cond b (section_bytes bytes s) [] → (b ≡ true → s.pointer + s.size ≤ length bytes) → HasContent b bytes s part
has_content bytes s true part e h = (h refl, e)
has_content bytes s false part e h = e

parts_by : (bytes : List ℕ) (s : Section) (k : Option Kind) (ss : List Section) (parts : List Part) → part_kind s.flags ≡ k → KindPassed (length bytes) s k → AllZip (IsPartOf bytes) ss parts
    → AllZip (IsPartOf bytes) (cond (is_some k) (s ∷ ss) ss) (cons_option (part_of_kind bytes s k) parts)
parts_by bytes s None ss parts e p h = h
parts_by bytes s (Some kind) ss parts e p h = (
  record {
    kind = kind_found s.flags kind e;
    addr = refl;
    size = refl;
    content = has_content bytes s (brings_bytes kind) (record { kind = kind; addr = s.addr; size = s.size; bytes = cond (brings_bytes kind) (section_bytes bytes s) [] }) refl p.1;
  },
  h,
)

pub parts_found : (bytes : List ℕ) (seen : Bool) (ss : List Section) → AllPassed (length bytes) seen ss → AllZip (IsPartOf bytes) (filter is_part ss) (filter_map (part_of bytes) ss)
parts_found bytes seen [] h = tt
parts_found bytes seen (s ∷ ss) h =
    parts_by bytes s (part_kind s.flags) (filter is_part ss) (filter_map (part_of bytes) ss) refl h.0.part (parts_found bytes (seen || is_text s) ss h.1)

-- ---- the limits

pub length-content : (bytes : List ℕ) (s : Section) → s.pointer + s.size ≤ length bytes → length (section_bytes bytes s) ≡ s.size
length-content bytes s le =
    omega (arith, length-take (s.pointer + s.size - s.pointer) (drop s.pointer bytes), length-drop s.pointer bytes)

brought_by : (bytes : List ℕ) (s : Section) (b : Bool) → (b ≡ true → s.pointer + s.size ≤ length bytes) → length (cond b (section_bytes bytes s) []) ≡ cond b s.size 0
brought_by bytes s true h = length-content bytes s (h refl)
brought_by bytes s false h = refl

apart_from : (bytes : List ℕ) (text s : Section) (found : Text) → s.pointer + s.size ≤ length bytes → LiesBeside text s → found.start ≡ text.addr → length found.bytes ≡ text.size
    → (length (section_bytes bytes s) ≡ 0) ⊎ ((s.addr + s.size ≤ found.start) ⊎ (found.start + length found.bytes ≤ s.addr))
apart_from bytes text s found le (inl h) start size = inl (length-content bytes s le ∙ h)
apart_from bytes text s found le (inr (inl h)) start size = inr (inl (omega (arith, h, start)))
apart_from bytes text s found le (inr (inr h)) start size = inr (inr (omega (arith, h, start, size)))

apart_by : (bytes : List ℕ) (text s : Section) (found : Text) (b : Bool) → (b ≡ true → s.pointer + s.size ≤ length bytes) → (b ≡ true → LiesBeside text s) → found.start ≡ text.addr → length found.bytes ≡ text.size
    → (length (cond b (section_bytes bytes s) []) ≡ 0) ⊎ ((s.addr + s.size ≤ found.start) ⊎ (found.start + length found.bytes ≤ s.addr))
apart_by bytes text s found false p h start size = inl refl
apart_by bytes text s found true p h start size = apart_from bytes text s found (p refl) (h refl) start size

limits_by : (bytes : List ℕ) (text s : Section) (found : Text) (k : Option Kind) (parts : List Part) → KindPassed (length bytes) s k → KindBeside text s k → found.start ≡ text.addr → length found.bytes ≡ text.size
    → AllByRecursion (IsPart found) parts → AllByRecursion (IsPart found) (cons_option (part_of_kind bytes s k) parts)
limits_by bytes text s found None parts p h start size rest = rest
limits_by bytes text s found (Some kind) parts p h start size rest = (
  record {
    range = p.0;
    bytes = brought_by bytes s (brings_bytes kind) p.1;
    apart = apart_by bytes text s found (brings_bytes kind) p.1 h start size;
  },
  rest,
)

pub parts_fit : (bytes : List ℕ) (text : Section) (found : Text) (seen : Bool) (ss : List Section) → AllPassed (length bytes) seen ss → AllByRecursion (IsBeside text) ss → found.start ≡ text.addr → length found.bytes ≡ text.size
    → AllByRecursion (IsPart found) (filter_map (part_of bytes) ss)
parts_fit bytes text found seen [] p h start size = tt
parts_fit bytes text found seen (s ∷ ss) p h start size =
    limits_by bytes text s found (part_kind s.flags) (filter_map (part_of bytes) ss) p.0.part h.0 start size (parts_fit bytes text found (seen || is_text s) ss p.1 h.1 start size)

-- ---- the number of parts

count_by : (bytes : List ℕ) (s : Section) (b : Bool) (k : Option Kind) (texts ss : List Section) (parts : List Part) → (b ≡ true → k ≡ None) → length parts + length texts ≤ length ss
    → length (cons_option (part_of_kind bytes s k) parts) + length (cond b (s ∷ texts) texts) ≤ suc (length ss)
count_by bytes s true None texts ss parts none le = omega (arith, le)
count_by bytes s false None texts ss parts none le = omega (arith, le)
count_by bytes s false (Some kind) texts ss parts none le = omega (arith, le)
count_by bytes s true (Some kind) texts ss parts none le = some_none kind (none refl)

pub parts_count : (bytes : List ℕ) (ss : List Section) → length (filter_map (part_of bytes) ss) + length (filter is_text ss) ≤ length ss
parts_count bytes [] = omega arith
parts_count bytes (s ∷ ss) =
    count_by bytes s (is_text s) (part_kind s.flags) (filter is_text ss) ss (filter_map (part_of bytes) ss) (text_no_kind s) (parts_count bytes ss)

pub length-sections_from : (big : Bool) (bytes : List ℕ) (count at : ℕ) → length (sections_from big bytes count at) ≡ count
length-sections_from big bytes zero at = refl
length-sections_from big bytes (suc n) at = ap suc (length-sections_from big bytes n (at + 40))

word_below : (big : Bool) (bytes : List ℕ) (at : ℕ) → ((i : ℕ) → get_or bytes i 0 < 256) → word_in big bytes at < 2 ^ 32
word_below true bytes at fits = omega (arith, fits at, fits (at + 1), fits (at + 2), fits (at + 3))
word_below false bytes at fits = omega (arith, fits at, fits (at + 1), fits (at + 2), fits (at + 3))

-- ---- the whole

pub record NoneFails (bytes : List ℕ) : Type 0 where
  pub headers : first_failing (header_checks bytes) ≡ None
  pub each : AllPassed (length bytes) false (sections (is_big bytes) bytes)
  pub behind : first_failing (text_check (find is_text (sections (is_big bytes) bytes)) ∷ overlap_checks (find is_text (sections (is_big bytes) bytes)) (sections (is_big bytes) bytes)) ≡ None

pub none_fails : (bytes : List ℕ) → refusal bytes ≡ None → NoneFails bytes
unfolding checks
none_fails bytes e =
    let all = sections (is_big bytes) bytes in
    let text = find is_text all in
    let behind : List Check = text_check text ∷ overlap_checks text all in
    let p = both_none (header_checks bytes) (sections_checks (length bytes) false all ++ behind) e in
    let q = both_none (sections_checks (length bytes) false all) behind p.1 in
    record { headers = p.0; each = sections_passed (length bytes) false all q.0; behind = q.1 }

beside_text : (text : Section) (found : Option Section) (all : List Section) → found ≡ Some text → first_failing (text_check found ∷ overlap_checks found all) ≡ None → AllByRecursion (IsBeside text) all
beside_text text None all e h = absurd cc
beside_text text (Some t) all e h = subst (λ (x : Section). AllByRecursion (IsBeside x) all) (some_is t text e) (overlaps_passed t all h)

pub is_described : (bytes : List ℕ) (text : Section) → ((i : ℕ) → get_or bytes i 0 < 256) → refusal bytes ≡ None → find is_text (sections (is_big bytes) bytes) ≡ Some text → IsObject bytes (image_with (is_big bytes) bytes text)
unfolding image_with sections
is_described bytes text fits e found =
    let big = is_big bytes in
    let all = sections big bytes in
    let h = none_fails bytes e in
    let headers = headers_passed bytes h.headers in
    let one = one_text (length bytes) all text h.each found in
    let size = length-content bytes text one.1.file in
    let count = length-sections_from big bytes (half_in big bytes 2) 76 in
    record {
      headers = headers;
      entry = refl;
      text = (text, one.0, record { start = refl; in_file = one.1.file; content = refl });
      parts = parts_found bytes false all h.each;
      limits = record {
        entry = word_below big bytes 36 fits;
        text = record { alignment = one.1.align; least_size = omega (arith, size, one.1.least); greatest_size = omega (arith, size, one.1.most); range = omega (arith, size, one.1.range) };
        count = omega (arith, parts_count bytes all, ap length one.0, count, headers.most_sections);
        parts = parts_fit bytes text (record { start = text.addr; big = big; bytes = section_bytes bytes text }) false all h.each (beside_text text (find is_text all) all found h.behind) refl size;
      };
    }

-- ---- what the steps of reading need and give

abbrev image_made : ℕ → ℕ → Bool → List ℕ → List Part → Image
image_made entry start big bytes parts = record { entry = entry; text = record { start = start; big = big; bytes = bytes }; parts = parts }

find_in : (bytes : List ℕ) (big : Bool) (text : Section) → big ≡ is_big bytes → find is_text (sections big bytes) ≡ Some text → find is_text (sections (is_big bytes) bytes) ≡ Some text
find_in bytes big text order found = ap (λ (b : Bool). find is_text (sections b bytes)) (sym order) ∙ found

pub text_in_file : (bytes : List ℕ) (big : Bool) (text : Section) → refusal bytes ≡ None → big ≡ is_big bytes → find is_text (sections big bytes) ≡ Some text → text.pointer + text.size ≤ length bytes
text_in_file bytes big text e order found = (one_text (length bytes) (sections (is_big bytes) bytes) text (none_fails bytes e).each (find_in bytes big text order found)).1.file

pub parts_in_file : (bytes : List ℕ) (big : Bool) (count : ℕ) → refusal bytes ≡ None → big ≡ is_big bytes → count ≡ half_in big bytes 2 → AllByRecursion (InFile (length bytes)) (sections_from big bytes count 76)
unfolding sections
parts_in_file bytes big count e order is-count =
    let all = all_in_file (length bytes) false (sections (is_big bytes) bytes) (none_fails bytes e).each in
    subst (λ (n : ℕ). AllByRecursion (InFile (length bytes)) (sections_from big bytes n 76)) (sym is-count) (subst (λ (b : Bool). AllByRecursion (InFile (length bytes)) (sections b bytes)) (sym order) all)

pub image_is : (bytes : List ℕ) (big : Bool) (count : ℕ) (text : Section) (entry : ℕ) (copied : List ℕ) (parts : List Part) → refusal bytes ≡ None → big ≡ is_big bytes → count ≡ half_in big bytes 2 → find is_text (sections big bytes) ≡ Some text
    → entry ≡ word_in big bytes 36 → copied ≡ section_bytes bytes text → parts ≡ filter_map (part_of bytes) (sections_from big bytes count 76)
    → ReadsBySteps bytes (Ok (record { entry = entry; text = record { start = text.addr; big = big; bytes = copied }; parts = parts }))
unfolding image_with sections
image_is bytes big count text entry copied parts e order is-count found is-entry is-copied is-parts =
    let all = sections_from big bytes (half_in big bytes 2) 76 in
    let whole : List Part = filter_map (part_of bytes) all in
    let are-parts : parts ≡ whole = is-parts ∙ ap (λ (n : ℕ). filter_map (part_of bytes) (sections_from big bytes n 76)) is-count in
    let made = λ (n : ℕ) (l : List ℕ) (ps : List Part). image_made n text.addr big l ps in (
      e,
      text,
      find_in bytes big text order found,
      ap (λ (n : ℕ). made n copied parts) is-entry
          ∙ ap (λ (l : List ℕ). made (word_in big bytes 36) l parts) is-copied
          ∙ ap (λ (ps : List Part). made (word_in big bytes 36) (section_bytes bytes text) ps) are-parts
          ∙ ap (λ (b : Bool). image_with b bytes text) order,
    )

pub is_read : (bytes : List ℕ) (result : Result Image ObjectFault) → ((i : ℕ) → get_or bytes i 0 < 256) → ReadsBySteps bytes result → Reads bytes result
is_read bytes (Ok image) fits h = subst (IsObject bytes) (sym h.3) (is_described bytes h.1 fits h.0 h.2)
is_read bytes (Err (faults.Bad at reason)) fits h = h
is_read bytes (Err faults.OutOfMemory) fits h = h

pub is_image : (bytes : List ℕ) (result : Result Image ObjectFault) → Reads bytes result → IfOk result IsImage
is_image bytes (Ok image) h = h.limits
is_image bytes (Err fault) h = tt

some_text : (found : Option Section) (all : List Section) → first_failing (text_check found ∷ overlap_checks found all) ≡ None → (text : Section) × (found ≡ Some text)
some_text None all h = absurd cc
some_text (Some t) all h = (t, refl)

-- where no check fails there is an image
pub image_of : (bytes : List ℕ) → ((i : ℕ) → get_or bytes i 0 < 256) → refusal bytes ≡ None → (image : Image) × IsObject bytes image
image_of bytes fits e =
    let all = sections (is_big bytes) bytes in
    let text = some_text (find is_text all) all (none_fails bytes e).behind in
    (image_with (is_big bytes) bytes text.0, is_described bytes text.0 fits e text.1)
