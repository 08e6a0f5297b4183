-- What it says of a section that the checks of it hold, and the other way round.
use Rattle.std.proofs.Common.{◌≡◌, ℕ, ◌+◌, ◌%◌, ◌≤◌, ◌⊎◌, Bool, true, false, cond, eqb, leb, ltb, List, [], ◌∷◌, Option, Some, None, refl, sym, ap, subst, ◌∙◌, arith, inl, inr}
use Rattle.std.specs.Prelude.{◌||◌, ◌&&◌, not}
use Rattle.std.specs.List.{AllByRecursion}
use Rattle.std.proofs.lemmas.Bool.{eqb-true, eq-eqb, leb-true, le-leb, ltb-false, le-ltb, not-true, not_from_false, and_parts, and_from, and_cases, and_left, and_right}
use Rattle.ecoff_load.specs.declared.section.Section.{Section}
use Rattle.ecoff_load.specs.declared.image.Kind.{Kind}
use Rattle.ecoff_load.specs.declared.fault.ObjectWhy.TheVariants as why
use Rattle.ecoff_load.specs.Sections.{part_kind, brings_bytes, is_text}
use Rattle.ecoff_load.specs.Checks.{Check, check, first_failing, range_check, file_check, text_checks, part_checks, section_checks, sections_checks, lies_on, overlap_check, overlap_checks}
use Rattle.ecoff_load.specs.Reading.{KindInFile, InFile}
use Rattle.ecoff_load.proofs.FirstFailing.{first_holds, holds_first, behind_none, both_none}

-- ---- text

pub record TextPassed (size : ℕ) (second : Bool) (s : Section) : Type 0 where
  pub first : second ≡ false
  pub align : s.addr % 8 ≡ 0
  pub least : 8 ≤ s.size
  pub most : s.size ≤ 4194304
  pub range : s.addr + s.size ≤ 0x7ff00000
  pub file : s.pointer + s.size ≤ size

abbrev align_check : Section → Check
align_check s = check (eqb (s.addr % 8) 0) (s.at + 12) why.TextAlign

abbrev size_check : Section → Check
size_check s = check (leb 8 s.size && leb s.size 4194304) (s.at + 16) why.TextSize

text_passed : (size : ℕ) (second : Bool) (s : Section) → first_failing (text_checks size second s) ≡ None → TextPassed size second s
text_passed size second s e =
    let l4 : List Check = file_check size s ∷ [] in
    let l3 : List Check = range_check s ∷ l4 in
    let l2 : List Check = size_check s ∷ l3 in
    let l1 : List Check = align_check s ∷ l2 in
    let p0 = first_holds (check (not second) (s.at + 36) why.TextTwice) l1 e in
    let p1 = first_holds (align_check s) l2 p0.1 in
    let p2 = first_holds (size_check s) l3 p1.1 in
    let p3 = first_holds (range_check s) l4 p2.1 in
    let p4 = first_holds (file_check size s) [] p3.1 in
    let sizes = and_parts (leb 8 s.size) (leb s.size 4194304) p2.0 in
    record {
      first = not-true second p0.0;
      align = eqb-true (s.addr % 8) 0 p1.0;
      least = leb-true 8 s.size sizes.0;
      most = leb-true s.size 4194304 sizes.1;
      range = leb-true (s.addr + s.size) 0x7ff00000 p3.0;
      file = leb-true (s.pointer + s.size) size p4.0;
    }

text_pass : (size : ℕ) (second : Bool) (s : Section) → TextPassed size second s → first_failing (text_checks size second s) ≡ None
text_pass size second s p =
    let l4 : List Check = file_check size s ∷ [] in
    let l3 : List Check = range_check s ∷ l4 in
    let l2 : List Check = size_check s ∷ l3 in
    let l1 : List Check = align_check s ∷ l2 in
    holds_first (check (not second) (s.at + 36) why.TextTwice) l1 (not_from_false second p.first)
    (holds_first (align_check s) l2 (eq-eqb (s.addr % 8) 0 p.align)
    (holds_first (size_check s) l3 (and_from (leb 8 s.size) (leb s.size 4194304) (le-leb 8 s.size p.least) (le-leb s.size 4194304 p.most))
    (holds_first (range_check s) l4 (le-leb (s.addr + s.size) 0x7ff00000 p.range)
    (holds_first (file_check size s) [] (le-leb (s.pointer + s.size) size p.file) refl))))

-- ---- parts

abbrev pub KindPassed : ℕ → Section → Option Kind → Type 0
KindPassed size s None = Unit {0}
KindPassed size s (Some kind) = (s.addr + s.size ≤ 0x7ff00000) × (brings_bytes kind ≡ true → s.pointer + s.size ≤ size)

file_passed : (size : ℕ) (s : Section) (b : Bool) → first_failing (cond b (file_check size s ∷ []) []) ≡ None → b ≡ true → s.pointer + s.size ≤ size
file_passed size s true e t = leb-true (s.pointer + s.size) size (first_holds (file_check size s) [] e).0
file_passed size s false e t = absurd cc

file_pass : (size : ℕ) (s : Section) (b : Bool) → (b ≡ true → s.pointer + s.size ≤ size) → first_failing (cond b (file_check size s ∷ []) []) ≡ None
file_pass size s true h = holds_first (file_check size s) [] (le-leb (s.pointer + s.size) size (h refl)) refl
file_pass size s false h = refl

part_passed : (size : ℕ) (s : Section) (k : Option Kind) → first_failing (part_checks size s k) ≡ None → KindPassed size s k
part_passed size s None e = tt
part_passed size s (Some kind) e =
    let rest : List Check = cond (brings_bytes kind) (file_check size s ∷ []) [] in
    let p = first_holds (range_check s) rest e in
    (leb-true (s.addr + s.size) 0x7ff00000 p.0, file_passed size s (brings_bytes kind) p.1)

part_pass : (size : ℕ) (s : Section) (k : Option Kind) → KindPassed size s k → first_failing (part_checks size s k) ≡ None
part_pass size s None h = refl
part_pass size s (Some kind) h =
    let rest : List Check = cond (brings_bytes kind) (file_check size s ∷ []) [] in
    holds_first (range_check s) rest (le-leb (s.addr + s.size) 0x7ff00000 h.0) (file_pass size s (brings_bytes kind) h.1)

-- ---- sections

-- text has no kind of part
pub text_no_kind : (s : Section) → is_text s ≡ true → part_kind s.flags ≡ None
text_no_kind s e = ap part_kind (eqb-true s.flags 0x20 e)

pub record Passed (size : ℕ) (second : Bool) (s : Section) : Type 0 where
  pub text : is_text s ≡ true → TextPassed size second s
  pub part : KindPassed size s (part_kind s.flags)

section_passed_by : (size : ℕ) (second : Bool) (s : Section) (b : Bool) (k : Option Kind) → (b ≡ true → k ≡ None) → first_failing (cond b (text_checks size second s) (part_checks size s k)) ≡ None
    → (b ≡ true → TextPassed size second s) × KindPassed size s k
section_passed_by size second s true k none e = (λ _. text_passed size second s e, subst (KindPassed size s) (sym (none refl)) tt)
section_passed_by size second s false k none e = (λ f. absurd cc, part_passed size s k e)

section_pass_by : (size : ℕ) (second : Bool) (s : Section) (b : Bool) (k : Option Kind) → (b ≡ true → TextPassed size second s) → KindPassed size s k
    → first_failing (cond b (text_checks size second s) (part_checks size s k)) ≡ None
section_pass_by size second s true k text part = text_pass size second s (text refl)
section_pass_by size second s false k text part = part_pass size s k part

abbrev pub AllPassed : ℕ → Bool → List Section → Type 0
AllPassed size seen [] = Unit {0}
AllPassed size seen (s ∷ ss) = Passed size seen s × AllPassed size (seen || is_text s) ss

pub sections_passed : (size : ℕ) (seen : Bool) (ss : List Section) → first_failing (sections_checks size seen ss) ≡ None → AllPassed size seen ss
sections_passed size seen [] e = tt
sections_passed size seen (s ∷ ss) e =
    let p = both_none (section_checks size seen s) (sections_checks size (seen || is_text s) ss) e in
    let q = section_passed_by size seen s (is_text s) (part_kind s.flags) (text_no_kind s) p.0 in
    (record { text = q.0; part = q.1 }, sections_passed size (seen || is_text s) ss p.1)

pub sections_pass : (size : ℕ) (seen : Bool) (ss : List Section) → AllPassed size seen ss → first_failing (sections_checks size seen ss) ≡ None
sections_pass size seen [] h = refl
sections_pass size seen (s ∷ ss) h =
    behind_none (section_checks size seen s) (sections_checks size (seen || is_text s) ss) (section_pass_by size seen s (is_text s) (part_kind s.flags) h.0.text h.0.part)
    ∙ sections_pass size (seen || is_text s) ss h.1

kind_in_file : (size : ℕ) (s : Section) (k : Option Kind) → KindPassed size s k → KindInFile size s k
kind_in_file size s None h = tt
kind_in_file size s (Some kind) h = h.1

-- what a section brings is in the file
pub all_in_file : (size : ℕ) (seen : Bool) (ss : List Section) → AllPassed size seen ss → AllByRecursion (InFile size) ss
all_in_file size seen [] h = tt
all_in_file size seen (s ∷ ss) h = (kind_in_file size s (part_kind s.flags) h.0.part, all_in_file size (seen || is_text s) ss h.1)

-- ---- overlaps

-- a section whose bytes lie beside the text's
abbrev pub LiesBeside : Section → Section → Type 0
LiesBeside text s = (s.size ≡ 0) ⊎ ((s.addr + s.size ≤ text.addr) ⊎ (text.addr + text.size ≤ s.addr))

lies_beside : (text s : Section) → lies_on text s ≡ false → LiesBeside text s
lies_beside text s e =
    elim (and_cases (ltb 0 s.size) (ltb text.addr (s.addr + s.size) && ltb s.addr (text.addr + text.size)) e) [
      | inl h ↦ inl (omega (arith, ltb-false 0 s.size h))
      | inr h ↦
          elim (and_cases (ltb text.addr (s.addr + s.size)) (ltb s.addr (text.addr + text.size)) h) [
            | inl g ↦ inr (inl (ltb-false text.addr (s.addr + s.size) g))
            | inr g ↦ inr (inr (ltb-false s.addr (text.addr + text.size) g))
          ]
    ]

not_on : (text s : Section) → LiesBeside text s → lies_on text s ≡ false
not_on text s (inl h) = and_left (ltb 0 s.size) (ltb text.addr (s.addr + s.size) && ltb s.addr (text.addr + text.size)) (le-ltb 0 s.size (omega arith))
not_on text s (inr (inl h)) =
    and_right (ltb 0 s.size) (ltb text.addr (s.addr + s.size) && ltb s.addr (text.addr + text.size)) (and_left (ltb text.addr (s.addr + s.size)) (ltb s.addr (text.addr + text.size)) (le-ltb text.addr (s.addr + s.size) h))
not_on text s (inr (inr h)) =
    and_right (ltb 0 s.size) (ltb text.addr (s.addr + s.size) && ltb s.addr (text.addr + text.size)) (and_right (ltb text.addr (s.addr + s.size)) (ltb s.addr (text.addr + text.size)) (le-ltb s.addr (text.addr + text.size) h))

abbrev pub KindBeside : Section → Section → Option Kind → Type 0
KindBeside text s None = Unit {0}
KindBeside text s (Some kind) = brings_bytes kind ≡ true → LiesBeside text s

abbrev beside_check : Section → Section → Check
beside_check text s = check (not (lies_on text s)) (s.at + 12) why.Overlap

beside_passed : (text s : Section) (b : Bool) → first_failing (cond b (beside_check text s ∷ []) []) ≡ None → b ≡ true → LiesBeside text s
beside_passed text s true e t = lies_beside text s (not-true (lies_on text s) (first_holds (beside_check text s) [] e).0)
beside_passed text s false e t = absurd cc

beside_pass : (text s : Section) (b : Bool) → (b ≡ true → LiesBeside text s) → first_failing (cond b (beside_check text s ∷ []) []) ≡ None
beside_pass text s true h = holds_first (beside_check text s) [] (not_from_false (lies_on text s) (not_on text s (h refl))) refl
beside_pass text s false h = refl

overlap_passed : (text s : Section) (k : Option Kind) → first_failing (overlap_check text s k) ≡ None → KindBeside text s k
overlap_passed text s None e = tt
overlap_passed text s (Some kind) e = beside_passed text s (brings_bytes kind) e

overlap_pass : (text s : Section) (k : Option Kind) → KindBeside text s k → first_failing (overlap_check text s k) ≡ None
overlap_pass text s None h = refl
overlap_pass text s (Some kind) h = beside_pass text s (brings_bytes kind) h

abbrev pub IsBeside : Section → Section → Type 0
IsBeside text s = KindBeside text s (part_kind s.flags)

pub overlaps_passed : (text : Section) (ss : List Section) → first_failing (overlap_checks (Some text) ss) ≡ None → AllByRecursion (IsBeside text) ss
overlaps_passed text [] e = tt
overlaps_passed text (s ∷ ss) e =
    let p = both_none (overlap_check text s (part_kind s.flags)) (overlap_checks (Some text) ss) e in
    (overlap_passed text s (part_kind s.flags) p.0, overlaps_passed text ss p.1)

pub overlaps_pass : (text : Section) (ss : List Section) → AllByRecursion (IsBeside text) ss → first_failing (overlap_checks (Some text) ss) ≡ None
overlaps_pass text [] h = refl
overlaps_pass text (s ∷ ss) h =
    behind_none (overlap_check text s (part_kind s.flags)) (overlap_checks (Some text) ss) (overlap_pass text s (part_kind s.flags) h.0) ∙ overlaps_pass text ss h.1
