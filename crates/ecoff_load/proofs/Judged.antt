-- Judging the sections in turn, as the loops do.
use Rattle.std.proofs.Common.{◌≡◌, ℕ, suc, ◌+◌, ◌-◌, ◌*◌, ◌<◌, ◌≤◌, Bool, true, false, cond, List, [], ◌∷◌, ◌++◌, length, Option, Some, None, refl, sym, ap, ◌∙◌, arith}
use Rattle.std.specs.Prelude.{is_some, ◌||◌}
use Rattle.std.specs.List.{find}
use Rattle.ecoff_load.specs.declared.section.Section.{Section}
use Rattle.ecoff_load.specs.declared.fault.Refusal.{Refusal}
use Rattle.ecoff_load.specs.declared.fault.ObjectWhy.TheVariants as why
use Rattle.ecoff_load.specs.Words.{half_in}
use Rattle.ecoff_load.specs.Sections.{section_at, sections_from, sections, is_text, part_kind}
use Rattle.ecoff_load.specs.Checks.{Check, first_failing, is_big, header_checks, section_checks, sections_checks, text_check, overlap_check, overlap_checks, checks, refusal}
use Rattle.ecoff_load.specs.Reading.{first_of}
use Rattle.ecoff_load.proofs.FirstFailing.{behind_none, in_front}

-- the next section of those that are left
pub next_section : (big : Bool) (bytes : List ℕ) (count i at : ℕ) → i < count → sections_from big bytes (count - i) at ≡ section_at big bytes at ∷ sections_from big bytes (count - (i + 1)) (at + 40)
next_section big bytes count i at lt =
    let k : count - i ≡ suc (count - (i + 1)) = omega arith in
    ap (λ (n : ℕ). sections_from big bytes n at) k

pub none_left : (big : Bool) (bytes : List ℕ) (count i at : ℕ) → count ≤ i → sections_from big bytes (count - i) at ≡ []
none_left big bytes count i at le =
    let k : count - i ≡ 0 = omega arith in
    ap (λ (n : ℕ). sections_from big bytes n at) k

-- the verdict and the text section of all sections are those of the ones that are left, with what was found
pub record Left (big : Bool) (bytes : List ℕ) (count i at : ℕ) (text : Option Section) : Type 0 where
  pub place : at ≡ 76 + 40 * i
  pub verdict : first_failing (sections_checks (length bytes) (is_some text) (sections_from big bytes (count - i) at)) ≡ first_failing (sections_checks (length bytes) false (sections_from big bytes count 76))
  pub found : first_of text (find is_text (sections_from big bytes (count - i) at)) ≡ find is_text (sections_from big bytes count 76)

seen_so_far : (text : Option Section) (b : Bool) (s : Section) → is_some (first_of text (cond b (Some s) None)) ≡ (is_some text || b)
seen_so_far None true s = refl
seen_so_far None false s = refl
seen_so_far (Some t) b s = refl

found_so_far : (text : Option Section) (b : Bool) (s : Section) (rest : Option Section) → first_of (first_of text (cond b (Some s) None)) rest ≡ first_of text (cond b (Some s) rest)
found_so_far None true s rest = refl
found_so_far None false s rest = refl
found_so_far (Some t) b s rest = refl

first_none : (text : Option Section) → text ≡ first_of text None
first_none None = refl
first_none (Some t) = refl

pub sections_go : (big : Bool) (bytes : List ℕ) (count i at after : ℕ) (text more : Option Section) (second : Bool) (s : Section) → i < count → s ≡ section_at big bytes at → after ≡ at + 40 → more ≡ first_of text (cond (is_text s) (Some s) None)
    → second ≡ is_some text → first_failing (section_checks (length bytes) second s) ≡ None → Left big bytes count i at text → Left big bytes count (i + 1) after more
sections_go big bytes count i at after text more second s lt is-s is-after is-more is-second held left =
    let size = length bytes in
    let passed : first_failing (section_checks size (is_some text) s) ≡ None = ap (λ (b : Bool). first_failing (section_checks size b s)) (sym is-second) ∙ held in
    let rest = sections_from big bytes (count - (i + 1)) (at + 40) in
    let all = sections_from big bytes count 76 in
    let here : sections_from big bytes (count - i) at ≡ s ∷ rest = next_section big bytes count i at lt ∙ ap (λ (x : Section). x ∷ rest) (sym is-s) in
    let there : sections_from big bytes (count - (i + 1)) after ≡ rest = ap (sections_from big bytes (count - (i + 1))) is-after in
    let seen : is_some more ≡ (is_some text || is_text s) = ap is_some is-more ∙ seen_so_far text (is_text s) s in
    let verdict : first_failing (sections_checks size (is_some text || is_text s) rest) ≡ first_failing (sections_checks size false all) =
    sym (behind_none (section_checks size (is_some text) s) (sections_checks size (is_some text || is_text s) rest) passed)
    ∙ ap (λ (l : List Section). first_failing (sections_checks size (is_some text) l)) (sym here) ∙ left.verdict in
    record {
      place = omega (arith, left.place, is-after);
      verdict = ap (λ (l : List Section). first_failing (sections_checks size (is_some more) l)) there ∙ ap (λ (b : Bool). first_failing (sections_checks size b rest)) seen ∙ verdict;
      found = ap (λ (l : List Section). first_of more (find is_text l)) there ∙ ap (λ (t : Option Section). first_of t (find is_text rest)) is-more
          ∙ found_so_far text (is_text s) s (find is_text rest) ∙ ap (λ (l : List Section). first_of text (find is_text l)) (sym here) ∙ left.found;
    }

-- a section is refused
pub sections_stop : (big : Bool) (bytes : List ℕ) (count i at : ℕ) (text : Option Section) (second : Bool) (s : Section) (r : Refusal) → i < count → s ≡ section_at big bytes at
    → second ≡ is_some text → first_failing (section_checks (length bytes) second s) ≡ Some r → Left big bytes count i at text → first_failing (sections_checks (length bytes) false (sections_from big bytes count 76)) ≡ Some r
sections_stop big bytes count i at text second s r lt is-s is-second told left =
    let size = length bytes in
    let failed : first_failing (section_checks size (is_some text) s) ≡ Some r = ap (λ (b : Bool). first_failing (section_checks size b s)) (sym is-second) ∙ told in
    let rest = sections_from big bytes (count - (i + 1)) (at + 40) in
    let here : sections_from big bytes (count - i) at ≡ s ∷ rest = next_section big bytes count i at lt ∙ ap (λ (x : Section). x ∷ rest) (sym is-s) in
    sym left.verdict ∙ ap (λ (l : List Section). first_failing (sections_checks size (is_some text) l)) here
    ∙ in_front (section_checks size (is_some text) s) (sections_checks size (is_some text || is_text s) rest) r failed

-- all are looked at
pub sections_end : (big : Bool) (bytes : List ℕ) (count i at : ℕ) (text : Option Section) → count ≤ i → Left big bytes count i at text
    → (first_failing (sections_checks (length bytes) false (sections_from big bytes count 76)) ≡ None) × (text ≡ find is_text (sections_from big bytes count 76))
sections_end big bytes count i at text le left =
    let none = none_left big bytes count i at le in (
      sym left.verdict ∙ ap (λ (l : List Section). first_failing (sections_checks (length bytes) (is_some text) l)) none,
      first_none text ∙ ap (λ (l : List Section). first_of text (find is_text l)) (sym none) ∙ left.found,
    )

-- ---- overlaps

pub record Beside (big : Bool) (bytes : List ℕ) (count i at : ℕ) (text : Section) : Type 0 where
  pub place : at ≡ 76 + 40 * i
  pub verdict : first_failing (overlap_checks (Some text) (sections_from big bytes (count - i) at)) ≡ first_failing (overlap_checks (Some text) (sections_from big bytes count 76))

pub overlaps_go : (big : Bool) (bytes : List ℕ) (count i at after : ℕ) (text s : Section) → i < count → s ≡ section_at big bytes at → after ≡ at + 40
    → first_failing (overlap_check text s (part_kind s.flags)) ≡ None → Beside big bytes count i at text → Beside big bytes count (i + 1) after text
overlaps_go big bytes count i at after text s lt is-s is-after passed left =
    let rest = sections_from big bytes (count - (i + 1)) (at + 40) in
    let here : sections_from big bytes (count - i) at ≡ s ∷ rest = next_section big bytes count i at lt ∙ ap (λ (x : Section). x ∷ rest) (sym is-s) in
    record {
      place = omega (arith, left.place, is-after);
      verdict = ap (λ (n : ℕ). first_failing (overlap_checks (Some text) (sections_from big bytes (count - (i + 1)) n))) is-after
          ∙ sym (behind_none (overlap_check text s (part_kind s.flags)) (overlap_checks (Some text) rest) passed)
          ∙ ap (λ (l : List Section). first_failing (overlap_checks (Some text) l)) (sym here) ∙ left.verdict;
    }

pub overlaps_stop : (big : Bool) (bytes : List ℕ) (count i at : ℕ) (text s : Section) (r : Refusal) → i < count → s ≡ section_at big bytes at
    → first_failing (overlap_check text s (part_kind s.flags)) ≡ Some r → Beside big bytes count i at text → first_failing (overlap_checks (Some text) (sections_from big bytes count 76)) ≡ Some r
overlaps_stop big bytes count i at text s r lt is-s failed left =
    let rest = sections_from big bytes (count - (i + 1)) (at + 40) in
    let here : sections_from big bytes (count - i) at ≡ s ∷ rest = next_section big bytes count i at lt ∙ ap (λ (x : Section). x ∷ rest) (sym is-s) in
    sym left.verdict ∙ ap (λ (l : List Section). first_failing (overlap_checks (Some text) l)) here
    ∙ in_front (overlap_check text s (part_kind s.flags)) (overlap_checks (Some text) rest) r failed

pub overlaps_end : (big : Bool) (bytes : List ℕ) (count i at : ℕ) (text : Section) → count ≤ i → Beside big bytes count i at text → first_failing (overlap_checks (Some text) (sections_from big bytes count 76)) ≡ None
overlaps_end big bytes count i at text le left =
    sym left.verdict ∙ ap (λ (l : List Section). first_failing (overlap_checks (Some text) l)) (none_left big bytes count i at le)

-- ---- the whole file

-- the checks behind those of the headers, in a byte order and for a number of sections
abbrev behind_headers : List ℕ → List Section → List Check
behind_headers bytes all = sections_checks (length bytes) false all ++ text_check (find is_text all) ∷ overlap_checks (find is_text all) all

headers_pass : (big : Bool) (bytes : List ℕ) (count : ℕ) → first_failing (header_checks bytes) ≡ None → big ≡ is_big bytes → count ≡ half_in big bytes 2 → refusal bytes ≡ first_failing (behind_headers bytes (sections_from big bytes count 76))
unfolding checks sections
headers_pass big bytes count passed is-big is-count =
    behind_none (header_checks bytes) (behind_headers bytes (sections_from (is_big bytes) bytes (half_in (is_big bytes) bytes 2) 76)) passed
    ∙ ap (λ (b : Bool). first_failing (behind_headers bytes (sections_from b bytes (half_in b bytes 2) 76))) (sym is-big)
    ∙ ap (λ (n : ℕ). first_failing (behind_headers bytes (sections_from big bytes n 76))) (sym is-count)

pub headers_fail : (bytes : List ℕ) (r : Refusal) → first_failing (header_checks bytes) ≡ Some r → refusal bytes ≡ Some r
unfolding checks
headers_fail bytes r failed = in_front (header_checks bytes) (behind_headers bytes (sections (is_big bytes) bytes)) r failed

pub section_fails : (big : Bool) (bytes : List ℕ) (count : ℕ) (r : Refusal) → first_failing (header_checks bytes) ≡ None → big ≡ is_big bytes → count ≡ half_in big bytes 2
    → first_failing (sections_checks (length bytes) false (sections_from big bytes count 76)) ≡ Some r → refusal bytes ≡ Some r
section_fails big bytes count r passed is-big is-count failed =
    let all = sections_from big bytes count 76 in
    headers_pass big bytes count passed is-big is-count ∙ in_front (sections_checks (length bytes) false all) (text_check (find is_text all) ∷ overlap_checks (find is_text all) all) r failed

sections_pass : (big : Bool) (bytes : List ℕ) (count : ℕ) (text : Option Section) → first_failing (header_checks bytes) ≡ None → big ≡ is_big bytes → count ≡ half_in big bytes 2
    → first_failing (sections_checks (length bytes) false (sections_from big bytes count 76)) ≡ None → text ≡ find is_text (sections_from big bytes count 76)
    → refusal bytes ≡ first_failing (text_check text ∷ overlap_checks text (sections_from big bytes count 76))
sections_pass big bytes count text passed is-big is-count sections_passed is-text =
    let all = sections_from big bytes count 76 in
    headers_pass big bytes count passed is-big is-count ∙ behind_none (sections_checks (length bytes) false all) (text_check (find is_text all) ∷ overlap_checks (find is_text all) all) sections_passed
    ∙ ap (λ (t : Option Section). first_failing (text_check t ∷ overlap_checks t all)) (sym is-text)

pub no_text : (big : Bool) (bytes : List ℕ) (count : ℕ) (r : Refusal) → first_failing (header_checks bytes) ≡ None → big ≡ is_big bytes → count ≡ half_in big bytes 2
    → first_failing (sections_checks (length bytes) false (sections_from big bytes count 76)) ≡ None → None ≡ find is_text (sections_from big bytes count 76)
    → r ≡ record { at = 2; why = why.NoText } → refusal bytes ≡ Some r
no_text big bytes count r passed is-big is-count sections_passed is-text is-r =
    sections_pass big bytes count None passed is-big is-count sections_passed is-text ∙ ap (λ (x : Refusal). Some x) (sym is-r)

pub with_text : (big : Bool) (bytes : List ℕ) (count : ℕ) (text : Section) → first_failing (header_checks bytes) ≡ None → big ≡ is_big bytes → count ≡ half_in big bytes 2
    → first_failing (sections_checks (length bytes) false (sections_from big bytes count 76)) ≡ None → Some text ≡ find is_text (sections_from big bytes count 76)
    → refusal bytes ≡ first_failing (overlap_checks (Some text) (sections_from big bytes count 76))
with_text big bytes count text passed is-big is-count sections_passed is-text = sections_pass big bytes count (Some text) passed is-big is-count sections_passed is-text

pub its_text : (big : Bool) (bytes : List ℕ) (count : ℕ) (text : Section) → count ≡ half_in big bytes 2 → Some text ≡ find is_text (sections_from big bytes count 76) → find is_text (sections big bytes) ≡ Some text
unfolding sections
its_text big bytes count text is-count is-text = ap (λ (n : ℕ). find is_text (sections_from big bytes n 76)) (sym is-count) ∙ sym is-text
