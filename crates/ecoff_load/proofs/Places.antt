-- A refusal stands in the file: Short at its end, every other one at a byte of it.
use Rattle.std.proofs.Common.{◌≡◌, ℕ, zero, suc, ◌+◌, ◌*◌, ◌<◌, ◌≤◌, ◌⊎◌, Bool, true, false, cond, eqb, leb, List, [], ◌∷◌, ◌++◌, length, Option, Some, None, Result, Ok, Err, refl, sym, ap, ◌∙◌, arith, inl, inr}
use Rattle.std.specs.Prelude.{◌||◌, ◌&&◌, not, IfErr}
use Rattle.std.specs.List.{AllByRecursion, find}
use Rattle.std.proofs.lemmas.Bool.{leb-true}
use Rattle.ecoff_load.specs.declared.section.Section.{Section}
use Rattle.ecoff_load.specs.declared.image.Kind.{Kind}
use Rattle.ecoff_load.specs.declared.image.Image.{Image}
use Rattle.ecoff_load.specs.declared.fault.ObjectWhy.{ObjectWhy}
use Rattle.ecoff_load.specs.declared.fault.ObjectWhy.TheVariants as why
use Rattle.ecoff_load.specs.declared.fault.Refusal.{Refusal}
use Rattle.ecoff_load.specs.declared.fault.ObjectFault.{ObjectFault}
use Rattle.ecoff_load.specs.declared.fault.ObjectFault.TheVariants as faults
use Rattle.ecoff_load.specs.Words.{half_in}
use Rattle.ecoff_load.specs.Sections.{sections_from, sections, part_kind, brings_bytes, is_text}
use Rattle.ecoff_load.specs.Checks.{Check, check, first_failing, is_big, is_little, header_checks, file_check, text_checks, part_checks, section_checks, sections_checks, text_check, lies_on, overlap_check, overlap_checks, checks, refusal, Reads, IsPlaced, Placed}
use Rattle.ecoff_load.proofs.Described.{headers_passed}

abbrev is_field : ObjectWhy → Bool
is_field why.Short = false
is_field why.Magic = true
is_field why.Sections = true
is_field why.OptHeader = true
is_field why.TextTwice = true
is_field why.TextAlign = true
is_field why.TextSize = true
is_field why.Range = true
is_field why.NoText = true
is_field why.Overlap = true

not_both : {X : Type 0} (b : Bool) → b ≡ true → b ≡ false → X
not_both true e f = absurd cc
not_both false e f = absurd cc

at_field : (size at : ℕ) (reason : ObjectWhy) → is_field reason ≡ true → at < size → IsPlaced size at reason
at_field size at reason h lt = record { short = λ e. not_both (is_field reason) h (ap is_field e); field = λ _. lt }

at_end : (size : ℕ) → IsPlaced size size why.Short
at_end size = record { short = λ _. refl; field = λ h. absurd (h refl) }

abbrev RefusalPlaced : ℕ → Refusal → Type 0
RefusalPlaced size r = IsPlaced size r.at r.why

abbrev CheckPlaced : ℕ → Check → Type 0
CheckPlaced size c = IsPlaced size c.at c.why

abbrev found_at : Option Refusal → ℕ
found_at None = 0
found_at (Some r) = r.at

abbrev found_why : Option Refusal → ObjectWhy
found_why None = why.Short
found_why (Some r) = r.why

same_placed : (size : ℕ) (q r : Refusal) → Some q ≡ Some r → RefusalPlaced size q → RefusalPlaced size r
same_placed size q r e h =
    let at : q.at ≡ r.at = ap found_at e in
    let reason : q.why ≡ r.why = ap found_why e in
    record { short = λ s. sym at ∙ h.short (reason ∙ s); field = λ s. omega (arith, at, h.field (λ t. s (sym reason ∙ t))) }

then_by : (size : ℕ) (b : Bool) (q r : Refusal) (rest : Option Refusal) → RefusalPlaced size q → (b ≡ true → rest ≡ Some r → RefusalPlaced size r) → cond b rest (Some q) ≡ Some r → RefusalPlaced size r
then_by size true q r rest h more e = more refl e
then_by size false q r rest h more e = same_placed size q r e h

-- the check fails at a place, or it holds and those behind it are looked at
placed_then : (size : ℕ) (c : Check) (cs : List Check) (r : Refusal) → CheckPlaced size c → (c.holds ≡ true → first_failing cs ≡ Some r → RefusalPlaced size r) → first_failing (c ∷ cs) ≡ Some r → RefusalPlaced size r
placed_then size c cs r h more e = then_by size c.holds (record { at = c.at; why = c.why }) r (first_failing cs) h more e

all_placed : (size : ℕ) (cs : List Check) (r : Refusal) → AllByRecursion (CheckPlaced size) cs → first_failing cs ≡ Some r → RefusalPlaced size r
all_placed size [] r h e = absurd cc
all_placed size (c ∷ cs) r h e = placed_then size c cs r h.0 (λ _. all_placed size cs r h.1) e

joined_placed : (size : ℕ) (xs ys : List Check) → AllByRecursion (CheckPlaced size) xs → AllByRecursion (CheckPlaced size) ys → AllByRecursion (CheckPlaced size) (xs ++ ys)
joined_placed size [] ys h k = k
joined_placed size (x ∷ xs) ys h k = (h.0, joined_placed size xs ys h.1 k)

-- ---- headers

headers_placed : (bytes : List ℕ) (r : Refusal) → first_failing (header_checks bytes) ≡ Some r → RefusalPlaced (length bytes) r
unfolding header_checks
headers_placed bytes r e =
    let size = length bytes in
    let big = is_big bytes in
    let count = half_in big bytes 2 in
    let l4 : List Check = check (leb (76 + 40 * count) size) size why.Short ∷ [] in
    let l3 : List Check = check (eqb (half_in big bytes 16) 56) 16 why.OptHeader ∷ l4 in
    let l2 : List Check = check (leb 1 count && leb count 16) 2 why.Sections ∷ l3 in
    let l1 : List Check = check (is_little bytes || big) 0 why.Magic ∷ l2 in
    placed_then size (check (leb 20 size) size why.Short) l1 r (at_end size)
    (λ h. let low = leb-true 20 size h in
    all_placed size l1 r (at_field size 0 why.Magic refl (omega (arith, low)), (at_field size 2 why.Sections refl (omega (arith, low)), (at_field size 16 why.OptHeader refl (omega (arith, low)), (at_end size, tt))))) e

-- ---- sections

abbrev HeaderInside : ℕ → Section → Type 0
HeaderInside size s = s.at + 40 ≤ size

headers_inside : (big : Bool) (bytes : List ℕ) (count at size : ℕ) → at + 40 * count ≤ size → AllByRecursion (HeaderInside size) (sections_from big bytes count at)
headers_inside big bytes zero at size le = tt
headers_inside big bytes (suc n) at size le = (omega (arith, le), headers_inside big bytes n (at + 40) size (omega (arith, le)))

range_placed : (size : ℕ) (s : Section) → HeaderInside size s → IsPlaced size (s.at + 12) why.Range
range_placed size s le = at_field size (s.at + 12) why.Range refl (omega (arith, le))

text_placed : (size : ℕ) (second : Bool) (s : Section) → HeaderInside size s → AllByRecursion (CheckPlaced size) (text_checks size second s)
text_placed size second s le =
    (at_field size (s.at + 36) why.TextTwice refl (omega (arith, le)), (at_field size (s.at + 12) why.TextAlign refl (omega (arith, le)), (at_field size (s.at + 16) why.TextSize refl (omega (arith, le)), (range_placed size s le, (at_end size, tt)))))

file_placed : (size : ℕ) (s : Section) (b : Bool) → AllByRecursion (CheckPlaced size) (cond b (file_check size s ∷ []) [])
file_placed size s true = (at_end size, tt)
file_placed size s false = tt

part_placed : (size : ℕ) (s : Section) (k : Option Kind) → HeaderInside size s → AllByRecursion (CheckPlaced size) (part_checks size s k)
part_placed size s None le = tt
part_placed size s (Some kind) le = (range_placed size s le, file_placed size s (brings_bytes kind))

section_placed : (size : ℕ) (second : Bool) (s : Section) (b : Bool) (k : Option Kind) → HeaderInside size s → AllByRecursion (CheckPlaced size) (cond b (text_checks size second s) (part_checks size s k))
section_placed size second s true k le = text_placed size second s le
section_placed size second s false k le = part_placed size s k le

sections_placed : (size : ℕ) (seen : Bool) (ss : List Section) → AllByRecursion (HeaderInside size) ss → AllByRecursion (CheckPlaced size) (sections_checks size seen ss)
sections_placed size seen [] h = tt
sections_placed size seen (s ∷ ss) h =
    joined_placed size (section_checks size seen s) (sections_checks size (seen || is_text s) ss) (section_placed size seen s (is_text s) (part_kind s.flags) h.0) (sections_placed size (seen || is_text s) ss h.1)

text_found_placed : (size : ℕ) (found : Option Section) → 2 < size → CheckPlaced size (text_check found)
text_found_placed size None lt = at_field size 2 why.NoText refl lt
text_found_placed size (Some t) lt = at_field size 2 why.NoText refl lt

beside_placed : (size : ℕ) (t s : Section) (b : Bool) → HeaderInside size s → AllByRecursion (CheckPlaced size) (cond b (check (not (lies_on t s)) (s.at + 12) why.Overlap ∷ []) [])
beside_placed size t s true le = (at_field size (s.at + 12) why.Overlap refl (omega (arith, le)), tt)
beside_placed size t s false le = tt

overlap_placed : (size : ℕ) (t s : Section) (k : Option Kind) → HeaderInside size s → AllByRecursion (CheckPlaced size) (overlap_check t s k)
overlap_placed size t s None le = tt
overlap_placed size t s (Some kind) le = beside_placed size t s (brings_bytes kind) le

overlaps_placed : (size : ℕ) (found : Option Section) (ss : List Section) → AllByRecursion (HeaderInside size) ss → AllByRecursion (CheckPlaced size) (overlap_checks found ss)
overlaps_placed size None ss h = tt
overlaps_placed size (Some t) [] h = tt
overlaps_placed size (Some t) (s ∷ ss) h =
    joined_placed size (overlap_check t s (part_kind s.flags)) (overlap_checks (Some t) ss) (overlap_placed size t s (part_kind s.flags) h.0) (overlaps_placed size (Some t) ss h.1)

-- ---- the whole

split_by : (b : Bool) (q r : Refusal) (front both behind : Option Refusal) → (both ≡ Some r → (front ≡ Some r) ⊎ ((front ≡ None) × (behind ≡ Some r))) → cond b both (Some q) ≡ Some r
    → (cond b front (Some q) ≡ Some r) ⊎ ((cond b front (Some q) ≡ None) × (behind ≡ Some r))
split_by true q r front both behind more e = more e
split_by false q r front both behind more e = inl e

-- a list of checks fails in its front part, or behind it
split_refusal : (xs ys : List Check) (r : Refusal) → first_failing (xs ++ ys) ≡ Some r → (first_failing xs ≡ Some r) ⊎ ((first_failing xs ≡ None) × (first_failing ys ≡ Some r))
split_refusal [] ys r e = inr (refl, e)
split_refusal (c ∷ cs) ys r e = split_by c.holds (record { at = c.at; why = c.why }) r (first_failing cs) (first_failing (cs ++ ys)) (first_failing ys) (split_refusal cs ys r) e

pub refusal_placed : (bytes : List ℕ) (r : Refusal) → refusal bytes ≡ Some r → RefusalPlaced (length bytes) r
unfolding checks sections
refusal_placed bytes r e =
    let size = length bytes in
    let all = sections (is_big bytes) bytes in
    let text = find is_text all in
    let behind : List Check = sections_checks size false all ++ text_check text ∷ overlap_checks text all in
    elim (split_refusal (header_checks bytes) behind r e) [
      | inl h ↦ headers_placed bytes r h
      | inr h ↦
          let headers = headers_passed bytes h.0 in
          let inside : AllByRecursion (HeaderInside size) all = headers_inside (is_big bytes) bytes (half_in (is_big bytes) bytes 2) 76 size headers.headers in
          all_placed size behind r
          (joined_placed size (sections_checks size false all) (text_check text ∷ overlap_checks text all) (sections_placed size false all inside)
          (text_found_placed size text (omega (arith, headers.file_header)), overlaps_placed size text all inside)) h.1
    ]

pub is_placed : (bytes : List ℕ) (result : Result Image ObjectFault) → Reads bytes result → IfErr result (Placed (length bytes))
is_placed bytes (Ok image) h = tt
is_placed bytes (Err (faults.Bad at reason)) h = refusal_placed bytes (record { at = at; why = reason }) h
is_placed bytes (Err faults.OutOfMemory) h = tt
