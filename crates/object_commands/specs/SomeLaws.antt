-- Whatever is found in their files, `asm` and `dis` have an outcome.
use Rattle.std.proofs.Common.{◌≡◌, ◌⊎◌, ◌+◌, ◌%◌, ◌^◌, ◌<◌, ◌≤◌, ℕ, suc, Bool, true, false, List, [], ◌∷◌, length, Option, Some, None, Result, Ok, Err, refl, inl, inr, arith}
use Rattle.std.specs.Prelude.{if◌then◌else◌, nat_le}
use Rattle.std.specs.List.{AllByRecursion}
use Rattle.std.proofs.lemmas.Bool.{leb-true, leb-false}
use Rattle.std.proofs.lemmas.Bool.Decides.{eqb_tells}
use Rattle.ss_base.specs.Outside.{Files}
use Rattle.ecoff_load.specs.declared.image.Image.{Image}
use Rattle.ecoff_load.specs.declared.image.Part.{Part}
use Rattle.ecoff_load.specs.declared.image.Text.{Text}
use Rattle.ecoff_load.specs.Object.{IsImage, IsText, IsPart, IsApart, brought}
use Rattle.ecoff_load.specs.Layout.{object_length}
use Rattle.ss_base.specs.declared.text_fault.AsmFault.{AsmFault}
use Rattle.ss_base.specs.declared.text_fault.AsmFault.TheVariants as fault
use Rattle.ss_base.specs.declared.text_fault.TextWhy.{TextWhy}
use Rattle.ss_base.specs.declared.text_fault.TextWhy.TheVariants as why
use Rattle.pisa_asm.specs.Passes.{Found as Findings, CanBeHeld, after_line, are_short, at_line, described, filled, first_pass, image_with, next, no_sheet, nothing_found, parts_in, second_pass, text_in, words_on}
use Rattle.text_lines.specs.Lines.{lines_of}
use Rattle.pisa_asm.specs.Sheets.{pieces_of}
use Rattle.journal.specs.declared.loading.Found.{Found}
use Rattle.journal.specs.Load.{Input, AreFound}
use Rattle.journal.specs.Outcome.{Outcome}
use Rattle.answers.specs.declared.answer.Answer.{Answer}
use Rattle.answers.specs.declared.answer.Answer.TheVariants as answer
use Rattle.answers.specs.Answer.{refused}
use Rattle.answers.specs.Judging.{JudgesObject}
use Rattle.answers.specs.JudgingLaws.{FoundBytes, SomeOutcome, file_some, object_some}
use Rattle.object_commands.specs.Outcome.{JudgesLayout, JudgesSource, object_made, listing_made, AsmOutcome, DisOutcome}

-- ---- whether an object can hold an image

-- a fact holds or doesn't
abbrev pub IsSettled : Type 0 → Type 0
IsSettled P = P ⊎ (P → ⊥)

both : (P Q : Type 0) → IsSettled P → IsSettled Q → IsSettled (P × Q)
both P Q (inl p) (inl q) = inl (p, q)
both P Q (inl p) (inr q) = inr (λ x. q x.1)
both P Q (inr p) q = inr (λ x. p x.0)

either : (P Q : Type 0) → IsSettled P → IsSettled Q → IsSettled (P ⊎ Q)
either P Q (inl p) q = inl (inl p)
either P Q (inr p) (inl q) = inl (inr q)
either P Q (inr p) (inr q) = inr (λ x. elim x [ inl y ↦ p y | inr y ↦ q y ])

not_both : (m n : ℕ) → m ≤ n → n < m → ⊥
not_both m n l g = omega arith

by_test : (b : Bool) (m n : ℕ) → (b ≡ true → m ≤ n) → (b ≡ false → n < m) → IsSettled (m ≤ n)
by_test true m n short long = inl (short refl)
by_test false m n short long = inr (λ l. not_both m n l (long refl))

at_most : (m n : ℕ) → IsSettled (m ≤ n)
at_most m n = by_test (nat_le m n) m n (leb-true m n) (leb-false m n)

below : (m n : ℕ) → IsSettled (m < n)
below m n = at_most (suc m) n

is_same : (m n : ℕ) → IsSettled (m ≡ n)
is_same m n = elim (eqb_tells m n) as (λ _. IsSettled (m ≡ n)) [ inl e ↦ inl e.1 | inr d ↦ inr d.1 ]

alike : (P Q : Type 0) → (P → Q) → (Q → P) → IsSettled P → IsSettled Q
alike P Q f g (inl p) = inl (f p)
alike P Q f g (inr p) = inr (λ q. p (g q))

text_settled : (text : Text) → IsSettled (IsText text)
text_settled text =
    alike ((text.start % 8 ≡ 0) × ((8 ≤ length text.bytes) × ((length text.bytes ≤ 4194304) × (text.start + length text.bytes ≤ 0x7ff00000)))) (IsText text)
    (λ p. record { alignment = p.0; least_size = p.1.0; greatest_size = p.1.1.0; range = p.1.1.1 }) (λ q. (q.alignment, (q.least_size, (q.greatest_size, q.range))))
    (both (text.start % 8 ≡ 0) ((8 ≤ length text.bytes) × ((length text.bytes ≤ 4194304) × (text.start + length text.bytes ≤ 0x7ff00000))) (is_same (text.start % 8) 0)
    (both (8 ≤ length text.bytes) ((length text.bytes ≤ 4194304) × (text.start + length text.bytes ≤ 0x7ff00000)) (at_most 8 (length text.bytes))
    (both (length text.bytes ≤ 4194304) (text.start + length text.bytes ≤ 0x7ff00000) (at_most (length text.bytes) 4194304) (at_most (text.start + length text.bytes) 0x7ff00000))))

apart_settled : (text : Text) (part : Part) → IsSettled (IsApart text part)
apart_settled text part =
    either (length part.bytes ≡ 0) ((part.addr + part.size ≤ text.start) ⊎ (text.start + length text.bytes ≤ part.addr)) (is_same (length part.bytes) 0)
    (either (part.addr + part.size ≤ text.start) (text.start + length text.bytes ≤ part.addr) (at_most (part.addr + part.size) text.start) (at_most (text.start + length text.bytes) part.addr))

part_settled : (text : Text) (part : Part) → IsSettled (IsPart text part)
part_settled text part =
    alike ((part.addr + part.size ≤ 0x7ff00000) × ((length part.bytes ≡ brought part) × IsApart text part)) (IsPart text part)
    (λ p. record { range = p.0; bytes = p.1.0; apart = p.1.1 }) (λ q. (q.range, (q.bytes, q.apart)))
    (both (part.addr + part.size ≤ 0x7ff00000) ((length part.bytes ≡ brought part) × IsApart text part) (at_most (part.addr + part.size) 0x7ff00000)
    (both (length part.bytes ≡ brought part) (IsApart text part) (is_same (length part.bytes) (brought part)) (apart_settled text part)))

parts_settled : (text : Text) (parts : List Part) → IsSettled (AllByRecursion (IsPart text) parts)
parts_settled text [] = inl tt
parts_settled text (part ∷ parts) = both (IsPart text part) (AllByRecursion (IsPart text) parts) (part_settled text part) (parts_settled text parts)

image_settled : (image : Image) → IsSettled (IsImage image)
image_settled image =
    alike ((image.entry < 2 ^ 32) × (IsText image.text × ((length image.parts ≤ 15) × AllByRecursion (IsPart image.text) image.parts))) (IsImage image)
    (λ p. record { entry = p.0; text = p.1.0; count = p.1.1.0; parts = p.1.1.1 }) (λ q. (q.entry, (q.text, (q.count, q.parts))))
    (both (image.entry < 2 ^ 32) (IsText image.text × ((length image.parts ≤ 15) × AllByRecursion (IsPart image.text) image.parts)) (below image.entry (2 ^ 32))
    (both (IsText image.text) ((length image.parts ≤ 15) × AllByRecursion (IsPart image.text) image.parts) (text_settled image.text)
    (both (length image.parts ≤ 15) (AllByRecursion (IsPart image.text) image.parts) (at_most (length image.parts) 15) (parts_settled image.text image.parts))))

pub held_settled : (image : Image) → IsSettled (CanBeHeld image)
held_settled image =
    alike (IsImage image × (object_length image ≤ 16777216)) (CanBeHeld image) (λ p. record { form = p.0; short = p.1 }) (λ q. (q.form, q.short))
    (both (IsImage image) (object_length image ≤ 16777216) (image_settled image) (at_most (object_length image) 16777216))

-- ---- sources describe an image or have a wrong line

-- no answer of a pass is want of memory
abbrev IsTold : {A : Type 0} → Result A AsmFault → Type 0
IsTold (Ok x) = Unit {0}
IsTold (Err (fault.Bad line reason)) = Unit {0}
IsTold (Err fault.OutOfMemory) = ⊥

told_line : {A B : Type 0} (n : ℕ) (r : Result A TextWhy) (f : A → Result B AsmFault) → ((x : A) → IsTold (f x)) → IsTold (at_line n r f)
told_line n (Ok x) f told = told x
told_line n (Err w) f told = tt

told_next : {A B : Type 0} (r : Result A AsmFault) (f : A → Result B AsmFault) → IsTold r → ((x : A) → IsTold (f x)) → IsTold (next r f)
told_next (Ok x) f t told = told x
told_next (Err (fault.Bad line reason)) f t told = tt
told_next (Err fault.OutOfMemory) f t told = t

first_told : (n : ℕ) (found : Findings) (lines : List (List ℕ)) → IsTold (first_pass n found lines)
first_told n found [] = tt
first_told n found (line ∷ lines) = told_line n _ (λ st. first_pass (n + 1) (after_line found (words_on line).label st) lines) (λ st. first_told (n + 1) (after_line found (words_on line).label st) lines)

second_told : (make : Bool) (labels : _) (n : ℕ) (sheet : _) (lines : List (List ℕ)) → IsTold (second_pass make labels n sheet lines)
second_told make labels n sheet [] = tt
second_told make labels n sheet (line ∷ lines) = told_line n (filled make labels sheet line) (λ s. second_pass make labels (n + 1) s lines) (λ s. second_told make labels (n + 1) s lines)

image_told : (text : Option Text) (parts : List Part) (labels : _) (entry : Option (List ℕ)) → IsTold (image_with text parts labels entry)
image_told None parts labels entry = tt
image_told (Some text) parts labels entry = tt

laid_told : (short : Bool) (found : Findings) (lines : List (List ℕ))
    → IsTold (if short then next (second_pass true found.labels 1 no_sheet lines) (λ sheet. image_with (text_in (pieces_of sheet)) (parts_in (pieces_of sheet)) found.labels found.entry) else Err (fault.Bad 0 why.Layout))
laid_told true found lines =
    told_next (second_pass true found.labels 1 no_sheet lines) (λ sheet. image_with (text_in (pieces_of sheet)) (parts_in (pieces_of sheet)) found.labels found.entry) (second_told true found.labels 1 no_sheet lines)
    (λ sheet. image_told (text_in (pieces_of sheet)) (parts_in (pieces_of sheet)) found.labels found.entry)
laid_told false found lines = tt

described_told : (text : List ℕ) → IsTold (described text)
unfolding described
described_told text =
    told_next (first_pass 1 nothing_found (lines_of text)) _ (first_told 1 nothing_found (lines_of text))
    (λ found. told_next (second_pass false found.labels 1 no_sheet (lines_of text)) _ (second_told false found.labels 1 no_sheet (lines_of text)) (λ sheet. laid_told (are_short found.sheet) found (lines_of text)))

-- ---- outcomes

judged_some : (image : Image) (N : Outcome Answer → Image → Type 0) → IsSettled (CanBeHeld image) → SomeOutcome (λ o. N o image) → SomeOutcome (λ o. JudgesLayout image o (N o))
judged_some image N (inl held) some = (some.0, inr (held, some.1))
judged_some image N (inr not) some = (refused (answer.Text 0 why.Layout), inl (not, refl))

source_some : (meaning : Result Image AsmFault) (N : Outcome Answer → Image → Type 0) → IsTold meaning → ((image : Image) → SomeOutcome (λ o. N o image)) → SomeOutcome (λ o. JudgesSource meaning o (N o))
source_some (Err (fault.Bad line reason)) N t some = (refused (answer.Text line reason), refl)
source_some (Err fault.OutOfMemory) N t some = absurd t
source_some (Ok image) N t some = judged_some image N (held_settled image) (some image)

pub asm_some : (source object : List ℕ) (i : Input) (Told : Type 0) (files : Files) (loaded : List Found) → AreFound Told files (i ∷ []) loaded → FoundBytes loaded → SomeOutcome (AsmOutcome source object loaded)
asm_some source object i Told files [] are bytes = absurd are
asm_some source object i Told files (f ∷ fs) are bytes =
    file_some source f fs (λ o text _. JudgesSource (described text) o (λ image. o ≡ object_made object image)) bytes
    (λ text _ _. source_some (described text) (λ o image. o ≡ object_made object image) (described_told text) (λ image. (object_made object image, refl)))

pub dis_some : (object : List ℕ) (i : Input) (Told : Type 0) (files : Files) (loaded : List Found) → AreFound Told files (i ∷ []) loaded → FoundBytes loaded → SomeOutcome (DisOutcome object loaded)
dis_some object i Told files [] are bytes = absurd are
dis_some object i Told files (f ∷ fs) are bytes =
    file_some object f fs (λ o program _. JudgesObject program o (λ image. o ≡ listing_made image.text)) bytes
    (λ program all _. object_some program (λ o image. o ≡ listing_made image.text) all (λ image _. (listing_made image.text, refl)))
