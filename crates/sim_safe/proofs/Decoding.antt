-- The list of a text's instructions, and fetching from it.
use Rattle.std.proofs.Common.{◌≡◌, ℕ, zero, suc, ◌+◌, ◌-◌, ◌*◌, ◌/◌, ◌%◌, ◌<◌, ◌≤◌, List, [], ◌∷◌, ◌++◌, length, Option, Some, None, slice_get, refl, sym, ap, subst, ◌∙◌, arith, length-append}
use Rattle.std.proofs.lemmas.Bool.Decides.{nat_tests}
use Rattle.std.proofs.lemmas.Option.{slice_get_within, slice_get-get_or}
use Rattle.std.specs.Prelude.{IfSome, MatchOption, slice_index_or, nat_le, nat_eq, if◌then◌else◌}
use Rattle.ecoff_load.specs.declared.image.Text.{Text}
use Rattle.ecoff_load.specs.Object.{IsText}
use Rattle.ecoff_load.specs.Fetch.{fetch}
use Rattle.ecoff_load.specs.Words.{word_in}
use Rattle.pisa_isa.specs.declared.instr.Instr.{Instr}
use Rattle.pisa_isa.specs.Coding.{decoded, IsWellFormed}
use Rattle.pisa_isa.specs.CodingLaws.{decoded_well_formed}
use Rattle.sim_safe.specs.Decoded.{coded_by, AreDecoded, Holds}

at_tests : (a b c d e : ℕ) (W : ℕ × ℕ) → a ≤ b → c ≡ 0 → d ≤ e → (if nat_le a b then if nat_eq c 0 then if nat_le d e then Some W else None else None else None) ≡ Some W
at_tests a b c d e W p q r = grind (arith, nat_tests)

words_at : Text → ℕ → ℕ × ℕ
words_at text pc = (word_in text.big text.bytes (pc - text.start), word_in text.big text.bytes (pc - text.start + 4))

fetch_words : (text : Text) (pc : ℕ) → text.start ≤ pc → (pc - text.start) % 8 ≡ 0 → pc + 8 ≤ text.start + length text.bytes → fetch text pc ≡ Some (words_at text pc)
unfolding words_at
fetch_words text pc p q r = at_tests text.start pc ((pc - text.start) % 8) (pc + 8) (text.start + length text.bytes) (words_at text pc) p q r

-- an entry of the list is what the words there code
pub fetch_some : (text : Text) (instrs : List (Option Instr)) (pc : ℕ) (x : Option Instr) → AreDecoded text instrs → text.start ≤ pc → (pc - text.start) % 8 ≡ 0 → slice_get instrs ((pc - text.start) / 8) ≡ Some x
    → (words : ℕ × ℕ) × (fetch text pc ≡ Some words) × (x ≡ decoded words.0 words.1)
fetch_some text instrs pc x h p q e =
    let k : (pc - text.start) / 8 < length instrs = slice_get_within instrs ((pc - text.start) / 8) x e in
    let c : length instrs ≤ length text.bytes / 8 = h.count in
    let r : pc + 8 ≤ text.start + length text.bytes = omega arith in
    let same : text.start + 8 * ((pc - text.start) / 8) ≡ pc = omega arith in
    let f : fetch text pc ≡ Some (words_at text pc) = fetch_words text pc p q r in
    let g : x ≡ coded_by (fetch text pc) = subst (λ (a : ℕ). x ≡ coded_by (fetch text a)) same (h.each ((pc - text.start) / 8) x e) in
    (words_at text pc, f, g ∙ ap coded_by f)

-- an item of the list that is got by its place
pub next_found : {R : Type 0} (now : R → Option Instr) (P : R → Type 0) (text : Text) (instrs xs : List (Option Instr)) (pc k : ℕ) (o : Option R)
    → AreDecoded text instrs → xs ≡ instrs → text.start ≤ pc → (pc - text.start) % 8 ≡ 0 → k ≡ (pc - text.start) / 8
    → IfSome o (λ x. now x ≡ slice_index_or xs k (now x)) → MatchOption o (length xs ≤ k) (λ x. (k < length xs) × P x)
    → IfSome o (λ x. (words : ℕ × ℕ) × (fetch text pc ≡ Some words) × (now x ≡ decoded words.0 words.1))
next_found now P text instrs xs pc k None all same low eighth at item there = tt
next_found now P text instrs xs pc k (Some x) all same low eighth at item there =
    let here : slice_get xs k ≡ Some (now x) = slice_get-get_or xs k (now x) there.0 ∙ ap (λ y. Some y) (sym item) in
    let got : slice_get instrs ((pc - text.start) / 8) ≡ Some (now x) = ap (λ ys. slice_get ys ((pc - text.start) / 8)) (sym same) ∙ ap (slice_get xs) (sym at) ∙ here in
    fetch_some text instrs pc (now x) all low eighth got

-- a list of no instructions
pub holds_none : (text : Text) → IsText text → Holds text []
holds_none text fits = record { text_fits = fits; decoded_of = record { count = omega arith; each = λ k x e. cc } }

-- an instruction that two words code is well formed
pub coded_formed : (words : ℕ × ℕ) (i : Instr) → Some i ≡ decoded words.0 words.1 → IsWellFormed i
coded_formed words i e = decoded_well_formed words.0 words.1 i (sym e)

-- the first instructions of a text
pub record AreFirst (text : Text) (k : ℕ) (instrs : List (Option Instr)) : Type 0 where
  pub count : length instrs ≡ k
  pub each : (j : ℕ) (x : Option Instr) → slice_get instrs j ≡ Some x → x ≡ coded_by (fetch text (text.start + 8 * j))

pub first_none : (text : Text) → AreFirst text 0 []
first_none text = record { count = refl; each = λ j x e. cc }

get_more : {A : Type 0} (xs : List A) (y : A) (j : ℕ) (x : A) (P : ℕ → A → Type 0) → ((i : ℕ) (z : A) → slice_get xs i ≡ Some z → P i z) → P (length xs) y → slice_get (xs ++ y ∷ []) j ≡ Some x → P j x
get_more [] y zero x P h last e = let same : y ≡ x = cc in subst (P 0) same last
get_more [] y (suc j) x P h last e = cc
get_more (z ∷ xs) y zero x P h last e = h 0 x e
get_more (z ∷ xs) y (suc j) x P h last e = get_more xs y j x (λ i w. P (suc i) w) (λ i w f. h (suc i) w f) last e

pub first_more : (text : Text) (k : ℕ) (instrs more : List (Option Instr)) (x : Option Instr) (pc : ℕ) → AreFirst text k instrs → pc ≡ text.start + 8 * k → x ≡ coded_by (fetch text pc) → more ≡ instrs ++ x ∷ [] → AreFirst text (k + 1) more
first_more text k instrs more x pc h at is e =
    let P : ℕ → Option Instr → Type 0 = λ j y. y ≡ coded_by (fetch text (text.start + 8 * j)) in
    let c : length instrs ≡ k = h.count in
    let a : pc ≡ text.start + 8 * length instrs = rw c at in
    let last : P (length instrs) x = subst (λ (b : ℕ). x ≡ coded_by (fetch text b)) a is in
    rw e (record { count = omega (arith, length-append instrs (x ∷ []), c); each = λ j y f. get_more instrs x j y P h.each last f })

pub first_all : (text : Text) (k : ℕ) (instrs : List (Option Instr)) → AreFirst text k instrs → k ≡ length text.bytes / 8 → AreDecoded text instrs
first_all text k instrs h e = record { count = omega (arith, h.count, e); each = h.each }
