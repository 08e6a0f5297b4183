-- Words that stand one behind the other are read as they were written.
use Rattle.std.proofs.Common.{◌≡◌, ℕ, zero, suc, ◌+◌, ◌*◌, ◌^◌, ◌<◌, ◌≤◌, List, [], ◌∷◌, ◌++◌, length, get_or, set, take, drop, refl, sym, ap, subst, ◌∙◌, append_assoc, arith}
use Rattle.std.specs.Int.{w32, to_le_bytes}
use Rattle.std.specs.List.{flat_map, AllByRecursion}
use Rattle.std.proofs.lemmas.List.{take_at, drop_at, take_all, take_more_set, get_or-append-add, length-append}
use Rattle.ss_base.specs.Text.{word_at}
use Rattle.event_trace.proofs.Fields.{IsBytes, word_parts, word_below, word_again}
use Rattle.checkpoint.specs.Reading.{words_at}

abbrev pub word_bytes : ℕ → List ℕ
word_bytes word = to_le_bytes w32 word

abbrev pub all_words : List ℕ → List ℕ
all_words words = flat_map (to_le_bytes w32) words

-- ---- what is read was written

pub words_parts : (n : ℕ) (bytes : List ℕ) (at : ℕ) → IsBytes bytes → at + 4 * n ≤ length bytes → drop at bytes ≡ all_words (words_at n bytes at) ++ drop (at + 4 * n) bytes
words_parts zero bytes at fits le = ap (λ (i : ℕ). drop i bytes) (omega arith)
words_parts (suc n) bytes at fits le =
    let first : drop at bytes ≡ word_bytes (word_at bytes at) ++ drop (at + 4) bytes = word_parts bytes at fits (omega (arith, le)) in
    let others : drop (at + 4) bytes ≡ all_words (words_at n bytes (at + 4)) ++ drop (at + 4 + 4 * n) bytes = words_parts n bytes (at + 4) fits (omega (arith, le)) in
    let end : at + 4 + 4 * n ≡ at + 4 * suc n = omega arith in
    first ∙ ap (λ (x : List ℕ). word_bytes (word_at bytes at) ++ x) (others ∙ ap (λ (i : ℕ). all_words (words_at n bytes (at + 4)) ++ drop i bytes) end)
    ∙ sym (append_assoc (word_bytes (word_at bytes at)) (all_words (words_at n bytes (at + 4))) (drop (at + 4 * suc n) bytes))

pub words_below : (n : ℕ) (bytes : List ℕ) (at : ℕ) → IsBytes bytes → AllByRecursion (λ r. r < 2 ^ 32) (words_at n bytes at)
words_below zero bytes at fits = tt
words_below (suc n) bytes at fits = (word_below bytes at fits, words_below n bytes (at + 4) fits)

pub words_count : (n : ℕ) (bytes : List ℕ) (at : ℕ) → length (words_at n bytes at) ≡ n
words_count zero bytes at = refl
words_count (suc n) bytes at = ap suc (words_count n bytes (at + 4))

-- ---- what is written is read

in_front : (front rest : List ℕ) (i : ℕ) → get_or (front ++ rest) (length front + i) 0 ≡ get_or rest i 0
in_front front rest i = get_or-append-add front rest i 0

pub word_behind : (front rest : List ℕ) → word_at (front ++ rest) (length front) ≡ word_at rest 0
word_behind front rest =
    let zero_more : length front + 0 ≡ length front = omega arith in
    let e0 : get_or (front ++ rest) (length front) 0 ≡ get_or rest 0 0 = ap (λ (i : ℕ). get_or (front ++ rest) i 0) (sym zero_more) ∙ in_front front rest 0 in
    let e1 = in_front front rest 1 in
    let e2 = in_front front rest 2 in
    let e3 = in_front front rest 3 in
    omega (arith, e0, e1, e2, e3)

pub word_first : (word : ℕ) (rest : List ℕ) → word < 2 ^ 32 → word_at (word_bytes word ++ rest) 0 ≡ word
word_first word rest lt = word_again word lt

pub words_again : (words front rest : List ℕ) (at : ℕ) → length front ≡ at → AllByRecursion (λ r. r < 2 ^ 32) words → words_at (length words) (front ++ (all_words words ++ rest)) at ≡ words
words_again [] front rest at e fits = refl
words_again (word ∷ words) front rest at e fits =
    let more = all_words words ++ rest in
    let bytes = front ++ (all_words (word ∷ words) ++ rest) in
    let one : front ++ (all_words (word ∷ words) ++ rest) ≡ front ++ (word_bytes word ++ more) = ap (λ (x : List ℕ). front ++ x) (append_assoc (word_bytes word) (all_words words) rest) in
    let other : front ++ (word_bytes word ++ more) ≡ (front ++ word_bytes word) ++ more = sym (append_assoc front (word_bytes word) more) in
    let first : word_at bytes at ≡ word = ap (λ (i : ℕ). word_at bytes i) (sym e) ∙ ap (λ (x : List ℕ). word_at x (length front)) one ∙ word_behind front (word_bytes word ++ more) ∙ word_first word more fits.0 in
    let len : length (front ++ word_bytes word) ≡ at + 4 = length-append front (word_bytes word) ∙ ap (λ (n : ℕ). n + 4) e in
    let others : words_at (length words) bytes (at + 4) ≡ words = ap (λ (x : List ℕ). words_at (length words) x (at + 4)) (one ∙ other) ∙ words_again words (front ++ word_bytes word) rest (at + 4) len fits.1 in
    ap (λ (w : ℕ). w ∷ words_at (length words) bytes (at + 4)) first ∙ ap (λ (ws : List ℕ). word ∷ ws) others

-- two lists that are joined, where the first ones are as long
pub halves : (a b c d : List ℕ) → length a ≡ length c → a ++ b ≡ c ++ d → (a ≡ c) × (b ≡ d)
halves a b c d len e =
    let n = length a in
    let back : length c ≡ n = sym len in (
      sym (take_at a b n refl) ∙ ap (λ (x : List ℕ). take n x) e ∙ take_at c d n back,
      sym (drop_at a b n refl) ∙ ap (λ (x : List ℕ). drop n x) e ∙ drop_at c d n back,
    )

pub words_length : (words : List ℕ) → length (all_words words) ≡ 4 * length words
words_length [] = refl
words_length (word ∷ words) =
    let rest = words_length words in
    omega (arith, length-append (word_bytes word) (all_words words), rest)

pub below_append : (a b : List ℕ) → AllByRecursion (λ r. r < 2 ^ 32) a → AllByRecursion (λ r. r < 2 ^ 32) b → AllByRecursion (λ r. r < 2 ^ 32) (a ++ b)
below_append [] b h k = k
below_append (x ∷ xs) b h k = (h.0, below_append xs b h.1 k)

-- ---- the loop that reads them

words_push : (n : ℕ) (bytes : List ℕ) (at : ℕ) → words_at n bytes at ++ word_at bytes (at + 4 * n) ∷ [] ≡ words_at (suc n) bytes at
words_push zero bytes at = ap (λ (i : ℕ). word_at bytes i ∷ []) (omega arith)
words_push (suc n) bytes at =
    let place : at + 4 * suc n ≡ at + 4 + 4 * n = omega arith in
    ap (λ (i : ℕ). word_at bytes at ∷ (words_at n bytes (at + 4) ++ word_at bytes i ∷ [])) place ∙ ap (λ (ws : List ℕ). word_at bytes at ∷ ws) (words_push n bytes (at + 4))

pub word_more : (bytes regs : List ℕ) (k word : ℕ) → k < length regs → take k regs ≡ words_at k bytes 24 → word ≡ word_at bytes (24 + 4 * k) → take (k + 1) (set regs k word) ≡ words_at (k + 1) bytes 24
word_more bytes regs k word lt so_far e =
    let next : suc k ≡ k + 1 = omega arith in
    take_more_set regs k word lt ∙ ap (λ (ws : List ℕ). ws ++ word ∷ []) so_far ∙ ap (λ (w : ℕ). words_at k bytes 24 ++ w ∷ []) e ∙ words_push k bytes 24 ∙ ap (λ (n : ℕ). words_at n bytes 24) next

pub words_all : (bytes regs : List ℕ) (k : ℕ) → length regs ≡ 31 → k ≡ 31 → take k regs ≡ words_at k bytes 24 → regs ≡ words_at 31 bytes 24
words_all bytes regs k len e so_far = sym (take_all k regs (omega (arith, len, e))) ∙ so_far ∙ ap (λ (n : ℕ). words_at n bytes 24) e
