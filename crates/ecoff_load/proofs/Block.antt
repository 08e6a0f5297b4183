-- The start block, piece by piece.
use Rattle.std.proofs.Common.{◌≡◌, ℕ, ◌+◌, ◌*◌, ◌<◌, ◌≤◌, Bool, true, false, List, [], ◌∷◌, ◌++◌, length, take, map, get_or, refl, sym, ◌∙◌, ap, arith, append_assoc, length-append}
use Rattle.std.specs.List.{flat_map, range_with_len}
use Rattle.std.specs.Prelude.{String, string_bytes}
use Rattle.std.proofs.lemmas.List.{append-nil, length-map, take_more, get_or-map}
use Rattle.std.proofs.lemmas.List.Concat.{flat_map-append}
use Rattle.std.proofs.lemmas.List.Folds.{length-flat_map-take}
use Rattle.std.proofs.lemmas.List.FromFn.{length-range_with_len, map-range_with_len_more}
use Rattle.ecoff_load.specs.Words.{word_bytes}
use Rattle.ecoff_load.specs.Start.{ended_strings, words_length, pointer_to, block_words, block}

length-word_bytes : (big : Bool) (word : ℕ) → length (word_bytes big word) ≡ 4
length-word_bytes true word = refl
length-word_bytes false word = refl

length-words : (big : Bool) (words : List ℕ) → length (flat_map (word_bytes big) words) ≡ 4 * length words
length-words big [] = refl
length-words big (word ∷ words) =
    omega (arith, length-append (word_bytes big word) (flat_map (word_bytes big) words), length-word_bytes big word, length-words big words)

pub length-block : (big : Bool) (args : List (List ℕ)) → length (block big args) ≡ words_length args + length (ended_strings args)
unfolding block
length-block big args =
    let pointers = map (pointer_to args) (range_with_len 0 (length args)) in
    let count : length pointers ≡ length args = length-map (range_with_len 0 (length args)) (pointer_to args) ∙ length-range_with_len 0 (length args) in
    let words : length (block_words args) ≡ length args + 3 = omega (arith, count, length-append pointers (0 ∷ 0 ∷ [])) in
    omega (arith, length-append (flat_map (word_bytes big) (block_words args)) (ended_strings args), length-words big (block_words args), words)

-- the text of the string that a loop is at
pub text_at : {Z : Type 0} (strings : List (String Z)) (k : ℕ) (s : String Z) → k < length strings → s ≡ get_or strings k s → (k < length (map string_bytes strings)) × (get_or (map string_bytes strings) k (string_bytes s) ≡ string_bytes s)
text_at strings k s within e =
    (omega (arith, length-map strings string_bytes), get_or-map string_bytes strings k s (string_bytes s) within ∙ ap string_bytes (sym e))

-- one more string
pub ended_strings-more : (args : List (List ℕ)) (k : ℕ) (s : List ℕ) → k < length args → get_or args k s ≡ s → length (ended_strings (take (k + 1) args)) ≡ length (ended_strings (take k args)) + (length s + 1)
ended_strings-more args k s within e =
    let parts : ended_strings (take (k + 1) args) ≡ ended_strings (take k args) ++ ((s ++ 0 ∷ []) ++ []) =
    ap ended_strings (take_more args k s within ∙ ap (λ x. take k args ++ x ∷ []) e) ∙ flat_map-append (λ x. x ++ 0 ∷ []) (take k args) (s ∷ []) in
    ap length parts ∙ omega (arith, length-append (ended_strings (take k args)) ((s ++ 0 ∷ []) ++ []), length-append (s ++ 0 ∷ []) [], length-append s (0 ∷ []))

-- it ends where the block does, or before
pub ended_strings-within : (args : List (List ℕ)) (k : ℕ) (s : List ℕ) → k < length args → get_or args k s ≡ s → length (ended_strings (take k args)) + (length s + 1) ≤ length (ended_strings args)
ended_strings-within args k s within e =
    let bound : length (ended_strings (take k args)) + length (get_or args k s ++ 0 ∷ []) ≤ length (ended_strings args) = length-flat_map-take (λ x. x ++ 0 ∷ []) args k s within in
    let size : length (get_or args k s ++ 0 ∷ []) ≡ length s + 1 = ap (λ x. length (x ++ 0 ∷ [])) e ∙ length-append s (0 ∷ []) in
    omega arith

-- one more pointer
pub pointers-more : (big : Bool) (args : List (List ℕ)) (before now new : List ℕ) (k pointer : ℕ) → now ≡ before ++ flat_map (word_bytes big) (map (pointer_to args) (range_with_len 0 k)) → pointer ≡ pointer_to args k → new ≡ now ++ word_bytes big pointer → new ≡ before ++ flat_map (word_bytes big) (map (pointer_to args) (range_with_len 0 (k + 1)))
pointers-more big args before now new k pointer written next pushed =
    let words = map (pointer_to args) (range_with_len 0 k) in
    pushed
    ∙ ap (λ p. now ++ word_bytes big p) next
    ∙ ap (λ x. x ++ word_bytes big (pointer_to args k)) written
    ∙ append_assoc before (flat_map (word_bytes big) words) (word_bytes big (pointer_to args k))
    ∙ ap (λ x. before ++ x) (sym (
    ap (flat_map (word_bytes big)) (map-range_with_len_more (pointer_to args) 0 k k (omega arith))
    ∙ flat_map-append (word_bytes big) words (pointer_to args k ∷ [])
    ∙ ap (λ x. flat_map (word_bytes big) words ++ x) (append-nil (word_bytes big (pointer_to args k)))))

regrouped : (w p z : List ℕ) → (((([] ++ w) ++ p) ++ z) ++ z) ≡ w ++ (p ++ (z ++ (z ++ [])))
regrouped w p z = simp (append_assoc, append-nil)

-- all pieces
pub block-laid : (big : Bool) (args : List (List ℕ)) (n : ℕ) (a b c d e f : List ℕ) → n ≡ length args → a ≡ [] → b ≡ a ++ word_bytes big n → c ≡ b ++ flat_map (word_bytes big) (map (pointer_to args) (range_with_len 0 n)) → d ≡ c ++ word_bytes big 0 → e ≡ d ++ word_bytes big 0 → f ≡ e ++ ended_strings args → f ≡ block big args
unfolding block
block-laid big args n a b c d e f count is-a is-b is-c is-d is-e is-f =
    let pointers = λ (k : ℕ). map (pointer_to args) (range_with_len 0 k) in
    let zero = word_bytes big 0 in
    let front = λ (k : ℕ). word_bytes big k ++ flat_map (word_bytes big) (pointers k ++ 0 ∷ 0 ∷ []) in
    is-f
    ∙ ap (λ x. x ++ ended_strings args) (
    is-e ∙ ap (λ x. x ++ zero) (is-d ∙ ap (λ x. x ++ zero) (is-c ∙ ap (λ x. x ++ flat_map (word_bytes big) (pointers n)) (is-b ∙ ap (λ x. x ++ word_bytes big n) is-a)))
    ∙ regrouped (word_bytes big n) (flat_map (word_bytes big) (pointers n)) zero
    ∙ ap (λ x. word_bytes big n ++ x) (sym (flat_map-append (word_bytes big) (pointers n) (0 ∷ 0 ∷ [])))
    ∙ ap front count)
