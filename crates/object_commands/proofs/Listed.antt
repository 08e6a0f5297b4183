-- Lemmas on listings and the pieces in which they are put.
use Rattle.std.proofs.Common.{◌≡◌, ℕ, zero, suc, ◌+◌, ◌-◌, ◌*◌, ◌/◌, ◌≤◌, ◌<◌, List, [], ◌∷◌, ◌++◌, Option, refl, sym, ap, ◌∙◌, subst, arith, append_assoc, append-nil}
use Rattle.ecoff_load.specs.declared.image.Text.{Text}
use Rattle.ecoff_load.specs.Fetch.{IsInstruction, fetch}
use Rattle.journal.specs.Write.{Journal, Output, output_of}
use Rattle.object_commands.specs.Listing.{instruction_count, line_at, line_of, lines_from, place_of, listing_of, lines_in, piece_of, pieces_put, listing_writes}

-- ---- lines

pub no_lines : (text : Text) (from : ℕ) → lines_from text from 0 ≡ []
unfolding lines_from
no_lines text from = refl

next_line : (text : Text) (from n : ℕ) → lines_from text from (suc n) ≡ lines_from text from n ++ line_at text (from + n)
unfolding lines_from
next_line text from n = refl

-- the line of the next instruction is added
pub line_added : (text : Text) (from k n m pc : ℕ) (piece now : List ℕ) (words : Option (ℕ × ℕ)) → piece ≡ lines_from text from n → k ≡ from + n → m ≡ suc n → pc ≡ place_of text k → words ≡ fetch text pc
    → now ≡ piece ++ line_of pc words → now ≡ lines_from text from m
line_added text from k n m pc piece now words e i s p w h =
    let P : ℕ → Type 0 = λ x. now ≡ lines_from text from x in
    let line : now ≡ piece ++ line_at text k = h ∙ ap (λ x. piece ++ line_of pc x) w ∙ ap (λ x. piece ++ line_of x (fetch text x)) p in
    subst P (sym s) (line ∙ ap (λ x. piece ++ line_at text x) i ∙ ap (λ x. x ++ line_at text (from + n)) e ∙ sym (next_line text from n))

-- lines behind lines
lines_joined : (text : Text) (from n m : ℕ) → lines_from text from n ++ lines_from text (from + n) m ≡ lines_from text from (n + m)
lines_joined text from n zero =
    let P : ℕ → Type 0 = λ x. lines_from text from n ≡ lines_from text from x in
    let same : n ≡ n + 0 = omega arith in
    ap (λ x. lines_from text from n ++ x) (no_lines text (from + n)) ∙ append-nil (lines_from text from n) ∙ subst P same refl
lines_joined text from n (suc m) =
    let first : List ℕ = lines_from text from n in
    let place : from + n + m ≡ from + (n + m) = omega arith in
    let all : suc (n + m) ≡ n + suc m = omega arith in
    ap (λ x. first ++ x) (next_line text (from + n) m) ∙ sym (append_assoc first (lines_from text (from + n) m) (line_at text (from + n + m)))
    ∙ ap (λ x. x ++ line_at text (from + n + m)) (lines_joined text from n m) ∙ ap (λ x. lines_from text from (n + m) ++ line_at text x) place
    ∙ sym (next_line text from (n + m)) ∙ ap (λ x. lines_from text from x) all

-- ---- pieces

pub no_pieces : (text : Text) → pieces_put text 0 ≡ []
unfolding pieces_put
no_pieces text = refl

pub next_piece : (text : Text) (k : ℕ) → pieces_put text (suc k) ≡ Output (piece_of text k) ∷ pieces_put text k
unfolding pieces_put
next_piece text k = refl

-- further pieces come behind
pub pieces_more : (text : Text) (k d : ℕ) → (later : Journal) × (pieces_put text (d + k) ≡ later ++ pieces_put text k)
pieces_more text k zero = ([], ap (λ x. pieces_put text x) (let same : 0 + k ≡ k = omega arith in same))
pieces_more text k (suc d) =
    let rest = pieces_more text k d in
    let same : suc d + k ≡ suc (d + k) = omega arith in
    (Output (piece_of text (d + k)) ∷ rest.0, ap (λ x. pieces_put text x) same ∙ next_piece text (d + k) ∙ ap (λ x. Output (piece_of text (d + k)) ∷ x) rest.1)

-- the first k pieces are the lines in them
pieces_are_lines : (text : Text) (k : ℕ) → 1024 * k ≤ instruction_count text + 1023 → output_of (pieces_put text k) ≡ lines_from text 0 (lines_in text k)
pieces_are_lines text zero h =
    let none : 0 ≡ lines_in text 0 = omega arith in
    ap output_of (no_pieces text) ∙ sym (no_lines text 0) ∙ ap (λ x. lines_from text 0 x) none
pieces_are_lines text (suc k) h =
    let before : lines_in text k ≡ 0 + 1024 * k = omega (arith, h) in
    let sum : 0 + 1024 * k + (lines_in text (k + 1) - 1024 * k) ≡ lines_in text (suc k) = omega (arith, h) in
    let start : 1024 * k ≡ 0 + (0 + 1024 * k) = omega arith in
    let rest : ℕ = lines_in text (k + 1) - 1024 * k in
    ap output_of (next_piece text k) ∙ ap (λ x. x ++ piece_of text k) (pieces_are_lines text k (omega (arith, h)))
    ∙ ap (λ x. lines_from text 0 x ++ piece_of text k) before ∙ ap (λ x. lines_from text 0 (0 + 1024 * k) ++ lines_from text x rest) start
    ∙ lines_joined text 0 (0 + 1024 * k) rest ∙ ap (λ x. lines_from text 0 x) sum

-- the pieces in which a listing is put make it up
pub pieces_make_listing : (text : Text) → output_of (listing_writes text) ≡ listing_of text
pieces_make_listing text =
    let number : ℕ = (instruction_count text + 1023) / 1024 in
    let all : lines_in text number ≡ instruction_count text = omega arith in
    pieces_are_lines text number (omega arith) ∙ ap (λ x. lines_from text 0 x) all

-- ---- which instructions are listed

pub each_is_listed : (text : Text) (pc : ℕ) → IsInstruction text pc → (k : ℕ) × (k < instruction_count text) × (pc ≡ place_of text k)
each_is_listed text pc h = (h.place.0, omega (arith, h.whole, h.place.1), h.place.1)

pub listed_is_whole : (text : Text) (k : ℕ) → k < instruction_count text → IsInstruction text (place_of text k)
listed_is_whole text k h = record { place = (k, refl); whole = omega arith }
