-- What is read is what was written, and what was written is read again: numbers and lists of items.
use Rattle.std.proofs.Common.{◌≡◌, ℕ, zero, suc, ◌+◌, ◌^◌, ◌<◌, ◌≤◌, Bool, true, false, cond, ltb, List, [], ◌∷◌, ◌++◌, length, get_or, take, drop, Result, Ok, Err, refl, sym, ap, subst, ◌∙◌, append_assoc, arith, inl, inr}
use Rattle.std.specs.Int.{w32, w64, to_le_bytes, from_le_bytes}
use Rattle.std.specs.List.{flat_map}
use Rattle.std.specs.Prelude.{slice_index}
use Rattle.std.proofs.lemmas.Bool.{cases_lt, ltb-false}
use Rattle.std.proofs.lemmas.List.{take-append-drop, length-take, length-drop, get_or-drop, get_or-take, get_or_past, drop-drop, drop_more}
use Rattle.std.proofs.lemmas.List.Concat.{flat_map-cons}
use Rattle.std.proofs.lemmas.Nat.{le_bytes_4, le_bytes_8, from_le_bytes-to_le_bytes_4, from_le_bytes-to_le_bytes_8}
use Rattle.ss_base.specs.Text.{word_at, double_at}
use Rattle.event_trace.specs.Grammar.{InTurn}
use Rattle.event_trace.specs.Reading.{Refusal, ◌>>=◌, items_at}

abbrev pub IsBytes : List ℕ → Type 0
IsBytes bytes = (i : ℕ) → get_or bytes i 0 < 256

pub IsBytes-drop : (n : ℕ) (bytes : List ℕ) → IsBytes bytes → IsBytes (drop n bytes)
IsBytes-drop n bytes h i = rw get_or-drop (h (n + i))

IsBytes-take : (n : ℕ) (bytes : List ℕ) → IsBytes bytes → IsBytes (take n bytes)
IsBytes-take n bytes h i =
    elim (cases_lt i n) [
      | inl lt ↦ rw (get_or-take n bytes i 0 lt) (h i)
      | inr le ↦ rw (get_or_past (take n bytes) i 0 (omega (arith, length-take n bytes))) (omega arith)
    ]

-- the value of a step that did not fail
pub bind_ok : {A B : Type 0} (r : Result A Refusal) (f : A → Result B Refusal) (y : B) → (r >>= f) ≡ Ok y → (x : A) × (r ≡ Ok x) × (f x ≡ Ok y)
bind_ok (Ok x) f y e = (x, refl, e)
bind_ok (Err d) f y e = absurd cc

-- a check that did not fail
pub passed : {A : Type 0} (b : Bool) (d : Refusal) (r : Result A Refusal) (y : A) → cond b (Err d) r ≡ Ok y → (b ≡ false) × (r ≡ Ok y)
passed true d r y e = absurd cc
passed false d r y e = (refl, e)

pub at_least : {A : Type 0} (a b : ℕ) (d : Refusal) (r : Result A Refusal) (y : A) → cond (ltb a b) (Err d) r ≡ Ok y → (b ≤ a) × (r ≡ Ok y)
at_least a b d r y e =
    let p = passed (ltb a b) d r y e in
    (ltb-false a b p.0, p.1)

abbrev done : {A : Type 0} → A → Result A Refusal
done x = Ok x

pub ok_is : {A : Type 0} (x y : A) → done x ≡ done y → x ≡ y
ok_is x y e = cc

-- what a reader took from the front
pub record Takes (bytes text rest : List ℕ) : Type 0 where
  pub parts : bytes ≡ text ++ rest
  pub rest_fits : IsBytes rest

pub Takes-then : (a x b y c : List ℕ) → Takes a x b → Takes b y c → Takes a (x ++ y) c
Takes-then a x b y c p q = record { parts = p.parts ∙ ap (λ (t : List ℕ). x ++ t) q.parts ∙ sym (append_assoc x y c); rest_fits = q.rest_fits }

-- ---- numbers

-- the byte, the four bytes and the eight bytes at a place
pub byte_parts : (bytes : List ℕ) (at : ℕ) → at < length bytes → drop at bytes ≡ slice_index bytes at ∷ drop (at + 1) bytes
byte_parts bytes at lt = drop_more bytes at 0 lt

in_front : (n at i : ℕ) (bytes : List ℕ) → i < n → get_or (take n (drop at bytes)) i 0 ≡ get_or bytes (at + i) 0
in_front n at i bytes lt = get_or-take n (drop at bytes) i 0 lt ∙ rw get_or-drop refl

further : (at i : ℕ) → at + (4 + i) ≡ at + 4 + i
further at i = omega arith

word_value : (bytes front : List ℕ) (at : ℕ) → get_or front 0 0 ≡ get_or bytes at 0 → get_or front 1 0 ≡ get_or bytes (at + 1) 0 → get_or front 2 0 ≡ get_or bytes (at + 2) 0 → get_or front 3 0 ≡ get_or bytes (at + 3) 0 → word_at bytes at ≡ from_le_bytes w32 front
word_value bytes front at e0 e1 e2 e3 = omega (arith, e0, e1, e2, e3)

double_value : (bytes front : List ℕ) (at : ℕ) → get_or front 0 0 ≡ get_or bytes at 0 → get_or front 1 0 ≡ get_or bytes (at + 1) 0 → get_or front 2 0 ≡ get_or bytes (at + 2) 0 → get_or front 3 0 ≡ get_or bytes (at + 3) 0
    → get_or front 4 0 ≡ get_or bytes (at + 4) 0 → get_or front 5 0 ≡ get_or bytes (at + 4 + 1) 0 → get_or front 6 0 ≡ get_or bytes (at + 4 + 2) 0 → get_or front 7 0 ≡ get_or bytes (at + 4 + 3) 0 → double_at bytes at ≡ from_le_bytes w64 front
double_value bytes front at e0 e1 e2 e3 e4 e5 e6 e7 = omega (arith, e0, e1, e2, e3, e4, e5, e6, e7)

pub word_parts : (bytes : List ℕ) (at : ℕ) → IsBytes bytes → at + 4 ≤ length bytes → drop at bytes ≡ to_le_bytes w32 (word_at bytes at) ++ drop (at + 4) bytes
word_parts bytes at fits le =
    let here = drop at bytes in
    let front = take 4 here in
    let value : word_at bytes at ≡ from_le_bytes w32 front = word_value bytes front at (in_front 4 at 0 bytes (omega arith) ∙ ap (λ (i : ℕ). get_or bytes i 0) (omega arith)) (in_front 4 at 1 bytes (omega arith)) (in_front 4 at 2 bytes (omega arith)) (in_front 4 at 3 bytes (omega arith)) in
    let same : to_le_bytes w32 (word_at bytes at) ≡ front = le_bytes_4 front (word_at bytes at) (omega (arith, length-take 4 here, length-drop at bytes)) (IsBytes-take 4 here (IsBytes-drop at bytes fits)) value in
    sym (ap (λ (x : List ℕ). x ++ drop (at + 4) bytes) same ∙ ap (λ (x : List ℕ). front ++ x) (sym (drop-drop 4 at bytes)) ∙ take-append-drop 4 here)

pub double_parts : (bytes : List ℕ) (at : ℕ) → IsBytes bytes → at + 8 ≤ length bytes → drop at bytes ≡ to_le_bytes w64 (double_at bytes at) ++ drop (at + 8) bytes
double_parts bytes at fits le =
    let here = drop at bytes in
    let front = take 8 here in
    let second = λ (i : ℕ). ap (λ (k : ℕ). get_or bytes k 0) (further at i) in
    let value : double_at bytes at ≡ from_le_bytes w64 front = double_value bytes front at (in_front 8 at 0 bytes (omega arith) ∙ ap (λ (i : ℕ). get_or bytes i 0) (omega arith)) (in_front 8 at 1 bytes (omega arith)) (in_front 8 at 2 bytes (omega arith)) (in_front 8 at 3 bytes (omega arith)) (in_front 8 at 4 bytes (omega arith)) (in_front 8 at 5 bytes (omega arith) ∙ second 1) (in_front 8 at 6 bytes (omega arith) ∙ second 2) (in_front 8 at 7 bytes (omega arith) ∙ second 3) in
    let same : to_le_bytes w64 (double_at bytes at) ≡ front = le_bytes_8 front (double_at bytes at) (omega (arith, length-take 8 here, length-drop at bytes)) (IsBytes-take 8 here (IsBytes-drop at bytes fits)) value in
    sym (ap (λ (x : List ℕ). x ++ drop (at + 8) bytes) same ∙ ap (λ (x : List ℕ). front ++ x) (sym (drop-drop 8 at bytes)) ∙ take-append-drop 8 here)

pub word_below : (bytes : List ℕ) (at : ℕ) → IsBytes bytes → word_at bytes at < 2 ^ 32
word_below bytes at fits = omega (arith, fits at, fits (at + 1), fits (at + 2), fits (at + 3))

-- the number whose bytes stand in front
pub word_again : (n : ℕ) → n < 2 ^ 32 → word_at (to_le_bytes w32 n) 0 ≡ n
word_again n lt = omega (arith, from_le_bytes-to_le_bytes_4 n lt)

pub double_again : (n : ℕ) → n < 2 ^ 64 → double_at (to_le_bytes w64 n) 0 ≡ n
double_again n lt = omega (arith, from_le_bytes-to_le_bytes_8 n lt)

-- ---- items

pub items_take : {A : Type 0} (one : ℕ → List ℕ → Result (A × List ℕ) Refusal) (next : A → ℕ) (text : A → List ℕ) (Fits : ℕ → A → Type 0) (law : (least : ℕ) (bytes : List ℕ) (x : A) (rest : List ℕ) → IsBytes bytes → one least bytes ≡ Ok (x, rest) → Takes bytes (text x) rest × Fits least x)
    (n least : ℕ) (bytes : List ℕ) (xs : List A) (rest : List ℕ) → IsBytes bytes → items_at one next n least bytes ≡ Ok (xs, rest) → Takes bytes (flat_map text xs) rest × (length xs ≡ n) × InTurn Fits next least xs
unfolding items_at
items_take {A = A} one next text Fits law zero least bytes xs rest fits e =
    subst (λ (y : List A × List ℕ). Takes bytes (flat_map text y.0) y.1 × (length y.0 ≡ 0) × InTurn Fits next least y.0) (ok_is ([], bytes) (xs, rest) e) (record { parts = refl; rest_fits = fits }, refl, tt)
items_take {A = A} one next text Fits law (suc n) least bytes xs rest fits e =
    let a = bind_ok (one least bytes) (λ first. items_at one next n (next first.0) first.1 >>= λ others. Ok (first.0 ∷ others.0, others.1)) (xs, rest) e in
    let b = bind_ok (items_at one next n (next a.0.0) a.0.1) (λ others. Ok (a.0.0 ∷ others.0, others.1)) (xs, rest) a.2 in
    let first = law least bytes a.0.0 a.0.1 fits a.1 in
    let second = items_take one next text Fits law n (next a.0.0) a.0.1 b.0.0 b.0.1 first.0.rest_fits b.1 in
    let both = Takes-then bytes (text a.0.0) a.0.1 (flat_map text b.0.0) b.0.1 first.0 second.0 in
    let made : List A × List ℕ = (a.0.0 ∷ b.0.0, b.0.1) in
    subst (λ (y : List A × List ℕ). Takes bytes (flat_map text y.0) y.1 × (length y.0 ≡ suc n) × InTurn Fits next least y.0) (ok_is made (xs, rest) b.2) (rw flat_map-cons both, ap suc second.1, (first.1, second.2))

pub items_again : {A : Type 0} (one : ℕ → List ℕ → Result (A × List ℕ) Refusal) (next : A → ℕ) (text : A → List ℕ) (Fits : ℕ → A → Type 0) (law : (least : ℕ) (x : A) (rest : List ℕ) → Fits least x → one least (text x ++ rest) ≡ Ok (x, rest))
    (least : ℕ) (xs : List A) (rest : List ℕ) → InTurn Fits next least xs → items_at one next (length xs) least (flat_map text xs ++ rest) ≡ Ok (xs, rest)
unfolding items_at
items_again one next text Fits law least [] rest fits = refl
items_again one next text Fits law least (x ∷ xs) rest fits =
    let regrouped : flat_map text (x ∷ xs) ++ rest ≡ text x ++ (flat_map text xs ++ rest) = ap (λ (t : List ℕ). t ++ rest) (flat_map-cons text x xs) ∙ append_assoc (text x) (flat_map text xs) rest in
    ap (items_at one next (suc (length xs)) least) regrouped ∙ rw (law least x (flat_map text xs ++ rest) fits.0, items_again one next text Fits law (next x) xs rest fits.1) refl
