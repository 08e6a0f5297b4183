-- Numbers that are read are those that were printed.
use Rattle.std.proofs.Common.{◌≡◌, ◌++◌, ◌∙◌, ◌+◌, ◌-◌, ◌*◌, ◌/◌, ◌%◌, ◌^◌, ◌<◌, ◌≤◌, ◌&&◌, ℕ, suc, Bool, true, false, cond, ltb, List, [], ◌∷◌, Option, Some, None, refl, sym, ap, length, get_or, take, drop, decimal, arith, rules}
use Rattle.std.specs.Char.{is_ascii_digit}
use Rattle.std.specs.List.{list_all}
use Rattle.std.proofs.Math.Seq.{take-append_seam, drop-append_seam}
use Rattle.std.proofs.lemmas.Bool.Decides.{nat_tests}
use Rattle.std.proofs.lemmas.List.{take-append-drop}
use Rattle.std.proofs.lemmas.Str.Parse.{IsNumeralModel, numerals_by_fold}
use Rattle.std.proofs.lemmas.Fmt.{decimal-digits_value, digits_decimal, digits_value-decimal, decimal_digit, decimal_nonempty, first_decimal}
use Rattle.ss_base.specs.Text.{hex8, hex_digit}
use Rattle.pipetrace.specs.Reading.{decimal_on, digit_at, digit_count, is_numeral, number_at, byte_at, half_at, address_at}
use Rattle.pipetrace.proofs.Words.{bind_some, passed, some_is}

-- ---- decimal numbers

own : IsNumeralModel (λ ds. list_all is_ascii_digit ds ≡ true) (decimal_on 0)
own = numerals_by_fold _ (search rules) decimal_on (search rules)

pub digits_all : (n : ℕ) → n < 2 ^ 64 → list_all is_ascii_digit (decimal n) ≡ true
digits_all n h = digits_decimal own n h

front_cell : (b : ℕ) (bs : List ℕ) (p : Bool) → is_ascii_digit b ≡ p → list_all is_ascii_digit (take (digit_count bs) bs) ≡ true → list_all is_ascii_digit (take (cond p (suc (digit_count bs)) 0) (b ∷ bs)) ≡ true
front_cell b bs true e h = ap (λ x. x && list_all is_ascii_digit (take (digit_count bs) bs)) e ∙ h
front_cell b bs false e h = refl

front_digits : (bytes : List ℕ) → list_all is_ascii_digit (take (digit_count bytes) bytes) ≡ true
front_digits [] = refl
front_digits (b ∷ bs) = front_cell b bs (is_ascii_digit b) refl (front_digits bs)

both : (a b : Bool) → (a && b) ≡ true → (a ≡ true) × (b ≡ true)
both true b e = (refl, e)
both false b e = absurd cc

pub count_front : (ds rest : List ℕ) → list_all is_ascii_digit ds ≡ true → digit_count rest ≡ 0 → digit_count (ds ++ rest) ≡ length ds
count_front [] rest h e = e
count_front (d ∷ ds) rest h e =
    let p = both (is_ascii_digit d) (list_all is_ascii_digit ds) h in
    ap (λ b. cond b (suc (digit_count (ds ++ rest))) 0) p.0 ∙ ap suc (count_front ds rest p.1 e)

record Numeral (ds : List ℕ) : Type 0 where
  some : 0 < length ds
  leading : get_or ds 0 0 ≡ 48 → length ds ≡ 1

numeral_parts : (ds : List ℕ) → is_numeral ds ≡ true → Numeral ds
numeral_parts ds h = grind (arith, nat_tests)

numeral_from : (ds : List ℕ) → 0 < length ds → (1 < length ds → 48 < get_or ds 0 0) → is_numeral ds ≡ true
numeral_from ds some first = grind (arith, nat_tests)

pub number_is : (limit : ℕ) (bytes : List ℕ) (n : ℕ) (rest : List ℕ) → limit ≤ 2 ^ 64 → number_at limit bytes ≡ Some (n, rest) → (bytes ≡ decimal n ++ rest) × (n < limit)
unfolding number_at
number_is limit bytes n rest small e =
    let ds = take (digit_count bytes) bytes in
    let after = drop (digit_count bytes) bytes in
    let p = passed (is_numeral ds) (cond (ltb (decimal_on 0 ds) limit) (Some (decimal_on 0 ds, after)) None) (n, rest) e in
    let q = passed (ltb (decimal_on 0 ds) limit) (Some (decimal_on 0 ds, after)) (n, rest) p.1 in
    let same = some_is (decimal_on 0 ds, after) (n, rest) q.1 in
    let value : decimal_on 0 ds ≡ n = ap (λ x. x.0) same in
    let left : after ≡ rest = ap (λ x. x.1) same in
    let below : decimal_on 0 ds < limit = grind (arith, nat_tests, q.0) in
    let parts = numeral_parts ds p.0 in
    let text : decimal (decimal_on 0 ds) ≡ ds = decimal-digits_value own ds (front_digits bytes) parts.some parts.leading (omega arith) in
    (sym (take-append-drop (digit_count bytes) bytes) ∙ ap (λ l. l ++ after) (sym text ∙ ap decimal value) ∙ ap (λ l. decimal n ++ l) left, omega arith)

numeral_decimal_by : (n : ℕ) (big : Bool) → ltb 0 n ≡ big → n < 2 ^ 64 → is_numeral (decimal n) ≡ true
numeral_decimal_by n true e h = numeral_from (decimal n) (decimal_nonempty n h) (λ _. first_decimal n (grind (arith, nat_tests)) h)
numeral_decimal_by n false e h =
    let one : length (decimal n) ≡ 1 = ap length (decimal_digit n (grind (arith, nat_tests))) in
    numeral_from (decimal n) (omega arith) (λ k. absurd (omega arith))

numeral_decimal : (n : ℕ) → n < 2 ^ 64 → is_numeral (decimal n) ≡ true
numeral_decimal n h = numeral_decimal_by n (ltb 0 n) refl h

pub number_again : (limit n : ℕ) (rest : List ℕ) → limit ≤ 2 ^ 64 → n < limit → digit_count rest ≡ 0 → number_at limit (decimal n ++ rest) ≡ Some (n, rest)
unfolding number_at
number_again limit n rest small h ends =
    let big : n < 2 ^ 64 = omega arith in
    let k : digit_count (decimal n ++ rest) ≡ length (decimal n) = count_front (decimal n) rest (digits_all n big) ends in
    let front : take (digit_count (decimal n ++ rest)) (decimal n ++ rest) ≡ decimal n = ap (λ m. take m (decimal n ++ rest)) k ∙ take-append_seam (decimal n) rest in
    let after : drop (digit_count (decimal n ++ rest)) (decimal n ++ rest) ≡ rest = ap (λ m. drop m (decimal n ++ rest)) k ∙ drop-append_seam (decimal n) rest in
    let below : ltb n limit ≡ true = grind (arith, nat_tests) in
    rw (front, after, numeral_decimal n big, digits_value-decimal own n big, below) refl

-- ---- hexadecimal digits

low_digit : (d : ℕ) → d < 10 → hex_digit d ≡ 48 + d
low_digit d h = grind (arith, nat_tests)

high_digit : (d : ℕ) → 10 ≤ d → hex_digit d ≡ 87 + d
high_digit d h = grind (arith, nat_tests)

abbrev found : ℕ → List ℕ → Option (ℕ × List ℕ)
found d rest = Some (d, rest)

digit_by : (b d : ℕ) (bs rest : List ℕ) (p q r : Bool) → is_ascii_digit b ≡ p → ltb b 97 ≡ q → ltb 102 b ≡ r
    → cond p (found (b - 48) bs) (cond q None (cond r None (found (b - 87) bs))) ≡ Some (d, rest) → (b ∷ bs ≡ hex_digit d ∷ rest) × (d < 16)
digit_by b d bs rest true q r ep eq er e =
    let same = some_is (b - 48, bs) (d, rest) e in
    let value : b - 48 ≡ d = ap (λ x. x.0) same in
    let range : (48 ≤ b) × (b ≤ 57) = (grind (arith, nat_tests), grind (arith, nat_tests)) in
    let cell : b ≡ hex_digit d = omega (arith, low_digit d (omega arith)) in
    (ap (λ x. x ∷ bs) cell ∙ ap (λ l. hex_digit d ∷ l) (ap (λ x. x.1) same), omega arith)
digit_by b d bs rest false true r ep eq er e = absurd cc
digit_by b d bs rest false false true ep eq er e = absurd cc
digit_by b d bs rest false false false ep eq er e =
    let same = some_is (b - 87, bs) (d, rest) e in
    let value : b - 87 ≡ d = ap (λ x. x.0) same in
    let range : (97 ≤ b) × (b ≤ 102) = (grind (arith, nat_tests), grind (arith, nat_tests)) in
    let cell : b ≡ hex_digit d = omega (arith, high_digit d (omega arith)) in
    (ap (λ x. x ∷ bs) cell ∙ ap (λ l. hex_digit d ∷ l) (ap (λ x. x.1) same), omega arith)

pub digit_is : (bytes : List ℕ) (d : ℕ) (rest : List ℕ) → digit_at bytes ≡ Some (d, rest) → (bytes ≡ hex_digit d ∷ rest) × (d < 16)
digit_is [] d rest e = absurd cc
digit_is (b ∷ bs) d rest e = digit_by b d bs rest (is_ascii_digit b) (ltb b 97) (ltb 102 b) refl refl refl e

low_again : (d : ℕ) (rest : List ℕ) → d < 10 → digit_at ((48 + d) ∷ rest) ≡ Some (d, rest)
low_again d rest h =
    let t : is_ascii_digit (48 + d) ≡ true = grind (arith, nat_tests) in
    let v : 48 + d - 48 ≡ d = omega arith in
    rw (t, v) refl

high_again : (d : ℕ) (rest : List ℕ) → 10 ≤ d → d < 16 → digit_at ((87 + d) ∷ rest) ≡ Some (d, rest)
high_again d rest h k =
    let t : is_ascii_digit (87 + d) ≡ false = grind (arith, nat_tests) in
    let u : ltb (87 + d) 97 ≡ false = grind (arith, nat_tests) in
    let w : ltb 102 (87 + d) ≡ false = grind (arith, nat_tests) in
    let v : 87 + d - 87 ≡ d = omega arith in
    rw (t, u, w, v) refl

digit_again_by : (d : ℕ) (rest : List ℕ) (low : Bool) → ltb d 10 ≡ low → d < 16 → digit_at (hex_digit d ∷ rest) ≡ Some (d, rest)
digit_again_by d rest true e h =
    let small : d < 10 = grind (arith, nat_tests) in
    ap (λ b. digit_at (b ∷ rest)) (low_digit d small) ∙ low_again d rest small
digit_again_by d rest false e h =
    let big : 10 ≤ d = grind (arith, nat_tests) in
    ap (λ b. digit_at (b ∷ rest)) (high_digit d big) ∙ high_again d rest big h

pub digit_again : (d : ℕ) (rest : List ℕ) → d < 16 → digit_at (hex_digit d ∷ rest) ≡ Some (d, rest)
digit_again d rest h = digit_again_by d rest (ltb d 10) refl h

-- ---- two, four and eight of them

pub record Two (bytes : List ℕ) (n : ℕ) (rest : List ℕ) : Type 0 where
  pub a : ℕ
  pub b : ℕ
  pub a_fits : a < 16
  pub b_fits : b < 16
  pub value : n ≡ 16 * a + b
  pub parts : bytes ≡ hex_digit a ∷ hex_digit b ∷ rest

pub two_is : (bytes : List ℕ) (n : ℕ) (rest : List ℕ) → byte_at bytes ≡ Some (n, rest) → Two bytes n rest
unfolding byte_at
two_is bytes n rest e =
    let p = bind_some (digit_at bytes) _ (n, rest) e in
    let q = bind_some (digit_at p.0.1) _ (n, rest) p.2 in
    let same = some_is (16 * p.0.0 + q.0.0, q.0.1) (n, rest) q.2 in
    let f = digit_is bytes p.0.0 p.0.1 p.1 in
    let g = digit_is p.0.1 q.0.0 q.0.1 q.1 in
    record {
      a = p.0.0;
      b = q.0.0;
      a_fits = f.1;
      b_fits = g.1;
      value = sym (ap (λ x. x.0) same);
      parts = f.0 ∙ ap (λ l. hex_digit p.0.0 ∷ l) (g.0 ∙ ap (λ l. hex_digit q.0.0 ∷ l) (ap (λ x. x.1) same));
    }

pub two_again : (a b : ℕ) (rest : List ℕ) → a < 16 → b < 16 → byte_at (hex_digit a ∷ hex_digit b ∷ rest) ≡ Some (16 * a + b, rest)
unfolding byte_at
two_again a b rest h k = rw (digit_again a (hex_digit b ∷ rest) h, digit_again b rest k) refl

abbrev pub hex4 : ℕ → List ℕ
hex4 n = hex_digit (n / 4096 % 16) ∷ hex_digit (n / 256 % 16) ∷ hex_digit (n / 16 % 16) ∷ hex_digit (n % 16) ∷ []

cells4 : (a b c d e f g h : ℕ) (rest : List ℕ) → a ≡ e → b ≡ f → c ≡ g → d ≡ h → hex_digit a ∷ hex_digit b ∷ hex_digit c ∷ hex_digit d ∷ rest ≡ hex_digit e ∷ hex_digit f ∷ hex_digit g ∷ hex_digit h ∷ rest
cells4 a b c d e f g h rest i j k l = rw (i, j, k, l) refl

pub half_is : (bytes : List ℕ) (n : ℕ) (rest : List ℕ) → half_at bytes ≡ Some (n, rest) → (bytes ≡ hex4 n ++ rest) × (n < 65536)
unfolding half_at
half_is bytes n rest e =
    let p = bind_some (byte_at bytes) _ (n, rest) e in
    let q = bind_some (byte_at p.0.1) _ (n, rest) p.2 in
    let same = some_is (256 * p.0.0 + q.0.0, q.0.1) (n, rest) q.2 in
    let value : 256 * p.0.0 + q.0.0 ≡ n = ap (λ x. x.0) same in
    let f = two_is bytes p.0.0 p.0.1 p.1 in
    let g = two_is p.0.1 q.0.0 q.0.1 q.1 in
    let whole : n ≡ 4096 * f.a + 256 * f.b + 16 * g.a + g.b = omega arith in (
      f.parts ∙ ap (λ l. hex_digit f.a ∷ hex_digit f.b ∷ l) (g.parts ∙ ap (λ l. hex_digit g.a ∷ hex_digit g.b ∷ l) (ap (λ x. x.1) same))
          ∙ cells4 f.a f.b g.a g.b (n / 4096 % 16) (n / 256 % 16) (n / 16 % 16) (n % 16) rest (omega arith) (omega arith) (omega arith) (omega arith),
      omega arith,
    )

pub half_again : (n : ℕ) (rest : List ℕ) → n < 65536 → half_at (hex4 n ++ rest) ≡ Some (n, rest)
unfolding half_at
half_again n rest h =
    let low = two_again (n / 16 % 16) (n % 16) rest (omega arith) (omega arith) in
    let high = two_again (n / 4096 % 16) (n / 256 % 16) (hex_digit (n / 16 % 16) ∷ hex_digit (n % 16) ∷ rest) (omega arith) (omega arith) in
    let value : 256 * (16 * (n / 4096 % 16) + n / 256 % 16) + (16 * (n / 16 % 16) + n % 16) ≡ n = omega arith in
    rw (high, low) (ap (λ m. Some (m, rest)) value)

cells8 : (h l n : ℕ) (rest : List ℕ) → h < 65536 → l < 65536 → n ≡ 65536 * h + l → hex4 h ++ (hex4 l ++ rest) ≡ hex8 n ++ rest
cells8 h l n rest hh hl e =
    cells4 (h / 4096 % 16) (h / 256 % 16) (h / 16 % 16) (h % 16) (n / 268435456 % 16) (n / 16777216 % 16) (n / 1048576 % 16) (n / 65536 % 16) (hex4 l ++ rest) (omega arith) (omega arith) (omega arith) (omega arith)
    ∙ ap (λ x. hex_digit (n / 268435456 % 16) ∷ hex_digit (n / 16777216 % 16) ∷ hex_digit (n / 1048576 % 16) ∷ hex_digit (n / 65536 % 16) ∷ x)
    (cells4 (l / 4096 % 16) (l / 256 % 16) (l / 16 % 16) (l % 16) (n / 4096 % 16) (n / 256 % 16) (n / 16 % 16) (n % 16) rest (omega arith) (omega arith) (omega arith) (omega arith))

pub address_is : (bytes : List ℕ) (n : ℕ) (rest : List ℕ) → address_at bytes ≡ Some (n, rest) → (bytes ≡ hex8 n ++ rest) × (n < 2 ^ 32)
unfolding address_at
address_is bytes n rest e =
    let p = bind_some (half_at bytes) _ (n, rest) e in
    let q = bind_some (half_at p.0.1) _ (n, rest) p.2 in
    let same = some_is (65536 * p.0.0 + q.0.0, q.0.1) (n, rest) q.2 in
    let value : 65536 * p.0.0 + q.0.0 ≡ n = ap (λ x. x.0) same in
    let f = half_is bytes p.0.0 p.0.1 p.1 in
    let g = half_is p.0.1 q.0.0 q.0.1 q.1 in
    (f.0 ∙ ap (λ l. hex4 p.0.0 ++ l) (g.0 ∙ ap (λ l. hex4 q.0.0 ++ l) (ap (λ x. x.1) same)) ∙ cells8 p.0.0 q.0.0 n rest f.1 g.1 (sym value), omega arith)

pub address_again : (n : ℕ) (rest : List ℕ) → n < 2 ^ 32 → address_at (hex8 n ++ rest) ≡ Some (n, rest)
unfolding address_at
address_again n rest h =
    let high = n / 65536 in
    let low = n % 65536 in
    let value : 65536 * (n / 65536) + n % 65536 ≡ n = omega arith in
    ap address_at (sym (cells8 (n / 65536) (n % 65536) n rest (omega arith) (omega arith) (sym value)))
    ∙ rw (half_again (n / 65536) (hex4 (n % 65536) ++ rest) (omega arith), half_again (n % 65536) rest (omega arith)) (ap (λ m. Some (m, rest)) value)
