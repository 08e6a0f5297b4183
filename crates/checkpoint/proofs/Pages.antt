-- A page is read as it was written.
use Rattle.std.proofs.Common.{◌≡◌, ◌≢◌, ℕ, zero, suc, ◌+◌, ◌-◌, ◌*◌, ◌^◌, ◌<◌, ◌≤◌, Bool, true, false, ◌&&◌, cond, ltb, eqb, List, [], ◌∷◌, ◌++◌, length, get_or, take, drop, Result, Ok, Err, refl, sym, ap, subst, ◌∙◌, append_assoc, append-nil, arith}
use Rattle.std.specs.Int.{w32, to_le_bytes}
use Rattle.std.specs.List.{flat_map}
use Rattle.std.specs.Prelude.{slice_index}
use Rattle.std.proofs.lemmas.Bool.{ltb-false, le-ltb, eqb-true}
use Rattle.std.proofs.lemmas.List.{take_at, drop_at, take-append-drop, length-append, length-take, length-drop}
use Rattle.ss_base.specs.Text.{word_at}
use Rattle.event_trace.specs.Grammar.{InTurn}
use Rattle.event_trace.proofs.Fields.{IsBytes, IsBytes-drop, Takes, Takes-then, word_parts, word_below, word_again}
use Rattle.checkpoint.specs.declared.fault.PointWhy.TheVariants as why
use Rattle.checkpoint.specs.Grammar.{page_bytes, HasSome, IsPage, next_page}
use Rattle.checkpoint.specs.Reading.{Refusal, ◌>>=◌, Check, check, judged, is_zero, page_checks, page_at, pages_at}
use Rattle.checkpoint.proofs.Checks.{bind_ok, ok_is, first_passed, first_passes, neither, none_holds}

-- ---- bytes that aren't all 0

found_by : (b : ℕ) (bs : List ℕ) (t : Bool) → eqb b 0 ≡ t → (is_zero bs ≡ false → HasSome bs) → (t && is_zero bs) ≡ false → HasSome (b ∷ bs)
found_by b bs true e f h =
    let there = f h in
    (suc there.0, there.1)
found_by b bs false e f h = (0, λ z. absurd (zero_is b z e))
  where
    zero_is : (n : ℕ) → n ≡ 0 → eqb n 0 ≡ false → ⊥
    zero_is zero z e = absurd cc
    zero_is (suc n) z e = absurd (omega (arith, z))

pub some_found : (bytes : List ℕ) → is_zero bytes ≡ false → HasSome bytes
some_found [] h = absurd cc
some_found (b ∷ bs) h = found_by b bs (eqb b 0) refl (some_found bs) h

one_zero : (n : ℕ) → eqb n 0 ≡ true → n ≡ 0
one_zero n e = eqb-true n 0 e

zero_by : (b : ℕ) (bs : List ℕ) (t : Bool) → eqb b 0 ≡ t → (t && is_zero bs) ≡ true → (b ≡ 0) × (is_zero bs ≡ true)
zero_by b bs true e h = (one_zero b e, h)
zero_by b bs false e h = absurd cc

-- each byte of zeros is 0
pub zeros : (bytes : List ℕ) → is_zero bytes ≡ true → (k : ℕ) → slice_index bytes k ≡ 0
zeros [] h k = refl
zeros (b ∷ bs) h zero = (zero_by b bs (eqb b 0) refl h).0
zeros (b ∷ bs) h (suc k) = zeros bs (zero_by b bs (eqb b 0) refl h).1 k

not_zero_by : (bytes : List ℕ) (t : Bool) → is_zero bytes ≡ t → HasSome bytes → t ≡ false
not_zero_by bytes true e some = absurd (some.1 (zeros bytes e some.0))
not_zero_by bytes false e some = refl

pub not_zero : (bytes : List ℕ) → HasSome bytes → is_zero bytes ≡ false
not_zero bytes some = not_zero_by bytes (is_zero bytes) refl some

-- ---- one page

pub page_takes : (least : ℕ) (bytes : List ℕ) (x : ℕ × List ℕ) (rest : List ℕ) → IsBytes bytes → page_at least bytes ≡ Ok (x, rest) → Takes bytes (page_bytes x) rest × IsPage least x
unfolding page_at
page_takes least bytes x rest fits e =
    let number = word_at bytes 0 in
    let tail = drop 4 bytes in
    let content = take 4096 tail in
    let zero_check : Check = check 4 4100 (is_zero content) why.ZeroPage in
    let made : (ℕ × List ℕ) × List ℕ = ((number, content), drop 4096 tail) in
    let p = bind_ok (judged bytes (page_checks least bytes)) (λ _. Ok made) (x, rest) e in
    let first = first_passed bytes _ (zero_check ∷ []) p.1 in
    let second = first_passed bytes zero_check [] first.others in
    let tests = neither _ _ first.holds in
    let len : length tail ≡ length bytes - 4 = length-drop 4 bytes in
    let whole : length content ≡ 4096 = omega (arith, length-take 4096 tail, len, second.there) in
    let parts : bytes ≡ (to_le_bytes w32 number ++ content) ++ drop 4096 tail =
    word_parts bytes 0 fits (omega (arith, first.there))
    ∙ ap (λ (t : List ℕ). to_le_bytes w32 number ++ t) (sym (take-append-drop 4096 tail))
    ∙ sym (append_assoc (to_le_bytes w32 number) content (drop 4096 tail)) in
    subst (λ (y : (ℕ × List ℕ) × List ℕ). Takes bytes (page_bytes y.0) y.1 × IsPage least y.0) (ok_is made (x, rest) p.2) (
      record { parts = parts; rest_fits = IsBytes-drop 4096 tail (IsBytes-drop 4 bytes fits) },
      record { rising = ltb-false number least tests.0; number = omega (arith, ltb-false 0xfffff number tests.1); whole = whole; some = some_found content second.holds },
    )

page_ok : (least number : ℕ) (content bytes rest : List ℕ) → 4100 ≤ length bytes → word_at bytes 0 ≡ number → drop 4 bytes ≡ content ++ rest → length content ≡ 4096 → least ≤ number → number < 2 ^ 20 → is_zero content ≡ false → page_at least bytes ≡ Ok ((number, content), rest)
unfolding page_at
page_ok least number content bytes rest len is-number is-rest whole low high some =
    let front : take 4096 (drop 4 bytes) ≡ content = ap (λ (t : List ℕ). take 4096 t) is-rest ∙ take_at content rest 4096 whole in
    let behind : drop 4096 (drop 4 bytes) ≡ rest = ap (λ (t : List ℕ). drop 4096 t) is-rest ∙ drop_at content rest 4096 whole in
    let low_test : ltb (word_at bytes 0) least ≡ false = ap (λ (n : ℕ). ltb n least) is-number ∙ le-ltb number least low in
    let high_test : ltb 0xfffff (word_at bytes 0) ≡ false = ap (λ (n : ℕ). ltb 0xfffff n) is-number ∙ le-ltb 0xfffff number (omega (arith, high)) in
    let zero_check : Check = check 4 4100 (is_zero (take 4096 (drop 4 bytes))) why.ZeroPage in
    let second : judged bytes (zero_check ∷ []) ≡ Ok tt = first_passes bytes zero_check [] len (ap is_zero front ∙ some) refl in
    let all : judged bytes (page_checks least bytes) ≡ Ok tt = first_passes bytes _ (zero_check ∷ []) (omega (arith, len)) (none_holds _ _ low_test high_test) second in
    rw (all, front, behind, is-number) refl

pub page_again : (least : ℕ) (x : ℕ × List ℕ) (rest : List ℕ) → IsPage least x → page_at least (page_bytes x ++ rest) ≡ Ok (x, rest)
page_again least x rest fits =
    page_ok least x.0 x.1 (page_bytes x ++ rest) rest (omega (arith, length-append (page_bytes x) rest, length-append (to_le_bytes w32 x.0) x.1, fits.whole)) (word_again x.0 (omega (arith, fits.number))) refl fits.whole fits.rising fits.number (not_zero x.1 fits.some)

-- ---- all pages

pub pages_take : (n least : ℕ) (bytes : List ℕ) (xs : List (ℕ × List ℕ)) (rest : List ℕ) → IsBytes bytes → pages_at n least bytes ≡ Ok (xs, rest) → Takes bytes (flat_map page_bytes xs) rest × (length xs ≡ n) × InTurn IsPage next_page least xs
unfolding pages_at
pages_take zero least bytes xs rest fits e =
    subst (λ (y : List (ℕ × List ℕ) × List ℕ). Takes bytes (flat_map page_bytes y.0) y.1 × (length y.0 ≡ 0) × InTurn IsPage next_page least y.0) (ok_is ([], bytes) (xs, rest) e) (record { parts = refl; rest_fits = fits }, refl, tt)
pages_take (suc n) least bytes xs rest fits e =
    let a = bind_ok (page_at least bytes) (λ first. pages_at n (next_page first.0) first.1 >>= λ others. Ok (first.0 ∷ others.0, others.1)) (xs, rest) e in
    let b = bind_ok (pages_at n (next_page a.0.0) a.0.1) (λ others. Ok (a.0.0 ∷ others.0, others.1)) (xs, rest) a.2 in
    let first = page_takes least bytes a.0.0 a.0.1 fits a.1 in
    let second = pages_take n (next_page a.0.0) a.0.1 b.0.0 b.0.1 first.0.rest_fits b.1 in
    let both = Takes-then bytes (page_bytes a.0.0) a.0.1 (flat_map page_bytes b.0.0) b.0.1 first.0 second.0 in
    let made : List (ℕ × List ℕ) × List ℕ = (a.0.0 ∷ b.0.0, b.0.1) in
    subst (λ (y : List (ℕ × List ℕ) × List ℕ). Takes bytes (flat_map page_bytes y.0) y.1 × (length y.0 ≡ suc n) × InTurn IsPage next_page least y.0) (ok_is made (xs, rest) b.2) (both, ap suc second.1, (first.1, second.2))

pub pages_again : (least : ℕ) (xs : List (ℕ × List ℕ)) (rest : List ℕ) → InTurn IsPage next_page least xs → pages_at (length xs) least (flat_map page_bytes xs ++ rest) ≡ Ok (xs, rest)
unfolding pages_at
pages_again least [] rest fits = refl
pages_again least (x ∷ xs) rest fits =
    let regrouped : flat_map page_bytes (x ∷ xs) ++ rest ≡ page_bytes x ++ (flat_map page_bytes xs ++ rest) = append_assoc (page_bytes x) (flat_map page_bytes xs) rest in
    ap (pages_at (suc (length xs)) least) regrouped ∙ rw (page_again least x (flat_map page_bytes xs ++ rest) fits.0, pages_again (next_page x) xs rest fits.1) refl
