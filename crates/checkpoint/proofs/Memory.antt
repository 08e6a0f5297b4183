-- Pages as a memory: one page more, pages that are taken of a memory, and pages that are laid into one.
use Rattle.std.proofs.Common.{◌≡◌, ◌≢◌, ℕ, zero, suc, ◌+◌, ◌-◌, ◌*◌, ◌/◌, ◌%◌, ◌^◌, ◌<◌, ◌≤◌, ◌⊎◌, Bool, true, false, cond, eqb, Option, Some, None, List, [], ◌∷◌, ◌++◌, length, get_or, take, refl, sym, ap, subst, ◌∙◌, arith, inl, inr}
use mathlib.Core.Path.{fun_ext}
use Rattle.std.specs.Prelude.{slice_index, IfNone}
use Rattle.std.proofs.lemmas.Bool.{cases_eq, cases_lt, eq-eqb, ne_eqb}
use Rattle.std.proofs.lemmas.List.{take_more, take_all}
use Rattle.event_trace.specs.Grammar.{InTurn}
use Rattle.paged_mem.specs.Memory.{Pages, page_of, is_reserved, byte_of, overlaid, IsZeroPage, HasByte}
use Rattle.paged_mem.proofs.Pages.{byte_of-same, byte_of-reserved, byte_of-unreserved, page_of-unreserved}
use Rattle.paged_mem.proofs.Overlaid.{overlaid-before, overlaid-in, overlaid-past}
use Rattle.checkpoint.specs.Grammar.{HasSome, IsPage, next_page, ArePages}

-- ---- one page more

-- the least number that a page behind these may have
abbrev pub next_from : ℕ → Pages → ℕ
next_from least [] = least
next_from least (x ∷ xs) = next_from (x.0 + 1) xs

from_rises : (least : ℕ) (pages : Pages) → InTurn IsPage next_page least pages → least ≤ next_from least pages
from_rises least [] fits = omega arith
from_rises least (x ∷ xs) fits =
    let rest : x.0 + 1 ≤ next_from (x.0 + 1) xs = from_rises (x.0 + 1) xs fits.1 in
    omega (arith, rest, fits.0.rising)

pub absent : (least : ℕ) (pages : Pages) (n : ℕ) → InTurn IsPage next_page least pages → next_from least pages ≤ n → page_of pages n ≡ None
unfolding page_of
absent least [] n fits le = refl
absent least (x ∷ xs) n fits le =
    let low : x.0 + 1 ≤ next_from (x.0 + 1) xs = from_rises (x.0 + 1) xs fits.1 in
    let above : x.0 < n = omega (arith, low, le) in
    ap (λ (b : Bool). cond b (Some x.1) (page_of xs n)) (ne_eqb n x.0 (λ e. omega (arith, e, above))) ∙ absent (x.0 + 1) xs n fits.1 le

not_here : (b : Bool) (content : List ℕ) (o : Option (List ℕ)) → cond b (Some content) o ≡ None → (b ≡ false) × (o ≡ None)
not_here true content o e = absurd cc
not_here false content o e = (refl, e)

here : (pages : Pages) (x : ℕ × List ℕ) → page_of pages x.0 ≡ None → page_of (pages ++ x ∷ []) x.0 ≡ Some x.1
unfolding page_of
here [] x free = ap (λ (b : Bool). cond b (Some x.1) None) (eq-eqb x.0 x.0 refl)
here (y ∷ ys) x free =
    let p = not_here (eqb x.0 y.0) y.1 (page_of ys x.0) free in
    ap (λ (b : Bool). cond b (Some y.1) (page_of (ys ++ x ∷ []) x.0)) p.0 ∙ here ys x p.1

elsewhere : (pages : Pages) (x : ℕ × List ℕ) (n : ℕ) → (n ≡ x.0 → ⊥) → page_of (pages ++ x ∷ []) n ≡ page_of pages n
unfolding page_of
elsewhere [] x n apart = ap (λ (b : Bool). cond b (Some x.1) None) (ne_eqb n x.0 apart)
elsewhere (y ∷ ys) x n apart = ap (λ (o : Option (List ℕ)). cond (eqb n y.0) (Some y.1) o) (elsewhere ys x n apart)

turn_push : (least : ℕ) (pages : Pages) (x : ℕ × List ℕ) → InTurn IsPage next_page least pages → IsPage (next_from least pages) x → InTurn IsPage next_page least (pages ++ x ∷ [])
turn_push least [] x fits fit = (fit, tt)
turn_push least (y ∷ ys) x fits fit = (fits.0, turn_push (y.0 + 1) ys x fits.1 fit)

next_push : (least : ℕ) (pages : Pages) (x : ℕ × List ℕ) → next_from least (pages ++ x ∷ []) ≡ x.0 + 1
next_push least [] x = refl
next_push least (y ∷ ys) x = next_push (y.0 + 1) ys x

byte_here : (pages : Pages) (x : ℕ × List ℕ) (a : ℕ) → page_of pages x.0 ≡ None → a / 4096 ≡ x.0 → byte_of (pages ++ x ∷ []) a ≡ slice_index x.1 (a % 4096)
byte_here pages x a free e =
    byte_of-reserved (pages ++ x ∷ []) a x.1 (ap (λ (n : ℕ). page_of (pages ++ x ∷ []) n) e ∙ here pages x free)

byte_elsewhere : (pages : Pages) (x : ℕ × List ℕ) (a : ℕ) → (a / 4096 ≡ x.0 → ⊥) → byte_of (pages ++ x ∷ []) a ≡ byte_of pages a
byte_elsewhere pages x a apart = byte_of-same pages (pages ++ x ∷ []) a (elsewhere pages x (a / 4096) apart)

-- ---- pages that are taken

-- a page with a byte other than 0 is reserved
pub is_there : (memory : Pages) (number : ℕ) → HasByte memory number → is_reserved memory number ≡ false → ⊥
is_there memory number has free = has.2 (byte_of-unreserved memory has.0 (page_of-unreserved memory (has.0 / 4096) (ap (is_reserved memory) has.1 ∙ free)))

-- these are the pages below a number that have a byte other than 0
pub record Taken (memory pages : Pages) (from : ℕ) : Type 0 where
  pub fit : ArePages pages
  pub low : next_from 0 pages ≤ from
  pub bytes : (a : ℕ) → a / 4096 < from → byte_of pages a ≡ byte_of memory a

pub taken_none : (memory : Pages) → Taken memory [] 0
taken_none memory = record { fit = tt; low = omega arith; bytes = λ a lt. absurd (omega (arith, lt)) }

some_there : (memory : Pages) (number : ℕ) (content : List ℕ) → HasByte memory number → ((k : ℕ) → k < 4096 → slice_index content k ≡ byte_of memory (4096 * number + k)) → HasSome content
some_there memory number content has copied =
    let a = has.0 in
    let split : 4096 * number + a % 4096 ≡ a = omega (arith, has.1) in
    let same : slice_index content (a % 4096) ≡ byte_of memory a = copied (a % 4096) (omega arith) ∙ ap (byte_of memory) split in
    (a % 4096, λ z. has.2 (sym same ∙ z))

taken_next : (memory pages : Pages) (from number : ℕ) (content : List ℕ) → Taken memory pages from → from ≤ number → number < 2 ^ 20 → HasByte memory number → ((n : ℕ) → from ≤ n → n < number → IsZeroPage memory n)
    → length content ≡ 4096 → ((k : ℕ) → k < 4096 → slice_index content k ≡ byte_of memory (4096 * number + k)) → Taken memory (pages ++ (number, content) ∷ []) (number + 1)
taken_next memory pages from number content so_far low high has zeros whole copied = record {
  fit = turn_push 0 pages page so_far.fit (record { rising = omega (arith, low, so_far.low); number = high; whole = whole; some = some_there memory number content has copied });
  low = omega (arith, next_push 0 pages page);
  bytes = λ a lt. each a lt (cases_lt (a / 4096) from);
}
  where
    page : ℕ × List ℕ
    page = (number, content)

    free : (n : ℕ) → from ≤ n → page_of pages n ≡ None
    free n le = absent 0 pages n so_far.fit (omega (arith, le, so_far.low))

    behind : (a : ℕ) → from ≤ a / 4096 → a / 4096 < number + 1 → (a / 4096 ≡ number) ⊎ (a / 4096 ≡ number → ⊥) → byte_of (pages ++ page ∷ []) a ≡ byte_of memory a
    behind a le lt (inl e) =
        let split : 4096 * number + a % 4096 ≡ a = omega (arith, e) in
        byte_here pages page a (free number low) e ∙ copied (a % 4096) (omega arith) ∙ ap (byte_of memory) split
    behind a le lt (inr apart) =
        byte_elsewhere pages page a apart ∙ byte_of-unreserved pages a (free (a / 4096) le) ∙ sym (zeros (a / 4096) le (omega (arith, lt, apart)) a refl)

    each : (a : ℕ) → a / 4096 < number + 1 → (a / 4096 < from) ⊎ (from ≤ a / 4096) → byte_of (pages ++ page ∷ []) a ≡ byte_of memory a
    each a lt (inl below) = byte_elsewhere pages page a (λ e. omega (arith, e, below, low)) ∙ so_far.bytes a below
    each a lt (inr le) = behind a le lt (cases_eq (a / 4096) number)

-- the same for a page that was copied
pub taken_push : (memory pages : Pages) (from number : ℕ) (x : ℕ × List ℕ) → Taken memory pages from → x.0 ≡ number → from ≤ number → number < 2 ^ 20 → HasByte memory number → ((n : ℕ) → from ≤ n → n < number → IsZeroPage memory n)
    → length x.1 ≡ 4096 → ((k : ℕ) → k < 4096 → slice_index x.1 k ≡ byte_of memory (4096 * number + k)) → Taken memory (pages ++ x ∷ []) (number + 1)
taken_push memory pages from number x so_far e low high has zeros whole copied =
    subst (λ (n : ℕ). Taken memory (pages ++ (n, x.1) ∷ []) (number + 1)) (sym e) (taken_next memory pages from number x.1 so_far low high has zeros whole copied)

-- what is known where there is no further page
pub none_left : (o : Option ℕ) (P : Type 0) → ((x : ℕ) → o ≡ Some x → ⊥) → IfNone o P → P
none_left None P free h = h
none_left (Some x) P free h = absurd (free x refl)

pub taken_all : (memory pages : Pages) (from : ℕ) → Taken memory pages from → ((n : ℕ) → from ≤ n → IsZeroPage memory n) → byte_of pages ≡ byte_of memory
taken_all memory pages from so_far zeros = fun_ext (λ a. each a (cases_lt (a / 4096) from))
  where
    each : (a : ℕ) → (a / 4096 < from) ⊎ (from ≤ a / 4096) → byte_of pages a ≡ byte_of memory a
    each a (inl below) = so_far.bytes a below
    each a (inr le) = byte_of-unreserved pages a (absent 0 pages (a / 4096) so_far.fit (omega (arith, le, so_far.low))) ∙ sym (zeros (a / 4096) le a refl)

-- ---- pages that are laid

page_laid : (pages : Pages) (x : ℕ × List ℕ) → page_of pages x.0 ≡ None → length x.1 ≡ 4096 → byte_of (pages ++ x ∷ []) ≡ overlaid (byte_of pages) (4096 * x.0) x.1
page_laid pages x free whole = fun_ext (λ a. each a (cases_eq (a / 4096) x.0))
  where
    apart : (a : ℕ) → (a / 4096 ≡ x.0 → ⊥) → (a < 4096 * x.0) ⊎ (4096 * x.0 ≤ a) → byte_of (pages ++ x ∷ []) a ≡ overlaid (byte_of pages) (4096 * x.0) x.1 a
    apart a ne (inl low) = byte_elsewhere pages x a ne ∙ sym (overlaid-before (byte_of pages) (4096 * x.0) x.1 a low)
    apart a ne (inr high) =
        let past : 4096 * x.0 + length x.1 ≤ a = omega (arith, whole, high, ne) in
        byte_elsewhere pages x a ne ∙ sym (overlaid-past (byte_of pages) (4096 * x.0) x.1 a past)

    each : (a : ℕ) → (a / 4096 ≡ x.0) ⊎ (a / 4096 ≡ x.0 → ⊥) → byte_of (pages ++ x ∷ []) a ≡ overlaid (byte_of pages) (4096 * x.0) x.1 a
    each a (inl e) =
        let low : 4096 * x.0 ≤ a = omega (arith, e) in
        let high : a < 4096 * x.0 + length x.1 = omega (arith, e, whole) in
        let place : a - 4096 * x.0 ≡ a % 4096 = omega (arith, e) in
        byte_here pages x a free e ∙ sym (overlaid-in (byte_of pages) (4096 * x.0) x.1 a low high ∙ ap (slice_index x.1) place)
    each a (inr ne) = apart a ne (cases_lt a (4096 * x.0))

-- a page of a list, behind the pages before it
pub page_turn : (least : ℕ) (pages : Pages) (k : ℕ) (x : ℕ × List ℕ) → InTurn IsPage next_page least pages → k < length pages → x ≡ get_or pages k x → IsPage (next_from least (take k pages)) x
page_turn least [] k x fits lt e = absurd (omega (arith, lt))
page_turn least (y ∷ ys) zero x fits lt e = subst (λ (p : ℕ × List ℕ). IsPage least p) (sym e) fits.0
page_turn least (y ∷ ys) (suc k) x fits lt e = page_turn (y.0 + 1) ys k x fits.1 (omega (arith, lt)) e

front_turn : (least : ℕ) (pages : Pages) (k : ℕ) → InTurn IsPage next_page least pages → InTurn IsPage next_page least (take k pages)
front_turn least pages zero fits = tt
front_turn least [] (suc k) fits = tt
front_turn least (y ∷ ys) (suc k) fits = (fits.0, front_turn (y.0 + 1) ys k fits.1)

pub laid_none : (memory : Pages) → byte_of memory ≡ (λ _. 0) → byte_of memory ≡ byte_of []
unfolding byte_of page_of
laid_none memory e = e

pub laid_next : (old new pages : Pages) (k : ℕ) (x : ℕ × List ℕ) → ArePages pages → k < length pages → x ≡ get_or pages k x → byte_of old ≡ byte_of (take k pages) → byte_of new ≡ overlaid (byte_of old) (4096 * x.0) x.1 → byte_of new ≡ byte_of (take (k + 1) pages)
laid_next old new pages k x fits lt e so_far written =
    let fit = page_turn 0 pages k x fits lt e in
    let free : page_of (take k pages) x.0 ≡ None = absent 0 (take k pages) x.0 (front_turn 0 pages k fits) fit.rising in
    let more : take (k + 1) pages ≡ take k pages ++ x ∷ [] = take_more pages k x lt ∙ ap (λ (y : ℕ × List ℕ). take k pages ++ y ∷ []) (sym e) in
    written ∙ ap (λ (f : ℕ → ℕ). overlaid f (4096 * x.0) x.1) so_far ∙ sym (ap byte_of more ∙ page_laid (take k pages) x free fit.whole)

pub laid_all : (memory pages : Pages) (k : ℕ) → length pages ≤ k → byte_of memory ≡ byte_of (take k pages) → byte_of memory ≡ byte_of pages
laid_all memory pages k le so_far = so_far ∙ ap byte_of (take_all k pages le)
