-- What the point of a state holds is the state.
use Rattle.std.proofs.Common.{◌≡◌, ℕ, zero, suc, ◌+◌, ◌*◌, ◌/◌, ◌%◌, ◌^◌, ◌<◌, ◌≤◌, ◌⊎◌, Bool, true, false, cond, Option, Some, None, List, [], ◌∷◌, refl, sym, ap, subst, ◌∙◌, arith, inl, inr}
use mathlib.Core.Path.{fun_ext}
use Rattle.std.specs.Prelude.{slice_index, unwrap_or, not, ◌||◌, nat_eq, if◌then◌else◌}
use Rattle.std.proofs.lemmas.Bool.{cases_eq, cases_lt, ne_eqb}
use Rattle.paged_mem.specs.Memory.{Pages, page_of, byte_of}
use Rattle.sim_safe.specs.State.{State}
use Rattle.checkpoint.specs.Held.{state_held}
use Rattle.cut_run.specs.Point.{listed, has_some, page_at, pages_from, point_of, HasNoOthers}
use Rattle.cut_run.proofs.Points.{page_here, page_behind, passed, kept}

-- ---- what is listed

listed_at : (f : ℕ → ℕ) (n from k : ℕ) → k < n → slice_index (listed f n from) k ≡ f (from + k)
unfolding listed
listed_at f zero from k l = absurd (omega (arith, l))
listed_at f (suc n) from zero l = let e : from ≡ from + 0 = omega arith in ap f e
listed_at f (suc n) from (suc k) l = let e : (from + 1) + k ≡ from + suc k = omega arith in listed_at f n (from + 1) k (omega (arith, l)) ∙ ap f e

listed_past : (f : ℕ → ℕ) (n from k : ℕ) → n ≤ k → slice_index (listed f n from) k ≡ 0
unfolding listed
listed_past f zero from k l = refl
listed_past f (suc n) from zero l = absurd (omega (arith, l))
listed_past f (suc n) from (suc k) l = listed_past f n (from + 1) k (omega (arith, l))

not_first : (y : ℕ) (b : Bool) → (y ≡ 0) ⊎ (y ≡ 0 → ⊥) → (not (nat_eq y 0) || b) ≡ false → (y ≡ 0) × (b ≡ false)
not_first y b (inl e) h = (e, sym (ap (λ (z : ℕ). not (nat_eq z 0) || b) e) ∙ h)
not_first y b (inr ne) h = absurd (let k : true ≡ false = sym (ap (λ (z : Bool). not z || b) (ne_eqb y 0 ne)) ∙ h in cc)

all_zero : (f : ℕ → ℕ) (n from k : ℕ) → has_some (listed f n from) ≡ false → k < n → f (from + k) ≡ 0
unfolding listed
all_zero f zero from k e l = absurd (omega (arith, l))
all_zero f (suc n) from zero e l =
    let at : from + 0 ≡ from = omega arith in
    ap f at ∙ (not_first (f from) (has_some (listed f n (from + 1))) (cases_eq (f from) 0) e).0
all_zero f (suc n) from (suc k) e l =
    let at : from + suc k ≡ (from + 1) + k = omega arith in
    ap f at ∙ all_zero f n (from + 1) k (not_first (f from) (has_some (listed f n (from + 1))) (cases_eq (f from) 0) e).1 (omega (arith, l))

-- ---- the pages

page_before : (f : ℕ → ℕ) (count n k : ℕ) → k < n → page_of (pages_from f count n) k ≡ None
unfolding pages_from page_of
page_before f zero n k l = refl
page_before f (suc more) n k l = first (has_some (page_at f n)) (page_before f more (n + 1) k (omega (arith, l)))
  where
    first : (b : Bool) → page_of (pages_from f more (n + 1)) k ≡ None → page_of (if b then (n, page_at f n) ∷ pages_from f more (n + 1) else pages_from f more (n + 1)) k ≡ None
    first true rest = ap (λ (z : Bool). cond z (Some (page_at f n)) (page_of (pages_from f more (n + 1)) k)) (ne_eqb k n (λ e. omega (arith, e, l))) ∙ rest
    first false rest = rest

page_past : (f : ℕ → ℕ) (count n k : ℕ) → n + count ≤ k → page_of (pages_from f count n) k ≡ None
unfolding pages_from page_of
page_past f zero n k l = refl
page_past f (suc more) n k l = first (has_some (page_at f n)) (page_past f more (n + 1) k (omega (arith, l)))
  where
    first : (b : Bool) → page_of (pages_from f more (n + 1)) k ≡ None → page_of (if b then (n, page_at f n) ∷ pages_from f more (n + 1) else pages_from f more (n + 1)) k ≡ None
    first true rest = ap (λ (z : Bool). cond z (Some (page_at f n)) (page_of (pages_from f more (n + 1)) k)) (ne_eqb k n (λ e. omega (arith, e, l))) ∙ rest
    first false rest = rest

-- the page with a number is there where it has a byte other than 0
abbrev kept_page : (ℕ → ℕ) → ℕ → Option (List ℕ)
kept_page f k = if has_some (page_at f k) then Some (page_at f k) else None

here_if : (f : ℕ → ℕ) (more n : ℕ) (b : Bool) → has_some (page_at f n) ≡ b → page_of (pages_from f (suc more) n) n ≡ (if b then Some (page_at f n) else None)
here_if f more n true e = ap (λ (ps : Pages). page_of ps n) (kept f more n e) ∙ page_here (n, page_at f n) (pages_from f more (n + 1))
here_if f more n false e = ap (λ (ps : Pages). page_of ps n) (passed f more n e) ∙ page_before f more (n + 1) n (omega arith)

behind_if : (f : ℕ → ℕ) (more n k : ℕ) (b : Bool) → has_some (page_at f n) ≡ b → n < k → page_of (pages_from f (suc more) n) k ≡ page_of (pages_from f more (n + 1)) k
behind_if f more n k true e l = ap (λ (ps : Pages). page_of ps k) (kept f more n e) ∙ page_behind (n, page_at f n) (pages_from f more (n + 1)) k l
behind_if f more n k false e l = ap (λ (ps : Pages). page_of ps k) (passed f more n e)

one_of : (f : ℕ → ℕ) (more n k : ℕ) → n ≤ k → (n ≡ k) ⊎ (n ≡ k → ⊥) → (n < k → page_of (pages_from f more (n + 1)) k ≡ kept_page f k) → page_of (pages_from f (suc more) n) k ≡ kept_page f k
one_of f more n k l (inl e) rest = subst (λ (i : ℕ). page_of (pages_from f (suc more) n) i ≡ kept_page f i) e (here_if f more n (has_some (page_at f n)) refl)
one_of f more n k l (inr ne) rest = let lt : n < k = omega (arith, l, ne) in behind_if f more n k (has_some (page_at f n)) refl lt ∙ rest lt

page_in : (f : ℕ → ℕ) (count n k : ℕ) → n ≤ k → k < n + count → page_of (pages_from f count n) k ≡ kept_page f k
page_in f zero n k l h = absurd (omega (arith, l, h))
page_in f (suc more) n k l h = one_of f more n k l (cases_eq n k) (λ lt. page_in f more (n + 1) k (omega (arith, lt)) (omega (arith, h)))

-- ---- the bytes

byte_if : (f : ℕ → ℕ) (k j : ℕ) (b : Bool) → has_some (page_at f k) ≡ b → j < 4096 → slice_index (unwrap_or (if b then Some (page_at f k) else None) []) j ≡ f (4096 * k + j)
byte_if f k j true e l = listed_at f 4096 (4096 * k) j l
byte_if f k j false e l = sym (all_zero f 4096 (4096 * k) j e l)

byte_is : (f : ℕ → ℕ) (a : ℕ) → ((x : ℕ) → 2 ^ 32 ≤ x → f x ≡ 0) → (a / 4096 < 2 ^ 20) ⊎ (2 ^ 20 ≤ a / 4096) → byte_of (pages_from f (2 ^ 20) 0) a ≡ f a
unfolding byte_of
byte_is f a none (inl low) =
    let split : 4096 * (a / 4096) + a % 4096 ≡ a = omega arith in
    ap (λ (o : Option (List ℕ)). slice_index (unwrap_or o []) (a % 4096)) (page_in f (2 ^ 20) 0 (a / 4096) (omega arith) (omega (arith, low)))
    ∙ byte_if f (a / 4096) (a % 4096) (has_some (page_at f (a / 4096))) refl (omega arith) ∙ ap f split
byte_is f a none (inr high) =
    ap (λ (o : Option (List ℕ)). slice_index (unwrap_or o []) (a % 4096)) (page_past f (2 ^ 20) 0 (a / 4096) (omega (arith, high))) ∙ sym (none a (omega (arith, high)))

-- ---- the registers

register_is : (f : ℕ → ℕ) (k : ℕ) → f 0 ≡ 0 → ((n : ℕ) → 32 ≤ n → f n ≡ 0) → (k < 32) ⊎ (32 ≤ k) → slice_index (0 ∷ listed f 31 1) k ≡ f k
register_is f zero z none h = sym z
register_is f (suc k) z none (inl low) = let e : 1 + k ≡ suc k = omega arith in listed_at f 31 1 k (omega (arith, low)) ∙ ap f e
register_is f (suc k) z none (inr high) = listed_past f 31 1 k (omega (arith, high)) ∙ sym (none (suc k) high)

pub point_holds : (s : State) → HasNoOthers s → state_held (point_of s) s.text ≡ s
unfolding point_of
point_holds s others =
    let made : (ℕ → ℕ) → (ℕ → ℕ) → State = λ regs bytes. record {
      pc = s.pc;
      reads = record { regs = regs; hi = s.reads.hi; lo = s.reads.lo; bytes = bytes; big = s.reads.big };
      icnt = s.icnt;
      used = s.used;
      ended = s.ended;
      text = s.text;
    } in
    let regs : slice_index (0 ∷ listed s.reads.regs 31 1) ≡ s.reads.regs = fun_ext (λ k. register_is s.reads.regs k others.zero others.registers (cases_lt k 32)) in
    let bytes : byte_of (pages_from s.reads.bytes (2 ^ 20) 0) ≡ s.reads.bytes = fun_ext (λ a. byte_is s.reads.bytes a others.addresses (cases_lt (a / 4096) (2 ^ 20))) in
    ap (λ r. made r (byte_of (pages_from s.reads.bytes (2 ^ 20) 0))) regs ∙ ap (made s.reads.regs) bytes
