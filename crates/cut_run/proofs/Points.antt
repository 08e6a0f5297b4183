-- The point that is taken of a machine is that of its state.
use Rattle.std.proofs.Common.{◌≡◌, ℕ, zero, suc, ◌+◌, ◌*◌, ◌/◌, ◌%◌, ◌^◌, ◌<◌, ◌≤◌, ◌⊎◌, Bool, true, false, cond, Option, Some, None, List, [], ◌∷◌, length, refl, sym, ap, subst, ◌∙◌, arith, inl, inr}
use Rattle.std.specs.Prelude.{slice_index, unwrap_or, not, ◌||◌, nat_eq, nat_lt, if◌then◌else◌}
use Rattle.std.proofs.lemmas.Bool.{cases_eq, eq-eqb, ne_eqb, lt-ltb, le-ltb}
use Rattle.ecoff_load.specs.declared.image.Text.{Text}
use Rattle.event_trace.specs.Grammar.{InTurn}
use Rattle.paged_mem.specs.Memory.{Pages, page_of, byte_of}
use Rattle.sim_safe.specs.State.{State, Storage, state_of}
use Rattle.checkpoint.specs.State.{PointState}
use Rattle.checkpoint.specs.Grammar.{IsHead, IsPage, ArePages, next_page, point_bytes}
use Rattle.checkpoint.specs.Held.{IsPointOf, state_held}
use Rattle.journal.specs.declared.fault.Fault.{Fault}
use Rattle.journal.specs.Write.{Append}
use Rattle.journal.specs.View.{View, Wrote, Cut, GaveUp}
use Rattle.journal.specs.Laws.{wrote_none, gave_up_cut}
use Rattle.cut_run.specs.Point.{listed, has_some, page_at, pages_from, point_of, most_pages}
use Rattle.cut_run.specs.Parts.{is_large_at, point_writes}

-- ---- lists of what a function gives

listed_is : (f : ℕ → ℕ) (xs : List ℕ) (n from : ℕ) → length xs ≡ n → ((k : ℕ) → k < n → f (from + k) ≡ slice_index xs k) → listed f n from ≡ xs
unfolding listed
listed_is f [] zero from l same = refl
listed_is f [] (suc n) from l same = absurd (omega (arith, l))
listed_is f (x ∷ xs) zero from l same = absurd (omega (arith, l))
listed_is f (x ∷ xs) (suc n) from l same =
    let at : from + 0 ≡ from = omega arith in
    let first : f from ≡ x = ap f (sym at) ∙ same 0 (omega arith) in
    let behind : (k : ℕ) → k < n → f ((from + 1) + k) ≡ slice_index xs k = λ k h. (let e : (from + 1) + k ≡ from + suc k = omega arith in ap f e ∙ same (suc k) (omega (arith, h))) in
    ap (λ (y : ℕ). y ∷ listed f n (from + 1)) first ∙ ap (λ (ys : List ℕ). x ∷ ys) (listed_is f xs n (from + 1) (omega (arith, l)) behind)

none_some : (f : ℕ → ℕ) (n from : ℕ) → ((k : ℕ) → k < n → f (from + k) ≡ 0) → has_some (listed f n from) ≡ false
unfolding listed
none_some f zero from zeros = refl
none_some f (suc n) from zeros =
    let at : from + 0 ≡ from = omega arith in
    let first : f from ≡ 0 = ap f (sym at) ∙ zeros 0 (omega arith) in
    let behind : (k : ℕ) → k < n → f ((from + 1) + k) ≡ 0 = λ k h. (let e : (from + 1) + k ≡ from + suc k = omega arith in ap f e ∙ zeros (suc k) (omega (arith, h))) in
    ap (λ (y : ℕ). not (nat_eq y 0) || has_some (listed f n (from + 1))) first ∙ none_some f n (from + 1) behind

some_or : (y : ℕ) (b : Bool) → (y ≡ 0) ⊎ (y ≡ 0 → ⊥) → ((y ≡ 0) → b ≡ true) → (not (nat_eq y 0) || b) ≡ true
some_or y b (inl e) f = ap (λ (z : ℕ). not (nat_eq z 0) || b) e ∙ f e
some_or y b (inr ne) f = ap (λ (z : Bool). not z || b) (ne_eqb y 0 ne)

has_some_at : (xs : List ℕ) (k : ℕ) → (slice_index xs k ≡ 0 → ⊥) → has_some xs ≡ true
has_some_at [] k ne = absurd (ne refl)
has_some_at (x ∷ xs) zero ne = some_or x (has_some xs) (cases_eq x 0) (λ e. absurd (ne e))
has_some_at (x ∷ xs) (suc k) ne = some_or x (has_some xs) (cases_eq x 0) (λ e. has_some_at xs k ne)

-- ---- pages

-- a memory has the bytes of these pages from a page on
abbrev Agrees : (ℕ → ℕ) → Pages → ℕ → Type 0
Agrees memory pages n = (k j : ℕ) → n ≤ k → j < 4096 → memory (4096 * k + j) ≡ slice_index (unwrap_or (page_of pages k) []) j

before_all : (least : ℕ) (pages : Pages) (k : ℕ) → InTurn IsPage next_page least pages → k < least → page_of pages k ≡ None
unfolding page_of
before_all least [] k fits l = refl
before_all least (x ∷ xs) k fits l =
    let low : least ≤ x.0 = fits.0.rising in
    ap (λ (b : Bool). cond b (Some x.1) (page_of xs k)) (ne_eqb k x.0 (λ e. omega (arith, e, low, l))) ∙ before_all (x.0 + 1) xs k fits.1 (omega (arith, low, l))

pub page_here : (x : ℕ × List ℕ) (xs : Pages) → page_of (x ∷ xs) x.0 ≡ Some x.1
unfolding page_of
page_here x xs = ap (λ (b : Bool). cond b (Some x.1) (page_of xs x.0)) (eq-eqb x.0 x.0 refl)

pub page_behind : (x : ℕ × List ℕ) (xs : Pages) (k : ℕ) → x.0 < k → page_of (x ∷ xs) k ≡ page_of xs k
unfolding page_of
page_behind x xs k l = ap (λ (b : Bool). cond b (Some x.1) (page_of xs k)) (ne_eqb k x.0 (λ e. omega (arith, e, l)))

-- a page that isn't there has no byte other than 0
page_zero : (memory : ℕ → ℕ) (pages : Pages) (n : ℕ) → Agrees memory pages n → page_of pages n ≡ None → has_some (page_at memory n) ≡ false
page_zero memory pages n agrees free =
    none_some memory 4096 (4096 * n) (λ j h. agrees n j (omega arith) h ∙ ap (λ (o : Option (List ℕ)). slice_index (unwrap_or o []) j) free)

-- one that is there is kept as it is
page_same : (memory : ℕ → ℕ) (pages : Pages) (n : ℕ) (bytes : List ℕ) → Agrees memory pages n → page_of pages n ≡ Some bytes → length bytes ≡ 4096 → page_at memory n ≡ bytes
page_same memory pages n bytes agrees is whole =
    listed_is memory bytes 4096 (4096 * n) whole (λ j h. agrees n j (omega arith) h ∙ ap (λ (o : Option (List ℕ)). slice_index (unwrap_or o []) j) is)

pub passed : (memory : ℕ → ℕ) (more n : ℕ) → has_some (page_at memory n) ≡ false → pages_from memory (suc more) n ≡ pages_from memory more (n + 1)
unfolding pages_from
passed memory more n e = ap (λ (b : Bool). if b then (n, page_at memory n) ∷ pages_from memory more (n + 1) else pages_from memory more (n + 1)) e

pub kept : (memory : ℕ → ℕ) (more n : ℕ) → has_some (page_at memory n) ≡ true → pages_from memory (suc more) n ≡ (n, page_at memory n) ∷ pages_from memory more (n + 1)
unfolding pages_from
kept memory more n e = ap (λ (b : Bool). if b then (n, page_at memory n) ∷ pages_from memory more (n + 1) else pages_from memory more (n + 1)) e

later : (memory : ℕ → ℕ) (pages : Pages) (n : ℕ) → Agrees memory pages n → Agrees memory pages (n + 1)
later memory pages n agrees = λ k j l h. agrees k j (omega (arith, l)) h

-- behind the first page
agrees_behind : (memory : ℕ → ℕ) (x : ℕ × List ℕ) (xs : Pages) (n : ℕ) → n ≡ x.0 → Agrees memory (x ∷ xs) n → Agrees memory xs (n + 1)
agrees_behind memory x xs n e agrees = λ k j l h. (let lt : x.0 < k = omega (arith, l, e) in agrees k j (omega (arith, l)) h ∙ ap (λ (o : Option (List ℕ)). slice_index (unwrap_or o []) j) (page_behind x xs k lt))

none_left : (least : ℕ) (pages : Pages) → InTurn IsPage next_page least pages → 2 ^ 20 ≤ least → pages ≡ []
none_left least [] fits l = refl
none_left least (x ∷ xs) fits l = absurd (omega (arith, fits.0.rising, fits.0.number, l))

first_of : (n : ℕ) (x : ℕ × List ℕ) (bytes : List ℕ) → n ≡ x.0 → bytes ≡ x.1 → (n, bytes) ≡ x
first_of n (m, content) bytes e f = ap (λ (y : ℕ). (y, bytes)) e ∙ ap (λ (ys : List ℕ). (m, ys)) f

-- the first of some pages is at the place, or behind it
page_first : (memory : ℕ → ℕ) (x : ℕ × List ℕ) (xs : Pages) (more n : ℕ) → InTurn IsPage next_page n (x ∷ xs) → Agrees memory (x ∷ xs) n → (n ≡ x.0) ⊎ (n ≡ x.0 → ⊥)
    → (InTurn IsPage next_page (n + 1) xs → Agrees memory xs (n + 1) → pages_from memory more (n + 1) ≡ xs) → (IsPage (n + 1) x → pages_from memory more (n + 1) ≡ x ∷ xs) → pages_from memory (suc more) n ≡ x ∷ xs
page_first memory x xs more n fits agrees (inl here) behind all =
    let is : page_of (x ∷ xs) n ≡ Some x.1 = ap (λ (k : ℕ). page_of (x ∷ xs) k) here ∙ page_here x xs in
    let same : page_at memory n ≡ x.1 = page_same memory (x ∷ xs) n x.1 agrees is fits.0.whole in
    let some : has_some (page_at memory n) ≡ true = ap has_some same ∙ has_some_at x.1 fits.0.some.0 fits.0.some.1 in
    let rest : InTurn IsPage next_page (n + 1) xs = subst (λ (k : ℕ). InTurn IsPage next_page (k + 1) xs) (sym here) fits.1 in
    kept memory more n some ∙ ap (λ (y : ℕ × List ℕ). y ∷ pages_from memory more (n + 1)) (first_of n x (page_at memory n) here same)
    ∙ ap (λ (ys : Pages). x ∷ ys) (behind rest (agrees_behind memory x xs n here agrees))
page_first memory x xs more n fits agrees (inr apart) behind all =
    let low : n ≤ x.0 = fits.0.rising in
    let above : n + 1 ≤ x.0 = omega (arith, low, apart) in
    let page : IsPage (n + 1) x = record { rising = above; number = fits.0.number; whole = fits.0.whole; some = fits.0.some } in
    passed memory more n (page_zero memory (x ∷ xs) n agrees (before_all (n + 1) (x ∷ xs) n (page, fits.1) (omega arith))) ∙ all page

pages_are : (memory : ℕ → ℕ) (pages : Pages) (count n : ℕ) → InTurn IsPage next_page n pages → n + count ≡ 2 ^ 20 → Agrees memory pages n → pages_from memory count n ≡ pages
unfolding pages_from
pages_are memory pages zero n fits e agrees = sym (none_left n pages fits (omega (arith, e)))
pages_are memory [] (suc more) n fits e agrees =
    passed memory more n (page_zero memory [] n agrees (before_all (n + 1) [] n tt (omega arith))) ∙ pages_are memory [] more (n + 1) tt (omega (arith, e)) (later memory [] n agrees)
pages_are memory (x ∷ xs) (suc more) n fits e agrees =
    page_first memory x xs more n fits agrees (cases_eq n x.0) (λ rest ahead. pages_are memory xs more (n + 1) rest (omega (arith, e)) ahead) (λ page. pages_are memory (x ∷ xs) more (n + 1) (page, fits.1) (omega (arith, e)) (later memory (x ∷ xs) n agrees))

byte_in : (pages : Pages) (k j : ℕ) → j < 4096 → byte_of pages (4096 * k + j) ≡ slice_index (unwrap_or (page_of pages k) []) j
unfolding byte_of
byte_in pages k j h =
    let page : (4096 * k + j) / 4096 ≡ k = omega (arith, h) in
    let place : (4096 * k + j) % 4096 ≡ j = omega (arith, h) in
    ap (λ (n : ℕ). slice_index (unwrap_or (page_of pages n) []) ((4096 * k + j) % 4096)) page ∙ ap (λ (i : ℕ). slice_index (unwrap_or (page_of pages k) []) i) place

-- ---- points

regs_listed : (regs : List ℕ) → length regs ≡ 31 → listed (slice_index (0 ∷ regs)) 31 1 ≡ regs
regs_listed regs whole =
    listed_is (slice_index (0 ∷ regs)) regs 31 1 whole (λ k h. (let e : 1 + k ≡ suc k = omega arith in ap (λ (i : ℕ). slice_index (0 ∷ regs) i) e))

-- what a point holds has that point
held_is : (p : PointState) (text : Text) → p.head.version ≡ 2 → p.head.text_start ≡ text.start → p.head.text_length ≡ length text.bytes → length p.head.regs ≡ 31 → ArePages p.pages → p ≡ point_of (state_held p text)
unfolding point_of
held_is p text version start size regs pages =
    let h = p.head in
    let made : ℕ → List ℕ → ℕ → ℕ → Pages → PointState = λ v rs at many ps. record {
      head = record { version = v; big = h.big; icnt = h.icnt; pc = h.pc; regs = rs; hi = h.hi; lo = h.lo; used = h.used; ended = h.ended; text_start = at; text_length = many };
      pages = ps;
    } in
    let listed_regs = listed (slice_index (0 ∷ h.regs)) 31 1 in
    let all : pages_from (byte_of p.pages) (2 ^ 20) 0 ≡ p.pages = pages_are (byte_of p.pages) p.pages (2 ^ 20) 0 pages (omega arith) (λ k j l b. byte_in p.pages k j b) in
    ap (λ (v : ℕ). made v h.regs h.text_start h.text_length p.pages) version ∙ ap (λ (rs : List ℕ). made 2 rs h.text_start h.text_length p.pages) (sym (regs_listed h.regs regs))
    ∙ ap (λ (at : ℕ). made 2 listed_regs at h.text_length p.pages) start ∙ ap (λ (many : ℕ). made 2 listed_regs text.start many p.pages) size
    ∙ ap (λ (ps : Pages). made 2 listed_regs text.start (length text.bytes) ps) (sym all)

-- the point that is taken of a machine is that of its state
pub taken_is : (m : Storage) (p : PointState) → IsPointOf m p → IsHead p.head → ArePages p.pages → p ≡ point_of (state_of m)
taken_is m p of head pages = held_is p m.text of.version of.text_start of.text_length head.count pages ∙ ap point_of of.state

large_as : (m : Storage) (p : PointState) (count : ℕ) → IsPointOf m p → IsHead p.head → ArePages p.pages → count ≡ length p.pages → is_large_at (state_of m) ≡ nat_lt most_pages count
large_as m p count of head pages e = ap (λ (q : PointState). nat_lt most_pages (length q.pages)) (sym (taken_is m p of head pages)) ∙ ap (λ (n : ℕ). nat_lt most_pages n) (sym e)

pub is_large : (m : Storage) (p : PointState) (count : ℕ) → IsPointOf m p → IsHead p.head → ArePages p.pages → count ≡ length p.pages → 65536 < count → is_large_at (state_of m) ≡ true
is_large m p count of head pages e l = large_as m p count of head pages e ∙ lt-ltb 65536 count l

pub is_small : (m : Storage) (p : PointState) (count : ℕ) → IsPointOf m p → IsHead p.head → ArePages p.pages → count ≡ length p.pages → count ≤ 65536 → is_large_at (state_of m) ≡ false
is_small m p count of head pages e l = large_as m p count of head pages e ∙ le-ltb 65536 count l

writes_if : (b : Bool) (s : State) (file : List ℕ) → is_large_at s ≡ b → point_writes s file ≡ (if b then [] else Append file (point_bytes (point_of s)) ∷ [])
writes_if b s file e = ap (λ (x : Bool). if x then [] else Append file (point_bytes (point_of s)) ∷ []) e

pub nothing_wrote : {O : Type 0} (v : View O) (a : O) (s : State) (file : List ℕ) → is_large_at s ≡ true → Wrote v a (point_writes s file) a
nothing_wrote v a s file e = subst (λ l. Wrote v a l a) (sym (writes_if true s file e)) (wrote_none v a)

point_append : (m : Storage) (p : PointState) (file bytes : List ℕ) → IsPointOf m p → IsHead p.head → ArePages p.pages → bytes ≡ point_bytes p → is_large_at (state_of m) ≡ false → Append file bytes ∷ [] ≡ point_writes (state_of m) file
point_append m p file bytes of head pages e small =
    ap (λ (x : List ℕ). Append file x ∷ []) (e ∙ ap point_bytes (taken_is m p of head pages)) ∙ sym (writes_if false (state_of m) file small)

pub point_wrote : {O : Type 0} (v : View O) (a b : O) (m : Storage) (p : PointState) (file bytes : List ℕ) → IsPointOf m p → IsHead p.head → ArePages p.pages → bytes ≡ point_bytes p → is_large_at (state_of m) ≡ false
    → Wrote v a (Append file bytes ∷ []) b → Wrote v a (point_writes (state_of m) file) b
point_wrote v a b m p file bytes of head pages e small wrote = subst (λ l. Wrote v a l b) (point_append m p file bytes of head pages e small) wrote

pub point_cut : {O : Type 0} (v : View O) (a b : O) (m : Storage) (p : PointState) (file bytes : List ℕ) (f : Fault) → IsPointOf m p → IsHead p.head → ArePages p.pages → bytes ≡ point_bytes p → is_large_at (state_of m) ≡ false
    → GaveUp v a (Append file bytes ∷ []) f b → Cut v a (point_writes (state_of m) file) f b
point_cut v a b m p file bytes f of head pages e small gave =
    subst (λ l. Cut v a l f b) (point_append m p file bytes of head pages e small) (gave_up_cut v a b (Append file bytes ∷ []) f gave)

-- what is known of a value is known of its view
pub held : (p q : PointState) → p ≡ q → IsHead p.head × ArePages p.pages → IsHead q.head × ArePages q.pages
held p q e is = subst (λ x. IsHead x.head × ArePages x.pages) e is
