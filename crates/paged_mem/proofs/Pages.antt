-- What a page that is new, and a write to one page, say of the memory.
use Rattle.std.proofs.Common.{◌≡◌, ℕ, ◌+◌, ◌*◌, ◌/◌, ◌%◌, ◌^◌, ◌<◌, ◌≤◌, ◌⊎◌, true, false, cond, List, length, slice_index, Option, None, Some, is_some, nat_eq, refl, sym, ◌∙◌, ap, inl, inr, arith}
use mathlib.Core.Path.{fun_ext}
use Rattle.std.proofs.lemmas.Bool.{cases_eq, cases_lt, cases_Bool, eq-eqb, ne_eqb}
use Rattle.paged_mem.specs.Memory.{Pages, page_of, is_reserved, byte_of, IsReserved, IsInAddressSpace, IsZeroPage, overlaid}
use Rattle.paged_mem.proofs.Overlaid.{overlaid-before, overlaid-past, overlaid-moved}

-- a page that is reserved
pub is_reserved-some : (memory : Pages) (number : ℕ) (bytes : List ℕ) → page_of memory number ≡ Some bytes → is_reserved memory number ≡ true
unfolding is_reserved
is_reserved-some memory number bytes e = ap is_some e

-- a page that isn't reserved has none
pub page_of-unreserved : (memory : Pages) (number : ℕ) → is_reserved memory number ≡ false → page_of memory number ≡ None
unfolding is_reserved
page_of-unreserved memory number e = of_option (page_of memory number) e
  where
    of_option : (o : Option (List ℕ)) → is_some o ≡ false → o ≡ None
    of_option None e = refl
    of_option (Some bytes) e = absurd (cc)

-- where a page is the same, so are that it is reserved, and its bytes
pub is_reserved-same : (old new : Pages) (q : ℕ) → page_of new q ≡ page_of old q → is_reserved new q ≡ is_reserved old q
unfolding is_reserved
is_reserved-same old new q e = ap is_some e

pub byte_of-same : (old new : Pages) (a : ℕ) → page_of new (a / 4096) ≡ page_of old (a / 4096) → byte_of new a ≡ byte_of old a
unfolding byte_of
byte_of-same old new a e = rw e refl

-- the byte of a page that is reserved
pub byte_of-reserved : (memory : Pages) (a : ℕ) (bytes : List ℕ) → page_of memory (a / 4096) ≡ Some bytes → byte_of memory a ≡ slice_index bytes (a % 4096)
unfolding byte_of
byte_of-reserved memory a bytes e = rw e refl

-- the byte of a page that isn't
pub byte_of-unreserved : (memory : Pages) (a : ℕ) → page_of memory (a / 4096) ≡ None → byte_of memory a ≡ 0
unfolding byte_of
byte_of-unreserved memory a e = rw e refl

-- a page of zeros, and a page that isn't reserved
pub zero_page : (memory : Pages) (number : ℕ) (bytes : List ℕ) → page_of memory number ≡ Some bytes → ((k : ℕ) → slice_index bytes k ≡ 0) → IsZeroPage memory number
zero_page memory number bytes e zeros a lies = byte_of-reserved memory a bytes (rw lies e) ∙ zeros (a % 4096)

pub unreserved_page : (memory : Pages) (number : ℕ) → page_of memory number ≡ None → IsZeroPage memory number
unreserved_page memory number e a lies = byte_of-unreserved memory a (rw lies e)

-- one page has other bytes, or is new, and the others stay
abbrev pub Puts : Pages → Pages → ℕ → List ℕ → Type 0
Puts old new number bytes = (q : ℕ) → page_of new q ≡ cond (nat_eq number q) (Some bytes) (page_of old q)

pub puts_here : (old new : Pages) (number : ℕ) (bytes : List ℕ) → Puts old new number bytes → page_of new number ≡ Some bytes
puts_here old new number bytes h = h number ∙ rw (eq-eqb number number refl) refl

pub puts_elsewhere : (old new : Pages) (number : ℕ) (bytes : List ℕ) → Puts old new number bytes → (q : ℕ) → (number ≡ q → ⊥) → page_of new q ≡ page_of old q
puts_elsewhere old new number bytes h q apart = h q ∙ rw (ne_eqb number q apart) refl

-- a write in a reserved page keeps the reserved pages
pub is_reserved-puts : (old new : Pages) (number : ℕ) (bytes : List ℕ) → Puts old new number bytes → IsReserved old number → is_reserved new ≡ is_reserved old
is_reserved-puts old new number bytes h held = fun_ext (λ q. each q (cases_eq number q))
  where
    each : (q : ℕ) → (number ≡ q) ⊎ (number ≡ q → ⊥) → is_reserved new q ≡ is_reserved old q
    each q (inl e) = rw (← e) (is_reserved-some new number bytes (puts_here old new number bytes h) ∙ sym held)
    each q (inr apart) = is_reserved-same old new q (puts_elsewhere old new number bytes h q apart)

-- it writes the bytes by their addresses
pub byte_of-puts : (old new : Pages) (number offset : ℕ) (bytes before after : List ℕ) → page_of old number ≡ Some before → Puts old new number after → ((k : ℕ) → slice_index after k ≡ overlaid (slice_index before) offset bytes k) → offset + length bytes ≤ 4096 → byte_of new ≡ overlaid (byte_of old) (4096 * number + offset) bytes
byte_of-puts old new number offset bytes before after found h written fits = fun_ext (λ a. each a (cases_eq number (a / 4096)))
  where
    apart : (a : ℕ) → (number ≡ a / 4096 → ⊥) → (a < 4096 * number) ⊎ (4096 * number ≤ a) → byte_of new a ≡ overlaid (byte_of old) (4096 * number + offset) bytes a
    apart a ne (inl low) =
        byte_of-same old new a (puts_elsewhere old new number after h (a / 4096) ne)
        ∙ sym (overlaid-before (byte_of old) (4096 * number + offset) bytes a (omega arith))
    apart a ne (inr high) =
        let past : 4096 * number + 4096 ≤ a = omega arith in
        byte_of-same old new a (puts_elsewhere old new number after h (a / 4096) ne)
        ∙ sym (overlaid-past (byte_of old) (4096 * number + offset) bytes a (omega arith))

    here : (a : ℕ) → number ≡ a / 4096 → 4096 * number + a % 4096 ≡ a → byte_of new a ≡ overlaid (byte_of old) (4096 * number + offset) bytes a
    here a e split =
        let new_page : page_of new (a / 4096) ≡ Some after = rw (← e) (puts_here old new number after h) in
        let old_page : page_of old (a / 4096) ≡ Some before = rw (← e) found in
        let kept : slice_index before (a % 4096) ≡ byte_of old (4096 * number + a % 4096) = sym (ap (byte_of old) split ∙ byte_of-reserved old a before old_page) in
        byte_of-reserved new a after new_page
        ∙ written (a % 4096)
        ∙ overlaid-moved (slice_index before) (byte_of old) (4096 * number) offset bytes (a % 4096) kept
        ∙ ap (overlaid (byte_of old) (4096 * number + offset) bytes) split

    each : (a : ℕ) → (number ≡ a / 4096) ⊎ (number ≡ a / 4096 → ⊥) → byte_of new a ≡ overlaid (byte_of old) (4096 * number + offset) bytes a
    each a (inl e) = here a e (omega arith)
    each a (inr ne) = apart a ne (cases_lt a (4096 * number))

-- a new page of zeros changes no byte
pub byte_of-puts_zeros : (old new : Pages) (number : ℕ) (zeros : List ℕ) → page_of old number ≡ None → Puts old new number zeros → ((k : ℕ) → slice_index zeros k ≡ 0) → byte_of new ≡ byte_of old
byte_of-puts_zeros old new number zeros absent h zero = fun_ext (λ a. each a (cases_eq number (a / 4096)))
  where
    each : (a : ℕ) → (number ≡ a / 4096) ⊎ (number ≡ a / 4096 → ⊥) → byte_of new a ≡ byte_of old a
    each a (inl e) =
        zero_page new number zeros (puts_here old new number zeros h) zero a (sym e)
        ∙ sym (unreserved_page old number absent a (sym e))
    each a (inr ne) = byte_of-same old new a (puts_elsewhere old new number zeros h (a / 4096) ne)

-- which pages are reserved then
pub reserved_before : (old new : Pages) (number : ℕ) (bytes : List ℕ) → Puts old new number bytes → (q : ℕ) → IsReserved new q → IsReserved old q ⊎ (q ≡ number)
reserved_before old new number bytes h q held = each (cases_eq number q)
  where
    each : (number ≡ q) ⊎ (number ≡ q → ⊥) → IsReserved old q ⊎ (q ≡ number)
    each (inl e) = inr (sym e)
    each (inr apart) = inl (sym (is_reserved-same old new q (puts_elsewhere old new number bytes h q apart)) ∙ held)

pub reserved_after : (old new : Pages) (number : ℕ) (bytes : List ℕ) → Puts old new number bytes → (q : ℕ) → IsReserved old q → IsReserved new q
reserved_after old new number bytes h q held = each (cases_eq number q)
  where
    each : (number ≡ q) ⊎ (number ≡ q → ⊥) → IsReserved new q
    each (inl e) = rw (← e) (is_reserved-some new number bytes (puts_here old new number bytes h))
    each (inr apart) = is_reserved-same old new q (puts_elsewhere old new number bytes h q apart) ∙ held

-- a memory reads 0 at each address from 2^32 on
pub byte_of-outside : (memory : Pages) → IsInAddressSpace memory → (a : ℕ) → 2 ^ 32 ≤ a → byte_of memory a ≡ 0
byte_of-outside memory space a high = each (cases_Bool (is_reserved memory (a / 4096)))
  where
    each : (is_reserved memory (a / 4096) ≡ true) ⊎ (is_reserved memory (a / 4096) ≡ false) → byte_of memory a ≡ 0
    each (inl held) =
        let low : a / 4096 < 1048576 = space (a / 4096) held in
        absurd (omega arith)
    each (inr free) = byte_of-unreserved memory a (page_of-unreserved memory (a / 4096) free)

-- two memories that read the same at each address are equal functions
pub same_bytes : (one other : Pages) → IsInAddressSpace one → IsInAddressSpace other → ((a : ℕ) → a < 2 ^ 32 → byte_of one a ≡ byte_of other a) → byte_of one ≡ byte_of other
same_bytes one other space spaces same = fun_ext (λ a. each a (cases_lt a (2 ^ 32)))
  where
    each : (a : ℕ) → (a < 2 ^ 32) ⊎ (2 ^ 32 ≤ a) → byte_of one a ≡ byte_of other a
    each a (inl low) = same a low
    each a (inr high) = byte_of-outside one space a high ∙ sym (byte_of-outside other spaces a high)
