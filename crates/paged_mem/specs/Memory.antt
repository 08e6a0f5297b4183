-- A memory of bytes at addresses, in pages of 4,096 bytes. Page n has the addresses from 4096 * n on.
use Rattle.std.specs.Prelude.{◌≡◌, ℕ, ◌+◌, ◌-◌, ◌/◌, ◌%◌, ◌^◌, ◌<◌, ◌≤◌, Bool, List, [], ◌∷◌, length, slice_index, Option, None, Some, is_some, unwrap_or, IsTrue, nat_eq, nat_lt, if◌then◌else◌}

-- the reserved pages, each once, in the order of their numbers: a number with the page's 4,096 bytes
abbrev pub Pages : Type 0
Pages = List (ℕ × List ℕ)

-- the bytes of a page, where it is reserved
unfoldable pub page_of : Pages → ℕ → Option (List ℕ)
page_of [] number = None
page_of (page ∷ pages) number = if nat_eq number page.0 then Some page.1 else page_of pages number

-- whether a page is reserved
unfoldable pub is_reserved : Pages → ℕ → Bool
is_reserved memory number = is_some (page_of memory number)

-- the byte at an address: 0 where its page isn't reserved
unfoldable pub byte_of : Pages → ℕ → ℕ
byte_of memory address = slice_index (unwrap_or (page_of memory (address / 4096)) []) (address % 4096)

-- a page is reserved
abbrev pub IsReserved : Pages → ℕ → Type 0
IsReserved memory number = IsTrue (is_reserved memory number)

-- some address of a range lies in a page. A range of length 0 meets no page
abbrev pub Meets : ℕ → ℕ → ℕ → Type 0
Meets address len number = (a : ℕ) × (address ≤ a) × (a < address + len) × (a / 4096 ≡ number)

-- each page that a range meets is reserved
abbrev pub IsRangeReserved : Pages → ℕ → ℕ → Type 0
IsRangeReserved memory address len = (number : ℕ) → Meets address len number → IsReserved memory number

-- a range meets a page that isn't reserved
abbrev pub MeetsUnreserved : Pages → ℕ → ℕ → Type 0
MeetsUnreserved memory address len =
    (number : ℕ) × Meets address len number × (IsReserved memory number → ⊥)

-- bytes by address after some were written from an address on
abbrev pub overlaid : (ℕ → ℕ) → ℕ → List ℕ → ℕ → ℕ
overlaid byte address bytes a =
    if nat_lt a address then byte a else
    if nat_lt a (address + length bytes) then slice_index bytes (a - address) else byte a

-- each byte of a page is 0
abbrev pub IsZeroPage : Pages → ℕ → Type 0
IsZeroPage memory number = (a : ℕ) → a / 4096 ≡ number → byte_of memory a ≡ 0

-- some byte of a page isn't 0
abbrev pub HasByte : Pages → ℕ → Type 0
HasByte memory number = (a : ℕ) × (a / 4096 ≡ number) × (byte_of memory a ≡ 0 → ⊥)

-- no page is reserved whose addresses do not all lie below 2^32
abbrev pub IsInAddressSpace : Pages → Type 0
IsInAddressSpace memory = (number : ℕ) → IsReserved memory number → number < 2 ^ 20
