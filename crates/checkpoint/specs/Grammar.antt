-- What a point is, and the bytes of each point.
use Rattle.std.specs.Prelude.{◌≡◌, ◌≢◌, ◌+◌, ◌^◌, ◌<◌, ◌≤◌, ℕ, Option, Some, None, List, [], ◌∷◌, ◌++◌, length, slice_index}
use Rattle.std.specs.Int.{w32, w64, to_le_bytes}
use Rattle.std.specs.List.{flat_map, AllByRecursion}
use Rattle.event_trace.specs.Grammar.{InTurn, order_bytes, IsVersion}
use Rattle.paged_mem.specs.Memory.{Pages}
use Rattle.checkpoint.specs.declared.point.Head.{Head}
use Rattle.checkpoint.specs.State.{PointState}

-- ---- the bytes

-- "PCHK000", which both versions begin with
abbrev pub magic : List ℕ
magic = 80 ∷ 67 ∷ 72 ∷ 75 ∷ 48 ∷ 48 ∷ 48 ∷ []

-- whether the program has exited, and its code
abbrev pub ended_words : Option ℕ → List ℕ
ended_words None = 0 ∷ 0 ∷ []
ended_words (Some code) = 1 ∷ code ∷ []

-- the words behind the number of instructions; register 0 is 0
abbrev pub head_words : Head → ℕ → List ℕ
head_words h count = (h.pc ∷ 0 ∷ []) ++ h.regs ++ (h.hi ∷ h.lo ∷ h.used ∷ []) ++ ended_words h.ended ++ (h.text_start ∷ h.text_length ∷ count ∷ [])

-- what stands before the pages: the magic, which ends with the version's digit, the number of
-- instructions, the words, and in version 2 the byte order
abbrev pub head_bytes : Head → ℕ → List ℕ
head_bytes h count = magic ++ ((48 + h.version) ∷ []) ++ to_le_bytes w64 h.icnt ++ flat_map (to_le_bytes w32) (head_words h count) ++ order_bytes h.version h.big

-- a page: its number and its bytes
abbrev pub page_bytes : ℕ × List ℕ → List ℕ
page_bytes page = to_le_bytes w32 page.0 ++ page.1

-- a file
abbrev pub point_bytes : PointState → List ℕ
point_bytes p = head_bytes p.head (length p.pages) ++ flat_map page_bytes p.pages

-- ---- the values

abbrev pub IsCode : Option ℕ → Type 0
IsCode None = Unit {0}
IsCode (Some code) = code < 2 ^ 32

-- what a point may hold besides its pages
pub record IsHead (h : Head) : Type 0 where
  pub version : IsVersion h.version h.big
  pub pc : h.pc < 2 ^ 32
  pub count : length h.regs ≡ 31
  pub regs : AllByRecursion (λ r. r < 2 ^ 32) h.regs
  pub hi : h.hi < 2 ^ 32
  pub lo : h.lo < 2 ^ 32
  pub used : h.used < 2 ^ 32
  pub code : IsCode h.ended
  pub text_start : h.text_start < 2 ^ 32
  pub text_length : h.text_length < 2 ^ 32

-- some byte isn't 0
abbrev pub HasSome : List ℕ → Type 0
HasSome bytes = (k : ℕ) × (slice_index bytes k ≢ 0)

-- pages rise, and have a byte other than 0
pub record IsPage (least : ℕ) (page : ℕ × List ℕ) : Type 0 where
  pub rising : least ≤ page.0
  pub number : page.0 < 2 ^ 20
  pub whole : length page.1 ≡ 4096
  pub some : HasSome page.1

abbrev pub next_page : ℕ × List ℕ → ℕ
next_page page = page.0 + 1

abbrev pub ArePages : Pages → Type 0
ArePages pages = InTurn IsPage next_page 0 pages

-- a point that a file can bring
pub record IsPoint (p : PointState) : Type 0 where
  pub head : IsHead p.head
  pub pages : ArePages p.pages
  pub icnt : p.head.icnt ≤ 10 ^ 15
  pub count : length p.pages ≤ 65536
