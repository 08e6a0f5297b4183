-- The checks of a point from left to right, with the first one that fails. A function takes the
-- bytes from a place on, and answers a value and the bytes after it.
use Rattle.std.specs.Prelude.{◌≡◌, ◌≢◌, ◌<◌, ◌+◌, ◌*◌, ◌-◌, ◌^◌, ℕ, zero, suc, Bool, true, false, ◌&&◌, ◌||◌, Option, Some, None, List, [], ◌∷◌, length, take, drop, Result, Ok, Err, nat_lt, nat_le, nat_eq, if◌then◌else◌}
use Rattle.ss_base.specs.Text.{word_at, double_at}
use Rattle.checkpoint.specs.declared.fault.PointWhy.{PointWhy}
use Rattle.checkpoint.specs.declared.fault.PointWhy.TheVariants as why
use Rattle.checkpoint.specs.declared.fault.PointFault.{PointFault}
use Rattle.checkpoint.specs.declared.fault.PointFault.TheVariants as faults
use Rattle.checkpoint.specs.declared.fault.Stop.{Stop}
use Rattle.checkpoint.specs.declared.fault.Stop.TheVariants as stops
use Rattle.checkpoint.specs.declared.point.Head.{Head}
use Rattle.checkpoint.specs.declared.head_reading.Start.{Start}
use Rattle.checkpoint.specs.State.{PointState}
use Rattle.checkpoint.specs.Grammar.{next_page}

-- a check that fails, at the field that has this many bytes left from its first byte on
pub record Refusal : Type 0 where
  pub left : ℕ
  pub why : PointWhy

infixl 10 ◌>>=◌
abbrev pub ◌>>=◌ : {A B : Type 0} → Result A Refusal → (A → Result B Refusal) → Result B Refusal
(Ok x) >>= f = f x
(Err e) >>= f = Err e

abbrev pub refuse : {A : Type 0} → ℕ → PointWhy → Result A Refusal
refuse left reason = Err (record { left = left; why = reason })

-- the file ends inside a field, which is told at the file's end
abbrev pub short : {A : Type 0} → Result A Refusal
short = refuse 0 why.Short

-- What a function returned, seen by view, is what reading gives, unless memory ran out.
abbrev pub Fails : {Y : Type 0} → Stop → Result Y Refusal → Type 0
Fails stops.NoMemory read = Unit {0}
Fails (stops.Refused left reason) read = read ≡ refuse left reason

abbrev pub Gives : {X Y : Type 0} → (X → Y) → Result X Stop → Result Y Refusal → Type 0
Gives view (Ok x) read = read ≡ Ok (view x)
Gives view (Err e) read = Fails e read

-- a field that is judged: where it begins and ends, and whether what stands in it is refused
pub record Check : Type 0 where
  pub at : ℕ
  pub end : ℕ
  pub fails : Bool
  pub why : PointWhy

abbrev pub check : ℕ → ℕ → Bool → PointWhy → Check
check at end fails reason = record { at = at; end = end; fails = fails; why = reason }

-- the first check of a list that fails; a field of which bytes are missing is short before it is judged
abbrev pub judged : List ℕ → List Check → Result (Unit {0}) Refusal
judged bytes [] = Ok tt
judged bytes (c ∷ cs) =
    if nat_lt (length bytes) c.end then short else
    if c.fails then refuse (length bytes - c.at) c.why else judged bytes cs

-- the version whose magic the first eight bytes are, read as a number: PCHK0001 or PCHK0002; 0 for others
abbrev pub version_of : List ℕ → ℕ
version_of bytes =
    if nat_eq (double_at bytes 0) 0x313030304b484350 then 1 else
    if nat_eq (double_at bytes 0) 0x323030304b484350 then 2 else 0

-- the fields up to the number of pages, of which most may have any value
abbrev pub head_checks : List ℕ → List Check
head_checks bytes =
    check 0 8 (nat_eq (version_of bytes) 0) why.Magic
    ∷ check 8 16 (nat_lt (10 ^ 15) (double_at bytes 8)) why.Count
    ∷ check 20 24 (nat_lt 0 (word_at bytes 20)) why.Register
    ∷ check 160 164 (nat_lt 1 (word_at bytes 160)) why.Ended
    ∷ check 164 168 (nat_eq (word_at bytes 160) 0 && nat_lt 0 (word_at bytes 164)) why.Ended
    ∷ check 176 180 (nat_lt 65536 (word_at bytes 176)) why.Pages
    ∷ []

-- the byte order, which version 2 has
abbrev pub order_checks : List ℕ → List Check
order_checks bytes = check 180 184 (nat_lt 1 (word_at bytes 180)) why.ByteOrder ∷ []

-- so many words from a place on
abbrev pub words_at : ℕ → List ℕ → ℕ → List ℕ
words_at zero bytes at = []
words_at (suc n) bytes at = word_at bytes at ∷ words_at n bytes (at + 4)

-- the exit code, where there was an exit
abbrev pub ended_of : ℕ → ℕ → Option ℕ
ended_of ended code = if nat_eq ended 0 then None else Some code

-- what stands before the pages
abbrev pub head_of : ℕ → Bool → List ℕ → Head
head_of version big bytes = record {
  version = version;
  big = big;
  icnt = double_at bytes 8;
  pc = word_at bytes 16;
  regs = words_at 31 bytes 24;
  hi = word_at bytes 148;
  lo = word_at bytes 152;
  used = word_at bytes 156;
  ended = ended_of (word_at bytes 160) (word_at bytes 164);
  text_start = word_at bytes 168;
  text_length = word_at bytes 172;
}

abbrev pub start_of : ℕ → Bool → List ℕ → Start
start_of version big bytes = record { head = head_of version big bytes; count = word_at bytes 176 }

unfoldable pub head_check : List ℕ → Result (Unit {0}) Refusal
head_check bytes = judged bytes (head_checks bytes)

-- the head, and the number of pages
unfoldable pub start_at : List ℕ → Result (Start × List ℕ) Refusal
start_at bytes = head_check bytes >>= λ _.
    if nat_eq (version_of bytes) 1 then Ok (start_of 1 false bytes, drop 180 bytes) else
    (judged bytes (order_checks bytes) >>= λ _. Ok (start_of 2 (nat_eq (word_at bytes 180) 1) bytes, drop 184 bytes))

-- whether each byte is 0
abbrev pub is_zero : List ℕ → Bool
is_zero [] = true
is_zero (byte ∷ bytes) = nat_eq byte 0 && is_zero bytes

-- the fields of a page, whose number must come to a least one
abbrev pub page_checks : ℕ → List ℕ → List Check
page_checks least bytes =
    check 0 4 (nat_lt (word_at bytes 0) least || nat_le (2 ^ 20) (word_at bytes 0)) why.Order
    ∷ check 4 4100 (is_zero (take 4096 (drop 4 bytes))) why.ZeroPage
    ∷ []

-- a number, and then 4,096 bytes
unfoldable pub page_at : ℕ → List ℕ → Result ((ℕ × List ℕ) × List ℕ) Refusal
page_at least bytes = judged bytes (page_checks least bytes) >>= λ _. Ok ((word_at bytes 0, take 4096 (drop 4 bytes)), drop 4096 (drop 4 bytes))

-- pages one after the other, each judged with the least number that it may have
unfoldable pub pages_at : ℕ → ℕ → List ℕ → Result (List (ℕ × List ℕ) × List ℕ) Refusal
pages_at zero least bytes = Ok ([], bytes)
pages_at (suc n) least bytes = do
  first ← page_at least bytes
  others ← pages_at n (next_page first.0) first.1
  Ok (first.0 ∷ others.0, others.1)

-- all of the bytes
unfoldable pub point_at : List ℕ → Result PointState Refusal
point_at bytes = do
  start ← start_at bytes
  pages ← pages_at start.0.count 0 start.1
  if nat_lt 0 (length pages.1) then refuse (length pages.1) why.Extra else Ok (record { head = start.0.head; pages = pages.0 })

-- the same with places that are counted from the file's start
abbrev pub placed : ℕ → Result PointState Refusal → Result PointState PointFault
placed total (Ok p) = Ok p
placed total (Err e) = Err (faults.Bad (total - e.left) e.why)

-- the point that the bytes stand for, or the place and the reason of the first check that fails
abbrev pub checked : List ℕ → Result PointState PointFault
checked bytes = placed (length bytes) (point_at bytes)

-- an answer is that one, unless memory ran out
abbrev pub Answers : Result PointState PointFault → Result PointState PointFault → Type 0
Answers (Err faults.OutOfMemory) answer = Unit {0}
Answers (Err (faults.Bad at reason)) answer = answer ≡ Err (faults.Bad at reason)
Answers (Ok p) answer = answer ≡ Ok p

-- the reasons that reading tells, and not who has the object
abbrev pub needs_object : PointWhy → Bool
needs_object why.Short = false
needs_object why.Magic = false
needs_object why.Count = false
needs_object why.Register = false
needs_object why.Ended = false
needs_object why.Pages = false
needs_object why.ByteOrder = false
needs_object why.Order = false
needs_object why.ZeroPage = false
needs_object why.Extra = false
needs_object why.OtherOrder = true
needs_object why.Text = true
needs_object why.OtherText = true

-- where a reason stands in a file of a size: Short at its end, every other one at a byte of it; reading
-- tells no reason that needs the object
pub record IsPlaced (size at : ℕ) (reason : PointWhy) : Type 0 where
  pub short : reason ≡ why.Short → at ≡ size
  pub field : reason ≢ why.Short → at < size
  pub alone : needs_object reason ≡ false

abbrev pub Placed : ℕ → PointFault → Type 0
Placed size (faults.Bad at reason) = IsPlaced size at reason
Placed size faults.OutOfMemory = Unit {0}
