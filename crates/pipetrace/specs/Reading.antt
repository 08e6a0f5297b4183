-- How a text is read, line by line. A function takes the bytes from a place on, and answers a value and the bytes behind it.
use Rattle.std.specs.Prelude.{◌≡◌, ◌++◌, ◌+◌, ◌-◌, ◌*◌, ◌≤◌, ℕ, zero, suc, Bool, true, false, List, [], ◌∷◌, length, take, drop, Option, Some, None, Result, Ok, Err, codes, nat_eq, nat_lt, slice_index, if◌then◌else◌, not}
use Rattle.std.specs.Char.{is_ascii_digit}
use Rattle.pisa_step.specs.declared.cause.Cause.{Cause}
use Rattle.pisa_step.specs.declared.cause.Cause.TheVariants as cause
use Rattle.pisa_step.specs.declared.cause.Field.{Field}
use Rattle.pisa_step.specs.declared.cause.Field.TheVariants as field
use Rattle.ooo_table.specs.declared.event.Mark.{Mark}
use Rattle.ooo_table.specs.declared.event.Mark.TheVariants as mark
use Rattle.ooo_table.specs.declared.event.Event.{Event}
use Rattle.ooo_table.specs.declared.event.EndWord.{EndWord}
use Rattle.ooo_table.specs.declared.event.EndWord.TheVariants as word
use Rattle.pipetrace.specs.declared.line.Line.{Line}
use Rattle.pipetrace.specs.declared.line.Line.TheVariants as line
use Rattle.pipetrace.specs.declared.reading.Last.{Last}
use Rattle.pipetrace.specs.declared.reading.Last.TheVariants as last
use Rattle.pipetrace.specs.declared.fault.PipeFault.{PipeFault}
use Rattle.pipetrace.specs.declared.fault.PipeFault.TheVariants as faults
use Rattle.pipetrace.specs.Grammar.{group}

infixl 10 ◌>>=◌
abbrev pub ◌>>=◌ : {A B : Type 0} → Option A → (A → Option B) → Option B
(Some x) >>= f = f x
None >>= f = None

-- what a function returned, seen by view, is what reading gives
abbrev pub Gives : {X Y : Type 0} → (X → Y) → Option X → Option Y → Type 0
Gives view (Some x) read = read ≡ Some (view x)
Gives view None read = read ≡ None

-- the first of two answers that there is; the first one is a value and the bytes behind it
abbrev pub first_of : {A : Type 0} → Option (List ℕ) → A → Option (A × List ℕ) → Option (A × List ℕ)
first_of (Some rest) x other = Some (x, rest)
first_of None x other = other

abbrev pub else_of : {A : Type 0} → Option A → Option A → Option A
else_of (Some x) other = Some x
else_of None other = other

-- ---- fields

-- the bytes behind a word
unfoldable pub behind : List ℕ → List ℕ → Option (List ℕ)
behind [] bytes = Some bytes
behind (c ∷ cs) [] = None
behind (c ∷ cs) (b ∷ bs) = if nat_eq c b then behind cs bs else None

-- how many digits stand in front
abbrev pub digit_count : List ℕ → ℕ
digit_count [] = 0
digit_count (b ∷ bs) = if is_ascii_digit b then suc (digit_count bs) else 0

abbrev pub decimal_on : ℕ → List ℕ → ℕ
decimal_on n [] = n
decimal_on n (b ∷ bs) = decimal_on (10 * n + (b - 48)) bs

-- a digit alone, or several of which the first isn't 0
abbrev pub is_numeral : List ℕ → Bool
is_numeral digits = if nat_lt 1 (length digits) then not (nat_eq (slice_index digits 0) 48) else nat_eq (length digits) 1

-- a number below a limit
unfoldable pub number_at : ℕ → List ℕ → Option (ℕ × List ℕ)
number_at limit bytes =
    if is_numeral (take (digit_count bytes) bytes) then
    if nat_lt (decimal_on 0 (take (digit_count bytes) bytes)) limit then Some (decimal_on 0 (take (digit_count bytes) bytes), drop (digit_count bytes) bytes) else None
    else None

-- a number of cycles, of a row, or of instructions
abbrev pub count_at : List ℕ → Option (ℕ × List ℕ)
count_at bytes = number_at 4611686018427387904 bytes

-- a hexadecimal digit in lower case
abbrev pub digit_at : List ℕ → Option (ℕ × List ℕ)
digit_at [] = None
digit_at (b ∷ bs) =
    if is_ascii_digit b then Some (b - 48, bs) else
    if nat_lt b 97 then None else
    if nat_lt 102 b then None else Some (b - 87, bs)

-- two digits, four, and eight
unfoldable pub byte_at : List ℕ → Option (ℕ × List ℕ)
byte_at bytes = do
  a ← digit_at bytes
  b ← digit_at a.1
  Some (16 * a.0 + b.0, b.1)

unfoldable pub half_at : List ℕ → Option (ℕ × List ℕ)
half_at bytes = do
  a ← byte_at bytes
  b ← byte_at a.1
  Some (256 * a.0 + b.0, b.1)

unfoldable pub address_at : List ℕ → Option (ℕ × List ℕ)
address_at bytes = do
  a ← half_at bytes
  b ← half_at a.1
  Some (65536 * a.0 + b.0, b.1)

-- ---- the end

unfoldable pub register_at : List ℕ → Option (Field × List ℕ)
register_at bytes = do
  rest ← behind (codes "r") bytes
  register ← number_at 256 rest
  Some (field.Reg register.0, register.1)

unfoldable pub place_at : List ℕ → Option (Field × List ℕ)
place_at bytes = do
  rest ← behind (codes "[") bytes
  addr ← address_at rest
  closed ← behind (codes "]") addr.1
  Some (field.Byte addr.0, closed)

unfoldable pub field_at : List ℕ → Option (Field × List ℕ)
field_at bytes =
    first_of (behind (codes "count") bytes) field.Count
    (first_of (behind (codes "pc") bytes) field.Pc
    (else_of (register_at bytes) (place_at bytes)))

unfoldable pub mismatch_at : List ℕ → Option (Cause × List ℕ)
mismatch_at bytes = do
  rest ← behind (codes "trace-mismatch ") bytes
  what ← field_at rest
  at_kept ← behind (codes " ") what.1
  kept ← count_at at_kept
  at_found ← behind (codes " ") kept.1
  found ← count_at at_found
  Some (cause.TraceMismatch what.0 kept.0 found.0, found.1)

unfoldable pub trace_end_at : List ℕ → Option (Cause × List ℕ)
trace_end_at bytes = do
  rest ← behind (codes "trace-end ") bytes
  used ← number_at 4294967296 rest
  Some (cause.TraceEnd used.0, used.1)

unfoldable pub floating_at : List ℕ → Option (Cause × List ℕ)
floating_at bytes = do
  rest ← behind (codes "floating-point 0000") bytes
  opcode ← half_at rest
  Some (cause.FloatingPoint opcode.0, opcode.1)

unfoldable pub misaligned_at : List ℕ → Option (Cause × List ℕ)
misaligned_at bytes = do
  rest ← behind (codes "misaligned ") bytes
  addr ← address_at rest
  Some (cause.Misaligned addr.0, addr.1)

unfoldable pub text_write_at : List ℕ → Option (Cause × List ℕ)
text_write_at bytes = do
  rest ← behind (codes "text-write ") bytes
  addr ← address_at rest
  Some (cause.TextWrite addr.0, addr.1)

-- a cause that is a word alone
unfoldable pub fetch_cause_at : List ℕ → Option (Cause × List ℕ)
fetch_cause_at bytes = first_of (behind (codes "bad-fetch") bytes) cause.BadFetch (first_of (behind (codes "illegal") bytes) cause.Illegal None)

unfoldable pub arithmetic_cause_at : List ℕ → Option (Cause × List ℕ)
arithmetic_cause_at bytes = first_of (behind (codes "overflow") bytes) cause.Overflow (first_of (behind (codes "divide-by-zero") bytes) cause.DivideByZero None)

unfoldable pub word_cause_at : List ℕ → Option (Cause × List ℕ)
word_cause_at bytes = first_of (behind (codes "break") bytes) cause.Break (else_of (fetch_cause_at bytes) (arithmetic_cause_at bytes))

-- a cause with an address, and one of the trace
unfoldable pub address_cause_at : List ℕ → Option (Cause × List ℕ)
address_cause_at bytes = else_of (floating_at bytes) (else_of (misaligned_at bytes) (text_write_at bytes))

unfoldable pub trace_cause_at : List ℕ → Option (Cause × List ℕ)
trace_cause_at bytes = else_of (trace_end_at bytes) (mismatch_at bytes)

unfoldable pub cause_at : List ℕ → Option (Cause × List ℕ)
cause_at bytes = else_of (word_cause_at bytes) (else_of (address_cause_at bytes) (trace_cause_at bytes))

unfoldable pub stop_at : List ℕ → Option (EndWord × List ℕ)
stop_at bytes = do
  rest ← behind (codes "stopped ") bytes
  pc ← address_at rest
  at_icnt ← behind (codes " ") pc.1
  icnt ← count_at at_icnt
  at_cause ← behind (codes " ") icnt.1
  why ← cause_at at_cause
  Some (word.Stopped pc.0 icnt.0 why.0, why.1)

unfoldable pub exit_at : List ℕ → Option (EndWord × List ℕ)
exit_at bytes = do
  rest ← behind (codes "exited ") bytes
  code ← number_at 4294967296 rest
  Some (word.Exited code.0, code.1)

unfoldable pub word_at : List ℕ → Option (EndWord × List ℕ)
word_at bytes = first_of (behind (codes "budget") bytes) word.Budget (else_of (exit_at bytes) (stop_at bytes))

-- ---- lines

unfoldable pub cycle_at : List ℕ → Option (Line × List ℕ)
cycle_at bytes = do
  cycle ← count_at bytes
  Some (line.Cycle cycle.0, cycle.1)

unfoldable pub fetch_at : List ℕ → Option (Line × List ℕ)
fetch_at bytes = do
  row ← count_at bytes
  at_pc ← behind (codes " ") row.1
  pc ← address_at at_pc
  at_next ← behind (codes " ") pc.1
  next ← address_at at_next
  at_queued ← behind (codes " ") next.1
  queued ← count_at at_queued
  Some (line.Act row.0 (mark.Fetched pc.0 next.0 queued.0), queued.1)

unfoldable pub end_at : List ℕ → Option (Line × List ℕ)
end_at bytes = do
  cycles ← count_at bytes
  rest ← behind (codes " ") cycles.1
  end ← word_at rest
  Some (line.End cycles.0 end.0, end.1)

-- the mark of a letter, for the lines that have a row alone
abbrev pub mark_of : ℕ → Option Mark
mark_of letter =
    if nat_eq letter 67 then Some mark.Committed else
    if nat_eq letter 87 then Some mark.Written else
    if nat_eq letter 82 then Some mark.Returned else
    if nat_eq letter 88 then Some mark.Squashed else
    if nat_eq letter 73 then Some mark.Issued else
    if nat_eq letter 65 then Some mark.Accessed else
    if nat_eq letter 68 then Some mark.Dispatched else None

unfoldable pub row_at : ℕ → List ℕ → Option (Line × List ℕ)
row_at letter bytes = do
  act ← mark_of letter
  row ← count_at bytes
  Some (line.Act row.0 act, row.1)

-- what stands behind a letter and a blank
unfoldable pub line_of : ℕ → List ℕ → Option (Line × List ℕ)
line_of letter bytes =
    if nat_eq letter 64 then cycle_at bytes else
    if nat_eq letter 43 then fetch_at bytes else
    if nat_eq letter 46 then end_at bytes else row_at letter bytes

abbrev pub letter_at : List ℕ → Option (ℕ × List ℕ)
letter_at [] = None
letter_at (b ∷ bs) = Some (b, bs)

unfoldable pub line_at : List ℕ → Option (Line × List ℕ)
line_at bytes = do
  letter ← letter_at bytes
  at_line ← behind (codes " ") letter.1
  found ← line_of letter.0 at_line
  rest ← behind (codes "\n") found.1
  Some (found.0, rest)

-- ---- lines one behind the other

-- whether an event may stand behind another one of its cycle
abbrev pub is_later : Event → Event → Bool
is_later a b = if nat_lt (group a.mark) (group b.mark) then true else if nat_eq (group a.mark) (group b.mark) then nat_lt a.row b.row else false

abbrev pub after_cycle : Last → ℕ → Option Last
after_cycle last.Nothing c = Some (last.Cycle c)
after_cycle (last.Cycle b) c = None
after_cycle (last.Act e) c = if nat_lt e.cycle c then Some (last.Cycle c) else None
after_cycle (last.End n w) c = None

abbrev pub event_of : ℕ → ℕ → Mark → Event
event_of c r m = record { cycle = c; row = r; mark = m }

abbrev pub after_act : Last → ℕ → Mark → Option Last
after_act last.Nothing r m = None
after_act (last.Cycle c) r m = Some (last.Act (event_of c r m))
after_act (last.Act e) r m = if is_later e (event_of e.cycle r m) then Some (last.Act (event_of e.cycle r m)) else None
after_act (last.End n w) r m = None

abbrev pub after_end : Last → ℕ → EndWord → Option Last
after_end last.Nothing n w = Some (last.End n w)
after_end (last.Cycle c) n w = None
after_end (last.Act e) n w = if nat_lt e.cycle n then Some (last.End n w) else None
after_end (last.End m v) n w = None

-- a line behind the last one, if it may stand there
abbrev pub after_line : Last → Line → Option Last
after_line before (line.Cycle c) = after_cycle before c
after_line before (line.Act r m) = after_act before r m
after_line before (line.End n w) = after_end before n w

unfoldable pub next_line : Last → List ℕ → Option (Last × List ℕ)
next_line before bytes = do
  found ← line_at bytes
  next ← after_line before found.0
  Some (next, found.1)

abbrev pub with_act : List Event → Last → List Event
with_act es (last.Act e) = es ++ e ∷ []
with_act es last.Nothing = es
with_act es (last.Cycle c) = es
with_act es (last.End n w) = es

-- where reading has come to: the events so far, what the last line was, and the bytes that are left
pub record Place : Type 0 where
  pub events : List Event
  pub last : Last
  pub rest : List ℕ

abbrev pub place : List Event → Last → List ℕ → Place
place es l rest = record { events = es; last = l; rest = rest }

abbrev pub step : Place → Option Place
step p = next_line p.last p.rest >>= λ t. Some (place (with_act p.events t.0) t.0 t.1)

-- after so many lines
unfoldable pub place_after : ℕ → List ℕ → Option Place
place_after zero bytes = Some (place [] last.Nothing bytes)
place_after (suc n) bytes = place_after n bytes >>= step

-- a line that can't be read behind so many others; the end of a text isn't that
abbrev pub IsWhole : Last → List ℕ → Type 0
IsWhole (last.End n w) [] = Unit {0}
IsWhole (last.End n w) (b ∷ bs) = ⊥
IsWhole last.Nothing bytes = ⊥
IsWhole (last.Cycle c) bytes = ⊥
IsWhole (last.Act e) bytes = ⊥

pub record IsStuck (bytes : List ℕ) (line : ℕ) : Type 0 where
  pub place : Place
  pub before : ℕ
  pub number : line ≡ before + 1
  pub comes : place_after before bytes ≡ Some place
  pub stops : next_line place.last place.rest ≡ None
  pub unfinished : IsWhole place.last place.rest → ⊥

-- all lines were read, each of which has more than one byte, or one can't be
abbrev pub ReadsLines : List ℕ → List Event → Result (Last × ℕ) PipeFault → Type 0
ReadsLines bytes es (Ok x) = (place_after x.1 bytes ≡ Some (place es x.0 [])) × (2 * x.1 ≤ length bytes)
ReadsLines bytes es (Err (faults.Bad k)) = IsStuck bytes k
ReadsLines bytes es (Err faults.OutOfMemory) = Unit {0}
