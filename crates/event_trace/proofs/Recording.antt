-- Records that are added to a trace.
use Rattle.std.proofs.Common.{◌≡◌, ℕ, ◌+◌, ◌-◌, ◌%◌, ◌^◌, ◌≤◌, ◌<◌, Bool, true, false, min, Option, Some, None, Result, Ok, Err, IfOk, List, [], ◌∷◌, ◌++◌, length, position, nat_eq, nat_lt, if◌then◌else◌, refl, sym, ap, ◌∙◌, subst, arith}
use Rattle.std.specs.Int.{w32, to_le_bytes}
use Rattle.std.specs.List.{flat_map}
use Rattle.std.proofs.lemmas.List.{length-append, append-nil}
use Rattle.std.proofs.lemmas.List.Concat.{flat_map-append}
use Rattle.ss_base.specs.declared.fault.OutOfMemory.{OutOfMemory}
use Rattle.event_trace.specs.declared.trace.Record.{Record}
use Rattle.event_trace.specs.declared.trace.Trace.{Trace}
use Rattle.event_trace.specs.Grammar.{InTurn, IsRecord, IsTrace, next_record, record_bytes, start_bytes, order_bytes, magic}
use Rattle.event_trace.specs.World.{WorldState, read_left, read_call, left_at, count_of, write_count, write_record, open_bytes, open_call, path_bytes, close_open, close_call, open_at, break_call, exit_record, served}
use Rattle.event_trace.specs.Recorder.{RecorderState, with_more, next_count, trace_size, is_within_limits, Adds}

-- ---- the count of a record

abbrev Has : ℕ → Record × WorldState → Type 0
Has n x = x.0.icnt ≡ n

has_if : (n : ℕ) (b : Bool) (x y : Record × WorldState) → Has n x → Has n y → Has n (if b then x else y)
has_if n true x y p q = p
has_if n false x y p q = q

count_if : (n : ℕ) (b : Bool) (x y : Record) → x.icnt ≡ n → y.icnt ≡ n → (if b then x else y).icnt ≡ n
count_if n true x y p q = p
count_if n false x y p q = q

left_has : (icnt pc : ℕ) (regs : ℕ → ℕ) (w : WorldState) (left : Option (List ℕ)) → Has icnt (read_left w icnt pc regs left)
left_has icnt pc regs w None = refl
left_has icnt pc regs w (Some left) = has_if icnt (nat_lt (2 ^ 32) (regs 5 + count_of (regs 6) left)) _ _ refl refl

read_has : (icnt pc : ℕ) (regs : ℕ → ℕ) (w : WorldState) → Has icnt (read_call w icnt pc regs)
unfolding read_call
read_has icnt pc regs w = left_has icnt pc regs w (left_at w (regs 4))

put_count : (icnt pc : ℕ) (regs mem : ℕ → ℕ) (k : ℕ) → (write_count icnt pc regs mem k).icnt ≡ icnt
put_count icnt pc regs mem k = count_if icnt (nat_lt (2 ^ 32) (regs 5 + k)) _ _ refl refl

write_count_is : (icnt pc : ℕ) (regs mem : ℕ → ℕ) → (write_record icnt pc regs mem).icnt ≡ icnt
unfolding write_record
write_count_is icnt pc regs mem =
    count_if icnt (nat_eq (regs 4) 1) _ _ (put_count icnt pc regs mem _)
    (count_if icnt (nat_eq (regs 4) 2) _ _ (put_count icnt pc regs mem _) refl)

path_has : (icnt pc : ℕ) (regs : ℕ → ℕ) (w : WorldState) (bytes : List ℕ) (n : Option ℕ) → Has icnt (open_bytes w icnt pc regs bytes n)
path_has icnt pc regs w bytes None = refl
path_has icnt pc regs w bytes (Some n) = refl

open_has : (icnt pc : ℕ) (regs mem : ℕ → ℕ) (w : WorldState) → Has icnt (open_call w icnt pc regs mem)
unfolding open_call
open_has icnt pc regs mem w =
    has_if icnt (nat_lt 0 (regs 5 % 4)) _ _ refl (path_has icnt pc regs w (path_bytes mem (regs 4)) (position (λ b. nat_eq b 0) (path_bytes mem (regs 4))))

shut_has : (icnt pc : ℕ) (regs : ℕ → ℕ) (w : WorldState) (o : _) → Has icnt (close_open w icnt pc regs o)
shut_has icnt pc regs w None = refl
shut_has icnt pc regs w (Some o) = refl

close_has : (icnt pc : ℕ) (regs : ℕ → ℕ) (w : WorldState) → Has icnt (close_call w icnt pc regs)
unfolding close_call
close_has icnt pc regs w = shut_has icnt pc regs w (open_at w.opens (regs 4))

break_has : (icnt pc : ℕ) (regs : ℕ → ℕ) (w : WorldState) → Has icnt (break_call w icnt pc regs)
unfolding break_call
break_has icnt pc regs w =
    has_if icnt (nat_lt (regs 4) w.start_break) _ _ refl (has_if icnt (nat_lt 0x7f000000 (regs 4)) _ _ refl refl)

-- a record tells the number of instructions before its call
pub served_count : (w : WorldState) (icnt pc : ℕ) (regs mem : ℕ → ℕ) → (served w icnt pc regs mem).0.icnt ≡ icnt
unfolding served exit_record
served_count w icnt pc regs mem =
    has_if icnt (nat_eq (regs 2) 1) _ _ refl
    (has_if icnt (nat_eq (regs 2) 3) _ _ (read_has icnt pc regs w)
    (has_if icnt (nat_eq (regs 2) 4) _ _ (write_count_is icnt pc regs mem)
    (has_if icnt (nat_eq (regs 2) 5) _ _ (open_has icnt pc regs mem w)
    (has_if icnt (nat_eq (regs 2) 6) _ _ (close_has icnt pc regs w)
    (has_if icnt (nat_eq (regs 2) 17) _ _ (break_has icnt pc regs w) refl)))))

-- ---- one more record

-- a record that fits after the others
pub turn_more : (least : ℕ) (xs : List Record) (x : Record) → InTurn IsRecord next_record least xs → IsRecord (next_count least xs) x → InTurn IsRecord next_record least (xs ++ x ∷ [])
turn_more least [] x h f = (f, tt)
turn_more least (y ∷ ys) x h f = (h.0, turn_more (next_record y) ys x h.1 f)

pub next_more : (least : ℕ) (xs : List Record) (x : Record) → next_count least (xs ++ x ∷ []) ≡ next_record x
next_more least [] x = refl
next_more least (y ∷ ys) x = next_more (next_record y) ys x

start_length : (t : Trace) (r : Record) → length (start_bytes (with_more t (r ∷ []))) ≡ length (start_bytes t)
start_length t r =
    length-append (magic ++ ((48 + t.version) ∷ []) ++ to_le_bytes w32 (length (t.records ++ r ∷ []))) (order_bytes t.version t.big)
    ∙ sym (length-append (magic ++ ((48 + t.version) ∷ []) ++ to_le_bytes w32 (length t.records)) (order_bytes t.version t.big))

-- the bytes of a trace with one more record
pub length_more : (t : Trace) (r : Record) → trace_size (with_more t (r ∷ [])) ≡ trace_size t + length (record_bytes r)
unfolding trace_size
length_more t r =
    let a = length-append (start_bytes (with_more t (r ∷ []))) (flat_map record_bytes (t.records ++ r ∷ [])) in
    let b = length-append (start_bytes t) (flat_map record_bytes t.records) in
    let c = ap length (flat_map-append record_bytes t.records (r ∷ [])) in
    let d = length-append (flat_map record_bytes t.records) (flat_map record_bytes (r ∷ [])) in
    let e = ap length (append-nil (record_bytes r)) in
    let f = start_length t r in
    omega (arith, a, b, c, d, e, f)

-- a trace stays one with a record that fits after the others
pub trace_more : (t : Trace) (r : Record) → IsTrace t → IsRecord (next_count 0 t.records) r → length t.records < 1000000 → IsTrace (with_more t (r ∷ []))
trace_more t r h f m =
    let n = length-append t.records (r ∷ []) in
    record { file = h.file; version = h.version; count = omega (arith, n, m); records = turn_more 0 t.records r h.records f }

-- the limits, judged by the count and the size before
pub within_by : (t : Trace) (r : Record) (size : ℕ) → size ≡ trace_size t + length (record_bytes r) → length t.records < 1000000 → size ≤ 67108864 → is_within_limits (with_more t (r ∷ [])) ≡ true
unfolding is_within_limits
within_by t r size e m l =
    let n = length-append t.records (r ∷ []) in
    let s = length_more t r in
    grind (arith, n, s, e, m, l)

pub beyond_count : (t : Trace) (r : Record) → 1000000 ≤ length t.records → is_within_limits (with_more t (r ∷ [])) ≡ false
unfolding is_within_limits
beyond_count t r m =
    let n = length-append t.records (r ∷ []) in
    grind (arith, n, m)

pub beyond_size : (t : Trace) (r : Record) → 67108864 < trace_size t + length (record_bytes r) → is_within_limits (with_more t (r ∷ [])) ≡ false
unfolding is_within_limits
beyond_size t r m =
    let s = length_more t r in
    grind (arith, s, m)

-- the size of a trace whose records are these
pub size_more : (t : Trace) (r : Record) (records : List Record) (old more size : ℕ) → records ≡ t.records ++ r ∷ [] → old ≡ trace_size t → more ≡ length (record_bytes r)
    → size ≡ min (old + more) (2 ^ 64 - 1) → size ≤ 67108864 → size ≡ trace_size (record t { records = records })
size_more t r records old more size e a b c l =
    let P : List Record → Type 0 = λ x. size ≡ trace_size (record t { records = x }) in
    let s = length_more t r in
    subst P (sym e) (omega (arith, s, a, b, c, l))

-- the record of a call lets the next one come after it
pub rising_by : (r : Record) (old new : RecorderState) (result : Result Bool OutOfMemory) (icnt : ℕ) → r.icnt ≡ icnt → next_count 0 old.trace.records ≤ icnt → Adds r old new result
    → IfOk result (λ _. next_count 0 new.trace.records ≤ icnt + 1)
rising_by r old new (Ok true) icnt e l a =
    let n : next_count 0 new.trace.records ≡ next_record r = ap (λ x. next_count 0 x.trace.records) a.0 ∙ next_more 0 old.trace.records r in
    omega (arith, n, e)
rising_by r old new (Ok false) icnt e l a =
    let n : next_count 0 new.trace.records ≡ next_count 0 old.trace.records = ap (λ x. next_count 0 x.trace.records) a.0 in
    omega (arith, n, l)
rising_by r old new (Err x) icnt e l a = tt

-- the record that a world serves
pub served_is : (w v : WorldState) (icnt pc : ℕ) (regs mem : ℕ → ℕ) (r : Record) → served w icnt pc regs mem ≡ (r, v) → r.icnt ≡ icnt
served_is w v icnt pc regs mem r e = sym (ap (λ x. x.0.icnt) e) ∙ served_count w icnt pc regs mem
