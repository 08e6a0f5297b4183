-- What the closed world answers is a record that a trace may hold.
use Rattle.std.proofs.Common.{◌≡◌, ℕ, ◌+◌, ◌-◌, ◌%◌, ◌^◌, ◌<◌, ◌≤◌, min, Bool, true, false, Option, Some, None, Result, Ok, Err, IfOk, List, [], ◌∷◌, ◌++◌, length, take, position, nat_eq, nat_lt, if◌then◌else◌, refl, subst, arith}
use Rattle.std.proofs.lemmas.Bool.{ltb-false, ltb-true}
use Rattle.std.proofs.lemmas.List.{length-take}
use Rattle.event_trace.specs.declared.trace.CallKind.{CallKind}
use Rattle.event_trace.specs.declared.trace.CallKind.TheVariants.{Plain, Emit}
use Rattle.event_trace.specs.declared.trace.Block.{Block}
use Rattle.event_trace.specs.declared.trace.Record.{Record}
use Rattle.event_trace.specs.Grammar.{IsRegister, AreRegisters, AreBlocks, FitsKind, IsRecord}
use Rattle.event_trace.specs.World.{Opened, WorldState, answered, refused, blocks_of, bytes_from, reads_number, reads_one, reads_two, reads_three, exit_record, left_at, count_of, read_count, read_left, read_call, write_count, write_record, path_bytes, file_named, open_answer, open_path, open_bytes, open_call, open_at, close_open, close_call, break_call, served}
use Rattle.event_trace.proofs.Served.{bytes_length}

-- the numbers of a call that a trace may hold
pub record IsCall (least icnt pc : ℕ) (regs : ℕ → ℕ) : Type 0 where
  pub rising : least ≤ icnt
  pub most : icnt ≤ 10 ^ 15
  pub address : pc < 2 ^ 32
  pub values : (k : ℕ) → regs k < 2 ^ 32

register : (least k v : ℕ) → least ≤ k → k ≤ 31 → v < 2 ^ 32 → IsRegister least (k, v)
register least k v a b c = record { rising = a; number = b; value = c }

number_fits : (regs : ℕ → ℕ) → ((k : ℕ) → regs k < 2 ^ 32) → AreRegisters (reads_number regs)
number_fits regs h = (omega arith, (register 1 2 (regs 2) (omega arith) (omega arith) (h 2), tt))

one_fits : (regs : ℕ → ℕ) → ((k : ℕ) → regs k < 2 ^ 32) → AreRegisters (reads_one regs)
one_fits regs h = (omega arith, (register 1 2 (regs 2) (omega arith) (omega arith) (h 2), (register 3 4 (regs 4) (omega arith) (omega arith) (h 4), tt)))

two_fit : (regs : ℕ → ℕ) → ((k : ℕ) → regs k < 2 ^ 32) → AreRegisters (reads_two regs)
two_fit regs h = (omega arith, (register 1 2 (regs 2) (omega arith) (omega arith) (h 2), (register 3 4 (regs 4) (omega arith) (omega arith) (h 4), (register 5 5 (regs 5) (omega arith) (omega arith) (h 5), tt))))

three_fit : (regs : ℕ → ℕ) → ((k : ℕ) → regs k < 2 ^ 32) → AreRegisters (reads_three regs)
three_fit regs h = (omega arith, (register 1 2 (regs 2) (omega arith) (omega arith) (h 2), (register 3 4 (regs 4) (omega arith) (omega arith) (h 4), (register 5 5 (regs 5) (omega arith) (omega arith) (h 5), (register 6 6 (regs 6) (omega arith) (omega arith) (h 6), tt)))))

outs_fit : (value flag : ℕ) → value < 2 ^ 32 → flag < 2 ^ 32 → AreRegisters ((2, value) ∷ (7, flag) ∷ [])
outs_fit value flag a b = (omega arith, (register 1 2 value (omega arith) (omega arith) a, (register 3 7 flag (omega arith) (omega arith) b, tt)))

nothing_fits : AreBlocks []
nothing_fits = (omega arith, tt)

some_fit : (address : ℕ) (bytes : List ℕ) (b : Bool) → nat_lt 0 (length bytes) ≡ b → length bytes ≤ 65536 → address + length bytes ≤ 2 ^ 32
    → AreBlocks (if b then record { addr = address; bytes = bytes } ∷ [] else [])
some_fit address bytes false e h f = nothing_fits
some_fit address bytes true e h f =
    let p : 0 < length bytes = ltb-true 0 (length bytes) e in
    let q : 1 ≤ length bytes = omega (arith, p) in
    (omega arith, (record { some = q; most = h; end = f }, tt))

blocks_fit : (address : ℕ) (bytes : List ℕ) → length bytes ≤ 65536 → address + length bytes ≤ 2 ^ 32 → AreBlocks (blocks_of address bytes)
blocks_fit address bytes h f = some_fit address bytes (nat_lt 0 (length bytes)) refl h f

answered_fits : (least icnt pc : ℕ) (regs : ℕ → ℕ) (kind : CallKind) (ins : List (ℕ × ℕ)) (in_blocks : List Block) (value flag : ℕ) (out_blocks : List Block) → IsCall least icnt pc regs
    → FitsKind kind (answered icnt pc kind ins in_blocks value flag out_blocks) → AreRegisters ins → AreBlocks in_blocks → value < 2 ^ 32 → flag < 2 ^ 32 → AreBlocks out_blocks
    → IsRecord least (answered icnt pc kind ins in_blocks value flag out_blocks)
answered_fits least icnt pc regs kind ins in_blocks value flag out_blocks c k i ib v f ob = record {
  rising = c.rising;
  icnt = c.most;
  pc = c.address;
  code = omega arith;
  kind = k;
  ins = i;
  in_blocks = ib;
  outs = outs_fit value flag v f;
  out_blocks = ob;
}

plain_fits : (least icnt pc : ℕ) (regs : ℕ → ℕ) (ins : List (ℕ × ℕ)) (value flag : ℕ) → IsCall least icnt pc regs → AreRegisters ins → value < 2 ^ 32 → flag < 2 ^ 32
    → IsRecord least (answered icnt pc Plain ins [] value flag [])
plain_fits least icnt pc regs ins value flag c i v f = answered_fits least icnt pc regs Plain ins [] value flag [] c refl i nothing_fits v f nothing_fits

exit_fits : (least icnt pc : ℕ) (regs : ℕ → ℕ) → IsCall least icnt pc regs → IsRecord least (exit_record icnt pc regs)
unfolding exit_record
exit_fits least icnt pc regs c = record {
  rising = c.rising;
  icnt = c.most;
  pc = c.address;
  code = c.values 4;
  kind = (refl, refl);
  ins = one_fits regs c.values;
  in_blocks = nothing_fits;
  outs = (omega arith, tt);
  out_blocks = nothing_fits;
}

abbrev Fits : ℕ → Record × WorldState → Type 0
Fits least x = IsRecord least x.0

-- one of two, by a test
either : (least : ℕ) (b : Bool) (x y : Record × WorldState) → (b ≡ true → Fits least x) → (b ≡ false → Fits least y) → Fits least (if b then x else y)
either least true x y p q = p refl
either least false x y p q = q refl

one_of : (least : ℕ) (b : Bool) (x y : Record) → (b ≡ true → IsRecord least x) → (b ≡ false → IsRecord least y) → IsRecord least (if b then x else y)
one_of least true x y p q = p refl
one_of least false x y p q = q refl

count_fits : (least icnt pc : ℕ) (regs : ℕ → ℕ) (w : WorldState) (left : List ℕ) (k : ℕ) → IsCall least icnt pc regs → k ≤ 65536 → Fits least (read_count w icnt pc regs left k)
count_fits least icnt pc regs w left k c h =
    either least (nat_lt (2 ^ 32) (regs 5 + k)) _ _
    (λ _. plain_fits least icnt pc regs (reads_three regs) 14 1 c (three_fit regs c.values) (omega arith) (omega arith))
    (λ e.
    let f : regs 5 + k ≤ 2 ^ 32 = ltb-false (2 ^ 32) (regs 5 + k) e in
    let n : length (take k left) ≡ min k (length left) = length-take k left in
    let m : length (take k left) ≤ k = omega (arith, n) in
    let most : length (take k left) ≤ 65536 = omega (arith, m, h) in
    let end : regs 5 + length (take k left) ≤ 2 ^ 32 = omega (arith, m, f) in
    let v : k < 2 ^ 32 = omega (arith, h) in
    answered_fits least icnt pc regs Plain (reads_three regs) [] k 0 (blocks_of (regs 5) (take k left)) c refl (three_fit regs c.values) nothing_fits v (omega arith) (blocks_fit (regs 5) (take k left) most end))

count_most : (asked : ℕ) (left : List ℕ) → count_of asked left ≤ 65536
count_most asked left = omega arith

left_fits : (least icnt pc : ℕ) (regs : ℕ → ℕ) (w : WorldState) (left : Option (List ℕ)) → IsCall least icnt pc regs → Fits least (read_left w icnt pc regs left)
left_fits least icnt pc regs w None c = plain_fits least icnt pc regs (reads_three regs) 9 1 c (three_fit regs c.values) (omega arith) (omega arith)
left_fits least icnt pc regs w (Some left) c = count_fits least icnt pc regs w left (count_of (regs 6) left) c (count_most (regs 6) left)

read_fits : (least icnt pc : ℕ) (regs : ℕ → ℕ) (w : WorldState) → IsCall least icnt pc regs → Fits least (read_call w icnt pc regs)
unfolding read_call
read_fits least icnt pc regs w c = left_fits least icnt pc regs w (left_at w (regs 4)) c

put_fits : (least icnt pc : ℕ) (regs mem : ℕ → ℕ) (k : ℕ) → IsCall least icnt pc regs → k ≤ 65536 → IsRecord least (write_count icnt pc regs mem k)
put_fits least icnt pc regs mem k c h =
    one_of least (nat_lt (2 ^ 32) (regs 5 + k)) _ _
    (λ _. plain_fits least icnt pc regs (reads_three regs) 14 1 c (three_fit regs c.values) (omega arith) (omega arith))
    (λ e.
    let f : regs 5 + k ≤ 2 ^ 32 = ltb-false (2 ^ 32) (regs 5 + k) e in
    let n : length (bytes_from mem (regs 5) k) ≡ k = bytes_length mem (regs 5) k in
    let most : length (bytes_from mem (regs 5) k) ≤ 65536 = omega (arith, n, h) in
    let end : regs 5 + length (bytes_from mem (regs 5) k) ≤ 2 ^ 32 = omega (arith, n, f) in
    let v : k < 2 ^ 32 = omega (arith, h) in
    answered_fits least icnt pc regs Emit (reads_three regs) (blocks_of (regs 5) (bytes_from mem (regs 5) k)) k 0 [] c refl (three_fit regs c.values) (blocks_fit (regs 5) (bytes_from mem (regs 5) k) most end) v (omega arith) nothing_fits)

asked_most : (asked : ℕ) → min asked 65536 ≤ 65536
asked_most asked = omega arith

write_fits : (least icnt pc : ℕ) (regs mem : ℕ → ℕ) → IsCall least icnt pc regs → IsRecord least (write_record icnt pc regs mem)
unfolding write_record
write_fits least icnt pc regs mem c =
    let k : ℕ = min (regs 6) 65536 in
    one_of least (nat_eq (regs 4) 1) _ _ (λ _. put_fits least icnt pc regs mem k c (asked_most (regs 6)))
    (λ _. one_of least (nat_eq (regs 4) 2) _ _ (λ _. put_fits least icnt pc regs mem k c (asked_most (regs 6)))
    (λ _. plain_fits least icnt pc regs (reads_three regs) 9 1 c (three_fit regs c.values) (omega arith) (omega arith)))

-- an open gives small numbers
record AreSmall (answer : ℕ × ℕ × List Opened) : Type 0 where
  value : answer.0 < 2 ^ 32
  flag : answer.1 < 2 ^ 32

small_by : (opens : List Opened) (file : ℕ) (b : Bool) → nat_lt (length opens) 16 ≡ b
    → AreSmall (if b then (3 + length opens, 0, opens ++ record { file = file; position = 0; is_open = true } ∷ []) else (24, 1, opens))
small_by opens file true e =
    let n : length opens < 16 = ltb-true (length opens) 16 e in
    record { value = omega (arith, n); flag = omega arith }
small_by opens file false e = record { value = omega arith; flag = omega arith }

small : (opens : List Opened) (found : Option ℕ) → AreSmall (open_answer opens found)
small opens None = record { value = omega arith; flag = omega arith }
small opens (Some file) = small_by opens file (nat_lt (length opens) 16) refl

path_fits : (least icnt pc : ℕ) (regs : ℕ → ℕ) (w : WorldState) (path : List ℕ) (answer : ℕ × ℕ × List Opened) → IsCall least icnt pc regs → length path ≤ 65536 → regs 4 + length path ≤ 2 ^ 32 → AreSmall answer
    → Fits least (open_path w icnt pc regs path answer)
path_fits least icnt pc regs w path answer c h f s =
    answered_fits least icnt pc regs Plain (reads_two regs) (blocks_of (regs 4) path) answer.0 answer.1 [] c refl (two_fit regs c.values) (blocks_fit (regs 4) path h f) s.value s.flag nothing_fits

bytes_fit : (least icnt pc : ℕ) (regs : ℕ → ℕ) (w : WorldState) (bytes : List ℕ) (zero_place : Option ℕ) → IsCall least icnt pc regs → length bytes ≤ 256 → regs 4 + length bytes ≤ 2 ^ 32
    → Fits least (open_bytes w icnt pc regs bytes zero_place)
bytes_fit least icnt pc regs w bytes None c h f = plain_fits least icnt pc regs (reads_two regs) 14 1 c (two_fit regs c.values) (omega arith) (omega arith)
bytes_fit least icnt pc regs w bytes (Some n) c h f =
    let e : length (take (n + 1) bytes) ≡ min (n + 1) (length bytes) = length-take (n + 1) bytes in
    let m : length (take (n + 1) bytes) ≤ length bytes = omega (arith, e) in
    let most : length (take (n + 1) bytes) ≤ 65536 = omega (arith, m, h) in
    let end : regs 4 + length (take (n + 1) bytes) ≤ 2 ^ 32 = omega (arith, m, f) in
    path_fits least icnt pc regs w (take (n + 1) bytes) (open_answer w.opens (file_named w.files (take n bytes))) c most end (small w.opens (file_named w.files (take n bytes)))

path_most : (mem : ℕ → ℕ) (a : ℕ) → length (path_bytes mem a) ≤ 256
path_most mem a =
    let e : length (path_bytes mem a) ≡ min 256 (2 ^ 32 - a) = bytes_length mem a (min 256 (2 ^ 32 - a)) in
    omega (arith, e)

path_ends : (mem : ℕ → ℕ) (a : ℕ) → a < 2 ^ 32 → a + length (path_bytes mem a) ≤ 2 ^ 32
path_ends mem a h =
    let e : length (path_bytes mem a) ≡ min 256 (2 ^ 32 - a) = bytes_length mem a (min 256 (2 ^ 32 - a)) in
    omega (arith, e, h)

open_fits : (least icnt pc : ℕ) (regs mem : ℕ → ℕ) (w : WorldState) → IsCall least icnt pc regs → Fits least (open_call w icnt pc regs mem)
unfolding open_call
open_fits least icnt pc regs mem w c =
    either least (nat_lt 0 (regs 5 % 4)) _ _
    (λ _. plain_fits least icnt pc regs (reads_two regs) 13 1 c (two_fit regs c.values) (omega arith) (omega arith))
    (λ _. bytes_fit least icnt pc regs w (path_bytes mem (regs 4)) (position (λ b. nat_eq b 0) (path_bytes mem (regs 4))) c (path_most mem (regs 4)) (path_ends mem (regs 4) (c.values 4)))

shut_fits : (least icnt pc : ℕ) (regs : ℕ → ℕ) (w : WorldState) (found : Option Opened) → IsCall least icnt pc regs → Fits least (close_open w icnt pc regs found)
shut_fits least icnt pc regs w None c = plain_fits least icnt pc regs (reads_one regs) 9 1 c (one_fits regs c.values) (omega arith) (omega arith)
shut_fits least icnt pc regs w (Some o) c = plain_fits least icnt pc regs (reads_one regs) 0 0 c (one_fits regs c.values) (omega arith) (omega arith)

close_fits : (least icnt pc : ℕ) (regs : ℕ → ℕ) (w : WorldState) → IsCall least icnt pc regs → Fits least (close_call w icnt pc regs)
unfolding close_call
close_fits least icnt pc regs w c = shut_fits least icnt pc regs w (open_at w.opens (regs 4)) c

break_fits : (least icnt pc : ℕ) (regs : ℕ → ℕ) (w : WorldState) → IsCall least icnt pc regs → Fits least (break_call w icnt pc regs)
unfolding break_call
break_fits least icnt pc regs w c =
    let no : IsRecord least (refused icnt pc (reads_one regs) 12) = plain_fits least icnt pc regs (reads_one regs) 12 1 c (one_fits regs c.values) (omega arith) (omega arith) in
    either least (nat_lt (regs 4) w.start_break) _ _ (λ _. no)
    (λ _. either least (nat_lt 0x7f000000 (regs 4)) _ _ (λ _. no)
    (λ _. plain_fits least icnt pc regs (reads_one regs) (regs 4) 0 c (one_fits regs c.values) (c.values 4) (omega arith)))

pub served_fits : (least icnt pc : ℕ) (regs mem : ℕ → ℕ) (w : WorldState) → IsCall least icnt pc regs → Fits least (served w icnt pc regs mem)
unfolding served
served_fits least icnt pc regs mem w c =
    either least (nat_eq (regs 2) 1) _ _ (λ _. exit_fits least icnt pc regs c)
    (λ _. either least (nat_eq (regs 2) 3) _ _ (λ _. read_fits least icnt pc regs w c)
    (λ _. either least (nat_eq (regs 2) 4) _ _ (λ _. write_fits least icnt pc regs mem c)
    (λ _. either least (nat_eq (regs 2) 5) _ _ (λ _. open_fits least icnt pc regs mem w c)
    (λ _. either least (nat_eq (regs 2) 6) _ _ (λ _. close_fits least icnt pc regs w c)
    (λ _. either least (nat_eq (regs 2) 17) _ _ (λ _. break_fits least icnt pc regs w c)
    (λ _. plain_fits least icnt pc regs (reads_number regs) 22 1 c (number_fits regs c.values) (omega arith) (omega arith)))))))

-- the record of an answer
pub answer_fits : (least icnt pc : ℕ) (regs mem : ℕ → ℕ) (w v : WorldState) (r : Record) → served w icnt pc regs mem ≡ (r, v) → IsCall least icnt pc regs → IsRecord least r
answer_fits least icnt pc regs mem w v r e c =
    let P : Record × WorldState → Type 0 = λ x. IsRecord least x.0 in
    subst P e (served_fits least icnt pc regs mem w c)

pub held_by : {E : Type 0} (icnt pc : ℕ) (regs mem : ℕ → ℕ) (w v : WorldState) (result : Result Record E) → pc < 2 ^ 32 → ((k : ℕ) → regs k < 2 ^ 32)
    → IfOk result (λ r. served w icnt pc regs mem ≡ (r, v)) → IfOk result (λ r. (least : ℕ) → least ≤ icnt → icnt ≤ 10 ^ 15 → IsRecord least r)
held_by icnt pc regs mem w v (Ok r) p q e = λ least a b. answer_fits least icnt pc regs mem w v r e (record { rising = a; most = b; address = p; values = q })
held_by icnt pc regs mem w v (Err f) p q e = e
