-- The closed world that answers the system calls of a run that is recorded. A call is its number of
-- instructions, its pc, the registers and the memory. Its record and the next world follow from these
-- and the world.
use Rattle.std.specs.Prelude.{◌+◌, ◌-◌, ◌%◌, ◌^◌, ℕ, zero, suc, Bool, true, false, min, Option, Some, None, option_map, String, string_bytes, Vec, map, List, [], ◌∷◌, ◌++◌, length, take, drop, position, nat_eq, nat_lt, bytes_eq, slice_get, slice_set, if◌then◌else◌}
use Rattle.event_trace.specs.declared.trace.CallKind.{CallKind}
use Rattle.event_trace.specs.declared.trace.CallKind.TheVariants.{Plain, Emit, Exit}
use Rattle.event_trace.specs.declared.trace.Block.{Block}
use Rattle.event_trace.specs.declared.trace.Record.{Record}

-- a file that a program may open, by its name
pub record File : Type 0 where
  pub name : List ℕ
  pub bytes : List ℕ

-- the files that the world was made with, in their order
abbrev pub file_of : {A B : Type 0} → String A × Vec ℕ B → File
file_of f = record { name = string_bytes f.0; bytes = f.1.items }

abbrev pub files_of : {A B : Type 0} → List (String A × Vec ℕ B) → List File
files_of files = map file_of files

-- an open that was answered: the file's place among the files, where the next read begins, and
-- whether the file is still open
pub record Opened : Type 0 where
  pub file : ℕ
  pub position : ℕ
  pub is_open : Bool

pub record WorldState : Type 0 where
  -- the bytes of descriptor 0, and where the next read of them begins
  pub input : List ℕ
  pub position : ℕ
  pub files : List File
  -- the opens so far, in turn: the first has descriptor 3, the next one 4, and so on
  pub opens : List Opened
  pub start_break : ℕ
  pub program_break : ℕ

-- nothing was read and no file opened
abbrev pub start_world : List ℕ → List File → ℕ → WorldState
start_world input files start_break = record {
  input = input;
  position = 0;
  files = files;
  opens = [];
  start_break = start_break;
  program_break = start_break;
}

-- what calls change of a world
pub record ProgressState : Type 0 where
  pub position : ℕ
  pub opens : List Opened
  pub program_break : ℕ

abbrev pub progress_of : WorldState → ProgressState
progress_of w = record { position = w.position; opens = w.opens; program_break = w.program_break }

-- a world that is set to where another one was
abbrev pub set_to : WorldState → ProgressState → WorldState
set_to w at = record w { position = at.position; opens = at.opens; program_break = at.program_break }

-- ---- records

-- a call that gives register 2 a value, and register 7 a flag: 0 where the call was done, 1 where it was refused
abbrev pub answered : ℕ → ℕ → CallKind → List (ℕ × ℕ) → List Block → ℕ → ℕ → List Block → Record
answered icnt pc kind ins in_blocks value flag out_blocks = record {
  icnt = icnt;
  pc = pc;
  kind = kind;
  code = 0;
  ins = ins;
  in_blocks = in_blocks;
  outs = (2, value) ∷ (7, flag) ∷ [];
  out_blocks = out_blocks;
}

-- a call that was done, without memory
abbrev pub done : ℕ → ℕ → List (ℕ × ℕ) → ℕ → Record
done icnt pc ins value = answered icnt pc Plain ins [] value 0 []

-- a call that was refused for a reason, without memory
abbrev pub refused : ℕ → ℕ → List (ℕ × ℕ) → ℕ → Record
refused icnt pc ins reason = answered icnt pc Plain ins [] reason 1 []

-- the bytes at an address, as a block where there are any
abbrev pub blocks_of : ℕ → List ℕ → List Block
blocks_of address bytes = if nat_lt 0 (length bytes) then record { addr = address; bytes = bytes } ∷ [] else []

-- n bytes of memory, from an address on
unfoldable pub bytes_from : (ℕ → ℕ) → ℕ → ℕ → List ℕ
bytes_from mem address zero = []
bytes_from mem address (suc n) = mem address ∷ bytes_from mem (address + 1) n

-- the registers that a call reads, with their values
abbrev pub reads_number : (ℕ → ℕ) → List (ℕ × ℕ)
reads_number regs = (2, regs 2) ∷ []

abbrev pub reads_one : (ℕ → ℕ) → List (ℕ × ℕ)
reads_one regs = (2, regs 2) ∷ (4, regs 4) ∷ []

abbrev pub reads_two : (ℕ → ℕ) → List (ℕ × ℕ)
reads_two regs = (2, regs 2) ∷ (4, regs 4) ∷ (5, regs 5) ∷ []

abbrev pub reads_three : (ℕ → ℕ) → List (ℕ × ℕ)
reads_three regs = (2, regs 2) ∷ (4, regs 4) ∷ (5, regs 5) ∷ (6, regs 6) ∷ []

-- ---- exit

unfoldable pub exit_record : ℕ → ℕ → (ℕ → ℕ) → Record
exit_record icnt pc regs = record {
  icnt = icnt;
  pc = pc;
  kind = Exit;
  code = regs 4;
  ins = reads_one regs;
  in_blocks = [];
  outs = [];
  out_blocks = [];
}

-- ---- read

-- the open of a descriptor, where its file is still open
abbrev pub still_open : Option Opened → Option Opened
still_open None = None
still_open (Some o) = if o.is_open then Some o else None

unfoldable pub open_at : List Opened → ℕ → Option Opened
open_at opens descriptor = if nat_lt descriptor 3 then None else still_open (slice_get opens (descriptor - 3))

-- the bytes of a file, by its place among the files
abbrev pub bytes_of : Option File → List ℕ
bytes_of None = []
bytes_of (Some f) = f.bytes

abbrev pub left_of : List File → Opened → List ℕ
left_of files o = drop o.position (bytes_of (slice_get files o.file))

-- what is left to be read at a descriptor: of the input at 0, and at others of the file that is open there
unfoldable pub left_at : WorldState → ℕ → Option (List ℕ)
left_at w descriptor =
    if nat_eq descriptor 0 then Some (drop w.position w.input) else option_map (left_of w.files) (open_at w.opens descriptor)

-- where the next read at a descriptor begins
abbrev pub position_of : Option Opened → ℕ
position_of None = 0
position_of (Some o) = o.position

unfoldable pub position_at : WorldState → ℕ → ℕ
position_at w descriptor = if nat_eq descriptor 0 then w.position else position_of (open_at w.opens descriptor)

-- after k bytes were read there
abbrev pub moved : ℕ → Opened → Opened
moved k o = record o { position = o.position + k }

abbrev pub changed : (Opened → Opened) → List Opened → ℕ → Option Opened → List Opened
changed change opens place None = opens
changed change opens place (Some o) = slice_set opens place (change o)

unfoldable pub advanced : WorldState → ℕ → ℕ → WorldState
advanced w descriptor k =
    if nat_eq descriptor 0 then record w { position = w.position + k } else
    record w { opens = changed (moved k) w.opens (descriptor - 3) (open_at w.opens descriptor) }

-- how many bytes one call reads: as many as it asks for, as there are left, and no more than 65,536
abbrev pub count_of : ℕ → List ℕ → ℕ
count_of asked left = min (min asked (length left)) 65536

abbrev pub read_count : WorldState → ℕ → ℕ → (ℕ → ℕ) → List ℕ → ℕ → Record × WorldState
read_count w icnt pc regs left k =
    if nat_lt (2 ^ 32) (regs 5 + k) then (refused icnt pc (reads_three regs) 14, w) else
    (answered icnt pc Plain (reads_three regs) [] k 0 (blocks_of (regs 5) (take k left)), advanced w (regs 4) k)

abbrev pub read_left : WorldState → ℕ → ℕ → (ℕ → ℕ) → Option (List ℕ) → Record × WorldState
read_left w icnt pc regs None = (refused icnt pc (reads_three regs) 9, w)
read_left w icnt pc regs (Some left) = read_count w icnt pc regs left (count_of (regs 6) left)

unfoldable pub read_call : WorldState → ℕ → ℕ → (ℕ → ℕ) → Record × WorldState
read_call w icnt pc regs = read_left w icnt pc regs (left_at w (regs 4))

-- ---- write

abbrev pub write_count : ℕ → ℕ → (ℕ → ℕ) → (ℕ → ℕ) → ℕ → Record
write_count icnt pc regs mem k =
    if nat_lt (2 ^ 32) (regs 5 + k) then refused icnt pc (reads_three regs) 14 else
    answered icnt pc Emit (reads_three regs) (blocks_of (regs 5) (bytes_from mem (regs 5) k)) k 0 []

-- descriptors 1 and 2 are written, as many bytes as the call asks for and no more than 65,536
unfoldable pub write_record : ℕ → ℕ → (ℕ → ℕ) → (ℕ → ℕ) → Record
write_record icnt pc regs mem =
    if nat_eq (regs 4) 1 then write_count icnt pc regs mem (min (regs 6) 65536) else
    if nat_eq (regs 4) 2 then write_count icnt pc regs mem (min (regs 6) 65536) else
    refused icnt pc (reads_three regs) 9

-- ---- open

-- the bytes among which a path has to end: 256 of them, or fewer where memory ends before
abbrev pub path_bytes : (ℕ → ℕ) → ℕ → List ℕ
path_bytes mem address = bytes_from mem address (min 256 (2 ^ 32 - address))

-- the place of the first file with this name
unfoldable pub file_named : List File → List ℕ → Option ℕ
file_named files name = position (λ f. bytes_eq f.name name) files

-- what registers 2 and 7 get, and the opens so far after the call
abbrev pub open_answer : List Opened → Option ℕ → ℕ × ℕ × List Opened
open_answer opens None = (2, 1, opens)
open_answer opens (Some file) =
    if nat_lt (length opens) 16
    then (3 + length opens, 0, opens ++ record { file = file; position = 0; is_open = true } ∷ [])
    else (24, 1, opens)

abbrev pub with_opens : WorldState → List Opened → WorldState
with_opens w opens = record w { opens = opens }

abbrev pub open_path : WorldState → ℕ → ℕ → (ℕ → ℕ) → List ℕ → ℕ × ℕ × List Opened → Record × WorldState
open_path w icnt pc regs path_with_zero answer =
    (answered icnt pc Plain (reads_two regs) (blocks_of (regs 4) path_with_zero) answer.0 answer.1 [], with_opens w answer.2)

-- the path ends before the first zero byte
abbrev pub open_bytes : WorldState → ℕ → ℕ → (ℕ → ℕ) → List ℕ → Option ℕ → Record × WorldState
open_bytes w icnt pc regs bytes None = (refused icnt pc (reads_two regs) 14, w)
open_bytes w icnt pc regs bytes (Some n) =
    open_path w icnt pc regs (take (n + 1) bytes) (open_answer w.opens (file_named w.files (take n bytes)))

unfoldable pub open_call : WorldState → ℕ → ℕ → (ℕ → ℕ) → (ℕ → ℕ) → Record × WorldState
open_call w icnt pc regs mem =
    if nat_lt 0 (regs 5 % 4) then (refused icnt pc (reads_two regs) 13, w) else
    open_bytes w icnt pc regs (path_bytes mem (regs 4)) (position (λ b. nat_eq b 0) (path_bytes mem (regs 4)))

-- ---- close

abbrev pub shut : Opened → Opened
shut o = record o { is_open = false }

abbrev pub close_open : WorldState → ℕ → ℕ → (ℕ → ℕ) → Option Opened → Record × WorldState
close_open w icnt pc regs None = (refused icnt pc (reads_one regs) 9, w)
close_open w icnt pc regs (Some o) = (done icnt pc (reads_one regs) 0, record w { opens = slice_set w.opens (regs 4 - 3) (shut o) })

unfoldable pub close_call : WorldState → ℕ → ℕ → (ℕ → ℕ) → Record × WorldState
close_call w icnt pc regs = close_open w icnt pc regs (open_at w.opens (regs 4))

-- ---- brk

unfoldable pub break_call : WorldState → ℕ → ℕ → (ℕ → ℕ) → Record × WorldState
break_call w icnt pc regs =
    if nat_lt (regs 4) w.start_break then (refused icnt pc (reads_one regs) 12, w) else
    if nat_lt 0x7f000000 (regs 4) then (refused icnt pc (reads_one regs) 12, w) else
    (done icnt pc (reads_one regs) (regs 4), record w { program_break = regs 4 })

-- ---- all calls, by the number in register 2

unfoldable pub served : WorldState → ℕ → ℕ → (ℕ → ℕ) → (ℕ → ℕ) → Record × WorldState
served w icnt pc regs mem =
    if nat_eq (regs 2) 1 then (exit_record icnt pc regs, w) else
    if nat_eq (regs 2) 3 then read_call w icnt pc regs else
    if nat_eq (regs 2) 4 then (write_record icnt pc regs mem, w) else
    if nat_eq (regs 2) 5 then open_call w icnt pc regs mem else
    if nat_eq (regs 2) 6 then close_call w icnt pc regs else
    if nat_eq (regs 2) 17 then break_call w icnt pc regs else
    (refused icnt pc (reads_number regs) 22, w)
