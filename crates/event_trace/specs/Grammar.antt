-- What a trace is, and the bytes of each trace.
use Rattle.std.specs.Prelude.{◌≡◌, ◌+◌, ◌^◌, ◌<◌, ◌≤◌, ◌⊎◌, ℕ, Bool, true, false, List, [], ◌∷◌, ◌++◌, length, nat_eq, if◌then◌else◌}
use Rattle.std.specs.Int.{w32, w64, to_le_bytes}
use Rattle.std.specs.List.{flat_map}
use Rattle.event_trace.specs.declared.trace.CallKind.{CallKind}
use Rattle.event_trace.specs.declared.trace.CallKind.TheVariants.{Plain, Emit, Exit}
use Rattle.event_trace.specs.declared.trace.Block.{Block}
use Rattle.event_trace.specs.declared.trace.Record.{Record}
use Rattle.event_trace.specs.declared.trace.Trace.{Trace}

-- ---- the bytes

-- a register: its number and its value
abbrev pub register_bytes : ℕ × ℕ → List ℕ
register_bytes item = to_le_bytes w32 item.0 ++ to_le_bytes w32 item.1

-- a block: its address, its length and its bytes
abbrev pub block_bytes : Block → List ℕ
block_bytes block = to_le_bytes w32 block.addr ++ to_le_bytes w32 (length block.bytes) ++ block.bytes

abbrev pub kind_number : CallKind → ℕ
kind_number Plain = 0
kind_number Emit = 1
kind_number Exit = 2

-- the kind and the number of items in each list
abbrev pub counts_bytes : Record → List ℕ
counts_bytes r = kind_number r.kind ∷ length r.ins ∷ length r.in_blocks ∷ length r.outs ∷ length r.out_blocks ∷ []

-- the 24 bytes before a record's lists
abbrev pub head_bytes : Record → List ℕ
head_bytes r = to_le_bytes w64 r.icnt ++ to_le_bytes w32 r.pc ++ counts_bytes r ++ (0 ∷ 0 ∷ 0 ∷ []) ++ to_le_bytes w32 r.code

-- a record: its head, and the lists of what it read and what it wrote
abbrev pub record_bytes : Record → List ℕ
record_bytes r = head_bytes r ++ flat_map register_bytes r.ins ++ flat_map block_bytes r.in_blocks ++ flat_map register_bytes r.outs ++ flat_map block_bytes r.out_blocks

-- "PEXT000", which both versions begin with
abbrev pub magic : List ℕ
magic = 80 ∷ 69 ∷ 88 ∷ 84 ∷ 48 ∷ 48 ∷ 48 ∷ []

abbrev pub order_number : Bool → ℕ
order_number false = 0
order_number true = 1

-- the byte order, which version 1 doesn't have
abbrev pub order_bytes : ℕ → Bool → List ℕ
order_bytes version big = if nat_eq version 2 then to_le_bytes w32 (order_number big) else []

-- what stands before the records: the magic, which ends with the version's digit, the number of records, the byte order
abbrev pub start_bytes : Trace → List ℕ
start_bytes t = magic ++ ((48 + t.version) ∷ []) ++ to_le_bytes w32 (length t.records) ++ order_bytes t.version t.big

-- a file
abbrev pub trace_bytes : Trace → List ℕ
trace_bytes t = start_bytes t ++ flat_map record_bytes t.records

-- ---- the values

-- each item fits, and the least number that an item may have comes from the one before it
abbrev pub InTurn : {A : Type 0} → (ℕ → A → Type 0) → (A → ℕ) → ℕ → List A → Type 0
InTurn Fits next least [] = Unit {0}
InTurn Fits next least (x ∷ xs) = Fits least x × InTurn Fits next (next x) xs

-- registers rise from 1 to 31
pub record IsRegister (least : ℕ) (item : ℕ × ℕ) : Type 0 where
  pub rising : least ≤ item.0
  pub number : item.0 ≤ 31
  pub value : item.1 < 2 ^ 32

abbrev pub next_register : ℕ × ℕ → ℕ
next_register item = item.0 + 1

abbrev pub AreRegisters : List (ℕ × ℕ) → Type 0
AreRegisters items = (length items ≤ 8) × InTurn IsRegister next_register 1 items

-- a block has 1 to 65,536 bytes, and ends at or below 2^32
pub record IsBlock (least : ℕ) (block : Block) : Type 0 where
  pub some : 1 ≤ length block.bytes
  pub most : length block.bytes ≤ 65536
  pub end : block.addr + length block.bytes ≤ 2 ^ 32

-- blocks come in any order
abbrev pub next_block : Block → ℕ
next_block block = 0

abbrev pub AreBlocks : List Block → Type 0
AreBlocks blocks = (length blocks ≤ 16) × InTurn IsBlock next_block 0 blocks

-- an exit writes nothing, and only an exit has a code
abbrev pub FitsKind : CallKind → Record → Type 0
FitsKind Exit r = (r.outs ≡ []) × (r.out_blocks ≡ [])
FitsKind Plain r = r.code ≡ 0
FitsKind Emit r = r.code ≡ 0

-- a record, where the numbers of instructions have come to a least one
pub record IsRecord (least : ℕ) (r : Record) : Type 0 where
  pub rising : least ≤ r.icnt
  pub icnt : r.icnt ≤ 10 ^ 15
  pub pc : r.pc < 2 ^ 32
  pub code : r.code < 2 ^ 32
  pub kind : FitsKind r.kind r
  pub ins : AreRegisters r.ins
  pub in_blocks : AreBlocks r.in_blocks
  pub outs : AreRegisters r.outs
  pub out_blocks : AreBlocks r.out_blocks

-- each record is after the one before it
abbrev pub next_record : Record → ℕ
next_record r = r.icnt + 1

-- version 1 stands for little-endian, version 2 has either order
abbrev pub IsVersion : ℕ → Bool → Type 0
IsVersion version big = ((version ≡ 1) × (big ≡ false)) ⊎ (version ≡ 2)

-- a trace that a file can bring
pub record IsTrace (t : Trace) : Type 0 where
  pub file : t.file ≡ true
  pub version : IsVersion t.version t.big
  pub count : length t.records ≤ 1000000
  pub records : InTurn IsRecord next_record 0 t.records

-- what stands for a trace where there is no file
abbrev pub absent_trace : Trace
absent_trace = record { file = false; version = 1; big = false; records = [] }
