-- The state of the functional machine.
use Rattle.std.specs.Prelude.{◌≡◌, ◌+◌, ◌<◌, ◌≤◌, ◌⊎◌, ℕ, List, [], ◌∷◌, length, Option, None, nat_eq, slice_index, if◌then◌else◌}
use Rattle.ecoff_load.specs.declared.image.Text.{Text}
use Rattle.ecoff_load.specs.declared.image.Part.{Part}
use Rattle.ecoff_load.specs.declared.image.Image.{Image}
use Rattle.ecoff_load.specs.Start.{block}
use Rattle.pisa_step.specs.Reader.{Reader, bytes_with}
use Rattle.pisa_step.specs.declared.changes.TextRange.{TextRange}
use Rattle.paged_mem.specs.Memory.{Pages, byte_of, is_reserved, IsRangeReserved}

pub record State : Type 0 where
  pub pc : ℕ
  -- what the registers, HI, LO and memory read
  pub reads : Reader
  -- how many instructions were done
  pub icnt : ℕ
  -- how many recorded calls were used
  pub used : ℕ
  -- the exit code, where the program has exited
  pub ended : Option ℕ
  pub text : Text

-- what the program holds of a state, with the reserved pages of memory
pub record Storage : Type 0 where
  pub pc : ℕ
  -- registers 1 to 31
  pub regs : List ℕ
  pub hi : ℕ
  pub lo : ℕ
  pub pages : Pages
  pub icnt : ℕ
  pub used : ℕ
  pub ended : Option ℕ
  pub text : Text

-- what is read of it; register 0 reads 0
abbrev pub reader_of : Storage → Reader
reader_of m = record { regs = slice_index (0 ∷ m.regs); hi = m.hi; lo = m.lo; bytes = byte_of m.pages; big = m.text.big }

abbrev pub state_of : Storage → State
state_of m = record { pc = m.pc; reads = reader_of m; icnt = m.icnt; used = m.used; ended = m.ended; text = m.text }

-- the state of exactly these values; the byte order is the text's
abbrev pub state_with : Text → Pages → List ℕ → ℕ → ℕ → ℕ → ℕ → ℕ → Option ℕ → State
state_with text pages regs hi lo pc icnt used ended = record {
  pc = pc;
  reads = record { regs = slice_index regs; hi = hi; lo = lo; bytes = byte_of pages; big = text.big };
  icnt = icnt;
  used = used;
  ended = ended;
  text = text;
}

-- each byte of a text stands at its place in memory
abbrev pub HoldsText : (ℕ → ℕ) → Text → Type 0
HoldsText memory text = (k : ℕ) → k < length text.bytes → memory (text.start + k) ≡ slice_index text.bytes k

-- the addresses of the text
abbrev pub range_of : Text → TextRange
range_of text = record { start = text.start; end = text.start + length text.bytes }

-- no address of a range lies in text
abbrev pub IsOutside : Text → ℕ → ℕ → Type 0
IsOutside text addr len = (a : ℕ) → addr ≤ a → a < addr + len → (a < text.start) ⊎ (text.start + length text.bytes ≤ a)

-- a range has room for a write: it is reserved and meets no text
pub record HasRoom (m : Storage) (addr len : ℕ) : Type 0 where
  pub reserved : IsRangeReserved m.pages addr len
  pub outside : IsOutside m.text addr len

-- beside what is read of them two machines are the same: pc, counts, exit code, text, reserved pages
pub record Agrees (a b : Storage) : Type 0 where
  pub pc : b.pc ≡ a.pc
  pub icnt : b.icnt ≡ a.icnt
  pub used : b.used ≡ a.used
  pub ended : b.ended ≡ a.ended
  pub text : b.text ≡ a.text
  pub reserved : is_reserved b.pages ≡ is_reserved a.pages

-- ---- the start

-- bytes under parts that are laid over them, each over the ones before it
abbrev pub laid : (ℕ → ℕ) → List Part → ℕ → ℕ
laid bytes [] = bytes
laid bytes (p ∷ ps) = laid (bytes_with bytes p.addr p.bytes) ps

-- the memory of a program: its text, its parts, and all else 0
abbrev pub image_memory : Image → ℕ → ℕ
image_memory image = laid (bytes_with (λ _. 0) image.text.start image.text.bytes) image.parts

-- the stack pointer is set, every other register is 0
abbrev pub start_regs : ℕ → ℕ
start_regs r = if nat_eq r 29 then 0x7fff8000 else 0

-- the state in which a program starts with its arguments: at its entry, with the start block in memory
unfoldable pub start_state : Image → List (List ℕ) → State
start_state image args = record {
  pc = image.entry;
  reads = record {
    regs = start_regs;
    hi = 0;
    lo = 0;
    bytes = bytes_with (image_memory image) 0x7fff8000 (block image.text.big args);
    big = image.text.big;
  };
  icnt = 0;
  used = 0;
  ended = None;
  text = image.text;
}

-- the pages of all parts that bring bytes are reserved
abbrev pub ArePartsReserved : Pages → List Part → Type 0
ArePartsReserved pages [] = Unit {0}
ArePartsReserved pages (p ∷ ps) = IsRangeReserved pages p.addr (length p.bytes) × ArePartsReserved pages ps

-- the pages that a program has from its start on
pub record IsLaidOut (m : Storage) (image : Image) (args : List (List ℕ)) : Type 0 where
  pub text : IsRangeReserved m.pages image.text.start (length image.text.bytes)
  pub parts : ArePartsReserved m.pages image.parts
  pub block : IsRangeReserved m.pages 0x7fff8000 (length (block image.text.big args))
