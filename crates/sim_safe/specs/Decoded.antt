-- The instructions of a text, in order.
use Rattle.std.specs.Prelude.{◌≡◌, ◌+◌, ◌*◌, ◌/◌, ◌≤◌, ℕ, List, length, Option, Some, None, slice_get}
use Rattle.ecoff_load.specs.declared.image.Text.{Text}
use Rattle.ecoff_load.specs.Object.{IsText}
use Rattle.ecoff_load.specs.Fetch.{fetch}
use Rattle.pisa_isa.specs.declared.instr.Instr.{Instr}
use Rattle.pisa_isa.specs.Coding.{decoded}

-- the instruction that fetched words code, if there are such words and they code one
abbrev pub coded_by : Option (ℕ × ℕ) → Option Instr
coded_by None = None
coded_by (Some words) = decoded words.0 words.1

-- these are the first instructions of a text, or all, or none: entry k is what the words of its k-th
-- eight bytes code
pub record AreDecoded (text : Text) (instrs : List (Option Instr)) : Type 0 where
  pub count : length instrs ≤ length text.bytes / 8
  pub each : (k : ℕ) (x : Option Instr) → slice_get instrs k ≡ Some x → x ≡ coded_by (fetch text (text.start + 8 * k))

-- a text that an object can bring, with instructions that were decoded of it
pub record Holds (text : Text) (instrs : List (Option Instr)) : Type 0 where
  pub text_fits : IsText text
  pub decoded_of : AreDecoded text instrs
