-- Which addresses of a text hold an instruction, and its two words.
use Rattle.std.specs.Prelude.{◌≡◌, ◌+◌, ◌-◌, ◌*◌, ◌%◌, ◌≤◌, ℕ, length, Option, Some, None, nat_le, nat_eq, if◌then◌else◌}
use Rattle.ecoff_load.specs.Words.{word_in}
use Rattle.ecoff_load.specs.declared.image.Text.{Text}

-- an instruction stands at this address: the k-th of the text, whole
pub record IsInstruction (text : Text) (pc : ℕ) : Type 0 where
  pub place : (k : ℕ) × (pc ≡ text.start + 8 * k)
  pub whole : pc + 8 ≤ text.start + length text.bytes

-- the two words of the instruction at an address
abbrev pub fetch : Text → ℕ → Option (ℕ × ℕ)
fetch text pc =
    if nat_le text.start pc then
    if nat_eq ((pc - text.start) % 8) 0 then
    if nat_le (pc + 8) (text.start + length text.bytes) then
    Some (word_in text.big text.bytes (pc - text.start), word_in text.big text.bytes (pc - text.start + 4))
    else None
    else None
    else None
