-- The listing of a text: a line for each of its instructions, and the pieces in which it is put.
use Rattle.std.specs.Prelude.{◌+◌, ◌-◌, ◌*◌, ◌/◌, ◌++◌, ℕ, zero, suc, List, [], ◌∷◌, length, min, codes, Option, Some, None}
use Rattle.ss_base.specs.Text.{hex8}
use Rattle.ecoff_load.specs.declared.image.Text.{Text}
use Rattle.ecoff_load.specs.Fetch.{fetch}
use Rattle.pisa_isa.specs.declared.instr.Instr.{Instr}
use Rattle.pisa_isa.specs.Coding.{decoded}
use Rattle.pisa_asm.specs.Printed.{instruction_text}
use Rattle.journal.specs.Write.{Journal, Output}

-- ---- lines

-- two words at pc: the instruction that they code, or both of them where they code none
abbrev pub code_text : Option Instr → ℕ → ℕ → ℕ → List ℕ
code_text (Some i) pc first second = instruction_text i pc
code_text None pc first second = codes ".illegal " ++ hex8 first ++ codes " " ++ hex8 second

-- the line of the two words at pc; there is none where no instruction is whole
abbrev pub line_of : ℕ → Option (ℕ × ℕ) → List ℕ
line_of pc None = []
line_of pc (Some words) = hex8 pc ++ codes " " ++ code_text (decoded words.0 words.1) pc words.0 words.1 ++ codes "\n"

-- where the instruction with this number stands; the first one has number 0
abbrev pub place_of : Text → ℕ → ℕ
place_of text k = text.start + 8 * k

-- its line
abbrev pub line_at : Text → ℕ → List ℕ
line_at text k = line_of (place_of text k) (fetch text (place_of text k))

-- the lines of n instructions, from the one with this number on
unfoldable pub lines_from : Text → ℕ → ℕ → List ℕ
lines_from text from zero = []
lines_from text from (suc n) = lines_from text from n ++ line_at text (from + n)

-- how many whole instructions there are
abbrev pub instruction_count : Text → ℕ
instruction_count text = length text.bytes / 8

-- the lines of all
abbrev pub listing_of : Text → List ℕ
listing_of text = lines_from text 0 (instruction_count text)

-- ---- pieces

-- a piece has this many lines, and the last one may have fewer
abbrev pub piece_lines : ℕ
piece_lines = 1024

-- the number of the first line behind the first k pieces
abbrev pub lines_in : Text → ℕ → ℕ
lines_in text k = min (instruction_count text) (piece_lines * k)

-- the piece with this number
abbrev pub piece_of : Text → ℕ → List ℕ
piece_of text k = lines_from text (piece_lines * k) (lines_in text (k + 1) - piece_lines * k)

-- the first k pieces are put, one after the other
unfoldable pub pieces_put : Text → ℕ → Journal
pieces_put text zero = []
pieces_put text (suc k) = Output (piece_of text k) ∷ pieces_put text k

-- all of them
abbrev pub listing_writes : Text → Journal
listing_writes text = pieces_put text ((instruction_count text + (piece_lines - 1)) / piece_lines)
