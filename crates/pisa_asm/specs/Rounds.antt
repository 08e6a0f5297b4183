-- The source of one instruction, and its image.
use Rattle.std.specs.Prelude.{◌%◌, ◌^◌, ◌++◌, ℕ, List, [], ◌∷◌, codes, false}
use Rattle.std.specs.Int.{w32, to_le_bytes}
use Rattle.ecoff_load.specs.declared.image.Image.{Image}
use Rattle.pisa_isa.specs.declared.instr.Instr.{Instr}
use Rattle.pisa_isa.specs.Coding.{number_of, second_word}
use Rattle.pisa_asm.specs.Printed.{instruction_text, target_text}

-- a line that opens the text at pc, and the line that is printed for an instruction
abbrev pub source_of_one : Instr → ℕ → List ℕ
source_of_one i pc = (codes ".text " ++ target_text pc) ++ 10 ∷ instruction_text i pc

-- an image with the two words of an instruction alone
abbrev pub image_of_one : Instr → ℕ → Image
image_of_one i pc = record {
  entry = pc;
  text = record { start = pc; big = false; bytes = to_le_bytes w32 (number_of i.op) ++ to_le_bytes w32 (second_word i % 2 ^ 32) };
  parts = [];
}
