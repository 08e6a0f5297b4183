use Rattle.std.proofs.Common.{◌≡◌, ◌+◌, drop}
use Rattle.pisa_asm.specs.declared.letters.Quoting.TheVariants.{Outside}
use Rattle.pisa_asm.specs.Letters.{code_length}
use Rattle.pisa_asm.proofs.letters.code_length.Given as goal

abbrev pub invariant-loop-i : goal.invariant-loop-i
invariant-loop-i l = l.i + code_length l.state (drop l.i l.line) ≡ code_length Outside l.line
