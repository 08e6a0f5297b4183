use Rattle.std.proofs.Common.{◌≡◌, drop, false}
use Rattle.pisa_asm.specs.Statements.{string_from}
use Rattle.pisa_asm.proofs.Strings.{with_front}
use Rattle.pisa_asm.proofs.statements.string_from.Given as goal

abbrev pub invariant-loop-i : goal.invariant-loop-i
invariant-loop-i l = with_front l.bytes.items (string_from l.behind (drop l.i l.text)) ≡ string_from false l.text
