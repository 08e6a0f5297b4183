use Rattle.ecoff_load.proofs.Copied.{ToCopy}
use Rattle.ecoff_load.proofs.reading.copy_parts.Given as goal

abbrev pub invariant-loop : goal.invariant-loop
invariant-loop l = ToCopy l.big l.bytes l.count l.counter l.at l.parts.items
