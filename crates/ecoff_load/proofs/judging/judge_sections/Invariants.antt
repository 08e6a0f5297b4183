use Rattle.ecoff_load.proofs.Judged.{Left}
use Rattle.ecoff_load.proofs.judging.judge_sections.Given as goal

abbrev pub invariant-loop : goal.invariant-loop
invariant-loop l = Left l.big l.bytes l.count l.counter l.at l.text
