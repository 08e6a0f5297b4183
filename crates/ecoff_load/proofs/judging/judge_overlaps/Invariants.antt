use Rattle.ecoff_load.proofs.Judged.{Beside}
use Rattle.ecoff_load.proofs.judging.judge_overlaps.Given as goal

abbrev pub invariant-loop : goal.invariant-loop
invariant-loop l = Beside l.big l.bytes l.count l.counter l.at l.text
