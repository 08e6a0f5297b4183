use Rattle.journal.specs.Laws.{cut_none}
use Rattle.machine_watch.proofs.writing.write_end.Goals as goal

pub returns-then-is_err-clause-writes : goal.returns-then-is_err-clause-writes
returns-then-is_err-clause-writes g c = cut_none _ _ _
