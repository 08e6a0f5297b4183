use Rattle.journal.specs.Laws.{cut_none}
use Rattle.machine_watch.proofs.writing.write_event.Goals as goal

pub returns-in-Err : goal.returns-in-Err
returns-in-Err g c = cut_none _ _ _
