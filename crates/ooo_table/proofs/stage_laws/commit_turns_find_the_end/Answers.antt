use Rattle.ooo_table.proofs.Turns.{ends_there}
use Rattle.ooo_table.proofs.stage_laws.commit_turns_find_the_end.Goals as goal

pub returns : goal.returns
returns c = ends_there
