use Rattle.ooo_table.proofs.Shown.{events_stand}
use Rattle.ooo_table.proofs.stage_laws.events_stand.Goals as goal

pub returns : goal.returns
returns c = events_stand
