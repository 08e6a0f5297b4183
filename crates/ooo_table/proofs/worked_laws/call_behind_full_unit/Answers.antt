use Rattle.ooo_table.proofs.CallBehindFullUnit.{shows}
use Rattle.ooo_table.proofs.worked_laws.call_behind_full_unit.Goals as goal

pub returns : goal.returns
returns c = shows
