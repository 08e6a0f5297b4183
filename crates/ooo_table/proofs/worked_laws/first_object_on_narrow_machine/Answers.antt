use Rattle.ooo_table.proofs.FirstObjectOnNarrowMachine.{shows}
use Rattle.ooo_table.proofs.worked_laws.first_object_on_narrow_machine.Goals as goal

pub returns : goal.returns
returns c = shows
