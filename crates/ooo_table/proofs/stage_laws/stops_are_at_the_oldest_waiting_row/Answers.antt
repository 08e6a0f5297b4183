use Rattle.ooo_table.proofs.Stops.{stops_there}
use Rattle.ooo_table.proofs.stage_laws.stops_are_at_the_oldest_waiting_row.Goals as goal

pub returns : goal.returns
returns c = stops_there
