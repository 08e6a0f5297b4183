use Rattle.ooo_table.proofs.TwoLoadsInFlight.{shows}
use Rattle.ooo_table.proofs.worked_laws.two_loads_in_flight.Goals as goal

pub returns : goal.returns
returns c = shows
