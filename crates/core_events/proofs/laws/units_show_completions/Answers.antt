use Rattle.core_events.proofs.Completions.{unit_completes}
use Rattle.core_events.proofs.laws.units_show_completions.Goals as goal

pub returns : goal.returns
returns c = unit_completes
