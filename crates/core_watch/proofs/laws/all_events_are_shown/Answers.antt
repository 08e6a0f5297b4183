use Rattle.core_watch.proofs.Items.{events_of_items}
use Rattle.core_watch.proofs.laws.all_events_are_shown.Goals as goal

pub returns : goal.returns
returns c = events_of_items
