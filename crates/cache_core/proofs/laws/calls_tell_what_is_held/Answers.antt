use Rattle.cache_core.proofs.Replays.{held_stands}
use Rattle.cache_core.proofs.laws.calls_tell_what_is_held.Goals as goal

pub returns : goal.returns
returns c = held_stands
