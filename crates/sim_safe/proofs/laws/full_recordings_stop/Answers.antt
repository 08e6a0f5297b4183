use Rattle.sim_safe.specs.Recording.{serve}
use Rattle.sim_safe.proofs.Replays.{full_recording_stops}
use Rattle.sim_safe.proofs.laws.full_recordings_stop.Goals as goal

pub returns : goal.returns
returns c = λ n w t u s file full. full_recording_stops serve n w t u s file full
