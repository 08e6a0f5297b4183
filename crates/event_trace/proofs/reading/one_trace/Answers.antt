use Rattle.event_trace.proofs.WholeTrace.{same_trace}
use Rattle.event_trace.proofs.reading.one_trace.Goals as goal

pub returns : goal.returns
returns c = same_trace
