use Rattle.pipetrace.proofs.Watching.{takes_event}
use Rattle.pipetrace.proofs.laws.puts_take_events.Goals as goal

pub returns : goal.returns
returns c = λ start name es v w a b e r taken wrote pends. takes_event start name es v w a b e r taken wrote pends
