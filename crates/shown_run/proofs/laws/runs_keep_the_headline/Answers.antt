use Rattle.shown_run.proofs.Headline.{keeps_headline}
use Rattle.shown_run.proofs.laws.runs_keep_the_headline.Goals as goal

pub returns : goal.returns
returns c = λ g most cycles sound. keeps_headline g sound most cycles
