use Rattle.sim_safe.proofs.TextStays.{start_holds, text_kept, after_holds}
use Rattle.sim_safe.proofs.laws.text_stays.Goals as goal

pub returns-clause-start : goal.returns-clause-start
returns-clause-start c = start_holds

pub returns-clause-same : goal.returns-clause-same
returns-clause-same c = text_kept

pub returns-clause-after : goal.returns-clause-after
returns-clause-after c = after_holds
