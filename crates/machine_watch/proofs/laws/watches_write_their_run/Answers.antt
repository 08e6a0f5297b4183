use Rattle.core_watch.specs.Shown.{behind}
use Rattle.std.specs.Prelude.{[]}
use Rattle.machine_watch.specs.Watch.{nothing_pending}
use Rattle.machine_watch.specs.Laws.{run_finished, run_cut_by_kept}
use Rattle.machine_watch.proofs.laws.watches_write_their_run.Goals as goal

pub returns-clause-whole : goal.returns-clause-whole
returns-clause-whole g c = λ names a b d now shown cycles end r t w. run_finished g.O.Outside.view a b d names nothing_pending now (behind shown []) cycles end r t w

pub returns-clause-cut : goal.returns-clause-cut
returns-clause-cut g c = λ names a b shown rest cycles end kept other k. run_cut_by_kept g.O.Outside.view a b names shown rest cycles end kept other k
