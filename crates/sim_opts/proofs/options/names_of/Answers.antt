use Rattle.sim_opts.proofs.Saying.{names_more}
use Rattle.sim_opts.proofs.options.names_of.Goals as goal

pub loop-name-preserved : goal.loop-name-preserved
loop-name-preserved c =
    names_more c.loop-name.copies c.add.new.self c.args.names.now c.loop-name.name-index c.name-item.result c.as_str.result.now c.loop-name-test.true c.name-item.is c.as_str.ensures.value c.loop-name.invariant c.in_ok-add.ensures
