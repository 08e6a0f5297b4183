use Rattle.std.proofs.Common.{ap₂, ◌∙◌}
use Rattle.sim_opts.specs.Options.{said_in, said_with}
use Rattle.sim_opts.proofs.Saying.{set_more}
use Rattle.sim_opts.proofs.options.Options.set_all.Goals as goal

pub loop-setting-preserved : goal.loop-setting-preserved
loop-setting-preserved c =
    set_more (said_in c.args.self.now) (said_in c.loop-setting.self) (said_in c.set.new.self) c.args.settings.now c.loop-setting.setting-index c.setting-item.result c.loop-setting-test.true c.setting-item.is c.loop-setting.invariant
    (c.in_ok-set.ensures ∙ ap₂ (λ w n. said_with c.setting-item.result.option.number w n (said_in c.loop-setting.self)) c.first_value.ensures c.last_number.ensures)
