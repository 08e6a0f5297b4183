use Rattle.std.proofs.Common.{◌≡◌, map, take}
use Rattle.sim_opts.specs.Options.{said_in, with_settings}
use Rattle.sim_opts.specs.Kept.{setting_in}
use Rattle.sim_opts.proofs.options.Options.set_all.Given as goal

abbrev pub invariant-loop-setting : goal.invariant-loop-setting
invariant-loop-setting l = said_in l.self ≡ with_settings (said_in l.fn.self) (map setting_in (take l.setting-index l.settings))
