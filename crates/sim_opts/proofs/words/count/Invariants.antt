use Rattle.std.proofs.Common.{◌≡◌, ◌≤◌, map, take}
use Rattle.sim_opts.specs.Settings.{count}
use Rattle.sim_opts.specs.Kept.{setting_in}
use Rattle.sim_opts.proofs.words.count.Given as goal

abbrev pub invariant-loop-setting : goal.invariant-loop-setting
invariant-loop-setting l = (l.times ≡ count l.fn.number (map setting_in (take l.setting-index l.settings))) × (l.times ≤ l.setting-index)
