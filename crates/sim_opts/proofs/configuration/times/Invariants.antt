use Rattle.std.proofs.Common.{◌≡◌, ◌≤◌, take}
use Rattle.sim_opts.specs.Lines.{times}
use Rattle.sim_opts.proofs.configuration.times.Given as goal

abbrev pub invariant-loop-other : goal.invariant-loop-other
invariant-loop-other l = (l.times ≡ times l.fn.number (take l.other-index l.stood)) × (l.times ≤ l.other-index)
