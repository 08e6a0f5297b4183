use Rattle.std.proofs.Common.{◌≡◌, ◌≤◌, length, map, drop}
use Rattle.std.specs.Prelude.{string_bytes}
use Rattle.sim_opts.specs.Configuration.{some_value}
use Rattle.sim_opts.proofs.configuration.some_value.Given as goal

abbrev pub invariant-loop-place : goal.invariant-loop-place
invariant-loop-place l = (some_value l.fn.reason (drop l.place l.slots) (drop l.place (map string_bytes l.fn.values)) ≡ some_value l.fn.reason l.fn.slots (map string_bytes l.fn.values)) × (l.place ≤ length l.fn.values)
