use Rattle.std.proofs.Common.{◌≡◌, ◌≤◌, ◌-◌, map, drop}
use Rattle.std.specs.Prelude.{string_bytes}
use Rattle.sim_opts.specs.Words.{names_fault, further_on}
use Rattle.sim_opts.proofs.words.names_fault.Given as goal

abbrev pub invariant-loop-place : goal.invariant-loop-place
invariant-loop-place l = (further_on l.place (names_fault (l.fn.names - l.place) (drop l.place (map string_bytes l.fn.operands))) ≡ names_fault l.fn.names (map string_bytes l.fn.operands)) × (l.place ≤ l.fn.names)
