use Rattle.std.proofs.Common.{◌≡◌, ◌≤◌, length, map, drop}
use Rattle.std.specs.Prelude.{string_bytes}
use Rattle.sim_opts.specs.Words.{values_fault, further_on}
use Rattle.sim_opts.proofs.words.values_fault.Given as goal

abbrev pub invariant-loop-place : goal.invariant-loop-place
invariant-loop-place l = (further_on l.place (values_fault (drop l.place l.slots) (drop l.place (map string_bytes l.fn.words))) ≡ values_fault l.fn.slots (map string_bytes l.fn.words)) × (l.place ≤ length l.fn.words)
