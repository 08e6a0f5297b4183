use Rattle.std.proofs.Common.{◌≡◌, [], replicate}
use Rattle.std.specs.Prelude.{map}
use Rattle.bpred_tables.proofs.Latest.{shown}
use Rattle.bpred_tables.proofs.target_buffer.Btb.new.Given as goal

abbrev pub invariant-loop : goal.invariant-loop
invariant-loop l = map (λ s. map shown s.items) l.empty.items ≡ replicate l.counter []
