use Rattle.bpred_tables.proofs.Histories.{counter_le}
use Rattle.bpred_tables.proofs.laws.counters_saturate.Goals as goal

pub returns : goal.returns
returns c = counter_le
