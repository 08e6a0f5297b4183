use Rattle.bpred_tables.proofs.Latest.{entries_apart}
use Rattle.bpred_tables.proofs.laws.sets_keep_their_ways.Goals as goal

pub returns-clause-different : goal.returns-clause-different
returns-clause-different c = λ sets ways k updates. entries_apart sets ways k updates
