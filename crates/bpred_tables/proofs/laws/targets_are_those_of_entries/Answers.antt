use Rattle.bpred_tables.specs.Updates.{place_in}
use Rattle.bpred_tables.specs.Buffer.{entries}
use Rattle.bpred_tables.proofs.Latest.{found_none, none_found, found_entry}
use Rattle.bpred_tables.proofs.laws.targets_are_those_of_entries.Goals as goal

pub returns-clause-none : goal.returns-clause-none
returns-clause-none c = λ sets ways pc updates.
    let es = entries sets ways (place_in sets pc) updates in (found_none pc es, none_found pc es)

pub returns-clause-some : goal.returns-clause-some
returns-clause-some c = λ sets ways updates e held. found_entry sets ways updates e held
