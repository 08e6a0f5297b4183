use Rattle.mem_hier.proofs.Asked.{all_counted}
use Rattle.mem_hier.proofs.laws.caches_count_what_is_asked.Goals as goal

pub returns : goal.returns
returns c = all_counted
