use Rattle.restarted_run.proofs.Read.{read_trace, read_image}
use Rattle.restarted_run.proofs.laws.what_is_read_is_bytes.Goals as goal

pub returns-clause-trace : goal.returns-clause-trace
returns-clause-trace c = read_trace

pub returns-clause-image : goal.returns-clause-image
returns-clause-image c = read_image
