use Rattle.std.proofs.Common.{arith}
use Rattle.run_commands.proofs.Runs.{start_icnt}
use Rattle.run_commands.proofs.judging.judge_start.Goals as goal

pub returns-in-Ok-clause-count : goal.returns-in-Ok-clause-count
returns-in-Ok-clause-count c = omega (arith, start_icnt _ _ _ c.in-Ok.ensures.state)
