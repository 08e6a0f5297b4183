-- the calls from the next number on are among those from this number on
use Rattle.std.proofs.Common.{arith}
use Rattle.ss_base.proofs.memory.Calls.fails.Goals as goal

pub returns-else-failed-clause-calm : goal.returns-else-failed-clause-calm
returns-else-failed-clause-calm c = λ h. record { none = λ n le has. h.none n (omega arith) has }
