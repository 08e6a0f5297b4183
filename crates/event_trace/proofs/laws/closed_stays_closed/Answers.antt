use Rattle.event_trace.proofs.WorldLawProofs.{keeps}
use Rattle.event_trace.proofs.laws.closed_stays_closed.Goals as goal

pub returns : goal.returns
returns c = λ w icnt pc regs mem. keeps w icnt pc regs mem
