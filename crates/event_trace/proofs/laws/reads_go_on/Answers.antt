use Rattle.event_trace.proofs.WorldLawProofs.{reads_on}
use Rattle.event_trace.proofs.laws.reads_go_on.Goals as goal

pub returns : goal.returns
returns c = λ w icnt pc regs mem e. reads_on w icnt pc regs mem e
