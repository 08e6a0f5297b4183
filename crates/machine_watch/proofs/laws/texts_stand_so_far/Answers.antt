use Rattle.machine_watch.proofs.Texts.{lines_so_far, text_so_far, little_pending}
use Rattle.machine_watch.proofs.laws.texts_stand_so_far.Goals as goal

pub returns-clause-commits : goal.returns-clause-commits
returns-clause-commits c = λ file other before text shown n e. lines_so_far file other before text shown n e

pub returns-clause-ptrace : goal.returns-clause-ptrace
returns-clause-ptrace c = λ file other before text shown n e. text_so_far file other before text shown n e

pub returns-clause-short : goal.returns-clause-short
returns-clause-short c = λ names h. little_pending names h
