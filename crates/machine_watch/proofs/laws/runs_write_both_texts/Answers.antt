use Rattle.std.specs.Prelude.{◌++◌, List, Some, None}
use Rattle.std.proofs.Common.{◌∙◌, ap}
use Rattle.pipetrace.specs.Text.{end_line, events_text}
use Rattle.ooo_table.specs.declared.event.Event.{Event}
use Rattle.machine_watch.proofs.Texts.{run_lines, run_ptrace, run_other}
use Rattle.machine_watch.proofs.laws.runs_write_both_texts.Goals as goal

pub returns-clause-commits : goal.returns-clause-commits
returns-clause-commits c = λ file other before text shown cycles end n e. run_lines file other before text shown cycles end n e

pub returns-clause-ptrace : goal.returns-clause-ptrace
returns-clause-ptrace c = λ file other before text shown log n e same.
    run_ptrace file other before text shown log.cycles log.end n e
    ∙ ap (λ (es : List Event). Some (text ++ (events_text None es ++ end_line log.cycles log.end))) same

pub returns-clause-others : goal.returns-clause-others
returns-clause-others c = λ file names before shown cycles end n m. run_other file names before shown cycles end n m
