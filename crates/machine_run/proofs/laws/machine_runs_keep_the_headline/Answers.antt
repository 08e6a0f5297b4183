use Rattle.cut_run.specs.Plan.{to_do}
use Rattle.shown_run.specs.Headline.{KeepsHeadline}
use Rattle.machine_run.specs.Plan.{plainly, machine_given, machine_finish}
use Rattle.machine_run.proofs.Starts.{is_sound}
use Rattle.machine_run.proofs.Commits.{front_of}
use Rattle.machine_run.proofs.Ends.{all_of}
use Rattle.machine_run.proofs.Texts.{commits_written, pipetrace_written, outputs_written}
use Rattle.cut_run.specs.Plan.{timed_start}
use Rattle.machine_run.proofs.laws.machine_runs_keep_the_headline.Goals as goal

pub returns : goal.returns
returns c = λ config trace s asked allowed.
    let sound = is_sound config trace (timed_start trace s (plainly asked)) allowed in
    let machine : KeepsHeadline (machine_given config trace s asked) (machine_finish config trace s asked) (to_do trace s (plainly asked)) asked.cycles =
    c.runs_keep_the_headline.ensures (machine_given config trace s asked) (to_do trace s (plainly asked)) asked.cycles sound in
    record {
      commit_text = commits_written config trace s asked machine c.runs_write_both_texts.ensures.commits;
      output = outputs_written config trace s asked machine c.skips_put_out_their_output.ensures c.runs_put_out_their_output.ensures.output;
      front = front_of config trace s asked machine;
      whole = all_of config trace s asked machine c.runs_end_where_they_first_can.ensures c.first_ends_are_of_both_runs.ensures sound;
      pipetrace = pipetrace_written config trace s asked machine c.runs_write_both_texts.ensures.ptrace;
      machine = machine;
    }
