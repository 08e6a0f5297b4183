use Rattle.restarted_commands.proofs.Below.{Below}
use Rattle.restarted_commands.proofs.Pieces.{pieces_joined}
use Rattle.restarted_commands.proofs.laws.commands_in_pieces_write_the_whole.Goals as goal

pub returns : goal.returns
returns c =
    let below : Below = record {
      output = c.cut_runs_write_the_uncut_text.ensures.output;
      text = c.cut_runs_write_the_uncut_text.ensures.text;
      keeps = c.steps_keep.ensures;
      same = c.text_stays.ensures.same;
      trace_bytes = c.what_is_read_is_bytes.ensures.trace;
      image_bytes = c.what_is_read_is_bytes.ensures.image;
      within_after = c.states_stay_within.ensures.after;
      within_start = c.states_stay_within.ensures.start;
      program_after = c.states_stay_within.ensures.program;
      program_start = c.states_stay_within.ensures.loaded;
      within_restored = c.restored_states_are_within.ensures.within;
      program_restored = c.restored_states_are_within.ensures.program;
      holds = c.points_hold_where_they_were_taken.ensures;
      left = c.restarted_runs_are_the_rest.ensures.left;
      ended = c.restarted_runs_are_the_rest.ensures.ended;
    } in
    pieces_joined below
