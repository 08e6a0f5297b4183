use Rattle.restarted_commands.proofs.Lines.{found_of, pieces_of}
use Rattle.restarted_commands.proofs.laws.command_lines_in_pieces_write_the_whole.Goals as goal

pub returns : goal.returns
returns c = λ whole front rest files later w f r x y z k p.
    c.commands_in_pieces_write_the_whole.ensures w f r (found_of w files) (found_of r later) x y z k (pieces_of whole front rest files later w f r x y z k p)
