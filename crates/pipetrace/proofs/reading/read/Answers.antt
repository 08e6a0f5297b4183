use Rattle.pipetrace.proofs.Finds.{end_read}
use Rattle.pipetrace.proofs.reading.read.Goals as goal

pub returns-in-End : goal.returns-in-End
returns-in-End c =
    end_read c.args.text.now c.in-Ok.lines c.read_lines.new.events.items c.from_vec.result c.in-Ok.last c.in-End.cycles c.in-End.end c.in-Ok.ensures.0 c.in-End.is c.from_vec.ensures
