use Rattle.pipetrace.proofs.OneReading.{one_first_bad}
use Rattle.pipetrace.proofs.laws.bytes_have_one_first_bad_line.Goals as goal

pub returns : goal.returns
returns c = one_first_bad
