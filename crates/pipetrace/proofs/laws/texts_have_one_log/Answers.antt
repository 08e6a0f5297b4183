use Rattle.pipetrace.proofs.OneReading.{one_log}
use Rattle.pipetrace.proofs.laws.texts_have_one_log.Goals as goal

pub returns : goal.returns
returns c = one_log
