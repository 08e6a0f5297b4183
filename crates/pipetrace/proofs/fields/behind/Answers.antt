use Rattle.pipetrace.proofs.Words.{strips}
use Rattle.pipetrace.proofs.fields.behind.Goals as goal

pub returns : goal.returns
returns c = strips c.args.bytes.now c.args.word.now c.strip_prefix.result c.strip_prefix.ensures.cases
