use Rattle.std.proofs.Common.{sym}
use Rattle.checkpoint.proofs.Memory.{is_there}
use Rattle.checkpoint.proofs.taking.bytes_of.Goals as goal

pub returns-in-None-clause-whole : goal.returns-in-None-clause-whole
returns-in-None-clause-whole c = absurd (is_there c.args.mem.now c.args.number c.requires (sym c.in-None.ensures.held))

pub returns-in-None-clause-bytes : goal.returns-in-None-clause-bytes
returns-in-None-clause-bytes c = absurd (is_there c.args.mem.now c.args.number c.requires (sym c.in-None.ensures.held))
