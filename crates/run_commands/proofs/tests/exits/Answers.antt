use Rattle.std.specs.Prelude.{map, string_bytes}
use Rattle.sim_opts.proofs.Starts.{said_starts, request_starts}
use Rattle.run_commands.proofs.tests.exits.Goals as goal

pub sim_safe-answer-requires : goal.sim_safe-answer-requires
sim_safe-answer-requires c =
    let start = said_starts (map string_bytes c.deref.result.now) c.in-Ok.options c.in-Ok.ensures in
    rw c.in-Ok-SimSafe.field-0-is at (request_starts c.len.result c.in-Ok.options c.in-Ok-SimSafe.field-0 c.in-Ok-SimSafe.ensures start)

pub record-answer-requires : goal.record-answer-requires
record-answer-requires c =
    let start = said_starts (map string_bytes c.deref.result.now) c.in-Ok.options c.in-Ok.ensures in
    rw c.in-Ok-Record.field-0-is at (request_starts c.len.result c.in-Ok.options c.in-Ok-Record.field-0 c.in-Ok-Record.ensures start)
