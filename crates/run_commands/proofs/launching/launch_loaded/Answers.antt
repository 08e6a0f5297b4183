use Rattle.std.specs.Prelude.{map, string_bytes}
use Rattle.run_commands.proofs.Launches.{loaded_ready, loaded_refused}
use Rattle.run_commands.proofs.launching.launch_loaded.Goals as goal

pub returns-in-Ok-clause-launches : goal.returns-in-Ok-clause-launches
returns-in-Ok-clause-launches g c =
    loaded_ready g.O.Outside.view c.args.outside.now c.args.object c.args.point c.args.calls (map string_bytes c.args.request.args.now) c.in-Ok.program c.in-Ok.ensures.judged

pub returns-in-Err-clause-launches : goal.returns-in-Err-clause-launches
returns-in-Err-clause-launches g c =
    loaded_refused g.O.Outside.view c.args.outside.now c.refuse.new.outside c.args.object c.args.point c.args.calls (map string_bytes c.args.request.args.now) c.in-Err.refusal c.refuse.result c.refused.result c.in-Err.ensures.judged c.refused.ensures c.refuse.ensures
