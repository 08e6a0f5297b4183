use Rattle.std.proofs.Common.{refl, map}
use Rattle.std.specs.Prelude.{string_bytes}
use Rattle.sim_opts.specs.Options.{said_in}
use Rattle.sim_opts.proofs.Saying.{said_all}
use Rattle.sim_opts.proofs.options.options_of.Goals as goal

pub returns : goal.returns
returns c =
    said_all c.args.reading.tool c.args.reading.settings.items c.as_slice.result.now c.as_slice-2.result.now (map string_bytes c.args.reading.operands.now)
    (said_in c.new-options.result) (said_in (record (c.new-options.result) { given = c.given_in-options.result })) (said_in c.set_all.new.self) (said_in c.set_behind.new.self) c.given_in-options.result.items
    c.new-options.ensures refl c.as_slice.ensures.value c.given_in-options.ensures c.as_slice-2.ensures.value c.in_ok-set_all.ensures c.in_ok-set_behind.ensures
