use Rattle.std.proofs.Common.{ap, length, arith, lit<}
use Rattle.pisa_isa.specs.Numbers.{name_fits}
use Rattle.pisa_isa.proofs.classes.name.Goals as goal

pub push_str-requires : goal.push_str-requires
push_str-requires c = (lit< tt, omega (arith, name_fits c.args.op, ap length c.name_of.ensures, ap length c.new-text.ensures))
