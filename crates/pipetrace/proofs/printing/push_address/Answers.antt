use Rattle.std.specs.Prelude.{codes}
use Rattle.ss_base.specs.Text.{hex8}
use Rattle.pipetrace.proofs.Parts.{with_last}
use Rattle.pipetrace.proofs.printing.push_address.Goals as goal

pub returns-clause-ok : goal.returns-clause-ok
returns-clause-ok c = with_last c.push_hex.result c.args.into.now.items c.push_bytes.new.into.items c.push_hex.new.into.items (codes " ") (hex8 c.args.address) c.in_ok-push_bytes.ensures.ok c.push_hex.ensures.ok
