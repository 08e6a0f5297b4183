use Rattle.ss_base.specs.Text.{hex8}
use Rattle.sim_safe.proofs.Parts.{with_last}
use Rattle.sim_safe.proofs.commit.push_at.Goals as goal

pub returns-clause-ok : goal.returns-clause-ok
returns-clause-ok c = with_last c.push_hex.result c.args.into.now.items c.push_bytes.new.into.items c.push_hex.new.into.items c.args.word.now (hex8 c.args.value) c.in_ok-push_bytes.ensures.ok c.push_hex.ensures.ok
