use Rattle.std.proofs.Common.{List, subst}
use Rattle.ecoff_load.specs.declared.image.Part.{Part}
use Rattle.sim_safe.specs.State.{ArePartsReserved}
use Rattle.sim_safe.proofs.Starting.{parts_kept}
use Rattle.sim_safe.proofs.start.start_memory.Goals as goal

pub returns-clause-parts : goal.returns-clause-parts
returns-clause-parts c =
    parts_kept c.put_parts.new.mem c.put-2.new.mem c.args.image.now.parts c.in_ok-put-2.ensures.kept
    (subst (λ (parts : List Part). ArePartsReserved c.put_parts.new.mem parts) c.as_slice-2.ensures c.in_ok-put_parts.ensures.held)
