use Rattle.std.proofs.Common.{refl}
use Rattle.machine_agreement.proofs.pairs.plain.Goals as goal

pub new-requires-3-clause-allowed : goal.new-requires-3-clause-allowed
new-requires-3-clause-allowed c = c.if-not-is_allowed.ensures.0 refl
