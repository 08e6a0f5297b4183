use Rattle.std.proofs.Common.{◌≡◌, sym, subst}
use Rattle.bpred_tables.specs.Updates.{predicted}
use Rattle.bpred_unit.specs.Stands.{scheme_in}
use Rattle.bpred_unit.proofs.directions.DirectionsDirection.predict.Goals as goal

pub returns-in-Fixed : goal.returns-in-Fixed
returns-in-Fixed c = λ updates stands.
    subst (λ d. c.predict.result ≡ predicted (scheme_in d) updates c.args.pc) (sym c.in-Fixed.is) (c.predict.ensures updates tt)
