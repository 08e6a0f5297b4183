use Rattle.std.specs.Prelude.{◌∷◌}
use Rattle.bpred_unit.specs.History.{LookUp}
use Rattle.sim_refs.proofs.pred_run.predict.Goals as goal

pub returns-clause-stands : goal.returns-clause-stands
returns-clause-stands c = λ config h st.
    c.update.ensures.stands config (LookUp c.args.r.now.pc c.args.r.now.instr ∷ h) (c.lookup-look.ensures.stands config h st)
