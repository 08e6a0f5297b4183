use Rattle.std.proofs.Common.{◌≡◌, ◌∙◌, ap}
use Rattle.bpred_unit.specs.History.{branches, calls, stacked, cells_for, top_by, transfers, next_by}
use Rattle.bpred_unit.specs.Stands.{cells_of}
use Rattle.bpred_unit.proofs.Steps.{by_stack, by_tables, expected_so, answered}
use Rattle.bpred_unit.proofs.predictor.Predictor.lookup.Goals as goal
use Rattle.bpred_unit.proofs.predictor.Predictor.lookup.Goals.{in-Some, in-None}

pub returns-clause-answer : goal.returns-clause-answer
returns-clause-answer c = λ config h st.
    let k = c.control-kind.result in
    let done = stacked k c.args.pc (calls h) in
    let taken = c.is_taken-taken.ensures (branches h) st.directions in
    let next : c.match-look.next ≡ next_by k config h c.args.pc =
    elim c.match-look.branch [
      | in-Some w ↦ w.next-is ∙ by_stack (cells_of c.args.self.now) k config h c.args.pc _ st.cells (w.in-Some.ensures.answer (calls h) st.returns)
      | in-None w ↦ w.next-is
          ∙ by_tables c.args.self.now config h st k c.args.pc c.is_taken-taken.result _ taken
          (w.target-next.ensures (transfers (cells_for config.ras) h) st.buffer)
          (w.in-None.ensures.answer (calls h) st.returns)
    ]
    in
    answered config h c.args.pc c.args.i.now k c.match-look.next c.is_taken-taken.result c.top.result
    c.control-kind.ensures next
    (expected_so c.args.self.now config h st k c.args.pc c.is_taken-taken.result taken)
    (c.top.ensures.answer done (c.look.ensures.looked (calls h) st.returns)
    ∙ ap (λ o. top_by o done) (c.look.ensures.cells ∙ st.cells))
