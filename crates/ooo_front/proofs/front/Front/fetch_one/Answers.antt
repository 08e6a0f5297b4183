use Rattle.std.proofs.Common.{◌∙◌, ◌-◌, ◌+◌, ◌∷◌, ap, subst, cond}
use Rattle.std.specs.Prelude.{is_some, unwrap_or}
use Rattle.pisa_isa.specs.declared.instr.Instr.{Instr}
use Rattle.mem_hier.specs.Replay.{Fetch, latency_of, fetch_hit_of}
use Rattle.mem_hier.specs.Stands.{StandsFor}
use Rattle.bpred_unit.specs.History.{LookUp, look_of}
use Rattle.bpred_unit.specs.Stands as pred
use Rattle.ooo_front.specs.Shown.{shown}
use Rattle.ooo_front.proofs.Turns.{stands_next}
use Rattle.ooo_front.proofs.front.Front.fetch_one.Goals as goal

pub returns-clause-stands : goal.returns-clause-stands
returns-clause-stands c = λ config p s st.
    let found = c.is_some.ensures ∙ ap is_some c.at-words.ensures.words in
    stands_next config p c.args.text.now c.args.cycle s (shown c.self.inside) c.args.self.now c.put.new.self c.queue_cycle-queued.new.hier c.lookup-look.new.self
    c.unwrap_or-a.result c.lookup-look.result c.queue_cycle-queued.result c.self.view_is
    (record {
      front = c.self.view_is ∙ st.front;
      words = c.unwrap_or-a.ensures ∙ ap (λ o. unwrap_or o (0, 0)) c.at-words.ensures.words;
      look = c.lookup-look.ensures.answer p s.events st.predictor ∙ ap (look_of p s.events c.self.inside.pc) c.looked_up.ensures;
      queued =
          c.queue_cycle-queued.ensures.answer config s.references st.hierarchy
          ∙ ap (λ b. cond b (c.args.cycle + (latency_of config s.references (Fetch c.self.inside.pc c.args.cycle) - fetch_hit_of config)) c.args.cycle) found;
    })
    c.put.ensures
    (subst (λ b. StandsFor c.queue_cycle-queued.new.hier config (cond b (Fetch c.self.inside.pc c.args.cycle ∷ s.references) s.references)) found (c.queue_cycle-queued.ensures.stands config s.references st.hierarchy))
    (subst (λ (i : Instr). pred.StandsFor c.lookup-look.new.self p (LookUp c.self.inside.pc i ∷ s.events)) c.looked_up.ensures (c.lookup-look.ensures.stands p s.events st.predictor))
