use Rattle.std.proofs.Common.{sym, subst}
use Rattle.mem_hier.specs.Stands.{StandsFor}
use Rattle.mem_hier.specs.Sound.{shown}
use Rattle.mem_hier.proofs.Stood.{stood_settled, sound_settled}
use Rattle.mem_hier.proofs.hier.Hier.settle.Goals as goal

pub invariant_of-self : goal.invariant_of-self
invariant_of-self c =
    sound_settled
    (record { config = c.self.inside.config; caches = shown c.self.inside.caches; references = c.self.inside.references; last_cycle = c.self.inside.last_cycle })
    c.self.inside.timings (shown c.settle.new.self) c.self.invariant c.settle.ensures.accesses

pub returns-clause-stands : goal.returns-clause-stands
returns-clause-stands c = λ config h st.
    stood_settled
    (record { config = c.self.inside.config; caches = shown c.self.inside.caches; references = c.self.inside.references; last_cycle = c.self.inside.last_cycle })
    (shown c.settle.new.self) c.settle.ensures.stands config h (subst (λ v. StandsFor v config h) (sym c.self.view_is) st)
