use Rattle.std.proofs.Common.{◌^◌, ◌<◌, ◌≤◌, sym, subst}
use Rattle.mem_hier.specs.Replay.{Store}
use Rattle.mem_hier.specs.Stands.{Held, StandsFor}
use Rattle.mem_hier.specs.Sound.{shown}
use Rattle.mem_hier.proofs.Stood.{of_store, stood, sound_after}
use Rattle.mem_hier.proofs.hier.Hier.store.Goals as goal

pub invariant_of-self : goal.invariant_of-self
invariant_of-self c =
    let less : c.self.inside.references < 2 ^ 60 = subst (λ (v : Held). v.references < 2 ^ 60) (sym c.self.view_is) c.requires.references in
    sound_after
    (record { config = c.self.inside.config; caches = shown c.self.inside.caches; references = c.self.inside.references; last_cycle = c.self.inside.last_cycle })
    c.self.inside.timings (shown c.data-latency.new.self) c.args.cycle c.self.invariant less c.data-latency.ensures.accesses

pub returns-clause-stands : goal.returns-clause-stands
returns-clause-stands c = λ config h st.
    let stands = subst (λ v. StandsFor v config h) (sym c.self.view_is) st in
    let order : c.self.inside.last_cycle ≤ c.args.cycle = subst (λ (v : Held). v.last_cycle ≤ c.args.cycle) (sym c.self.view_is) c.requires.order in
    (stood
    (record { config = c.self.inside.config; caches = shown c.self.inside.caches; references = c.self.inside.references; last_cycle = c.self.inside.last_cycle })
    c.self.inside.timings (Store c.args.addr c.args.cycle) c.args.cycle c.data-latency.result (shown c.data-latency.new.self) (of_store c.args.addr c.args.cycle) c.self.invariant order (c.data-latency.ensures.answer c.self.inside.config) config h stands).stands
