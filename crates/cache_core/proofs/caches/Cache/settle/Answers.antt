use Rattle.std.proofs.Common.{sym, subst, refl, arith}
use Rattle.cache_core.specs.Stands.{StandsFor}
use Rattle.cache_core.specs.Sound.{Fields}
use Rattle.cache_core.proofs.Replays.{stands_settle}
use Rattle.cache_core.proofs.Parts.{settled_more, settled_all, lines_settled, sound_settled}
use Rattle.cache_core.proofs.caches.Cache.settle.Goals as goal

pub invariant_of-self : goal.invariant_of-self
invariant_of-self c =
    let all =
    settled_all c.loop-way.way-index c.self.inside.ways.len c.deref_mut-way-items.result.now c.loop-way.way-items c.self.inside.ways.items (omega arith) (omega arith)
    c.loop-way.invariant c.deref_mut-way-items.ensures.value c.self.inside.ways.ok.0
    in
    sound_settled _ _ c.self.invariant all

pub loop-way-preserved : goal.loop-way-preserved
loop-way-preserved c = settled_more c.loop-way.way-index c.deref_mut-way-items.result.now c.loop-way.way-items (omega arith) (omega arith) c.loop-way.invariant

pub returns-clause-stands : goal.returns-clause-stands
returns-clause-stands c = λ shape h st.
    let all =
    settled_all c.loop-way.way-index c.self.inside.ways.len c.deref_mut-way-items.result.now c.loop-way.way-items c.self.inside.ways.items (omega arith) (omega arith)
    c.loop-way.invariant c.deref_mut-way-items.ensures.value c.self.inside.ways.ok.0
    in
    let stands = subst (λ v. StandsFor v shape h) (sym c.self.view_is) st in
    let v : Fields = record { config = c.self.inside.config; ways = c.self.inside.ways.items; counts = c.self.inside.counts } in
    stands_settle v _ refl (λ j below. lines_settled v _ all j) refl shape h stands
