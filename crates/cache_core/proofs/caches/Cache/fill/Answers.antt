use Rattle.std.proofs.Common.{sym, subst, refl}
use Rattle.cache_core.specs.Replay.{block_of, set_of}
use Rattle.cache_core.specs.Stands.{StandsFor}
use Rattle.cache_core.specs.Ways.{IsSoundSet}
use Rattle.cache_core.proofs.Replays.{set_below, stands_fill}
use Rattle.cache_core.proofs.Parts.{part_is, written, becomes_filled, sound_filled}
use Rattle.cache_core.proofs.caches.Cache.fill.Goals as goal

pub invariant_of-self : goal.invariant_of-self
invariant_of-self c =
    let config = c.self.inside.config in
    let k = set_of config (block_of config c.args.addr) in
    let below = set_below config c.self.invariant.limits (block_of config c.args.addr) in
    let part = part_is config k c.first_way-first.result c.deref_mut.result.now c.self.inside.ways.items c.deref_mut.ensures.value c.first_way-first.ensures in
    let met = subst (IsSoundSet config c.self.inside.counts.accesses) (sym part) (c.self.invariant.sets k below) in
    let own = c.fill.ensures.sound config c.self.inside.counts.accesses met in
    let all = written config k c.first_way-first.result _ c.deref_mut.result.now c.self.inside.ways.items c.fill.new.ways c.deref_mut.ensures.value c.first_way-first.ensures c.self.inside.ways.ok.0 c.self.invariant.number below own.number in
    sound_filled _ k _ _ c.self.invariant all own

pub returns-clause-stands : goal.returns-clause-stands
returns-clause-stands c = λ shape h st.
    let config = c.self.inside.config in
    let k = set_of config (block_of config c.args.addr) in
    let below = set_below config c.self.invariant.limits (block_of config c.args.addr) in
    let part = part_is config k c.first_way-first.result c.deref_mut.result.now c.self.inside.ways.items c.deref_mut.ensures.value c.first_way-first.ensures in
    let met = subst (IsSoundSet config c.self.inside.counts.accesses) (sym part) (c.self.invariant.sets k below) in
    let own = c.fill.ensures.sound config c.self.inside.counts.accesses met in
    let all = written config k c.first_way-first.result _ c.deref_mut.result.now c.self.inside.ways.items c.fill.new.ways c.deref_mut.ensures.value c.first_way-first.ensures c.self.inside.ways.ok.0 c.self.invariant.number below own.number in
    let stands = subst (λ v. StandsFor v shape h) (sym c.self.view_is) st in
    let is_lines = rw (part, c.block_of-block.ensures) at (c.fill.ensures.lines config c.self.inside.counts.accesses met) in
    stands_fill _ _ _ _ c.self.invariant (becomes_filled _ k _ _ _ all is_lines) refl shape h stands
