use Rattle.std.proofs.Common.{◌*◌, sym, subst, ap, arith}
use Rattle.std.proofs.lemmas.Nat.{div-add-mod'}
use Rattle.cache_core.specs.Replay.{block_of, set_of}
use Rattle.cache_core.specs.Stands.{StandsFor}
use Rattle.cache_core.specs.Ways.{IsSoundSet}
use Rattle.cache_core.specs.Sound.{Fields}
use Rattle.cache_core.proofs.Replays.{set_below, touch_stands, stands_access, holds_now}
use Rattle.cache_core.proofs.Parts.{part_is, written, becomes_accessed, sound_accessed}
use Rattle.cache_core.proofs.caches.Cache.access.Goals as goal

pub touch-touch-requires-clause-sound : goal.touch-touch-requires-clause-sound
touch-touch-requires-clause-sound c =
    let config = c.self.inside.config in
    let k = set_of config (block_of config c.args.addr) in
    let part = part_is config k c.first_way-first.result c.deref_mut.result.now c.self.inside.ways.items c.deref_mut.ensures.value c.first_way-first.ensures in
    let below = set_below config c.self.invariant.limits (block_of config c.args.addr) in
    (subst (IsSoundSet config c.self.inside.counts.accesses) (sym part) (c.self.invariant.sets k below), c.self.invariant.limits.least_ways)

pub touch-touch-requires-clause-space : goal.touch-touch-requires-clause-space
touch-touch-requires-clause-space c =
    let fits = c.ranges.addr.fits in
    omega (arith, div-add-mod' c.args.addr c.self.inside.config.block, ap (λ b. b * c.self.inside.config.block) c.block_of-block.ensures)

pub invariant_of-self : goal.invariant_of-self
invariant_of-self c =
    let config = c.self.inside.config in
    let k = set_of config (block_of config c.args.addr) in
    let below = set_below config c.self.invariant.limits (block_of config c.args.addr) in
    let all = written config k c.first_way-first.result _ c.deref_mut.result.now c.self.inside.ways.items c.touch-touch.new.ways c.deref_mut.ensures.value c.first_way-first.ensures c.self.inside.ways.ok.0 c.self.invariant.number below c.touch-touch.ensures.sound.number in
    sound_accessed _ _ k _ _ c.self.invariant all c.count.ensures.accesses c.count.ensures.balanced c.touch-touch.ensures.sound

pub returns-clause-touch : goal.returns-clause-touch
returns-clause-touch c = λ shape h st.
    let config = c.self.inside.config in
    let k = set_of config (block_of config c.args.addr) in
    let part = part_is config k c.first_way-first.result c.deref_mut.result.now c.self.inside.ways.items c.deref_mut.ensures.value c.first_way-first.ensures in
    let stands = subst (λ v. StandsFor v shape h) (sym c.self.view_is) st in
    let is_touch = rw (part, c.block_of-block.ensures) at c.touch-touch.ensures.touch in
    touch_stands _ _ _ _ c.self.invariant is_touch shape h stands

pub returns-clause-stands : goal.returns-clause-stands
returns-clause-stands c = λ shape h st.
    let config = c.self.inside.config in
    let k = set_of config (block_of config c.args.addr) in
    let below = set_below config c.self.invariant.limits (block_of config c.args.addr) in
    let part = part_is config k c.first_way-first.result c.deref_mut.result.now c.self.inside.ways.items c.deref_mut.ensures.value c.first_way-first.ensures in
    let all = written config k c.first_way-first.result _ c.deref_mut.result.now c.self.inside.ways.items c.touch-touch.new.ways c.deref_mut.ensures.value c.first_way-first.ensures c.self.inside.ways.ok.0 c.self.invariant.number below c.touch-touch.ensures.sound.number in
    let stands = subst (λ v. StandsFor v shape h) (sym c.self.view_is) st in
    let is_touch = rw (part, c.block_of-block.ensures) at c.touch-touch.ensures.touch in
    let is_lines = rw (part, c.block_of-block.ensures) at c.touch-touch.ensures.lines in
    let count = c.count.ensures in
    stands_access _ _ _ _ _ c.self.invariant is_touch (becomes_accessed _ _ k _ _ _ c.self.invariant all count.accesses is_lines)
    count.accesses count.hits count.misses count.replacements count.writebacks shape h stands

pub returns-clause-held : goal.returns-clause-held
returns-clause-held c =
    let config = c.self.inside.config in
    let k = set_of config (block_of config c.args.addr) in
    let below = set_below config c.self.invariant.limits (block_of config c.args.addr) in
    let part = part_is config k c.first_way-first.result c.deref_mut.result.now c.self.inside.ways.items c.deref_mut.ensures.value c.first_way-first.ensures in
    let all = written config k c.first_way-first.result _ c.deref_mut.result.now c.self.inside.ways.items c.touch-touch.new.ways c.deref_mut.ensures.value c.first_way-first.ensures c.self.inside.ways.ok.0 c.self.invariant.number below c.touch-touch.ensures.sound.number in
    let is_lines = rw (part, c.block_of-block.ensures) at c.touch-touch.ensures.lines in
    let v : Fields = record { config = config; ways = c.self.inside.ways.items; counts = c.self.inside.counts } in
    let becomes = becomes_accessed v c.count.new.self k _ c.touch-touch.new.ways _ c.self.invariant all c.count.ensures.accesses is_lines in
    holds_now v c.count.new.self _ c.args.addr c.args.write _ c.self.invariant becomes.own
