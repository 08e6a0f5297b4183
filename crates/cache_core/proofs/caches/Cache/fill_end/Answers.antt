use Rattle.std.proofs.Common.{sym, subst}
use Rattle.cache_core.specs.Replay.{block_of, set_of}
use Rattle.cache_core.specs.Stands.{StandsFor}
use Rattle.cache_core.specs.Ways.{IsSoundSet}
use Rattle.cache_core.proofs.Replays.{set_below, fill_end_stands}
use Rattle.cache_core.proofs.Parts.{part_is}
use Rattle.cache_core.proofs.caches.Cache.fill_end.Goals as goal

pub returns : goal.returns
returns c = λ shape h st.
    let config = c.self.inside.config in
    let k = set_of config (block_of config c.args.addr) in
    let below = set_below config c.self.invariant.limits (block_of config c.args.addr) in
    let part = part_is config k c.first_way-first.result c.deref.result.now c.self.inside.ways.items c.deref.ensures.value c.first_way-first.ensures in
    let met = subst (IsSoundSet config c.self.inside.counts.accesses) (sym part) (c.self.invariant.sets k below) in
    let stands = subst (λ v. StandsFor v shape h) (sym c.self.view_is) st in
    let is_end = rw (part, c.block_of-block.ensures) at (c.fill_end.ensures config c.self.inside.counts.accesses met) in
    fill_end_stands _ _ _ c.self.invariant is_end shape h stands
