use Rattle.std.proofs.Common.{◌∙◌, ap, refl, arith}
use Rattle.ruu_core.specs.Window.{Window, is_above, main_reads, second_reads}
use Rattle.ruu_core.proofs.Calls.{enter_sound, enter_linked}
use Rattle.ruu_core.proofs.unit.Ruu.dispatch.Goals as goal

pub invariant_of-self : goal.invariant_of-self
invariant_of-self c =
    let above = ap (λ (w : Window). is_above w.last c.args.s.row) c.self.view_is ∙ c.requires.rises in
    enter_sound c.self.inside.slots c.try_push_back.new.self c.self.inside.last c.args.s.row _ refl c.self.invariant above
    (record {
      writes = c.writes-writes.ensures;
      main = enter_linked c.self.inside.slots.items (main_reads c.args.s) c.as_slice.result.now c.sources-main.result c.self.invariant.linked (c.as_slice.ensures.value ∙ c.main_reads.ensures) c.as_slice.ensures.fits c.sources-main.ensures;
      second = enter_linked c.self.inside.slots.items (second_reads c.args.s) c.as_slice-2.result.now c.sources-second.result c.self.invariant.linked (c.as_slice-2.ensures.value ∙ c.second_reads.ensures) (omega (arith, c.as_slice-2.ensures.fits)) c.sources-second.ensures;
      recorded = c.requires.station.recorded;
    })
    c.in-Ok.ensures.ok
