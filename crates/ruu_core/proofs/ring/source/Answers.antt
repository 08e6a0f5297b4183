use Rattle.std.proofs.Common.{◌≡◌, length, ap, sym, ◌∙◌, true, false, arith}
use Rattle.std.specs.Prelude.{reverse, take}
use Rattle.ruu_core.specs.Slots.{source_behind}
use Rattle.ruu_core.proofs.Walks.{source_before, all_taken}
use Rattle.ruu_core.proofs.ring.source.Goals as goal

pub loop-at-init : goal.loop-at-init
loop-at-init c =
    let all : c.len-count.result ≡ length c.args.slots.now.items = c.len-count.ensures.len in
    record {
      within = omega arith;
      passed = ap (λ l. source_behind c.args.place (reverse l)) (sym (ap (λ n. take n c.args.slots.now.items) all ∙ all_taken c.args.slots.now.items));
    }

pub returns-then-writes_place : goal.returns-then-writes_place
returns-then-writes_place c =
    c.source.ensures
    ∙ sym (c.loop-at.invariant.passed
    ∙ source_before c.args.place c.args.slots.now.items c.loop-at.at c.slot_at-writer.result.now true c.loop-at-test.true c.slot_at-writer.ensures (sym c.writes_place.ensures ∙ c.if-writes_place.true))

pub loop-at-preserved : goal.loop-at-preserved
loop-at-preserved c = record {
  within = omega (arith, c.loop-at.invariant.within);
  passed = c.loop-at.invariant.passed
      ∙ source_before c.args.place c.args.slots.now.items c.loop-at.at c.slot_at-writer.result.now false c.loop-at-test.true c.slot_at-writer.ensures (sym c.writes_place.ensures ∙ c.if-writes_place.false);
}

pub returns : goal.returns
returns c =
    let none : c.loop-at.at ≡ 0 = omega arith in
    sym (c.loop-at.invariant.passed ∙ ap (λ n. source_behind c.args.place (reverse (take n c.args.slots.now.items))) none)
