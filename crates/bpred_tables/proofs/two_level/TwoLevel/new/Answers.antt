use Rattle.std.proofs.Common.{◌≡◌, length, replicate, ap, ◌∙◌, arith, rules}
use Rattle.std.proofs.lemmas.List.{length-replicate}
use Rattle.bpred_tables.proofs.Histories.{zeros_below}
use Rattle.bpred_tables.proofs.two_level.TwoLevel.new.Goals as goal

pub invariant_of-result : goal.invariant_of-result
invariant_of-result c =
    let zeros : c.in_ok-vec.field-0.items ≡ replicate c.args.l1 0 = search rules in
    let first : length c.in_ok-vec.field-0.items ≡ c.args.l1 = ap length zeros ∙ length-replicate c.args.l1 0 in
    let second : length c.in_ok-new.field-0 ≡ c.args.l2 = ap length c.in_ok-new.ensures ∙ length-replicate c.args.l2 1 in
    record {
      first = omega arith;
      second = omega arith;
      width = c.requires.width;
      ranges = zeros_below _ _ _ zeros;
    }
