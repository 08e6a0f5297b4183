use Rattle.std.proofs.Common.{◌≡◌, length, map, refl, ◌∙◌, ap, arith}
use Rattle.std.proofs.lemmas.List.{length-map}
use Rattle.bpred_tables.proofs.Latest.{shown, length_empty, push_empty, stands_empty}
use Rattle.bpred_tables.proofs.target_buffer.Btb.new.Goals as goal

pub loop-init : goal.loop-init
loop-init c = rw c.in_ok-empty.ensures.items refl

pub loop-preserved : goal.loop-preserved
loop-preserved c = rw c.in_ok-push.ensures.items (push_empty (λ s. map shown s.items) _ _ _ c.loop.invariant (ap (map shown) c.new.ensures))

pub invariant_of-result : goal.invariant_of-result
invariant_of-result c =
    let long : length c.loop.empty.items ≡ c.loop.counter = length_empty (λ s. map shown s.items) _ _ c.loop.invariant in
    (omega arith, omega arith, omega arith)

pub returns-clause-sizes : goal.returns-clause-sizes
returns-clause-sizes c =
    let long : length c.loop.empty.items ≡ c.loop.counter = length_empty (λ s. map shown s.items) _ _ c.loop.invariant in
    let all : c.loop.counter ≡ c.args.sets = omega arith in
    (length-map c.loop.empty.items (λ s. map shown s.items) ∙ long ∙ all, refl)

pub returns-clause-start : goal.returns-clause-start
returns-clause-start c = stands_empty _ _ _ c.loop.invariant
