use Rattle.std.proofs.Common.{◌+◌, length, None, Some, sym, subst, arith}
use Rattle.core_issue.specs.Turns.{TurnOf}
use Rattle.core_issue.proofs.Loop.{Going, starts, may_turn, goes_on, next_is, ends_within}
use Rattle.core_issue.proofs.Issues.{issues}
use Rattle.core_issue.proofs.stage.issue.Goals as goal

pub loop-t-init : goal.loop-t-init
loop-t-init c = subst (Going c.args.cycle c.args.parts.now c.args.parts.now None) (sym c.new-issued.ensures) (starts c.args.cycle c.args.parts.now c.requires.fits)

pub take_turn-answer-requires : goal.take_turn-answer-requires
take_turn-answer-requires c =
    may_turn c.args.cycle (32 + length c.loop-t.issued.items) c.loop-t.after c.loop-t.parts c.in-Some.t c.loop-t.invariant.fits (let few = c.loop-t.invariant.wide in omega (arith, few)) c.in-Some.ensures.rises (next_is c.args.cycle c.len.result c.loop-t.parts c.loop-t.after c.in-Some.t c.in-Some.ensures.next)

pub add-requires : goal.add-requires
add-requires c =
    (
    goes_on c.args.cycle c.args.parts.now c.loop-t.parts c.take_turn-answer.new.parts c.loop-t.after c.loop-t.issued.items c.in-Some.t c.take_turn-answer.result c.loop-t.invariant c.in-Some.ensures.rises (next_is c.args.cycle c.len.result c.loop-t.parts c.loop-t.after c.in-Some.t c.in-Some.ensures.next)
    (subst (λ n. TurnOf c.args.cycle n c.in-Some.t c.loop-t.parts c.take_turn-answer.new.parts c.take_turn-answer.result) c.len-in-Some.ensures.value c.take_turn-answer.ensures)
    ).room

pub loop-t-smaller : goal.loop-t-smaller
loop-t-smaller c =
    (
    goes_on c.args.cycle c.args.parts.now c.loop-t.parts c.take_turn-answer.new.parts c.loop-t.after c.loop-t.issued.items c.in-Some.t c.take_turn-answer.result c.loop-t.invariant c.in-Some.ensures.rises (next_is c.args.cycle c.len.result c.loop-t.parts c.loop-t.after c.in-Some.t c.in-Some.ensures.next)
    (subst (λ n. TurnOf c.args.cycle n c.in-Some.t c.loop-t.parts c.take_turn-answer.new.parts c.take_turn-answer.result) c.len-in-Some.ensures.value c.take_turn-answer.ensures)
    ).fewer

pub loop-t-preserved : goal.loop-t-preserved
loop-t-preserved c =
    subst (Going c.args.cycle c.args.parts.now c.take_turn-answer.new.parts (Some c.in-Some.t.row)) (sym c.add.ensures)
    (
    goes_on c.args.cycle c.args.parts.now c.loop-t.parts c.take_turn-answer.new.parts c.loop-t.after c.loop-t.issued.items c.in-Some.t c.take_turn-answer.result c.loop-t.invariant c.in-Some.ensures.rises (next_is c.args.cycle c.len.result c.loop-t.parts c.loop-t.after c.in-Some.t c.in-Some.ensures.next)
    (subst (λ n. TurnOf c.args.cycle n c.in-Some.t c.loop-t.parts c.take_turn-answer.new.parts c.take_turn-answer.result) c.len-in-Some.ensures.value c.take_turn-answer.ensures)
    ).going

pub returns-clause-ran : goal.returns-clause-ran
returns-clause-ran c = (ends_within c.args.cycle c.len.result c.args.parts.now c.loop-t.parts c.loop-t.after c.loop-t.issued.items c.loop-t.invariant c.in_default.ensures.rises c.len.ensures.value c.in_default.ensures.next).1

pub returns-clause-issues : goal.returns-clause-issues
returns-clause-issues c =
    issues c.args.cycle c.args.parts.now c.loop-t.parts c.loop-t.issued.items c.requires.fits.sizes (ends_within c.args.cycle c.len.result c.args.parts.now c.loop-t.parts c.loop-t.after c.loop-t.issued.items c.loop-t.invariant c.in_default.ensures.rises c.len.ensures.value c.in_default.ensures.next).1
