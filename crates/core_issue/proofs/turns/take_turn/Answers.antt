use Rattle.std.proofs.Common.{◌≡◌, ◌∙◌, ◌&&◌, false, sym, ap, subst}
use Rattle.core_parts.proofs.Lists.{and_false}
use Rattle.core_issue.specs.Turns.{main_allowed, access_allowed, TurnBy}
use Rattle.core_issue.proofs.turns.take_turn.Goals as goal
use Rattle.core_issue.proofs.turns.take_turn.Goals.{else-t-via-then-t+else-main_allowed, else-t-via-else-t}

pub returns-then-t-2 : goal.returns-then-t-2
returns-then-t-2 c s e =
    let off : (c.args.t.main && main_allowed c.args.cycle c.args.n c.args.parts.now c.args.t.row s) ≡ false =
    elim c.else-t.branch [
      | else-t-via-then-t+else-main_allowed w ↦ ap (λ b. c.args.t.main && b) (sym (w.main_allowed.ensures s e) ∙ w.if-main_allowed.false) ∙ and_false c.args.t.main
      | else-t-via-else-t w ↦ ap (λ b. b && main_allowed c.args.cycle c.args.n c.args.parts.now c.args.t.row s) w.if-t.false
    ] in
    subst (λ x. TurnBy x (c.args.t.access && access_allowed c.args.cycle c.args.n c.args.parts.now c.args.t.row) c.args.cycle c.args.t.row s c.args.parts.now c.turn_of_access.new.parts c.turn_of_access.result) (sym off)
    (subst (λ y. TurnBy false (y && access_allowed c.args.cycle c.args.n c.args.parts.now c.args.t.row) c.args.cycle c.args.t.row s c.args.parts.now c.turn_of_access.new.parts c.turn_of_access.result) (sym c.if-t-2.true) (c.turn_of_access.ensures s))
