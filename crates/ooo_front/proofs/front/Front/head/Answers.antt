use Rattle.std.proofs.Common.{None, refl}
use Rattle.ooo_front.specs.Shown.{shown}
use Rattle.ooo_front.proofs.Calls.{head_order, head_is, head_none, head_all, head_empty}
use Rattle.ooo_front.proofs.front.Front.head.Goals as goal

pub returns-then-row-cycle-clause-order : goal.returns-then-row-cycle-clause-order
returns-then-row-cycle-clause-order c = head_order (shown c.self.inside) c.args.self.now c.self.view_is c.self.invariant

pub returns-else-row-cycle-clause-order : goal.returns-else-row-cycle-clause-order
returns-else-row-cycle-clause-order c = head_order (shown c.self.inside) c.args.self.now c.self.view_is c.self.invariant

pub returns-in-None-clause-order : goal.returns-in-None-clause-order
returns-in-None-clause-order c = head_order (shown c.self.inside) c.args.self.now c.self.view_is c.self.invariant

pub returns-else-row-cycle-clause-none : goal.returns-else-row-cycle-clause-none
returns-else-row-cycle-clause-none c = (
  λ _. head_all c.args.cycle c.self.inside.queue c.self.inside.width c.self.inside.row c.self.inside.pc c.self.inside.earliest c.self.inside.cycle c.args.self.now
      c.in-Some.row.now c.self.view_is c.in-Some.ensures c.if-row-cycle.false c.self.invariant,
  λ _. refl,
)

pub returns-in-None-clause-row : goal.returns-in-None-clause-row
returns-in-None-clause-row c =
    head_none c.args.cycle c.args.self.now.rows
    (head_is c.self.inside.queue c.self.inside.width c.self.inside.row c.self.inside.pc c.self.inside.earliest c.self.inside.cycle c.args.self.now None c.self.view_is c.in-None.ensures)

pub returns-in-None-clause-none : goal.returns-in-None-clause-none
returns-in-None-clause-none c =
    (λ _. head_empty c.args.cycle c.self.inside.queue c.self.inside.width c.self.inside.row c.self.inside.pc c.self.inside.earliest c.self.inside.cycle c.args.self.now c.self.view_is c.in-None.ensures, λ _. refl)
