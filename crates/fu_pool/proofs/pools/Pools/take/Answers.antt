use Rattle.std.proofs.Common.{sym, refl, subst, ◌≤◌, ◌+◌}
use Rattle.fu_pool.specs.Takes.{Units, StandsFor}
use Rattle.fu_pool.proofs.Stands.{alu_changes, mult_changes, port_changes, take_stands}
use Rattle.fu_pool.proofs.pools.Pools.take.Goals as goal
use Rattle.fu_pool.proofs.pools.Pools.take.Goals.{in-Alu, in-Mult, in-Port}

pub returns-clause-stands : goal.returns-clause-stands
returns-clause-stands c = λ takes stands.
    let before = subst (λ (v : Units). StandsFor v takes) (sym c.self.view_is) stands in
    let in_time = subst (λ (v : Units). v.last ≤ c.args.cycle) (sym c.self.view_is) c.requires.in_time in
    elim c.match-p.branch [
      | in-Alu w ↦ rw (w.self-inside-is, w.in-Alu.is) (take_stands _ _ _ _ _ takes (alu_changes _ _ c.args.cycle (c.args.cycle + c.args.hold) w.take.ensures refl refl) refl in_time before)
      | in-Mult w ↦ rw (w.self-inside-is, w.in-Mult.is) (take_stands _ _ _ _ _ takes (mult_changes _ _ c.args.cycle (c.args.cycle + c.args.hold) w.take-in-Mult.ensures refl refl) refl in_time before)
      | in-Port w ↦ rw (w.self-inside-is, w.in-Port.is) (take_stands _ _ _ _ _ takes (port_changes _ _ c.args.cycle (c.args.cycle + c.args.hold) w.take-in-Port.ensures refl refl) refl in_time before)
    ]
