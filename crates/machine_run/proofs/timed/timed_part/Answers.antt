use Rattle.std.proofs.Common.{refl}
use Rattle.journal.specs.Laws.{cut_none}
use Rattle.sim_safe.specs.State.{state_of}
use Rattle.machine_run.specs.Plan.{given_at, names_in}
use Rattle.machine_run.specs.Timed.{timed_journal}
use Rattle.machine_run.proofs.Starts.{is_sound}
use Rattle.machine_run.proofs.timed.timed_part.Goals as goal

pub timed_core-requires-clause-some : goal.timed_core-requires-clause-some
timed_core-requires-clause-some g c = (
  given_at c.args.config.now c.args.trace.now (state_of c.args.arch),
  is_sound c.args.config.now c.args.trace.now (state_of c.args.arch) c.requires.allowed,
  refl,
  c.in-Ok.ensures.stands c.args.trace.now,
)

pub returns-in-Err-clause-writes : goal.returns-in-Err-clause-writes
returns-in-Err-clause-writes g c =
    cut_none g.O.Outside.view c.args.outside.now (timed_journal (given_at c.args.config.now c.args.trace.now (state_of c.args.arch)) c.args.limits.now (names_in c.args.plan.now))

pub returns-in-Ok-clause-writes : goal.returns-in-Ok-clause-writes
returns-in-Ok-clause-writes g c =
    c.timed_core.ensures.writes (given_at c.args.config.now c.args.trace.now (state_of c.args.arch)) (is_sound c.args.config.now c.args.trace.now (state_of c.args.arch) c.requires.allowed) refl
    (c.in-Ok.ensures.stands c.args.trace.now)

pub returns-in-Ok-clause-comes : goal.returns-in-Ok-clause-comes
returns-in-Ok-clause-comes g c =
    c.timed_core.ensures.comes (given_at c.args.config.now c.args.trace.now (state_of c.args.arch)) (is_sound c.args.config.now c.args.trace.now (state_of c.args.arch) c.requires.allowed) refl
    (c.in-Ok.ensures.stands c.args.trace.now)
