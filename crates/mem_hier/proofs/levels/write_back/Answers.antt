use Rattle.mem_hier.proofs.Steps.{written_none, written_clean, written_dirty}
use Rattle.mem_hier.proofs.levels.write_back.Goals as goal

pub returns-then-victim-clause-written : goal.returns-then-victim-clause-written
returns-then-victim-clause-written c = λ shape calls met.
    written_dirty c.args.timing.now shape calls c.args.victim c.in-Some.victim c.args.cycle c.reach-latency.result c.args.cache.now c.reach-latency.new.cache
    c.in-Some.is c.if-victim.true met (c.reach-latency.ensures.served shape calls met)

pub returns-else-victim-clause-written : goal.returns-else-victim-clause-written
returns-else-victim-clause-written c = λ shape calls met.
    written_clean c.args.timing.now shape calls c.args.victim c.in-Some.victim c.args.cycle _ c.args.cache.now c.in-Some.is c.if-victim.false met

pub returns-in-None-clause-written : goal.returns-in-None-clause-written
returns-in-None-clause-written c = λ shape calls met.
    written_none c.args.timing.now shape calls c.args.victim c.args.cycle _ c.args.cache.now c.in-None.is met
