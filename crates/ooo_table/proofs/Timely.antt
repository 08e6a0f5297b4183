-- The processor keeps the premises of the bound.
use Rattle.std.proofs.Common.{◌≡◌, ℕ, false, [], refl, arith}
use Rattle.mem_hier.specs.Replay.{greatest_fetch_of, greatest_load_of}
use Rattle.mem_hier.proofs.LawProofs.{bounds}
use Rattle.ooo_table.specs.Cycle.{table}
use Rattle.ooo_table.specs.Ends.{exited}
use Rattle.ooo_table.specs.Bound.{Bounded}
use Rattle.ooo_table.specs.Machine.{Given, setting_of}
use Rattle.ooo_table.specs.MachineLaws.{IsSound, IsTimely, WorkedBounds}
use Rattle.ooo_table.proofs.Idle.{bound_holds}

pub bounded : (g : Given) → IsSound g → Bounded (setting_of g) (greatest_fetch_of g.hier) (greatest_load_of g.hier)
bounded g s =
    record {
      ifq = s.config.widths.ifq.least;
      decode = s.config.widths.decode.least;
      issue = s.config.widths.issue.least;
      commit = s.config.widths.commit.least;
      ruu = omega (arith, s.config.ruu.least);
      lsq = omega (arith, s.config.lsq.least);
      penalty = s.config.penalty.least;
      alus = s.config.pools.alus.least;
      mults = s.config.pools.mults.least;
      ports = s.config.pools.ports.least;
      start = s.rise;
      fetch = λ pc c h r. (bounds g.hier h pc c s.hier r.rise r.last).fetch.most;
      load = λ a c h r. (bounds g.hier h a c s.hier r.rise r.last).load.most;
      some = omega (arith, (bounds g.hier [] 0 0 s.hier tt (omega arith)).load.least, (bounds g.hier [] 0 0 s.hier tt (omega arith)).load.most);
    }

pub timely : (g : Given) (c : ℕ) → IsSound g → exited (setting_of g) (table (setting_of g) c) ≡ false → IsTimely g c
timely g c s running = bound_holds (setting_of g) (greatest_fetch_of g.hier) (greatest_load_of g.hier) (bounded g s) c running

pub worked_bounds : WorkedBounds
worked_bounds = record { defaults = λ wait. refl; bare = refl }
