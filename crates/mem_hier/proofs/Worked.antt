use Rattle.std.proofs.Common.{refl}
use Rattle.cache_core.specs.Replay.{touched, lines_of, touch_of, line_at, number_of}
use Rattle.mem_hier.specs.Replay.{last_access, written_back, first_access, through, translated, data_way, fetch_way, data_answer, fetch_answer, calls_of, latency_of}
use Rattle.mem_hier.specs.Laws.{WorkedLatencies}

pub worked : WorkedLatencies
unfolding touched lines_of touch_of line_at number_of last_access written_back first_access through translated data_way fetch_way data_answer fetch_answer calls_of latency_of
worked =
    record {
      greatest_fetch = λ w. refl;
      greatest_load = λ w. refl;
      fetch = refl;
      next = refl;
      block = refl;
      instant = record { greatest = refl; first = refl; second = refl; later = refl; dl1 = refl };
      waiting = record { greatest = refl; first = refl; second = refl; later = refl; dl1 = refl };
      levels = record { greatest = refl; first = refl; second = refl; flight = refl; fourth = refl; behind = refl; dl1 = refl; dl2 = refl };
      levels_waiting = record { greatest = refl; first = refl; second = refl; flight = refl; fourth = refl; behind = refl; dl1 = refl; dl2 = refl };
      shared = record { il1 = refl; il2 = refl; dl1 = refl; dl2 = refl };
    }
