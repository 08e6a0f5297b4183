-- However a run ends, its marks are a legal schedule.
use Rattle.std.proofs.Common.{ℕ, ◌≤◌}
use Rattle.ooo_table.specs.Table.{Setting}
use Rattle.ooo_table.specs.Ends.{Extent, rows_at}
use Rattle.ooo_table.specs.Legal.{CommitsInOrder, Legal}
use Rattle.ooo_table.proofs.Kept.{each_of}
use Rattle.ooo_table.proofs.Sound.{Sound, sound_at, producers_at, memory_at}
use Rattle.ooo_table.proofs.Recovered.{squashes_at}
use Rattle.ooo_table.proofs.Widths.{widths_at}
use Rattle.ooo_table.proofs.Room.{places_at}
use Rattle.ooo_table.proofs.Pools.{units_at}

pub legal_at : (set : Setting) (e : Extent) (c : ℕ) → 1 ≤ set.config.penalty → Legal set e c
legal_at set e c pen =
    record {
      producers = producers_at set e c;
      units = units_at set e c;
      widths = widths_at set e c;
      places = places_at set e c;
      commits = each_of (Sound set c) (CommitsInOrder set) (λ older r s. s.facts.order) (rows_at set e c) (sound_at set e c);
      memory = memory_at set e c;
      recoveries = squashes_at set e c pen;
    }
