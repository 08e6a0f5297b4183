use Rattle.std.proofs.Common.{◌≡◌, ℕ, ◌<◌, ◌≤◌, true, false, length}
use Rattle.std.specs.List.{AllWithin}
use Rattle.cache_core.specs.Ways.{way_at, holds}
use Rattle.cache_core.proofs.ways.look_up.Given as goal

abbrev pub invariant-loop-at : goal.invariant-loop-at
invariant-loop-at l =
    record {
      within : l.found ≤ length l.ways;
      held : l.found < length l.ways → holds l.block (way_at l.ways l.found) ≡ true;
      none : l.found ≡ length l.ways → (j : ℕ) → j < l.at → holds l.block (way_at l.ways j) ≡ false;
      inside : l.oldest < length l.ways;
      stamp : l.least ≡ (way_at l.ways l.oldest).stamp;
      least : AllWithin (λ w. l.least ≤ w.stamp) l.ways 0 l.at;
    }
