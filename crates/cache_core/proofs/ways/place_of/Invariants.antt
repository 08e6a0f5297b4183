use Rattle.std.proofs.Common.{◌≡◌, ℕ, ◌<◌, ◌≤◌, true, false, length}
use Rattle.cache_core.specs.Ways.{way_at, holds}
use Rattle.cache_core.proofs.ways.place_of.Given as goal

abbrev pub invariant-loop-place : goal.invariant-loop-place
invariant-loop-place l =
    record {
      within : l.found ≤ length l.ways;
      held : l.found < length l.ways → holds l.block (way_at l.ways l.found) ≡ true;
      none : l.found ≡ length l.ways → (j : ℕ) → j < l.place → holds l.block (way_at l.ways j) ≡ false;
    }
