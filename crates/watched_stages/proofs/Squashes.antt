-- The squashes that are shown are the table's, and are shown one after another.
use Rattle.std.proofs.Common.{◌≡◌, ℕ, suc, ◌+◌, ◌-◌, ◌<◌, ◌≤◌, List, [], ◌∷◌, Option, sym, ap, ◌∙◌, arith, length}
use Rattle.std.specs.Prelude.{map}
use Rattle.std.specs.List.{range_with_len}
use Rattle.ooo_table.specs.Recovery.{recovers}
use Rattle.ooo_table.specs.Cycle.{after_commit, after_recover}
use Rattle.ooo_table.specs.Machine.{Given, setting_of}
use Rattle.ooo_table.specs.MachineLaws.{IsSound}
use Rattle.core_parts.specs.Rows.{newest_number}
use Rattle.core_watch.specs.StageItems.{squashed_events}
use Rattle.core_events.specs.Recoveries.{squash_event, squashes_behind}
use Rattle.core_events.proofs.Recoveries.{squashes_are_behind}

-- the rows from the one behind that which recovers up to the next row to be fetched
pub squashes_there : (g : Given) (c : ℕ) → IsSound g → (behind : Option ℕ) (next : ℕ) → behind ≡ newest_number (recovers (setting_of g) c) (after_commit (setting_of g) c).rows
    → next ≡ length (after_commit (setting_of g) c).rows → squashes_behind c behind next ≡ squashed_events g c (after_recover (setting_of g) c).rows
squashes_there g c sound behind next e f =
    ap (λ o. squashes_behind c o next) e
    ∙ (ap (λ n. squashes_behind c (newest_number (recovers (setting_of g) c) (after_commit (setting_of g) c).rows) n) f
    ∙ sym (squashes_are_behind g c sound))

-- ---- rows that are shown one after another

pub squash_next : (c row next : ℕ) → row < next
    → map (squash_event c) (range_with_len row (next - row)) ≡ squash_event c row ∷ map (squash_event c) (range_with_len (row + 1) (next - (row + 1)))
squash_next c row next lt = let e : next - row ≡ suc (next - (row + 1)) = omega (arith, lt) in ap (λ n. map (squash_event c) (range_with_len row n)) e

pub squash_none : (c row next : ℕ) → next ≤ row → map (squash_event c) (range_with_len row (next - row)) ≡ []
squash_none c row next le = let e : next - row ≡ 0 = omega (arith, le) in ap (λ n. map (squash_event c) (range_with_len row n)) e
