-- The recovery stage under a watch.
use Rattle.std.proofs.Common.{◌≡◌, ℕ, ◌+◌, ◌<◌, List, [], ◌∷◌, ◌++◌, Option, Some, None, sym, ap, ◌∙◌, subst, arith}
use Rattle.std.specs.Prelude.{Result, true, ◌&&◌}
use Rattle.ruu_core.specs.Window as unit
use Rattle.ruu_core.specs.Window.{is_above, rises_to}
use Rattle.ooo_front.specs.Fetching.{FrontEnd}
use Rattle.ooo_table.specs.declared.event.Event.{Event}
use Rattle.ooo_table.specs.Cycle.{after_commit}
use Rattle.ooo_table.specs.Machine.{setting_of}
use Rattle.core_parts.specs.declared.parts.Parts.{Parts}
use Rattle.core_parts.specs.Fits.{IsBehind}
use Rattle.core_parts.specs.Stages.{RecoversAt, Recovers}
use Rattle.core_recovery.specs.Recovery as recovery
use Rattle.core_recovery.specs.Recovery.{recovers, recovering_in}
use Rattle.core_watch.specs.Shown.{Shown}
use Rattle.core_statistics.specs.declared.stats.CoreStats.{CoreStats}
use Rattle.core_statistics.specs.StageCounts.{with_recovery_of}
use Rattle.core_statistics.specs.Standing.{RecoveryCounted}
use Rattle.core_statistics.proofs.Standing.{counts_stand}
use Rattle.core_watch.specs.StageItems.{written_events}
use Rattle.core_events.specs.Recoveries.{squashes_behind}
use Rattle.watched_stages.specs.Watched.{Shows, WatchedRecovery, completions_above}
use Rattle.watched_stages.proofs.Completions.{found_below}
use Rattle.watched_stages.proofs.Written.{completions_written}
use Rattle.watched_stages.proofs.Squashes.{squashes_there}

-- the row that recovers is below the next one that is fetched
pub recovering_below : (c : ℕ) (last : Option ℕ) (f : FrontEnd) (rows : List unit.Row) (row : ℕ) → rises_to last rows ≡ true → IsBehind last f → recovering_in c rows ≡ Some row → row < f.row
recovering_below c (Some l) f rows row rises behind e =
    let lt : row < l + 1 = found_below (λ older r. is_above None r.station.row && recovers c older r) (l + 1) rows row rises e in
    omega (arith, lt, behind)
recovering_below c None f [] row rises behind e = absurd cc
recovering_below c None f (r ∷ rows) row rises behind e = absurd cc

-- the state stays
same_arch : (c : ℕ) (old new : Parts) → recovery.Turns c old new → new.arch ≡ old.arch
same_arch c old new t = ap (λ (p : Parts). p.arch) t.learns ∙ by_row (recovering_in c old.unit.rows) t.squashes
  where
    by_row : (m : Option ℕ) → recovery.SquashesAny c m old t.squashed → t.squashed.arch ≡ old.arch
    by_row None s = ap (λ (p : Parts). p.arch) s
    by_row (Some row) s = ap (λ (p : Parts). p.arch) s.2.same

pub watched_recovery : {S T F : Type 0} (took cut : S → List Shown → S → Type 0) (c : ℕ) (old new : Parts) (behind : Option ℕ) (counted counts : CoreStats) (before now : S) (result : Result T F)
    → RecoversAt c old behind → Recovers c old new → recovery.Turns c old new → counts ≡ with_recovery_of behind old.front.row counted
    → Shows took cut (completions_above c None old.unit.rows ++ squashes_behind c behind old.front.row) before now result
    → WatchedRecovery took cut c old new counted counts before now result
watched_recovery took cut c old new behind counted counts before now result at recovers turns is shows g sound st = (
  record {
    stands = recovers g sound st;
    shown =
        subst (λ (es : List Event). Shows took cut es before now result)
        (ap (λ es. es ++ squashes_behind c behind old.front.row) (completions_written g c old.unit.rows st.rows.unit)
        ∙ ap (λ es. written_events g c (after_commit (setting_of g) c).rows ++ es) (squashes_there g c sound behind old.front.row (at g sound st) st.next.row)) shows;
  },
  subst (RecoveryCounted g c counted) (sym is) ((counts_stand g c).recovery behind old.front.row counted sound (at g sound st) st.next.row),
  same_arch c old new turns,
)
