-- The turns of the commit stage over the parts, and what is shown of them.
use Rattle.std.specs.Prelude.{ℕ, suc, false, List, ◌∷◌, ◌++◌}
use Rattle.ruu_core.specs.declared.station.Station.{Station}
use Rattle.ooo_table.specs.Row.{Row}
use Rattle.ooo_table.specs.Cycle.{after_commit}
use Rattle.ooo_table.specs.Machine.{Given, setting_of}
use Rattle.core_parts.specs.declared.parts.Parts.{Parts}
use Rattle.core_parts.specs.Stands.{Stands}
use Rattle.core_parts.specs.Stages.{Committing, CommitsAs}
use Rattle.core_watch.specs.StageItemsLaws.{CommitIsShown, CommitsAreOver}
use Rattle.core_events.specs.Exits.{CommitIsOf}

-- what is shown of a commit, in a run with a budget of commits
pub record TurnIsShown (g : Given) (c most n : ℕ) (passed older : List Row) (s : Station) (r : Row) : Type 0 where
  pub shown : CommitIsShown g c most n passed older r
  pub station : CommitIsOf g c s r

-- each turn shows the commit of its row by its station
abbrev pub TurnsAreShown : Given → ℕ → Type 0
TurnsAreShown g c =
    (most n : ℕ) (younger left passed older : List Row) (r : Row) (s : Station) (old new : Parts) → Committing g c n younger older old → CommitsAs g c s r (passed ++ older)
    → Committing g c (suc n) left (r ∷ (passed ++ older)) new → TurnIsShown g c most n passed older s r

-- Parts within the stage that stand for the table behind it stay as they are: no row commits any more.
abbrev pub StagesAreShown : Given → ℕ → Type 0
StagesAreShown g c =
    (most n : ℕ) (younger older : List Row) (parts : Parts) → Committing g c n younger older parts → Stands g c false parts (after_commit (setting_of g) c)
    → CommitsAreOver g c most n older
