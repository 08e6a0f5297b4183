-- The commits among what is shown, and what bounds and texts are said of it.
use Rattle.std.specs.Prelude.{◌<◌, List, [], ◌∷◌, length}
use Rattle.sim_safe.specs.Record.{Item}
use Rattle.core_watch.specs.Shown.{Shown, Happened, Committed}
use Rattle.machine_watch.specs.Watch.{Pending}

-- the instructions that were committed, among what was shown
abbrev pub commits_among : List Shown → List Item
commits_among [] = []
commits_among (Happened e ∷ xs) = commits_among xs
commits_among (Committed did ∷ xs) = did ∷ commits_among xs

-- of each text less than a piece is pending
pub record IsShort (p : Pending) : Type 0 where
  pub lines : length p.lines < 65536
  pub text : length p.text < 65536
