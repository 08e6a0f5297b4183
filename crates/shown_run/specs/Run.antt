-- What is shown of a run, from its first cycle on.
use Rattle.std.specs.Prelude.{◌≡◌, ℕ, zero, suc, ◌<◌, ◌≤◌, List, [], ◌∷◌, ◌++◌}
use Rattle.sim_safe.specs.Record.{Item}
use Rattle.ooo_table.specs.Ends.{Extent, Whole, AtCommit, AtStop}
use Rattle.ooo_table.specs.Events.{events_in, cycles_of}
use Rattle.ooo_table.specs.Machine.{Given, setting_of}
use Rattle.core_watch.specs.Shown.{Shown, Happened, Committed}
use Rattle.core_watch.specs.Items.{items_in}

module _ (g : Given) where
  -- of the first n cycles, in a run that came so far behind c whole ones
  unfoldable pub items_below : Extent → ℕ → ℕ → List Shown
  items_below e c zero = []
  items_below e c (suc x) = items_below e c x ++ items_in g e c x

  -- of all its cycles
  abbrev pub all_items : Extent → ℕ → List Shown
  all_items e c = items_below e c (cycles_of e c)

-- the records of instructions among what was shown
abbrev pub records_among : List Shown → List Item
records_among [] = []
records_among (Happened e ∷ xs) = records_among xs
records_among (Committed did ∷ xs) = did ∷ records_among xs

-- ---- laws

module _ (g : Given) where
  -- Behind c whole cycles the next one is shown behind what was shown of them, whether it is whole, ends at a commit or ends
  -- at a stop.
  pub record AddsItems (c : ℕ) : Type 0 where
    pub none : all_items g Whole 0 ≡ []
    pub whole : all_items g Whole (suc c) ≡ all_items g Whole c ++ items_in g Whole (suc c) c
    pub commit : (row : ℕ) → all_items g (AtCommit row) c ≡ all_items g Whole c ++ items_in g (AtCommit row) c c
    pub stop : all_items g AtStop c ≡ all_items g Whole c ++ items_in g AtStop c c

  -- What is shown of a run begins with what was shown behind n of its whole cycles.
  abbrev pub BeginsSo : Extent → ℕ → ℕ → Type 0
  BeginsSo e c n = n ≤ c → (more : List Shown) × (all_items g e c ≡ all_items g Whole n ++ more)

  -- of an earlier cycle is shown, and has happened, what was when that cycle was over
  pub record ItemsStay (e : Extent) (c x : ℕ) : Type 0 where
    pub items : x < c → items_in g e c x ≡ items_in g Whole (suc x) x
    pub events : x < c → events_in (setting_of g) e c x ≡ events_in (setting_of g) Whole (suc x) x
