-- The events among what is shown are those that it was made of.
use Rattle.std.specs.Prelude.{◌≡◌, ℕ, List, [], ◌∷◌, ◌++◌, length, map, ◌==◌, if◌then◌else◌, Bool, true, false}
use Rattle.std.proofs.Common.{refl, ap, ◌∙◌}
use Rattle.sim_safe.specs.Record.{Item}
use Rattle.sim_safe.specs.Step.{step_of}
use Rattle.ooo_table.specs.declared.event.Mark.{Mark}
use Rattle.ooo_table.specs.declared.event.Mark.TheVariants as mark
use Rattle.ooo_table.specs.declared.event.Event.{Event}
use Rattle.ooo_table.specs.Row.{Row}
use Rattle.ooo_table.specs.Ends.{Extent, rows_at}
use Rattle.ooo_table.specs.Events.{events_in}
use Rattle.ooo_table.specs.Machine.{Given, setting_of}
use Rattle.ooo_table.specs.RunLaws.{recorded_by}
use Rattle.core_watch.specs.Shown.{Shown, Committed}
use Rattle.core_watch.specs.Items.{recorded_of, behind_event, items_of, items_in, events_among}

records_show_none : (dids : List Item) (xs : List Shown) → events_among (map Committed dids ++ xs) ≡ events_among xs
records_show_none [] xs = refl
records_show_none (did ∷ dids) xs = records_show_none dids xs

either_shows_none : (b : Bool) (dids : List Item) (other xs : List Shown) → events_among (other ++ xs) ≡ events_among xs
    → events_among ((if b then map Committed dids else other) ++ xs) ≡ events_among xs
either_shows_none true dids other xs h = records_show_none dids xs
either_shows_none false dids other xs h = h

recorded_shows_none : (g : Given) (n : ℕ) (rows : List Row) (xs : List Shown) → events_among (recorded_of g n rows ++ xs) ≡ events_among xs
recorded_shows_none g n [] xs = refl
recorded_shows_none g n (r ∷ older) xs =
    either_shows_none (length older == n) (recorded_by g (step_of g.trace r.fetched.state)) (recorded_of g n older) xs (recorded_shows_none g n older xs)

behind_shows_none : (g : Given) (rows : List Row) (n : ℕ) (m : Mark) (xs : List Shown) → events_among (behind_event g rows n m ++ xs) ≡ events_among xs
behind_shows_none g rows n mark.Committed xs = recorded_shows_none g n rows xs
behind_shows_none g rows n mark.Written xs = refl
behind_shows_none g rows n mark.Returned xs = refl
behind_shows_none g rows n mark.Squashed xs = refl
behind_shows_none g rows n mark.Issued xs = refl
behind_shows_none g rows n mark.Accessed xs = refl
behind_shows_none g rows n mark.Dispatched xs = refl
behind_shows_none g rows n (mark.Fetched pc next queued) xs = refl

pub events_of_shown : (g : Given) (rows : List Row) (es : List Event) → events_among (items_of g rows es) ≡ es
events_of_shown g rows [] = refl
events_of_shown g rows (e ∷ es) =
    ap (λ (ys : List Event). e ∷ ys) (behind_shows_none g rows e.row e.mark (items_of g rows es) ∙ events_of_shown g rows es)

pub events_of_items : (g : Given) (e : Extent) (c x : ℕ) → events_among (items_in g e c x) ≡ events_in (setting_of g) e c x
unfolding items_in
events_of_items g e c x = events_of_shown g (rows_at (setting_of g) e c) (events_in (setting_of g) e c x)
