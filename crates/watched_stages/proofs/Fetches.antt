-- What the fetch stage answers, as the events of the table.
use Rattle.std.proofs.Common.{◌≡◌, ℕ, suc, Bool, true, false, cond, List, [], ◌∷◌, ◌++◌, length, map, refl, sym, ap, ◌∙◌, subst}
use Rattle.std.specs.Prelude.{Result, reverse, ◌==◌, if◌then◌else◌}
use Rattle.std.specs.List.{AllZip}
use Rattle.std.proofs.lemmas.List.{reverse-append, reverse-reverse}
use Rattle.ooo_front.specs.declared.row.FetchRow.{FetchRow}
use Rattle.ooo_table.specs.declared.event.Mark.TheVariants as mark
use Rattle.ooo_table.specs.declared.event.Event.{Event}
use Rattle.ooo_table.specs.Row.{Row}
use Rattle.ooo_table.specs.Cycle.{table}
use Rattle.ooo_table.specs.Events.{fetch_mark}
use Rattle.ooo_table.specs.Machine.{Given, setting_of}
use Rattle.core_parts.specs.declared.parts.Parts.{Parts}
use Rattle.core_parts.specs.Rows.{pick, Waits}
use Rattle.core_parts.specs.Stages.{Fetches}
use Rattle.core_watch.specs.Shown.{Shown}
use Rattle.core_statistics.specs.declared.stats.CoreStats.{CoreStats}
use Rattle.core_statistics.specs.Counted.{with_fetches}
use Rattle.core_statistics.specs.Standing.{FetchesCounted}
use Rattle.core_statistics.proofs.Standing.{counts_stand}
use Rattle.core_watch.specs.StageItems.{fetched_events}
use Rattle.watched_stages.specs.Watched.{Shows, WatchedFetch, fetch_event}
use Rattle.watched_stages.proofs.Showing.{map_append}

append_none : {X : Type 0} (xs : List X) → xs ++ [] ≡ xs
append_none [] = refl
append_none (x ∷ xs) = ap (λ l. x ∷ l) (append_none xs)

module _ (g : Given) (c : ℕ) where
  event_same : (w : FetchRow) (r : Row) (older : List Row) → Waits g w (record { row = r; older = older })
      → fetch_event c w ≡ record { cycle = c; row = length older; mark = fetch_mark r.fetched }
  event_same w r older k =
      ap (λ n. record { cycle = c; row = n; mark = mark.Fetched w.pc w.next w.queued }) k.row
      ∙ (ap (λ n. record { cycle = c; row = length older; mark = mark.Fetched n w.next w.queued }) k.pc
      ∙ (ap (λ n. record { cycle = c; row = length older; mark = mark.Fetched r.fetched.pc n w.queued }) k.next
      ∙ ap (λ n. record { cycle = c; row = length older; mark = mark.Fetched r.fetched.pc r.fetched.predicted n }) k.queued))

  -- of rows with the newest first
  fetched_newest : (rows : List Row) (ws : List FetchRow) → AllZip (Waits g) ws (pick (λ r. r.fetched.at == c) rows)
      → map (fetch_event c) (reverse ws) ≡ fetched_events g c rows
  fetched_newest [] [] z = refl
  fetched_newest [] (w ∷ ws) z = absurd z
  fetched_newest (r ∷ older) ws z = by_test (r.fetched.at == c) ws z (λ vs. fetched_newest older vs)
    where
      by_test : (b : Bool) (ws : List FetchRow) → AllZip (Waits g) ws (cond b (record { row = r; older = older } ∷ pick (λ r. r.fetched.at == c) older) (pick (λ r. r.fetched.at == c) older))
          → ((vs : List FetchRow) → AllZip (Waits g) vs (pick (λ r. r.fetched.at == c) older) → map (fetch_event c) (reverse vs) ≡ fetched_events g c older)
          → map (fetch_event c) (reverse ws) ≡ fetched_events g c older ++ (if b then record { cycle = c; row = length older; mark = fetch_mark r.fetched } ∷ [] else [])
      by_test true [] z ih = absurd z
      by_test true (w ∷ ws) z ih =
          ap (map (fetch_event c)) (reverse-append (w ∷ []) ws)
          ∙ (map_append (fetch_event c) (reverse ws) (w ∷ [])
          ∙ (ap (λ es. es ++ (fetch_event c w ∷ [])) (ih ws z.1) ∙ ap (λ e. fetched_events g c older ++ (e ∷ [])) (event_same w r older z.0)))
      by_test false ws z ih = ih ws z ∙ sym (append_none (fetched_events g c older))

  pub events_fetched : (rows : List Row) (answer : List FetchRow) → AllZip (Waits g) (reverse answer) (pick (λ r. r.fetched.at == c) rows)
      → map (fetch_event c) answer ≡ fetched_events g c rows
  events_fetched rows answer z = ap (map (fetch_event c)) (sym (twice answer)) ∙ fetched_newest rows (reverse answer) z
    where
      twice : (xs : List FetchRow) → reverse (reverse xs) ≡ xs
      twice xs = reverse-reverse xs

pub watched_fetch : {S T F : Type 0} (took cut : S → List Shown → S → Type 0) (c : ℕ) (old new : Parts) (answer : List FetchRow) (counted counts : CoreStats) (before now : S) (result : Result T F)
    → Fetches c old new answer → counts ≡ with_fetches (length answer) counted → Shows took cut (map (fetch_event c) answer) before now result
    → WatchedFetch took cut c old new counted counts before now result
watched_fetch took cut c old new answer counted counts before now result fetches is shows g sound st =
    let so = fetches g sound st in (
      record {
        stands = so.stands;
        shown = subst (λ (es : List Event). Shows took cut es before now result) (events_fetched g c (table (setting_of g) (suc c)).rows answer so.fetched) shows;
      },
      subst (FetchesCounted g c counted) (sym is) ((counts_stand g c).fetches answer counted so.fetched),
    )
