-- What the issue stage answers, as the events of the table.
use Rattle.std.proofs.Common.{◌≡◌, ℕ, Bool, true, false, List, [], ◌∷◌, ◌++◌, length, map, refl, sym, ap, ◌∙◌, subst}
use Rattle.std.specs.Prelude.{Result, if◌then◌else◌}
use Rattle.ooo_table.specs.declared.event.Mark.TheVariants as mark
use Rattle.ooo_table.specs.declared.event.Event.{Event}
use Rattle.ooo_table.specs.Row.{Row, is_at, accessed, not_forwarded}
use Rattle.ooo_table.specs.Cycle.{after_issue}
use Rattle.ooo_table.specs.Events.{event_at}
use Rattle.ooo_table.specs.Machine.{Given, setting_of}
use Rattle.core_parts.specs.declared.answers.Issued.{Issued}
use Rattle.core_parts.specs.declared.answers.Issued.TheVariants as issued
use Rattle.core_parts.specs.declared.parts.Parts.{Parts}
use Rattle.core_parts.specs.Stages.{Issues, issued_of, issued_in}
use Rattle.core_watch.specs.Shown.{Shown}
use Rattle.core_statistics.specs.declared.stats.CoreStats.{CoreStats}
use Rattle.core_statistics.specs.Counted.{with_issues}
use Rattle.core_statistics.specs.Standing.{IssuesCounted}
use Rattle.core_statistics.proofs.Standing.{counts_stand}
use Rattle.core_watch.specs.StageItems.{issued_events}
use Rattle.watched_stages.specs.Watched.{Shows, WatchedIssue, issue_event}
use Rattle.watched_stages.proofs.Showing.{map_append}

events_of : (c n : ℕ) (r : Row) → map (issue_event c) (issued_of c n r) ≡ event_at c r.issued mark.Issued n ++ event_at c (accessed r) mark.Accessed n
events_of c n r = by_marks (is_at c r.issued) (is_at c (accessed r)) (if not_forwarded r.access then false else true)
  where
    by_marks : (a b f : Bool)
        → map (issue_event c) ((if a then issued.Main n ∷ [] else []) ++ (if b then issued.Access n f ∷ [] else []))
        ≡ (if a then record { cycle = c; row = n; mark = mark.Issued } ∷ [] else []) ++ (if b then record { cycle = c; row = n; mark = mark.Accessed } ∷ [] else [])
    by_marks true true f = refl
    by_marks true false f = refl
    by_marks false true f = refl
    by_marks false false f = refl

pub events_issued : (g : Given) (c : ℕ) (rows : List Row) → map (issue_event c) (issued_in c rows) ≡ issued_events g c rows
events_issued g c [] = refl
events_issued g c (r ∷ older) =
    map_append (issue_event c) (issued_in c older) (issued_of c (length older) r)
    ∙ (ap (λ es. es ++ map (issue_event c) (issued_of c (length older) r)) (events_issued g c older)
    ∙ ap (λ es. issued_events g c older ++ es) (events_of c (length older) r))

pub watched_issue : {S T F : Type 0} (took cut : S → List Shown → S → Type 0) (c : ℕ) (old new : Parts) (answer : List Issued) (counted counts : CoreStats) (before now : S) (result : Result T F)
    → Issues c old new answer → new.arch ≡ old.arch → counts ≡ with_issues answer counted → Shows took cut (map (issue_event c) answer) before now result
    → WatchedIssue took cut c old new counted counts before now result
watched_issue took cut c old new answer counted counts before now result issues arch is shows g sound st =
    let so = issues g sound st in (
      record {
        stands = so.stands;
        shown = subst (λ (es : List Event). Shows took cut es before now result) (ap (map (issue_event c)) so.issued ∙ events_issued g c (after_issue (setting_of g) c).rows) shows;
      },
      subst (IssuesCounted g c counted) (sym is) ((counts_stand g c).issues answer counted so.issued),
      arch,
    )
