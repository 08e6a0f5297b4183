-- Text that is added in parts.
use Rattle.std.specs.Prelude.{◌≡◌, ◌++◌, ◌+◌, ◌<◌, ℕ, List, ◌∷◌, length, drop, get_or, Option, Some, Result, Ok, Err, OnOk}
use Rattle.std.proofs.Common.{sym, ap, ◌∙◌, append_assoc}
use Rattle.std.proofs.lemmas.List.{drop_more}
use Rattle.ooo_table.specs.declared.event.Event.{Event}
use Rattle.pipetrace.specs.Text.{event_text, events_text}

-- one part more
pub with_part : (old mid new xs ys : List ℕ) → mid ≡ old ++ xs → new ≡ mid ++ ys → new ≡ old ++ (xs ++ ys)
with_part old mid new xs ys e h = h ∙ ap (λ z. z ++ ys) e ∙ append_assoc old xs ys

-- the last part, where it was added
pub with_last : {T E : Type 0} (r : Result T E) (old mid new xs ys : List ℕ) → mid ≡ old ++ xs → OnOk r (new ≡ mid ++ ys) → OnOk r (new ≡ old ++ (xs ++ ys))
with_last (Ok _) old mid new xs ys e h = with_part old mid new xs ys e h
with_last (Err _) old mid new xs ys e h = h

-- one event more
pub event_next : (events : List Event) (k : ℕ) (e : Event) (last : Option ℕ) (before new total : List ℕ) → k < length events → e ≡ get_or events k e → before ++ events_text last (drop k events) ≡ total → new ≡ before ++ event_text last e → new ++ events_text (Some e.cycle) (drop (k + 1) events) ≡ total
event_next events k e last before new total lt is so_far put =
    let others = events_text (Some e.cycle) (drop (k + 1) events) in
    let here : drop k events ≡ e ∷ drop (k + 1) events = drop_more events k e lt ∙ ap (λ (x : Event). x ∷ drop (k + 1) events) (sym is) in
    ap (λ (t : List ℕ). t ++ others) put
    ∙ append_assoc before (event_text last e) others
    ∙ ap (λ (es : List Event). before ++ events_text last es) (sym here)
    ∙ so_far
