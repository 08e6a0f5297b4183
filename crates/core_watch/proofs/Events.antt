-- Events that are shown one after another: how far it has come.
use Rattle.std.specs.Prelude.{◌≡◌, ◌+◌, ◌<◌, ◌≤◌, ℕ, List, ◌∷◌, length, drop, get_or}
use Rattle.std.proofs.Common.{inl, inr, refl, subst}
use Rattle.std.proofs.lemmas.List.{drop_more}
use Rattle.std.proofs.Math.ListN.{drop_of_length-le}
use Rattle.ooo_table.specs.declared.event.Event.{Event}
use Rattle.core_watch.specs.Shown.{Shown, Happened, behind, CutWithin, events}

-- a watch that had taken a history takes these events, of which some are left
pub record Along {S : Type 0} (took cut : S → List Shown → S → Type 0) (start : S) (h : List Shown) (all left : List Event) (now : S) : Type 0 where
  pub history : List Shown
  pub taken : took start history now
  pub whole : behind (events left) history ≡ behind (events all) h
  pub cuts : (z : S) → CutWithin cut start history (events left) z → CutWithin cut start h (events all) z

-- and so whatever it had taken before
abbrev pub Goes : {S : Type 0} → (S → List Shown → S → Type 0) → (S → List Shown → S → Type 0) → S → List Event → List Event → S → Type 0
Goes {S} took cut before all left now = (start : S) (h : List Shown) → took start h before → Along took cut start h all left now

pub goes_begin : {S : Type 0} (took cut : S → List Shown → S → Type 0) (before : S) (all : List Event) → Goes took cut before all all before
goes_begin took cut before all start h t = record { history = h; taken = t; whole = refl; cuts = λ z i. i }

-- the next event stands first in what is left
pub goes_at : {S : Type 0} (took cut : S → List Shown → S → Type 0) (before now : S) (all : List Event) (k : ℕ) (d : Event) → k < length all
    → Goes took cut before all (drop k all) now → Goes took cut before all (get_or all k d ∷ drop (k + 1) all) now
goes_at took cut before now all k d lt g start h t = subst (λ (left : List Event). Along took cut start h all left now) (drop_more all k d lt) (g start h t)

-- it was taken
pub goes_next : {S : Type 0} (took cut : S → List Shown → S → Type 0) (before now after : S) (all : List Event) (k : ℕ) (d : Event) → k < length all
    → Goes took cut before all (drop k all) now → ((start : S) (h : List Shown) → took start h now → took start (Happened (get_or all k d) ∷ h) after)
    → Goes took cut before all (drop (k + 1) all) after
goes_next took cut before now after all k d lt g takes start h t =
    let a = goes_at took cut before now all k d lt g start h t in
    record { history = Happened (get_or all k d) ∷ a.history; taken = takes start a.history a.taken; whole = a.whole; cuts = λ z i. a.cuts z (inr i) }

-- the watch was cut within it
pub goes_cut : {S : Type 0} (took cut : S → List Shown → S → Type 0) (before now after : S) (all : List Event) (k : ℕ) (d : Event) → k < length all
    → Goes took cut before all (drop k all) now → ((start : S) (h : List Shown) → took start h now → cut start (Happened (get_or all k d) ∷ h) after)
    → (start : S) (h : List Shown) → took start h before → CutWithin cut start h (events all) after
goes_cut took cut before now after all k d lt g cuts start h t =
    let a = goes_at took cut before now all k d lt g start h t in
    a.cuts after (inl (cuts start a.history a.taken))

-- none is left
pub goes_end : {S : Type 0} (took cut : S → List Shown → S → Type 0) (before now : S) (all : List Event) (k : ℕ) → length all ≤ k
    → Goes took cut before all (drop k all) now → (start : S) (h : List Shown) → took start h before → took start (behind (events all) h) now
goes_end took cut before now all k le g start h t =
    let a = subst (λ (left : List Event). Along took cut start h all left now) (drop_of_length-le all le) (g start h t) in
    subst (λ (history : List Shown). took start history now) a.whole a.taken
