-- Events that are shown one after another, in whatever way they are found.
use Rattle.std.specs.Prelude.{◌≡◌, ◌+◌, ◌<◌, ◌≤◌, ℕ, List, [], ◌∷◌, ◌++◌, length, map, drop, get_or, Result, Ok, Err}
use Rattle.std.proofs.Common.{inl, inr, refl, sym, ap, ◌∙◌, subst}
use Rattle.std.proofs.lemmas.List.{drop_more}
use Rattle.std.proofs.Math.ListN.{drop_of_length-le}
use Rattle.ooo_table.specs.declared.event.Event.{Event}
use Rattle.core_watch.specs.Shown.{Shown, Happened, behind, CutWithin, TakesAll, events}
use Rattle.core_watch.proofs.Events.{Along, Goes}
use Rattle.watched_stages.specs.Watched.{Shows}

pub map_append : {X Y : Type 0} (f : X → Y) (xs ys : List X) → map f (xs ++ ys) ≡ map f xs ++ map f ys
map_append f [] ys = refl
map_append f (x ∷ xs) ys = ap (λ l. f x ∷ l) (map_append f xs ys)

module _ {S : Type 0} (took cut : S → List Shown → S → Type 0) where
  -- the next event was taken
  pub goes_on : (before now after : S) (all left rest : List Event) (e : Event) → left ≡ e ∷ rest → Goes took cut before all left now
      → ((start : S) (h : List Shown) → took start h now → took start (Happened e ∷ h) after) → Goes took cut before all rest after
  goes_on before now after all left rest e is g takes start h t =
      let a = subst (λ (l : List Event). Along took cut start h all l now) is (g start h t) in
      record { history = Happened e ∷ a.history; taken = takes start a.history a.taken; whole = a.whole; cuts = λ z i. a.cuts z (inr i) }

  -- the watch was cut within it
  pub goes_short : (before now after : S) (all left rest : List Event) (e : Event) → left ≡ e ∷ rest → Goes took cut before all left now
      → ((start : S) (h : List Shown) → took start h now → cut start (Happened e ∷ h) after)
      → (start : S) (h : List Shown) → took start h before → CutWithin cut start h (events all) after
  goes_short before now after all left rest e is g cuts start h t =
      let a = subst (λ (l : List Event). Along took cut start h all l now) is (g start h t) in
      a.cuts after (inl (cuts start a.history a.taken))

  -- none is left
  pub goes_over : (before now : S) (all left : List Event) → left ≡ [] → Goes took cut before all left now
      → (start : S) (h : List Shown) → took start h before → took start (behind (events all) h) now
  goes_over before now all left is g start h t =
      let a = subst (λ (l : List Event). Along took cut start h all l now) is (g start h t) in
      subst (λ (history : List Shown). took start history now) a.whole a.taken

-- ---- events of items

-- the event of the next item is the next event
pub event_next : {X : Type 0} (f : X → Event) (xs : List X) (k : ℕ) (d : X) (e : Event) → k < length xs → e ≡ f (get_or xs k d)
    → map f (drop k xs) ≡ e ∷ map f (drop (k + 1) xs)
event_next f xs k d e lt is = ap (map f) (drop_more xs k d lt) ∙ ap (λ x. x ∷ map f (drop (k + 1) xs)) (sym is)

pub event_none : {X : Type 0} (f : X → Event) (xs : List X) (k : ℕ) → length xs ≤ k → map f (drop k xs) ≡ []
event_none f xs k le = ap (map f) (drop_of_length-le xs le)

-- ---- two lists of events

pub behind_append : (xs ys h : List Shown) → behind (xs ++ ys) h ≡ behind ys (behind xs h)
behind_append [] ys h = refl
behind_append (x ∷ xs) ys h = behind_append xs ys (x ∷ h)

module _ {S : Type 0} (took cut : S → List Shown → S → Type 0) where
  pub cut_front : (start : S) (xs ys h : List Shown) (now : S) → CutWithin cut start h xs now → CutWithin cut start h (xs ++ ys) now
  cut_front start [] ys h now k = absurd k
  cut_front start (x ∷ xs) ys h now (inl k) = inl k
  cut_front start (x ∷ xs) ys h now (inr k) = inr (cut_front start xs ys (x ∷ h) now k)

  pub cut_back : (start : S) (xs ys h : List Shown) (now : S) → CutWithin cut start (behind xs h) ys now → CutWithin cut start h (xs ++ ys) now
  cut_back start [] ys h now k = k
  cut_back start (x ∷ xs) ys h now k = inr (cut_back start xs ys (x ∷ h) now k)

  -- the watch was cut within one of the first ones
  pub shows_first : (first second : List Event) (before now : S) → ((start : S) (h : List Shown) → took start h before → CutWithin cut start h (events first) now)
      → (start : S) (h : List Shown) → took start h before → CutWithin cut start h (events (first ++ second)) now
  shows_first first second before now one start h t =
      subst (λ (xs : List Shown). CutWithin cut start h xs now) (sym (map_append Happened first second)) (cut_front start (events first) (events second) h now (one start h t))

module _ {S T F : Type 0} (took cut : S → List Shown → S → Type 0) where
  -- the first ones were taken
  pub shows_both : (first second : List Event) (before mid now : S) (result : Result T F) → ((start : S) (h : List Shown) → took start h before → took start (behind (events first) h) mid)
      → Shows took cut second mid now result → Shows took cut (first ++ second) before now result
  shows_both first second before mid now result one two start h t =
      subst (λ (xs : List Shown). TakesAll took cut start h xs now result) (sym (map_append Happened first second)) (by_result result (two start (behind (events first) h) (one start h t)))
    where
      by_result : (result : Result T F) → TakesAll took cut start (behind (events first) h) (events second) now result → TakesAll took cut start h (events first ++ events second) now result
      by_result (Ok x) k = subst (λ (l : List Shown). took start l now) (sym (behind_append (events first) (events second) h)) k
      by_result (Err f) k = cut_back took cut start (events first) (events second) h now k
