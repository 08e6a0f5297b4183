-- What is shown of a run is what is shown of its cycles.
use Rattle.std.proofs.Common.{◌≡◌, ℕ, zero, suc, ◌+◌, ◌-◌, ◌≤◌, List, [], ◌∷◌, ◌++◌, refl, sym, ap, ◌∙◌, arith, append_assoc, append-nil}
use Rattle.ooo_table.specs.declared.event.Event.{Event}
use Rattle.ooo_table.specs.Ends.{Extent, Whole, AtCommit, AtStop}
use Rattle.ooo_table.specs.Events.{events_below, all_events, cycles_of}
use Rattle.ooo_table.specs.Machine.{Given, setting_of}
use Rattle.core_watch.specs.Shown.{Shown, Happened, Committed}
use Rattle.core_watch.specs.Items.{items_in, events_among}
use Rattle.core_watch.proofs.Items.{events_of_items}
use Rattle.shown_run.specs.Run.{items_below, all_items, AddsItems, BeginsSo}
use Rattle.shown_run.proofs.Stays.{items_same}

module _ (g : Given) where
  -- of the first cycles, each as it was when it was over
  abbrev so_far : ℕ → List Shown
  so_far zero = []
  so_far (suc x) = so_far x ++ items_in g Whole (suc x) x

  below_so_far : (e : Extent) (c n : ℕ) → n ≤ c → items_below g e c n ≡ so_far n
  unfolding items_below
  below_so_far e c zero le = refl
  below_so_far e c (suc n) le =
      ap (λ l. l ++ items_in g e c n) (below_so_far e c n (omega (arith, le))) ∙ ap (λ l. so_far n ++ l) (items_same g e c n (omega (arith, le)))

  pub adds_items : (c : ℕ) → AddsItems g c
  unfolding items_below
  adds_items c =
      record {
        none = refl;
        whole = ap (λ l. l ++ items_in g Whole (suc c) c) (below_so_far Whole (suc c) c (omega arith) ∙ sym (below_so_far Whole c c (omega arith)));
        commit = λ row. ap (λ l. l ++ items_in g (AtCommit row) c c) (below_so_far (AtCommit row) c c (omega arith) ∙ sym (below_so_far Whole c c (omega arith)));
        stop = ap (λ l. l ++ items_in g AtStop c c) (below_so_far AtStop c c (omega arith) ∙ sym (below_so_far Whole c c (omega arith)));
      }

  -- ---- the first cycles

  so_far_more : (n k : ℕ) → (more : List Shown) × (so_far (k + n) ≡ so_far n ++ more)
  so_far_more n zero = let none : 0 + n ≡ n = omega arith in ([], ap so_far none ∙ sym (append-nil (so_far n)))
  so_far_more n (suc k) =
      let next : suc k + n ≡ suc (k + n) = omega arith in
      let (more, e) = so_far_more n k in (
        more ++ items_in g Whole (suc (k + n)) (k + n),
        ap so_far next ∙ (ap (λ l. l ++ items_in g Whole (suc (k + n)) (k + n)) e ∙ append_assoc (so_far n) more (items_in g Whole (suc (k + n)) (k + n))),
      )

  last_items : Extent → ℕ → List Shown
  last_items Whole c = []
  last_items (AtCommit row) c = items_in g (AtCommit row) c c
  last_items AtStop c = items_in g AtStop c c

  all_so_far : (e : Extent) (c : ℕ) → all_items g e c ≡ so_far c ++ last_items e c
  unfolding items_below last_items
  all_so_far Whole c = below_so_far Whole c c (omega arith) ∙ sym (append-nil (so_far c))
  all_so_far (AtCommit row) c = ap (λ l. l ++ items_in g (AtCommit row) c c) (below_so_far (AtCommit row) c c (omega arith))
  all_so_far AtStop c = ap (λ l. l ++ items_in g AtStop c c) (below_so_far AtStop c c (omega arith))

  pub begins_so : (e : Extent) (c n : ℕ) → BeginsSo g e c n
  begins_so e c n le =
      let k : ℕ = c - n in
      let at : c ≡ k + n = omega (arith, le) in
      let (more, same) = so_far_more n k in (
        more ++ last_items e c,
        all_so_far e c
            ∙ (ap (λ l. l ++ last_items e c) (ap so_far at ∙ (same ∙ ap (λ l. l ++ more) (sym (below_so_far Whole n n (omega arith)))))
            ∙ append_assoc (all_items g Whole n) more (last_items e c)),
      )

-- ---- events

events_append : (xs ys : List Shown) → events_among (xs ++ ys) ≡ events_among xs ++ events_among ys
events_append [] ys = refl
events_append (Happened e ∷ xs) ys = ap (λ (l : List Event). e ∷ l) (events_append xs ys)
events_append (Committed did ∷ xs) ys = events_append xs ys

events_so : (g : Given) (e : Extent) (c n : ℕ) → events_among (items_below g e c n) ≡ events_below (setting_of g) e c n
unfolding items_below
events_so g e c zero = refl
events_so g e c (suc n) =
    events_append (items_below g e c n) (items_in g e c n)
    ∙ (ap (λ l. l ++ events_among (items_in g e c n)) (events_so g e c n) ∙ ap (λ l. events_below (setting_of g) e c n ++ l) (events_of_items g e c n))

pub events_all : (g : Given) (e : Extent) (c : ℕ) → events_among (all_items g e c) ≡ all_events (setting_of g) e c
events_all g e c = events_so g e c (cycles_of e c)
