-- Runs that go on from a point.
use Rattle.std.proofs.Common.{◌≡◌, ◌+◌, ◌++◌, ℕ, List, [], ◌∷◌, refl, sym, ap, subst, ◌∙◌, append_assoc}
use Rattle.std.specs.Prelude.{Ok}
use Rattle.ecoff_load.specs.declared.image.Text.{Text}
use Rattle.event_trace.specs.declared.trace.Trace.{Trace}
use Rattle.paged_mem.specs.Memory.{byte_of}
use Rattle.sim_safe.specs.State.{State, Storage, state_of, HoldsText}
use Rattle.sim_safe.specs.Record.{Item}
use Rattle.sim_safe.specs.Run.{items_of, after, end_of}
use Rattle.sim_safe.specs.Commit.{line_of, text_of, output_of, outputs_of}
use Rattle.sim_safe.specs.Laws.{GoesOn}
use Rattle.checkpoint.specs.State.{PointState}
use Rattle.checkpoint.specs.Held.{IsPointOf, state_held, fit}
use Rattle.checkpoint.specs.Restart.{IsRest}
use Rattle.checkpoint.proofs.Fitting.{taken_fits}

text_append : (xs ys : List Item) → text_of (xs ++ ys) ≡ text_of xs ++ text_of ys
text_append [] ys = refl
text_append (x ∷ xs) ys = ap (λ t. line_of x ++ t) (text_append xs ys) ∙ sym (append_assoc (line_of x) (text_of xs) (text_of ys))

outputs_append : (xs ys : List Item) → outputs_of (xs ++ ys) ≡ outputs_of xs ++ outputs_of ys
outputs_append [] ys = refl
outputs_append (x ∷ xs) ys = ap (λ t. output_of x ++ t) (outputs_append xs ys) ∙ sym (append_assoc (output_of x) (outputs_of xs) (outputs_of ys))

-- from a state that is the one after k steps, the run is the rest
rest_from : (trace : Trace) (k n : ℕ) (s : State) (p : PointState) → GoesOn trace k n s → fit p s.text ≡ Ok tt → state_held p s.text ≡ after trace k s → IsRest trace k n s p
rest_from trace k n s p on fits same =
    let items : items_of trace (k + n) s ≡ items_of trace k s ++ items_of trace n (state_held p s.text) = on.items ∙ ap (λ u. items_of trace k s ++ items_of trace n u) (sym same) in
    record {
      fits = fits;
      items = items;
      text = ap text_of items ∙ text_append (items_of trace k s) (items_of trace n (state_held p s.text));
      output = ap outputs_of items ∙ outputs_append (items_of trace k s) (items_of trace n (state_held p s.text));
      state = on.state ∙ ap (after trace n) (sym same);
      end = λ h. on.end h ∙ ap (end_of trace n) (sym same);
    }

-- the same for a point that was taken after k steps
pub rest_of : (trace : Trace) (k n : ℕ) (s : State) (m : Storage) (p : PointState) → GoesOn trace k n s → (after trace k s).text ≡ s.text → HoldsText (after trace k s).reads.bytes (after trace k s).text
    → state_of m ≡ after trace k s → IsPointOf m p → IsRest trace k n s p
rest_of trace k n s m p on kept holds is taken =
    let held : HoldsText (byte_of m.pages) m.text = subst (λ (t : State). HoldsText t.reads.bytes t.text) (sym is) holds in
    let text : m.text ≡ s.text = ap (λ (t : State). t.text) is ∙ kept in
    rest_from trace k n s p on (subst (λ (x : Text). fit p x ≡ Ok tt) text (taken_fits m p taken held)) (subst (λ (x : Text). state_held p x ≡ after trace k s) text (taken.state ∙ is))
