-- The text of a program in its memory.
use Rattle.std.proofs.Common.{◌≡◌, ◌<◌, ◌≤◌, ◌-◌, ◌+◌, ℕ, zero, suc, List, [], ◌∷◌, length, refl, sym, ap, subst, ◌∙◌, arith, ◌⊎◌, inl, inr}
use Rattle.std.specs.Prelude.{Bool, true, false, slice_index, if◌then◌else◌}
use Rattle.std.specs.List.{AllByRecursion}
use Rattle.ecoff_load.specs.declared.image.Text.{Text}
use Rattle.ecoff_load.specs.declared.image.Part.{Part}
use Rattle.ecoff_load.specs.declared.image.Image.{Image}
use Rattle.ecoff_load.specs.Object.{IsApart, IsPart, IsImage, brought}
use Rattle.ecoff_load.specs.Sections.{brings_bytes}
use Rattle.ecoff_load.specs.Start.{block}
use Rattle.pisa_step.specs.Reader.{bytes_with}
use Rattle.paged_mem.proofs.Overlaid.{overlaid-before, overlaid-in, overlaid-past, overlaid-none}
use Rattle.event_trace.specs.declared.trace.Trace.{Trace}
use Rattle.sim_safe.specs.State.{State, HoldsText, laid, image_memory, start_state}
use Rattle.sim_safe.specs.Step.{Outcome, Next, Halt, step_of}
use Rattle.sim_safe.specs.Run.{after, after_more}
use Rattle.sim_safe.specs.Laws.{KeepsOn, StepKeeps}
use Rattle.sim_safe.proofs.Keeping.{steps_keep}

-- ---- the start

all_or_none : (brings : Bool) (size : ℕ) → (if brings then size else 0) ≤ size
all_or_none true size = omega arith
all_or_none false size = omega arith

-- a part leaves the bytes of the text
part_misses : (text : Text) (p : Part) (f : ℕ → ℕ) (a : ℕ) → length p.bytes ≤ p.size → IsApart text p → text.start ≤ a → a < text.start + length text.bytes → bytes_with f p.addr p.bytes a ≡ f a
part_misses text p f a most (inl none) low high = ap (λ (g : ℕ → ℕ). g a) (overlaid-none f p.addr p.bytes none)
part_misses text p f a most (inr (inl before)) low high = overlaid-past f p.addr p.bytes a (omega (arith, most, before, low))
part_misses text p f a most (inr (inr behind)) low high = overlaid-before f p.addr p.bytes a (omega (arith, behind, high))

part_most : (text : Text) (p : Part) → IsPart text p → length p.bytes ≤ p.size
part_most text p fits =
    let most : brought p ≤ p.size = all_or_none (brings_bytes p.kind) p.size in
    omega (arith, fits.bytes, most)

parts_hold : (text : Text) (parts : List Part) (f : ℕ → ℕ) → AllByRecursion (IsPart text) parts → HoldsText f text → HoldsText (laid f parts) text
parts_hold text [] f fit h = h
parts_hold text (p ∷ ps) f fit h =
    parts_hold text ps (bytes_with f p.addr p.bytes) fit.1
    (λ k lt. part_misses text p f (text.start + k) (part_most text p fit.0) fit.0.apart (omega arith) (omega (arith, lt)) ∙ h k lt)

text_itself : (text : Text) (f : ℕ → ℕ) → HoldsText (bytes_with f text.start text.bytes) text
text_itself text f k lt =
    let place : text.start + k - text.start ≡ k = omega arith in
    overlaid-in f text.start text.bytes (text.start + k) (omega arith) (omega (arith, lt)) ∙ ap (slice_index text.bytes) place

block_misses : (image : Image) (content : List ℕ) (a : ℕ) → IsImage image → a < image.text.start + length image.text.bytes → bytes_with (image_memory image) 0x7fff8000 content a ≡ image_memory image a
block_misses image content a fits high = overlaid-before (image_memory image) 0x7fff8000 content a (omega (arith, fits.text.range, high))

pub start_holds : (image : Image) (args : List (List ℕ)) → IsImage image → HoldsText (start_state image args).reads.bytes image.text
unfolding start_state
start_holds image args fits k lt =
    block_misses image (block image.text.big args) (image.text.start + k) fits (omega (arith, lt))
    ∙ parts_hold image.text image.parts (bytes_with (λ _. 0) image.text.start image.text.bytes) fits.parts (text_itself image.text (λ _. 0)) k lt

-- ---- runs

next_holds : (s t : State) → KeepsOn s t → HoldsText s.reads.bytes s.text → HoldsText t.reads.bytes t.text
next_holds s t keeps h =
    subst (λ (x : Text). HoldsText t.reads.bytes x) (sym keeps.text) (λ k lt. keeps.in_text (s.text.start + k) (omega arith) (omega (arith, lt)) ∙ h k lt)

holds_if : (trace : Trace) (n : ℕ) (s : State) (o : Outcome) → StepKeeps s o → HoldsText s.reads.bytes s.text → ((t : State) → HoldsText t.reads.bytes t.text → HoldsText (after trace n t).reads.bytes (after trace n t).text)
    → HoldsText (after_more (after trace n) s o).reads.bytes (after_more (after trace n) s o).text
holds_if trace n s (Next r t) keeps h rest = rest t (next_holds s t keeps h)
holds_if trace n s (Halt why) keeps h rest = h

pub after_holds : (trace : Trace) (n : ℕ) (s : State) → HoldsText s.reads.bytes s.text → HoldsText (after trace n s).reads.bytes (after trace n s).text
unfolding after
after_holds trace zero s h = h
after_holds trace (suc n) s h = holds_if trace n s (step_of trace s) (steps_keep trace s) h (λ t g. after_holds trace n t g)

text_if : (trace : Trace) (n : ℕ) (s : State) (o : Outcome) → StepKeeps s o → ((t : State) → (after trace n t).text ≡ t.text) → (after_more (after trace n) s o).text ≡ s.text
text_if trace n s (Next r t) keeps rest = rest t ∙ keeps.text
text_if trace n s (Halt why) keeps rest = refl

pub text_kept : (trace : Trace) (n : ℕ) (s : State) → (after trace n s).text ≡ s.text
unfolding after
text_kept trace zero s = refl
text_kept trace (suc n) s = text_if trace n s (step_of trace s) (steps_keep trace s) (λ t. text_kept trace n t)
