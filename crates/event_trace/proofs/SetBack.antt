-- A world that is set back to where it was before a call is the world before the call.
use Rattle.std.proofs.Common.{◌≡◌, ℕ, List, [], ◌∷◌, Bool, false, Ok, sym, ap, subst, ◌∙◌}
use Rattle.event_trace.specs.declared.trace.Record.{Record}
use Rattle.event_trace.specs.declared.trace.Trace.{Trace}
use Rattle.event_trace.specs.World.{WorldState, File, ProgressState, progress_of, set_to, served}
use Rattle.event_trace.specs.WorldLaws.{Keeps}
use Rattle.event_trace.specs.Recorder.{RecorderState, with_more, is_within_limits, Adds}
use Rattle.event_trace.proofs.WorldLawProofs.{keeps}

abbrev world_of : List ℕ → List File → ℕ → ProgressState → WorldState
world_of input files start_break at = record {
  input = input;
  position = at.position;
  files = files;
  opens = at.opens;
  start_break = start_break;
  program_break = at.program_break;
}

kept_set_back : (w v : WorldState) → Keeps w v → set_to v (progress_of w) ≡ w
kept_set_back w v k =
    ap (λ input. world_of input v.files v.start_break (progress_of w)) k.input
    ∙ ap (λ files. world_of w.input files v.start_break (progress_of w)) k.files
    ∙ ap (λ start_break. world_of w.input w.files start_break (progress_of w)) k.start_break

pub set_back_is : (w v : WorldState) (at : ProgressState) (icnt pc : ℕ) (regs mem : ℕ → ℕ) (r : Record) → at ≡ progress_of w → served w icnt pc regs mem ≡ (r, v) → set_to v at ≡ w
set_back_is w v at icnt pc regs mem r p e =
    ap (set_to v) p ∙ ap (λ x. set_to x.1 (progress_of w)) (sym e) ∙ kept_set_back w (served w icnt pc regs mem).1 (keeps w icnt pc regs mem)

abbrev recorder_of : WorldState → Trace → RecorderState
recorder_of world trace = record { world = world; trace = trace }

-- a recorder whose world is set back, and whose trace is as before the call, is as before the call
pub refused_is_before : (old mid : RecorderState) (w v u back : WorldState) (t x : Trace) (at : ProgressState) (icnt pc : ℕ) (regs mem : ℕ → ℕ) (r : Record) → recorder_of w t ≡ old → at ≡ progress_of w
    → served w icnt pc regs mem ≡ (r, v) → recorder_of u x ≡ mid → mid ≡ recorder_of v t → back ≡ set_to u at → recorder_of back x ≡ old
refused_is_before old mid w v u back t x at icnt pc regs mem r e p s f g b =
    let same : recorder_of u x ≡ recorder_of v t = f ∙ g in
    let world : back ≡ w = b ∙ ap (λ y. set_to y.world at) same ∙ set_back_is w v at icnt pc regs mem r p s in
    ap (λ y. recorder_of y x) world ∙ ap (λ y. recorder_of w y.trace) same ∙ e

-- a record that was not added found no room, and left the recorder
pub adds_false : (r : Record) (old new : RecorderState) (b : Bool) → b ≡ false → Adds r old new (Ok b) → Adds r old new (Ok false)
adds_false r old new b e a = subst (λ x. Adds r old new (Ok x)) e a

-- the record that was refused is the one that the world served
pub refused_by_limits : (old : RecorderState) (w v : WorldState) (t : Trace) (icnt pc : ℕ) (regs mem : ℕ → ℕ) (r : Record) → recorder_of w t ≡ old → served w icnt pc regs mem ≡ (r, v)
    → is_within_limits (with_more t (r ∷ [])) ≡ false → is_within_limits (with_more old.trace ((served old.world icnt pc regs mem).0 ∷ [])) ≡ false
refused_by_limits old w v t icnt pc regs mem r e s l =
    let P : RecorderState → Type 0 = λ o. is_within_limits (with_more o.trace ((served o.world icnt pc regs mem).0 ∷ [])) ≡ false in
    subst P e (ap (λ x. is_within_limits (with_more t (x.0 ∷ []))) s ∙ l)
