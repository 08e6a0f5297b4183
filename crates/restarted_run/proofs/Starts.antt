-- The states in which programs start.
use Rattle.std.proofs.Common.{◌≡◌, ◌+◌, ◌<◌, ◌≤◌, ◌^◌, ℕ, zero, suc, Bool, true, false, List, [], ◌∷◌, length, refl, sym, ap, ◌∙◌, arith, if◌then◌else◌}
use Rattle.std.specs.Prelude.{nat_eq}
use Rattle.std.specs.List.{AllByRecursion}
use Rattle.std.proofs.lemmas.Bool.Decides.{nat_tests}
use Rattle.ecoff_load.specs.declared.image.Image.{Image}
use Rattle.ecoff_load.specs.declared.image.Part.{Part}
use Rattle.ecoff_load.specs.declared.image.Text.{Text}
use Rattle.ecoff_load.specs.Object.{IsImage, IsPart, brought}
use Rattle.ecoff_load.specs.Sections.{brings_bytes}
use Rattle.ecoff_load.specs.Start.{block}
use Rattle.event_trace.specs.declared.trace.Trace.{Trace}
use Rattle.pisa_step.specs.Reader.{bytes_with}
use Rattle.sim_safe.specs.State.{State, HoldsText, laid, image_memory, start_regs, start_state}
use Rattle.sim_safe.specs.Step.{Outcome, Next, Halt, step_of}
use Rattle.sim_safe.specs.Run.{after, after_more}
use Rattle.sim_safe.specs.Laws.{StepKeeps}
use Rattle.restarted_run.specs.Within.{IsWithin, HoldsProgram, AreBytes, BringsBytes, FitsBlock}
use Rattle.restarted_run.proofs.Bytes.{memory_bytes, memory_above}

-- ---- memory

most_brought : (brings : Bool) (size : ℕ) → (if brings then size else 0) ≤ size
most_brought true size = omega arith
most_brought false size = omega arith

part_ends : (text : Text) (p : Part) → IsPart text p → p.addr + length p.bytes ≤ 2 ^ 32
part_ends text p fits =
    let most : brought p ≤ p.size = most_brought (brings_bytes p.kind) p.size in
    omega (arith, fits.range, fits.bytes, most)

laid_bytes : (parts : List Part) (f : ℕ → ℕ) → AllByRecursion (λ (p : Part). AreBytes p.bytes) parts → ((a : ℕ) → f a < 2 ^ 8) → (a : ℕ) → laid f parts a < 2 ^ 8
laid_bytes [] f all h a = h a
laid_bytes (p ∷ ps) f all h a = laid_bytes ps (bytes_with f p.addr p.bytes) all.1 (memory_bytes f p.addr p.bytes h all.0) a

laid_above : (text : Text) (parts : List Part) (f : ℕ → ℕ) (a : ℕ) → AllByRecursion (IsPart text) parts → 2 ^ 32 ≤ a → laid f parts a ≡ f a
laid_above text [] f a fit high = refl
laid_above text (p ∷ ps) f a fit high = laid_above text ps (bytes_with f p.addr p.bytes) a fit.1 high ∙ memory_above f p.addr p.bytes a (part_ends text p fit.0) high

nothing : ℕ → ℕ
nothing a = 0

image_bytes : (image : Image) → BringsBytes image → (a : ℕ) → image_memory image a < 2 ^ 8
image_bytes image brings a =
    laid_bytes image.parts (bytes_with (λ _. 0) image.text.start image.text.bytes) brings.parts
    (memory_bytes (λ _. 0) image.text.start image.text.bytes (λ b. omega arith) brings.text) a

image_above : (image : Image) (a : ℕ) → IsImage image → 2 ^ 32 ≤ a → image_memory image a ≡ 0
image_above image a is high =
    laid_above image.text image.parts (bytes_with (λ _. 0) image.text.start image.text.bytes) a is.parts high
    ∙ memory_above (λ _. 0) image.text.start image.text.bytes a (omega (arith, is.text.range)) high

-- ---- registers

regs_if : (test : Bool) → (if test then 0x7fff8000 else 0) < 2 ^ 32
regs_if true = omega arith
regs_if false = omega arith

regs_above : (n : ℕ) → 32 ≤ n → start_regs n ≡ 0
regs_above n high = grind (arith, nat_tests)

pub start_within : (image : Image) (args : List (List ℕ)) → IsImage image → BringsBytes image → FitsBlock image args → IsWithin (start_state image args)
unfolding start_state
start_within image args is brings fits = record {
  pc = is.entry;
  registers = λ n. regs_if (nat_eq n 29);
  hi = omega arith;
  lo = omega arith;
  bytes = λ a. memory_bytes (image_memory image) 0x7fff8000 (block image.text.big args) (image_bytes image brings) fits.bytes a;
  others = record {
    zero = refl;
    registers = regs_above;
    addresses = λ a high. memory_above (image_memory image) 0x7fff8000 (block image.text.big args) a fits.end high ∙ image_above image a is high;
  };
  used = omega arith;
  code = tt;
}

-- ---- programs

module _ (keeps : (trace : Trace) (s : State) → StepKeeps s (step_of trace s)) (trace : Trace) where
  order_more : (n : ℕ) (s : State) (o : Outcome) → StepKeeps s o → ((t : State) → (after trace n t).reads.big ≡ t.reads.big) → (after_more (after trace n) s o).reads.big ≡ s.reads.big
  order_more n s (Next r t) k f = f t ∙ k.big
  order_more n s (Halt why) k f = refl

  order_stays : (n : ℕ) (s : State) → (after trace n s).reads.big ≡ s.reads.big
  unfolding after
  order_stays zero s = refl
  order_stays (suc n) s = order_more n s (step_of trace s) (keeps trace s) (λ t. order_stays n t)

  pub program_stays : (n : ℕ) (s : State) → (after trace n s).text ≡ s.text → HoldsText (after trace n s).reads.bytes (after trace n s).text → HoldsProgram s → HoldsProgram (after trace n s)
  program_stays n s same content h = record {
    fits = rw same h.fits;
    order = order_stays n s ∙ h.order ∙ ap (λ (t : Text). t.big) (sym same);
    content = content;
  }

pub program_loaded : (image : Image) (args : List (List ℕ)) → IsImage image → HoldsText (start_state image args).reads.bytes image.text → HoldsProgram (start_state image args)
unfolding start_state
program_loaded image args is content = record { fits = is.text; order = refl; content = content }
