-- The laws of the crates below, as one premise.
use Rattle.std.specs.Prelude.{◌≡◌, ◌≢◌, ◌+◌, ◌≤◌, ◌^◌, ◌++◌, ◌∷◌, [], ℕ, List, false, Some, Ok}
use Rattle.ecoff_load.specs.declared.image.Image.{Image}
use Rattle.ecoff_load.specs.declared.image.Text.{Text}
use Rattle.ecoff_load.specs.Object.{IsImage, IsObject, IsText}
use Rattle.event_trace.specs.declared.trace.Trace.{Trace}
use Rattle.event_trace.specs.Reading.{checked as checked_trace}
use Rattle.sim_safe.specs.declared.observer.RunEnd.TheVariants as ends
use Rattle.sim_safe.specs.State.{State, start_state}
use Rattle.sim_safe.specs.Record.{IsRunTrace}
use Rattle.sim_safe.specs.Run.{items_of, after}
use Rattle.sim_safe.specs.Commit.{text_of, outputs_of}
use Rattle.sim_safe.specs.Laws.{StepKeeps}
use Rattle.sim_safe.specs.Step.{step_of}
use Rattle.checkpoint.specs.State.{PointState}
use Rattle.checkpoint.specs.Held.{state_held, fit}
use Rattle.checkpoint.specs.Reading.{checked as checked_point}
use Rattle.journal.specs.Write.{Start, output_of}
use Rattle.journal.specs.Texts.{text_in}
use Rattle.cut_run.specs.Parts.{is_large_at}
use Rattle.cut_run.specs.Plan.{Asked, to_skip, timed_items, cut_end, is_too_long, cut_journal, PointElsewhere}
use Rattle.restarted_run.specs.Within.{IsWithin, HoldsProgram, AreBytes, WritesBytes, BringsBytes, FitsBlock}
use Rattle.restarted_run.specs.Held.{HoldsState}
use Rattle.restarted_run.specs.Rest.{BeginsAtPoint, IsRestOf}

pub record Below : Type 0 where
  -- cut runs
  pub output : (trace : Trace) (s : State) (asked : Asked) → is_too_long trace s asked ≡ false → output_of (cut_journal trace s asked) ≡ outputs_of (items_of trace (to_skip trace s asked) s) ++ outputs_of (timed_items trace s asked)
  pub text : (trace : Trace) (s : State) (asked : Asked) (file : List ℕ) → asked.commits ≡ Some file → PointElsewhere file asked.point → is_too_long trace s asked ≡ false → text_in (cut_journal trace s asked ++ Start file ∷ []) file ≡ Some (text_of (timed_items trace s asked))
  -- steps
  pub keeps : (trace : Trace) (s : State) → StepKeeps s (step_of trace s)
  pub same : (trace : Trace) (n : ℕ) (s : State) → (after trace n s).text ≡ s.text
  -- what is read
  pub trace_bytes : (bytes : List ℕ) (trace : Trace) → AreBytes bytes → checked_trace bytes ≡ Ok trace → WritesBytes trace
  pub image_bytes : (bytes : List ℕ) (image : Image) → AreBytes bytes → IsObject bytes image → BringsBytes image
  -- states
  pub within_after : (trace : Trace) (n : ℕ) (s : State) → IsRunTrace trace → WritesBytes trace → IsWithin s → IsWithin (after trace n s)
  pub within_start : (image : Image) (args : List (List ℕ)) → IsImage image → BringsBytes image → FitsBlock image args → IsWithin (start_state image args)
  pub program_after : (trace : Trace) (n : ℕ) (s : State) → HoldsProgram s → HoldsProgram (after trace n s)
  pub program_start : (image : Image) (args : List (List ℕ)) → IsImage image → HoldsProgram (start_state image args)
  pub within_restored : (bytes : List ℕ) (p : PointState) (text : Text) → AreBytes bytes → checked_point bytes ≡ Ok p → IsWithin (state_held p text)
  pub program_restored : (p : PointState) (text : Text) → IsText text → fit p text ≡ Ok tt → HoldsProgram (state_held p text)
  -- points and what goes on from them
  pub holds : (s : State) → IsWithin s → HoldsProgram s → s.icnt ≤ 10 ^ 15 → is_large_at s ≡ false → HoldsState s
  pub left : (trace : Trace) (s : State) (first : Asked) (t : State) (second : Asked) (k : ℕ) → BeginsAtPoint trace s first t second k → second.most + k ≡ first.most → IsRestOf trace s first t second
  pub ended : (trace : Trace) (s : State) (first : Asked) (t : State) (second : Asked) (k : ℕ) → BeginsAtPoint trace s first t second k → cut_end trace s first ≢ ends.Limit → cut_end trace t second ≢ ends.Limit → IsRestOf trace s first t second
