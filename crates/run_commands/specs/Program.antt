-- Programs that are run: the files that they are loaded from, how these are judged, and the state and trace that a run begins with.
use Rattle.std.specs.Prelude.{ℕ, List, [], ◌∷◌, Option, Some, None}
use Rattle.event_trace.specs.declared.trace.Trace.{Trace}
use Rattle.sim_safe.specs.State.{State}
use Rattle.sim_opts.specs.Request.{Run}
use Rattle.journal.specs.declared.loading.Found.{Found}
use Rattle.journal.specs.Load.{Input, input}
use Rattle.journal.specs.Outcome.{Outcome}
use Rattle.answers.specs.declared.answer.Answer.{Answer}
use Rattle.answers.specs.Judging.{LoadsFile, LoadsNamed, JudgesObject, JudgesStart, JudgesGiven}

-- ---- the files that are loaded, in this order, each of at most so many bytes

abbrev pub object_limit : ℕ
object_limit = 16777216

abbrev pub point_limit : ℕ
point_limit = 272629760

abbrev pub trace_limit : ℕ
trace_limit = 67108864

-- a file that may be named, and others behind it
abbrev pub named_input : ℕ → Option (List ℕ) → List Input → List Input
named_input limit None others = others
named_input limit (Some name) others = input name limit ∷ others

-- the object, the point that the run starts from, if one is named, and the trace, if one is
abbrev pub program_inputs : Run → List Input
program_inputs r = input r.object object_limit ∷ named_input point_limit r.restart (named_input trace_limit r.trace [])

-- ---- judgements

-- all of them are loaded, and then judged: the object, the point beside it, and the trace; what comes next has the trace and the
-- state that the run begins with
abbrev pub ProgramOutcome : Run → List Found → Outcome Answer → (Trace → State → Type 0) → Type 0
ProgramOutcome r loaded o Next =
    LoadsFile r.object loaded o (λ program others.
    LoadsNamed r.restart others o (λ point more.
    LoadsNamed r.trace more o (λ calls _.
    JudgesObject program o (λ image.
    JudgesStart point image r.args o (λ s.
    JudgesGiven calls image.text.big o (λ given.
    Next given s))))))
