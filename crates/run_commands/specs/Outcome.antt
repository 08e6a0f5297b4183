-- What comes of the commands sim-safe and record where nothing fails: what they answer, and what they write.
use Rattle.std.specs.Prelude.{◌≡◌, ◌+◌, ◌*◌, ◌/◌, ℕ, Bool, List, [], ◌∷◌, ◌++◌, max, Option, Some, None, unwrap_or, if◌then◌else◌}
use Rattle.ecoff_load.specs.declared.image.Image.{Image}
use Rattle.ecoff_load.specs.declared.image.Part.{Part}
use Rattle.event_trace.specs.declared.trace.Trace.{Trace}
use Rattle.event_trace.specs.Grammar.{trace_bytes}
use Rattle.event_trace.specs.Recorder.{empty_trace}
use Rattle.event_trace.specs.World.{File, WorldState, start_world}
use Rattle.sim_safe.specs.declared.observer.RunEnd.{RunEnd}
use Rattle.sim_safe.specs.declared.observer.RunEnd.TheVariants as ends
use Rattle.sim_safe.specs.State.{State, start_state}
use Rattle.sim_safe.specs.Record.{Item}
use Rattle.sim_safe.specs.Recording.{recording, serve}
use Rattle.sim_safe.specs.Run.{items_of, after, end_of}
use Rattle.sim_watch.specs.Statistics.{statistics_of}
use Rattle.sim_watch.specs.Watch.{run_journal}
use Rattle.cut_run.specs.Plan.{Asked, limited, skipped, timed_items, cut_end, cut_state, is_too_long, cut_journal, PointElsewhere}
use Rattle.sim_opts.specs.Request.{Run}
use Rattle.journal.specs.declared.loading.Found.{Found}
use Rattle.journal.specs.Write.{Journal, Start, Append, Report}
use Rattle.journal.specs.Load.{Input, input, inputs}
use Rattle.journal.specs.Outcome.{Outcome}
use Rattle.answers.specs.declared.answer.Answer.{Answer}
use Rattle.answers.specs.declared.answer.Answer.TheVariants as answer
use Rattle.answers.specs.Answer.{answered, run_answer}
use Rattle.answers.specs.Report.{fault_line, statistics_text}
use Rattle.answers.specs.Judging.{LoadsFile, LoadsNamed, LoadsEach, JudgesObject}
use Rattle.run_commands.specs.Program.{object_limit, named_input, program_inputs, ProgramOutcome}

-- ---- the files that are loaded, in this order, each of at most so many bytes

-- of the input of a program, and of each file that it can open
abbrev pub input_limit : ℕ
input_limit = 16777216

-- the files that a program can open
abbrev pub opened_inputs : List (List ℕ) → List Input
opened_inputs files = inputs files input_limit

abbrev pub sim_safe_inputs : Run → List Input
sim_safe_inputs r = program_inputs r

abbrev pub record_inputs : (given : Option (List ℕ)) (files : List (List ℕ)) (object : List ℕ) → List Input
record_inputs given files object = input object object_limit ∷ named_input input_limit given (opened_inputs files)

-- ---- runs

-- what a request asks of its run
abbrev pub asked_of : Run → Asked
asked_of r = record { skip = r.skip; most = r.most; commits = r.commits; point = r.point }

-- a file that may be named is made empty
abbrev pub start_of : Option (List ℕ) → Journal
start_of None = []
start_of (Some file) = Start file ∷ []

-- the file of a point that may be taken
abbrev pub point_file : Option (List ℕ × ℕ) → Option (List ℕ)
point_file None = None
point_file (Some p) = Some p.0

-- the file of the commit text is made empty, if one is named, and then that of the point
abbrev pub starts_of : Asked → Journal
starts_of asked = start_of (point_file asked.point) ++ start_of asked.commits

-- commit text and point go to two files
abbrev pub AreApart : Option (List ℕ) → Option (List ℕ × ℕ) → Type 0
AreApart None point = Unit {0}
AreApart (Some file) point = PointElsewhere file point

-- the answer where a point has too many pages
abbrev pub too_long : Asked → Answer
too_long asked = answer.TooLong (unwrap_or (point_file asked.point) [])

-- the answer of a run that ended so and left this state
unfoldable pub end_answer : RunEnd → State → Answer
end_answer end t = run_answer end t.pc t.icnt

-- the statistics of a run that skipped so many steps and did these behind them, and how it ended
unfoldable pub end_report : ℕ → List Item → RunEnd → State → List ℕ
end_report skipped items end t = statistics_text skipped (statistics_of items) end t.pc t.icnt

-- a run of a state that does what is asked answers how it ended, or that its point is too long
unfoldable pub ran_answer : Trace → Asked → State → Answer
ran_answer trace asked s = if is_too_long trace s asked then too_long asked else end_answer (cut_end trace s asked) (cut_state trace s asked)

-- and reports its statistics, or that alone
unfoldable pub ran_report : Trace → Asked → State → List ℕ
ran_report trace asked s =
    if is_too_long trace s asked then fault_line (too_long asked)
    else end_report (skipped trace s asked) (timed_items trace s asked) (cut_end trace s asked) (cut_state trace s asked)

-- its files are made empty; then it writes its commit text, its output and its point, and last its report
abbrev pub ran : Trace → Asked → State → Outcome Answer
ran trace asked s = answered (ran_answer trace asked s) (Report (ran_report trace asked s) ∷ cut_journal trace s asked ++ starts_of asked)

-- ---- runs that are recorded

-- the bytes of a trace
unfoldable pub trace_text : Trace → List ℕ
trace_text t = trace_bytes t

-- a run whose trace is full ends as at its budget
abbrev pub recorded_end : Trace × Bool → ℕ → State → RunEnd
recorded_end made n s = if made.1 then ends.Limit else end_of made.0 n s

-- up to n steps from a state over a trace, which end so, with these writes before the report
abbrev pub ended : Trace → RunEnd → ℕ → State → Journal → Outcome Answer
ended trace end n s writes = answered (end_answer end (after trace n s)) (Report (end_report 0 (items_of trace n s) end (after trace n s)) ∷ writes)

-- up to n steps whose calls made a trace: the file is made empty; the run over that trace writes its output;
-- then the trace goes to the file
abbrev pub recorded_for : Trace × Bool → ℕ → State → List ℕ → Outcome Answer
recorded_for made n s out = ended made.0 (recorded_end made n s) n s (Append out (trace_text made.0) ∷ run_journal None (items_of made.0 n s) ++ Start out ∷ [])

-- the trace that a world makes of up to n steps of a program of a byte order, and whether it was full
abbrev pub trace_made : WorldState → Bool → ℕ → State → Trace × Bool
trace_made world big n s = recording serve n world (empty_trace big) s

abbrev pub recorded : WorldState → Bool → ℕ → State → List ℕ → Outcome Answer
recorded world big n s out = recorded_for (trace_made world big (limited s n) s) (limited s n) s out

-- the greatest end of parts
abbrev pub greatest_end : List Part → ℕ
greatest_end [] = 0
greatest_end (p ∷ ps) = max (p.addr + p.size) (greatest_end ps)

-- where the break of a program stands at its start: behind the last byte of its parts, at the next
-- multiple of 8; a program without parts has it at 0x10000000
abbrev pub start_break : List Part → ℕ
start_break [] = 0x10000000
start_break (p ∷ ps) = (greatest_end (p ∷ ps) + 7) / 8 * 8

-- the world of a program: its input, and the files that it can open
abbrev pub world_of : List ℕ → List File → Image → WorldState
world_of given files image = start_world given files (start_break image.parts)

-- ---- commands

-- sim-safe: the program runs as is asked, from its start or from the point's state
abbrev pub SimSafeOutcome : Run → List Found → Outcome Answer → Type 0
SimSafeOutcome r loaded o = ProgramOutcome r loaded o (λ given s. o ≡ ran given (asked_of r) s)

-- record: the object is loaded, then the input, which is empty where none is named, and then each file that
-- can be opened; then the object is judged
abbrev pub JudgesRecording : (given : Option (List ℕ)) (files : List (List ℕ)) (object : List ℕ) → List Found → Outcome Answer → (List ℕ → Image → WorldState → Type 0) → Type 0
JudgesRecording given files object loaded o Next =
    LoadsFile object loaded o (λ program others.
    LoadsNamed given others o (λ bytes others.
    LoadsEach files others o (λ opened _.
    JudgesObject program o (λ image.
    Next program image (world_of (unwrap_or bytes []) opened image)))))

-- then the program runs from its start, and the world of these files answers its calls; then the trace
-- is written
abbrev pub RecordOutcome : (out : List ℕ) (given : Option (List ℕ)) (files : List (List ℕ)) (max_inst : ℕ) (object : List ℕ) (args : List (List ℕ)) → List Found → Outcome Answer → Type 0
RecordOutcome out given files max_inst object args loaded o =
    JudgesRecording given files object loaded o (λ _ image world.
    o ≡ recorded world image.text.big max_inst (start_state image args) out)
