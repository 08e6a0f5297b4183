-- A recording is replayed from the file that it wrote.
use Rattle.std.proofs.Common.{◌≡◌, ℕ, ◌≤◌, ◌++◌, Bool, true, false, List, [], ◌∷◌, length, Option, Some, None, Result, Ok, Err, refl, sym, ap, ◌∙◌, subst, inr, arith}
use Rattle.std.specs.Prelude.{nat_le, if◌then◌else◌, OnOk}
use Rattle.std.proofs.lemmas.Bool.Decides.{nat_tests}
use Rattle.ecoff_load.specs.declared.image.Image.{Image}
use Rattle.ecoff_load.specs.Object.{IsObject}
use Rattle.pisa_step.specs.declared.cause.Cause.TheVariants as cause
use Rattle.event_trace.specs.declared.trace.Trace.{Trace}
use Rattle.event_trace.specs.Grammar.{IsTrace, trace_bytes}
use Rattle.event_trace.specs.Reading.{checked}
use Rattle.event_trace.specs.Recorder.{empty_trace, is_within_limits, trace_size}
use Rattle.event_trace.specs.World.{WorldState}
use Rattle.event_trace.proofs.WholeTrace.{is_only}
use Rattle.sim_safe.specs.State.{State, start_state}
use Rattle.sim_safe.specs.Record.{Item}
use Rattle.sim_safe.specs.Recording.{serve}
use Rattle.sim_safe.specs.Run.{items_of, after, end_of}
use Rattle.sim_safe.specs.declared.observer.RunEnd.{RunEnd}
use Rattle.sim_safe.specs.declared.observer.RunEnd.TheVariants as ends
use Rattle.sim_safe.proofs.Replays.{recording_more, recording_within, full_recording_stops}
use Rattle.sim_watch.specs.Watch.{run_journal}
use Rattle.sim_watch.proofs.Texts.{run_output, run_report}
use Rattle.journal.specs.declared.loading.Found.TheVariants as found
use Rattle.journal.specs.Write.{output_of, report_of, Journal, Start}
use Rattle.journal.specs.Outcome.{Outcome}
use Rattle.journal.specs.Laws.{output_more, report_more}
use Rattle.answers.specs.declared.answer.Answer.{Answer}
use Rattle.answers.specs.Answer.{run_answer}
use Rattle.answers.specs.JudgingLaws.{given_judged}
use Rattle.cut_run.specs.Plan.{limited}
use Rattle.run_commands.specs.Program.{trace_limit}
use Rattle.run_commands.specs.Outcome.{SimSafeOutcome, asked_of, end_answer, end_report, ran, recorded, recorded_for, start_of, trace_made, trace_text}
use Rattle.run_commands.specs.Plain.{plain_ran, ran_for}
use Rattle.run_commands.specs.Replay.{EndsAgain, IsReplayed, IsRecorded, made_by, replay_of, replayed_by}
use Rattle.run_commands.specs.OutcomeLaws.{start_output, start_report}

-- ---- the trace of a recording

size_if : (b : Bool) (size : ℕ) → (if b then nat_le size 67108864 else false) ≡ true → size ≤ trace_limit
size_if true size e = grind (arith, nat_tests)
size_if false size e = absurd cc

-- a trace that is within the limits of recording is within that of a trace file
within_size : (t : Trace) → is_within_limits t ≡ true → length (trace_text t) ≤ trace_limit
unfolding is_within_limits trace_size trace_text
within_size t e = size_if (nat_le (length t.records) 1000000) (length (trace_bytes t)) e

empty_within : (big : Bool) → is_within_limits (empty_trace big) ≡ true
unfolding is_within_limits trace_size
empty_within true = refl
empty_within false = refl

made_size : (world : WorldState) (big : Bool) (n : ℕ) (s : State) → length (trace_text (trace_made world big n s).0) ≤ trace_limit
made_size world big n s = within_size (trace_made world big n s).0 (recording_within serve n world (empty_trace big) s (empty_within big))

made_big : (world : WorldState) (big : Bool) (n : ℕ) (s : State) → (trace_made world big n s).0.big ≡ big
made_big world big n s = ap (λ t. t.big) (recording_more serve n world (empty_trace big) s).1

made_stops : (world : WorldState) (big : Bool) (n : ℕ) (s : State) → (trace_made world big n s).1 ≡ true
    → (used : ℕ) × (end_of (trace_made world big n s).0 n s ≡ ends.Stop (cause.TraceEnd used))
made_stops world big n s e =
    let t : Trace = (trace_made world big n s).0 in
    let pair : Bool → Trace × Bool = λ b. (t, b) in
    full_recording_stops serve n world (empty_trace big) t s refl (ap pair e)

-- ---- both runs

-- what both runs put out and report
ran_output : (made : Trace × Bool) (n : ℕ) (s : State) (out : List ℕ) (commits : Option (List ℕ)) → output_of (ran_for made.0 n s commits).writes ≡ output_of (recorded_for made n s out).writes
ran_output made n s out commits =
    let is = items_of made.0 n s in
    output_more (run_journal commits is) (start_of commits) ∙ ap (λ x. x ++ output_of (run_journal commits is)) (start_output commits) ∙ run_output commits None is ∙ sym (output_more (run_journal None is) (Start out ∷ []))

-- the statistics of steps over a trace that end so
abbrev told : Trace → RunEnd → ℕ → State → List ℕ
told trace end n s = end_report 0 (items_of trace n s) end (after trace n s)

reported : (report : List ℕ) (h : Journal) → report_of h ≡ [] → report_of h ++ report ≡ report
reported report h e = ap (λ x. x ++ report) e

ran_reports : (report : List ℕ) (commits : Option (List ℕ)) (is : List Item) → report_of (run_journal commits is ++ start_of commits) ++ report ≡ report
ran_reports report commits is =
    reported report (run_journal commits is ++ start_of commits) (report_more (run_journal commits is) (start_of commits) ∙ ap (λ x. x ++ report_of (run_journal commits is)) (start_report commits) ∙ run_report commits is)

recorded_reports : (report out : List ℕ) (is : List Item) → report_of (run_journal None is ++ Start out ∷ []) ++ report ≡ report
recorded_reports report out is = reported report (run_journal None is ++ Start out ∷ []) (report_more (run_journal None is) (Start out ∷ []) ∙ run_report None is)

ends_again : (made : Trace × Bool) (full : Bool) (n : ℕ) (s : State) (out : List ℕ) (commits : Option (List ℕ)) → made.1 ≡ full → (full ≡ true → (used : ℕ) × (end_of made.0 n s ≡ ends.Stop (cause.TraceEnd used)))
    → EndsAgain full made.0 n s (recorded_for made n s out) (ran_for made.0 n s commits)
unfolding end_answer
ends_again made false n s out commits e stops =
    let is = items_of made.0 n s in
    let end : Bool → RunEnd = λ b. if b then ends.Limit else end_of made.0 n s in (
      ap (λ (b : Bool). end_answer (end b) (after made.0 n s)) (sym e),
      ran_reports (told made.0 (end_of made.0 n s) n s) commits is ∙ ap (λ (b : Bool). told made.0 (end b) n s) (sym e) ∙ sym (recorded_reports (told made.0 (end made.1) n s) out is),
    )
ends_again made true n s out commits e stops =
    let is = items_of made.0 n s in
    let end : Bool → RunEnd = λ b. if b then ends.Limit else end_of made.0 n s in
    let k = stops refl in (
      ap (λ (b : Bool). end_answer (end b) (after made.0 n s)) e,
      recorded_reports (told made.0 (end made.1) n s) out is ∙ ap (λ (b : Bool). told made.0 (end b) n s) e,
      k.0,
      ap (λ (x : RunEnd). run_answer x (after made.0 n s).pc (after made.0 n s).icnt) k.1,
      ran_reports (told made.0 (end_of made.0 n s) n s) commits is ∙ ap (λ (x : RunEnd). told made.0 x n s) k.1,
    )

-- sim-safe over a trace file of the object's byte order
replay_has : (t : Trace) (out : List ℕ) (max_inst : ℕ) (object : List ℕ) (args : List (List ℕ)) (program : List ℕ) (image : Image) (commits : Option (List ℕ))
    → IsObject program image → IsTrace t → t.big ≡ image.text.big
    → SimSafeOutcome (replay_of out max_inst object args commits) (found.Whole program ∷ found.Whole (trace_text t) ∷ []) (replayed_by t out max_inst object args image commits)
unfolding trace_text
replay_has t out max_inst object args program image commits is fits big =
    let o : Outcome Answer = replayed_by t out max_inst object args image commits in
    let Ends : Trace → Type 0 = λ given. o ≡ ran given (asked_of (replay_of out max_inst object args commits)) (start_state image args) in
    let known : checked (trace_bytes t) ≡ Ok t = is_only (trace_bytes t) t fits refl in
    inr (image, is, given_judged (Some (trace_bytes t)) image.text.big o Ends t (known, big) refl)

-- and what it comes to
replay_is : (t : Trace) (out : List ℕ) (max_inst : ℕ) (object : List ℕ) (args : List (List ℕ)) (image : Image) (commits : Option (List ℕ))
    → ran_for t (limited (start_state image args) max_inst) (start_state image args) commits ≡ replayed_by t out max_inst object args image commits
replay_is t out max_inst object args image commits = sym (plain_ran t (start_state image args) max_inst commits)

reads_again : (t : Trace) → IsTrace t → checked (trace_text t) ≡ Ok t
unfolding trace_text
reads_again t fits = is_only (trace_bytes t) t fits refl

-- what a program made is replayed
pub is_replayed : (out : List ℕ) (max_inst : ℕ) (object : List ℕ) (args : List (List ℕ)) (program : List ℕ) (image : Image) (world : WorldState)
    → IsObject program image → IsTrace (made_by image world max_inst args).0 → IsReplayed out max_inst object args program image world (made_by image world max_inst args)
is_replayed out max_inst object args program image world is fits =
    let s : State = start_state image args in
    let n : ℕ = limited s max_inst in
    let big : Bool = image.text.big in
    let made : Trace × Bool = trace_made world big n s in
    record {
      size = made_size world big n s;
      reads = reads_again made.0 fits;
      replayed = λ commits. replay_has made.0 out max_inst object args program image commits is fits (made_big world big n s);
      output = λ commits.
          let put : List ℕ = output_of (recorded_for made n s out).writes in
          subst (λ (o : Outcome Answer). output_of o.writes ≡ put) (replay_is made.0 out max_inst object args image commits) (ran_output made n s out commits);
      ends = λ commits.
          subst (λ (o : Outcome Answer). EndsAgain made.1 made.0 n s (recorded_for made n s out) o) (replay_is made.0 out max_inst object args image commits) (ends_again made made.1 n s out commits refl (made_stops world big n s));
    }

-- so it is where a recording answers
pub is_recorded : {F : Type 0} (out : List ℕ) (max_inst : ℕ) (object : List ℕ) (args : List (List ℕ)) (r : Result Answer F) (program : List ℕ) (image : Image) (world : WorldState)
    → IsObject program image → OnOk r (IsTrace (made_by image world max_inst args).0) → IsRecorded out max_inst object args r (recorded world image.text.big max_inst (start_state image args) out) program image world
is_recorded out max_inst object args (Ok a) program image world is fits = (refl, is_replayed out max_inst object args program image world is fits)
is_recorded out max_inst object args (Err f) program image world is fits = refl
