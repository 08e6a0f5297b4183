-- Laws of what sim-safe and record come to: at most one outcome, a sound answer, and a recording with or
-- without its replay.
use Rattle.std.proofs.Common.{◌≡◌, ℕ, Bool, true, false, List, [], ◌∷◌, Option, Some, None, Result, Ok, Err, refl, sym, ◌∙◌, subst}
use Rattle.std.specs.Prelude.{Contains, unwrap_or, is_some, if◌then◌else◌}
use Rattle.ecoff_load.specs.declared.image.Image.{Image}
use Rattle.event_trace.specs.declared.trace.Trace.{Trace}
use Rattle.event_trace.specs.World.{File, WorldState}
use Rattle.sim_safe.specs.declared.observer.RunEnd.{RunEnd}
use Rattle.sim_safe.specs.State.{State, start_state}
use Rattle.sim_safe.specs.Run.{after}
use Rattle.cut_run.specs.Plan.{cut_end, cut_state, is_too_long}
use Rattle.sim_opts.specs.Request.{Run}
use Rattle.journal.specs.declared.fault.Fault.{Fault}
use Rattle.journal.specs.declared.loading.Found.{Found}
use Rattle.journal.specs.Write.{Journal}
use Rattle.ss_base.specs.Outside.{Files}
use Rattle.journal.specs.Load.{Input, input, AreFound}
use Rattle.journal.specs.Outcome.{Outcome}
use Rattle.answers.specs.declared.answer.Answer.{Answer}
use Rattle.answers.specs.declared.answer.Answer.TheVariants as answer
use Rattle.answers.specs.Answer.{answered, refused}
use Rattle.answers.specs.Judging.{LoadsNamed, LoadsEach, JudgesObject}
use Rattle.answers.specs.JudgingLaws.{file_map, named_map, each_map, object_map, file_once, named_once, each_once, object_once, FoundBytes, SomeOutcome, file_some, object_some}
use Rattle.answers.specs.Sound.{IsSound, names_of}
use Rattle.answers.specs.SoundLaws.{EachOf, file_all, named_all, each_all, object_all, refused_sound, large_sound, run_sound, first_named, later_named, each_named, each_map_of}
use Rattle.run_commands.specs.Program.{named_input, object_limit}
use Rattle.run_commands.specs.ProgramLaws.{named_some, program_all, program_once, program_some}
use Rattle.run_commands.specs.Outcome.{SimSafeOutcome, JudgesRecording, RecordOutcome, sim_safe_inputs, record_inputs, opened_inputs, input_limit, world_of, point_file, asked_of, ran, recorded, recorded_for, recorded_end, ran_answer, end_answer}
use Rattle.run_commands.specs.Replay.{IsRecorded, RecordingOutcome}

-- ---- recordings

recording_map : (given : Option (List ℕ)) (files : List (List ℕ)) (object : List ℕ) (loaded : List Found) (o : Outcome Answer) (N M : List ℕ → Image → WorldState → Type 0)
    → ((program : List ℕ) (image : Image) (world : WorldState) → N program image world → M program image world) → JudgesRecording given files object loaded o N → JudgesRecording given files object loaded o M
recording_map given files object loaded o N M f x =
    let Judged : (List ℕ → Image → WorldState → Type 0) → List ℕ → Option (List ℕ) → List File → Type 0 = λ K program bytes opened. JudgesObject program o (λ image. K program image (world_of (unwrap_or bytes []) opened image)) in
    file_map object loaded o
    (λ program others. LoadsNamed given others o (λ bytes others. LoadsEach files others o (λ opened _. Judged N program bytes opened)))
    (λ program others. LoadsNamed given others o (λ bytes others. LoadsEach files others o (λ opened _. Judged M program bytes opened)))
    (λ program others.
    named_map given others o (λ bytes others. LoadsEach files others o (λ opened _. Judged N program bytes opened)) (λ bytes others. LoadsEach files others o (λ opened _. Judged M program bytes opened))
    (λ bytes others.
    each_map files others o (λ opened _. Judged N program bytes opened) (λ opened _. Judged M program bytes opened)
    (λ opened _.
    object_map program o (λ image. N program image (world_of (unwrap_or bytes []) opened image)) (λ image. M program image (world_of (unwrap_or bytes []) opened image))
    (λ image. f program image (world_of (unwrap_or bytes []) opened image)))))
    x

is_recorded : (out : List ℕ) (max_inst : ℕ) (object : List ℕ) (args : List (List ℕ)) (came : Result Answer Fault) (o : Outcome Answer) (program : List ℕ) (image : Image) (world : WorldState)
    → IsRecorded out max_inst object args came o program image world → o ≡ recorded world image.text.big max_inst (start_state image args) out
is_recorded out max_inst object args (Ok a) o program image world x = x.0
is_recorded out max_inst object args (Err f) o program image world x = x

-- a recording has its outcome, whether or not it answers
pub recording_outcome : (out : List ℕ) (given : Option (List ℕ)) (files : List (List ℕ)) (max_inst : ℕ) (object : List ℕ) (args : List (List ℕ)) (came : Result Answer Fault) (loaded : List Found) (o : Outcome Answer)
    → RecordingOutcome out given files max_inst object args came loaded o → RecordOutcome out given files max_inst object args loaded o
recording_outcome out given files max_inst object args came loaded o x =
    recording_map given files object loaded o (λ program image world. IsRecorded out max_inst object args came o program image world) (λ _ image world. o ≡ recorded world image.text.big max_inst (start_state image args) out)
    (λ program image world. is_recorded out max_inst object args came o program image world) x

-- ---- at most one outcome

pub sim_safe_once : (r : Run) (loaded : List Found) (o p : Outcome Answer) → SimSafeOutcome r loaded o → SimSafeOutcome r loaded p → o ≡ p
sim_safe_once r loaded o p x y = program_once r loaded o p (λ t s. o ≡ ran t (asked_of r) s) (λ t s. p ≡ ran t (asked_of r) s) (λ t s h k. h ∙ sym k) x y

pub record_once : (out : List ℕ) (given : Option (List ℕ)) (files : List (List ℕ)) (max_inst : ℕ) (object : List ℕ) (args : List (List ℕ)) (loaded : List Found) (o p : Outcome Answer)
    → RecordOutcome out given files max_inst object args loaded o → RecordOutcome out given files max_inst object args loaded p → o ≡ p
record_once out given files max_inst object args loaded o p x y =
    let Ends : Outcome Answer → Option (List ℕ) → List File → Image → Type 0 = λ o bytes opened image. o ≡ recorded (world_of (unwrap_or bytes []) opened image) image.text.big max_inst (start_state image args) out in
    let Reads : Outcome Answer → List ℕ → Option (List ℕ) → List File → Type 0 = λ o program bytes opened. JudgesObject program o (λ image. Ends o bytes opened image) in
    let Opens : Outcome Answer → List ℕ → Option (List ℕ) → List Found → Type 0 = λ o program bytes others. LoadsEach files others o (λ opened _. Reads o program bytes opened) in
    file_once object loaded o p (λ program others. LoadsNamed given others o (λ bytes rest. Opens o program bytes rest)) (λ program others. LoadsNamed given others p (λ bytes rest. Opens p program bytes rest))
    (λ program others. named_once given others o p (λ bytes rest. Opens o program bytes rest) (λ bytes rest. Opens p program bytes rest)
    (λ bytes rest. each_once files rest o p (λ opened _. Reads o program bytes opened) (λ opened _. Reads p program bytes opened)
    (λ opened _. object_once program o p (λ image. Ends o bytes opened image) (λ image. Ends p bytes opened image) (λ image h k. h ∙ sym k))))
    x y

-- ---- sound answers

not_some : false ≡ true → ⊥
not_some e = cc

-- a run that leaves no point has none that is too long
point_long : (trace : Trace) (s : State) (skip most : ℕ) (commits : Option (List ℕ)) (point : Option (List ℕ × ℕ))
    → is_too_long trace s (record { skip = skip; most = most; commits = commits; point = point }) ≡ true → is_some (point_file point) ≡ true
point_long trace s skip most commits None e = cc
point_long trace s skip most commits (Some p) e = refl

end_sound : (inputs : List Input) (point : Option (List ℕ)) (end : RunEnd) (t : State) (h : Journal) → IsSound inputs point (answered (end_answer end t) h)
unfolding end_answer
end_sound inputs point end t h = run_sound inputs point end t.pc t.icnt h

long_sound : (b : Bool) (inputs : List Input) (point : Option (List ℕ)) (end : RunEnd) (t : State) (h : Journal) → (b ≡ true → is_some point ≡ true)
    → IsSound inputs point (answered (if b then answer.TooLong (unwrap_or point []) else end_answer end t) h)
long_sound false inputs point end t h f = end_sound inputs point end t h
long_sound true inputs None end t h f = absurd (not_some (f refl))
long_sound true inputs (Some name) end t h f = large_sound inputs name h

ran_sound : (inputs : List Input) (trace : Trace) (r : Run) (s : State) → IsSound inputs (point_file r.point) (ran trace (asked_of r) s)
unfolding ran_answer
ran_sound inputs trace r s =
    long_sound (is_too_long trace s (asked_of r)) inputs (point_file r.point) (cut_end trace s (asked_of r)) (cut_state trace s (asked_of r)) _ (point_long trace s r.skip r.most r.commits r.point)

recorded_sound : (inputs : List Input) (made : Trace × Bool) (n : ℕ) (s : State) (out : List ℕ) → IsSound inputs None (recorded_for made n s out)
recorded_sound inputs made n s out = end_sound inputs None (recorded_end made n s) (after made.0 n s) _

-- a file that may be named, among the names of the files that are loaded
named_later : (limit more : ℕ) (object n : List ℕ) (name : Option (List ℕ)) (others : List Input) → name ≡ Some n → Contains (names_of (input object more ∷ named_input limit name others)) n
named_later limit more object n name others e =
    subst (λ (x : Option (List ℕ)). Contains (names_of (input object more ∷ named_input limit x others)) n) (sym e) (later_named object n (n ∷ names_of others) (first_named n (names_of others)))

opened_names : (files : List (List ℕ)) → names_of (opened_inputs files) ≡ files
opened_names [] = cc
opened_names (name ∷ files) = let e : names_of (opened_inputs files) ≡ files = opened_names files in cc

pub sim_safe_sound : (r : Run) (loaded : List Found) (o : Outcome Answer) → SimSafeOutcome r loaded o → IsSound (sim_safe_inputs r) (point_file r.point) o
sim_safe_sound r loaded o x =
    let P : Outcome Answer → Type 0 = IsSound (sim_safe_inputs r) (point_file r.point) in
    program_all r P loaded o (λ t s. o ≡ ran t (asked_of r) s) (λ a h. refused_sound (sim_safe_inputs r) (point_file r.point) a h)
    (λ t s e. subst P (sym e) (ran_sound (sim_safe_inputs r) t r s)) x

each_opened : (object : List ℕ) (given : Option (List ℕ)) (files : List (List ℕ)) → EachOf files (Contains (names_of (record_inputs given files object)))
each_opened object None files =
    each_map_of files (Contains files) (Contains (names_of (record_inputs None files object)))
    (λ name c. later_named object name (names_of (opened_inputs files)) (subst (λ (x : List (List ℕ)). Contains x name) (sym (opened_names files)) c)) (each_named files)
each_opened object (Some input) files =
    each_map_of files (Contains files) (Contains (names_of (record_inputs (Some input) files object)))
    (λ name c. later_named object name (input ∷ names_of (opened_inputs files)) (later_named input name (names_of (opened_inputs files)) (subst (λ (x : List (List ℕ)). Contains x name) (sym (opened_names files)) c))) (each_named files)

pub record_sound : (out : List ℕ) (given : Option (List ℕ)) (files : List (List ℕ)) (max_inst : ℕ) (object : List ℕ) (args : List (List ℕ)) (loaded : List Found) (o : Outcome Answer)
    → RecordOutcome out given files max_inst object args loaded o → IsSound (record_inputs given files object) None o
record_sound out given files max_inst object args loaded o x =
    let inputs = record_inputs given files object in
    let P : Outcome Answer → Type 0 = IsSound inputs None in
    let Ends : Option (List ℕ) → List File → Image → Type 0 = λ bytes opened image. o ≡ recorded (world_of (unwrap_or bytes []) opened image) image.text.big max_inst (start_state image args) out in
    let Reads : List ℕ → Option (List ℕ) → List File → Type 0 = λ program bytes opened. JudgesObject program o (λ image. Ends bytes opened image) in
    file_all P object loaded o (λ program others. LoadsNamed given others o (λ bytes rest. LoadsEach files rest o (λ opened _. Reads program bytes opened))) (refused_sound inputs None (answer.TooLong object) (first_named object _))
    (λ program others. named_all P given others o (λ bytes rest. LoadsEach files rest o (λ opened _. Reads program bytes opened)) (λ n e. refused_sound inputs None (answer.TooLong n) (named_later input_limit object_limit object n given (opened_inputs files) e))
    (λ bytes rest. each_all P files rest o (λ opened _. Reads program bytes opened)
    (each_map_of files (Contains (names_of inputs)) (λ n. P (refused (answer.TooLong n))) (λ n c. refused_sound inputs None (answer.TooLong n) c) (each_opened object given files))
    (λ opened _. object_all P program o (λ image. Ends bytes opened image) (λ bad. refused_sound inputs None (answer.Object bad.at bad.why) tt)
    (λ image e. subst P (sym e) (recorded_sound inputs _ _ _ _)))))
    x

-- ---- whatever is found, there is an outcome

each_some : (names : List (List ℕ)) (Told : Type 0) (files : Files) (loaded : List Found) (N : Outcome Answer → List File → List Found → Type 0)
    → AreFound Told files (opened_inputs names) loaded → FoundBytes loaded → ((opened : List File) (others : List Found) → SomeOutcome (λ o. N o opened others)) → SomeOutcome (λ o. LoadsEach names loaded o (N o))
each_some [] Told files loaded N are bytes some = some [] loaded
each_some (name ∷ names) Told files [] N are bytes some = absurd are
each_some (name ∷ names) Told files (f ∷ fs) N are bytes some =
    let first : List ℕ → List File → List File = λ b opened. record { name = name; bytes = b } ∷ opened in
    file_some name f fs (λ o b others. LoadsEach names others o (λ opened rest. N o (first b opened) rest)) bytes
    (λ b _ rest. each_some names Told files fs (λ o opened others. N o (first b opened) others) are.1 rest (λ opened others. some (first b opened) others))

pub sim_safe_some : (r : Run) (Told : Type 0) (files : Files) (loaded : List Found) → AreFound Told files (sim_safe_inputs r) loaded → FoundBytes loaded → SomeOutcome (SimSafeOutcome r loaded)
sim_safe_some r Told files loaded are bytes = program_some r Told files loaded (λ o t s. o ≡ ran t (asked_of r) s) are bytes (λ t s. (ran t (asked_of r) s, refl))

pub record_some : (out : List ℕ) (given : Option (List ℕ)) (opens : List (List ℕ)) (max_inst : ℕ) (object : List ℕ) (args : List (List ℕ)) (Told : Type 0) (files : Files) (loaded : List Found)
    → AreFound Told files (record_inputs given opens object) loaded → FoundBytes loaded → SomeOutcome (RecordOutcome out given opens max_inst object args loaded)
record_some out given opens max_inst object args Told files [] are bytes = absurd are
record_some out given opens max_inst object args Told files (f ∷ fs) are bytes =
    let Run : Option (List ℕ) → List File → Image → Outcome Answer = λ b opened image. recorded (world_of (unwrap_or b []) opened image) image.text.big max_inst (start_state image args) out in
    let Reads : Outcome Answer → List ℕ → Option (List ℕ) → List File → Type 0 = λ o program b opened. JudgesObject program o (λ image. o ≡ Run b opened image) in
    file_some object f fs (λ o program others. LoadsNamed given others o (λ b rest. LoadsEach opens rest o (λ opened _. Reads o program b opened))) bytes
    (λ program all rest. named_some input_limit given (opened_inputs opens) Told files fs (λ o b others. LoadsEach opens others o (λ opened _. Reads o program b opened)) are.1 rest
    (λ b others found held. each_some opens Told files others (λ o opened _. Reads o program b opened) found held
    (λ opened _. object_some program (λ o image. o ≡ Run b opened image) all (λ image _. (Run b opened image, refl)))))
