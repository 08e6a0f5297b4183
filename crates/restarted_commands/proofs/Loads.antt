-- Three commands that load their files and judge them: two that load the same, and one that goes on from a point.
use Rattle.std.proofs.Common.{◌≡◌, ◌≢◌, ◌⊎◌, ℕ, Bool, List, [], ◌∷◌, Option, Some, None, Result, Ok, Err, refl, sym, ap, ◌∙◌, subst, inl, inr}
use Rattle.ecoff_load.specs.declared.image.Image.{Image}
use Rattle.ecoff_load.specs.Object.{IsObject}
use Rattle.ecoff_load.proofs.Exact.{same_object}
use Rattle.checkpoint.specs.declared.fault.PointFault.{PointFault}
use Rattle.checkpoint.specs.declared.fault.PointFault.TheVariants as point_fault
use Rattle.event_trace.specs.declared.fault.TraceFault.{TraceFault}
use Rattle.event_trace.specs.declared.fault.TraceFault.TheVariants as trace_fault
use Rattle.event_trace.specs.declared.trace.Trace.{Trace}
use Rattle.event_trace.specs.Grammar.{absent_trace}
use Rattle.event_trace.specs.Reading.{checked}
use Rattle.event_trace.proofs.WholeTrace.{is_found}
use Rattle.sim_safe.specs.State.{State, start_state}
use Rattle.sim_safe.specs.Record.{IsRunTrace}
use Rattle.sim_opts.specs.Request.{StartsRun}
use Rattle.journal.specs.declared.loading.Found.{Found}
use Rattle.journal.specs.declared.loading.Found.TheVariants as found
use Rattle.journal.specs.Outcome.{Outcome}
use Rattle.answers.specs.declared.answer.Answer.{Answer}
use Rattle.answers.specs.Answer.{refused}
use Rattle.answers.specs.Judging.{LoadsFile, LoadsNamed, state_at, JudgesObject, JudgesHeld, JudgesPoint, JudgesStart, JudgesOrder, JudgesRead, JudgesGiven, IsStart}
use Rattle.answers.specs.JudgingLaws.{AreBytes, FoundBytes}
use Rattle.run_commands.specs.Launching.{LoadedProgram}
use Rattle.restarted_run.specs.Within.{WritesBytes}
use Rattle.restarted_commands.specs.Restarted.{IsDone, behind_point, restart_files}
use Rattle.restarted_commands.proofs.Below.{Below}
use Rattle.restarted_commands.proofs.Starts.{BytesIn, CanBeginAt}

-- what a command comes to, by the names of its files
abbrev pub LoadsAll : List ℕ → Option (List ℕ) → Option (List ℕ) → List (List ℕ) → List Found → Outcome Answer → (Trace → State → Type 0) → Type 0
LoadsAll object restart trace args loaded o N =
    LoadsFile object loaded o (λ program others. LoadsNamed restart others o (λ point more. LoadsNamed trace more o (λ calls _. LoadedProgram program point calls args o N)))

pub loads_as : (o : Outcome Answer) (N : Trace → State → Type 0) (object object2 : List ℕ) (restart restart2 trace trace2 : Option (List ℕ)) (args args2 : List (List ℕ)) (loaded loaded2 : List Found)
    → object ≡ object2 → restart ≡ restart2 → trace ≡ trace2 → args ≡ args2 → loaded ≡ loaded2 → LoadsAll object restart trace args loaded o N → LoadsAll object2 restart2 trace2 args2 loaded2 o N
loads_as o N object object2 restart restart2 trace trace2 args args2 loaded loaded2 e1 e2 e3 e4 e5 x =
    subst (λ (v : List Found). LoadsAll object2 restart2 trace2 args2 v o N) e5 (subst (λ (v : List (List ℕ)). LoadsAll object2 restart2 trace2 v loaded o N) e4
    (subst (λ (v : Option (List ℕ)). LoadsAll object2 restart2 v args loaded o N) e3 (subst (λ (v : Option (List ℕ)). LoadsAll object2 v trace args loaded o N) e2
    (subst (λ (v : List ℕ). LoadsAll v restart trace args loaded o N) e1 x))))

module _ (w f r : Outcome Answer) (done_w : IsDone w.ending) (done_f : IsDone f.ending) (done_r : IsDone r.ending) (N1 N2 N3 : Trace → State → Type 0) (Goal : Type 0) where
  -- a command that did its run wasn't refused
  never : (o : Outcome Answer) (a : Answer) → IsDone o.ending → (IsDone a → ⊥) → o ≡ refused a → Goal
  never o a done not e = absurd (not (subst (λ (x : Outcome Answer). IsDone x.ending) e done))

  -- ---- the trace

  abbrev GivenGoes : State → State → Type 0
  GivenGoes s u = (t : Trace) → IsRunTrace t → WritesBytes t → N1 t s → N2 t s → N3 t u → Goal

  order_three : (t : Trace) (big : Bool) (s u : State) → IsRunTrace t → WritesBytes t → JudgesOrder t big w (λ x. N1 x s) → JudgesOrder t big f (λ x. N2 x s) → JudgesOrder t big r (λ x. N3 x u) → GivenGoes s u → Goal
  order_three t big s u is writes (inl a) b c next = never w _ done_w (λ x. x) a.1
  order_three t big s u is writes (inr a) (inl b) c next = never f _ done_f (λ x. x) b.1
  order_three t big s u is writes (inr a) (inr b) (inl c) next = never r _ done_r (λ x. x) c.1
  order_three t big s u is writes (inr a) (inr b) (inr c) next = next t is writes a.1 b.1 c.1

  read_three : Below → (bytes : List ℕ) (read : Result Trace TraceFault) (big : Bool) (s u : State) → checked bytes ≡ read → AreBytes bytes
      → JudgesRead read big w (λ x. N1 x s) → JudgesRead read big f (λ x. N2 x s) → JudgesRead read big r (λ x. N3 x u) → GivenGoes s u → Goal
  read_three below bytes (Err (trace_fault.Bad at reason)) big s u e fits a b c next = never w _ done_w (λ x. x) a
  read_three below bytes (Err trace_fault.OutOfMemory) big s u e fits a b c next = absurd a
  read_three below bytes (Ok t) big s u e fits a b c next = order_three t big s u (inr (is_found bytes (Ok t) fits e).0) (below.trace_bytes bytes t fits e) a b c next

  given_three : Below → (calls : Option (List ℕ)) (big : Bool) (s u : State) → BytesIn calls → JudgesGiven calls big w (λ x. N1 x s) → JudgesGiven calls big f (λ x. N2 x s) → JudgesGiven calls big r (λ x. N3 x u) → GivenGoes s u → Goal
  given_three below None big s u fits a b c next = next absent_trace (inl refl) tt a b c
  given_three below (Some bytes) big s u fits a b c next = read_three below bytes (checked bytes) big s u refl fits a b c next

  -- ---- the states in which they begin

  held_one : (held given : Result State PointFault) (C : State → Type 0) → given ≡ held → JudgesHeld held r C → ((u : State) → given ≡ Ok u → C u → Goal) → Goal
  held_one (Ok u) given C e c next = next u e c
  held_one (Err (point_fault.Bad at reason)) given C e c next = never r _ done_r (λ x. x) c
  held_one (Err point_fault.OutOfMemory) given C e c next = absurd c

  held_two : (held given : Result State PointFault) (A B : State → Type 0) → given ≡ held → JudgesHeld held w A → JudgesHeld held f B → ((s : State) → given ≡ Ok s → A s → B s → Goal) → Goal
  held_two (Ok s) given A B e a b next = next s e a b
  held_two (Err (point_fault.Bad at reason)) given A B e a b next = never w _ done_w (λ x. x) a
  held_two (Err point_fault.OutOfMemory) given A B e a b next = absurd a

  start_two : (point : Option (List ℕ)) (image : Image) (args : List (List ℕ)) (A B : State → Type 0) → JudgesStart point image args w A → JudgesStart point image args f B → ((s : State) → IsStart point image args s → A s → B s → Goal) → Goal
  start_two None image args A B a b next = next (start_state image args) refl a b
  start_two (Some bytes) image args A B a b next = held_two (state_at bytes image.text) (state_at bytes image.text) A B refl a b next

  -- ---- the object

  object_three : (program : List ℕ) (A B C : Image → Type 0) → JudgesObject program w A → JudgesObject program f B → JudgesObject program r C → ((image : Image) → IsObject program image → A image → B image → C image → Goal) → Goal
  object_three program A B C (inl a) b c next = never w _ done_w (λ x. x) a.2
  object_three program A B C (inr a) (inl b) c next = never f _ done_f (λ x. x) b.2
  object_three program A B C (inr a) (inr b) (inl c) next = never r _ done_r (λ x. x) c.2
  object_three program A B C (inr a) (inr b) (inr c) next =
      next a.0 a.1 a.2 (subst B (same_object program b.0 a.0 b.1 a.1) b.2) (subst C (same_object program c.0 a.0 c.1 a.1) c.2)

  -- all that is judged
  abbrev AllGoes : List ℕ → Option (List ℕ) → List (List ℕ) → List ℕ → Type 0
  AllGoes program point args text =
      (image : Image) (s u : State) → IsObject program image → IsStart point image args s → state_at text image.text ≡ Ok u → GivenGoes s u

  judged_three : Below → (program text : List ℕ) (point calls : Option (List ℕ)) (args others : List (List ℕ)) → BytesIn calls
      → LoadedProgram program point calls args w N1 → LoadedProgram program point calls args f N2 → LoadedProgram program (Some text) calls others r N3 → AllGoes program point args text → Goal
  judged_three below program text point calls args others fits a b c next =
      let Given : Outcome Answer → (Trace → State → Type 0) → Image → State → Type 0 = λ o N image s. JudgesGiven calls image.text.big o (λ t. N t s) in
      object_three program (λ image. JudgesStart point image args w (Given w N1 image)) (λ image. JudgesStart point image args f (Given f N2 image)) (λ image. JudgesPoint text image r (Given r N3 image)) a b c
      (λ image is x y z. start_two point image args (Given w N1 image) (Given f N2 image) x y
      (λ s start i j. held_one (state_at text image.text) (state_at text image.text) (Given r N3 image) refl z
      (λ u e k. given_three below calls image.text.big s u fits i j k (next image s u is start e))))

  -- ---- the files

  abbrev FilesGo : List ℕ → List (List ℕ) → Type 0
  FilesGo text args = (program : List ℕ) (point : Option (List ℕ)) → AreBytes program → CanBeginAt args point → AllGoes program point args text

  calls_three : Below → (program text : List ℕ) (point trace : Option (List ℕ)) (args others : List (List ℕ)) (more : List Found) → AreBytes program → CanBeginAt args point → FoundBytes more
      → LoadsNamed trace more w (λ calls _. LoadedProgram program point calls args w N1) → LoadsNamed trace more f (λ calls _. LoadedProgram program point calls args f N2)
      → LoadsNamed trace more r (λ calls _. LoadedProgram program (Some text) calls others r N3) → FilesGo text args → Goal
  calls_three below program text point None args others more all own fits a b c next = judged_three below program text point None args others tt a b c (next program point all own)
  calls_three below program text point (Some name) args others [] all own fits a b c next = absurd a
  calls_three below program text point (Some name) args others (found.TooLong ∷ more) all own fits a b c next = never w _ done_w (λ x. x) a
  calls_three below program text point (Some name) args others (found.Whole bytes ∷ more) all own fits a b c next = judged_three below program text point (Some bytes) args others fits.0 a b c (next program point all own)

  point_three : Below → (program text : List ℕ) (restart trace : Option (List ℕ)) (args others : List (List ℕ)) (more : List Found) → AreBytes program → StartsRun restart args → FoundBytes more
      → LoadsNamed restart more w (λ point rest. LoadsNamed trace rest w (λ calls _. LoadedProgram program point calls args w N1)) → LoadsNamed restart more f (λ point rest. LoadsNamed trace rest f (λ calls _. LoadedProgram program point calls args f N2))
      → LoadsNamed trace (behind_point restart more) r (λ calls _. LoadedProgram program (Some text) calls others r N3) → FilesGo text args → Goal
  point_three below program text None trace args others more all can fits a b c next = calls_three below program text None trace args others more all can fits a b c next
  point_three below program text (Some name) trace args others [] all can fits a b c next = absurd a
  point_three below program text (Some name) trace args others (found.TooLong ∷ more) all can fits a b c next = never w _ done_w (λ x. x) a
  point_three below program text (Some name) trace args others (found.Whole own ∷ more) all can fits a b c next = calls_three below program text (Some own) trace args others more all fits.0 fits.1 a b c next

  -- three commands come to what is behind all judgements: one program and one trace, two of them from one state, and the third from
  -- the state that the text of a point holds
  pub files_three : Below → (object file : List ℕ) (restart trace : Option (List ℕ)) (args others : List (List ℕ)) (text : List ℕ) (loaded : List Found) → StartsRun restart args → FoundBytes loaded
      → LoadsAll object restart trace args loaded w N1 → LoadsAll object restart trace args loaded f N2 → LoadsAll object (Some file) trace others (restart_files restart text loaded) r N3 → FilesGo text args → Goal
  files_three below object file restart trace args others text [] can fits a b c next = absurd a
  files_three below object file restart trace args others text (found.TooLong ∷ more) can fits a b c next = never w _ done_w (λ x. x) a
  files_three below object file restart trace args others text (found.Whole program ∷ more) can fits a b c next = point_three below program text restart trace args others more fits.0 can fits.1 a b c next
