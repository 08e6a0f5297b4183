-- Laws from what a command comes to, to each fact of its ending.
use Rattle.std.specs.Prelude.{◌≡◌, ◌≢◌, ◌⊎◌, ◌<◌, ◌++◌, ℕ, List, [], ◌∷◌, map, Bool, true, false, Option, Some, None, Result, Ok, Err}
use Rattle.std.proofs.Common.{refl, sym, ap, subst, inl, inr, arith}
use Rattle.journal.specs.declared.fault.Fault.{Fault}
use Rattle.journal.specs.declared.fault.Fault.TheVariants as fault
use Rattle.journal.specs.Write.{Journal, output_of, report_of, Lacks}
use Rattle.journal.specs.View.{View, counts, Stays}
use Rattle.journal.specs.declared.loading.Found.{Found}
use Rattle.journal.specs.Load.{Input, AreFound, AreHeld}
use Rattle.journal.specs.Outcome.{Outcome, Comes}
use Rattle.journal.specs.Texts.{WholeFiles}
use Rattle.journal.specs.Loading.{is_found_after, are_there, are_found_once, found_in, comes_map}
use Rattle.journal.specs.Clauses.{answer_in, OutcomeWith, IfAnswered}
use Rattle.journal.specs.ClauseLaws.{CountsBy, counts_by, leaves_files, memory, last, succeeds, quiet, quiet_prog, quiet_stat, ends_by, stays, prog_succeeds, stat_succeeds}
use Rattle.answers.specs.declared.answer.Answer.{Answer}
use Rattle.answers.specs.declared.answer.Answer.TheVariants as answer
use Rattle.answers.specs.declared.answer.Unbuilt.TheVariants as unbuilt
use Rattle.ss_base.specs.Outside.{Files}
use Rattle.sim_opts.specs.Words.{is_unbuilt}
use Rattle.sim_opts.specs.Request.{config_of}
use Rattle.sim_main.specs.declared.ending.Ending.TheVariants as ending
use Rattle.sim_main.specs.Ending.{answer_ending, fault_ending, ending_of, answer_of, is_fault}
use Rattle.sim_main.specs.Outcome.{Asked, config_inputs, asked_with, inputs_for, left_point, OutcomeFor, ComesFor, asked_in, inputs_in, OutcomeIn, ComesIn}
use Rattle.sim_main.specs.Answer.{ComesByWords, AnswersBy, Tells, EndsByWords, Counts, Quiet, HoldsOfPoint}
use Rattle.sim_main.specs.Apart.{FilesApart, apart_with, apart_in}
use Rattle.sim_main.specs.OutcomeLaws.{comes_has, starts_files, reports_last, quiet_with, tells_with, asked_named, NamesOf, names_with}

-- ---- endings

pub told_answer : (a : Answer) → answer_of (answer_ending a) ≡ Some a
told_answer (answer.Exited code) = refl
told_answer answer.Made = refl
told_answer (answer.Words at why) = refl
told_answer (answer.Object at why) = refl
told_answer (answer.Trace at why) = refl
told_answer (answer.Stopped why pc icnt) = refl
told_answer (answer.Point at why) = refl
told_answer answer.Budget = refl
told_answer (answer.Text line why) = refl
told_answer (answer.TooLong name) = refl
told_answer (answer.NotBuilt what) = refl

told_fault : (f : Fault) → answer_of (fault_ending f) ≡ None
told_fault fault.Shelf = refl
told_fault fault.Prog = refl
told_fault fault.Stat = refl
told_fault fault.OutOfMemory = refl

-- an ending has the answer of what a command came to
pub answer_told : (came : Result Answer Fault) → answer_of (ending_of came) ≡ answer_in came
answer_told (Ok a) = told_answer a
answer_told (Err f) = told_fault f

fault_answer : (a : Answer) → is_fault (answer_ending a) ≡ false
fault_answer (answer.Exited code) = refl
fault_answer answer.Made = refl
fault_answer (answer.Words at why) = refl
fault_answer (answer.Object at why) = refl
fault_answer (answer.Trace at why) = refl
fault_answer (answer.Stopped why pc icnt) = refl
fault_answer (answer.Point at why) = refl
fault_answer answer.Budget = refl
fault_answer (answer.Text line why) = refl
fault_answer (answer.TooLong name) = refl
fault_answer (answer.NotBuilt what) = refl

not_both : (b : Bool) → b ≡ false → b ≡ true → ⊥
not_both b e f = cc

-- an ending that is a fault has no answer
pub fault_told : (came : Result Answer Fault) → is_fault (ending_of came) ≡ true → answer_in came ≡ None
fault_told (Ok a) e = absurd (not_both (is_fault (answer_ending a)) (fault_answer a) e)
fault_told (Err f) e = refl

-- answers are no faults
answer_no_shelf : (a : Answer) → answer_ending a ≡ ending.ShelfFault → ⊥
answer_no_shelf a e = not_both (is_fault (answer_ending a)) (fault_answer a) (ap is_fault e)

answer_no_sink : (a : Answer) → answer_ending a ≡ ending.SinkFault → ⊥
answer_no_sink a e = not_both (is_fault (answer_ending a)) (fault_answer a) (ap is_fault e)

answer_no_memory : (a : Answer) → answer_ending a ≡ ending.OutOfMemory → ⊥
answer_no_memory a e = not_both (is_fault (answer_ending a)) (fault_answer a) (ap is_fault e)

-- ---- counts

answer_counts : (before now : ℕ × ℕ × ℕ) (a : Answer) → now ≡ before → Counts before now (answer_ending a)
answer_counts before now (answer.Exited code) h = h
answer_counts before now answer.Made h = h
answer_counts before now (answer.Words at why) h = h
answer_counts before now (answer.Object at why) h = h
answer_counts before now (answer.Trace at why) h = h
answer_counts before now (answer.Stopped why pc icnt) h = h
answer_counts before now (answer.Point at why) h = h
answer_counts before now answer.Budget h = h
answer_counts before now (answer.Text line why) h = h
answer_counts before now (answer.TooLong name) h = h
answer_counts before now (answer.NotBuilt what) h = h

pub counts_of : (before now : ℕ × ℕ × ℕ) (came : Result Answer Fault) → CountsBy before now came → Counts before now (ending_of came)
counts_of before now (Ok a) h = answer_counts before now a h
counts_of before now (Err fault.Shelf) h = h
counts_of before now (Err fault.Prog) h = (h.0, inl (h.1, h.2))
counts_of before now (Err fault.Stat) h = (h.0, inr (h.1, h.2))
counts_of before now (Err fault.OutOfMemory) h = h

not_grown : (m n : ℕ) → n ≡ m → m < n → ⊥
not_grown m n e g = omega arith

-- the second stream's count grows with its own fault alone
pub stat_grown : (before now : ℕ × ℕ × ℕ) (came : Result Answer Fault) → CountsBy before now came → before.2 < now.2 → came ≡ Err fault.Stat
stat_grown before now (Ok a) h g = absurd (not_grown before.2 now.2 (ap (λ (x : ℕ × ℕ × ℕ). x.2) h) g)
stat_grown before now (Err fault.Shelf) h g = absurd (not_grown before.2 now.2 h.2 g)
stat_grown before now (Err fault.Prog) h g = absurd (not_grown before.2 now.2 h.2 g)
stat_grown before now (Err fault.Stat) h g = refl
stat_grown before now (Err fault.OutOfMemory) h g = absurd (not_grown before.2 now.2 (ap (λ (x : ℕ × ℕ × ℕ). x.2) h) g)

-- ---- what words came to

-- it came to an outcome, whether or not it is replayed
plain : {O : Type 0} (v : View O) (a b : O) (words : List (List ℕ)) (asked : Asked) (came : Result Answer Fault) → Comes v a (inputs_for words asked) (ComesFor words asked came) b came → Comes v a (inputs_for words asked) (OutcomeFor words asked) b came
plain v a b words asked came p = comes_map v a (inputs_for words asked) b (ComesFor words asked came) (OutcomeFor words asked) came (λ fs o h. comes_has asked came _ o h) p

pub plainly : {O : Type 0} (v : View O) (a b : O) (words : List (List ℕ)) (came : Result Answer Fault) (p : ComesByWords v a words b came) → Comes v a (inputs_for words (asked_with words p.config)) (OutcomeFor words (asked_with words p.config)) b came
plainly v a b words came p = plain v a b words (asked_with words p.config) came p.comes

-- ---- where files are told

are_found_told : (Told : Type 0) (files : Files) (is : List Input) (fs : List Found) → Told → AreFound Told files is fs → AreFound (Unit {0}) files is fs
are_found_told Told files [] [] t h = tt
are_found_told Told files [] (f ∷ fs) t h = h
are_found_told Told files (i ∷ is) [] t h = h
are_found_told Told files (i ∷ is) (f ∷ fs) t h = (is_found_after (Unit {0}) Told files files i f (λ _. t) (λ _. refl) h.0, are_found_told Told files is fs t h.1)

-- told files have one configuration
config_told : {O : Type 0} (v : View O) (a b : O) (words : List (List ℕ)) (came : Result Answer Fault) (p : ComesByWords v a words b came) → v.tells a → p.config ≡ map (found_in (v.files a)) (config_inputs words)
config_told v a b words came p t =
    are_found_once (v.files a) (config_inputs words) p.config (map (found_in (v.files a)) (config_inputs words))
    (are_found_told (v.tells a) (v.files a) (config_inputs words) p.config t p.are) (are_there (Unit {0}) (v.files a) (config_inputs words))

pub comes_in : {O : Type 0} (v : View O) (a b : O) (words : List (List ℕ)) (came : Result Answer Fault) → ComesByWords v a words b came → v.tells a → Comes v a (inputs_in words (v.files a)) (ComesIn words (v.files a) came) b came
comes_in v a b words came p t =
    subst (λ (config : List Found). Comes v a (inputs_for words (asked_with words config)) (ComesFor words (asked_with words config) came) b came)
    (config_told v a b words came p t) p.comes

pub plainly_in : {O : Type 0} (v : View O) (a b : O) (words : List (List ℕ)) (came : Result Answer Fault) → ComesByWords v a words b came → v.tells a → Comes v a (inputs_in words (v.files a)) (OutcomeIn words (v.files a)) b came
plainly_in v a b words came p t = plain v a b words (asked_in words (v.files a)) came (comes_in v a b words came p t)

-- ---- want of memory, and a failing second stream

memory_of : {O : Type 0} (v : View O) (a b : O) (words : List (List ℕ)) (asked : Asked) (came : Result Answer Fault)
    → FilesApart asked → v.stat.tells a → ending_of came ≡ ending.OutOfMemory → Comes v a (inputs_for words asked) (OutcomeFor words asked) b came → v.stat.contents b ≡ v.stat.contents a
memory_of v a b words asked (Ok x) apart t e p = absurd (answer_no_memory x e)
memory_of v a b words asked (Err fault.Shelf) apart t e p = cc
memory_of v a b words asked (Err fault.Prog) apart t e p = cc
memory_of v a b words asked (Err fault.Stat) apart t e p = cc
memory_of v a b words asked (Err fault.OutOfMemory) apart t e p = memory v a b (inputs_for words asked) (OutcomeFor words asked) (reports_last words asked apart) t p

pub memory_by : {O : Type 0} (v : View O) (a b : O) (words : List (List ℕ)) (came : Result Answer Fault) → v.stat.tells a → ending_of came ≡ ending.OutOfMemory → ComesByWords v a words b came → v.stat.contents b ≡ v.stat.contents a
memory_by v a b words came t e p = memory_of v a b words (asked_with words p.config) came (apart_with words p.config) t e (plainly v a b words came p)

pub counts_words : {O : Type 0} (v : View O) (a b : O) (words : List (List ℕ)) (came : Result Answer Fault) → ComesByWords v a words b came → CountsBy (counts v a) (counts v b) came
counts_words v a b words came p = counts_by v a b (inputs_for words (asked_with words p.config)) (ComesFor words (asked_with words p.config) came) came p.comes

pub stays_words : {O : Type 0} (v : View O) (a b : O) (words : List (List ℕ)) (came : Result Answer Fault) → ComesByWords v a words b came → Stays v a b
stays_words v a b words came p = stays v a b (inputs_for words (asked_with words p.config)) (ComesFor words (asked_with words p.config) came) came p.comes

pub last_by : {O : Type 0} (v : View O) (a b : O) (words : List (List ℕ)) (came : Result Answer Fault) → v.tells a → v.stat.faults a < v.stat.faults b → ComesByWords v a words b came
    → OutcomeWith (v.files a) (inputs_in words (v.files a)) (OutcomeIn words (v.files a)) (λ o. WholeFiles o.writes (v.files a) (v.files b) × (v.prog.tells a → v.prog.contents b ≡ v.prog.contents a ++ output_of o.writes))
last_by v a b words came t g p =
    let inputs = inputs_in words (v.files a) in
    let Has : List Found → Outcome Answer → Type 0 = OutcomeIn words (v.files a) in
    last v a b inputs Has (starts_files words (asked_in words (v.files a)) (apart_in words (v.files a))) (reports_last words (asked_in words (v.files a)) (apart_in words (v.files a))) t
    (subst (λ x. Comes v a inputs Has b x) (stat_grown (counts v a) (counts v b) came (counts_words v a b words came p) g) (plainly_in v a b words came p t))

-- ---- quiet streams

quiet_or : (A B C : Type 0) → (B → C) → A ⊎ B → A ⊎ C
quiet_or A B C f (inl a) = inl a
quiet_or A B C f (inr b) = inr (f b)

answer_quiet : {O : Type 0} (v : View O) (a b : O) (words : List (List ℕ)) (asked : Asked) (x : Answer) → Comes v a (inputs_for words asked) (OutcomeFor words asked) b (Ok x)
    → Quiet (left_point asked) (v.prog.faults a) (v.prog.faults b) (v.prog.sink a) (v.prog.sink b) (v.stat.sink a) (v.stat.sink b) (answer_ending x)
answer_quiet v a b words asked (answer.Exited code) p = tt
answer_quiet v a b words asked answer.Made p = quiet_stat v a b (inputs_for words asked) (OutcomeFor words asked) answer.Made (quiet_with words asked answer.Made) p
answer_quiet v a b words asked (answer.Words at why) p = quiet_prog v a b (inputs_for words asked) (OutcomeFor words asked) (answer.Words at why) (quiet_with words asked (answer.Words at why)) p
answer_quiet v a b words asked (answer.Object at why) p = quiet_prog v a b (inputs_for words asked) (OutcomeFor words asked) (answer.Object at why) (quiet_with words asked (answer.Object at why)) p
answer_quiet v a b words asked (answer.Trace at why) p = quiet_prog v a b (inputs_for words asked) (OutcomeFor words asked) (answer.Trace at why) (quiet_with words asked (answer.Trace at why)) p
answer_quiet v a b words asked (answer.Stopped why pc icnt) p = tt
answer_quiet v a b words asked answer.Budget p = tt
answer_quiet v a b words asked (answer.Text line why) p = quiet_prog v a b (inputs_for words asked) (OutcomeFor words asked) (answer.Text line why) (quiet_with words asked (answer.Text line why)) p
answer_quiet v a b words asked (answer.Point at why) p = quiet_prog v a b (inputs_for words asked) (OutcomeFor words asked) (answer.Point at why) (quiet_with words asked (answer.Point at why)) p
answer_quiet v a b words asked (answer.TooLong name) p = quiet_or (left_point asked ≡ Some name) (Lacks fault.Prog p.outcome.writes) (v.prog.sink b ≡ v.prog.sink a) p.ends.1.untouched.prog (quiet_with words asked (answer.TooLong name) p.found p.outcome p.has p.ends.0)
answer_quiet v a b words asked (answer.NotBuilt what) p =
    let none = quiet_with words asked (answer.NotBuilt what) in (
      quiet_prog v a b (inputs_for words asked) (OutcomeFor words asked) (answer.NotBuilt what) (λ fs o h e. subst (λ (l : Journal). Lacks fault.Prog l) (sym (none fs o h e)) tt) p,
      quiet_stat v a b (inputs_for words asked) (OutcomeFor words asked) (answer.NotBuilt what) (λ fs o h e. subst (λ (l : Journal). Lacks fault.Stat l) (sym (none fs o h e)) tt) p,
    )

quiet_of : {O : Type 0} (v : View O) (a b : O) (words : List (List ℕ)) (asked : Asked) (came : Result Answer Fault) → FilesApart asked → Comes v a (inputs_for words asked) (OutcomeFor words asked) b came
    → Quiet (left_point asked) (v.prog.faults a) (v.prog.faults b) (v.prog.sink a) (v.prog.sink b) (v.stat.sink a) (v.stat.sink b) (ending_of came)
quiet_of v a b words asked (Ok x) apart p = answer_quiet v a b words asked x p
quiet_of v a b words asked (Err fault.Shelf) apart p = quiet v a b (inputs_for words asked) (OutcomeFor words asked) fault.Shelf (reports_last words asked apart) (λ e. cc) (λ e. cc) p
quiet_of v a b words asked (Err fault.Prog) apart p = λ g. quiet v a b (inputs_for words asked) (OutcomeFor words asked) fault.Prog (reports_last words asked apart) (λ e. cc) (λ e. cc) p
quiet_of v a b words asked (Err fault.Stat) apart p = λ g. absurd (not_grown (v.prog.faults a) (v.prog.faults b) (counts_by v a b (inputs_for words asked) (OutcomeFor words asked) (Err fault.Stat) p).1 g)
quiet_of v a b words asked (Err fault.OutOfMemory) apart p = tt

pub quiet_by : {O : Type 0} (v : View O) (a b : O) (words : List (List ℕ)) (came : Result Answer Fault) → ComesByWords v a words b came
    → HoldsOfPoint (v.tells a) (v.files a) words (λ point. Quiet point (v.prog.faults a) (v.prog.faults b) (v.prog.sink a) (v.prog.sink b) (v.stat.sink a) (v.stat.sink b) (ending_of came))
quiet_by v a b words came p = record { config = p.config; are = p.are; holds = quiet_of v a b words (asked_with words p.config) came (apart_with words p.config) (plainly v a b words came p) }

-- ---- answers

-- what is answered is an outcome of what was found, and where it was recorded, it is replayed
pub ending_by : {O : Type 0} (v : View O) (a b : O) (words : List (List ℕ)) (came : Result Answer Fault) → ComesByWords v a words b came
    → IfAnswered (answer_in came) (λ x. AnswersBy (v.tells a) (v.files a) words x (λ o. (v.prog.tells a → v.prog.contents b ≡ v.prog.contents a ++ output_of o.writes) × (v.stat.tells a → v.stat.contents b ≡ v.stat.contents a ++ report_of o.writes)))
ending_by v a b words (Ok x) p = record {
  config = p.config;
  are = p.are;
  ends = ends_by v a b (inputs_for words (asked_with words p.config)) (ComesFor words (asked_with words p.config) (Ok x)) x p.comes;
}
ending_by v a b words (Err f) p = tt

pub replay_by : {O : Type 0} (v : View O) (a b : O) (words : List (List ℕ)) (came : Result Answer Fault) → v.tells a → ComesByWords v a words b came
    → IfAnswered (answer_in came) (λ x. OutcomeWith (v.files a) (inputs_in words (v.files a)) (ComesIn words (v.files a) (Ok x)) (λ o. (x ≡ o.ending) × WholeFiles o.writes (v.files a) (v.files b)))
replay_by v a b words (Ok x) t p =
    leaves_files v a b (inputs_in words (v.files a)) (ComesIn words (v.files a) (Ok x)) (Ok x)
    (λ fs o h. starts_files words (asked_in words (v.files a)) (apart_in words (v.files a)) fs o (comes_has (asked_in words (v.files a)) (Ok x) _ o h)) t (comes_in v a b words (Ok x) p t)
replay_by v a b words (Err f) t p = tt

tells_of : {O : Type 0} (v : View O) (a b : O) (words : List (List ℕ)) (asked : Asked) (came : Result Answer Fault) → Comes v a (inputs_for words asked) (OutcomeFor words asked) b came → IfAnswered (answer_in came) (Tells asked)
tells_of v a b words asked (Ok x) p = tells_with words asked x p.found p.outcome p.has p.ends.0
tells_of v a b words asked (Err f) p = tt

long_of : {O : Type 0} (v : View O) (a b : O) (words : List (List ℕ)) (config : List Found) (came : Result Answer Fault) → AreFound (v.tells a) (v.files a) (config_inputs words) config
    → Comes v a (inputs_for words (asked_with words config)) (OutcomeFor words (asked_with words config)) b came → IfAnswered (answer_in came) (NamesOf (config_of words) (asked_with words config))
long_of v a b words config (Ok x) are p =
    names_with words (asked_with words config) x p.found p.outcome (asked_named words (v.tells a) (v.files a) config are) p.has p.ends.0
long_of v a b words config (Err f) are p = tt

-- what words are refused, and which files are too long
pub words_by : {O : Type 0} (v : View O) (a b : O) (words : List (List ℕ)) (came : Result Answer Fault) → (is_unbuilt words ≡ true → came ≡ Ok (answer.NotBuilt unbuilt.Words)) → ComesByWords v a words b came
    → EndsByWords (v.tells a) (v.files a) words (ending_of came)
words_by v a b words came first p = record {
  unbuilt_first = λ e. ap ending_of (first e);
  config = p.config;
  are = p.are;
  tells = subst (λ (x : Option Answer). IfAnswered x (Tells (asked_with words p.config))) (sym (answer_told came)) (tells_of v a b words (asked_with words p.config) came (plainly v a b words came p));
  long = subst (λ (x : Option Answer). IfAnswered x (NamesOf (config_of words) (asked_with words p.config))) (sym (answer_told came)) (long_of v a b words p.config came p.are (plainly v a b words came p));
}

-- ---- calm shelves and streams

succeeds_of : {O : Type 0} (v : View O) (a b : O) (words : List (List ℕ)) (asked : Asked) (came : Result Answer Fault) → v.calm a → v.tells a → AreHeld (v.files a) (inputs_for words asked)
    → Comes v a (inputs_for words asked) (OutcomeFor words asked) b came → ending_of came ≢ ending.ShelfFault
succeeds_of v a b words asked (Ok x) k t h p = answer_no_shelf x
succeeds_of v a b words asked (Err fault.Shelf) k t h p = λ e. succeeds v a b (inputs_for words asked) (OutcomeFor words asked) k t h p
succeeds_of v a b words asked (Err fault.Prog) k t h p = λ e. cc
succeeds_of v a b words asked (Err fault.Stat) k t h p = λ e. cc
succeeds_of v a b words asked (Err fault.OutOfMemory) k t h p = λ e. cc

pub succeeds_by : {O : Type 0} (v : View O) (a b : O) (words : List (List ℕ)) (came : Result Answer Fault) → v.calm a → v.tells a → AreHeld (v.files a) (inputs_in words (v.files a)) → ComesByWords v a words b came
    → ending_of came ≢ ending.ShelfFault
succeeds_by v a b words came k t h p = succeeds_of v a b words (asked_in words (v.files a)) came k t h (plainly_in v a b words came p t)

streams_succeed_of : {O : Type 0} (v : View O) (a b : O) (words : List (List ℕ)) (asked : Asked) (came : Result Answer Fault) → v.prog.calm a → v.stat.calm a → Comes v a (inputs_for words asked) (OutcomeFor words asked) b came → ending_of came ≢ ending.SinkFault
streams_succeed_of v a b words asked (Ok x) k l p = answer_no_sink x
streams_succeed_of v a b words asked (Err fault.Shelf) k l p = λ e. cc
streams_succeed_of v a b words asked (Err fault.Prog) k l p = λ e. prog_succeeds v a b (inputs_for words asked) (OutcomeFor words asked) k p
streams_succeed_of v a b words asked (Err fault.Stat) k l p = λ e. stat_succeeds v a b (inputs_for words asked) (OutcomeFor words asked) l p
streams_succeed_of v a b words asked (Err fault.OutOfMemory) k l p = λ e. cc

pub streams_succeed_by : {O : Type 0} (v : View O) (a b : O) (words : List (List ℕ)) (came : Result Answer Fault) → v.prog.calm a → v.stat.calm a → ComesByWords v a words b came → ending_of came ≢ ending.SinkFault
streams_succeed_by v a b words came k l p = streams_succeed_of v a b words (asked_with words p.config) came k l (plainly v a b words came p)
