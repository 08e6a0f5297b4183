-- Laws from the one relation of a command to each fact that its callers have.
use Rattle.std.specs.Prelude.{◌≡◌, ◌≢◌, ◌++◌, ℕ, List, [], ◌∷◌, Some, None, IsSome, Result, Ok, Err}
use Rattle.std.proofs.Common.{refl, sym, ap, ◌∙◌, subst, inl, inr, append-nil}
use Rattle.ss_base.specs.Outside.{Files, SameFiles, bytes_at}
use Rattle.journal.specs.declared.fault.Fault.{Fault}
use Rattle.journal.specs.declared.fault.Fault.TheVariants as fault
use Rattle.journal.specs.declared.loading.Found.{Found}
use Rattle.journal.specs.declared.loading.Found.TheVariants as found
use Rattle.journal.specs.Write.{Write, Start, Append, Output, Report, Journal, fault_of, Lacks, files_after, output_of, report_of, GotFront, PartOfFiles, PartOfOutput}
use Rattle.journal.specs.View.{View, counts, Stays, Raised, Wrote, Failed, LeftOut, GaveUp}
use Rattle.journal.specs.Load.{Input, AreHeld, IsFound, AreFound, GaveUpLoading}
use Rattle.journal.specs.Outcome.{Outcome, EndsByFound, Comes}
use Rattle.journal.specs.Texts.{StartsFiles, ReportsLast, WholeFiles, FileFronts}
use Rattle.journal.specs.Laws.{lacks_earlier}
use Rattle.journal.specs.Fronts.{whole_files, whole_fronts, part_fronts, fronts_more, starts_earlier, output_part, output_later, report_part, report_later, got_all, no_part}
use Rattle.journal.specs.Clauses.{answer_in, OutcomeWith, Leaves, LeavesFiles, LeavesOutput, LeavesReport, CameTo, ComesAsFar, EndsBy}

-- so writes each outcome of a command
abbrev pub AllStart : {E : Type 0} → (List Found → Outcome E → Type 0) → Type 0
AllStart {E} Has = (fs : List Found) (o : Outcome E) → Has fs o → StartsFiles o.writes

-- so does one that reports only at its end
abbrev pub AllReportLast : {E : Type 0} → (List Found → Outcome E → Type 0) → Type 0
AllReportLast {E} Has = (fs : List Found) (o : Outcome E) → Has fs o → ReportsLast o.writes

-- ---- files that are told

is_found_told : (Told : Type 0) (files : Files) (i : Input) (f : Found) → Told → IsFound Told files i f → IsFound (Unit {0}) files i f
is_found_told Told files i (found.Whole bytes) t h = (h.0, λ _. h.1 t)
is_found_told Told files i found.TooLong t h = λ _. h t

are_found_told : (Told : Type 0) (files : Files) (is : List Input) (fs : List Found) → Told → AreFound Told files is fs → AreFound (Unit {0}) files is fs
are_found_told Told files [] [] t h = tt
are_found_told Told files [] (f ∷ fs) t h = h
are_found_told Told files (i ∷ is) [] t h = h
are_found_told Told files (i ∷ is) (f ∷ fs) t h = (is_found_told Told files i f t h.0, are_found_told Told files is fs t h.1)

-- ---- from each arm to its fact

loaded_with : {O E : Type 0} (v : View O) (a b : O) (inputs : List Input) (Has : List Found → Outcome E → Type 0) (r : Result E Fault) (Fact : Outcome E → Type 0)
    → v.tells a → (p : EndsByFound v a inputs Has b r) → Fact p.outcome → OutcomeWith (v.files a) inputs Has Fact
loaded_with v a b inputs Has r Fact t p h = record { found = p.found; are = are_found_told (v.tells a) (v.files a) inputs p.found t p.are; outcome = p.outcome; has = p.has; holds = h }

leaves : {O E : Type 0} (v : View O) (a b : O) (inputs : List Input) (Has : List Found → Outcome E → Type 0) (r : Result E Fault) (Whole : Outcome E → Type 0) (Same : Type 0) (Front : Outcome E → Type 0)
    → v.tells a → ((o : Outcome E) (fs : List Found) → Has fs o → Wrote v a o.writes b → Whole o) → ((f : Fault) → GaveUpLoading v a inputs f b → Same)
    → ((o : Outcome E) (fs : List Found) (f : Fault) → Has fs o → GaveUp v a o.writes f b → Front o) → Comes v a inputs Has b r → Leaves (v.files a) inputs Has (answer_in r) Whole Same Front
leaves v a b inputs Has (Ok e) Whole Same Front t whole same front p =
    loaded_with v a b inputs Has (Ok e) (λ o. (e ≡ o.ending) × Whole o) t p (p.ends.0, whole p.outcome p.found p.has p.ends.1)
leaves v a b inputs Has (Err f) Whole Same Front t whole same front (inl p) = inl (same f p)
leaves v a b inputs Has (Err f) Whole Same Front t whole same front (inr p) =
    inr (loaded_with v a b inputs Has (Err f) Front t p (front p.outcome p.found f p.has p.ends))

-- ---- what files hold

failed_files : {O : Type 0} (v : View O) (a b : O) (h : Journal) (f : Fault) → v.tells a → StartsFiles h → Failed v a h f b → FileFronts h (v.files a) (v.files b)
failed_files v a b h f t s q =
    let starts = subst StartsFiles q.all s in
    subst (λ l. FileFronts l (v.files a) (v.files b)) (sym q.all)
    (fronts_more q.later (q.next ∷ q.done) (v.files a) (v.files b) starts (part_fronts q.next q.done (v.files a) (v.files b) (starts_earlier q.later (q.next ∷ q.done) starts) (q.files t)))

left_files : {O : Type 0} (v : View O) (a b : O) (h : Journal) → v.tells a → StartsFiles h → LeftOut v a h b → FileFronts h (v.files a) (v.files b)
left_files v a b h t s q =
    let starts = subst StartsFiles q.all s in
    subst (λ l. FileFronts l (v.files a) (v.files b)) (sym q.all)
    (fronts_more q.later (q.next ∷ q.done) (v.files a) (v.files b) starts
    (fronts_more (q.next ∷ []) q.done (v.files a) (v.files b) (starts_earlier q.later (q.next ∷ q.done) starts)
    (whole_fronts q.done (v.files a) (v.files b) (starts_earlier q.later (q.next ∷ q.done) starts).1 (q.holds.files t))))

gave_up_files : {O : Type 0} (v : View O) (a b : O) (h : Journal) (f : Fault) → v.tells a → StartsFiles h → GaveUp v a h f b → FileFronts h (v.files a) (v.files b)
gave_up_files v a b h fault.Shelf t s q = failed_files v a b h fault.Shelf t s q
gave_up_files v a b h fault.Prog t s q = failed_files v a b h fault.Prog t s q
gave_up_files v a b h fault.Stat t s q = failed_files v a b h fault.Stat t s q
gave_up_files v a b h fault.OutOfMemory t s q = left_files v a b h t s q

same_loading : {O : Type 0} (v : View O) (a b : O) (inputs : List Input) (f : Fault) → v.tells a → GaveUpLoading v a inputs f b → SameFiles (v.files a) (v.files b)
same_loading v a b inputs fault.Shelf t q = λ name. ap (λ (files : Files). files name) (q.unloaded.files t)
same_loading v a b inputs fault.Prog t q = absurd q
same_loading v a b inputs fault.Stat t q = absurd q
same_loading v a b inputs fault.OutOfMemory t q = λ name. ap (λ (files : Files). files name) (q.holds.files t)

pub leaves_files : {O E : Type 0} (v : View O) (a b : O) (inputs : List Input) (Has : List Found → Outcome E → Type 0) (r : Result E Fault)
    → AllStart Has → v.tells a → Comes v a inputs Has b r → LeavesFiles inputs Has (v.files a) (v.files b) (answer_in r)
leaves_files v a b inputs Has r starts t p =
    leaves v a b inputs Has r (λ o. WholeFiles o.writes (v.files a) (v.files b)) (SameFiles (v.files a) (v.files b)) (λ o. FileFronts o.writes (v.files a) (v.files b)) t
    (λ o fs h w. subst (λ x. WholeFiles o.writes (v.files a) x) (sym (w.holds.files t)) (whole_files o.writes (v.files a) (starts fs o h)))
    (λ f q. same_loading v a b inputs f t q)
    (λ o fs f h q. gave_up_files v a b o.writes f t (starts fs o h) q) p

-- ---- what streams hold

prog_loading : {O : Type 0} (v : View O) (a b : O) (inputs : List Input) (f : Fault) → GaveUpLoading v a inputs f b → v.prog.sink b ≡ v.prog.sink a
prog_loading v a b inputs fault.Shelf q = q.unloaded.prog
prog_loading v a b inputs fault.Prog q = absurd q
prog_loading v a b inputs fault.Stat q = absurd q
prog_loading v a b inputs fault.OutOfMemory q = q.untouched.prog tt

stat_loading : {O : Type 0} (v : View O) (a b : O) (inputs : List Input) (f : Fault) → GaveUpLoading v a inputs f b → v.stat.sink b ≡ v.stat.sink a
stat_loading v a b inputs fault.Shelf q = q.unloaded.stat
stat_loading v a b inputs fault.Prog q = absurd q
stat_loading v a b inputs fault.Stat q = absurd q
stat_loading v a b inputs fault.OutOfMemory q = q.untouched.stat tt

failed_output : {O : Type 0} (v : View O) (a b : O) (h : Journal) (f : Fault) → v.prog.tells a → Failed v a h f b → GotFront (v.prog.contents a) (output_of h) (v.prog.contents b)
failed_output v a b h f t q =
    subst (λ l. GotFront (v.prog.contents a) (output_of l) (v.prog.contents b)) (sym q.all)
    (output_later q.later (q.next ∷ q.done) (v.prog.contents a) (v.prog.contents b) (output_part q.next q.done (v.prog.contents a) (v.prog.contents b) (q.output t)))

failed_report : {O : Type 0} (v : View O) (a b : O) (h : Journal) (f : Fault) → v.stat.tells a → Failed v a h f b → GotFront (v.stat.contents a) (report_of h) (v.stat.contents b)
failed_report v a b h f t q =
    subst (λ l. GotFront (v.stat.contents a) (report_of l) (v.stat.contents b)) (sym q.all)
    (report_later q.later (q.next ∷ q.done) (v.stat.contents a) (v.stat.contents b) (report_part q.next q.done (v.stat.contents a) (v.stat.contents b) (q.report t)))

left_output : {O : Type 0} (v : View O) (a b : O) (h : Journal) → v.prog.tells a → LeftOut v a h b → GotFront (v.prog.contents a) (output_of h) (v.prog.contents b)
left_output v a b h t q =
    subst (λ l. GotFront (v.prog.contents a) (output_of l) (v.prog.contents b)) (sym q.all)
    (output_later q.later (q.next ∷ q.done) (v.prog.contents a) (v.prog.contents b)
    (output_later (q.next ∷ []) q.done (v.prog.contents a) (v.prog.contents b) (got_all (v.prog.contents a) (output_of q.done) (v.prog.contents b) (q.holds.output t))))

left_report : {O : Type 0} (v : View O) (a b : O) (h : Journal) → v.stat.tells a → LeftOut v a h b → GotFront (v.stat.contents a) (report_of h) (v.stat.contents b)
left_report v a b h t q =
    subst (λ l. GotFront (v.stat.contents a) (report_of l) (v.stat.contents b)) (sym q.all)
    (report_later q.later (q.next ∷ q.done) (v.stat.contents a) (v.stat.contents b)
    (report_later (q.next ∷ []) q.done (v.stat.contents a) (v.stat.contents b) (got_all (v.stat.contents a) (report_of q.done) (v.stat.contents b) (q.holds.report t))))

gave_up_output : {O : Type 0} (v : View O) (a b : O) (h : Journal) (f : Fault) → v.prog.tells a → GaveUp v a h f b → GotFront (v.prog.contents a) (output_of h) (v.prog.contents b)
gave_up_output v a b h fault.Shelf t q = failed_output v a b h fault.Shelf t q
gave_up_output v a b h fault.Prog t q = failed_output v a b h fault.Prog t q
gave_up_output v a b h fault.Stat t q = failed_output v a b h fault.Stat t q
gave_up_output v a b h fault.OutOfMemory t q = left_output v a b h t q

gave_up_report : {O : Type 0} (v : View O) (a b : O) (h : Journal) (f : Fault) → v.stat.tells a → GaveUp v a h f b → GotFront (v.stat.contents a) (report_of h) (v.stat.contents b)
gave_up_report v a b h fault.Shelf t q = failed_report v a b h fault.Shelf t q
gave_up_report v a b h fault.Prog t q = failed_report v a b h fault.Prog t q
gave_up_report v a b h fault.Stat t q = failed_report v a b h fault.Stat t q
gave_up_report v a b h fault.OutOfMemory t q = left_report v a b h t q

same_output : {O : Type 0} (v : View O) (a b : O) (inputs : List Input) (f : Fault) → v.prog.tells a → GaveUpLoading v a inputs f b → v.prog.contents b ≡ v.prog.contents a
same_output v a b inputs fault.Shelf t q = q.unloaded.output t
same_output v a b inputs fault.Prog t q = absurd q
same_output v a b inputs fault.Stat t q = absurd q
same_output v a b inputs fault.OutOfMemory t q = q.holds.output t ∙ append-nil (v.prog.contents a)

same_report : {O : Type 0} (v : View O) (a b : O) (inputs : List Input) (f : Fault) → v.stat.tells a → GaveUpLoading v a inputs f b → v.stat.contents b ≡ v.stat.contents a
same_report v a b inputs fault.Shelf t q = q.unloaded.report t
same_report v a b inputs fault.Prog t q = absurd q
same_report v a b inputs fault.Stat t q = absurd q
same_report v a b inputs fault.OutOfMemory t q = q.holds.report t ∙ append-nil (v.stat.contents a)

pub leaves_output : {O E : Type 0} (v : View O) (a b : O) (inputs : List Input) (Has : List Found → Outcome E → Type 0) (r : Result E Fault)
    → v.tells a → v.prog.tells a → Comes v a inputs Has b r → LeavesOutput inputs Has (v.files a) (v.prog.contents a) (v.prog.contents b) (answer_in r)
leaves_output v a b inputs Has r t u p =
    leaves v a b inputs Has r (λ o. v.prog.contents b ≡ v.prog.contents a ++ output_of o.writes) (v.prog.contents b ≡ v.prog.contents a) (λ o. GotFront (v.prog.contents a) (output_of o.writes) (v.prog.contents b)) t
    (λ o fs h w. w.holds.output u)
    (λ f q. same_output v a b inputs f u q)
    (λ o fs f h q. gave_up_output v a b o.writes f u q) p

pub leaves_report : {O E : Type 0} (v : View O) (a b : O) (inputs : List Input) (Has : List Found → Outcome E → Type 0) (r : Result E Fault)
    → v.tells a → v.stat.tells a → Comes v a inputs Has b r → LeavesReport inputs Has (v.files a) (v.stat.contents a) (v.stat.contents b) (answer_in r)
leaves_report v a b inputs Has r t u p =
    leaves v a b inputs Has r (λ o. v.stat.contents b ≡ v.stat.contents a ++ report_of o.writes) (v.stat.contents b ≡ v.stat.contents a) (λ o. GotFront (v.stat.contents a) (report_of o.writes) (v.stat.contents b)) t
    (λ o fs h w. w.holds.report u)
    (λ f q. same_report v a b inputs f u q)
    (λ o fs f h q. gave_up_report v a b o.writes f u q) p

-- ---- one place for all

-- nothing of a write is a part of it
no_part_of_files : (w : Write) (old : Files) → PartOfFiles w old old
no_part_of_files (Start name) old = (λ other d. refl, inl refl)
no_part_of_files (Append name bytes) old = (λ other d. refl, no_part (bytes_at old name) bytes)
no_part_of_files (Output bytes) old = refl
no_part_of_files (Report bytes) old = refl

no_part_of_output : (w : Write) (old : List ℕ) → PartOfOutput w old old
no_part_of_output (Start name) old = refl
no_part_of_output (Append name bytes) old = refl
no_part_of_output (Output bytes) old = no_part old bytes
no_part_of_output (Report bytes) old = refl

left_at : {O : Type 0} (v : View O) (a b : O) (h : Journal) → v.tells a → v.prog.tells a → LeftOut v a h b → CameTo h (v.files a) (v.files b) (v.prog.contents a) (v.prog.contents b)
left_at v a b h t u q = record {
  done = q.done;
  next = q.next;
  later = q.later;
  all = q.all;
  files = subst (λ x. PartOfFiles q.next (files_after q.done (v.files a)) x) (sym (q.holds.files t)) (no_part_of_files q.next (files_after q.done (v.files a)));
  output = subst (λ x. PartOfOutput q.next (v.prog.contents a ++ output_of q.done) x) (sym (q.holds.output u)) (no_part_of_output q.next (v.prog.contents a ++ output_of q.done));
}

failed_at : {O : Type 0} (v : View O) (a b : O) (h : Journal) (f : Fault) → v.tells a → v.prog.tells a → Failed v a h f b → CameTo h (v.files a) (v.files b) (v.prog.contents a) (v.prog.contents b)
failed_at v a b h f t u q = record { done = q.done; next = q.next; later = q.later; all = q.all; files = q.files t; output = q.output u }

gave_up_at : {O : Type 0} (v : View O) (a b : O) (h : Journal) (f : Fault) → v.tells a → v.prog.tells a → GaveUp v a h f b → CameTo h (v.files a) (v.files b) (v.prog.contents a) (v.prog.contents b)
gave_up_at v a b h fault.Shelf t u q = failed_at v a b h fault.Shelf t u q
gave_up_at v a b h fault.Prog t u q = failed_at v a b h fault.Prog t u q
gave_up_at v a b h fault.Stat t u q = failed_at v a b h fault.Stat t u q
gave_up_at v a b h fault.OutOfMemory t u q = left_at v a b h t u q

pub comes_as_far : {O E : Type 0} (v : View O) (a b : O) (inputs : List Input) (Has : List Found → Outcome E → Type 0) (f : Fault)
    → v.tells a → v.prog.tells a → Comes v a inputs Has b (Err f) → ComesAsFar inputs Has (v.files a) (v.files b) (v.prog.contents a) (v.prog.contents b)
comes_as_far v a b inputs Has f t u (inl q) = inl (same_loading v a b inputs f t q, same_output v a b inputs f u q)
comes_as_far v a b inputs Has f t u (inr q) =
    inr (loaded_with v a b inputs Has (Err f) (λ o. CameTo o.writes (v.files a) (v.files b) (v.prog.contents a) (v.prog.contents b)) t q (gave_up_at v a b q.outcome.writes f t u q.ends))

-- at one place of a journal each file has a front of its text, and the first stream a front of the output
pub came_files : (h : Journal) (old new : Files) (before now : List ℕ) → StartsFiles h → CameTo h old new before now → FileFronts h old new
came_files h old new before now s q =
    let starts = subst StartsFiles q.all s in
    subst (λ l. FileFronts l old new) (sym q.all) (fronts_more q.later (q.next ∷ q.done) old new starts (part_fronts q.next q.done old new (starts_earlier q.later (q.next ∷ q.done) starts) q.files))

pub came_output : (h : Journal) (old new : Files) (before now : List ℕ) → CameTo h old new before now → GotFront before (output_of h) now
came_output h old new before now q =
    subst (λ l. GotFront before (output_of l) now) (sym q.all) (output_later q.later (q.next ∷ q.done) before now (output_part q.next q.done before now q.output))

some_is_none : {E : Type 0} (e : E) → Some e ≡ None → ⊥
some_is_none e h = cc

pub comes_far : {O E : Type 0} (v : View O) (a b : O) (inputs : List Input) (Has : List Found → Outcome E → Type 0) (r : Result E Fault)
    → v.tells a → v.prog.tells a → answer_in r ≡ None → Comes v a inputs Has b r → ComesAsFar inputs Has (v.files a) (v.files b) (v.prog.contents a) (v.prog.contents b)
comes_far v a b inputs Has (Ok e) t u n p = absurd (some_is_none e n)
comes_far v a b inputs Has (Err f) t u n p = comes_as_far v a b inputs Has f t u p

-- ---- reports at the end

-- writes before a later one have no report
last_before : (later : Journal) (next : Write) (done : Journal) → ReportsLast (later ++ next ∷ done) → Lacks fault.Stat done
last_before [] next done l = l
last_before (w ∷ later) next done l = (lacks_earlier fault.Stat later (next ∷ done) l).1

no_report : (h : Journal) → Lacks fault.Stat h → report_of h ≡ []
no_report [] l = refl
no_report (Start name ∷ h) l = no_report h l.1
no_report (Append name bytes ∷ h) l = no_report h l.1
no_report (Output bytes ∷ h) l = no_report h l.1
no_report (Report bytes ∷ h) l = absurd (l.0 refl)

-- so no report is on the second stream where memory ran out
left_no_report : {O : Type 0} (v : View O) (a b : O) (h : Journal) → v.stat.tells a → ReportsLast h → LeftOut v a h b → v.stat.contents b ≡ v.stat.contents a
left_no_report v a b h t l q =
    let none = no_report q.done (last_before q.later q.next q.done (subst ReportsLast q.all l)) in
    q.holds.report t ∙ ap (λ x. v.stat.contents a ++ x) none ∙ append-nil (v.stat.contents a)

pub memory : {O E : Type 0} (v : View O) (a b : O) (inputs : List Input) (Has : List Found → Outcome E → Type 0)
    → AllReportLast Has → v.stat.tells a → Comes v a inputs Has b (Err fault.OutOfMemory) → v.stat.contents b ≡ v.stat.contents a
memory v a b inputs Has last t (inl q) = same_report v a b inputs fault.OutOfMemory t q
memory v a b inputs Has last t (inr q) = left_no_report v a b q.outcome.writes t (last q.found q.outcome q.has) q.ends

-- a report is the newest write
failed_last : (later : Journal) (next : Write) (done : Journal) → ReportsLast (later ++ next ∷ done) → fault_of next ≡ fault.Stat → later ≡ []
failed_last [] next done l e = refl
failed_last (w ∷ later) next done l e = absurd ((lacks_earlier fault.Stat later (next ∷ done) l).0 e)

-- and where it fails, the others are done
stat_files : (w : Write) (done : Journal) (old new : Files) → fault_of w ≡ fault.Stat → PartOfFiles w (files_after done old) new → new ≡ files_after (w ∷ done) old
stat_files (Start name) done old new e p = cc
stat_files (Append name bytes) done old new e p = cc
stat_files (Output bytes) done old new e p = cc
stat_files (Report bytes) done old new e p = p

stat_output : (w : Write) (done : Journal) (old new : List ℕ) → fault_of w ≡ fault.Stat → PartOfOutput w (old ++ output_of done) new → new ≡ old ++ output_of (w ∷ done)
stat_output (Start name) done old new e p = cc
stat_output (Append name bytes) done old new e p = cc
stat_output (Output bytes) done old new e p = cc
stat_output (Report bytes) done old new e p = p

stat_failed : {O : Type 0} (v : View O) (a b : O) (h : Journal) → v.tells a → StartsFiles h → ReportsLast h → Failed v a h fault.Stat b
    → WholeFiles h (v.files a) (v.files b) × (v.prog.tells a → v.prog.contents b ≡ v.prog.contents a ++ output_of h)
stat_failed v a b h t starts last q =
    let none = failed_last q.later q.next q.done (subst ReportsLast q.all last) (sym q.by) in
    let whole : h ≡ q.next ∷ q.done = q.all ∙ ap (λ l. l ++ q.next ∷ q.done) none in
    let files : v.files b ≡ files_after h (v.files a) = stat_files q.next q.done (v.files a) (v.files b) (sym q.by) (q.files t) ∙ ap (λ l. files_after l (v.files a)) (sym whole) in (
      subst (λ x. WholeFiles h (v.files a) x) (sym files) (whole_files h (v.files a) starts),
      λ u. stat_output q.next q.done (v.prog.contents a) (v.prog.contents b) (sym q.by) (q.output u) ∙ ap (λ l. v.prog.contents a ++ output_of l) (sym whole),
    )

-- files and the first stream are whole where the second stream failed
pub last : {O E : Type 0} (v : View O) (a b : O) (inputs : List Input) (Has : List Found → Outcome E → Type 0)
    → AllStart Has → AllReportLast Has → v.tells a → Comes v a inputs Has b (Err fault.Stat)
    → OutcomeWith (v.files a) inputs Has (λ o. WholeFiles o.writes (v.files a) (v.files b) × (v.prog.tells a → v.prog.contents b ≡ v.prog.contents a ++ output_of o.writes))
last v a b inputs Has starts end t (inl q) = absurd q
last v a b inputs Has starts end t (inr q) =
    loaded_with v a b inputs Has (Err fault.Stat) (λ o. WholeFiles o.writes (v.files a) (v.files b) × (v.prog.tells a → v.prog.contents b ≡ v.prog.contents a ++ output_of o.writes)) t q
    (stat_failed v a b q.outcome.writes t (starts q.found q.outcome q.has) (end q.found q.outcome q.has) q.ends)

-- ---- facts that need no telling

pub ends_by : {O E : Type 0} (v : View O) (a b : O) (inputs : List Input) (Has : List Found → Outcome E → Type 0) (e : E)
    → Comes v a inputs Has b (Ok e) → EndsBy (v.tells a) (v.files a) inputs Has e (λ o. (v.prog.tells a → v.prog.contents b ≡ v.prog.contents a ++ output_of o.writes) × (v.stat.tells a → v.stat.contents b ≡ v.stat.contents a ++ report_of o.writes))
ends_by v a b inputs Has e p = record { found = p.found; are = p.are; outcome = p.outcome; has = p.has; ending = p.ends.0; holds = (p.ends.1.holds.output, p.ends.1.holds.report) }

-- which count of faults is another one
abbrev pub CountsBy : {E : Type 0} → ℕ × ℕ × ℕ → ℕ × ℕ × ℕ → Result E Fault → Type 0
CountsBy before now (Ok e) = now ≡ before
CountsBy before now (Err f) = Raised f before now

gave_up_counts : {O : Type 0} (v : View O) (a b : O) (h : Journal) (f : Fault) → GaveUp v a h f b → Raised f (counts v a) (counts v b)
gave_up_counts v a b h fault.Shelf q = q.counts
gave_up_counts v a b h fault.Prog q = q.counts
gave_up_counts v a b h fault.Stat q = q.counts
gave_up_counts v a b h fault.OutOfMemory q = q.holds.counts

loading_counts : {O : Type 0} (v : View O) (a b : O) (inputs : List Input) (f : Fault) → GaveUpLoading v a inputs f b → Raised f (counts v a) (counts v b)
loading_counts v a b inputs fault.Shelf q = q.unloaded.counts
loading_counts v a b inputs fault.Prog q = absurd q
loading_counts v a b inputs fault.Stat q = absurd q
loading_counts v a b inputs fault.OutOfMemory q = q.holds.counts

pub counts_by : {O E : Type 0} (v : View O) (a b : O) (inputs : List Input) (Has : List Found → Outcome E → Type 0) (r : Result E Fault) → Comes v a inputs Has b r → CountsBy (counts v a) (counts v b) r
counts_by v a b inputs Has (Ok e) p = p.ends.1.holds.counts
counts_by v a b inputs Has (Err f) (inl q) = loading_counts v a b inputs f q
counts_by v a b inputs Has (Err f) (inr q) = gave_up_counts v a b q.outcome.writes f q.ends

-- all that stays
gave_up_stays : {O : Type 0} (v : View O) (a b : O) (h : Journal) (f : Fault) → GaveUp v a h f b → Stays v a b
gave_up_stays v a b h fault.Shelf q = q.stays
gave_up_stays v a b h fault.Prog q = q.stays
gave_up_stays v a b h fault.Stat q = q.stays
gave_up_stays v a b h fault.OutOfMemory q = q.holds.stays

loading_stays : {O : Type 0} (v : View O) (a b : O) (inputs : List Input) (f : Fault) → GaveUpLoading v a inputs f b → Stays v a b
loading_stays v a b inputs fault.Shelf q = q.unloaded.stays
loading_stays v a b inputs fault.Prog q = absurd q
loading_stays v a b inputs fault.Stat q = absurd q
loading_stays v a b inputs fault.OutOfMemory q = q.holds.stays

pub stays : {O E : Type 0} (v : View O) (a b : O) (inputs : List Input) (Has : List Found → Outcome E → Type 0) (r : Result E Fault) → Comes v a inputs Has b r → Stays v a b
stays v a b inputs Has (Ok e) p = p.ends.1.holds.stays
stays v a b inputs Has (Err f) (inl q) = loading_stays v a b inputs f q
stays v a b inputs Has (Err f) (inr q) = gave_up_stays v a b q.outcome.writes f q.ends

held_among : (files : Files) (before : List Input) (i : Input) (later : List Input) → AreHeld files (before ++ i ∷ later) → IsSome (files i.name)
held_among files [] i later h = h.0
held_among files (j ∷ before) i later h = held_among files before i later h.1

-- a calm shelf that holds the files, and tells it, has no fault
pub succeeds : {O E : Type 0} (v : View O) (a b : O) (inputs : List Input) (Has : List Found → Outcome E → Type 0) → v.calm a → v.tells a → AreHeld (v.files a) inputs → Comes v a inputs Has b (Err fault.Shelf) → ⊥
succeeds v a b inputs Has k t h (inl q) = q.unloaded.calm k t (held_among (v.files a) q.before q.failed q.later (subst (AreHeld (v.files a)) q.all h))
succeeds v a b inputs Has k t h (inr q) = q.ends.calm k

-- ---- untouched streams

-- a fault before the report leaves the second stream untouched
failed_quiet : {O : Type 0} (v : View O) (a b : O) (h : Journal) (f : Fault) → f ≢ fault.Stat → ReportsLast h → Failed v a h f b → v.stat.sink b ≡ v.stat.sink a
failed_quiet v a b h f d l q = q.untouched.stat (λ e. d (q.by ∙ e), last_before q.later q.next q.done (subst ReportsLast q.all l))

pub quiet : {O E : Type 0} (v : View O) (a b : O) (inputs : List Input) (Has : List Found → Outcome E → Type 0) (f : Fault)
    → AllReportLast Has → f ≢ fault.Stat → f ≢ fault.OutOfMemory → Comes v a inputs Has b (Err f) → v.stat.sink b ≡ v.stat.sink a
quiet v a b inputs Has f last d e (inl q) = stat_loading v a b inputs f q
quiet v a b inputs Has fault.Shelf last d e (inr q) = failed_quiet v a b q.outcome.writes fault.Shelf d (last q.found q.outcome q.has) q.ends
quiet v a b inputs Has fault.Prog last d e (inr q) = failed_quiet v a b q.outcome.writes fault.Prog d (last q.found q.outcome q.has) q.ends
quiet v a b inputs Has fault.Stat last d e (inr q) = absurd (d refl)
quiet v a b inputs Has fault.OutOfMemory last d e (inr q) = absurd (e refl)

-- a stream is untouched that gets nothing from any outcome with the answer
pub quiet_prog : {O E : Type 0} (v : View O) (a b : O) (inputs : List Input) (Has : List Found → Outcome E → Type 0) (e : E)
    → ((fs : List Found) (o : Outcome E) → Has fs o → e ≡ o.ending → Lacks fault.Prog o.writes) → Comes v a inputs Has b (Ok e) → v.prog.sink b ≡ v.prog.sink a
quiet_prog v a b inputs Has e lacks p = p.ends.1.untouched.prog (lacks p.found p.outcome p.has p.ends.0)

pub quiet_stat : {O E : Type 0} (v : View O) (a b : O) (inputs : List Input) (Has : List Found → Outcome E → Type 0) (e : E)
    → ((fs : List Found) (o : Outcome E) → Has fs o → e ≡ o.ending → Lacks fault.Stat o.writes) → Comes v a inputs Has b (Ok e) → v.stat.sink b ≡ v.stat.sink a
quiet_stat v a b inputs Has e lacks p = p.ends.1.untouched.stat (lacks p.found p.outcome p.has p.ends.0)

-- ---- calm streams

-- a calm stream has no fault
pub prog_succeeds : {O E : Type 0} (v : View O) (a b : O) (inputs : List Input) (Has : List Found → Outcome E → Type 0) → v.prog.calm a → Comes v a inputs Has b (Err fault.Prog) → ⊥
prog_succeeds v a b inputs Has k (inl q) = q
prog_succeeds v a b inputs Has k (inr q) = q.ends.calm k

pub stat_succeeds : {O E : Type 0} (v : View O) (a b : O) (inputs : List Input) (Has : List Found → Outcome E → Type 0) → v.stat.calm a → Comes v a inputs Has b (Err fault.Stat) → ⊥
stat_succeeds v a b inputs Has k (inl q) = q
stat_succeeds v a b inputs Has k (inr q) = q.ends.calm k
