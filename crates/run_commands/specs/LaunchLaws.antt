-- Laws of programs that are launched: a command that goes on with one comes to what its files decide.
use Rattle.std.specs.Prelude.{◌≡◌, ◌++◌, ℕ, List, [], ◌∷◌, Result, Ok, Err}
use Rattle.std.proofs.Common.{refl, sym, subst, inl, inr, append-nil}
use Rattle.event_trace.specs.declared.trace.Trace.{Trace}
use Rattle.sim_safe.specs.State.{State, state_of}
use Rattle.sim_opts.specs.Request.{Run}
use Rattle.journal.specs.declared.fault.Fault.{Fault}
use Rattle.journal.specs.declared.fault.Fault.TheVariants as fault
use Rattle.journal.specs.declared.loading.Found.{Found}
use Rattle.journal.specs.Write.{Journal, Write}
use Rattle.journal.specs.View.{View, Wrote, GaveUp}
use Rattle.journal.specs.Load.{AreFound}
use Rattle.journal.specs.Outcome.{Outcome, Ends, EndsByFound, Comes}
use Rattle.journal.specs.Laws.{ends_more}
use Rattle.answers.specs.declared.answer.Answer.{Answer}
use Rattle.answers.specs.Answer.{answered}
use Rattle.run_commands.specs.declared.judging.Program.{Program}
use Rattle.run_commands.specs.declared.launching.Launched.{Launched}
use Rattle.run_commands.specs.declared.launching.Launched.TheVariants as launches
use Rattle.run_commands.specs.Program.{program_inputs, ProgramOutcome}
use Rattle.run_commands.specs.ProgramLaws.{program_map}
use Rattle.run_commands.specs.Launching.{HasProgram, LaunchHas, Launches}

ends_behind_none : {O : Type 0} (v : View O) (a b c : O) (h : Journal) (o : Outcome Answer) (r : Result Answer Fault) → h ≡ [] → Wrote v a h b → Ends v b o c r → Ends v a o c r
ends_behind_none v a b c h o r e wrote rest =
    subst (λ (w : Journal). Ends v a (answered o.ending w) c r) (append-nil o.writes) (ends_more v a b c [] o r (subst (λ x. Wrote v a x b) e wrote) rest)

-- nothing can't be given up
no_rest : {X : Type 0} (later done : Journal) (next : Write) → [] ≡ later ++ next ∷ done → X
no_rest [] done next e = absurd cc
no_rest (w ∷ later) done next e = absurd cc

none_given_up : {O X : Type 0} (v : View O) (a b : O) (f : Fault) → GaveUp v a [] f b → X
none_given_up v a b fault.Shelf q = no_rest q.later q.done q.next q.all
none_given_up v a b fault.Prog q = no_rest q.later q.done q.next q.all
none_given_up v a b fault.Stat q = no_rest q.later q.done q.next q.all
none_given_up v a b fault.OutOfMemory q = no_rest q.later q.done q.next q.all

-- ---- what comes of a launch

-- a fact of files that stand for a program is one of what comes next
next_has : (r : Run) (loaded : List Found) (o : Outcome Answer) (N : Trace → State → Type 0) (t : Trace) (s : State) → N t s → ProgramOutcome r loaded o (HasProgram t s) → ProgramOutcome r loaded o N
next_has r loaded o N t s n x =
    program_map r loaded o (HasProgram t s) N (λ x y h. subst (λ (z : Trace). N z y) (sym h.0) (subst (λ (z : State). N t z) (sym h.1) n)) x

ready_ends : {O : Type 0} (v : View O) (a b c : O) (r : Run) (p : Program) (N : Outcome Answer → Trace → State → Type 0) (o : Outcome Answer) (result : Result Answer Fault) → Launches v a r b (Ok (launches.Ready p))
    → N o p.trace (state_of p.arch) → Ends v b o c result → EndsByFound v a (program_inputs r) (λ fs x. ProgramOutcome r fs x (N x)) c result
ready_ends v a b c r p N o result q n rest =
    let l = q.outcome in
    let has = subst (λ (e : Launched). LaunchHas (ProgramOutcome r q.found) e l.writes) (sym q.ends.0) q.has in
    record {
      found = q.found;
      are = q.are;
      outcome = o;
      has = next_has r q.found o (N o) p.trace (state_of p.arch) n (has.1 o);
      ends = ends_behind_none v a b c l.writes o result has.0 q.ends.1 rest;
    }

-- with a program that is ready a command goes on
pub ready_goes : {O : Type 0} (v : View O) (a b c : O) (r : Run) (p : Program) (N : Outcome Answer → Trace → State → Type 0) (o : Outcome Answer) (result : Result Answer Fault) → Launches v a r b (Ok (launches.Ready p))
    → N o p.trace (state_of p.arch) → Ends v b o c result → Comes v a (program_inputs r) (λ fs x. ProgramOutcome r fs x (N x)) c result
ready_goes v a b c r p N o (Ok x) q n rest = ready_ends v a b c r p N o (Ok x) q n rest
ready_goes v a b c r p N o (Err f) q n rest = inr (ready_ends v a b c r p N o (Err f) q n rest)

-- a program that is refused is so whatever comes next
never_next : (r : Run) (loaded : List Found) (o : Outcome Answer) (N : Trace → State → Type 0) → ProgramOutcome r loaded o (λ _ _. ⊥) → ProgramOutcome r loaded o N
never_next r loaded o N x = program_map r loaded o (λ _ _. ⊥) N (λ t s h. absurd h) x

-- with one that was refused it has answered
pub refused_goes : {O : Type 0} (v : View O) (a b : O) (r : Run) (x : Answer) (N : Outcome Answer → Trace → State → Type 0) → Launches v a r b (Ok (launches.Refused x))
    → Comes v a (program_inputs r) (λ fs y. ProgramOutcome r fs y (N y)) b (Ok x)
refused_goes v a b r x N q =
    let l = q.outcome in
    let o : Outcome Answer = answered x l.writes in
    let has = subst (λ (e : Launched). LaunchHas (ProgramOutcome r q.found) e l.writes) (sym q.ends.0) q.has in
    record { found = q.found; are = q.are; outcome = o; has = never_next r q.found o (N o) has; ends = (refl, q.ends.1) }

gave_up_ends : {O : Type 0} (v : View O) (a b : O) (r : Run) (f : Fault) (N : Outcome Answer → Trace → State → Type 0) (found : List Found) (e : Launched) (writes : Journal) → AreFound (v.tells a) (v.files a) (program_inputs r) found
    → LaunchHas (ProgramOutcome r found) e writes → GaveUp v a writes f b → EndsByFound v a (program_inputs r) (λ fs y. ProgramOutcome r fs y (N y)) b (Err f)
gave_up_ends v a b r f N found (launches.Ready p) writes are has q = none_given_up v a b f (subst (λ (h : Journal). GaveUp v a h f b) has.0 q)
gave_up_ends v a b r f N found (launches.Refused x) writes are has q =
    let o : Outcome Answer = answered x writes in
    record { found = found; are = are; outcome = o; has = never_next r found o (N o) has; ends = q }

-- or a fault made it give up
pub gave_up_goes : {O : Type 0} (v : View O) (a b : O) (r : Run) (f : Fault) (N : Outcome Answer → Trace → State → Type 0) → Launches v a r b (Err f) → Comes v a (program_inputs r) (λ fs y. ProgramOutcome r fs y (N y)) b (Err f)
gave_up_goes v a b r f N (inl q) = inl q
gave_up_goes v a b r f N (inr q) = inr (gave_up_ends v a b r f N q.found q.outcome.ending q.outcome.writes q.are q.has q.ends)
