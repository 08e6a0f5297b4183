-- Laws from the place in its writes at which a command gave up to one number of instructions.
use Rattle.std.proofs.Common.{◌≡◌, ◌⊎◌, ◌≤◌, ◌-◌, ◌++◌, ℕ, zero, suc, Bool, List, [], ◌∷◌, Option, Some, None, Result, Ok, Err, refl, sym, ap, ◌∙◌, subst, inl, inr, append_assoc, append-nil, arith}
use Rattle.std.specs.Prelude.{unwrap_or}
use Rattle.std.proofs.Math.Seq.{take-length}
use Rattle.ss_base.specs.Outside.{Files, BeginsWith}
use Rattle.ss_base.specs.Begins.{begins_front}
use Rattle.ecoff_load.specs.declared.image.Image.{Image}
use Rattle.checkpoint.specs.declared.fault.PointFault.{PointFault}
use Rattle.checkpoint.specs.declared.fault.PointFault.TheVariants as point_fault
use Rattle.event_trace.specs.declared.fault.TraceFault.{TraceFault}
use Rattle.event_trace.specs.declared.fault.TraceFault.TheVariants as trace_fault
use Rattle.event_trace.specs.declared.trace.Trace.{Trace}
use Rattle.event_trace.specs.Grammar.{absent_trace}
use Rattle.event_trace.specs.Reading.{checked}
use Rattle.event_trace.specs.Recorder.{empty_trace}
use Rattle.event_trace.specs.World.{File, WorldState}
use Rattle.sim_safe.specs.State.{State, start_state}
use Rattle.sim_safe.specs.Record.{Item}
use Rattle.sim_safe.specs.Commit.{output_of as output_of_item, outputs_of, onto}
use Rattle.sim_safe.specs.Recording.{serve}
use Rattle.sim_safe.specs.Run.{items_of, items_front, after, end_of}
use Rattle.sim_watch.specs.Watch.{last_piece, run_journal, written_of}
use Rattle.sim_watch.proofs.Items.{onto_append, written_grow}
use Rattle.sim_watch.proofs.Texts.{run_outputs, written_outputs}
use Rattle.journal.specs.declared.loading.Found.{Found}
use Rattle.journal.specs.declared.loading.Found.TheVariants as found
use Rattle.journal.specs.Write.{Write, Start, Append, Output, Report, Journal, output_of, PartOfOutput}
use Rattle.journal.specs.Texts.{StartsFiles}
use Rattle.journal.specs.Outcome.{Outcome}
use Rattle.journal.specs.Clauses.{CameTo}
use Rattle.journal.specs.ClauseLaws.{came_files, came_output}
use Rattle.journal.specs.Laws.{output_more}
use Rattle.answers.specs.declared.answer.Answer.{Answer}
use Rattle.answers.specs.declared.answer.Answer.TheVariants as answer
use Rattle.answers.specs.Answer.{refused}
use Rattle.answers.specs.Judging.{state_at, LoadsFile, LoadsNamed, LoadsEach, JudgesObject, JudgesHeld, JudgesStart, JudgesRead, JudgesGiven}
use Rattle.cut_run.specs.Plan.{Asked, limited}
use Rattle.sim_opts.specs.Request.{Run}
use Rattle.run_commands.specs.Program.{ProgramOutcome}
use Rattle.run_commands.specs.Outcome.{SimSafeOutcome, RecordOutcome, AreApart, asked_of, ran, end_report, recorded, recorded_end, recorded_for, start_of, trace_made, trace_text, world_of}
use Rattle.run_commands.specs.Far.{CameToFront, CameToLimit, RunCame, RunCameBy, with_most}
use Rattle.run_commands.specs.Plain.{plain, plain_ran, ran_for}
use Rattle.run_commands.specs.OutcomeLaws.{ran_proper, recorded_proper, sim_safe_proper, start_output}
use Rattle.run_commands.specs.Prefixes.{recording_first}

-- ---- where a write stands in two lists joined

split : (k h later : Journal) (next : Write) (done : Journal) → k ++ h ≡ later ++ next ∷ done
    → ((more : Journal) × (h ≡ more ++ next ∷ done)) ⊎ ((m : Journal) × (k ≡ later ++ next ∷ m) × (done ≡ m ++ h))
split [] h later next done e = inl (later, e)
split (w ∷ k) h [] next done e = inr (k, (cc), (cc))
split (w ∷ k) h (x ∷ later) next done e =
    let tail : k ++ h ≡ later ++ next ∷ done = cc in
    elim (split k h later next done tail) [ inl p ↦ inl p | inr p ↦ inr (p.0, (let q = p.1 in cc), p.2) ]

part_begins : (w : Write) (old new : List ℕ) → PartOfOutput w old new → BeginsWith new old
part_begins (Start name) old new p = subst (λ l. BeginsWith l old) (sym p) (take-length old)
part_begins (Append name bytes) old new p = subst (λ l. BeginsWith l old) (sym p) (take-length old)
part_begins (Output bytes) old new p = p.0
part_begins (Report bytes) old new p = subst (λ l. BeginsWith l old) (sym p) (take-length old)

-- ---- journals of more and more steps

-- the journals of the first steps, and their output
record Grows (journal : ℕ → Journal) (outputs : ℕ → List ℕ) : Type 0 where
  step : (k : ℕ) → (more : Journal) × (journal (suc k) ≡ more ++ journal k)
  output : (k : ℕ) → output_of (journal k) ≡ outputs k
  further : (k : ℕ) → (more : List ℕ) × (outputs k ≡ outputs (k - 1) ++ more)
  nothing : outputs 0 ≡ []

-- the step at which a write stands
record Place (journal : ℕ → Journal) (outputs : ℕ → List ℕ) (n : ℕ) (next : Write) (done : Journal) : Type 0 where
  steps : ℕ
  most : steps ≤ n
  later : Journal
  within : journal steps ≡ later ++ next ∷ done
  more : List ℕ
  least : output_of done ≡ outputs (steps - 1) ++ more

one_less : (k : ℕ) → suc k - 1 ≡ k
one_less k = omega arith

place_at : (journal : ℕ → Journal) (outputs : ℕ → List ℕ) → Grows journal outputs → (n : ℕ) (later : Journal) (next : Write) (done : Journal) → journal n ≡ later ++ next ∷ done → Place journal outputs n next done
place_at journal outputs g zero later next done e = record { steps = 0; most = omega arith; later = later; within = e; more = output_of done; least = ap (λ x. x ++ output_of done) (sym g.nothing) }
place_at journal outputs g (suc k) later next done e =
    elim (split (g.step k).0 (journal k) later next done (sym (g.step k).1 ∙ e)) [
      | inl p ↦
          (let q = place_at journal outputs g k p.0 next done p.1 in
          record { steps = q.steps; most = omega (arith, q.most); later = q.later; within = q.within; more = q.more; least = q.least })
      | inr p ↦ record {
        steps = suc k;
        most = omega arith;
        later = later;
        within = e;
        more = output_of p.0;
        least = ap output_of p.2 ∙ output_more p.0 (journal k) ∙ ap (λ x. x ++ output_of p.0) (g.output k) ∙ ap (λ (m : ℕ). outputs m ++ output_of p.0) (sym (one_less k));
      }
    ]

-- ---- from a place to a limit

-- what each limit up to n comes to: writes behind the journal of as many steps
record Limits (Has : ℕ → Outcome Answer → Type 0) (of_limit : ℕ → Outcome Answer) (journal : ℕ → Journal) (outputs : ℕ → List ℕ) (n : ℕ) : Type 0 where
  has : (k : ℕ) → Has k (of_limit k)
  top : ℕ → Journal
  writes : (k : ℕ) → k ≤ n → (of_limit k).writes ≡ top k ++ journal k
  starts : (k : ℕ) → StartsFiles (of_limit k).writes
  output : (k : ℕ) → k ≤ n → output_of (of_limit k).writes ≡ outputs k

at_limit : (Has : ℕ → Outcome Answer → Type 0) (of_limit : ℕ → Outcome Answer) (journal : ℕ → Journal) (outputs : ℕ → List ℕ) (n : ℕ) → Limits Has of_limit journal outputs n → (old new : Files) (before now : List ℕ) (k : ℕ) → k ≤ n
    → CameTo (of_limit k).writes old new before now → BeginsWith now (before ++ outputs (k - 1)) → CameToLimit Has n old new before now
at_limit Has of_limit journal outputs n l old new before now k most q least = record {
  limit = k;
  most = most;
  outcome = of_limit k;
  has = l.has k;
  files = came_files (of_limit k).writes old new before now (l.starts k) q;
  output = came_output (of_limit k).writes old new before now q;
  less = of_limit (k - 1);
  has_less = l.has (k - 1);
  least = subst (λ x. BeginsWith now (before ++ x)) (sym (l.output (k - 1) (omega (arith, most)))) least;
}

least_of : (before least more now all : List ℕ) (next : Write) → all ≡ least ++ more → PartOfOutput next (before ++ all) now → BeginsWith now (before ++ least)
least_of before least more now all next e p =
    begins_front now (before ++ least) more (subst (λ x. BeginsWith now x) (ap (λ x. before ++ x) e ∙ sym (append_assoc before least more)) (part_begins next (before ++ all) now p))

far : (Has : ℕ → Outcome Answer → Type 0) (of_limit : ℕ → Outcome Answer) (journal : ℕ → Journal) (outputs : ℕ → List ℕ) (n : ℕ) → Grows journal outputs → Limits Has of_limit journal outputs n → (old new : Files) (before now : List ℕ)
    → CameTo (of_limit n).writes old new before now → CameToLimit Has n old new before now
far Has of_limit journal outputs n g l old new before now q =
    let top = l.top n in
    elim (split top (journal n) q.later q.next q.done (sym (l.writes n (omega arith)) ∙ q.all)) [
      | inl p ↦
          (let s = place_at journal outputs g n p.0 q.next q.done p.1 in
          at_limit Has of_limit journal outputs n l old new before now s.steps s.most
          (record {
            done = q.done;
            next = q.next;
            later = l.top s.steps ++ s.later;
            all = l.writes s.steps s.most ∙ ap (λ x. l.top s.steps ++ x) s.within ∙ sym (append_assoc (l.top s.steps) s.later (q.next ∷ q.done));
            files = q.files;
            output = q.output;
          })
          (least_of before (outputs (s.steps - 1)) s.more now (output_of q.done) q.next s.least q.output))
      | inr p ↦
          (let more = (g.further n).0 ++ output_of p.0 in
          let least : output_of q.done ≡ outputs (n - 1) ++ more =
          ap output_of p.2 ∙ output_more p.0 (journal n) ∙ ap (λ x. x ++ output_of p.0) (g.output n ∙ (g.further n).1) ∙ append_assoc (outputs (n - 1)) (g.further n).0 (output_of p.0) in
          at_limit Has of_limit journal outputs n l old new before now n (omega arith) q (least_of before (outputs (n - 1)) more now (output_of q.done) q.next least q.output))
    ]

-- within a greater limit
further_limit : (Has : ℕ → Outcome Answer → Type 0) (n m : ℕ) (old new : Files) (before now : List ℕ) → n ≤ m → CameToLimit Has n old new before now → CameToLimit Has m old new before now
further_limit Has n m old new before now l q = record { limit = q.limit; most = omega (arith, l, q.most); outcome = q.outcome; has = q.has; files = q.files; output = q.output; less = q.less; has_less = q.has_less; least = q.least }

-- ---- runs over a trace

outputs_append : (xs ys : List Item) → outputs_of (xs ++ ys) ≡ outputs_of xs ++ outputs_of ys
outputs_append [] ys = refl
outputs_append (x ∷ xs) ys = ap (λ t. output_of_item x ++ t) (outputs_append xs ys) ∙ sym (append_assoc (output_of_item x) (outputs_of xs) (outputs_of ys))

-- what the first steps of a run write, behind what was written before it
abbrev steps_journal : Trace → State → Option (List ℕ) → Journal → ℕ → Journal
steps_journal trace s file start k = (written_of file [] (onto (items_of trace k s) [])).journal ++ start

abbrev steps_outputs : Trace → State → ℕ → List ℕ
steps_outputs trace s k = outputs_of (items_of trace k s)

no_outputs : (trace : Trace) (s : State) → outputs_of (items_of trace 0 s) ≡ []
unfolding items_of
no_outputs trace s = refl

steps_step : (trace : Trace) (s : State) (file : Option (List ℕ)) (start : Journal) (k : ℕ) → (more : Journal) × (steps_journal trace s file start (suc k) ≡ more ++ steps_journal trace s file start k)
steps_step trace s file start k =
    let first : List Item = items_of trace k s in
    let front : (more : List Item) × (items_of trace (suc k) s ≡ first ++ more) = items_front trace k (suc k) s (omega arith) in
    let grown = written_grow file [] front.0 (onto first []) in
    let before = (written_of file [] (onto first [])).journal in (
      grown.0,
      ap (λ is. (written_of file [] (onto is [])).journal ++ start) front.1 ∙ ap (λ h. (written_of file [] h).journal ++ start) (onto_append first front.0 []) ∙ ap (λ h. h ++ start) grown.1 ∙ append_assoc grown.0 before start,
    )

steps_grow : (trace : Trace) (s : State) (file : Option (List ℕ)) (start : Journal) → output_of start ≡ [] → Grows (steps_journal trace s file start) (steps_outputs trace s)
steps_grow trace s file start quiet = record {
  step = λ k. steps_step trace s file start k;
  output = λ k.
      let h : List Item = onto (items_of trace k s) [] in
      output_more (written_of file [] h).journal start ∙ ap (λ x. x ++ output_of (written_of file [] h).journal) quiet ∙ written_outputs file (items_of trace k s);
  further = λ k.
      let front : (more : List Item) × (items_of trace k s ≡ items_of trace (k - 1) s ++ more) = items_front trace (k - 1) k s (omega arith) in
      (outputs_of front.0, ap outputs_of front.1 ∙ outputs_append (items_of trace (k - 1) s) front.0);
  nothing = no_outputs trace s;
}

-- up to n steps are all done within their limit
within_limit : (s : State) (max_inst k : ℕ) → k ≤ limited s max_inst → limited s k ≡ k
within_limit s max_inst k l = omega (arith, l)

ran_output : (trace : Trace) (n : ℕ) (s : State) (commits : Option (List ℕ)) → output_of (ran_for trace n s commits).writes ≡ outputs_of (items_of trace n s)
ran_output trace n s commits =
    let is = items_of trace n s in
    output_more (run_journal commits is) (start_of commits) ∙ ap (λ x. x ++ output_of (run_journal commits is)) (start_output commits) ∙ run_outputs commits is

-- up to n steps that are all done within the limit of a run
abbrev plain_run : Trace → ℕ → State → Option (List ℕ) → Outcome Answer
plain_run trace n s commits = ran_for trace (limited s n) s commits

no_point : (commits : Option (List ℕ)) → AreApart commits None
no_point None = tt
no_point (Some file) = tt

plain_starts : (trace : Trace) (n : ℕ) (s : State) (commits : Option (List ℕ)) → StartsFiles (plain_run trace n s commits).writes
plain_starts trace n s commits = subst (λ (o : Outcome Answer). StartsFiles o.writes) (plain_ran trace s n commits) (ran_proper trace (plain n commits) s (no_point commits)).starts

ran_limits : (Has : ℕ → Outcome Answer → Type 0) (trace : Trace) (max_inst : ℕ) (s : State) (commits : Option (List ℕ)) → ((k : ℕ) → Has k (plain_run trace k s commits))
    → Limits Has (λ k. plain_run trace k s commits) (steps_journal trace s commits (start_of commits)) (steps_outputs trace s) (limited s max_inst)
ran_limits Has trace max_inst s commits has = record {
  has = has;
  top = λ k. Report (end_report 0 (items_of trace k s) (end_of trace k s) (after trace k s)) ∷ last_piece commits (written_of commits [] (onto (items_of trace k s) [])).pending;
  writes = λ k l.
      let w = written_of commits [] (onto (items_of trace k s) []) in
      ap (λ (m : ℕ). (ran_for trace m s commits).writes) (within_limit s max_inst k l) ∙ ap (λ h. Report (end_report 0 (items_of trace k s) (end_of trace k s) (after trace k s)) ∷ h) (append_assoc (last_piece commits w.pending) w.journal (start_of commits));
  starts = λ k. plain_starts trace k s commits;
  output = λ k l. ap (λ (m : ℕ). output_of (ran_for trace m s commits).writes) (within_limit s max_inst k l) ∙ ran_output trace k s commits;
}

plain_far : (Has : ℕ → Outcome Answer → Type 0) (trace : Trace) (max_inst : ℕ) (s : State) (commits : Option (List ℕ)) → ((k : ℕ) → Has k (plain_run trace k s commits))
    → (old new : Files) (before now : List ℕ) → CameTo (plain_run trace max_inst s commits).writes old new before now → CameToLimit Has max_inst old new before now
plain_far Has trace max_inst s commits has old new before now q =
    let n = limited s max_inst in
    let same : limited s n ≡ n = within_limit s max_inst n (omega arith) in
    let q2 = subst (λ (m : ℕ). CameTo (ran_for trace m s commits).writes old new before now) (sym same) q in
    further_limit Has n max_inst old new before now (omega arith)
    (far Has (λ k. plain_run trace k s commits) (steps_journal trace s commits (start_of commits)) (steps_outputs trace s) n (steps_grow trace s commits (start_of commits) (start_output commits)) (ran_limits Has trace max_inst s commits has) old new before now q2)

-- a run that skips nothing, leaves no point and gave up came to one number of steps
pub run_far : (Has : ℕ → Outcome Answer → Type 0) (trace : Trace) (max_inst : ℕ) (s : State) (commits : Option (List ℕ)) → ((k : ℕ) → Has k (ran trace (plain k commits) s))
    → (old new : Files) (before now : List ℕ) → CameTo (ran trace (plain max_inst commits) s).writes old new before now → CameToLimit Has max_inst old new before now
run_far Has trace max_inst s commits has old new before now q =
    plain_far Has trace max_inst s commits (λ k. subst (λ (o : Outcome Answer). Has k o) (plain_ran trace s k commits) (has k)) old new before now
    (subst (λ (o : Outcome Answer). CameTo o.writes old new before now) (plain_ran trace s max_inst commits) q)

-- ---- runs that are recorded

recorded_output : (made : Trace × Bool) (n : ℕ) (s : State) (out : List ℕ) → output_of (recorded_for made n s out).writes ≡ outputs_of (items_of made.0 n s)
recorded_output made n s out = output_more (run_journal None (items_of made.0 n s)) (Start out ∷ []) ∙ run_outputs None (items_of made.0 n s)

-- a smaller limit records the same first steps
same_items : (world : WorldState) (big : Bool) (k n : ℕ) (s : State) → k ≤ n → items_of (trace_made world big k s).0 k s ≡ items_of (trace_made world big n s).0 k s
same_items world big k n s l = recording_first serve k n world (empty_trace big) s refl l

recorded_limits : (Has : ℕ → Outcome Answer → Type 0) (world : WorldState) (big : Bool) (max_inst : ℕ) (s : State) (out : List ℕ) → ((k : ℕ) → Has k (recorded world big k s out))
    → Limits Has (λ k. recorded world big k s out) (steps_journal (trace_made world big (limited s max_inst) s).0 s None (Start out ∷ [])) (steps_outputs (trace_made world big (limited s max_inst) s).0 s) (limited s max_inst)
recorded_limits Has world big max_inst s out has =
    let n = limited s max_inst in
    let whole : Trace = (trace_made world big n s).0 in
    record {
      has = has;
      top = λ k. let made = trace_made world big k s in Report (end_report 0 (items_of made.0 k s) (recorded_end made k s) (after made.0 k s)) ∷ Append out (trace_text made.0) ∷ [];
      writes = λ k l.
          let made = trace_made world big k s in
          ap (λ (m : ℕ). (recorded_for (trace_made world big m s) m s out).writes) (within_limit s max_inst k l)
          ∙ ap (λ (is : List Item). Report (end_report 0 (items_of made.0 k s) (recorded_end made k s) (after made.0 k s)) ∷ Append out (trace_text made.0) ∷ (written_of None [] (onto is [])).journal ++ Start out ∷ []) (same_items world big k n s l);
      starts = λ k. (recorded_proper (trace_made world big (limited s k) s) (limited s k) s out).starts;
      output = λ k l.
          ap (λ (m : ℕ). output_of (recorded_for (trace_made world big m s) m s out).writes) (within_limit s max_inst k l) ∙ recorded_output (trace_made world big k s) k s out ∙ ap outputs_of (same_items world big k n s l);
    }

-- a recording that gave up came to one number of steps
pub recording_far : (Has : ℕ → Outcome Answer → Type 0) (world : WorldState) (big : Bool) (max_inst : ℕ) (s : State) (out : List ℕ) → ((k : ℕ) → Has k (recorded world big k s out))
    → (old new : Files) (before now : List ℕ) → CameTo (recorded world big max_inst s out).writes old new before now → CameToLimit Has max_inst old new before now
recording_far Has world big max_inst s out has old new before now q =
    let n = limited s max_inst in
    let whole : Trace = (trace_made world big n s).0 in
    let same : limited s n ≡ n = within_limit s max_inst n (omega arith) in
    let q2 = subst (λ (m : ℕ). CameTo (recorded_for (trace_made world big m s) m s out).writes old new before now) (sym same) q in
    further_limit Has n max_inst old new before now (omega arith)
    (far Has (λ k. recorded world big k s out) (steps_journal whole s None (Start out ∷ [])) (steps_outputs whole s) n (steps_grow whole s None (Start out ∷ []) refl) (recorded_limits Has world big max_inst s out has) old new before now q2)

-- ---- refusals

-- a command that refuses does so with each limit
refused_far : (Has : ℕ → Outcome Answer → Type 0) (n : ℕ) (a : Answer) (o : Outcome Answer) → ((k : ℕ) → Has k (refused a)) → o ≡ refused a
    → (old new : Files) (before now : List ℕ) → CameTo o.writes old new before now → CameToLimit Has n old new before now
refused_far Has n a o has e old new before now q =
    let q2 = subst (λ (x : Outcome Answer). CameTo x.writes old new before now) e q in
    let got = came_output (refused a).writes old new before now q2 in
    record {
      limit = 0;
      most = omega arith;
      outcome = refused a;
      has = has 0;
      files = came_files (refused a).writes old new before now (tt, tt) q2;
      output = got;
      less = refused a;
      has_less = has (0 - 1);
      least = subst (λ x. BeginsWith now x) (sym (append-nil before)) got.0;
    }

-- ---- chains of judgements, each of which is made with each limit

file_far : (Has : ℕ → Outcome Answer → Type 0) (n : ℕ) (old new : Files) (before now : List ℕ) (name : List ℕ) (loaded : List Found) (o : Outcome Answer) (N : ℕ → Outcome Answer → List ℕ → List Found → Type 0)
    → ((k : ℕ) (p : Outcome Answer) → LoadsFile name loaded p (N k p) → Has k p) → CameTo o.writes old new before now
    → ((bytes : List ℕ) (others : List Found) → ((k : ℕ) (p : Outcome Answer) → N k p bytes others → Has k p) → N n o bytes others → CameToLimit Has n old new before now)
    → LoadsFile name loaded o (N n o) → CameToLimit Has n old new before now
file_far Has n old new before now name [] o N lift q next x = absurd x
file_far Has n old new before now name (found.TooLong ∷ others) o N lift q next x = refused_far Has n (answer.TooLong name) o (λ k. lift k (refused (answer.TooLong name)) refl) x old new before now q
file_far Has n old new before now name (found.Whole bytes ∷ others) o N lift q next x = next bytes others (λ k p y. lift k p y) x

named_far : (Has : ℕ → Outcome Answer → Type 0) (n : ℕ) (old new : Files) (before now : List ℕ) (name : Option (List ℕ)) (loaded : List Found) (o : Outcome Answer) (N : ℕ → Outcome Answer → Option (List ℕ) → List Found → Type 0)
    → ((k : ℕ) (p : Outcome Answer) → LoadsNamed name loaded p (N k p) → Has k p) → CameTo o.writes old new before now
    → ((bytes : Option (List ℕ)) (others : List Found) → ((k : ℕ) (p : Outcome Answer) → N k p bytes others → Has k p) → N n o bytes others → CameToLimit Has n old new before now)
    → LoadsNamed name loaded o (N n o) → CameToLimit Has n old new before now
named_far Has n old new before now None loaded o N lift q next x = next None loaded lift x
named_far Has n old new before now (Some name) loaded o N lift q next x = file_far Has n old new before now name loaded o (λ k p bytes others. N k p (Some bytes) others) lift q (λ bytes others. next (Some bytes) others) x

each_far : (Has : ℕ → Outcome Answer → Type 0) (n : ℕ) (old new : Files) (before now : List ℕ) (names : List (List ℕ)) (loaded : List Found) (o : Outcome Answer) (N : ℕ → Outcome Answer → List File → List Found → Type 0)
    → ((k : ℕ) (p : Outcome Answer) → LoadsEach names loaded p (N k p) → Has k p) → CameTo o.writes old new before now
    → ((files : List File) (others : List Found) → ((k : ℕ) (p : Outcome Answer) → N k p files others → Has k p) → N n o files others → CameToLimit Has n old new before now)
    → LoadsEach names loaded o (N n o) → CameToLimit Has n old new before now
each_far Has n old new before now [] loaded o N lift q next x = next [] loaded lift x
each_far Has n old new before now (name ∷ names) loaded o N lift q next x =
    let first : List ℕ → List File → List File = λ bytes files. record { name = name; bytes = bytes } ∷ files in
    file_far Has n old new before now name loaded o (λ k p bytes others. LoadsEach names others p (λ files rest. N k p (first bytes files) rest)) lift q
    (λ bytes others lift2. each_far Has n old new before now names others o (λ k p files rest. N k p (first bytes files) rest) lift2 q (λ files rest. next (first bytes files) rest))
    x

object_far : (Has : ℕ → Outcome Answer → Type 0) (n : ℕ) (old new : Files) (before now : List ℕ) (bytes : List ℕ) (o : Outcome Answer) (N : ℕ → Outcome Answer → Image → Type 0)
    → ((k : ℕ) (p : Outcome Answer) → JudgesObject bytes p (N k p) → Has k p) → CameTo o.writes old new before now
    → ((image : Image) → ((k : ℕ) (p : Outcome Answer) → N k p image → Has k p) → N n o image → CameToLimit Has n old new before now)
    → JudgesObject bytes o (N n o) → CameToLimit Has n old new before now
object_far Has n old new before now bytes o N lift q next (inl bad) =
    refused_far Has n (answer.Object bad.0.at bad.0.why) o (λ k. lift k (refused (answer.Object bad.0.at bad.0.why)) (inl (bad.0, bad.1, refl))) bad.2 old new before now q
object_far Has n old new before now bytes o N lift q next (inr x) = next x.0 (λ k p y. lift k p (inr (x.0, x.1, y))) x.2

held_far : (Has : ℕ → Outcome Answer → Type 0) (n : ℕ) (old new : Files) (before now : List ℕ) (held : Result State PointFault) (o : Outcome Answer) (N : ℕ → Outcome Answer → State → Type 0)
    → ((k : ℕ) (p : Outcome Answer) → JudgesHeld held p (N k p) → Has k p) → CameTo o.writes old new before now
    → ((s : State) → ((k : ℕ) (p : Outcome Answer) → N k p s → Has k p) → N n o s → CameToLimit Has n old new before now)
    → JudgesHeld held o (N n o) → CameToLimit Has n old new before now
held_far Has n old new before now (Ok s) o N lift q next x = next s lift x
held_far Has n old new before now (Err (point_fault.Bad at reason)) o N lift q next x = refused_far Has n (answer.Point at reason) o (λ k. lift k (refused (answer.Point at reason)) refl) x old new before now q
held_far Has n old new before now (Err point_fault.OutOfMemory) o N lift q next x = absurd x

start_far : (Has : ℕ → Outcome Answer → Type 0) (n : ℕ) (old new : Files) (before now : List ℕ) (point : Option (List ℕ)) (image : Image) (args : List (List ℕ)) (o : Outcome Answer) (N : ℕ → Outcome Answer → State → Type 0)
    → ((k : ℕ) (p : Outcome Answer) → JudgesStart point image args p (N k p) → Has k p) → CameTo o.writes old new before now
    → ((s : State) → ((k : ℕ) (p : Outcome Answer) → N k p s → Has k p) → N n o s → CameToLimit Has n old new before now)
    → JudgesStart point image args o (N n o) → CameToLimit Has n old new before now
start_far Has n old new before now None image args o N lift q next x = next (start_state image args) lift x
start_far Has n old new before now (Some bytes) image args o N lift q next x = held_far Has n old new before now (state_at bytes image.text) o N lift q next x

read_far : (Has : ℕ → Outcome Answer → Type 0) (n : ℕ) (old new : Files) (before now : List ℕ) (read : Result Trace TraceFault) (big : Bool) (o : Outcome Answer) (N : ℕ → Outcome Answer → Trace → Type 0)
    → ((k : ℕ) (p : Outcome Answer) → JudgesRead read big p (N k p) → Has k p) → CameTo o.writes old new before now
    → ((given : Trace) → ((k : ℕ) (p : Outcome Answer) → N k p given → Has k p) → N n o given → CameToLimit Has n old new before now)
    → JudgesRead read big o (N n o) → CameToLimit Has n old new before now
read_far Has n old new before now (Err (trace_fault.Bad at reason)) big o N lift q next x = refused_far Has n (answer.Trace at reason) o (λ k. lift k (refused (answer.Trace at reason)) refl) x old new before now q
read_far Has n old new before now (Err trace_fault.OutOfMemory) big o N lift q next x = absurd x
read_far Has n old new before now (Ok trace) big o N lift q next (inl bad) = refused_far Has n _ o (λ k. lift k (refused _) (inl (bad.0, refl))) bad.1 old new before now q
read_far Has n old new before now (Ok trace) big o N lift q next (inr x) = next trace (λ k p y. lift k p (inr (x.0, y))) x.1

given_far : (Has : ℕ → Outcome Answer → Type 0) (n : ℕ) (old new : Files) (before now : List ℕ) (calls : Option (List ℕ)) (big : Bool) (o : Outcome Answer) (N : ℕ → Outcome Answer → Trace → Type 0)
    → ((k : ℕ) (p : Outcome Answer) → JudgesGiven calls big p (N k p) → Has k p) → CameTo o.writes old new before now
    → ((given : Trace) → ((k : ℕ) (p : Outcome Answer) → N k p given → Has k p) → N n o given → CameToLimit Has n old new before now)
    → JudgesGiven calls big o (N n o) → CameToLimit Has n old new before now
given_far Has n old new before now None big o N lift q next x = next absent_trace lift x
given_far Has n old new before now (Some bytes) big o N lift q next x = read_far Has n old new before now (checked bytes) big o N lift q next x

-- ---- programs

program_far : (Has : ℕ → Outcome Answer → Type 0) (n : ℕ) (old new : Files) (before now : List ℕ) (r : Run) (loaded : List Found) (o : Outcome Answer) (N : ℕ → Outcome Answer → Trace → State → Type 0)
    → ((k : ℕ) (p : Outcome Answer) → ProgramOutcome r loaded p (N k p) → Has k p) → CameTo o.writes old new before now
    → ((given : Trace) (s : State) → ((k : ℕ) (p : Outcome Answer) → N k p given s → Has k p) → N n o given s → CameToLimit Has n old new before now)
    → ProgramOutcome r loaded o (N n o) → CameToLimit Has n old new before now
program_far Has n old new before now r loaded o N lift q next x =
    let Starts : ℕ → Outcome Answer → Option (List ℕ) → Option (List ℕ) → Image → Type 0 = λ k p point calls image. JudgesStart point image r.args p (λ s. JudgesGiven calls image.text.big p (λ given. N k p given s)) in
    let Reads : ℕ → Outcome Answer → List ℕ → Option (List ℕ) → Option (List ℕ) → Type 0 = λ k p program point calls. JudgesObject program p (λ image. Starts k p point calls image) in
    file_far Has n old new before now r.object loaded o (λ k p program others. LoadsNamed r.restart others p (λ point more. LoadsNamed r.trace more p (λ calls _. Reads k p program point calls))) lift q
    (λ program others lift1. named_far Has n old new before now r.restart others o (λ k p point more. LoadsNamed r.trace more p (λ calls _. Reads k p program point calls)) lift1 q
    (λ point more lift2. named_far Has n old new before now r.trace more o (λ k p calls _. Reads k p program point calls) lift2 q
    (λ calls rest lift3. object_far Has n old new before now program o (λ k p image. Starts k p point calls image) lift3 q
    (λ image lift4. start_far Has n old new before now point image r.args o (λ k p s. JudgesGiven calls image.text.big p (λ given. N k p given s)) lift4 q
    (λ s lift5. given_far Has n old new before now calls image.text.big o (λ k p given. N k p given s) lift5 q
    (λ given lift6. next given s lift6))))))
    x

-- ---- commands

-- one outcome says how far a command came that gave up
pub came_to_front : (Has : Outcome Answer → Type 0) (o : Outcome Answer) (old new : Files) (before now : List ℕ) → Has o → StartsFiles o.writes → CameTo o.writes old new before now → CameToFront Has old new before now
came_to_front Has o old new before now has starts q = record {
  outcome = o;
  has = has;
  files = came_files o.writes old new before now starts q;
  output = came_output o.writes old new before now q;
}

-- what is asked of a run that skips nothing and leaves no point
plainly_asked : (r : Run) (k : ℕ) → 0 ≡ r.skip → None ≡ r.point → asked_of (with_most r k) ≡ plain k r.commits
plainly_asked r k e f =
    ap (λ (x : ℕ). let a : Asked = record { skip = x; most = k; commits = r.commits; point = r.point } in a) (sym e)
    ∙ ap (λ (p : Option (List ℕ × ℕ)). let a : Asked = record { skip = 0; most = k; commits = r.commits; point = p } in a) (sym f)

plain_came : (r : Run) (loaded : List Found) (o : Outcome Answer) (old new : Files) (before now : List ℕ) → 0 ≡ r.skip → None ≡ r.point
    → SimSafeOutcome r loaded o → CameTo o.writes old new before now → CameToLimit (λ limit p. SimSafeOutcome (with_most r limit) loaded p) r.most old new before now
plain_came r loaded o old new before now e f x q =
    let Has : ℕ → Outcome Answer → Type 0 = λ limit p. SimSafeOutcome (with_most r limit) loaded p in
    let same : (k : ℕ) → asked_of (with_most r k) ≡ plain k r.commits = λ k. plainly_asked r k e f in
    program_far Has r.most old new before now r loaded o (λ k p given s. p ≡ ran given (asked_of (with_most r k)) s) (λ k p y. y) q
    (λ given s lift is.
    run_far Has given r.most s r.commits (λ k. lift k (ran given (plain k r.commits) s) (ap (λ (a : Asked). ran given a s) (sym (same k)))) old new before now
    (subst (λ (y : Outcome Answer). CameTo y.writes old new before now) (is ∙ ap (λ (a : Asked). ran given a s) (same r.most)) q))
    x

run_came : (skip : ℕ) (point : Option (List ℕ × ℕ)) (r : Run) (loaded : List Found) (o : Outcome Answer) (old new : Files) (before now : List ℕ) → skip ≡ r.skip → point ≡ r.point → AreApart r.commits r.point
    → SimSafeOutcome r loaded o → CameTo o.writes old new before now → RunCameBy skip point r loaded old new before now
run_came zero None r loaded o old new before now e f apart x q = plain_came r loaded o old new before now e f x q
run_came zero (Some p) r loaded o old new before now e f apart x q = came_to_front (SimSafeOutcome r loaded) o old new before now x (sim_safe_proper r loaded o apart x).starts q
run_came (suc n) point r loaded o old new before now e f apart x q = came_to_front (SimSafeOutcome r loaded) o old new before now x (sim_safe_proper r loaded o apart x).starts q

-- how far a run came that gave up, where its commit text and its point go to two files
pub sim_safe_far : (r : Run) (loaded : List Found) (o : Outcome Answer) (old new : Files) (before now : List ℕ) → AreApart r.commits r.point → SimSafeOutcome r loaded o → CameTo o.writes old new before now → RunCame r loaded old new before now
sim_safe_far r loaded o old new before now apart x q = run_came r.skip r.point r loaded o old new before now refl refl apart x q

pub record_far : (out : List ℕ) (given : Option (List ℕ)) (files : List (List ℕ)) (max_inst : ℕ) (object : List ℕ) (args : List (List ℕ)) (loaded : List Found) (o : Outcome Answer) (old new : Files) (before now : List ℕ)
    → RecordOutcome out given files max_inst object args loaded o → CameTo o.writes old new before now → CameToLimit (λ limit p. RecordOutcome out given files limit object args loaded p) max_inst old new before now
record_far out given files max_inst object args loaded o old new before now x q =
    let Has : ℕ → Outcome Answer → Type 0 = λ limit p. RecordOutcome out given files limit object args loaded p in
    let Ends : ℕ → Outcome Answer → Option (List ℕ) → List File → Image → Type 0 = λ k p bytes opened image. p ≡ recorded (world_of (unwrap_or bytes []) opened image) image.text.big k (start_state image args) out in
    let Reads : ℕ → Outcome Answer → List ℕ → Option (List ℕ) → List File → Type 0 = λ k p program bytes opened. JudgesObject program p (λ image. Ends k p bytes opened image) in
    file_far Has max_inst old new before now object loaded o (λ k p program others. LoadsNamed given others p (λ bytes rest. LoadsEach files rest p (λ opened _. Reads k p program bytes opened))) (λ k p y. y) q
    (λ program others lift. named_far Has max_inst old new before now given others o (λ k p bytes rest. LoadsEach files rest p (λ opened _. Reads k p program bytes opened)) lift q
    (λ bytes rest lift2. each_far Has max_inst old new before now files rest o (λ k p opened _. Reads k p program bytes opened) lift2 q
    (λ opened behind lift3. object_far Has max_inst old new before now program o (λ k p image. Ends k p bytes opened image) lift3 q
    (λ image lift4 e.
    let world = world_of (unwrap_or bytes []) opened image in
    recording_far Has world image.text.big max_inst (start_state image args) out (λ k. lift4 k (recorded world image.text.big k (start_state image args) out) refl) old new before now (subst (λ (y : Outcome Answer). CameTo y.writes old new before now) e q)))))
    x
