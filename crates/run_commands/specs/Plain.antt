-- A run that skips nothing and leaves no point.
use Rattle.std.proofs.Common.{◌≡◌, ◌-◌, ◌++◌, ℕ, Bool, false, List, [], ◌∷◌, length, Option, None, refl, ap, ◌∙◌, append-nil, take, drop, arith}
use Rattle.std.specs.Prelude.{◌&&◌, ◌||◌, is_some, nat_lt, if◌then◌else◌}
use Rattle.event_trace.specs.declared.trace.Record.{Record}
use Rattle.event_trace.specs.declared.trace.Trace.{Trace}
use Rattle.sim_safe.specs.declared.observer.RunEnd.{RunEnd}
use Rattle.sim_safe.specs.State.{State}
use Rattle.sim_safe.specs.Record.{Item}
use Rattle.sim_safe.specs.Commit.{records_between}
use Rattle.sim_safe.specs.Run.{items_of, after, end_of}
use Rattle.sim_safe.proofs.Steps.{items_none}
use Rattle.sim_watch.specs.Watch.{run_journal}
use Rattle.sim_watch.specs.Skip.{records_journal, skip_journal}
use Rattle.cut_run.specs.Plan.{Asked, limited, to_skip, skipped, timed_start, ends_early, to_do, timed_items, cut_end, cut_state, cut_journal}
use Rattle.journal.specs.Write.{Journal, Report}
use Rattle.journal.specs.Outcome.{Outcome}
use Rattle.answers.specs.declared.answer.Answer.{Answer}
use Rattle.answers.specs.Answer.{answered}
use Rattle.run_commands.specs.Outcome.{start_of, ended, end_answer, end_report, ran_answer, ran_report, ran}

-- to do up to so many steps, with their commit text in a file that may be named
abbrev pub plain : ℕ → Option (List ℕ) → Asked
plain most commits = record { skip = 0; most = most; commits = commits; point = None }

-- the file is made empty; then up to n steps write their text and output
abbrev pub ran_for : Trace → ℕ → State → Option (List ℕ) → Outcome Answer
ran_for trace n s commits = ended trace (end_of trace n s) n s (run_journal commits (items_of trace n s) ++ start_of commits)

-- ---- nothing is skipped

no_steps : (s : State) → limited s 0 ≡ 0
no_steps s = omega arith

after_none : (trace : Trace) (s : State) → after trace 0 s ≡ s
unfolding after
after_none trace s = refl

none_between : (n : ℕ) (records : List Record) → records_between n n records ≡ []
none_between n records = let z : n - n ≡ 0 = omega arith in ap (λ (k : ℕ). take k (drop n records)) z

skips_none : (trace : Trace) (s : State) → skip_journal trace 0 s ≡ []
unfolding skip_journal
skips_none trace s =
    ap (λ (x : State). records_journal (records_between s.used x.used trace.records)) (after_none trace s) ∙ ap records_journal (none_between s.used trace.records)

-- ---- the values that such a run goes by

module _ (trace : Trace) (s : State) (most : ℕ) (commits : Option (List ℕ)) where
  plain_start : timed_start trace s (plain most commits) ≡ s
  plain_start = ap (λ (n : ℕ). after trace n s) (no_steps s) ∙ after_none trace s

  plain_goes_on : ends_early trace s (plain most commits) ≡ false
  plain_goes_on =
      let asked = plain most commits in
      let stops : Bool = nat_lt (skipped trace s asked) (to_skip trace s asked) || is_some (timed_start trace s asked).ended in
      ap (λ (n : ℕ). nat_lt 0 n && stops) (no_steps s)

  plain_steps : to_do trace s (plain most commits) ≡ limited s most
  plain_steps =
      let u = timed_start trace s (plain most commits) in
      ap (λ (b : Bool). if b then 0 else limited u most) plain_goes_on ∙ ap (λ (x : State). limited x most) plain_start

  plain_items : timed_items trace s (plain most commits) ≡ items_of trace (limited s most) s
  plain_items =
      let u = timed_start trace s (plain most commits) in
      ap (λ (n : ℕ). items_of trace n u) plain_steps ∙ ap (λ (x : State). items_of trace (limited s most) x) plain_start

  plain_end : cut_end trace s (plain most commits) ≡ end_of trace (limited s most) s
  plain_end =
      let asked = plain most commits in
      let u = timed_start trace s asked in
      ap (λ (b : Bool). if b then end_of trace (to_skip trace s asked) s else end_of trace (to_do trace s asked) u) plain_goes_on ∙ ap (λ (n : ℕ). end_of trace n u) plain_steps
      ∙ ap (λ (x : State). end_of trace (limited s most) x) plain_start

  plain_state : cut_state trace s (plain most commits) ≡ after trace (limited s most) s
  plain_state =
      let u = timed_start trace s (plain most commits) in
      ap (λ (n : ℕ). after trace n u) plain_steps ∙ ap (λ (x : State). after trace (limited s most) x) plain_start

  plain_skipped : skipped trace s (plain most commits) ≡ 0
  plain_skipped = ap (λ (n : ℕ). length (items_of trace n s)) (no_steps s) ∙ ap (λ (is : List Item). length is) (items_none trace s)

  plain_journal : cut_journal trace s (plain most commits) ≡ run_journal commits (items_of trace (limited s most) s)
  unfolding cut_journal
  plain_journal =
      let asked = plain most commits in
      let is = items_of trace (limited s most) s in
      ap (λ (x : List Item). run_journal commits x ++ skip_journal trace (to_skip trace s asked) s) plain_items ∙ ap (λ (n : ℕ). run_journal commits is ++ skip_journal trace n s) (no_steps s)
      ∙ ap (λ (h : Journal). run_journal commits is ++ h) (skips_none trace s) ∙ append-nil (run_journal commits is)

-- ---- the outcome

by_values : ℕ → List Item → RunEnd → State → Journal → Outcome Answer
by_values k items end t writes = answered (end_answer end t) (Report (end_report k items end t) ∷ writes)

-- a run that is asked for so is the plain one
pub plain_ran : (trace : Trace) (s : State) (most : ℕ) (commits : Option (List ℕ)) → ran trace (plain most commits) s ≡ ran_for trace (limited s most) s commits
unfolding ran_answer ran_report by_values
plain_ran trace s most commits =
    let asked = plain most commits in
    let n = limited s most in
    let is = items_of trace n s in
    let end = end_of trace n s in
    let t = after trace n s in
    let first = cut_journal trace s asked ++ start_of commits in
    ap (λ (x : ℕ). by_values x (timed_items trace s asked) (cut_end trace s asked) (cut_state trace s asked) first) (plain_skipped trace s most commits)
    ∙ ap (λ (x : List Item). by_values 0 x (cut_end trace s asked) (cut_state trace s asked) first) (plain_items trace s most commits)
    ∙ ap (λ (x : RunEnd). by_values 0 is x (cut_state trace s asked) first) (plain_end trace s most commits) ∙ ap (λ (x : State). by_values 0 is end x first) (plain_state trace s most commits)
    ∙ ap (λ (x : Journal). by_values 0 is end t (x ++ start_of commits)) (plain_journal trace s most commits)
