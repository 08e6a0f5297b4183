-- A run that was done: its text, output and answer; and what goes on from its point.
use Rattle.std.proofs.Common.{◌≡◌, ◌≢◌, ◌⊎◌, ◌+◌, ◌-◌, ◌^◌, ◌<◌, ◌≤◌, ◌++◌, ℕ, zero, suc, Bool, true, false, List, [], ◌∷◌, length, Option, Some, None, Result, Ok, Err, refl, sym, ap, ◌∙◌, subst, inl, inr, arith}
use Rattle.std.specs.Prelude.{min, nat_lt, ◌||◌, if◌then◌else◌}
use Rattle.std.proofs.lemmas.Bool.{cases_lt}
use Rattle.pisa_step.specs.declared.cause.Cause.{Cause}
use Rattle.pisa_step.specs.declared.cause.Cause.TheVariants as cause
use Rattle.ecoff_load.specs.declared.image.Text.{Text}
use Rattle.event_trace.specs.declared.trace.Trace.{Trace}
use Rattle.sim_safe.specs.declared.observer.RunEnd.{RunEnd}
use Rattle.sim_safe.specs.declared.observer.RunEnd.TheVariants as ends
use Rattle.sim_safe.specs.State.{State}
use Rattle.sim_safe.specs.Record.{Item, IsRunTrace}
use Rattle.sim_safe.specs.Run.{items_of, items_count, after, end_of}
use Rattle.sim_safe.specs.Commit.{text_of, outputs_of}
use Rattle.sim_watch.proofs.Steps.{items_counted}
use Rattle.checkpoint.specs.declared.fault.PointFault.{PointFault}
use Rattle.checkpoint.specs.Grammar.{point_bytes}
use Rattle.cut_run.specs.Point.{point_of}
use Rattle.cut_run.specs.Parts.{is_large_at}
use Rattle.cut_run.specs.Plan.{Asked, limited, to_do, timed_items, cut_end, cut_state, is_too_long, timed_start, timed_point, skipped_point}
use Rattle.sim_opts.specs.Request.{Run}
use Rattle.journal.specs.Write.{output_of}
use Rattle.journal.specs.Texts.{text_in}
use Rattle.journal.specs.Outcome.{Outcome}
use Rattle.answers.specs.declared.answer.Answer.{Answer}
use Rattle.answers.specs.declared.answer.Answer.TheVariants as answer
use Rattle.answers.specs.Answer.{run_answer}
use Rattle.answers.specs.Judging.{held_beside, held_by, state_at}
use Rattle.run_commands.specs.Outcome.{AreApart, asked_of, too_long, end_answer, ran_answer, ran}
use Rattle.restarted_run.specs.Within.{WritesBytes}
use Rattle.restarted_run.specs.Held.{HoldsState}
use Rattle.restarted_run.specs.Rest.{first_of, point_state, BeginsAtPoint, IsRestOf}
use Rattle.restarted_run.specs.Rest as rests
use Rattle.restarted_commands.specs.Restarted.{IsDone}
use Rattle.restarted_commands.proofs.Below.{Below}
use Rattle.restarted_commands.proofs.Plans.{unskipped, start_is, steps_are, items_are, end_is, state_is, limited_min, first_point, second_point, skipped_point_is, timed_point_is, short_by, short_is}
use Rattle.restarted_commands.proofs.Texts.{commit_text, run_output}
use Rattle.restarted_commands.proofs.Points.{left_point}
use Rattle.restarted_commands.proofs.Starts.{IsBegin}

-- ---- a run that was done

abbrev pub plan_of : Run → Asked
plan_of r = unskipped r.most r.commits r.point

pub record IsRun (trace : Trace) (s : State) (r : Run) (o : Outcome Answer) : Type 0 where
  pub fits : is_too_long trace s (plan_of r) ≡ false
  pub is : o ≡ ran trace (plan_of r) s

done_fits : (long : Bool) (asked : Asked) (a : Answer) → IsDone (if long then too_long asked else a) → long ≡ false
done_fits true asked a done = absurd done
done_fits false asked a done = refl

ran_fits : (trace : Trace) (asked : Asked) (s : State) → IsDone (ran_answer trace asked s) → is_too_long trace s asked ≡ false
unfolding ran_answer
ran_fits trace asked s done = done_fits (is_too_long trace s asked) asked (end_answer (cut_end trace s asked) (cut_state trace s asked)) done

pub is_run : (trace : Trace) (s : State) (r : Run) (o : Outcome Answer) → r.skip ≡ 0 → IsDone o.ending → o ≡ ran trace (asked_of r) s → IsRun trace s r o
is_run trace s r o none done e =
    let is : o ≡ ran trace (plan_of r) s = e ∙ ap (λ (n : ℕ). ran trace (record { skip = n; most = r.most; commits = r.commits; point = r.point }) s) none in
    record { fits = ran_fits trace (plan_of r) s (subst (λ (x : Outcome Answer). IsDone x.ending) is done); is = is }

-- its instructions
abbrev pub done_by : Trace → State → ℕ → List Item
done_by trace s most = items_of trace (limited s most) s

pub run_text : Below → (trace : Trace) (s : State) (r : Run) (o : Outcome Answer) (file : List ℕ) → IsRun trace s r o → AreApart r.commits r.point → r.commits ≡ Some file → text_in o.writes file ≡ Some (text_of (done_by trace s r.most))
run_text below trace s r o file q apart e =
    ap (λ (x : Outcome Answer). text_in x.writes file) q.is ∙ commit_text below trace s r.most r.commits r.point file e apart q.fits ∙ ap (λ is. Some (text_of is)) (items_are trace s r.most r.commits r.point)

pub run_puts : Below → (trace : Trace) (s : State) (r : Run) (o : Outcome Answer) → IsRun trace s r o → output_of o.writes ≡ outputs_of (done_by trace s r.most)
run_puts below trace s r o q =
    ap (λ (x : Outcome Answer). output_of x.writes) q.is ∙ run_output below trace s r.most r.commits r.point q.fits ∙ ap outputs_of (items_are trace s r.most r.commits r.point)

answer_by : (long : Bool) (asked : Asked) (a : Answer) → long ≡ false → (if long then too_long asked else a) ≡ a
answer_by true asked a e = absurd (let k : true ≡ false = e in cc)
answer_by false asked a e = refl

ran_answers : (trace : Trace) (asked : Asked) (s : State) → is_too_long trace s asked ≡ false → ran_answer trace asked s ≡ end_answer (cut_end trace s asked) (cut_state trace s asked)
unfolding ran_answer
ran_answers trace asked s fits = answer_by (is_too_long trace s asked) asked (end_answer (cut_end trace s asked) (cut_state trace s asked)) fits

-- and its answer
pub run_answers : (trace : Trace) (s : State) (r : Run) (o : Outcome Answer) → IsRun trace s r o → o.ending ≡ end_answer (end_of trace (limited s r.most) s) (after trace (limited s r.most) s)
run_answers trace s r o q =
    ap (λ (x : Outcome Answer). x.ending) q.is ∙ ran_answers trace (plan_of r) s q.fits ∙ ap (λ (e : RunEnd). end_answer e (cut_state trace s (plan_of r))) (end_is trace s r.most r.commits r.point)
    ∙ ap (end_answer (end_of trace (limited s r.most) s)) (state_is trace s r.most r.commits r.point)

-- a budget is used up exactly where a run answers so
pub limit_answer : (t : State) → end_answer ends.Limit t ≡ answer.Budget
unfolding end_answer
limit_answer t = refl

stops : (why : Cause) (pc icnt : ℕ) → run_answer (ends.Stop why) pc icnt ≡ answer.Budget → ⊥
stops (cause.Exited code) pc icnt e = cc
stops cause.BadFetch pc icnt e = cc
stops cause.Illegal pc icnt e = cc
stops (cause.FloatingPoint op) pc icnt e = cc
stops (cause.Misaligned addr) pc icnt e = cc
stops cause.Overflow pc icnt e = cc
stops cause.DivideByZero pc icnt e = cc
stops (cause.TextWrite addr) pc icnt e = cc
stops cause.Break pc icnt e = cc
stops (cause.TraceEnd used) pc icnt e = cc
stops (cause.TraceMismatch used here there) pc icnt e = cc

pub answered_limit : (e : RunEnd) (t : State) → end_answer e t ≡ answer.Budget → e ≡ ends.Limit
unfolding end_answer
answered_limit ends.Limit t h = refl
answered_limit (ends.Stop why) t h = absurd (stops why t.pc t.icnt h)

-- ---- the state of a point

-- so many instructions lie before a point
abbrev pub steps_before : State → ℕ → ℕ → ℕ
steps_before s most k = min k (limited s most)

abbrev pub point_at : Trace → State → ℕ → ℕ → State
point_at trace s most k = after trace (steps_before s most k) s

min_none : (n : ℕ) → 0 ≡ min 0 n
min_none n = omega arith

neither : (a b : Bool) → (a || b) ≡ false → (a ≡ false) × (b ≡ false)
neither true b e = absurd cc
neither false b e = (refl, e)

small_at : (trace : Trace) (s : State) (file : List ℕ) (n k : ℕ) → short_by trace s (first_point file k) s (second_point file n k) ≡ false → is_large_at (after trace (min k n) s) ≡ false
small_at trace s file n zero e = ap (λ (j : ℕ). is_large_at (after trace j s)) (sym (min_none n)) ∙ (neither (is_large_at (after trace 0 s)) false e).0
small_at trace s file n (suc j) e = e

pub point_small : (trace : Trace) (s : State) (most : ℕ) (commits : Option (List ℕ)) (file : List ℕ) (k : ℕ) → is_too_long trace s (unskipped most commits (Some (file, k))) ≡ false → is_large_at (point_at trace s most k) ≡ false
point_small trace s most commits file k fits = small_at trace s file (limited s most) k (sym (short_is trace s most commits file k) ∙ fits)

pub count_at : Below → (trace : Trace) (s : State) (most k : ℕ) → (point_at trace s most k).icnt ≤ s.icnt + steps_before s most k
count_at below trace s most k =
    let m = steps_before s most k in
    let e : (after trace m s).icnt ≡ s.icnt + length (items_of trace m s) = items_counted below.keeps trace m s (after trace m s) refl in
    omega (arith, e, items_count trace m s)

pub point_holds : Below → (trace : Trace) (s : State) (of : Text) (most k : ℕ) → IsRunTrace trace → WritesBytes trace → IsBegin s of → is_large_at (point_at trace s most k) ≡ false → HoldsState (point_at trace s most k)
point_holds below trace s of most k is writes b small =
    let m = steps_before s most k in
    below.holds (point_at trace s most k) (below.within_after trace m s is writes b.within) (below.program_after trace m s b.program) (omega (arith, count_at below trace s most k, b.count)) small

ok_state : (u v : State) (x : Result State PointFault) → x ≡ Ok u → x ≡ Ok v → u ≡ v
ok_state u v x a b = let e : Ok u ≡ Ok v = sym a ∙ b in cc

held_again : (v : State) → HoldsState v → state_at (point_bytes (point_of v)) v.text ≡ Ok v
held_again v h =
    ap (λ r. held_by r v.text) h.read ∙ ap (λ c. held_beside c (point_of v) v.text) h.fits ∙ ap (λ (x : State). Ok x) h.state

-- what is read from its text is that state
pub read_back : (u v : State) (of : Text) (text : List ℕ) → HoldsState v → v.text ≡ of → text ≡ point_bytes (point_of v) → state_at text of ≡ Ok u → u ≡ v
read_back u v of text h same is e =
    ok_state u v (state_at text of) e (ap (λ b. state_at b of) is ∙ ap (state_at (point_bytes (point_of v))) (sym same) ∙ held_again v h)

-- ---- the rest

point_there : (trace : Trace) (s : State) (file : List ℕ) (n k : ℕ) → first_of (rests.state_at trace s (first_point file k)) (rests.state_at trace s (second_point file n k)) ≡ Some (after trace (min k n) s)
point_there trace s file n zero = ap (λ (j : ℕ). Some (after trace j s)) (min_none n)
point_there trace s file n (suc j) = refl

pub begins_there : (trace : Trace) (s : State) (most k : ℕ) (file : List ℕ) (second : ℕ) (commits : Option (List ℕ)) (point : Option (List ℕ × ℕ))
    → BeginsAtPoint trace s (unskipped most None (Some (file, k))) (point_at trace s most k) (unskipped second commits point) k
begins_there trace s most k file second commits point =
    let first = unskipped most None (Some (file, k)) in
    record {
      file = file;
      point = refl;
      first_skip = refl;
      second_skip = refl;
      start =
          ap (λ (x : Option (List ℕ × ℕ)). first_of (rests.state_at trace s x) (rests.state_at trace (timed_start trace s first) (timed_point trace s first))) (skipped_point_is trace s most None file k)
          ∙ ap (λ (x : State). first_of (rests.state_at trace s (first_point file k)) (rests.state_at trace x (timed_point trace s first))) (start_is trace s most None (Some (file, k)))
          ∙ ap (λ (x : Option (List ℕ × ℕ)). first_of (rests.state_at trace s (first_point file k)) (rests.state_at trace s x)) (timed_point_is trace s most None file k)
          ∙ point_there trace s file (limited s most) k;
    }

-- the text and the state of a point that was left
pub record IsLeft (trace : Trace) (s : State) (most : ℕ) (commits : Option (List ℕ)) (point : Option (List ℕ × ℕ)) (file : List ℕ) (k : ℕ) : Type 0 where
  pub text : text_in (ran trace (unskipped most commits point) s).writes file ≡ Some (point_bytes (point_of (point_at trace s most k)))
  pub small : is_large_at (point_at trace s most k) ≡ false

pub is_left : (trace : Trace) (s : State) (most : ℕ) (commits : Option (List ℕ)) (point : Option (List ℕ × ℕ)) (file : List ℕ) (k : ℕ) → point ≡ Some (file, k) → AreApart commits point → is_too_long trace s (unskipped most commits point) ≡ false
    → IsLeft trace s most commits point file k
is_left trace s most commits point file k e =
    let P : Option (List ℕ × ℕ) → Type 0 = λ p. AreApart commits p → is_too_long trace s (unskipped most commits p) ≡ false → IsLeft trace s most commits p file k in
    subst P (sym e) (λ apart fits. record { text = left_point trace s most commits file k apart fits; small = point_small trace s most commits file k fits })
