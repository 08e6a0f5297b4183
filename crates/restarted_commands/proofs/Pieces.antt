-- A whole run in pieces: its front, and its rest, which goes on from the point that one of the two left.
use Rattle.std.proofs.Common.{◌≡◌, ◌≢◌, ◌⊎◌, ◌+◌, ◌-◌, ◌^◌, ◌<◌, ◌≤◌, ◌++◌, ℕ, List, Option, Some, None, Ok, refl, sym, ap, ◌∙◌, subst, inl, inr, arith}
use Rattle.std.specs.Prelude.{min}
use Rattle.std.proofs.lemmas.Bool.{cases_eq}
use Rattle.ecoff_load.specs.declared.image.Image.{Image}
use Rattle.ecoff_load.specs.declared.image.Text.{Text}
use Rattle.event_trace.specs.declared.trace.Trace.{Trace}
use Rattle.sim_safe.specs.declared.observer.RunEnd.{RunEnd}
use Rattle.sim_safe.specs.declared.observer.RunEnd.TheVariants as ends
use Rattle.sim_safe.specs.State.{State}
use Rattle.sim_safe.specs.Record.{Item, IsRunTrace}
use Rattle.sim_safe.specs.Run.{after, end_of}
use Rattle.sim_safe.specs.Commit.{text_of, outputs_of}
use Rattle.checkpoint.specs.Grammar.{point_bytes}
use Rattle.cut_run.specs.Point.{point_of}
use Rattle.cut_run.specs.Plan.{Asked, limited, to_do, timed_items, cut_end}
use Rattle.sim_opts.specs.Request.{Run}
use Rattle.journal.specs.declared.loading.Found.{Found}
use Rattle.journal.specs.Write.{output_of}
use Rattle.journal.specs.Texts.{text_in}
use Rattle.journal.specs.Outcome.{Outcome}
use Rattle.answers.specs.declared.answer.Answer.{Answer}
use Rattle.answers.specs.declared.answer.Answer.TheVariants as answer
use Rattle.answers.specs.Judging.{state_at}
use Rattle.run_commands.specs.Outcome.{AreApart, asked_of, end_answer, ran}
use Rattle.restarted_run.specs.Within.{WritesBytes}
use Rattle.restarted_run.specs.Rest.{up_to_point, IsRestOf}
use Rattle.restarted_commands.specs.Restarted.{CanBegin, Does, GoesOnFrom, HoldsBoth, InPieces, IsDone, IsFront, IsJoined, SharesBudget, restart_files}
use Rattle.restarted_commands.proofs.Below.{Below}
use Rattle.restarted_commands.proofs.Plans.{unskipped, steps_are, items_are, end_is, state_is}
use Rattle.restarted_commands.proofs.Starts.{IsBegin, begins_so}
use Rattle.restarted_commands.proofs.Loads.{loads_as, files_three}
use Rattle.restarted_commands.proofs.Runs.{plan_of, IsRun, is_run, done_by, run_text, run_puts, run_answers, limit_answer, answered_limit, steps_before, point_at, count_at, point_holds, read_back, begins_there, IsLeft, is_left}

-- ---- the runs

module _ (below : Below) (trace : Trace) (s : State) (whole front rest : Run) (w f r : Outcome Answer) (file : List ℕ) (k : ℕ) where
  -- the state in which the point is taken
  abbrev there : State
  there = point_at trace s whole.most k

  abbrev first : Asked
  first = unskipped whole.most None (Some (file, k))

  whole_end : IsRun trace s whole w → w.ending ≢ answer.Budget → cut_end trace s first ≢ ends.Limit
  whole_end q not e =
      let n = limited s whole.most in
      let at : end_of trace n s ≡ ends.Limit = sym (end_is trace s whole.most None (Some (file, k))) ∙ e in
      not (run_answers trace s whole w q ∙ ap (λ (x : RunEnd). end_answer x (after trace n s)) at ∙ limit_answer (after trace n s))

  rest_end : IsRun trace there rest r → r.ending ≢ answer.Budget → cut_end trace there (plan_of rest) ≢ ends.Limit
  rest_end q not e =
      let n = limited there rest.most in
      let at : end_of trace n there ≡ ends.Limit = sym (end_is trace there rest.most rest.commits rest.point) ∙ e in
      not (run_answers trace there rest r q ∙ ap (λ (x : RunEnd). end_answer x (after trace n there)) at ∙ limit_answer (after trace n there))

  is_rest_of : IsRun trace s whole w → IsRun trace there rest r → SharesBudget whole rest w r k → IsRestOf trace s first there (plan_of rest)
  is_rest_of a c (inl e) = below.left trace s first there (plan_of rest) k (begins_there trace s whole.most k file rest.most rest.commits rest.point) e
  is_rest_of a c (inr q) = below.ended trace s first there (plan_of rest) k (begins_there trace s whole.most k file rest.most rest.commits rest.point) (whole_end a q.0) (rest_end c q.1)

  -- ---- the instructions

  whole_items : timed_items trace s first ≡ done_by trace s whole.most
  whole_items = items_are trace s whole.most None (Some (file, k))

  front_items : front.most ≡ min k whole.most → timed_items trace s (up_to_point first) ≡ done_by trace s front.most
  front_items e =
      let most : min (k - 0) whole.most ≡ front.most = omega (arith, e) in
      items_are trace s (min (k - 0) whole.most) None None ∙ ap (done_by trace s) most

  rest_items : timed_items trace there (plan_of rest) ≡ done_by trace there rest.most
  rest_items = items_are trace there rest.most rest.commits rest.point

  both_parts : (part : List Item → List ℕ) → front.most ≡ min k whole.most → part (timed_items trace s first) ≡ part (timed_items trace s (up_to_point first)) ++ part (timed_items trace there (plan_of rest))
      → part (done_by trace s whole.most) ≡ part (done_by trace s front.most) ++ part (done_by trace there rest.most)
  both_parts part e q =
      ap part (sym whole_items) ∙ q ∙ ap (λ is. part is ++ part (timed_items trace there (plan_of rest))) (front_items e) ∙ ap (λ is. part (done_by trace s front.most) ++ part is) rest_items

  -- ---- the answers

  -- where the rest may do a step
  same_answer : IsRun trace s whole w → IsRun trace there rest r → IsRestOf trace s first there (plan_of rest) → 0 < limited there rest.most → w.ending ≡ r.ending
  same_answer a c q some =
      let steps : 0 < to_do trace there (plan_of rest) = subst (λ (n : ℕ). 0 < n) (sym (steps_are trace there rest.most rest.commits rest.point)) some in
      let end : end_of trace (limited s whole.most) s ≡ end_of trace (limited there rest.most) there =
      sym (end_is trace s whole.most None (Some (file, k))) ∙ q.end steps ∙ end_is trace there rest.most rest.commits rest.point in
      let state : after trace (limited s whole.most) s ≡ after trace (limited there rest.most) there =
      sym (state_is trace s whole.most None (Some (file, k))) ∙ q.state ∙ state_is trace there rest.most rest.commits rest.point in
      run_answers trace s whole w a ∙ ap (λ (x : RunEnd). end_answer x (after trace (limited s whole.most) s)) end ∙ ap (end_answer (end_of trace (limited there rest.most) there)) state
      ∙ sym (run_answers trace there rest r c)

  -- where it may do none
  none_left : IsRun trace there rest r → limited there rest.most ≡ 0 → r.ending ≡ answer.Budget
  none_left c none =
      let n = limited there rest.most in
      run_answers trace there rest r c ∙ ap (λ (x : RunEnd). end_answer x (after trace n there)) (ap (λ (m : ℕ). end_of trace m there) none) ∙ limit_answer (after trace n there)

  front_done : IsRun trace s whole w → IsRun trace s front f → limited s front.most ≡ limited s whole.most → w.ending ≡ f.ending
  front_done a b e = run_answers trace s whole w a ∙ ap (λ (n : ℕ). end_answer (end_of trace n s) (after trace n s)) (sym e) ∙ sym (run_answers trace s front f b)

  no_more : s.icnt ≤ 10 ^ 15 → front.most ≡ min k whole.most → rest.most + k ≡ whole.most → limited there rest.most ≡ 0 → limited s front.most ≡ limited s whole.most
  no_more count e sum none = omega (arith, count, e, sum, none, count_at below trace s whole.most k)

  answer_none : s.icnt ≤ 10 ^ 15 → IsRun trace s whole w → IsRun trace s front f → IsRun trace there rest r → front.most ≡ min k whole.most → SharesBudget whole rest w r k → limited there rest.most ≡ 0
      → (f.ending ≡ answer.Budget) ⊎ (r.ending ≢ answer.Budget) → w.ending ≡ r.ending
  answer_none count a b c e (inl sum) none (inl at) = front_done a b (no_more count e sum none) ∙ at ∙ sym (none_left c none)
  answer_none count a b c e (inl sum) none (inr not) = absurd (not (none_left c none))
  answer_none count a b c e (inr q) none either = absurd (q.1 (none_left c none))

  some_left : (n : ℕ) → (n ≡ 0 → ⊥) → 0 < n
  some_left n not = omega (arith, not)

  answer_is : s.icnt ≤ 10 ^ 15 → IsRun trace s whole w → IsRun trace s front f → IsRun trace there rest r → front.most ≡ min k whole.most → SharesBudget whole rest w r k → IsRestOf trace s first there (plan_of rest)
      → (limited there rest.most ≡ 0) ⊎ (limited there rest.most ≡ 0 → ⊥) → (f.ending ≡ answer.Budget) ⊎ (r.ending ≢ answer.Budget) → w.ending ≡ r.ending
  answer_is count a b c e shares q (inl none) either = answer_none count a b c e shares none either
  answer_is count a b c e shares q (inr some) either = same_answer a c q (some_left (limited there rest.most) some)

  -- ---- together

  pub joins : s.icnt ≤ 10 ^ 15 → IsRun trace s whole w → IsRun trace s front f → IsRun trace there rest r → front.most ≡ min k whole.most → SharesBudget whole rest w r k
      → AreApart whole.commits whole.point → AreApart front.commits front.point → AreApart rest.commits rest.point → IsJoined whole front rest w f r
  joins count a b c e shares x y z =
      let q = is_rest_of a c shares in
      record {
        text = λ i j l ei ej el. record {
          first = text_of (done_by trace s front.most);
          second = text_of (done_by trace there rest.most);
          is_first = run_text below trace s front f j b y ej;
          is_second = run_text below trace there rest r l c z el;
          is_both = run_text below trace s whole w i a x ei ∙ ap (λ (t : List ℕ). Some t) (both_parts text_of e q.text);
        };
        output =
            run_puts below trace s whole w a ∙ both_parts outputs_of e q.output ∙ ap (λ t. t ++ outputs_of (done_by trace there rest.most)) (sym (run_puts below trace s front f b))
            ∙ ap (λ t. output_of f.writes ++ t) (sym (run_puts below trace there rest r c));
        answer = answer_is count a b c e shares q (cases_eq (limited there rest.most) 0);
      }

-- ---- the commands

-- the command that left the point: it runs the whole's program, and comes as far as the point
record Leaves (whole front left rest : Run) (loaded others : List Found) (w f o : Outcome Answer) (k : ℕ) : Type 0 where
  goes_on : GoesOnFrom left rest loaded others o k
  done : IsDone o.ending
  apart : AreApart left.commits left.point
  none : left.skip ≡ 0
  object : left.object ≡ whole.object
  trace : left.trace ≡ whole.trace
  restart : left.restart ≡ whole.restart
  most : min k left.most ≡ min k whole.most
  ran : (t : Trace) (s : State) → w ≡ ran t (asked_of whole) s → f ≡ ran t (asked_of front) s → o ≡ ran t (asked_of left) s

text_is : (a b : List ℕ) (x : Option (List ℕ)) → x ≡ Some a → x ≡ Some b → a ≡ b
text_is a b x p q = let e : Some a ≡ Some b = sym p ∙ q in cc

same_place : (s : State) (left most k : ℕ) → min k left ≡ min k most → steps_before s left k ≡ steps_before s most k
same_place s left most k e = omega (arith, e)

-- the rest begins in the state of the point
module _ (below : Below) (whole front left rest : Run) (loaded others : List Found) (w f o : Outcome Answer) (k : ℕ) where
  begins_at : Leaves whole front left rest loaded others w f o k → (trace : Trace) (s u : State) (of : Text) (text : List ℕ) (file : List ℕ) → IsRunTrace trace → WritesBytes trace → IsBegin s of → IsRun trace s left o
      → left.point ≡ Some (file, k) → text_in o.writes file ≡ Some text → state_at text of ≡ Ok u → u ≡ point_at trace s whole.most k
  begins_at l trace s u of text file is writes b q point there held =
      let v = point_at trace s left.most k in
      let left_so = is_left trace s left.most left.commits left.point file k point l.apart q.fits in
      let bytes : text ≡ point_bytes (point_of v) = text_is text (point_bytes (point_of v)) (text_in o.writes file) there (ap (λ (x : Outcome Answer). text_in x.writes file) q.is ∙ left_so.text) in
      read_back u v of text (point_holds below trace s of left.most k is writes b left_so.small) (below.same trace (steps_before s left.most k) s ∙ b.text) bytes held
      ∙ ap (λ (n : ℕ). after trace n s) (same_place s left.most whole.most k l.most)

pieces : Below → (whole front left rest : Run) (loaded others : List Found) (w f r o : Outcome Answer) (k : ℕ) → CanBegin whole loaded → Does whole loaded w → Does front loaded f → Does rest others r → IsFront whole front k
    → Leaves whole front left rest loaded others w f o k → SharesBudget whole rest w r k → IsJoined whole front rest w f r
pieces below whole front left rest loaded others w f r o k can a b c is l shares =
    let g = l.goes_on in
    let NW : Trace → State → Type 0 = λ t s. w ≡ ran t (asked_of whole) s in
    let NF : Trace → State → Type 0 = λ t s. f ≡ ran t (asked_of front) s in
    let NR : Trace → State → Type 0 = λ t s. r ≡ ran t (asked_of rest) s in
    let found : others ≡ restart_files whole.restart g.text loaded = g.found ∙ ap (λ x. restart_files x g.text loaded) l.restart in
    files_three w f r a.done b.done c.done NW NF NR (IsJoined whole front rest w f r) below whole.object g.file whole.restart whole.trace whole.args rest.args g.text loaded can.block can.files
    a.outcome
    (loads_as f NF front.object whole.object front.restart whole.restart front.trace whole.trace front.args whole.args loaded loaded is.object is.restart is.trace is.args refl b.outcome)
    (loads_as r NR rest.object whole.object rest.restart (Some g.file) rest.trace whole.trace rest.args rest.args others (restart_files whole.restart g.text loaded) (g.object ∙ l.object) g.restart (g.trace ∙ l.trace) refl found c.outcome)
    (λ program point bytes can_at image s u object start held t run writes ew ef er.
    let begin = begins_so below program point image whole.args s bytes object can_at can.words start in
    let left_run = is_run t s left o l.none l.done (l.ran t s ew ef) in
    let at : u ≡ point_at t s whole.most k = begins_at below whole front left rest loaded others w f o k l t s u image.text g.text g.file run writes begin left_run g.point g.left held in
    joins below t s whole front rest w f r g.file k begin.count (is_run t s whole w is.whole_skip a.done ew) (is_run t s front f is.front_skip b.done ef)
    (subst (λ (x : State). IsRun t x rest r) at (is_run t u rest r g.skip c.done er)) is.most shares a.apart b.apart c.apart)

left_by_whole : (whole front rest : Run) (loaded others : List Found) (w f : Outcome Answer) (k : ℕ) → Does whole loaded w → IsFront whole front k → GoesOnFrom whole rest loaded others w k → Leaves whole front whole rest loaded others w f w k
left_by_whole whole front rest loaded others w f k a is g =
    record { goes_on = g; done = a.done; apart = a.apart; none = is.whole_skip; object = refl; trace = refl; restart = refl; most = refl; ran = λ t s ew ef. ew }

left_by_front : (whole front rest : Run) (loaded others : List Found) (w f : Outcome Answer) (k : ℕ) → Does front loaded f → IsFront whole front k → GoesOnFrom front rest loaded others f k → Leaves whole front front rest loaded others w f f k
left_by_front whole front rest loaded others w f k b is g =
    record { goes_on = g; done = b.done; apart = b.apart; none = is.front_skip; object = is.object; trace = is.trace; restart = is.restart; most = omega (arith, is.most); ran = λ t s ew ef. ef }

by_either : Below → (whole front rest : Run) (loaded others : List Found) (w f r : Outcome Answer) (k : ℕ) → CanBegin whole loaded → Does whole loaded w → Does front loaded f → Does rest others r → IsFront whole front k
    → GoesOnFrom whole rest loaded others w k ⊎ GoesOnFrom front rest loaded others f k → SharesBudget whole rest w r k → IsJoined whole front rest w f r
by_either below whole front rest loaded others w f r k can a b c is (inl g) shares = pieces below whole front whole rest loaded others w f r w k can a b c is (left_by_whole whole front rest loaded others w f k a is g) shares
by_either below whole front rest loaded others w f r k can a b c is (inr g) shares = pieces below whole front front rest loaded others w f r f k can a b c is (left_by_front whole front rest loaded others w f k b is g) shares

-- the whole writes what both write, one behind the other, and answers as the rest
pub pieces_joined : Below → (whole front rest : Run) (loaded others : List Found) (w f r : Outcome Answer) (k : ℕ) → InPieces whole front rest loaded others w f r k → IsJoined whole front rest w f r
pieces_joined below whole front rest loaded others w f r k p = by_either below whole front rest loaded others w f r k p.begins p.does_whole p.does_front p.does_rest p.is_front p.is_rest p.budget
