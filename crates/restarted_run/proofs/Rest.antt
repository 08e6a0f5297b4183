-- A run from the state in which another one took its point is the rest of it.
use Rattle.std.proofs.Common.{◌≡◌, ◌≢◌, ◌⊎◌, ◌+◌, ◌-◌, ◌<◌, ◌≤◌, ◌^◌, ℕ, zero, suc, List, [], ◌∷◌, ◌++◌, Option, Some, None, inl, inr, refl, sym, ap, ◌∙◌, subst, append_assoc, arith}
use Rattle.std.specs.Prelude.{min}
use Rattle.std.specs.List.{sum_by}
use Rattle.std.proofs.lemmas.List.{length-append}
use Rattle.std.proofs.lemmas.List.Sums.{sum_by-append}
use Rattle.event_trace.specs.declared.trace.Trace.{Trace}
use Rattle.pisa_step.specs.declared.cause.Cause.{Cause}
use Rattle.sim_safe.specs.declared.observer.RunEnd.{RunEnd}
use Rattle.sim_safe.specs.declared.observer.RunEnd.TheVariants as ends
use Rattle.sim_safe.specs.declared.statistics.Statistics.{Statistics}
use Rattle.sim_safe.specs.State.{State}
use Rattle.sim_safe.specs.Record.{Item}
use Rattle.sim_safe.specs.Step.{Outcome, Next, Halt, step_of}
use Rattle.sim_safe.specs.Run.{items_of, after, end_of, end_from}
use Rattle.sim_safe.specs.Commit.{text_of, outputs_of, line_of, output_of}
use Rattle.sim_safe.specs.Laws.{GoesOn, StepKeeps}
use Rattle.sim_watch.specs.Statistics.{statistics_of, loads_in, stores_in, branches_in, calls_in}
use Rattle.cut_run.specs.Parts.{joined}
use Rattle.cut_run.specs.Plan.{Asked, limited, timed_items, cut_end}
use Rattle.restarted_run.specs.Rest.{point_state, BeginsAtPoint, IsRestOf}
use Rattle.restarted_run.proofs.Ends.{same_with}
use Rattle.restarted_run.proofs.Plans.{unskipped, steps_are, items_are, end_is, state_is, point_is}

-- ---- how far a run comes

-- a run stopped within n steps, in this state and so
record Stops (trace : Trace) (n : ℕ) (u : State) (e : RunEnd) : Type 0 where
  pub why : Cause
  pub stops : step_of trace u ≡ Halt why
  pub end : e ≡ ends.Stop why
  pub some : 0 < n

-- it did so many steps, or stopped within them
abbrev Comes : Trace → ℕ → State → Type 0
Comes trace n s = ((after trace n s).icnt ≡ s.icnt + n) ⊎ Stops trace n (after trace n s) (end_from trace n s)

comes_next : (trace : Trace) (n : ℕ) (s t u : State) (e : RunEnd) → t.icnt ≡ s.icnt + 1 → ((u.icnt ≡ t.icnt + n) ⊎ Stops trace n u e) → (u.icnt ≡ s.icnt + suc n) ⊎ Stops trace (suc n) u e
comes_next trace n s t u e one (inl count) = inl (omega (arith, one, count))
comes_next trace n s t u e one (inr h) = inr (record { why = h.why; stops = h.stops; end = h.end; some = omega arith })

comes_more : (trace : Trace) (n : ℕ) (s : State) (o : Outcome) → step_of trace s ≡ o → StepKeeps s o → ((t : State) → Comes trace n t) → Comes trace (suc n) s
unfolding after end_from
comes_more trace n s (Halt why) is k f = rw is (inr (record { why = why; stops = is; end = refl; some = omega arith }))
comes_more trace n s (Next r t) is k f = rw is (comes_next trace n s t (after trace n t) (end_from trace n t) k.icnt (f t))

comes : ((trace : Trace) (s : State) → StepKeeps s (step_of trace s)) → (trace : Trace) (n : ℕ) (s : State) → Comes trace n s
unfolding after
comes keeps trace zero s = inl (omega arith)
comes keeps trace (suc n) s = comes_more trace n s (step_of trace s) refl (keeps trace s) (λ t. comes keeps trace n t)

-- a state that stops does nothing
record Rests (trace : Trace) (m : ℕ) (u : State) : Type 0 where
  pub items : items_of trace m u ≡ []
  pub state : after trace m u ≡ u

rests : (trace : Trace) (m : ℕ) (u : State) (why : Cause) → step_of trace u ≡ Halt why → Rests trace m u
unfolding items_of after
rests trace zero u why is = record { items = refl; state = refl }
rests trace (suc m) u why is = record { items = rw is refl; state = rw is refl }

end_halted : (trace : Trace) (m : ℕ) (u : State) (why : Cause) → step_of trace u ≡ Halt why → 0 < m → end_of trace m u ≡ ends.Stop why
unfolding end_from
end_halted trace zero u why is some = absurd (omega (arith, some))
end_halted trace (suc m) u why is some = rw is refl

end_is_from : (trace : Trace) (n : ℕ) (s : State) → 0 < n → end_of trace n s ≡ end_from trace n s
end_is_from trace zero s some = absurd (omega (arith, some))
end_is_from trace (suc n) s some = refl

stop_no_limit : (why : Cause) → ends.Stop why ≢ ends.Limit
stop_no_limit why e = cc

some_steps : (trace : Trace) (n : ℕ) (s : State) → end_of trace n s ≢ ends.Limit → 0 < n
some_steps trace zero s h = absurd (h refl)
some_steps trace (suc n) s h = omega arith

-- ---- two runs, one behind the other

-- a whole run is one of k steps and one of n behind it: its items and state, and its end where the second may do a step
record Joins (trace : Trace) (whole k n : ℕ) (s : State) : Type 0 where
  pub items : items_of trace whole s ≡ items_of trace k s ++ items_of trace n (after trace k s)
  pub state : after trace whole s ≡ after trace n (after trace k s)
  pub end : 0 < n → end_of trace whole s ≡ end_of trace n (after trace k s)

abbrev RunsGoOn : Type 0
RunsGoOn = (trace : Trace) (k n : ℕ) (s : State) → GoesOn trace k n s

joins_at : RunsGoOn → (trace : Trace) (whole k n : ℕ) (s : State) → k + n ≡ whole → Joins trace whole k n s
joins_at law trace whole k n s sum =
    let on = law trace k n s in
    subst (λ (m : ℕ). Joins trace m k n s) sum (record { items = on.items; state = on.state; end = on.end })

-- one that stopped within its first k steps does nothing behind them
joins_stopped : RunsGoOn → (trace : Trace) (d k n : ℕ) (s : State) → Stops trace k (after trace k s) (end_from trace k s) → Joins trace (k + d) k n s
joins_stopped law trace d k n s h =
    let u = after trace k s in
    let on = law trace k d s in
    let here = rests trace n u h.why h.stops in
    let there = rests trace d u h.why h.stops in
    let no_limit : end_from trace k s ≢ ends.Limit = λ e. stop_no_limit h.why (sym h.end ∙ e) in
    let same = same_with trace k d s no_limit in
    record {
      items = on.items ∙ ap (λ (xs : List Item). items_of trace k s ++ xs) (there.items ∙ sym here.items);
      state = on.state ∙ there.state ∙ sym here.state;
      end = λ some. end_is_from trace (k + d) s (omega (arith, h.some)) ∙ same.end ∙ h.end ∙ sym (end_halted trace n u h.why h.stops some);
    }

-- the budget that is left behind k of the steps of a whole run
left_steps : (icnt now k most second : ℕ) → now ≡ icnt + min k (min most (10 ^ 15 - icnt)) → second + k ≡ most → min k (min most (10 ^ 15 - icnt)) + min second (10 ^ 15 - now) ≡ min most (10 ^ 15 - icnt)
left_steps icnt now k most second count sum = omega (arith, count, sum)

front_below : (k n : ℕ) → min k n + (n - min k n) ≡ n
front_below k n = omega arith

joins_left_if : RunsGoOn → (trace : Trace) (s : State) (k most second : ℕ) → second + k ≡ most → Comes trace (min k (limited s most)) s
    → Joins trace (limited s most) (min k (limited s most)) (limited (after trace (min k (limited s most)) s) second) s
joins_left_if law trace s k most second sum (inl count) =
    let u = after trace (min k (limited s most)) s in
    joins_at law trace (limited s most) (min k (limited s most)) (limited u second) s (left_steps s.icnt u.icnt k most second count sum)
joins_left_if law trace s k most second sum (inr h) =
    let j = min k (limited s most) in
    subst (λ (m : ℕ). Joins trace m j (limited (after trace j s) second) s) (front_below k (limited s most)) (joins_stopped law trace (limited s most - j) j (limited (after trace j s) second) s h)

-- two runs that both ended by themselves
joins_ended : RunsGoOn → (trace : Trace) (s : State) (k whole n : ℕ) → k ≤ whole → end_of trace whole s ≢ ends.Limit → end_of trace n (after trace k s) ≢ ends.Limit → Joins trace whole k n s
joins_ended law trace s k whole n within first second =
    let u = after trace k s in
    let d = whole - k in
    let some = some_steps trace whole s first in
    let more = some_steps trace n u second in
    let big = same_with trace whole n s (λ e. first (end_is_from trace whole s some ∙ e)) in
    let small = same_with trace n d u (λ e. second (end_is_from trace n u more ∙ e)) in
    let on = joins_at law trace (whole + n) k (n + d) s (omega (arith, within)) in
    record {
      items = sym big.items ∙ on.items ∙ ap (λ (xs : List Item). items_of trace k s ++ xs) small.items;
      state = sym big.state ∙ on.state ∙ small.state;
      end = λ _. end_is_from trace whole s some ∙ sym big.end ∙ sym (end_is_from trace (whole + n) s (omega (arith, some))) ∙ on.end (omega (arith, more))
          ∙ end_is_from trace (n + d) u (omega (arith, more)) ∙ small.end ∙ sym (end_is_from trace n u more);
    }

-- ---- texts and counts

text_append : (xs ys : List Item) → text_of (xs ++ ys) ≡ text_of xs ++ text_of ys
text_append [] ys = refl
text_append (x ∷ xs) ys = ap (λ t. line_of x ++ t) (text_append xs ys) ∙ sym (append_assoc (line_of x) (text_of xs) (text_of ys))

outputs_append : (xs ys : List Item) → outputs_of (xs ++ ys) ≡ outputs_of xs ++ outputs_of ys
outputs_append [] ys = refl
outputs_append (x ∷ xs) ys = ap (λ t. output_of x ++ t) (outputs_append xs ys) ∙ sym (append_assoc (output_of x) (outputs_of xs) (outputs_of ys))

counted : ℕ → ℕ → ℕ → ℕ → ℕ → Statistics
counted insn loads stores branches calls = record { insn = insn; loads = loads; stores = stores; branches = branches; calls = calls }

counts_append : (xs ys : List Item) → statistics_of (xs ++ ys) ≡ joined (statistics_of xs) (statistics_of ys)
unfolding counted
counts_append xs ys =
    let zs = xs ++ ys in
    let a = statistics_of xs in
    let b = statistics_of ys in
    ap (λ (n : ℕ). counted n (sum_by loads_in zs) (sum_by stores_in zs) (sum_by branches_in zs) (sum_by calls_in zs)) (length-append xs ys)
    ∙ ap (λ (n : ℕ). counted (a.insn + b.insn) n (sum_by stores_in zs) (sum_by branches_in zs) (sum_by calls_in zs)) (sum_by-append loads_in xs ys)
    ∙ ap (λ (n : ℕ). counted (a.insn + b.insn) (a.loads + b.loads) n (sum_by branches_in zs) (sum_by calls_in zs)) (sum_by-append stores_in xs ys)
    ∙ ap (λ (n : ℕ). counted (a.insn + b.insn) (a.loads + b.loads) (a.stores + b.stores) n (sum_by calls_in zs)) (sum_by-append branches_in xs ys)
    ∙ ap (λ (n : ℕ). counted (a.insn + b.insn) (a.loads + b.loads) (a.stores + b.stores) (a.branches + b.branches) n) (sum_by-append calls_in xs ys)

-- ---- plans

limited_min : (s : State) (k most : ℕ) → limited s (min (k - 0) most) ≡ min k (limited s most)
limited_min s k most = omega arith

within_whole : (k n : ℕ) → min k n ≤ n
within_whole k n = omega arith

plans_join : (trace : Trace) (s : State) (most second k : ℕ) (file : List ℕ) (commits other : Option (List ℕ)) (point : Option (List ℕ × ℕ))
    → Joins trace (limited s most) (min k (limited s most)) (limited (after trace (min k (limited s most)) s) second) s
    → IsRestOf trace s (unskipped most commits (Some (file, k))) (after trace (min k (limited s most)) s) (unskipped second other point)
plans_join trace s most second k file commits other point j =
    let u = after trace (min k (limited s most)) s in
    let whole = unskipped most commits (Some (file, k)) in
    let front = unskipped (min (k - 0) most) commits None in
    let first = items_are trace s most commits (Some (file, k)) in
    let before = items_are trace s (min (k - 0) most) commits None ∙ ap (λ (n : ℕ). items_of trace n s) (limited_min s k most) in
    let behind = items_are trace u second other point in
    let items : timed_items trace s whole ≡ timed_items trace s front ++ timed_items trace u (unskipped second other point) =
    first ∙ j.items ∙ ap (λ (xs : List Item). xs ++ items_of trace (limited u second) u) (sym before) ∙ ap (λ (xs : List Item). timed_items trace s front ++ xs) (sym behind) in
    let xs = timed_items trace s front in
    let ys = timed_items trace u (unskipped second other point) in
    record {
      items = items;
      text = ap text_of items ∙ text_append xs ys;
      output = ap outputs_of items ∙ outputs_append xs ys;
      counts = ap statistics_of items ∙ counts_append xs ys;
      state = state_is trace s most commits (Some (file, k)) ∙ j.state ∙ sym (state_is trace u second other point);
      end = λ some. end_is trace s most commits (Some (file, k)) ∙ j.end (subst (λ (n : ℕ). 0 < n) (steps_are trace u second other point) some) ∙ sym (end_is trace u second other point);
    }

-- ---- any plans that skip nothing

as_unskipped : (a : Asked) (point : Option (List ℕ × ℕ)) → a.skip ≡ 0 → a.point ≡ point → unskipped a.most a.commits point ≡ a
as_unskipped a point skip is = ap (λ (p : Option (List ℕ × ℕ)). unskipped a.most a.commits p) (sym is) ∙ ap (λ (n : ℕ). record a { skip = n }) (sym skip)

some_is : (x y : State) → Some x ≡ Some y → x ≡ y
some_is x y e = cc

begins : (trace : Trace) (s : State) (first : Asked) (t : State) (second : Asked) (k : ℕ) → (b : BeginsAtPoint trace s first t second k) → after trace (min k (limited s first.most)) s ≡ t
begins trace s first t second k b =
    some_is _ t (sym (point_is trace s first.most first.commits b.file k) ∙ ap (point_state trace s) (as_unskipped first (Some (b.file, k)) b.first_skip b.point) ∙ b.start)

rest_by : (trace : Trace) (s : State) (first : Asked) (t : State) (second : Asked) (k : ℕ) (b : BeginsAtPoint trace s first t second k)
    → Joins trace (limited s first.most) (min k (limited s first.most)) (limited (after trace (min k (limited s first.most)) s) second.most) s → IsRestOf trace s first t second
rest_by trace s first t second k b j =
    let u = after trace (min k (limited s first.most)) s in
    let one = unskipped first.most first.commits (Some (b.file, k)) in
    let two = unskipped second.most second.commits second.point in
    subst (λ (a : Asked). IsRestOf trace s a t second) (as_unskipped first (Some (b.file, k)) b.first_skip b.point)
    (subst (λ (a : Asked). IsRestOf trace s one t a) (as_unskipped second second.point b.second_skip refl)
    (subst (λ (v : State). IsRestOf trace s one v two) (begins trace s first t second k b)
    (plans_join trace s first.most second.most k b.file first.commits second.commits second.point j)))

pub rest_left : RunsGoOn → ((trace : Trace) (s : State) → StepKeeps s (step_of trace s)) → (trace : Trace) (s : State) (first : Asked) (t : State) (second : Asked) (k : ℕ) → BeginsAtPoint trace s first t second k
    → second.most + k ≡ first.most → IsRestOf trace s first t second
rest_left law keeps trace s first t second k b sum =
    rest_by trace s first t second k b (joins_left_if law trace s k first.most second.most sum (comes keeps trace (min k (limited s first.most)) s))

pub rest_ended : RunsGoOn → (trace : Trace) (s : State) (first : Asked) (t : State) (second : Asked) (k : ℕ) → BeginsAtPoint trace s first t second k
    → cut_end trace s first ≢ ends.Limit → cut_end trace t second ≢ ends.Limit → IsRestOf trace s first t second
rest_ended law trace s first t second k b one two =
    let whole = limited s first.most in
    let u = after trace (min k whole) s in
    let first_end : cut_end trace s first ≡ end_of trace whole s =
    ap (cut_end trace s) (sym (as_unskipped first (Some (b.file, k)) b.first_skip b.point)) ∙ end_is trace s first.most first.commits (Some (b.file, k)) in
    let second_end : cut_end trace t second ≡ end_of trace (limited u second.most) u =
    ap (cut_end trace t) (sym (as_unskipped second second.point b.second_skip refl)) ∙ end_is trace t second.most second.commits second.point
    ∙ ap (λ (v : State). end_of trace (limited v second.most) v) (sym (begins trace s first t second k b)) in
    rest_by trace s first t second k b
    (joins_ended law trace s (min k whole) whole (limited u second.most) (within_whole k whole) (λ e. one (first_end ∙ e)) (λ e. two (second_end ∙ e)))
