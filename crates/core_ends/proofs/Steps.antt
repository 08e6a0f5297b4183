-- The state behind the dispatched right rows, as a state of the functional run.
use Rattle.std.proofs.Common.{◌≡◌, ℕ, zero, suc, ◌+◌, ◌≤◌, Bool, true, false, cond, List, [], ◌∷◌, Option, Some, None, refl, sym, ap, ◌∙◌, subst, arith}
use Rattle.std.specs.Prelude.{◌&&◌, is_none, is_some, find, count_by}
use Rattle.std.proofs.lemmas.Bool.{and_parts, and_from}
use Rattle.event_trace.specs.declared.trace.Trace.{Trace}
use Rattle.pisa_step.specs.declared.cause.Cause.{Cause}
use Rattle.sim_safe.specs.State.{State}
use Rattle.sim_safe.specs.Laws.{StepKeeps}
use Rattle.sim_safe.specs.Step.{Halt, step_of}
use Rattle.sim_safe.specs.Run.{after}
use Rattle.sim_safe.proofs.Keeping.{steps_keep}
use Rattle.sim_safe.proofs.Steps.{Leads, Reaches, reaches_none, reaches_on, after_all, after_stop}
use Rattle.ooo_table.specs.Row.{Row}
use Rattle.ooo_table.specs.Table.{Setting}
use Rattle.ooo_table.specs.Done.{live}
use Rattle.ooo_table.specs.Ends.{Extent, rows_at}
use Rattle.ooo_table.specs.Events.{committed_state}
use Rattle.ooo_table.specs.Later.{Each, Where}
use Rattle.ooo_table.specs.Legal.{CommitAllowed}
use Rattle.ooo_table.specs.CycleLaws.{Passed}
use Rattle.ooo_table.specs.Machine.{Given, setting_of}
use Rattle.ooo_table.specs.RunLaws.{right_rows, commits_among}
use Rattle.ooo_table.proofs.Counts.{both', one, count_cons, count_true, count_false}
use Rattle.ooo_table.proofs.Recovered.{untouched_at}
use Rattle.ooo_table.proofs.Run.{Known, known_at, paths_at, right_step, Reached, reached_all, Ran, ran_at}
use Rattle.core_parts.specs.Stands.{state_after, settled}
use Rattle.core_ends.specs.Extents.{right_in_flight, steps_done}

-- ---- steps are counted

leads_count : (trace : Trace) (n : ℕ) (s t : State) → Leads trace n s t → t.icnt ≡ s.icnt + n
unfolding Leads
leads_count trace zero s t e = let k : t.icnt ≡ s.icnt = ap (λ u. u.icnt) e in omega (arith, k)
leads_count trace (suc n) s t l =
    let k : l.1.icnt ≡ s.icnt + 1 = (subst (StepKeeps s) l.2 (steps_keep trace s)).icnt in
    omega (arith, k, leads_count trace n l.1 t l.3)

pub reaches_count : (trace : Trace) (n : ℕ) (s t : State) → Reaches trace n s t → t.icnt ≡ s.icnt + n
reaches_count trace n s t l = leads_count trace n s t l.leads

-- where a run halts no more steps lead
halted_there : (trace : Trace) (n m : ℕ) (s t u : State) (why : Cause) → Reaches trace n s t → Reaches trace m s u → n ≤ m → step_of trace t ≡ Halt why → u ≡ t
halted_there trace n m s t u why l k le h = after_all trace m s u k ∙ sym (after_stop trace n m s t why l le (sym h))

halted_then : (trace : Trace) (n m : ℕ) (s t u : State) → Reaches trace n s t → Reaches trace m s u → u ≡ t → m ≡ n
halted_then trace n m s t u l k e =
    omega (arith, reaches_count trace n s t l, reaches_count trace m s u k, ap (λ v. v.icnt) e)

-- ---- dispatched right rows

abbrev pub entered : Row → Bool
entered r = r.fetched.right && is_some r.dispatched

-- right rows aren't squashed
abbrev pub Untouched : Row → Type 0
Untouched r = r.fetched.right ≡ true → r.squashed ≡ None

-- where no row waits all right rows were dispatched
all_entered : (rows : List Row) → Passed rows → Each (λ _. Untouched) rows → right_rows rows ≡ count_by entered rows
all_entered [] p u = refl
all_entered (o ∷ rows) p u = by_right o.fetched.right (is_some o.dispatched) refl refl (all_entered rows p.1 u.1)
  where
    came : (d x : Option ℕ) → x ≡ None → (is_none d && is_none x) ≡ false → is_some d ≡ true
    came None x e h = absurd (both' (ap is_none e) h)
    came (Some y) x e h = refl

    by_right : (b d : Bool) → o.fetched.right ≡ b → is_some o.dispatched ≡ d → right_rows rows ≡ count_by entered rows → right_rows (o ∷ rows) ≡ count_by entered (o ∷ rows)
    by_right true true e k ih = omega (arith, ih, count_true (λ r. r.fetched.right) o rows e, count_true entered o rows (and_from _ _ e k))
    by_right true false e k ih = absurd (both' (came o.dispatched o.squashed (u.0 e) p.0) k)
    by_right false d e k ih = omega (arith, ih, count_false (λ r. r.fetched.right) o rows e, count_false entered o rows (ap (λ b. b && is_some o.dispatched) e))

module _ (g : Given) where
  abbrev set : Setting
  set = setting_of g

  -- each of them does a step
  steps_lead : (c : ℕ) (rows : List Row) → Each (Known set c) rows → Each (λ older r. r.fetched.right ≡ true → Reached g older r) rows → Each (λ _. Untouched) rows
      → Reaches g.trace (count_by entered rows) g.start (settled set rows)
  steps_lead c [] k h u = reaches_none g.trace g.start
  steps_lead c (r ∷ rows) k h u = by_self (entered r) refl (steps_lead c rows k.1 h.1 u.1)
    where
      by_self : (b : Bool) → entered r ≡ b → Reaches g.trace (count_by entered rows) g.start (settled set rows)
          → Reaches g.trace (count_by entered (r ∷ rows)) g.start (settled set (r ∷ rows))
      by_self false e ih =
          let less : count_by entered rows ≡ count_by entered (r ∷ rows) = sym (count_false entered r rows e) in
          let same : settled set rows ≡ settled set (r ∷ rows) = sym (ap (λ b. state_after set (cond b (Some r) (find entered rows))) e) in
          subst (λ n. Reaches g.trace n g.start (settled set (r ∷ rows))) less (subst (Reaches g.trace (count_by entered rows) g.start) same ih)
      by_self true e ih =
          let both : (r.fetched.right ≡ true) × (is_some r.dispatched ≡ true) = and_parts r.fetched.right (is_some r.dispatched) e in
          let reach : Reached g rows r = h.0 both.0 in
          let (did, t, f, a, n) = right_step g r both.0 reach.pc (k.0.proceeds both.0 both.1) in
          let count : right_rows rows ≡ count_by entered rows = all_entered rows (k.0.sound.facts.first both.1) u.1 in
          let here : Reaches g.trace (count_by entered rows) g.start r.fetched.state = subst (λ n. Reaches g.trace n g.start r.fetched.state) count reach.steps in
          let on : Reaches g.trace (count_by entered rows + 1) g.start t = reaches_on g.trace (count_by entered rows) g.start r.fetched.state t did here (sym f) in
          let more : count_by entered rows + 1 ≡ count_by entered (r ∷ rows) = omega (arith, count_true entered r rows e) in
          let state : t ≡ settled set (r ∷ rows) = sym (ap (λ b. state_after set (cond b (Some r) (find entered rows))) e ∙ a) in
          subst (λ n. Reaches g.trace n g.start (settled set (r ∷ rows))) more (subst (Reaches g.trace (count_by entered rows + 1) g.start) state on)

  -- each has committed or is live
  counted : (c : ℕ) (rows : List Row) → Each (Known set c) rows → Each (λ _. Untouched) rows → count_by entered rows ≡ steps_done rows
  counted c [] k u = refl
  counted c (r ∷ rows) k u =
      omega (
        arith,
        counted c rows k.1 u.1,
        count_cons entered r rows,
        count_cons (λ o. is_some o.committed) r rows,
        count_cons (λ o. o.fetched.right && live o) r rows,
        apart r.fetched.right r.dispatched r.committed r.squashed (right r.committed k.0.sound.facts.order) k.0.sound.facts.left u.0,
      )
    where
      right : (m : Option ℕ) → Where m (CommitAllowed set rows r) → is_some m ≡ true → r.fetched.right ≡ true
      right None w h = absurd cc
      right (Some x) w h = w.right

      apart : (b : Bool) (d m x : Option ℕ) → (is_some m ≡ true → b ≡ true) → (is_some m ≡ true → is_some d ≡ true) → (b ≡ true → x ≡ None)
          → one (b && is_some d) ≡ one (is_some m) + one (b && (is_some d && is_none m && is_none x))
      apart true (Some d) (Some m) x w l u = omega arith
      apart true (Some d) None x w l u = let k : one (is_none x) ≡ 1 = ap (λ y. one (is_none y)) (u refl) in omega (arith, k)
      apart true None (Some m) x w l u = absurd (both' (l refl) refl)
      apart true None None x w l u = omega arith
      apart false d (Some m) x w l u = absurd (both' (w refl) refl)
      apart false d None x w l u = omega arith

  module _ (e : Extent) (c : ℕ) (pen : 1 ≤ g.config.penalty) where
    abbrev all : List Row
    all = rows_at set e c

    pub steps_reach : Reaches g.trace (steps_done all) g.start (settled set all)
    steps_reach =
        let known : Each (Known set c) all = known_at set e c pen in
        let untouched : Each (λ _. Untouched) all = untouched_at set e c pen in
        subst (λ n. Reaches g.trace n g.start (settled set all)) (counted c all known untouched)
        (steps_lead c all known (reached_all g all (paths_at set e c pen)) untouched)

    pub settled_after : settled set all ≡ after g.trace (steps_done all) g.start
    settled_after = after_all g.trace (steps_done all) g.start (settled set all) steps_reach

    pub settled_count : (settled set all).icnt ≡ g.start.icnt + steps_done all
    settled_count = reaches_count g.trace (steps_done all) g.start (settled set all) steps_reach

    -- ---- where the functional machine halts behind the commits

    module _ (why : Cause) (halts : step_of g.trace (committed_state set all) ≡ Halt why) where
      ran : Ran g all
      ran = ran_at g e c pen

      pub settled_committed : settled set all ≡ committed_state set all
      settled_committed =
          halted_there g.trace (commits_among all) (steps_done all) g.start (committed_state set all) (settled set all) why ran.steps steps_reach (omega arith) halts

      -- no right row is in flight
      pub none_in_flight : right_in_flight all ≡ 0
      none_in_flight =
          let same : steps_done all ≡ commits_among all =
          halted_then g.trace (commits_among all) (steps_done all) g.start (committed_state set all) (settled set all) ran.steps steps_reach settled_committed in
          omega (arith, same)
