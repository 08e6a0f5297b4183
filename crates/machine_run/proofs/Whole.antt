-- The skipped steps and the timed part as one run.
use Rattle.std.specs.Prelude.{◌≡◌, ◌≤◌, ◌^◌, ◌++◌, ◌&&◌, ◌||◌, ℕ, Bool, true, false, length, Some, None, is_some, nat_lt, if◌then◌else◌}
use Rattle.std.proofs.Common.{ap, ◌∙◌, subst, arith}
use Rattle.event_trace.specs.declared.trace.Trace.{Trace}
use Rattle.journal.specs.declared.fault.Fault.{Fault}
use Rattle.journal.specs.Write.{Journal}
use Rattle.journal.specs.View.{View, Wrote, Cut}
use Rattle.journal.specs.Laws.{wrote_more, cut_more, cut_within}
use Rattle.sim_safe.specs.declared.observer.RunEnd.{RunEnd}
use Rattle.sim_safe.specs.State.{State}
use Rattle.sim_safe.specs.Run.{items_of, after, end_of}
use Rattle.sim_watch.specs.Skip.{skip_journal}
use Rattle.cut_run.specs.Plan.{limited, to_skip, skipped, timed_start, ends_early}
use Rattle.machine_run.specs.declared.plan.MachineConfig.{MachineConfig}
use Rattle.machine_run.specs.declared.timed.Limits.{Limits}
use Rattle.machine_run.specs.declared.timed.Timed.{Timed}
use Rattle.machine_run.specs.Timed.{timed_journal, PartTimed}
use Rattle.machine_run.specs.Plan.{Asked, plainly, word_for, given_at, machine_limits, machine_journal}
use Rattle.machine_run.specs.Comes.{RunMade}

abbrev pub limits_for : State → Bool → RunEnd → (most cycles : ℕ) → Limits
limits_for u over end most cycles =
    record { max_inst = if over then 0 else limited u most; max_cycles = cycles; over = if over then Some (word_for u end) else None }

module _ (c : MachineConfig) (trace : Trace) (s : State) (asked : Asked) where
  -- the values that a run goes by are those of its plan
  pub record Made (m : ℕ) (u : State) (done : ℕ) (limits : Limits) : Type 0 where
    pub skip : m ≡ to_skip trace s (plainly asked)
    pub start : u ≡ timed_start trace s (plainly asked)
    pub count : done ≡ skipped trace s (plainly asked)
    pub limits_are : limits ≡ machine_limits c trace s asked

  pub made : (m : ℕ) (u : State) (done : ℕ) (end : RunEnd) (over : Bool) (limits : Limits) → m ≡ limited s asked.skip → u ≡ after trace m s → done ≡ length (items_of trace m s) → end ≡ end_of trace m s
      → over ≡ (nat_lt 0 m && (nat_lt done m || is_some u.ended)) → limits ≡ limits_for u over end asked.most asked.cycles → Made m u done limits
  made m u done end over limits em u_is d_is end_is o_is l_is =
      let skip = to_skip trace s (plainly asked) in
      let start = timed_start trace s (plainly asked) in
      let eu : u ≡ start = u_is ∙ ap (λ (x : ℕ). after trace x s) em in
      let ed : done ≡ skipped trace s (plainly asked) = d_is ∙ ap (λ (x : ℕ). length (items_of trace x s)) em in
      let ee : end ≡ end_of trace skip s = end_is ∙ ap (λ (x : ℕ). end_of trace x s) em in
      let eo : over ≡ ends_early trace s (plainly asked) =
      o_is ∙ ap (λ (x : ℕ). nat_lt 0 x && (nat_lt done x || is_some u.ended)) em ∙ ap (λ (d : ℕ). nat_lt 0 skip && (nat_lt d skip || is_some u.ended)) ed
      ∙ ap (λ (v : State). nat_lt 0 skip && (nat_lt (skipped trace s (plainly asked)) skip || is_some v.ended)) eu in
      record {
        skip = em;
        start = eu;
        count = ed;
        limits_are = l_is ∙ ap (λ (v : State). limits_for v over end asked.most asked.cycles) eu ∙ ap (λ (x : RunEnd). limits_for start over x asked.most asked.cycles) ee
            ∙ ap (λ (b : Bool). limits_for start b (end_of trace skip s) asked.most asked.cycles) eo;
      }

  -- ---- what is written

  journal_is : (m : ℕ) (u : State) (done : ℕ) (limits : Limits) → Made m u done limits
      → timed_journal (given_at c trace u) limits asked.names ++ skip_journal trace m s ≡ machine_journal c trace s asked
  unfolding machine_journal
  journal_is m u done limits is =
      ap (λ (x : ℕ). timed_journal (given_at c trace u) limits asked.names ++ skip_journal trace x s) is.skip
      ∙ ap (λ (x : State). timed_journal (given_at c trace x) limits asked.names ++ skip_journal trace (to_skip trace s (plainly asked)) s) is.start
      ∙ ap (λ (x : Limits). timed_journal (given_at c trace (timed_start trace s (plainly asked))) x asked.names ++ skip_journal trace (to_skip trace s (plainly asked)) s) is.limits_are

  -- it was given up in the skipped part
  pub cut_in_skip : {O : Type 0} (v : View O) (a b : O) (m : ℕ) (f : Fault) → m ≡ limited s asked.skip → Cut v a (skip_journal trace m s) f b → Cut v a (machine_journal c trace s asked) f b
  unfolding machine_journal
  cut_in_skip v a b m f em k =
      cut_within v a b (skip_journal trace (to_skip trace s (plainly asked)) s) (timed_journal (given_at c trace (timed_start trace s (plainly asked))) (machine_limits c trace s asked) asked.names) f
      (subst (λ (x : ℕ). Cut v a (skip_journal trace x s) f b) em k)

  -- or in the timed one
  pub cut_in_timed : {O : Type 0} (v : View O) (a b d : O) (m : ℕ) (u : State) (done : ℕ) (limits : Limits) (f : Fault) → Made m u done limits → Wrote v a (skip_journal trace m s) b
      → Cut v b (timed_journal (given_at c trace u) limits asked.names) f d → Cut v a (machine_journal c trace s asked) f d
  cut_in_timed v a b d m u done limits f is one two =
      subst (λ (h : Journal). Cut v a h f d) (journal_is m u done limits is) (cut_more v a b d (skip_journal trace m s) (timed_journal (given_at c trace u) limits asked.names) f one two)

  pub wrote_whole : {O : Type 0} (v : View O) (a b d : O) (m : ℕ) (u : State) (done : ℕ) (limits : Limits) → Made m u done limits → Wrote v a (skip_journal trace m s) b
      → Wrote v b (timed_journal (given_at c trace u) limits asked.names) d → Wrote v a (machine_journal c trace s asked) d
  wrote_whole v a b d m u done limits is one two =
      subst (λ (h : Journal). Wrote v a h d) (journal_is m u done limits is) (wrote_more v a b d (skip_journal trace m s) (timed_journal (given_at c trace u) limits asked.names) one two)

  -- ---- what it comes to

  pub run_made : (m : ℕ) (u : State) (done : ℕ) (limits : Limits) (timed : Timed) → Made m u done limits → PartTimed (given_at c trace u) limits timed
      → RunMade c trace s asked (record { skipped = done; statistics = timed.statistics; caches = timed.caches; end = timed.end })
  run_made m u done limits timed is p =
      let q = subst (λ (x : Limits). PartTimed (given_at c trace (timed_start trace s (plainly asked))) x timed) is.limits_are (subst (λ (x : State). PartTimed (given_at c trace x) limits timed) is.start p) in
      record { skipped = is.count; statistics = q.statistics; caches = q.caches; end = q.end }

-- ---- the limits

pub few_left : (u : State) (over : Bool) (end : RunEnd) (most cycles : ℕ) → (limits_for u over end most cycles).max_inst ≤ 10 ^ 15
few_left u true end most cycles = omega arith
few_left u false end most cycles = omega arith
