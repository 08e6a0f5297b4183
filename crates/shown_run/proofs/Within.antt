-- In every K cycles that a run took one commits.
use Rattle.std.proofs.Common.{◌≡◌, ℕ, zero, suc, ◌+◌, ◌-◌, ◌<◌, ◌≤◌, Bool, true, false, Some, refl, sym, ap, ◌∙◌, arith, inl, inr}
use Rattle.std.specs.Prelude.{◌⊎◌, ◌||◌}
use Rattle.std.specs.List.{list_any}
use Rattle.std.proofs.lemmas.Bool.{cases_lt}
use Rattle.ooo_table.specs.Row.{Row, is_at}
use Rattle.ooo_table.specs.Table.{Setting}
use Rattle.ooo_table.specs.Cycle.{table, after_commit}
use Rattle.ooo_table.specs.Ends.{Extent, Whole, AtCommit, AtStop, rows_at, last_commit, commits_in, stops_in, end_in}
use Rattle.ooo_table.specs.Events.{cycles_of}
use Rattle.ooo_table.specs.Machine.{Given, setting_of}
use Rattle.ooo_table.specs.MachineLaws.{IsSound, k_of}
use Rattle.ooo_table.specs.RunLaws.{commits_among}
use Rattle.ooo_table.proofs.Timely.{timely}
use Rattle.ooo_table.proofs.Widths.{squash_same}
use Rattle.shown_run.specs.Headline.{CommitsWithinK}
use Rattle.shown_run.proofs.Gathered.{gathered, Turned, stays_up_to, stays_stop, stays_cycle}
use Rattle.shown_run.proofs.Stays.{same_mark}
use Rattle.shown_run.proofs.Budgets.{Unended, running, stop_parts, any_gathered, any_next, any_behind}
use Rattle.shown_run.proofs.Ends.{commit_there}

-- ---- a commit of a cycle is there from then on

module _ (set : Setting) (x : ℕ) where
  abbrev commits_at : Row → Bool
  commits_at r = is_at x r.committed

  abbrev any : ℕ → Row → Bool → Bool
  any n r b = commits_at r || b

  module _ (c : ℕ) (lt : x < c) where
    same : (n : ℕ) (r s : Row) (b : Bool) → Turned c r s → any n s b ≡ any n r b
    same n r s b t = ap (λ k. k || b) (same_mark x c lt r.committed s.committed t.changed.committed)

    commit_next : list_any commits_at (table set (suc c)).rows ≡ list_any commits_at (table set c).rows
    commit_next =
        any_gathered set 0 commits_at (table set (suc c)).rows
        ∙ (stays_cycle set c any false same (λ n u look queued b. refl) ∙ sym (any_gathered set 0 commits_at (table set c).rows))

    gathered_then : (e : Extent) → gathered any false (rows_at set e c) ≡ gathered any false (table set c).rows
    gathered_then Whole = refl
    gathered_then (AtCommit row) = stays_up_to set c any false same row
    gathered_then AtStop = stays_stop set c any false same

    commit_then : (e : Extent) → list_any commits_at (rows_at set e c) ≡ list_any commits_at (table set c).rows
    commit_then e = any_gathered set 0 commits_at (rows_at set e c) ∙ (gathered_then e ∙ sym (any_gathered set 0 commits_at (table set c).rows))

  commit_later : (k : ℕ) → list_any commits_at (table set (k + suc x)).rows ≡ list_any commits_at (table set (suc x)).rows
  commit_later zero = let none : 0 + suc x ≡ suc x = omega arith in ap (λ n. list_any commits_at (table set n).rows) none
  commit_later (suc k) =
      let next : suc k + suc x ≡ suc (k + suc x) = omega arith in
      ap (λ n. list_any commits_at (table set n).rows) next ∙ (commit_next (k + suc x) (omega arith) ∙ commit_later k)

  commit_first : list_any commits_at (table set (suc x)).rows ≡ list_any commits_at (after_commit set x).rows
  commit_first = any_next set 0 x commits_at (squash_same set commits_at x (λ r. refl)) (λ r. refl) (λ r a. refl) (λ r. refl) (λ u look queued. refl)

  commit_stays : (e : Extent) (c : ℕ) → x < c → list_any commits_at (after_commit set x).rows ≡ true → list_any commits_at (rows_at set e c) ≡ true
  commit_stays e c lt h =
      let k : ℕ = c - suc x in
      let at : c ≡ k + suc x = omega (arith, lt) in
      commit_then c lt e ∙ (ap (λ n. list_any commits_at (table set n).rows) at ∙ (commit_later k ∙ (commit_first ∙ h)))

  commit_at_stop : list_any commits_at (after_commit set x).rows ≡ true → list_any commits_at (rows_at set AtStop x) ≡ true
  commit_at_stop h = any_behind set 0 x commits_at (squash_same set commits_at x (λ r. refl)) (λ r. refl) (λ r a. refl) (λ r. refl) (λ u look queued. refl) ∙ h

-- ---- the bound

-- it ends so in the cycle behind c whole ones
abbrev pub EndsBy : Given → ℕ → Extent → ℕ → Type 0
EndsBy g most Whole c = Unit {0}
EndsBy g most (AtCommit row) c = (end_in (setting_of g) most c ≡ Some (AtCommit row)) × (commits_among (table (setting_of g) c).rows < most)
EndsBy g most AtStop c = end_in (setting_of g) most c ≡ Some AtStop

module _ (g : Given) (sound : IsSound g) (most c : ℕ) (unended : Unended (setting_of g) most c) where
  abbrev Within : Extent → ℕ → Type 0
  Within e a = CommitsWithinK g (record { extent = e; passed = c }) a

  either : (b d : Bool) → (b || d) ≡ true → d ≡ false → b ≡ true
  either true d h e = refl
  either false d h e = absurd cc

  -- it met a commit in a cycle before the one in which it ends
  before_end : (e : Extent) (a x : ℕ) → a ≤ x → x < a + k_of g → x < c
      → (commits_in (setting_of g) x (table (setting_of g) x) || stops_in (setting_of g) x (table (setting_of g) x)) ≡ true → Within e a
  before_end e a x ax xk lt h =
      let none : stops_in (setting_of g) x (table (setting_of g) x) ≡ false =
      (stop_parts (stops_in (setting_of g) x (table (setting_of g) x)) (last_commit (setting_of g) most x (after_commit (setting_of g) x).rows) (unended x lt)).0 in
      inl (x, ax, xk, commit_stays (setting_of g) x e c lt (either (commits_in (setting_of g) x (table (setting_of g) x)) (stops_in (setting_of g) x (table (setting_of g) x)) h none))

  -- or in that one
  at_end : (e : Extent) → EndsBy g most e c → (a x : ℕ) → a + k_of g ≤ cycles_of e c → a ≤ x → x < a + k_of g → c ≤ x
      → (commits_in (setting_of g) x (table (setting_of g) x) || stops_in (setting_of g) x (table (setting_of g) x)) ≡ true → Within e a
  at_end Whole ends a x le ax xk cx h = absurd (omega (arith, le, xk, cx))
  at_end (AtCommit row) ends a x le ax xk cx h =
      inl (c, omega (arith, le, xk, ax, cx), omega (arith, xk, cx), commit_there g most c row ends.1 ends.0)
  at_end AtStop ends a x le ax xk cx h = by_commit (commits_in (setting_of g) c (table (setting_of g) c)) refl
    where
      by_commit : (b : Bool) → commits_in (setting_of g) c (table (setting_of g) c) ≡ b → Within AtStop a
      by_commit true e = inl (c, omega (arith, le, xk, ax, cx), omega (arith, xk, cx), commit_at_stop (setting_of g) c e)
      by_commit false e = inr (refl, omega (arith, le, xk, cx))

  pub within_k : (e : Extent) → EndsBy g most e c → (a : ℕ) → a + k_of g ≤ cycles_of e c → Within e a
  within_k e ends a le =
      let early : a ≤ c = not_late e le in
      let (x, ax, xk, h) = timely g a sound (running (setting_of g) most a (λ y lt. unended y (omega (arith, lt, early)))) in
      by_time x ax xk h (cases_lt x c)
    where
      not_late : (e : Extent) → a + k_of g ≤ cycles_of e c → a ≤ c
      not_late Whole le = omega (arith, le)
      not_late (AtCommit row) le = omega (arith, le)
      not_late AtStop le = omega (arith, le)

      by_time : (x : ℕ) → a ≤ x → x < a + k_of g
          → (commits_in (setting_of g) x (table (setting_of g) x) || stops_in (setting_of g) x (table (setting_of g) x)) ≡ true → (x < c) ⊎ (c ≤ x) → Within e a
      by_time x ax xk h (inl lt) = before_end e a x ax xk lt h
      by_time x ax xk h (inr ge) = at_end e ends a x le ax xk ge h
