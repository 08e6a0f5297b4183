-- Whatever the oldest right row in flight waits for, it gets.
use Rattle.std.proofs.Common.{◌≡◌, ℕ, suc, ◌<◌, Bool, true, false, List, [], ◌∷◌, Option, Some, None, refl, ap, ◌∙◌, arith}
use Rattle.std.specs.Prelude.{◌==◌, ◌&&◌, ◌||◌, not, nat_lt, is_none, is_some, option_map, count_by}
use Rattle.std.specs.List.{list_any, list_all}
use Rattle.std.proofs.lemmas.Bool.{and_right, and_left, and_from, or_right, or_left, eq-eqb, lt-ltb, cond-true, or_from}
use Rattle.std.proofs.lemmas.Bool.Decides.{nat_tests}
use Rattle.ooo_table.specs.Row.{Row, is_at, is_before, every, MemoryAccess, accessed}
use Rattle.ooo_table.specs.Execution.{Pool, Alus, Multipliers, Ports, uses_memory, is_of, same_block, pool_size}
use Rattle.ooo_table.specs.Table.{Setting}
use Rattle.ooo_table.specs.Path.{execution, loads, stores}
use Rattle.ooo_table.specs.Done.{written, waiting, live, done_before}
use Rattle.ooo_table.specs.Commit.{commits}
use Rattle.ooo_table.specs.Issue.{may_issue, issues, accesses, holds, takes, issues_at, has_unit, has_unit_for}
use Rattle.ooo_table.specs.Dispatch.{dispatches, is_first, has_place, may_enter}
use Rattle.ooo_table.specs.Later.{Each, Where}
use Rattle.ooo_table.specs.Bound.{Bounded}
use Rattle.ooo_table.proofs.Over.{Over, AllOver, not_at, count_none, each_map, all_from, any_from, not_live, not_waiting, all_ready, either_way}

second_false : (x y : Bool) → x ≡ true → (x && y) ≡ false → y ≡ false
second_false true y e h = h
second_false false y e h = absurd cc

pub not_at_access : (c : ℕ) (m : Option MemoryAccess) → Where m (λ a. a.at < c) → is_at c (option_map (λ a. a.at) m) ≡ false
not_at_access c None h = refl
not_at_access c (Some a) h = grind (arith, nat_tests)

module _ (set : Setting) (I M c f : ℕ) (limits : Bounded set I M) where
  -- a row that is done commits in the next commit stage
  pub commits_now : (older : List Row) (r : Row) → AllOver set c f older → r.fetched.right ≡ true → r.committed ≡ None → done_before set c older r ≡ true → commits set c older r ≡ true
  commits_now older r over right unset done =
      and_from _ _ (and_from _ _ (and_from _ _ (and_from _ _ (and_from _ _ right (ap is_none unset)) done) settled) width) ports
    where
      settled_row : (o : Row) → Over set c f o → (not o.fetched.right || is_some o.committed) ≡ true
      settled_row o v = either_way set c f ((not o.fetched.right || is_some o.committed) ≡ true) o
          (λ w. or_right (not o.fetched.right) (is_some o.committed) (v.left w)) (λ w. or_left (not o.fetched.right) (is_some o.committed) (ap not w))

      settled : list_all (λ o. not o.fetched.right || is_some o.committed) older ≡ true
      settled = all_from _ older (each_map (Over set c f) _ settled_row older over)

      width : nat_lt (count_by (λ o. is_at c o.committed) older) set.config.commit ≡ true
      width = lt-ltb _ _ (omega (arith, limits.commit, count_none (λ o. is_at c o.committed) older (each_map (Over set c f) _ (λ o v. not_at c o.committed v.committed) older over)))

      ports : (not (stores set r) || nat_lt (count_by (λ o. is_at c o.committed && stores set o) older) set.config.ports) ≡ true
      ports = or_right (not (stores set r)) _ (lt-ltb _ _ (omega (arith, limits.ports, count_none (λ o. is_at c o.committed && stores set o) older (each_map (Over set c f) _ (λ o v. and_left _ (stores set o) (not_at c o.committed v.committed)) older over))))

  pub none_live : (older : List Row) → AllOver set c f older → count_by live older ≡ 0
  none_live older over = count_none live older (each_map (Over set c f) _ (λ o v. not_live set c f o v) older over)

  -- a row whose words are there is dispatched
  pub dispatches_now : (older : List Row) (r : Row) → AllOver set c f older → r.fetched.right ≡ true → waiting r ≡ true → r.fetched.queued < c
      → (execution set r).stops ≡ false → Each (λ _ o. (is_some o.committed && (o.fetched.right && (execution set o).exit)) ≡ false) older → dispatches set c older r ≡ true
  dispatches_now older r over right waits queued goes running =
      and_from _ _ (and_from _ _ (and_from _ _ (and_from _ _ (and_from _ _ first width) place) enter) no_call) no_exit
    where
      first : is_first set c older r ≡ true
      first = and_from _ _ (and_from _ _ waits (lt-ltb r.fetched.queued c queued)) (all_from _ older (each_map (Over set c f) _ (λ o v. ap not (not_waiting set c f o v)) older over))

      width : nat_lt (count_by (λ o. is_at c o.dispatched) older) set.config.decode ≡ true
      width = lt-ltb _ _ (omega (arith, limits.decode, count_none (λ o. is_at c o.dispatched) older (each_map (Over set c f) _ (λ o v. not_at c o.dispatched v.dispatched) older over)))

      place : has_place set older r ≡ true
      place =
          and_from _ _ (lt-ltb _ _ (omega (arith, limits.ruu, none_live older over)))
          (or_right (not (uses_memory (execution set r).memory)) _
          (lt-ltb _ _ (omega (
            arith,
            limits.lsq,
            count_none (λ o. live o && uses_memory (execution set o).memory) older (each_map (Over set c f) _ (λ o v. and_left (live o) (uses_memory (execution set o).memory) (not_live set c f o v)) older over),
          ))))

      enter : may_enter set older r ≡ true
      enter = cond-true r.fetched.right (not (execution set r).stops && (not (execution set r).call || (count_by live older == 0))) (not (execution set r).call) right
          ∙ and_from _ _ (ap not goes) (or_right (not (execution set r).call) (count_by live older == 0) (eq-eqb (count_by live older) 0 (none_live older over)))

      no_call : not (list_any (λ o. is_at c o.dispatched && (execution set o).call) older) ≡ true
      no_call = ap not (any_from _ older (each_map (Over set c f) _ (λ o v. and_left (is_at c o.dispatched) (execution set o).call (not_at c o.dispatched v.dispatched)) older over))

      no_exit : not (list_any (λ o. is_some o.dispatched && (o.fetched.right && (execution set o).exit)) older) ≡ true
      no_exit = ap not (any_from (λ o. is_some o.dispatched && (o.fetched.right && (execution set o).exit)) older (not_exits older over running))
        where
          not_exits : (rows : List Row) → AllOver set c f rows → Each (λ _ o. (is_some o.committed && (o.fetched.right && (execution set o).exit)) ≡ false) rows
              → Each (λ _ o. (is_some o.dispatched && (o.fetched.right && (execution set o).exit)) ≡ false) rows
          not_exits [] v h = tt
          not_exits (o ∷ rows) v h = (
            either_way set c f ((is_some o.dispatched && (o.fetched.right && (execution set o).exit)) ≡ false) o
                (λ w. and_right (is_some o.dispatched) (o.fetched.right && (execution set o).exit) (second_false (is_some o.committed) (o.fetched.right && (execution set o).exit) (v.0.left w) h.0))
                (λ w. and_right (is_some o.dispatched) (o.fetched.right && (execution set o).exit) (and_left o.fetched.right (execution set o).exit w)),
            not_exits rows v.1 h.1,
          )

  no_issues : (older : List Row) → AllOver set c f older → count_by (issues_at set c) older ≡ 0
  no_issues older over = count_none (issues_at set c) older (each_map (Over set c f) _ (λ o v. or_from _ _ (not_at c o.issued v.issued) (not_at_access c o.access v.access)) older over)

  no_takes : (p : Pool) (older : List Row) → AllOver set c f older → count_by (takes set p c) older ≡ 0
  no_takes Alus older over = count_none (takes set Alus c) older (each_map (Over set c f) _ (λ o v. and_right (is_of Alus (execution set o).unit) (is_at c o.issued) (not_at c o.issued v.issued)) older over)
  no_takes Multipliers older over = count_none (takes set Multipliers c) older (each_map (Over set c f) _ (λ o v. and_right (is_of Multipliers (execution set o).unit) (is_at c o.issued) (not_at c o.issued v.issued)) older over)
  no_takes Ports older over = count_none (takes set Ports c) older (each_map (Over set c f) _ (λ o v. and_right (loads set o) (is_at c (accessed o)) (not_at_access c o.access v.access)) older over)

  pub left_over : (p : Pool) (start older : List Row) → AllOver set c f older → count_by (holds set p c) start < pool_size set.config p → has_unit set c start older p ≡ true
  left_over p start older over h = lt-ltb _ _ (omega (arith, no_takes p older over))

  -- the rules on issue let a right row pass behind rows that are over
  issue_allowed : (older : List Row) (r : Row) → AllOver set c f older → r.fetched.right ≡ true → may_issue set c older r ≡ true
  issue_allowed older r over right =
      and_from _ _ (or_left r.fetched.right set.config.wrong_issue right)
      (or_right (not set.config.in_order) _ (all_from (λ o. not (live o) || is_before (suc c) o.issued) older
      (each_map (Over set c f) _ (λ o v. or_left (not (live o)) _ (ap not (not_live set c f o v))) older over)))

  -- a dispatched row issues, unless all units of its pool are held
  pub issues_now : (d : ℕ) (start older : List Row) (r : Row) → AllOver set c f older → r.fetched.right ≡ true → r.dispatched ≡ Some d → d < c → f < d → r.issued ≡ None → r.squashed ≡ None
      → has_unit_for set c start older (execution set r).unit ≡ true → issues set c start older r ≡ true
  issues_now d start older r over right e before late unissued stands unit =
      and_from _ _ (and_from _ _ (and_from _ _ (and_from _ _ (and_from _ _ (and_from _ _ (rw e (lt-ltb d c before)) (ap is_none unissued)) (ap is_none stands)) (issue_allowed older r over right))
      (all_ready set c f (suc c) d older r (execution set r).main over (omega arith) e late)) (lt-ltb _ _ (omega (arith, limits.issue, no_issues older over)))) unit

  -- and a load that was written back gets its access
  pub accesses_now : (d : ℕ) (start older : List Row) (r : Row) → AllOver set c f older → r.dispatched ≡ Some d → f < d → loads set r ≡ true → r.access ≡ None → r.squashed ≡ None
      → is_before (suc c) (written set r) ≡ true → count_by (holds set Ports c) start < set.config.ports → accesses set c start older r ≡ true
  accesses_now d start older r over e late is_load unread stands back ports =
      and_from _ _ (and_from _ _ (and_from _ _ (and_from _ _ (and_from _ _ (and_from _ _ (and_from _ _ is_load (ap is_none unread)) (ap is_none stands)) back)
      (all_ready set c f (suc c) d older r (execution set r).second over (omega arith) e late)) (clear older over))
      (lt-ltb _ _ (omega (arith, limits.issue, no_issues older over)))) (left_over Ports start older over ports)
    where
      clear : (rows : List Row) → AllOver set c f rows
          → every (λ before o. not (live o && stores set o) || (is_before (suc c) (written set o) && (not (same_block (execution set o).memory (execution set r).memory) || done_before set (suc c) before o))) rows ≡ true
      clear [] v = refl
      clear (o ∷ rows) v = and_from _ _ (or_left (not (live o && stores set o)) _ (ap not (and_left (live o) (stores set o) (not_live set c f o v.0)))) (clear rows v.1)
