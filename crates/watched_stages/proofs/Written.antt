-- The rows of the unit that complete at a cycle are the write-backs and returns of the table behind the commits of that cycle.
use Rattle.std.proofs.Common.{◌≡◌, ℕ, suc, ◌<◌, ◌≤◌, Bool, true, false, cond, List, [], ◌∷◌, ◌++◌, Option, Some, None, refl, sym, ap, ◌∙◌, subst, arith, length, append-nil}
use Rattle.std.specs.Prelude.{◌&&◌, ◌||◌, ◌==◌, not, nat_lt, is_none, is_some, option_map}
use Rattle.std.specs.List.{AllZip, list_any}
use Rattle.std.proofs.lemmas.Bool.{cond_both, and_parts, and_from, ltb-true, lt-ltb, eqb-true, eq-eqb}
use Rattle.mem_hier.specs.Replay.{Reference}
use Rattle.ruu_core.specs.Window as unit
use Rattle.ruu_core.specs.Window.{completes}
use Rattle.ooo_table.specs.declared.event.Mark.TheVariants as mark
use Rattle.ooo_table.specs.declared.event.Event.{Event}
use Rattle.ooo_table.specs.Row.{Row, MemoryAccess, is_at, is_before, returned}
use Rattle.ooo_table.specs.Execution.{MemoryUse, NoMemory, LoadFrom, StoreTo, is_load, is_store}
use Rattle.ooo_table.specs.Table.{Setting}
use Rattle.ooo_table.specs.Path.{execution, loads, stores}
use Rattle.ooo_table.specs.Done.{live, written, finished, have_produced, done_before}
use Rattle.ooo_table.specs.Commit.{commit_row, commits}
use Rattle.ooo_table.specs.Recovery.{recovers}
use Rattle.ooo_table.specs.Issue.{issue_row, issues, accesses, access_of}
use Rattle.ooo_table.specs.Dispatch.{dispatches}
use Rattle.ooo_table.specs.Cycle.{table, after_commit}
use Rattle.ooo_table.specs.Ends.{happened}
use Rattle.ooo_table.specs.Events.{event_at}
use Rattle.ooo_table.specs.Later.{Each, Where}
use Rattle.ooo_table.specs.Legal.{CommitAllowed, Before}
use Rattle.ooo_table.specs.CycleLaws.{Comes, RowFacts}
use Rattle.ooo_table.specs.Machine.{Given, setting_of}
use Rattle.ooo_table.proofs.RowFacts.{sweep_keeps, changed_commit}
use Rattle.ooo_table.proofs.Order.{Changed}
use Rattle.ooo_table.proofs.Kept.{Kept, kept_table}
use Rattle.ooo_table.proofs.Quiet.{Own, own_commit, both_table, each_turn}
use Rattle.ooo_table.proofs.CycleFacts.{facts_one, comes_one}
use Rattle.core_parts.specs.Rows.{pick, Lives}
use Rattle.core_watch.specs.StageItems.{written_events}
use Rattle.watched_stages.specs.Watched.{completion_mark, completion_event, completions_above}

pub off_unless : (b : Bool) → (b ≡ true → ⊥) → b ≡ false
off_unless true h = absurd (h refl)
off_unless false h = refl

pub both : {b : Bool} → b ≡ true → b ≡ false → ⊥
both e f = cc

and_true : (b : Bool) → (b && true) ≡ b
and_true true = refl
and_true false = refl

-- ---- marks

same_at : (c : ℕ) (m : Option ℕ) → unit.is_at c m ≡ is_at c m
same_at c None = refl
same_at c (Some t) = refl

at_not_below : (x c : ℕ) (m : Option ℕ) → x ≤ c → is_at c m ≡ true → is_before x m ≡ true → ⊥
at_not_below x c None le h k = absurd cc
at_not_below x c (Some t) le h k = let e : t ≡ c = eqb-true t c h in omega (arith, e, ltb-true t x k)

-- a mark of the cycle has happened in it where the row wasn't squashed before
happened_at : (c : ℕ) (r : Row) (m : Option ℕ) → is_at c (happened (suc c) r m) ≡ (is_at c m && not (is_before c r.squashed))
happened_at c r None = refl
happened_at c r (Some w) = by_test (w == c) refl
  where
    here : (x : Bool) → is_at c (cond (nat_lt c (suc c) && x) (Some c) None) ≡ (true && x)
    here x = ap (λ b. is_at c (cond (b && x) (Some c) None)) (lt-ltb c (suc c) (omega arith)) ∙ by_squash x
      where
        by_squash : (x : Bool) → is_at c (cond x (Some c) None) ≡ x
        by_squash true = eq-eqb c c refl
        by_squash false = refl

    elsewhere : (b : Bool) → (w == c) ≡ false → is_at c (cond b (Some w) None) ≡ false
    elsewhere true e = e
    elsewhere false e = refl

    by_test : (b : Bool) → (w == c) ≡ b → is_at c (cond (nat_lt w (suc c) && not (is_before w r.squashed)) (Some w) None) ≡ (b && not (is_before c r.squashed))
    by_test true e =
        let same : w ≡ c = eqb-true w c e in
        subst (λ k. is_at c (cond (nat_lt k (suc c) && not (is_before k r.squashed)) (Some k) None) ≡ (true && not (is_before c r.squashed))) (sym same) (here (not (is_before c r.squashed)))
    by_test false e = elsewhere (nat_lt w (suc c) && not (is_before w r.squashed)) e

-- ---- rows with an access are loads

apart : (m : MemoryUse) → is_load m ≡ true → is_store m ≡ false
apart NoMemory h = refl
apart (LoadFrom a) h = refl
apart (StoreTo a) h = absurd cc

module _ (set : Setting) where
  abbrev Reads : Row → Type 0
  Reads r = is_some r.access ≡ true → loads set r ≡ true

  reads_kept : (c : ℕ) → Kept set c (λ _. Reads)
  reads_kept c =
      record {
        at_commit = λ older before r zip below f. cond_both (commits set c before r) (record r { committed = Some c }) r Reads (λ _. f) (λ _. f);
        at_squash = λ older before r zip below f. cond_both (list_any (recovers set c) before && is_none r.squashed) (record r { squashed = Some c }) r Reads (λ _. f) (λ _. f);
        at_issue = λ base start older before r zip below f. by_issue base start before r f;
        at_dispatch = λ older before r zip below f. cond_both (dispatches set c before r) (record r { dispatched = Some c }) r Reads (λ _. f) (λ _. f);
        at_fetch = λ older u look queued below. λ h. absurd cc;
        still = λ older before r zip below f. f;
      }
    where
      loaded : (start before : List Row) (r : Row) → accesses set c start before r ≡ true → loads set r ≡ true
      loaded start before r e = grind (arith, and_parts)

      by_issue : (base : List Reference) (start before : List Row) (r : Row) → Reads r → Reads (issue_row set c base start before r)
      by_issue base start before r f =
          cond_both (issues set c start before r) (record r { issued = Some c }) _ Reads (λ _. f)
          (λ _. cond_both (accesses set c start before r) (record r { access = Some (access_of set c base before r) }) r Reads (λ e _. loaded start before r e) (λ _. f))

  reads_one : (c : ℕ) → Each (λ _. Reads) (after_commit set c).rows
  reads_one c =
      (sweep_keeps (λ _. Reads) (Changed c) (commit_row set c) (changed_commit set c) (reads_kept c).at_commit (table set c).rows
      (kept_table set (λ _ _. Reads) reads_kept (λ c older r f. f) c)).1

  pub own_one : (c : ℕ) → Each (λ _. Own c) (after_commit set c).rows
  own_one c = each_turn (Own c) (Own c) (commit_row set c) (own_commit set c c) (table set c).rows (both_table set c).0

-- ---- a row behind the commits

module _ (set : Setting) (c : ℕ) where
  -- what a row has done that completes at c
  record Completing (older : List Row) (r : Row) : Type 0 where
    pub facts : RowFacts set c older r
    pub comes : Comes set r
    pub own : Own c r
    pub reads : Reads set r

  -- it doesn't write back and return in one cycle
  never_both : (older : List Row) (r : Row) → Completing older r → is_at c (written set r) ≡ true → is_at c (returned r) ≡ true → ⊥
  never_both older r h w m = by_access r.access h.own.access h.comes.written m
    where
      by_access : (x : Option MemoryAccess) → Where x (λ a. a.at < c) → Where x (λ a. is_before (suc a.at) (written set r) ≡ true) → is_at c (option_map (λ a. a.back) x) ≡ true → ⊥
      by_access None f k e = absurd cc
      by_access (Some a) f k e = at_not_below (suc a.at) c (written set r) (omega (arith, f)) w k

  -- it is live, where it was dispatched, isn't squashed before c and can't have committed
  lives : (older : List Row) (r : Row) → Completing older r → is_some r.issued ≡ true → not (is_before c r.squashed) ≡ true → ((x : ℕ) → x ≤ c → done_before set x older r ≡ true → ⊥) → live r ≡ true
  lives older r h issued stays late =
      and_from _ _ (and_from _ _ (h.facts.came issued) (uncommitted r.committed h.facts.order h.facts.committed_by)) (unsquashed r.squashed h.own.squashed stays)
    where
      uncommitted : (m : Option ℕ) → Where m (CommitAllowed set older r) → Where m (λ x. x ≤ c) → is_none m ≡ true
      uncommitted None w le = refl
      uncommitted (Some x) w le = absurd (late x le w.done)

      unsquashed : (m : Option ℕ) → Where m (λ x. (x < c) × Before x r) → not (is_before c m) ≡ true → is_none m ≡ true
      unsquashed None w e = refl
      unsquashed (Some x) w e = absurd (both e (ap not (lt-ltb x c w.0)))

  some_issued : (r : Row) (m : Option ℕ) → is_at c (written set (record r { issued = m })) ≡ true → is_some m ≡ true
  some_issued r None h = absurd cc
  some_issued r (Some x) h = refl

  -- one that writes back at c
  late_write : (older : List Row) (r : Row) → Completing older r → is_at c (written set r) ≡ true → (x : ℕ) → x ≤ c → done_before set x older r ≡ true → ⊥
  late_write older r h w x le k = by_store (stores set r) k
    where
      by_access : (m : Option MemoryAccess) → Where m (λ a. a.at ≤ a.back) → Where m (λ a. is_before (suc a.at) (written set r) ≡ true) → is_before x (option_map (λ a. a.back) m) ≡ true → ⊥
      by_access None b v e = absurd cc
      by_access (Some a) b v e = let lt : a.back < x = ltb-true a.back x e in at_not_below (suc a.at) c (written set r) (omega (arith, b, lt, le)) w v

      by_load : (l : Bool) → is_before x (cond l (returned r) (written set r)) ≡ true → ⊥
      by_load true e = by_access r.access h.comes.back h.comes.written e
      by_load false e = at_not_below x c (written set r) le w e

      by_store : (b : Bool) → cond b (is_before x (written set r) && have_produced set x older r (execution set r).second) (is_before x (finished set r)) ≡ true → ⊥
      by_store true e = at_not_below x c (written set r) le w (and_parts (is_before x (written set r)) (have_produced set x older r (execution set r).second) e).0
      by_store false e = by_load (loads set r) e

  -- and one that returns there
  late_return : (older : List Row) (r : Row) → Completing older r → is_at c (returned r) ≡ true → (x : ℕ) → x ≤ c → done_before set x older r ≡ true → ⊥
  late_return older r h m x le k = at_not_below x c (returned r) le m back
    where
      some_access : (a : Option MemoryAccess) → is_at c (option_map (λ a. a.back) a) ≡ true → is_some a ≡ true
      some_access None e = absurd cc
      some_access (Some a) e = refl

      is_read : loads set r ≡ true
      is_read = h.reads (some_access r.access m)

      back : is_before x (returned r) ≡ true
      back =
          ap (λ b. is_before x (cond b (returned r) (written set r))) (sym is_read)
          ∙ (ap (λ b. cond b (is_before x (written set r) && have_produced set x older r (execution set r).second) (is_before x (finished set r))) (sym (apart (execution set r).memory is_read)) ∙ k)

  -- what has happened at c shows that the row is live
  written_live : (older : List Row) (r : Row) → Completing older r → is_at c (happened (suc c) r (written set r)) ≡ true → live r ≡ true
  written_live older r h e =
      let parts = and_parts (is_at c (written set r)) (not (is_before c r.squashed)) (sym (happened_at c r (written set r)) ∙ e) in
      lives older r h (some_issued r r.issued parts.0) parts.1 (late_write older r h parts.0)

  returned_live : (older : List Row) (r : Row) → Completing older r → is_at c (happened (suc c) r (returned r)) ≡ true → live r ≡ true
  returned_live older r h e =
      let parts = and_parts (is_at c (returned r)) (not (is_before c r.squashed)) (sym (happened_at c r (returned r)) ∙ e) in
      lives older r h (h.facts.reached (some_access r.access parts.0)) parts.1 (late_return older r h parts.0)
    where
      some_access : (a : Option MemoryAccess) → is_at c (option_map (λ a. a.back) a) ≡ true → is_some a ≡ true
      some_access None e = absurd cc
      some_access (Some a) e = refl

  -- of a live row every mark of the cycle has happened
  live_at : (r : Row) (m : Option ℕ) → live r ≡ true → is_at c (happened (suc c) r m) ≡ is_at c m
  live_at r m e = happened_at c r m ∙ (ap (λ q. is_at c m && not (is_before c q)) (none_of r.squashed (and_parts (is_some r.dispatched && is_none r.committed) (is_none r.squashed) e).1) ∙ and_true (is_at c m))
    where
      none_of : (q : Option ℕ) → is_none q ≡ true → q ≡ None
      none_of None h = refl
      none_of (Some x) h = absurd cc

  rows_one : Each Completing (after_commit set c).rows
  rows_one = all (after_commit set c).rows (facts_one set c) (comes_one set c) (own_one set c) (reads_one set c)
    where
      all : (rows : List Row) → Each (RowFacts set c) rows → Each (λ _. Comes set) rows → Each (λ _. Own c) rows → Each (λ _. Reads set) rows → Each Completing rows
      all [] f k o l = tt
      all (r ∷ rows) f k o l = (record { facts = f.0; comes = k.0; own = o.0; reads = l.0 }, all rows f.1 k.1 o.1 l.1)

-- ---- all rows

one_of_two : (c n : ℕ) (a b : Bool) → (a ≡ true → b ≡ true → ⊥)
    → cond {A = List Event} (a || b) (record { cycle = c; row = n; mark = cond a mark.Written mark.Returned } ∷ []) []
    ≡ cond {A = List Event} a (record { cycle = c; row = n; mark = mark.Written } ∷ []) [] ++ cond {A = List Event} b (record { cycle = c; row = n; mark = mark.Returned } ∷ []) []
one_of_two c n true true two = absurd (two refl refl)
one_of_two c n true false two = refl
one_of_two c n false true two = refl
one_of_two c n false false two = refl

module _ (g : Given) (c : ℕ) where
  abbrev shown_of : ℕ → Row → List Event
  shown_of n r = event_at c (happened (suc c) r (written (setting_of g) r)) mark.Written n ++ event_at c (happened (suc c) r (returned r)) mark.Returned n

  event_same : (u : unit.Row) (before : List unit.Row) (r : Row) (older : List Row) → Completing (setting_of g) c older r → live r ≡ true → Lives g u (record { row = r; older = older })
      → cond (completes c before u) (completion_event c u ∷ []) [] ≡ shown_of (length older) r
  event_same u before r older h at l =
      ap (λ n. cond {A = List Event} (unit.is_at c u.written || unit.is_at c u.returned) (record { cycle = c; row = n; mark = completion_mark c u.written } ∷ []) []) l.row
      ∙ (ap (λ w. cond {A = List Event} (unit.is_at c w || unit.is_at c u.returned) (record { cycle = c; row = n; mark = completion_mark c w } ∷ []) []) (sym l.written)
      ∙ (ap (λ m. cond {A = List Event} (unit.is_at c w || unit.is_at c m) (record { cycle = c; row = n; mark = completion_mark c w } ∷ []) []) (sym l.returned)
      ∙ (one_of_two c n (unit.is_at c w) (unit.is_at c m) (λ e f. never_both (setting_of g) c older r h (sym (same_at c w) ∙ e) (sym (same_at c m) ∙ f))
      ∙ (ap (λ b. cond {A = List Event} b (record { cycle = c; row = n; mark = mark.Written } ∷ []) [] ++ cond {A = List Event} (unit.is_at c m) (record { cycle = c; row = n; mark = mark.Returned } ∷ []) []) (same_at c w ∙ sym (live_at (setting_of g) c r w at))
      ∙ ap (λ b. event_at c (happened (suc c) r w) mark.Written n ++ cond {A = List Event} b (record { cycle = c; row = n; mark = mark.Returned } ∷ []) []) (same_at c m ∙ sym (live_at (setting_of g) c r m at))))))
    where
      n : ℕ
      n = length older

      w : Option ℕ
      w = written (setting_of g) r

      m : Option ℕ
      m = returned r

  none_same : (r : Row) (older : List Row) → Completing (setting_of g) c older r → live r ≡ false → shown_of (length older) r ≡ []
  none_same r older h at =
      ap (λ b. cond {A = List Event} b (record { cycle = c; row = length older; mark = mark.Written } ∷ []) [] ++ event_at c (happened (suc c) r (returned r)) mark.Returned (length older))
      (off_unless (is_at c (happened (suc c) r (written (setting_of g) r))) (λ e. both (written_live (setting_of g) c older r h e) at))
      ∙ ap (λ b. cond {A = List Event} b (record { cycle = c; row = length older; mark = mark.Returned } ∷ []) [])
      (off_unless (is_at c (happened (suc c) r (returned r))) (λ e. both (returned_live (setting_of g) c older r h e) at))

  completions_same : (rows : List Row) (us : List unit.Row) → Each (Completing (setting_of g) c) rows → AllZip (Lives g) us (pick live rows)
      → completions_above c None us ≡ written_events g c rows
  completions_same [] [] h z = refl
  completions_same [] (u ∷ us) h z = absurd z
  completions_same (r ∷ older) us h z = by_live (live r) refl us z (λ vs. completions_same older vs h.1)
    where
      by_live : (b : Bool) → live r ≡ b → (us : List unit.Row) → AllZip (Lives g) us (cond b (record { row = r; older = older } ∷ pick live older) (pick live older))
          → ((vs : List unit.Row) → AllZip (Lives g) vs (pick live older) → completions_above c None vs ≡ written_events g c older)
          → completions_above c None us ≡ written_events g c older ++ shown_of (length older) r
      by_live true e [] z ih = absurd z
      by_live true e (u ∷ us) z ih =
          ap (λ es. es ++ cond (completes c us u) (completion_event c u ∷ []) []) (ih us z.1)
          ∙ ap (λ es. written_events g c older ++ es) (event_same u us r older h.0 e z.0)
      by_live false e us z ih =
          ih us z ∙ (sym (append-nil (written_events g c older)) ∙ ap (λ es. written_events g c older ++ es) (sym (none_same r older h.0 e)))

  pub completions_written : (us : List unit.Row) → AllZip (Lives g) us (pick live (after_commit (setting_of g) c).rows)
      → completions_above c None us ≡ written_events g c (after_commit (setting_of g) c).rows
  completions_written us z = completions_same (after_commit (setting_of g) c).rows us (rows_one (setting_of g) c) z
