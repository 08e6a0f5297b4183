-- The oldest right row in flight, from phase to phase: by its deadline it has committed or the machine has stopped.
use Rattle.std.proofs.Common.{◌≡◌, ℕ, zero, suc, ◌+◌, ◌<◌, ◌≤◌, Bool, true, false, cond, List, [], ◌∷◌, ◌++◌, Option, Some, None, refl, sym, ap, ◌∙◌, subst, arith, inl, inr, append_assoc}
use Rattle.std.specs.Prelude.{◌&&◌, ◌||◌, not, nat_lt, nat_le, is_none, is_some, option_map, ◌⊎◌, count_by}
use Rattle.std.specs.List.{list_any}
use Rattle.std.proofs.lemmas.Bool.{cond_both, and_parts, and_right, and_left, and_from, or_right, or_left, ltb-true, eq-eqb, le-ltb, lt-ltb, cond-false, cond-true, false_from_ne_true, cases_lt, or_parts}
use Rattle.std.proofs.lemmas.List.Sums.{sum_by-cons}
use Rattle.pisa_isa.specs.declared.classes.UnitClass.{UnitClass}
use Rattle.pisa_isa.specs.declared.classes.UnitClass.TheVariants.{Free, Alu, Multiply, Divide}
use Rattle.mem_hier.specs.Replay.{Reference, Load}
use Rattle.ooo_table.specs.Row.{Row, is_at, is_before, every, sweep, MemoryAccess, accessed, returned}
use Rattle.ooo_table.specs.Execution.{MemoryUse, NoMemory, LoadFrom, StoreTo, unit_latency, unit_hold, address, is_load, is_store, Alus, Multipliers, Ports, is_of}
use Rattle.ooo_table.specs.Table.{Setting, Table}
use Rattle.ooo_table.specs.Path.{execution, loads, stores}
use Rattle.ooo_table.specs.Done.{written, finished, waiting, live, done_before, have_produced}
use Rattle.ooo_table.specs.Commit.{commit, commit_row, commits}
use Rattle.ooo_table.specs.Recovery.{recover, squash_row, recovers}
use Rattle.ooo_table.specs.References.{load_references, store_references}
use Rattle.ooo_table.specs.Issue.{issue, issue_row, may_issue, issues, accesses, access_of, is_forwarded, holds, takes, spans, has_unit, has_unit_for, has_width}
use Rattle.ooo_table.specs.Dispatch.{dispatch, dispatch_row, dispatches, stops_machine}
use Rattle.ooo_table.specs.Fetch.{fetch_up_to, fetch_one, may_fetch}
use Rattle.ooo_table.specs.Cycle.{table, cycle}
use Rattle.ooo_table.specs.Ends.{stops_in, commits_in, exited}
use Rattle.ooo_table.specs.Later.{Each, Where}
use Rattle.ooo_table.specs.Bound.{Bounded, Rises}
use Rattle.ooo_table.specs.CycleLaws.{Focus}
use Rattle.ooo_table.proofs.Over.{Over, AllOver, count_none, each_map, commit_same, issue_same, dispatch_same, swept_same, swept_over, all_ready, all_from, any_from, not_waiting}
use Rattle.ooo_table.proofs.Cases.{commits_now, dispatches_now, issues_now, accesses_now, left_over, none_live}
use Rattle.ooo_table.proofs.Units.{unit_left}
use Rattle.ooo_table.proofs.Times.{Times, Reads, times_table}
use Rattle.ooo_table.proofs.Rising.{rises_stores, rises_loads, rises_table}
use Rattle.ooo_table.proofs.Route.{Route, Ahead, any_same, right_stands, stage_keeps, route_table}
use Rattle.ooo_table.proofs.RowFacts.{changed_commit}
use Rattle.ooo_table.proofs.Marks.{fetch_adds}

pub sweep_split : (f : List Row → Row → Row) (younger rest : List Row) → (new : List Row) × (sweep f (younger ++ rest) ≡ new ++ sweep f rest)
sweep_split f [] rest = ([], refl)
sweep_split f (y ∷ younger) rest =
    let ih : (new : List Row) × (sweep f (younger ++ rest) ≡ new ++ sweep f rest) = sweep_split f younger rest in
    (f (sweep f (younger ++ rest)) y ∷ ih.0, ap (λ l. f (sweep f (younger ++ rest)) y ∷ l) ih.1)

focus_sweep : (P Q : List Row → Row → Type 0) (f : List Row → Row → Row) (rows : List Row) → Focus P rows
    → ((older : List Row) (r : Row) → P older r → Q (sweep f older) (f (sweep f older) r)) → Focus Q (sweep f rows)
focus_sweep P Q f rows (younger, older, r, e, p) turn =
    let new : (new : List Row) × (sweep f (younger ++ (r ∷ older)) ≡ new ++ sweep f (r ∷ older)) = sweep_split f younger (r ∷ older) in
    (new.0, sweep f older, f (sweep f older) r, ap (sweep f) e ∙ new.1, turn older r p)

pub focus_more : (P : List Row → Row → Type 0) (x : Row) (rows : List Row) → Focus P rows → Focus P (x ∷ rows)
focus_more P x rows (younger, older, r, e, p) = (x ∷ younger, older, r, ap (λ l. x ∷ l) e, p)

focus_map : (P Q : List Row → Row → Type 0) (rows : List Row) → ((older : List Row) (r : Row) → P older r → Q older r) → Focus P rows → Focus Q rows
focus_map P Q rows f (younger, older, r, e, p) = (younger, older, r, e, f older r p)

pub each_split : (P : List Row → Row → Type 0) (younger older : List Row) (r : Row) → Each P (younger ++ (r ∷ older)) → P older r × Each P older
each_split P [] older r h = h
each_split P (y ∷ younger) older r h = each_split P younger older r h.1

pub focus_every : (p : List Row → Row → Bool) (P : List Row → Row → Type 0) (rows : List Row) → Focus P rows → ((older : List Row) (r : Row) → P older r → p older r ≡ false) → every p rows ≡ false
focus_every p P rows (younger, older, r, e, h) never = ap (every p) e ∙ deep younger
  where
    deep : (younger : List Row) → every p (younger ++ (r ∷ older)) ≡ false
    deep [] = and_left (p older r) (every p older) (never older r h)
    deep (y ∷ younger) = and_right (p (younger ++ (r ∷ older)) y) (every p (younger ++ (r ∷ older))) (deep younger)

focus_any : (p : Row → Bool) (P : List Row → Row → Type 0) (rows : List Row) → Focus P rows → ((older : List Row) (r : Row) → P older r → p r ≡ true) → list_any p rows ≡ true
focus_any p P rows (younger, older, r, e, h) yes' = ap (list_any p) e ∙ deep younger
  where
    deep : (younger : List Row) → list_any p (younger ++ (r ∷ older)) ≡ true
    deep [] = or_left (p r) (list_any p older) (yes' older r h)
    deep (y ∷ younger) = or_right (p y) (list_any p (younger ++ (r ∷ older))) (deep younger)

both' : {b : Bool} → b ≡ true → b ≡ false → ⊥
both' e g = cc

module _ (set : Setting) (I M : ℕ) (limits : Bounded set I M) where
  -- every multiplier is free from E on
  abbrev pub Ends : ℕ → List Row → Type 0
  Ends E rows = Each (λ _ o. Where o.issued (λ i. is_of Multipliers (execution set o).unit ≡ true → i + unit_hold (execution set o).unit ≤ E)) rows

  -- the phase of the row in cycle c, each with the time that is left until T
  pub data Phase (T c : ℕ) (all : List Row) (r : Row) : Type 0 where
    queued : r.dispatched ≡ None → r.issued ≡ None → r.access ≡ None → c + M + 42 ≤ T → r.fetched.queued + M + 43 ≤ T → Phase T c all r
    waits : (d E : ℕ) → r.dispatched ≡ Some d → r.fetched.at < d → d < c → r.issued ≡ None → r.access ≡ None → Ends E all → c + M + 23 ≤ T → E + M + 23 ≤ T → Phase T c all r
    runs : (d i : ℕ) → r.dispatched ≡ Some d → r.fetched.at < d → r.issued ≡ Some i → loads set r ≡ false → c + 1 ≤ T → i + unit_latency (execution set r).unit + 2 ≤ T → Phase T c all r
    addressed : (d i : ℕ) → r.dispatched ≡ Some d → r.fetched.at < d → r.issued ≡ Some i → loads set r ≡ true → r.access ≡ None → c + M + 3 ≤ T → i + unit_latency (execution set r).unit + M + 3 ≤ T → Phase T c all r
    reads : (d : ℕ) (a : MemoryAccess) → r.dispatched ≡ Some d → r.fetched.at < d → is_some r.issued ≡ true → loads set r ≡ true → r.access ≡ Some a → c + 1 ≤ T → a.back + 2 ≤ T → Phase T c all r

  -- what the issue and the dispatch stage do to one row
  abbrev pub turns : ℕ → List Reference → List Row → List Row → Row → Row
  turns c base start older r = dispatch_row set c older (issue_row set c base start older r)

  issue_none : (c : ℕ) (base : List Reference) (start older : List Row) (r : Row) → issues set c start older r ≡ false → accesses set c start older r ≡ false → issue_row set c base start older r ≡ r
  issue_none c base start older r e f = cond-false (issues set c start older r) (record r { issued = Some c }) _ e ∙ cond-false (accesses set c start older r) (record r { access = Some (access_of set c base older r) }) r f

  not_dispatched_again : (c d : ℕ) (older : List Row) (s : Row) → s.dispatched ≡ Some d → dispatch_row set c older s ≡ s
  not_dispatched_again c d older s e = cond-false (dispatches set c older s) (record s { dispatched = Some c }) s (false_from_ne_true _ (λ h. both' (unset h) (ap is_none e)))
    where
      unset : dispatches set c older s ≡ true → is_none s.dispatched ≡ true
      unset h = grind (arith, and_parts)

  undispatched_issue : (c : ℕ) (base : List Reference) (start older : List Row) (r : Row) → r.dispatched ≡ None → r.issued ≡ None → issue_row set c base start older r ≡ r
  undispatched_issue c base start older r un ui = issue_none c base start older r (false_from_ne_true _ early) (false_from_ne_true _ unread)
    where
      early : issues set c start older r ≡ true → ⊥
      early h = let k : is_before c r.dispatched ≡ true = grind (arith, and_parts) in both' k (ap (is_before c) un)

      unread : accesses set c start older r ≡ true → ⊥
      unread h = let k : is_before (suc c) (written set r) ≡ true = grind (arith, and_parts) in both' k (ap (λ m. is_before (suc c) (option_map (λ i. i + unit_latency (execution set r).unit) m)) ui)

  -- the first waiting row, once its words are there, is dispatched or stops the machine
  queued_turn : (c f : ℕ) (base : List Reference) (start older : List Row) (r : Row) → AllOver set c f older → r.fetched.right ≡ true → r.squashed ≡ None → r.dispatched ≡ None → r.issued ≡ None → r.access ≡ None
      → r.fetched.queued < c → (execution set r).stops ≡ false → Each (λ _ o. (is_some o.committed && (o.fetched.right && (execution set o).exit)) ≡ false) older
      → turns c base start older r ≡ record r { dispatched = Some c }
  queued_turn c f base start older r over right stands un ui ua q goes running =
      ap (dispatch_row set c older) (issue_none c base start older r (false_from_ne_true _ early) (false_from_ne_true _ unread))
      ∙ cond-true (dispatches set c older r) (record r { dispatched = Some c }) r
      (dispatches_now set I M c f limits older r over right (and_from _ _ (ap is_none un) (ap is_none stands)) q goes running)
    where
      early : issues set c start older r ≡ true → ⊥
      early h = let k : is_before c r.dispatched ≡ true = grind (arith, and_parts) in both' k (ap (is_before c) un)

      unread : accesses set c start older r ≡ true → ⊥
      unread h = let k : is_before (suc c) (written set r) ≡ true = grind (arith, and_parts) in both' k (ap (λ m. is_before (suc c) (option_map (λ i. i + unit_latency (execution set r).unit) m)) ui)

  -- where its words aren't there yet it is left as it is
  unqueued_turn : (c : ℕ) (base : List Reference) (start older : List Row) (r : Row) → r.dispatched ≡ None → r.issued ≡ None → c ≤ r.fetched.queued → turns c base start older r ≡ r
  unqueued_turn c base start older r un ui q =
      ap (dispatch_row set c older) (issue_none c base start older r (false_from_ne_true _ early) (false_from_ne_true _ unread))
      ∙ cond-false (dispatches set c older r) (record r { dispatched = Some c }) r (false_from_ne_true _ late)
    where
      early : issues set c start older r ≡ true → ⊥
      early h = let k : is_before c r.dispatched ≡ true = grind (arith, and_parts) in both' k (ap (is_before c) un)

      unread : accesses set c start older r ≡ true → ⊥
      unread h = let k : is_before (suc c) (written set r) ≡ true = grind (arith, and_parts) in both' k (ap (λ m. is_before (suc c) (option_map (λ i. i + unit_latency (execution set r).unit) m)) ui)

      late : dispatches set c older r ≡ true → ⊥
      late h = let k : nat_lt r.fetched.queued c ≡ true = grind (arith, and_parts) in let lt : r.fetched.queued < c = ltb-true _ _ k in omega arith

  -- a dispatched row issues where its pool has a unit for it
  issue_turn : (c f d : ℕ) (base : List Reference) (start older : List Row) (r : Row) → AllOver set c f older → r.fetched.right ≡ true → r.dispatched ≡ Some d → d < c → f < d → r.issued ≡ None → r.squashed ≡ None
      → has_unit_for set c start older (execution set r).unit ≡ true → turns c base start older r ≡ record r { issued = Some c }
  issue_turn c f d base start older r over right e before late ui stands unit =
      ap (dispatch_row set c older) (cond-true (issues set c start older r) (record r { issued = Some c }) _ (issues_now set I M c f limits d start older r over right e before late ui stands unit))
      ∙ not_dispatched_again c d older (record r { issued = Some c }) e

  -- the access of a load issues once its row was written back
  access_turn : (c f d i : ℕ) (base : List Reference) (start older : List Row) (r : Row) → AllOver set c f older → r.dispatched ≡ Some d → f < d → loads set r ≡ true → r.issued ≡ Some i → r.access ≡ None → r.squashed ≡ None
      → i + unit_latency (execution set r).unit ≤ c → count_by (holds set Ports c) start < set.config.ports → turns c base start older r ≡ record r { access = Some (access_of set c base older r) }
  access_turn c f d i base start older r over e late is_l ei ua stands back ports =
      ap (dispatch_row set c older)
      (cond-false (issues set c start older r) (record r { issued = Some c }) _ (false_from_ne_true _ again)
      ∙ cond-true (accesses set c start older r) (record r { access = Some (access_of set c base older r) }) r (accesses_now set I M c f limits d start older r over e late is_l ua stands written_back ports))
      ∙ not_dispatched_again c d older (record r { access = Some (access_of set c base older r) }) e
    where
      written_back : is_before (suc c) (written set r) ≡ true
      written_back = ap (λ m. is_before (suc c) (option_map (λ i. i + unit_latency (execution set r).unit) m)) ei ∙ lt-ltb _ (suc c) (omega arith)

      again : issues set c start older r ≡ true → ⊥
      again h = let k : is_none r.issued ≡ true = grind (arith, and_parts) in both' k (ap is_none ei)

  span_past : (c : ℕ) (m : Option ℕ) → Where m (λ i. i < c) → spans c 1 m ≡ false
  span_past c None w = refl
  span_past c (Some i) w = and_right (nat_le i c) (nat_lt c (i + 1)) (le-ltb c (i + 1) (omega arith))

  -- the issues before this cycle hold no ALU
  no_alu : (c : ℕ) (o : Row) → Where o.issued (λ i. i < c) → holds set Alus c o ≡ false
  no_alu c o w = by_unit (execution set o).unit
    where
      by_unit : (u : UnitClass) → (is_of Alus u && spans c (unit_hold u) o.issued) ≡ false
      by_unit Free = refl
      by_unit Alu = span_past c o.issued w
      by_unit Multiply = refl
      by_unit Divide = refl

  -- in a cycle without commits no port is held as issue begins
  no_port : (c : ℕ) (o : Row) → Where o.access (λ a. a.at < c) → is_at c o.committed ≡ false → holds set Ports c o ≡ false
  no_port c o w e = by_load (loads set o) (stores set o)
    where
      past : (m : Option MemoryAccess) → Where m (λ a. a.at < c) → spans c 1 (option_map (λ a. a.at) m) ≡ false
      past None w = refl
      past (Some a) w = and_right (nat_le a.at c) (nat_lt c (a.at + 1)) (le-ltb c (a.at + 1) (omega arith))

      by_load : (b d : Bool) → ((b && spans c 1 (accessed o)) || (d && is_at c o.committed)) ≡ false
      by_load b d = rw (and_right b (spans c 1 (accessed o)) (past o.access w), and_right d (is_at c o.committed) e) refl

  -- what is held at c is held until a later cycle
  some_holder : (c E : ℕ) (rows : List Row) → Ends E rows → 1 ≤ count_by (holds set Multipliers c) rows → c < E
  some_holder c E [] ends h = absurd (omega arith)
  some_holder c E (o ∷ rows) ends h = by_holds (holds set Multipliers c o) refl (some_holder c E rows ends.1)
    where
      count : count_by (holds set Multipliers c) (o ∷ rows) ≡ cond (holds set Multipliers c o) 1 0 + count_by (holds set Multipliers c) rows
      count = sum_by-cons (λ x. cond (holds set Multipliers c x) 1 0) o rows

      until : (m : Option ℕ) → Where m (λ i. is_of Multipliers (execution set o).unit ≡ true → i + unit_hold (execution set o).unit ≤ E) → is_of Multipliers (execution set o).unit ≡ true
          → spans c (unit_hold (execution set o).unit) m ≡ true → c < E
      until None w u k = absurd cc
      until (Some i) w u k =
          let parts : (nat_le i c ≡ true) × (nat_lt c (i + unit_hold (execution set o).unit) ≡ true) = and_parts _ _ k in
          let lt : c < i + unit_hold (execution set o).unit = ltb-true _ _ parts.1 in
          omega (arith, lt, w u)

      by_holds : (b : Bool) → holds set Multipliers c o ≡ b → (1 ≤ count_by (holds set Multipliers c) rows → c < E) → c < E
      by_holds true e ih =
          let parts : (is_of Multipliers (execution set o).unit ≡ true) × (spans c (unit_hold (execution set o).unit) o.issued ≡ true) = and_parts _ _ e in
          until o.issued ends.0 parts.0 parts.1
      by_holds false e ih = ih (omega (arith, h, count, ap (λ b. cond {A = ℕ} b 1 0) e))

  -- the rows as the issue stage finds them in a cycle without commits
  pub record Begun (c : ℕ) (start : List Row) : Type 0 where
    pub issued : Each (λ _ o. Where o.issued (λ i. i < c)) start
    pub access : Each (λ _ o. Where o.access (λ a. a.at < c)) start
    pub committed : Each (λ _ o. is_at c o.committed ≡ false) start

  alus_left : (c : ℕ) (start : List Row) → Begun c start → count_by (holds set Alus c) start ≡ 0
  alus_left c start b = count_none (holds set Alus c) start (each_map _ _ (λ o w. no_alu c o w) start b.issued)

  ports_left : (c : ℕ) (start : List Row) → Begun c start → count_by (holds set Ports c) start ≡ 0
  ports_left c start b = count_none (holds set Ports c) start (both start b.access b.committed)
    where
      both : (rows : List Row) → Each (λ _ o. Where o.access (λ a. a.at < c)) rows → Each (λ _ o. is_at c o.committed ≡ false) rows → Each (λ _ o. holds set Ports c o ≡ false) rows
      both [] w e = tt
      both (o ∷ rows) w e = (no_port c o w.0 e.0, both rows w.1 e.1)

  -- the oldest row finds its unit, unless it wants a multiplier and all are held
  unit_there : (c f : ℕ) (start older : List Row) (u : UnitClass) → AllOver set c f older → Begun c start
      → (has_unit_for set c start older u ≡ true) ⊎ ((is_of Multipliers u ≡ true) × (set.config.mults ≤ count_by (holds set Multipliers c) start))
  unit_there c f start older Free over b = inl refl
  unit_there c f start older Alu over b = inl (left_over set I M c f limits Alus start older over (omega (arith, alus_left c start b, limits.alus)))
  unit_there c f start older Multiply over b = by_room (cases_lt (count_by (holds set Multipliers c) start) set.config.mults)
    where
      by_room : (count_by (holds set Multipliers c) start < set.config.mults) ⊎ (set.config.mults ≤ count_by (holds set Multipliers c) start)
          → (has_unit set c start older Multipliers ≡ true) ⊎ ((true ≡ true) × (set.config.mults ≤ count_by (holds set Multipliers c) start))
      by_room (inl h) = inl (left_over set I M c f limits Multipliers start older over h)
      by_room (inr h) = inr (refl, h)
  unit_there c f start older Divide over b = by_room (cases_lt (count_by (holds set Multipliers c) start) set.config.mults)
    where
      by_room : (count_by (holds set Multipliers c) start < set.config.mults) ⊎ (set.config.mults ≤ count_by (holds set Multipliers c) start)
          → (has_unit set c start older Multipliers ≡ true) ⊎ ((true ≡ true) × (set.config.mults ≤ count_by (holds set Multipliers c) start))
      by_room (inl h) = inl (left_over set I M c f limits Multipliers start older over h)
      by_room (inr h) = inr (refl, h)

  -- a row that finds no unit is left as it is
  refused_turn : (c d : ℕ) (base : List Reference) (start older : List Row) (r : Row) → r.dispatched ≡ Some d → r.issued ≡ None → is_of Multipliers (execution set r).unit ≡ true
      → set.config.mults ≤ count_by (holds set Multipliers c) start → turns c base start older r ≡ r
  refused_turn c d base start older r e ui u full =
      ap (dispatch_row set c older) (issue_none c base start older r (false_from_ne_true _ refused) (false_from_ne_true _ unread)) ∙ not_dispatched_again c d older r e
    where
      refused : issues set c start older r ≡ true → ⊥
      refused h =
          let k : has_unit_for set c start older (execution set r).unit ≡ true = grind (arith, and_parts) in
          let lt : count_by (holds set Multipliers c) start + count_by (takes set Multipliers c) older < set.config.mults = ltb-true (count_by (holds set Multipliers c) start + count_by (takes set Multipliers c) older) set.config.mults (unit_left set Multipliers c start older (execution set r).unit u k) in
          omega (arith, lt)

      unread : accesses set c start older r ≡ true → ⊥
      unread h = let k : is_before (suc c) (written set r) ≡ true = grind (arith, and_parts) in both' k (ap (λ m. is_before (suc c) (option_map (λ i. i + unit_latency (execution set r).unit) m)) ui)

  -- then no multiplier is taken, so they are free as soon as before
  ends_issue : (c E : ℕ) (base : List Reference) (start rows : List Row) → set.config.mults ≤ count_by (holds set Multipliers c) start → Ends E rows → Ends E (sweep (issue_row set c base start) rows)
  ends_issue c E base start [] full ends = tt
  ends_issue c E base start (o ∷ rows) full ends = (turn, ends_issue c E base start rows full ends.1)
    where
      before : List Row
      before = sweep (issue_row set c base start) rows

      turn : Where (issue_row set c base start before o).issued (λ i. is_of Multipliers (execution set (issue_row set c base start before o)).unit ≡ true → i + unit_hold (execution set (issue_row set c base start before o)).unit ≤ E)
      turn =
          cond_both (issues set c start before o) (record o { issued = Some c }) _ (λ s. Where s.issued (λ i. is_of Multipliers (execution set s).unit ≡ true → i + unit_hold (execution set s).unit ≤ E))
          (λ e u. let lt : count_by (holds set Multipliers c) start + count_by (takes set Multipliers c) before < set.config.mults =
          ltb-true _ _ (unit_left set Multipliers c start before (execution set o).unit u (and_parts (is_before c o.dispatched && is_none o.issued && is_none o.squashed && may_issue set c before o && have_produced set (suc c) before o (execution set o).main && has_width set c before) (has_unit_for set c start before (execution set o).unit) e).1) in
          absurd (omega (arith, lt)))
          (λ _. cond_both (accesses set c start before o) (record o { access = Some (access_of set c base before o) }) o (λ s. Where s.issued (λ i. is_of Multipliers (execution set s).unit ≡ true → i + unit_hold (execution set s).unit ≤ E))
          (λ _. ends.0) (λ _. ends.0))

  pub latency_most : (u : UnitClass) → unit_latency u ≤ 20
  latency_most Free = omega arith
  latency_most Alu = omega arith
  latency_most Multiply = omega arith
  latency_most Divide = omega arith

  back_bound : (c : ℕ) (base : List Reference) → Rises c base → (older : List Row) (r : Row) → (access_of set c base older r).back ≤ c + M
  back_bound c base rise older r =
      cond_both (is_forwarded set older r) 1 (set.latency (Load (address (execution set r).memory) c) (load_references set c older base)) (λ n. c + n ≤ c + M)
      (λ e. omega (arith, limits.some)) (λ e. omega (arith, limits.load (address (execution set r).memory) c (load_references set c older base) (rises_loads set c older base rise)))

  -- nothing but its access changes in a row that has issued
  issued_turn : (c d i : ℕ) (base : List Reference) (start older : List Row) (r : Row) → r.dispatched ≡ Some d → r.issued ≡ Some i → accesses set c start older r ≡ false → turns c base start older r ≡ r
  issued_turn c d i base start older r e ei f =
      ap (dispatch_row set c older) (issue_none c base start older r (false_from_ne_true _ again) f) ∙ not_dispatched_again c d older r e
    where
      again : issues set c start older r ≡ true → ⊥
      again h = let k : is_none r.issued ≡ true = grind (arith, and_parts) in both' k (ap is_none ei)

  phase_step : (T c : ℕ) (base : List Reference) → Rises c base → (all start next older0 older : List Row) (r : Row) → r.fetched.right ≡ true → r.squashed ≡ None → r.fetched.at ≤ r.fetched.queued
      → AllOver set c r.fetched.at older0 → AllOver set c r.fetched.at older → Begun c start → (r.dispatched ≡ None → r.issued ≡ None → r.access ≡ None → r.fetched.queued < c → (execution set r).stops ≡ false)
      → Each (λ _ o. (is_some o.committed && (o.fetched.right && (execution set o).exit)) ≡ false) older
      → done_before set c older0 r ≡ false → Ends (c + 19) next → ((E : ℕ) → Ends E all → Ends E start) → ((E : ℕ) → set.config.mults ≤ count_by (holds set Multipliers c) start → Ends E start → Ends E next)
      → Phase T c all r → Phase T (suc c) next (turns c base start older r)
  phase_step T c base rise all start next older0 older r right stands least over0 over begun goes running undone ends keeps held (queued un ui ua h k) =
      by_queue (cases_lt r.fetched.queued c)
    where
      by_queue : (r.fetched.queued < c) ⊎ (c ≤ r.fetched.queued) → Phase T (suc c) next (turns c base start older r)
      by_queue (inl q) =
          subst (Phase T (suc c) next) (sym (queued_turn c r.fetched.at base start older r over right stands un ui ua q (goes un ui ua q) running))
          (waits c (c + 19) refl (omega arith) (omega arith) ui ua ends (omega arith) (omega arith))
      by_queue (inr q) = subst (Phase T (suc c) next) (sym (unqueued_turn c base start older r un ui q)) (queued un ui ua (omega arith) k)
  phase_step T c base rise all start next older0 older r right stands least over0 over begun goes running undone ends keeps held (waits d E e late before ui ua free h k) =
      by_unit (unit_there c r.fetched.at start older (execution set r).unit over begun)
    where
      issued : (b : Bool) → loads set r ≡ b → Phase T (suc c) next (record r { issued = Some c })
      issued true l = addressed d c e late refl l ua (omega arith) (omega (arith, latency_most (execution set r).unit))
      issued false l = runs d c e late refl l (omega arith) (omega (arith, latency_most (execution set r).unit))

      by_unit : (has_unit_for set c start older (execution set r).unit ≡ true) ⊎ ((is_of Multipliers (execution set r).unit ≡ true) × (set.config.mults ≤ count_by (holds set Multipliers c) start))
          → Phase T (suc c) next (turns c base start older r)
      by_unit (inl u) = subst (Phase T (suc c) next) (sym (issue_turn c r.fetched.at d base start older r over right e before late ui stands u)) (issued (loads set r) refl)
      by_unit (inr (u, full)) =
          let still : c < E = some_holder c E start (keeps E free) (omega (arith, full, limits.mults)) in
          subst (Phase T (suc c) next) (sym (refused_turn c d base start older r e ui u full))
          (waits d E e late (omega arith) ui ua (held E full (keeps E free)) (omega (arith, still)) k)
  phase_step T c base rise all start next older0 older r right stands least over0 over begun goes running undone ends keeps held (runs d i e late ei l h k) =
      subst (Phase T (suc c) next) (sym (issued_turn c d i base start older r e ei (false_from_ne_true _ (λ f. both' (loads_of f) l)))) (runs d i e late ei l (by_time (cases_lt (i + unit_latency (execution set r).unit) c)) k)
    where
      loads_of : accesses set c start older r ≡ true → loads set r ≡ true
      loads_of f = grind (arith, and_parts)

      w : is_before c (written set r) ≡ nat_lt (i + unit_latency (execution set r).unit) c
      w = ap (λ m. is_before c (option_map (λ i. i + unit_latency (execution set r).unit) m)) ei

      done : i + unit_latency (execution set r).unit < c → done_before set c older0 r ≡ true
      done lt = by_store (stores set r)
        where
          back : is_before c (written set r) ≡ true
          back = w ∙ lt-ltb _ c lt

          by_store : (b : Bool) → cond b (is_before c (written set r) && have_produced set c older0 r (execution set r).second) (is_before c (finished set r)) ≡ true
          by_store true = and_from _ _ back (all_ready set c r.fetched.at c d older0 r (execution set r).second over0 (omega arith) e late)
          by_store false = ap (λ b. is_before c (cond b (returned r) (written set r))) l ∙ back

      by_time : (i + unit_latency (execution set r).unit < c) ⊎ (c ≤ i + unit_latency (execution set r).unit) → suc c + 1 ≤ T
      by_time (inl lt) = absurd (both' (done lt) undone)
      by_time (inr le) = omega arith
  phase_step T c base rise all start next older0 older r right stands least over0 over begun goes running undone ends keeps held (addressed d i e late ei l ua h k) =
      by_time (cases_lt c (i + unit_latency (execution set r).unit))
    where
      early : c < i + unit_latency (execution set r).unit → accesses set c start older r ≡ true → ⊥
      early lt f =
          let g : is_before (suc c) (written set r) ≡ true = grind (arith, and_parts) in
          let w : is_before (suc c) (written set r) ≡ nat_lt (i + unit_latency (execution set r).unit) (suc c) = ap (λ m. is_before (suc c) (option_map (λ i. i + unit_latency (execution set r).unit) m)) ei in
          both' g (w ∙ le-ltb _ (suc c) (omega arith))

      by_time : (c < i + unit_latency (execution set r).unit) ⊎ (i + unit_latency (execution set r).unit ≤ c) → Phase T (suc c) next (turns c base start older r)
      by_time (inl lt) = subst (Phase T (suc c) next) (sym (issued_turn c d i base start older r e ei (false_from_ne_true _ (early lt)))) (addressed d i e late ei l ua (omega arith) k)
      by_time (inr le) =
          subst (Phase T (suc c) next) (sym (access_turn c r.fetched.at d i base start older r over e late l ei ua stands le (omega (arith, ports_left c start begun, limits.ports))))
          (reads d (access_of set c base older r) e late (ap is_some ei) l refl (omega arith) (omega (arith, back_bound c base rise older r)))
  phase_step T c base rise all start next older0 older r right stands least over0 over begun goes running undone ends keeps held (reads d a e late si l ea h k) =
      subst (Phase T (suc c) next) (sym (left_turn r.issued refl si)) (reads d a e late si l ea (by_time (cases_lt a.back c)) k)
    where
      again : accesses set c start older r ≡ true → ⊥
      again f = let g : is_none r.access ≡ true = grind (arith, and_parts) in both' g (ap is_none ea)

      left_turn : (m : Option ℕ) → r.issued ≡ m → is_some m ≡ true → turns c base start older r ≡ r
      left_turn None f g = absurd cc
      left_turn (Some i) f g = issued_turn c d i base start older r e f (false_from_ne_true _ again)

      done : a.back < c → done_before set c older0 r ≡ true
      done lt = by_store (stores set r) (not_store (execution set r).memory l)
        where
          not_store : (x : MemoryUse) → is_load x ≡ true → is_store x ≡ false
          not_store NoMemory h = absurd cc
          not_store (LoadFrom a) h = refl
          not_store (StoreTo a) h = absurd cc

          back : is_before c (finished set r) ≡ true
          back = ap (λ b. is_before c (cond b (returned r) (written set r))) l ∙ (ap (λ m. is_before c (option_map (λ a. a.back) m)) ea ∙ lt-ltb a.back c lt)

          by_store : (b : Bool) → b ≡ false → cond b (is_before c (written set r) && have_produced set c older0 r (execution set r).second) (is_before c (finished set r)) ≡ true
          by_store true f = absurd cc
          by_store false f = back

      by_time : (a.back < c) ⊎ (c ≤ a.back) → suc c + 1 ≤ T
      by_time (inl lt) = absurd (both' (done lt) undone)
      by_time (inr le) = omega arith

  turns_keep : (c : ℕ) (base : List Reference) (start older : List Row) (r : Row)
      → ((turns c base start older r).fetched ≡ r.fetched) × ((turns c base start older r).committed ≡ r.committed) × ((turns c base start older r).squashed ≡ r.squashed)
  turns_keep c base start older r =
      let Kept : Row → Row → Type 0 = λ s r. (s.fetched ≡ r.fetched) × (s.committed ≡ r.committed) × (s.squashed ≡ r.squashed) in
      cond_both (issues set c start older r) (record r { issued = Some c }) _ (λ s. Kept (dispatch_row set c older s) r)
      (λ _. cond_both (dispatches set c older (record r { issued = Some c })) (record r { issued = Some c; dispatched = Some c }) (record r { issued = Some c }) (λ s. Kept s r) (λ _. (refl, refl, refl)) (λ _. (refl, refl, refl)))
      (λ _. cond_both (accesses set c start older r) (record r { access = Some (access_of set c base older r) }) r (λ s. Kept (dispatch_row set c older s) r)
      (λ _. cond_both (dispatches set c older (record r { access = Some (access_of set c base older r) })) (record r { access = Some (access_of set c base older r); dispatched = Some c }) (record r { access = Some (access_of set c base older r) }) (λ s. Kept s r) (λ _. (refl, refl, refl)) (λ _. (refl, refl, refl)))
      (λ _. cond_both (dispatches set c older r) (record r { dispatched = Some c }) r (λ s. Kept s r) (λ _. (refl, refl, refl)) (λ _. (refl, refl, refl))))

  pub record Front (T c : ℕ) (all older : List Row) (r : Row) : Type 0 where
    pub right : r.fetched.right ≡ true
    pub unset : r.committed ≡ None
    pub over : AllOver set c r.fetched.at older
    pub phase : Phase T c all r

  stage_at : (f : List Row → Row → Row) (rows younger older older' : List Row) (r : Row) → rows ≡ younger ++ (r ∷ older) → sweep f older ≡ older'
      → (new : List Row) × (sweep f rows ≡ new ++ (f older' r ∷ older'))
  stage_at f rows younger older older' r e same =
      let split : (new : List Row) × (sweep f (younger ++ (r ∷ older)) ≡ new ++ sweep f (r ∷ older)) = sweep_split f younger (r ∷ older) in
      (split.0, ap (sweep f) e ∙ (split.1 ∙ ap (λ o. split.0 ++ (f o r ∷ o)) same))

  pub each_sweep : (P Q : Row → Type 0) (f : List Row → Row → Row) → ((before : List Row) (r : Row) → P r → Q (f before r)) → (rows : List Row) → Each (λ _. P) rows → Each (λ _. Q) (sweep f rows)
  each_sweep P Q f turn [] h = tt
  each_sweep P Q f turn (r ∷ rows) h = (turn (sweep f rows) r h.0, each_sweep P Q f turn rows h.1)

  pub any_none : (p : Row → Bool) (rows : List Row) → list_any p rows ≡ false → Each (λ _ o. p o ≡ false) rows
  any_none p [] h = tt
  any_none p (o ∷ rows) h = let parts : (p o ≡ false) × (list_any p rows ≡ false) = or_parts _ _ h in (parts.0, any_none p rows parts.1)

  -- commits and squashes change neither issues nor accesses
  pub commit_row_keeps : (c : ℕ) (P : Row → Type 0) (before : List Row) (r : Row) → P r → P (record r { committed = Some c }) → P (commit_row set c before r)
  commit_row_keeps c P before r h k = cond_both (commits set c before r) (record r { committed = Some c }) r P (λ _. k) (λ _. h)

  pub squash_row_keeps : (c : ℕ) (P : Row → Type 0) (before : List Row) (r : Row) → P r → P (record r { squashed = Some c }) → P (squash_row set c before r)
  squash_row_keeps c P before r h k = cond_both (list_any (recovers set c) before && is_none r.squashed) (record r { squashed = Some c }) r P (λ _. k) (λ _. h)

  pub dispatch_row_keeps : (c : ℕ) (P : Row → Type 0) (before : List Row) (r : Row) → P r → P (record r { dispatched = Some c }) → P (dispatch_row set c before r)
  dispatch_row_keeps c P before r h k = cond_both (dispatches set c before r) (record r { dispatched = Some c }) r P (λ _. k) (λ _. h)

  begun : (c : ℕ) (t : Table) → Each (Times set I M limits c) t.rows → commits_in set c t ≡ false → Begun c (recover set c (commit set c t)).rows
  begun c t times quiet =
      record {
        issued = each_sweep A A (squash_row set c) (λ b r h. squash_row_keeps c A b r h h) one (each_sweep A A (commit_row set c) (λ b r h. commit_row_keeps c A b r h h) t.rows (issued t.rows times));
        access = each_sweep B B (squash_row set c) (λ b r h. squash_row_keeps c B b r h h) one (each_sweep B B (commit_row set c) (λ b r h. commit_row_keeps c B b r h h) t.rows (read t.rows times));
        committed = each_sweep C C (squash_row set c) (λ b r h. squash_row_keeps c C b r h h) one (any_none (λ r. is_at c r.committed) one quiet);
      }
    where
      A : Row → Type 0
      A o = Where o.issued (λ i. i < c)

      B : Row → Type 0
      B o = Where o.access (λ a. a.at < c)

      C : Row → Type 0
      C o = is_at c o.committed ≡ false

      one : List Row
      one = (commit set c t).rows

      issued : (rows : List Row) → Each (Times set I M limits c) rows → Each (λ _ o. Where o.issued (λ i. i < c)) rows
      issued [] h = tt
      issued (o ∷ rows) h = (h.0.issued, issued rows h.1)

      at : (o : Row) (m : Option MemoryAccess) → Where m (Reads set I M limits c (written set o)) → Where m (λ a. a.at < c)
      at o None h = tt
      at o (Some a) h = h.0

      read : (rows : List Row) → Each (Times set I M limits c) rows → Each (λ _ o. Where o.access (λ a. a.at < c)) rows
      read [] h = tt
      read (o ∷ rows) h = (at o o.access h.0.access, read rows h.1)

  ends_keep : (E : ℕ) (f : List Row → Row → Row) → ((b : List Row) (o : Row) → ((f b o).fetched ≡ o.fetched) × ((f b o).issued ≡ o.issued)) → (rows : List Row) → Ends E rows → Ends E (sweep f rows)
  ends_keep E f same rows h = each_sweep A A f (λ b o k. rw (same b o).1 (rw (same b o).0 k)) rows h
    where
      A : Row → Type 0
      A o = Where o.issued (λ i. is_of Multipliers (execution set o).unit ≡ true → i + unit_hold (execution set o).unit ≤ E)

  pub hold_most : (u : UnitClass) → unit_hold u ≤ 19
  hold_most Free = omega arith
  hold_most Alu = omega arith
  hold_most Multiply = omega arith
  hold_most Divide = omega arith

  -- whatever issued before a cycle holds its unit for at most 18 cycles from it
  ends_all : (c : ℕ) (rows : List Row) → Each (Times set I M limits (suc c)) rows → Ends (c + 19) rows
  ends_all c [] h = tt
  ends_all c (o ∷ rows) h = (one o.issued h.0.issued, ends_all c rows h.1)
    where
      one : (m : Option ℕ) → Where m (λ i. i < suc c) → Where m (λ i. is_of Multipliers (execution set o).unit ≡ true → i + unit_hold (execution set o).unit ≤ c + 19)
      one None w = tt
      one (Some i) w = λ u. omega (arith, hold_most (execution set o).unit)

  ends_fetch : (E n c : ℕ) (t : Table) → Ends E t.rows → Ends E (fetch_up_to set n c t).rows
  ends_fetch E zero c t h = h
  ends_fetch E (suc n) c t h =
      cond_both (may_fetch set c t) (fetch_up_to set n c (fetch_one set c t)) t (λ u. Ends E u.rows) (λ _. ends_fetch E n c (fetch_one set c t) (tt, h)) (λ _. h)

  later_over : (c f : ℕ) (rows : List Row) → AllOver set c f rows → AllOver set (suc c) f rows
  later_over c f rows h = each_map (Over set c f) (Over set (suc c) f) weak rows h
    where
      w : (m : Option ℕ) → Where m (λ x. x < c) → Where m (λ x. x < suc c)
      w None h = tt
      w (Some x) h = omega arith

      wa : (m : Option MemoryAccess) → Where m (λ a. a.at < c) → Where m (λ a. a.at < suc c)
      wa None h = tt
      wa (Some a) h = omega arith

      wb : (m : Option ℕ) → is_before c m ≡ true → is_before (suc c) m ≡ true
      wb None h = absurd cc
      wb (Some t) h = let lt : t < c = ltb-true _ _ h in lt-ltb t (suc c) (omega arith)

      weak : (o : Row) → Over set c f o → Over set (suc c) f o
      weak o v = record {
        dispatched = w o.dispatched v.dispatched;
        issued = w o.issued v.issued;
        access = wa o.access v.access;
        committed = w o.committed v.committed;
        left = v.left;
        came = v.came;
        began = v.began;
        read = v.read;
        done = λ r. wb (finished set o) (v.done r);
        gone = v.gone;
      }

  pub cycle_step : (T c : ℕ) (t : Table) → Rises c t.references → Each (Route set c) t.rows × Ahead set c t.rows t.next_fetch → Each (Times set I M limits c) t.rows → Each (Times set I M limits (suc c)) (cycle set c t).rows
      → exited set t ≡ false → commits_in set c t ≡ false → stops_in set c t ≡ false
      → Focus (Front T c t.rows) t.rows → Focus (Front T (suc c) (cycle set c t).rows) (cycle set c t).rows
  cycle_step T c t rise route times times' running quiet going (younger, older, r, e, front) =
      (fresh.0 ++ four.0, older2, turned, fresh.1 ∙ (ap (λ l. fresh.0 ++ l) four.1 ∙ sym (append_assoc fresh.0 four.0 (turned ∷ older2))), after)
    where
      one : Table
      one = commit set c t

      two : Table
      two = recover set c one

      three : Table
      three = issue set c two

      base : List Reference
      base = store_references set c two.rows two.references

      older2 : List Row
      older2 = sweep (squash_row set c) older

      turned : Row
      turned = turns c base two.rows older2 r

      mine : Times set I M limits c older r × Each (Times set I M limits c) older
      mine = each_split (Times set I M limits c) younger older r (subst (Each (Times set I M limits c)) e times)

      stands : r.squashed ≡ None
      stands = mine.0.kept front.right

      over2 : AllOver set c r.fetched.at older2
      over2 = swept_over set c r.fetched.at older front.over

      still : sweep (commit_row set c) older ≡ older
      still = swept_same set c r.fetched.at (commit_row set c) (commit_same set c r.fetched.at) older front.over

      raw1 : (new : List Row) × (one.rows ≡ new ++ (commit_row set c older r ∷ older))
      raw1 = stage_at (commit_row set c) t.rows younger older older r e still

      not_now : commits set c older r ≡ false
      not_now = false_from_ne_true (commits set c older r) (λ h. both' (seen h) quiet)
        where
          seen : commits set c older r ≡ true → commits_in set c t ≡ true
          seen h = focus_any (λ o. is_at c o.committed) (λ b o. is_at c o.committed ≡ true) one.rows (
            raw1.0,
            older,
            commit_row set c older r,
            raw1.1,
            subst (λ o. is_at c o.committed ≡ true) (sym (cond-true (commits set c older r) (record r { committed = Some c }) r h)) (eq-eqb c c refl),
          ) (λ b o k. k)

      same1 : commit_row set c older r ≡ r
      same1 = cond-false (commits set c older r) (record r { committed = Some c }) r not_now

      undone : done_before set c older r ≡ false
      undone = false_from_ne_true (done_before set c older r) (λ h. both' (commits_now set I M c r.fetched.at limits older r front.over front.right front.unset h) not_now)

      e1 : one.rows ≡ raw1.0 ++ (r ∷ older)
      e1 = raw1.1 ∙ ap (λ x. raw1.0 ++ (x ∷ older)) same1

      k1 : Each (Route set c) one.rows × Ahead set c one.rows one.next_fetch
      k1 = stage_keeps set c c (commit_row set c) t.rows t.next_fetch (omega arith) (changed_commit set c) route

      my_route : Route set c older r × Each (Route set c) older
      my_route = each_split (Route set c) raw1.0 older r (subst (Each (Route set c)) e1 k1.0)

      same2 : squash_row set c older2 r ≡ r
      same2 = cond-false (list_any (recovers set c) older2 && is_none r.squashed) (record r { squashed = Some c }) r
          (and_left (list_any (recovers set c) older2) (is_none r.squashed)
          (any_same set c older ∙ false_from_ne_true (list_any (recovers set c) older) (right_stands set c older r my_route.1 my_route.0 front.right)))

      raw2 : (new : List Row) × (two.rows ≡ new ++ (squash_row set c older2 r ∷ older2))
      raw2 = stage_at (squash_row set c) one.rows raw1.0 older older2 r e1 refl

      e2 : two.rows ≡ raw2.0 ++ (r ∷ older2)
      e2 = raw2.1 ∙ ap (λ x. raw2.0 ++ (x ∷ older2)) same2

      three' : (new : List Row) × (three.rows ≡ new ++ (issue_row set c base two.rows older2 r ∷ older2))
      three' = stage_at (issue_row set c base two.rows) two.rows raw2.0 older2 older2 r e2
          (swept_same set c r.fetched.at (issue_row set c base two.rows) (issue_same set c r.fetched.at base two.rows) older2 over2)

      four : (new : List Row) × ((dispatch set c three).rows ≡ new ++ (turned ∷ older2))
      four = stage_at (dispatch_row set c) three.rows three'.0 older2 older2 (issue_row set c base two.rows older2 r) three'.1
          (swept_same set c r.fetched.at (dispatch_row set c) (dispatch_same set c r.fetched.at) older2 over2)

      fresh : (fresh : List Row) × ((fetch_up_to set set.config.decode c (dispatch set c three)).rows ≡ fresh ++ (dispatch set c three).rows)
      fresh = fetch_adds set set.config.decode c (dispatch set c three)

      start : Begun c two.rows
      start = begun c t times quiet

      exits : Each (λ _ o. (is_some o.committed && (o.fetched.right && (execution set o).exit)) ≡ false) older2
      exits = each_sweep E' E' (squash_row set c) (λ b o h. squash_row_keeps c E' b o h h) older
          (each_split (λ _ o. E' o) younger older r (subst (Each (λ _ o. E' o)) e (any_none (λ o. is_some o.committed && (o.fetched.right && (execution set o).exit)) t.rows running))).1
        where
          E' : Row → Type 0
          E' o = (is_some o.committed && (o.fetched.right && (execution set o).exit)) ≡ false

      keeps : (E : ℕ) → Ends E t.rows → Ends E two.rows
      keeps E h = ends_keep E (squash_row set c) (λ b o. squash_row_keeps c (λ s. (s.fetched ≡ o.fetched) × (s.issued ≡ o.issued)) b o (refl, refl) (refl, refl)) one.rows
          (ends_keep E (commit_row set c) (λ b o. commit_row_keeps c (λ s. (s.fetched ≡ o.fetched) × (s.issued ≡ o.issued)) b o (refl, refl) (refl, refl)) t.rows h)

      held : (E : ℕ) → set.config.mults ≤ count_by (holds set Multipliers c) two.rows → Ends E two.rows → Ends E (cycle set c t).rows
      held E full h = ends_fetch E set.config.decode c (dispatch set c three)
          (ends_keep E (dispatch_row set c) (λ b o. dispatch_row_keeps c (λ s. (s.fetched ≡ o.fetched) × (s.issued ≡ o.issued)) b o (refl, refl) (refl, refl)) three.rows
          (ends_issue c E base two.rows two.rows full h))

      goes : r.dispatched ≡ None → r.issued ≡ None → r.access ≡ None → r.fetched.queued < c → (execution set r).stops ≡ false
      goes un ui ua q = false_from_ne_true (execution set r).stops (λ h. both' (stopped h) going)
        where
          idle_row : issue_row set c base two.rows older2 r ≡ r
          idle_row = undispatched_issue c base two.rows older2 r un ui

          e3 : three.rows ≡ three'.0 ++ (r ∷ older2)
          e3 = three'.1 ∙ ap (λ x. three'.0 ++ (x ∷ older2)) idle_row

          first : (execution set r).stops ≡ true → stops_machine set c older2 r ≡ true
          first h =
              and_from _ _ (and_from _ _ (and_from _ _
              (and_from _ _ (and_from _ _ (and_from _ _ (ap is_none un) (ap is_none stands)) (lt-ltb r.fetched.queued c q))
              (all_from (λ o. not (waiting o)) older2 (each_map (Over set c r.fetched.at) _ (λ o v. ap not (not_waiting set c r.fetched.at o v)) older2 over2)))
              front.right) h) (eq-eqb (count_by live older2) 0 (none_live set I M c r.fetched.at limits older2 over2))

          stopped : (execution set r).stops ≡ true → stops_in set c t ≡ true
          stopped h = ap not (focus_every (λ b o. not (stops_machine set c b o)) (λ b o. stops_machine set c b o ≡ true) three.rows
              (three'.0, older2, r, e3, first h) (λ b o k. ap not k))

      kept : ((turned).fetched ≡ r.fetched) × (turned.committed ≡ r.committed) × (turned.squashed ≡ r.squashed)
      kept = turns_keep c base two.rows older2 r

      after : Front T (suc c) (cycle set c t).rows older2 turned
      after = record {
        right = ap (λ w. w.right) kept.0 ∙ front.right;
        unset = kept.1 ∙ front.unset;
        over = subst (λ w. AllOver set (suc c) w.at older2) (sym kept.0) (later_over c r.fetched.at older2 over2);
        phase = phase_step T c base (rises_stores set c two.rows two.references rise) t.rows two.rows (cycle set c t).rows older older2 r front.right stands mine.0.least front.over over2 start goes exits undone
            (ends_all c (cycle set c t).rows times') keeps held front.phase;
      }

  -- in no phase is the time over
  in_time : (T c : ℕ) (all : List Row) (r : Row) → Phase T c all r → c < T
  in_time T c all r (queued un ui ua h k) = omega arith
  in_time T c all r (waits d E e late before ui ua free h k) = omega arith
  in_time T c all r (runs d i e late ei l h k) = omega arith
  in_time T c all r (addressed d i e late ei l ua h k) = omega arith
  in_time T c all r (reads d a e late si l ea h k) = omega arith

  -- a cycle without commits commits no exit
  pub still_running : (c : ℕ) (t : Table) → exited set t ≡ false → commits_in set c t ≡ false → exited set (cycle set c t) ≡ false
  still_running c t running quiet = any_from X (cycle set c t).rows (fetches set.config.decode four e4)
    where
      X : Row → Bool
      X o = is_some o.committed && (o.fetched.right && (execution set o).exit)

      E : Row → Type 0
      E o = X o ≡ false

      one : Table
      one = commit set c t

      two : Table
      two = recover set c one

      base : List Reference
      base = store_references set c two.rows two.references

      four : Table
      four = dispatch set c (issue set c two)

      committing : (rows : List Row) → Each (λ _ o. E o) rows → Each (λ _ o. is_at c o.committed ≡ false) (sweep (commit_row set c) rows) → Each (λ _ o. E o) (sweep (commit_row set c) rows)
      committing [] h q = tt
      committing (o ∷ rows) h q = (
        cond_both (commits set c (sweep (commit_row set c) rows) o) (record o { committed = Some c }) o (λ s. is_at c s.committed ≡ false → E s)
            (λ _ k. absurd (both' (eq-eqb c c refl) k)) (λ _ k. h.0) q.0,
        committing rows h.1 q.1,
      )

      e1 : Each (λ _ o. E o) one.rows
      e1 = committing t.rows (any_none X t.rows running) (any_none (λ o. is_at c o.committed) one.rows quiet)

      e2 : Each (λ _ o. E o) two.rows
      e2 = each_sweep E E (squash_row set c) (λ b o h. squash_row_keeps c E b o h h) one.rows e1

      e3 : Each (λ _ o. E o) (issue set c two).rows
      e3 = each_sweep E E (issue_row set c base two.rows)
          (λ b o h. cond_both (issues set c two.rows b o) (record o { issued = Some c }) _ E (λ _. h)
          (λ _. cond_both (accesses set c two.rows b o) (record o { access = Some (access_of set c base b o) }) o E (λ _. h) (λ _. h))) two.rows e2

      e4 : Each (λ _ o. E o) four.rows
      e4 = each_sweep E E (dispatch_row set c) (λ b o h. dispatch_row_keeps c E b o h h) (issue set c two).rows e3

      fetches : (n : ℕ) (u : Table) → Each (λ _ o. E o) u.rows → Each (λ _ o. E o) (fetch_up_to set n c u).rows
      fetches zero u h = h
      fetches (suc n) u h = cond_both (may_fetch set c u) (fetch_up_to set n c (fetch_one set c u)) u (λ v. Each (λ _ o. E o) v.rows) (λ _. fetches n (fetch_one set c u) (refl, h)) (λ _. h)

  -- hence the row commits, or the machine stops, before T
  pub commits_soon : (n c T : ℕ) → T ≡ c + n → exited set (table set c) ≡ false → Focus (Front T c (table set c).rows) (table set c).rows
      → (x : ℕ) × (c ≤ x) × (x < T) × ((commits_in set x (table set x) || stops_in set x (table set x)) ≡ true)
  commits_soon zero c T e running (younger, older, r, s, front) = let lt : c < T = in_time T c _ r front.phase in absurd (omega arith)
  commits_soon (suc n) c T e running focus = by_now (commits_in set c (table set c)) (stops_in set c (table set c)) refl refl (commits_soon n (suc c) T (omega arith))
    where
      in_time' : Focus (Front T c (table set c).rows) (table set c).rows → c < T
      in_time' (younger, older, r, s, front) = in_time T c _ r front.phase

      by_now : (b d : Bool) → commits_in set c (table set c) ≡ b → stops_in set c (table set c) ≡ d
          → (exited set (table set (suc c)) ≡ false → Focus (Front T (suc c) (table set (suc c)).rows) (table set (suc c)).rows
          → (x : ℕ) × (suc c ≤ x) × (x < T) × ((commits_in set x (table set x) || stops_in set x (table set x)) ≡ true))
          → (x : ℕ) × (c ≤ x) × (x < T) × ((commits_in set x (table set x) || stops_in set x (table set x)) ≡ true)
      by_now true d f g ih = (c, omega arith, in_time' focus, or_left _ _ f)
      by_now false true f g ih = (c, omega arith, in_time' focus, or_right _ _ g)
      by_now false false f g ih =
          let next : Focus (Front T (suc c) (table set (suc c)).rows) (table set (suc c)).rows =
          cycle_step T c (table set c) (rises_table set limits.start c) (route_table set c limits.penalty) (times_table set I M limits c) (times_table set I M limits (suc c)) running f g focus in
          let (x, le, lt, h) = ih (still_running c (table set c) running f) next in
          (x, omega arith, lt, h)
