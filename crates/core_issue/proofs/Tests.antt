-- A row of the unit may issue exactly where the row of the table may.
use Rattle.std.proofs.Common.{◌≡◌, ℕ, suc, ◌/◌, ◌≤◌, Bool, true, false, cond, List, [], ◌∷◌, Option, Some, None, refl, sym, ap, ◌∙◌, arith}
use Rattle.std.specs.Prelude.{◌&&◌, ◌||◌, not, nat_lt, is_none, count_by, option_map}
use Rattle.std.specs.List.{AllZip, list_all}
use Rattle.std.proofs.lemmas.Bool.{lt-ltb}
use Rattle.fu_pool.specs.declared.pools.Pool.TheVariants as pool
use Rattle.fu_pool.specs.Takes.{Units}
use Rattle.lsq_core.specs.Queue as lsq
use Rattle.lsq_core.specs.Queue.{Entry}
use Rattle.ruu_core.specs.Window as unit
use Rattle.ooo_table.specs.declared.config.OooConfig.{OooConfig}
use Rattle.ooo_table.specs.Row.{Row, MemoryAccess, is_before}
use Rattle.ooo_table.specs.Execution.{Ports, address}
use Rattle.ooo_table.specs.Table.{Setting}
use Rattle.ooo_table.specs.Path.{execution, loads}
use Rattle.ooo_table.specs.Done.{live, written, have_produced}
use Rattle.ooo_table.specs.Issue.{issues, accesses, may_issue, has_width, has_unit, has_unit_for, is_clear, is_forwarded, issues_at}
use Rattle.ooo_table.specs.Later.{Each, Where}
use Rattle.ooo_table.specs.Machine.{Given, setting_of}
use Rattle.ooo_table.proofs.Steps.{Kind}
use Rattle.core_parts.specs.Rows.{pick, in_queue, unit_class, Lives, Holds}
use Rattle.core_issue.specs.Turns as turns
use Rattle.core_issue.specs.Turns.{pool_for, has_free, has_unit as has_one, is_ok, may_go}
use Rattle.core_issue.specs.Stage.{Rules, is_ordered, main_issues, access_issues, forwards}
use Rattle.core_issue.proofs.Queue.{answer_ok, answer_forward, clear_same, forward_same}
use Rattle.core_parts.proofs.Live.{by_before, live_parts, have_live}

-- the row has issued by c, where it has
abbrev pub Marked : ℕ → Row → Type 0
Marked c r = Where r.issued (λ i. i ≤ c)

none_mapped : (m : Option MemoryAccess) → is_none (option_map (λ (a : MemoryAccess). a.at) m) ≡ is_none m
none_mapped None = refl
none_mapped (Some a) = refl

not_not : (b : Bool) → not (not b) ≡ b
not_not true = refl
not_not false = refl

marked_before : (c : ℕ) (m : Option ℕ) → Where m (λ i. i ≤ c) → is_before (suc c) m ≡ not (is_none m)
marked_before c None w = refl
marked_before c (Some i) w = lt-ltb i (suc c) (omega (arith, w))

-- what the queue answers of a load, from the entries behind its own
pub record Answers (g : Given) (c : ℕ) (k : Rules) (before : List Row) (r : Row) (s : unit.Row) : Type 0 where
  pub block : ℕ
  pub rest : List Entry
  pub is : lsq.load_answer c s.station.row k.queue ≡ lsq.answer_after c block rest
  pub at : block ≡ address (execution (setting_of g) r).memory / 8
  pub zip : AllZip (Holds (setting_of g) (suc c)) rest (pick (in_queue (setting_of g)) before)

module _ (g : Given) (c : ℕ) (start : List Row) (k : Rules) (kc : k.config ≡ g.config) where
  abbrev set : Setting
  set = setting_of g

  ordered_zip : (before : List Row) (ys : List unit.Row) → AllZip (Lives g) ys (pick live before) → Each (λ _. Marked c) before
      → list_all (λ o. not (live o) || is_before (suc c) o.issued) before ≡ list_all (λ (o : unit.Row). not (is_none o.issued)) ys
  ordered_zip [] [] z m = refl
  ordered_zip [] (y ∷ ys) z m = absurd z
  ordered_zip (o ∷ before) ys z m = by_live (live o) ys z (λ ys z. ordered_zip before ys z m.1)
    where
      by_live : (b : Bool) (ys : List unit.Row) → AllZip (Lives g) ys (cond b (record { row = o; older = before } ∷ pick live before) (pick live before))
          → ((ys : List unit.Row) → AllZip (Lives g) ys (pick live before) → list_all (λ o. not (live o) || is_before (suc c) o.issued) before ≡ list_all (λ (o : unit.Row). not (is_none o.issued)) ys)
          → ((not b || is_before (suc c) o.issued) && list_all (λ o. not (live o) || is_before (suc c) o.issued) before) ≡ list_all (λ (o : unit.Row). not (is_none o.issued)) ys
      by_live true [] z ih = absurd z
      by_live true (y ∷ ys) z ih =
          ap (λ b. b && list_all (λ o. not (live o) || is_before (suc c) o.issued) before) (marked_before c o.issued m.0 ∙ ap (λ i. not (is_none i)) z.0.issued)
          ∙ ap (λ b. not (is_none y.issued) && b) (ih ys z.1)
      by_live false ys z ih = ih ys z

  allowed_same : (older before : List Row) (r : Row) (ys : List unit.Row) (s : unit.Row) → Lives g s (record { row = r; older = older }) → AllZip (Lives g) ys (pick live before) → Each (λ _. Marked c) before
      → may_issue set c before r ≡ (may_go k.config s.station && is_ordered k.config ys)
  allowed_same older before r ys s l z m =
      joined r.fetched.right s.station.wrong g.config.wrong_issue k.config.wrong_issue g.config.in_order k.config.in_order (list_all (λ o. not (live o) || is_before (suc c) o.issued) before) (list_all (λ (o : unit.Row). not (is_none o.issued)) ys)
      l.station.wrong (sym (ap (λ (x : OooConfig). x.wrong_issue) kc)) (sym (ap (λ (x : OooConfig). x.in_order) kc)) (ordered_zip before ys z m)
    where
      joined : (a w b b' d d' e e' : Bool) → w ≡ not a → b ≡ b' → d ≡ d' → e ≡ e' → ((a || b) && (not d || e)) ≡ ((not w || b') && (not d' || e'))
      joined a w b b' d d' e e' f g h i = rw (f, g, h, i, not_not a) refl

  -- the test of a main operation
  pub issue_same : (n : ℕ) (v : Units) (older before : List Row) (r : Row) (ys : List unit.Row) (s : unit.Row) → Lives g s (record { row = r; older = older }) → live r ≡ true
      → Each (Kind set (suc c) s.dispatched) before → Each (λ _. Marked c) before → AllZip (Lives g) ys (pick live before) → n ≡ count_by (issues_at set c) before
      → has_unit_for set c start before (unit_class s.station) ≡ has_one c v (pool_for (unit_class s.station))
      → issues set c start before r ≡ main_issues c n k v ys s
  issue_same n v older before r ys s l at kinds marked z count free =
      joined (is_before c r.dispatched) (is_none r.issued) (is_none r.squashed) (may_issue set c before r) (have_produced set (suc c) before r (execution set r).main) (has_width set c before) (has_unit_for set c start before (execution set r).unit)
      (nat_lt s.dispatched c) (is_none s.issued) (may_go k.config s.station) (is_ordered k.config ys) (unit.main_done (unit.is_by c) ys s) (nat_lt n k.config.issue) (has_one c v (pool_for (unit_class s.station)))
      (ap (is_before c) l.dispatched) (ap is_none l.issued) (live_parts r at).2 (allowed_same older before r ys s l z marked)
      (have_live g c before r ys s.dispatched (execution set r).main l.dispatched z kinds ∙ ap (unit.have_produced (unit.is_by c) ys) (sym l.station.operates.main))
      (ap (λ m. nat_lt m g.config.issue) (sym count) ∙ ap (λ (x : OooConfig). nat_lt n x.issue) (sym kc))
      (ap (has_unit_for set c start before) (sym l.station.operates.unit) ∙ free)
    where
      joined : (a b q m h w u a' b' m1 m2 h' w' u' : Bool) → a ≡ a' → b ≡ b' → q ≡ true → m ≡ (m1 && m2) → h ≡ h' → w ≡ w' → u ≡ u'
          → (a && b && q && m && h && w && u) ≡ ((a' && b' && h') && m1 && m2 && w' && u')
      joined a b q m h w u a' b' m1 m2 h' w' u' e f g i j x y = rw (e, f, g, i, j, x, y) (by_value a' b' m1 m2 h')
        where
          by_value : (a b m1 m2 h : Bool) → (a && b && true && (m1 && m2) && h && w' && u') ≡ ((a && b && h) && m1 && m2 && w' && u')
          by_value true true true true true = refl
          by_value true true true true false = refl
          by_value true true true false true = refl
          by_value true true true false false = refl
          by_value true true false m2 true = refl
          by_value true true false m2 false = refl
          by_value true false m1 m2 h = refl
          by_value false b m1 m2 h = refl

  -- the test of a load's access
  pub access_same : (n : ℕ) (v : Units) (older before : List Row) (r : Row) (ys : List unit.Row) (s : unit.Row) → Lives g s (record { row = r; older = older }) → live r ≡ true
      → Each (Kind set (suc c) s.dispatched) before → AllZip (Lives g) ys (pick live before) → n ≡ count_by (issues_at set c) before
      → has_unit set c start before Ports ≡ has_free c v pool.Port → (loads set r ≡ true → Answers g c k before r s)
      → accesses set c start before r ≡ access_issues c n k v ys s
  access_same n v older before r ys s l at kinds z count free answers = by_load (loads set r) refl
    where
      by_load : (b : Bool) → loads set r ≡ b
          → (b && is_none r.access && is_none r.squashed && is_before (suc c) (written set r) && have_produced set (suc c) before r (execution set r).second && is_clear set c before r && has_width set c before && has_unit set c start before Ports) ≡ access_issues c n k v ys s
      by_load false e =
          sym (ap (λ b. (b && unit.is_by c s.written && is_none s.accessed && unit.second_done (unit.is_by c) ys s) && is_ok (lsq.load_answer c s.station.row k.queue) && nat_lt n k.config.issue && has_free c v pool.Port) (l.station.operates.load ∙ e))
      by_load true e =
          let an : Answers g c k before r s = answers e in
          joined (is_none r.access) (is_none r.squashed) (is_before (suc c) (written set r)) (have_produced set (suc c) before r (execution set r).second) (is_clear set c before r) (has_width set c before) (has_unit set c start before Ports)
          (unit.is_load s.station) (is_none s.accessed) (unit.is_by c s.written) (unit.second_done (unit.is_by c) ys s) (is_ok (lsq.load_answer c s.station.row k.queue)) (nat_lt n k.config.issue) (has_free c v pool.Port)
          (l.station.operates.load ∙ e) (sym (none_mapped r.access) ∙ ap is_none l.accessed) (live_parts r at).2
          (ap (is_before (suc c)) l.written ∙ sym (by_before c s.written))
          (have_live g c before r ys s.dispatched (execution set r).second l.dispatched z kinds ∙ ap (unit.have_produced (unit.is_by c) ys) (sym l.station.operates.second))
          (clear_same set c r an.block e an.at before an.rest an.zip ∙ sym (ap is_ok an.is ∙ answer_ok c an.block an.rest))
          (ap (λ m. nat_lt m g.config.issue) (sym count) ∙ ap (λ (x : OooConfig). nat_lt n x.issue) (sym kc))
          free
        where
          joined : (a q w h cl wd u ld a' w' h' cl' wd' u' : Bool) → ld ≡ true → a ≡ a' → q ≡ true → w ≡ w' → h ≡ h' → cl ≡ cl' → wd ≡ wd' → u ≡ u'
              → (true && a && q && w && h && cl && wd && u) ≡ ((ld && w' && a' && h') && cl' && wd' && u')
          joined a q w h cl wd u ld a' w' h' cl' wd' u' e1 e2 e3 e4 e5 e6 e7 e8 = rw (e1, e2, e3, e4, e5, e6, e7, e8) (by_value a' w' h')
            where
              by_value : (a w h : Bool) → (true && a && true && w && h && cl' && wd' && u') ≡ ((true && w && a && h) && cl' && wd' && u')
              by_value true true true = refl
              by_value true true false = refl
              by_value true false h = refl
              by_value false true h = refl
              by_value false false h = refl

  -- and whether it is forwarded
  pub forwarded_same : (before : List Row) (r : Row) (s : unit.Row) → loads set r ≡ true → Answers g c k before r s → is_ok (lsq.load_answer c s.station.row k.queue) ≡ true → is_forwarded set before r ≡ forwards c k s
  forwarded_same before r s e an ok =
      forward_same set c r an.block e an.at before an.rest an.zip
      ∙ sym (ap turns.is_forwarded an.is ∙ answer_forward c an.block an.rest (ap is_ok (sym an.is) ∙ ok))
