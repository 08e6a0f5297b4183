-- A turn over the parts is a turn of the table.
use Rattle.std.proofs.Common.{◌≡◌, ℕ, suc, ◌+◌, ◌<◌, Bool, true, false, cond, List, [], ◌∷◌, ◌++◌, Option, Some, None, refl, sym, ap, ◌∙◌, subst, arith, length, take}
use Rattle.std.specs.Prelude.{◌&&◌, ◌||◌, ◌==◌, ◌-◌, not, nat_lt, is_some, is_none, find, count_by}
use Rattle.std.specs.List.{AllZip, list_any, list_all}
use Rattle.std.proofs.lemmas.Bool.{cond-true, cond-false, and_parts, ltb-true, eqb-true}
use Rattle.pisa_isa.specs.Classes.{access_of}
use Rattle.mem_hier.specs.Replay.{greatest_fetch_of, greatest_load_of}
use Rattle.pisa_step.specs.declared.cause.Cause.{Cause}
use Rattle.sim_safe.specs.State.{State, state_of}
use Rattle.sim_safe.specs.Step.{Outcome, Next, Halt, step_of}
use Rattle.ruu_core.specs.declared.station.Station.{Station}
use Rattle.ruu_core.specs.Window as unit
use Rattle.ooo_front.specs.declared.row.FetchRow.{FetchRow}
use Rattle.ooo_front.specs.Stands.{oldest}
use Rattle.ooo_table.specs.declared.config.OooConfig.{OooConfig}
use Rattle.ooo_table.specs.Row.{Row, is_at, every, sweep}
use Rattle.ooo_table.specs.Execution.{Execution, uses_memory}
use Rattle.ooo_table.specs.Table.{Setting, NextFetch}
use Rattle.ooo_table.specs.Path.{execution}
use Rattle.ooo_table.specs.Done.{live, waiting}
use Rattle.ooo_table.specs.Dispatch.{dispatches, dispatch_row, may_enter, stops_machine}
use Rattle.ooo_table.specs.Cycle.{table, after_issue, after_dispatch}
use Rattle.ooo_table.specs.Ends.{stops_in}
use Rattle.ooo_table.specs.Later.{Each, Where}
use Rattle.ooo_table.specs.CycleLaws.{as_next, Linked, Newest, Passed, RowFacts}
use Rattle.ooo_table.specs.Machine.{Given, setting_of}
use Rattle.ooo_table.specs.MachineLaws.{IsSound}
use Rattle.ooo_table.proofs.Kept.{each_of}
use Rattle.ooo_table.proofs.Quiet.{same_dispatch}
use Rattle.ooo_table.proofs.Route.{Route}
use Rattle.ooo_table.proofs.Stops.{stops_there}
use Rattle.ooo_table.proofs.CycleFacts.{facts_three, route_three}
use Rattle.ooo_table.proofs.Timely.{bounded}
use Rattle.ooo_table.proofs.Turns.{within_dispatch}
use Rattle.ooo_table.proofs.Units.{not_at}
use Rattle.core_parts.specs.declared.parts.Parts.{Parts}
use Rattle.core_parts.specs.Fits.{Fits}
use Rattle.core_parts.specs.Rows.{Placed, pick, in_queue, Lives, Holds, Waits}
use Rattle.core_parts.specs.Stands.{Stands, next_of, settled, state_after}
use Rattle.core_parts.specs.Stages.{Dispatching, DispatchesAs, DispatchIsOver}
use Rattle.core_parts.proofs.Lists.{and_false, count_skip, count_take, length_sweep, pick_skip, pick_length, same_number, zip_length}
use Rattle.core_dispatch.specs.declared.verdict.WrongAct.{WrongAct}
use Rattle.core_dispatch.specs.Verdict.{has_access, is_empty, right_verdict, wrong_act, wrong_verdict, verdict_at}
use Rattle.core_dispatch.specs.Turn.{Enters}
use Rattle.core_dispatch.proofs.Lasts.{ends_in, zip_end, oldest_of}
use Rattle.core_dispatch.proofs.Partial.{Fit, Untouched, admitted, fit_part, not_yet, stands_at, AtState}
use Rattle.core_dispatch.proofs.Marked.{marked, both, not_picked, in_middle, Fresh, live_dispatched, pick_young, waits_all, unset, fresh_left, next_oldest, settled_young}
use Rattle.core_dispatch.proofs.Performed.{use_memory, performs}
use Rattle.core_dispatch.proofs.Does.{Way, Idles, Makes}
use Rattle.core_dispatch.proofs.Stay.{Going, Enacts, stands_after, none_passed}
use Rattle.core_dispatch.proofs.Enacting.{Ready, right_is, right_halts, wrong_is}
use Rattle.core_dispatch.proofs.Exits.{exited, exits_none, exits_some, last_some}
use Rattle.core_dispatch.proofs.Test.{Counts, Still, enters, halt_test, next_test, wrong_test}

-- ---- lists

joint : {X : Type 0} (xs ys zs : List X) → (xs ++ ys) ++ zs ≡ xs ++ (ys ++ zs)
joint [] ys zs = refl
joint (x ∷ xs) ys zs = ap (λ l. x ∷ l) (joint xs ys zs)

-- the first part of rows that each have a fact of their own
front_of : (P : Row → Type 0) (younger older : List Row) → Each (λ _. P) (younger ++ older) → Each (λ _. P) younger
front_of P [] older h = tt
front_of P (y ∷ younger) older h = (h.0, front_of P younger older h.1)

count_over : (p : Row → Bool) (younger older : List Row) → Each (λ _ o. p o ≡ false) younger → count_by p (younger ++ older) ≡ count_by p older
count_over p [] older h = refl
count_over p (y ∷ younger) older h = count_skip p y (younger ++ older) h.0 ∙ count_over p younger older h.1

any_over : (p : Row → Bool) (younger older : List Row) → Each (λ _ o. p o ≡ false) younger → list_any p (younger ++ older) ≡ list_any p older
any_over p [] older h = refl
any_over p (y ∷ younger) older h = ap (λ b. b || list_any p (younger ++ older)) h.0 ∙ any_over p younger older h.1

all_passed : (rows : List Row) → Passed rows → list_all (λ o. not (waiting o)) rows ≡ true
all_passed [] p = refl
all_passed (o ∷ rows) p = ap (λ b. not b && list_all (λ o. not (waiting o)) rows) p.0 ∙ all_passed rows p.1

off : (b : Bool) → (b ≡ true → ⊥) → b ≡ false
off true h = absurd (h refl)
off false h = refl

one_more : (n : ℕ) → 1 + n ≡ suc n
one_more n = omega arith

-- ---- rows that aren't dispatched

module _ (set : Setting) (c : ℕ) where
  swept_still : (ys older : List Row) → Still set c ys (sweep (dispatch_row set c) older) → sweep (dispatch_row set c) (ys ++ older) ≡ ys ++ sweep (dispatch_row set c) older
  swept_still [] older h = refl
  swept_still (y ∷ ys) older h =
      ap (λ l. dispatch_row set c l y ∷ l) (swept_still ys older h.1)
      ∙ ap (λ x. x ∷ (ys ++ sweep (dispatch_row set c) older)) (cond-false (dispatches set c (ys ++ sweep (dispatch_row set c) older) y) (marked c y) y h.0)

  -- what a dispatch finds of the row and of those before it
  first_of : (older : List Row) (r : Row) → dispatches set c older r ≡ true → (waiting r ≡ true) × (list_all (λ o. not (waiting o)) older ≡ true)
  first_of older r h =
      let a = and_parts _ _ h in
      let b = and_parts _ _ a.0 in
      let d = and_parts _ _ b.0 in
      let e = and_parts _ _ d.0 in
      let f = and_parts _ _ e.0 in
      let i = and_parts _ _ f.0 in
      let j = and_parts _ _ i.0 in
      (j.0, i.1)

  none_still : (ys rest : List Row) → pick waiting (ys ++ rest) ≡ [] → Still set c ys rest
  none_still [] rest e = tt
  none_still (y ∷ ys) rest e =
      let n = not_picked waiting y (ys ++ rest) e in
      (off (dispatches set c (ys ++ rest) y) (λ h. both (first_of (ys ++ rest) y h).0 n.0), none_still ys rest n.1)

  -- behind a waiting row none is
  blocked : (ys older : List Row) (r : Row) → waiting r ≡ true → list_all (λ o. not (waiting o)) (ys ++ (r ∷ older)) ≡ true → ⊥
  blocked [] older r w h = both w (flip (waiting r) (and_parts (not (waiting r)) (list_all (λ o. not (waiting o)) older) h).0)
    where
      flip : (b : Bool) → not b ≡ true → b ≡ false
      flip true e = absurd cc
      flip false e = refl
  blocked (y ∷ ys) older r w h = blocked ys older r w (and_parts (not (waiting y)) (list_all (λ o. not (waiting o)) (ys ++ (r ∷ older))) h).1

  left_still : (left older : List Row) (r : Row) → waiting r ≡ true → Still set c left (r ∷ older)
  left_still [] older r w = tt
  left_still (y ∷ left) older r w =
      (off (dispatches set c (left ++ (r ∷ older)) y) (λ h. blocked left older r w (first_of (left ++ (r ∷ older)) y h).1), left_still left older r w)

  still_join : (xs ys rest : List Row) → Still set c xs (ys ++ rest) → Still set c ys rest → Still set c (xs ++ ys) rest
  still_join [] ys rest h k = k
  still_join (x ∷ xs) ys rest h k = (subst (λ l. dispatches set c l x ≡ false) (sym (joint xs ys rest)) h.0, still_join xs ys rest h.1 k)

  head_still : (left passed rest : List Row) (r : Row) → waiting r ≡ true → pick waiting (passed ++ rest) ≡ [] → dispatches set c (passed ++ rest) r ≡ false → Still set c (left ++ (r ∷ passed)) rest
  head_still left passed rest r w none e = still_join left (r ∷ passed) rest (left_still left (passed ++ rest) r w) (e, none_still passed rest none)

-- ---- a turn

module _ (g : Given) (sound : IsSound g) (c n : ℕ) (called : Bool) (old : Parts) (fits : Fits c 64 old) (younger older : List Row) (k : Dispatching g c n called younger older old) where
  abbrev set : Setting
  set = setting_of g

  abbrev turned : List Row
  turned = sweep (dispatch_row set c) older

  fit_now : Each (Fit set c) (younger ++ turned)
  fit_now = fit_part set (greatest_fetch_of g.hier) (greatest_load_of g.hier) (bounded g sound) c younger older k.rows

  -- the oldest waiting row, which is the last of the front
  pub record Head (h : FetchRow) : Type 0 where
    pub left : List Row
    pub row : Row
    pub passed : List Row
    pub is : younger ≡ left ++ (row ∷ passed)
    pub waits : Waits g h (record { row = row; older = passed ++ turned })
    pub at : waiting row ≡ true
    pub none : pick waiting (passed ++ turned) ≡ []

  pub head_at : (h : FetchRow) → oldest old.front.rows ≡ Some h → Head h
  head_at h e =
      let ends = ends_in old.front.rows h e in
      let it = zip_end (Waits g) (take (length old.front.rows - 1) old.front.rows) h (pick waiting (younger ++ turned))
      (subst (λ l. AllZip (Waits g) l (pick waiting (younger ++ turned))) ends k.stands.rows.front) in
      let o = oldest_of waiting younger turned it.0 it.1 k.passed it.2 in
      record { left = o.left; row = o.row; passed = o.passed; is = o.is; waits = subst (Waits g h) o.place it.3; at = o.passes; none = o.none }

  module _ (h : FetchRow) (e : Head h) where
    all_rows : younger ++ turned ≡ e.left ++ (e.row ∷ (e.passed ++ turned))
    all_rows = ap (λ l. l ++ turned) e.is ∙ joint e.left (e.row ∷ e.passed) turned

    rows_then : (after_issue set c).rows ≡ e.left ++ (e.row ∷ (e.passed ++ older))
    rows_then = k.rows ∙ (ap (λ l. l ++ older) e.is ∙ joint e.left (e.row ∷ e.passed) older)

    fit_here : Each (Fit set c) (e.left ++ (e.row ∷ (e.passed ++ turned)))
    fit_here = subst (Each (Fit set c)) all_rows fit_now

    fit_row : Fit set c (e.passed ++ turned) e.row
    fit_row = (in_middle (Fit set c) e.left (e.passed ++ turned) e.row fit_here).0

    fit_rest : Each (Fit set c) (e.passed ++ turned)
    fit_rest = (in_middle (Fit set c) e.left (e.passed ++ turned) e.row fit_here).1

    young : Each (λ _ o. waiting o ≡ true) e.left
    young = waits_all e.left (e.passed ++ turned) e.row (each_of (Fit set c) Newest (λ o r f. f.newest) (e.left ++ (e.row ∷ (e.passed ++ turned))) fit_here) e.at

    fresh : Fresh e.left
    fresh = fresh_left e.left young

    stands_here : Stands g c true old (record (after_issue set c) { rows = e.left ++ (e.row ∷ (e.passed ++ turned)) })
    stands_here = subst (λ x. Stands g c true old (record (after_issue set c) { rows = x })) all_rows k.stands

    next_is : next_of (e.left ++ (e.row ∷ (e.passed ++ turned))) (after_issue set c).next_fetch ≡ as_next e.row
    next_is = next_oldest set e.left (e.passed ++ turned) e.row (after_issue set c).next_fetch e.at e.none

    pub ready : Ready g old e.row h (e.passed ++ turned)
    ready =
        record {
          waits = e.waits;
          run = k.stands.run;
          wrong = stands_here.states.wrong ∙ ap (λ (m : NextFetch). not m.right) next_is;
          view = stands_here.states.view ∙ ap (λ (m : NextFetch). m.state) next_is;
          clean = k.stands.states.clean;
          at = (in_middle (λ _ r. AtState r.fetched) e.left (e.passed ++ older) e.row (subst (Each (λ _ r. AtState r.fetched)) rows_then (stands_at g sound c))).0;
        }

    -- ---- the test

    passed_late : Each (λ _ o. is_at c o.dispatched ≡ false) e.passed
    passed_late =
        (in_middle (λ _ o. is_at c o.dispatched ≡ false) e.left e.passed e.row
        (subst (Each (λ _ o. is_at c o.dispatched ≡ false)) e.is
        (front_of (λ o. is_at c o.dispatched ≡ false) younger older
        (each_of (λ _ o. Where o.dispatched (λ d. d < c)) (λ _ o. is_at c o.dispatched ≡ false) (λ _ o w. not_at c o.dispatched w) (younger ++ older)
        (subst (Each (λ _ o. Where o.dispatched (λ d. d < c))) k.rows (not_yet set c)))))).1

    no_calls : (rows : List Row) → Each (λ _ o. is_at c o.dispatched ≡ false) rows → Each (λ _ o. (is_at c o.dispatched && (execution set o).call) ≡ false) rows
    no_calls [] f = tt
    no_calls (o ∷ rows) f = (ap (λ b. b && (execution set o).call) f.0, no_calls rows f.1)

    unset_row : (e.row.dispatched ≡ None) × (e.row.squashed ≡ None)
    unset_row = unset e.row e.at

    lived : live e.row ≡ false
    lived = ap (λ m. is_some m && is_none e.row.committed && is_none e.row.squashed) unset_row.0

    zip_unit : AllZip (Lives g) old.unit.rows (pick live (e.passed ++ turned))
    zip_unit =
        subst (AllZip (Lives g) old.unit.rows)
        (pick_young live live_dispatched e.left (e.row ∷ (e.passed ++ turned)) fresh ∙ pick_skip live e.row (e.passed ++ turned) lived) stands_here.rows.unit

    zip_queue : AllZip (Holds set (suc c)) old.queue.entries (pick (in_queue set) (e.passed ++ turned))
    zip_queue =
        subst (AllZip (Holds set (suc c)) old.queue.entries)
        (pick_young (in_queue set) (λ o f. live_dispatched o (and_parts (live o) (uses_memory (execution set o).memory) f).0) e.left (e.row ∷ (e.passed ++ turned)) fresh
        ∙ pick_skip (in_queue set) e.row (e.passed ++ turned) (ap (λ b. b && uses_memory (execution set e.row).memory) lived)) stands_here.rows.queue

    pub counts : Counts set c n called old (e.passed ++ turned)
    counts =
        record {
          config = k.stands.run.config;
          size = fits.sizes.unit ∙ ap (λ (o : OooConfig). o.ruu) k.stands.run.config;
          queue_size = fits.sizes.queue ∙ ap (λ (o : OooConfig). o.lsq) k.stands.run.config;
          unit = sym (pick_length live (e.passed ++ turned)) ∙ sym (zip_length (Lives g) old.unit.rows (pick live (e.passed ++ turned)) zip_unit);
          queue = sym (pick_length (in_queue set) (e.passed ++ turned)) ∙ sym (zip_length (Holds set (suc c)) old.queue.entries (pick (in_queue set) (e.passed ++ turned)) zip_queue);
          count = count_over (λ o. is_at c o.dispatched) e.passed turned passed_late ∙ k.count;
          call = any_over (λ o. is_at c o.dispatched && (execution set o).call) e.passed turned (no_calls e.passed passed_late) ∙ k.call;
        }

    passed_rows : Passed (e.passed ++ turned)
    passed_rows = none_passed (e.passed ++ turned) e.none

    settled_is : settled set (e.left ++ (e.row ∷ (e.passed ++ turned))) ≡ settled set (e.passed ++ turned)
    settled_is =
        settled_young set e.left (e.row ∷ (e.passed ++ turned)) fresh
        ∙ ap (λ b. state_after set (cond b (Some e.row) (find (λ r. r.fetched.right && is_some r.dispatched) (e.passed ++ turned))))
        (ap (λ m. e.row.fetched.right && is_some m) unset_row.0 ∙ and_false e.row.fetched.right)

    base_is : state_of old.arch ≡ settled set (e.passed ++ turned)
    base_is = stands_here.states.base ∙ settled_is

    ended_is : old.arch.ended ≡ (settled set (e.passed ++ turned)).ended
    ended_is = ap (λ (s : State). s.ended) base_is

    by_end : (m : Option ℕ) → old.arch.ended ≡ m → e.row.fetched.right ≡ false → list_any (exited set) (e.passed ++ turned) ≡ is_some m
    by_end None f w = exits_none g c (e.passed ++ turned) fit_rest (sym ended_is ∙ f)
    by_end (Some code) f w =
        exits_some g c (e.passed ++ turned) fit_rest (ap is_some (sym ended_is ∙ f))
        (last_some set (suc c) (dispatch_row set c) (λ before r. (same_dispatch set c before r).0) e.passed older
        ((in_middle (Route set (suc c)) e.left (e.passed ++ older) e.row (subst (Each (Route set (suc c))) rows_then (route_three set (greatest_fetch_of g.hier) (greatest_load_of g.hier) (bounded g sound) c).0)).0.strays w unset_row.1)
        passed_rows (each_of (Fit set c) (λ _. Untouched) (λ o r f. f.stays) (e.passed ++ turned) fit_rest))

    right_by : e.row.fetched.right ≡ true → (o : Outcome) → step_of g.trace (state_of old.arch) ≡ o
        → dispatches set c (e.passed ++ turned) e.row ≡ (nat_lt e.row.fetched.queued c && enters (right_verdict n called old o))
    right_by w (Halt why) f = halt_test set c n called old (e.passed ++ turned) e.row counts e.at (all_passed (e.passed ++ turned) passed_rows) why w (stops why f)
      where
        stops : (why : Cause) → step_of g.trace (state_of old.arch) ≡ Halt why → (execution set e.row).stops ≡ true
        stops why f = ap (λ (x : Execution). x.stops) (right_halts g old e.row h (e.passed ++ turned) ready why w f)
    right_by w (Next did after) f =
        let exec = right_is g old e.row h (e.passed ++ turned) ready did after w f in
        let p = performs g.trace (state_of old.arch) did after f in
        next_test set c n called old (e.passed ++ turned) e.row counts e.at (all_passed (e.passed ++ turned) passed_rows) did after w
        (ap (λ (x : Execution). x.stops) exec) (sym (ap (λ (x : Execution). x.call) exec))
        (use_memory (access_of did.instr.op) did.access p.uses ∙ sym (ap (λ (x : Execution). uses_memory x.memory) exec))
        (exits_none g c (e.passed ++ turned) fit_rest (sym ended_is ∙ p.ended))

    wrong_by : e.row.fetched.right ≡ false → dispatches set c (e.passed ++ turned) e.row ≡ (nat_lt e.row.fetched.queued c && enters (wrong_verdict n called old (wrong_act old h.pc)))
    wrong_by w =
        wrong_test set c n called old (e.passed ++ turned) e.row counts e.at (all_passed (e.passed ++ turned) passed_rows) (wrong_act old h.pc) w (by_end old.arch.ended refl w)
        (λ running. (wrong_is g old e.row h (e.passed ++ turned) ready (wrong_act old h.pc) w refl running).call)
        (λ running no_call. memory (wrong_act old h.pc) ((wrong_is g old e.row h (e.passed ++ turned) ready (wrong_act old h.pc) w refl running).way no_call))
      where
        memory : (act : WrongAct) → Way e.row.fetched.state e.row.fetched.pc (execution set e.row) act → (is_some act.changes && has_access act.instr) ≡ uses_memory (execution set e.row).memory
        memory act (Idles none x) = ap (λ m. is_some m && has_access act.instr) none ∙ sym (ap (λ (y : Execution). uses_memory y.memory) x)
        memory act (Makes ch some uses x) =
            ap (λ m. is_some m && has_access act.instr) some
            ∙ (use_memory (access_of act.instr.op) ch.access uses ∙ sym (ap (λ (y : Execution). uses_memory y.memory) x))

    -- the verdict is the table's test
    pub tested : dispatches set c (e.passed ++ turned) e.row ≡ (nat_lt e.row.fetched.queued c && enters (verdict_at g.trace n called old (Some h)))
    tested = by_path e.row.fetched.right refl
      where
        by_path : (w : Bool) → e.row.fetched.right ≡ w
            → dispatches set c (e.passed ++ turned) e.row
            ≡ (nat_lt e.row.fetched.queued c && enters (cond old.wrong (wrong_verdict n called old (wrong_act old h.pc)) (right_verdict n called old (step_of g.trace (state_of old.arch)))))
        by_path true w =
            right_by w (step_of g.trace (state_of old.arch)) refl
            ∙ sym (ap (λ b. nat_lt e.row.fetched.queued c && enters (cond b (wrong_verdict n called old (wrong_act old h.pc)) (right_verdict n called old (step_of g.trace (state_of old.arch))))) (ready.wrong ∙ ap not w))
        by_path false w =
            wrong_by w
            ∙ sym (ap (λ b. nat_lt e.row.fetched.queued c && enters (cond b (wrong_verdict n called old (wrong_act old h.pc)) (right_verdict n called old (step_of g.trace (state_of old.arch))))) (ready.wrong ∙ ap not w))

    -- ---- the rows between have no turn

    passed_over : sweep (dispatch_row set c) (e.passed ++ older) ≡ e.passed ++ turned
    passed_over = swept_still set c e.passed older (none_still set c e.passed turned e.none)

    -- where the row is dispatched
    module _ (yes : dispatches set c (e.passed ++ turned) e.row ≡ true) where
      does : dispatches set c (sweep (dispatch_row set c) (e.passed ++ older)) e.row ≡ true
      does = ap (λ l. dispatches set c l e.row) passed_over ∙ yes

      row_then : sweep (dispatch_row set c) (e.row ∷ (e.passed ++ older)) ≡ marked c e.row ∷ (e.passed ++ turned)
      row_then =
          ap (λ x. x ∷ sweep (dispatch_row set c) (e.passed ++ older))
          (cond-true (dispatches set c (sweep (dispatch_row set c) (e.passed ++ older)) e.row) (marked c e.row) e.row does)
          ∙ ap (λ l. marked c e.row ∷ l) passed_over

      early : e.row.fetched.at < c
      early =
          let q : e.row.fetched.queued < c = ltb-true e.row.fetched.queued c (admitted set c (e.passed ++ turned) e.row yes).queued in
          omega (arith, q, fit_row.own.queue)

      going : Going g c e.left (e.passed ++ turned) e.row h (after_issue set c).next_fetch
      going =
          record {
            waits = e.waits;
            at = e.at;
            none = e.none;
            young = young;
            early = early;
            fit = fit_row;
            fits = fit_rest;
            linked = subst (λ l. Linked set l (after_issue set c).next_fetch) all_rows (within_dispatch set c younger older k.rows).linked;
          }

      pub dispatching : (new : Parts) (s : Station) (addr : ℕ) (b : Bool) → Enters c addr h s old new → Enacts g old new e.row h s addr → b ≡ (execution set e.row).call
          → Dispatching g c (suc n) (called || b) e.left (e.row ∷ (e.passed ++ older)) new
      dispatching new s addr b enter en calls =
          record {
            rows = rows_then;
            stands =
                subst (λ x. Stands g c true new (record (after_issue set c) { rows = e.left ++ x })) (sym row_then)
                (stands_after g c e.left (e.passed ++ turned) e.row h (after_issue set c).next_fetch going s addr old new en (after_issue set c) refl enter stands_here);
            count =
                ap (count_by (λ o. is_at c o.dispatched)) row_then
                ∙ (count_take (λ o. is_at c o.dispatched) (marked c e.row) (e.passed ++ turned) (same_number c) ∙ (ap (λ m. 1 + m) counts.count ∙ one_more n));
            call =
                ap (list_any (λ o. is_at c o.dispatched && (execution set o).call)) row_then
                ∙ (ap (λ x. (x && (execution set e.row).call) || list_any (λ o. is_at c o.dispatched && (execution set o).call) (e.passed ++ turned)) (same_number c)
                ∙ (ap (λ x. (execution set e.row).call || x) counts.call ∙ (swap (execution set e.row).call called ∙ ap (λ x. called || x) (sym calls))));
            passed = ap (pick waiting) row_then ∙ e.none;
          }
        where
          swap : (x y : Bool) → (x || y) ≡ (y || x)
          swap true true = refl
          swap true false = refl
          swap false true = refl
          swap false false = refl

      pub dispatches_as : (b : Bool) → b ≡ (execution set e.row).call → DispatchesAs g c h.row b e.row (e.passed ++ older)
      dispatches_as b calls =
          record { dispatches = does; number = e.waits.row ∙ (ap length (sym passed_over) ∙ length_sweep (dispatch_row set c) (e.passed ++ older)); call = calls }

  -- ---- the stage is over

  is_over : Still set c younger turned → Stands g c true old (after_dispatch set c)
  is_over still =
      subst (λ l. Stands g c true old (record (after_issue set c) { rows = l }))
      (sym (ap (sweep (dispatch_row set c)) k.rows ∙ swept_still set c younger older still)) k.stands

  abbrev goes_on : List Row → Row → Bool
  goes_on before o = not (stops_machine set c before o)

  -- what a stop finds
  pub record Stopping (before : List Row) (o : Row) : Type 0 where
    pub waits : waiting o ≡ true
    pub queued : nat_lt o.fetched.queued c ≡ true
    pub passed : list_all (λ o. not (waiting o)) before ≡ true
    pub right : o.fetched.right ≡ true
    pub stops : (execution set o).stops ≡ true
    pub gone : (count_by live before == 0) ≡ true

  stopping : (before : List Row) (o : Row) → stops_machine set c before o ≡ true → Stopping before o
  stopping before o h =
      let a = and_parts _ _ h in
      let b = and_parts _ _ a.0 in
      let d = and_parts _ _ b.0 in
      let e = and_parts _ _ d.0 in
      let f = and_parts _ _ e.0 in
      record { waits = f.0; queued = f.1; passed = e.1; right = d.1; stops = b.1; gone = a.1 }

  goes : (before : List Row) (o : Row) → (Stopping before o → ⊥) → goes_on before o ≡ true
  goes before o no_stop = ap not (off (stops_machine set c before o) (λ h. no_stop (stopping before o h)))

  -- a row that had its turn is no stop
  older_go : (rows : List Row) → pick waiting (sweep (dispatch_row set c) rows) ≡ [] → every goes_on rows ≡ true
  older_go [] e = refl
  older_go (o ∷ rows) e =
      let p = not_picked waiting (dispatch_row set c (sweep (dispatch_row set c) rows) o) (sweep (dispatch_row set c) rows) e in
      ap (λ b. b && every goes_on rows) (goes rows o (λ s. both s.waits (sym (ap waiting (kept s)) ∙ p.0))) ∙ older_go rows p.1
    where
      kept : Stopping rows o → dispatch_row set c (sweep (dispatch_row set c) rows) o ≡ o
      kept s = cond-false (dispatches set c (sweep (dispatch_row set c) rows) o) (marked c o) o
          (off (dispatches set c (sweep (dispatch_row set c) rows) o) (λ h. both (enters_so (admitted set c (sweep (dispatch_row set c) rows) o h).may) (ap not s.stops)))
        where
          enters_so : may_enter set (sweep (dispatch_row set c) rows) o ≡ true → not (execution set o).stops ≡ true
          enters_so m =
              (and_parts (not (execution set o).stops) (not (execution set o).call || (count_by live (sweep (dispatch_row set c) rows) == 0))
              (sym (cond-true o.fetched.right (not (execution set o).stops && (not (execution set o).call || (count_by live (sweep (dispatch_row set c) rows) == 0))) (not (execution set o).call) s.right) ∙ m)).0

  passed_go : (ys rest : List Row) → Each (λ _ o. waiting o ≡ false) ys → every goes_on rest ≡ true → every goes_on (ys ++ rest) ≡ true
  passed_go [] rest p e = e
  passed_go (y ∷ ys) rest p e = ap (λ b. b && every goes_on (ys ++ rest)) (goes (ys ++ rest) y (λ s. both s.waits p.0)) ∙ passed_go ys rest p.1 e

  left_go : (left rest : List Row) (r : Row) → waiting r ≡ true → every goes_on (r ∷ rest) ≡ true → every goes_on (left ++ (r ∷ rest)) ≡ true
  left_go [] rest r w e = e
  left_go (y ∷ left) rest r w e =
      ap (λ b. b && every goes_on (left ++ (r ∷ rest))) (goes (left ++ (r ∷ rest)) y (λ s. blocked set c left rest r w s.passed)) ∙ left_go left rest r w e

  no_stop_at : every goes_on (after_issue set c).rows ≡ true → stops_in set c (table set c) ≡ false
  no_stop_at e = ap not e

  front_passed : (ys rest : List Row) → pick waiting (ys ++ rest) ≡ [] → Each (λ _ o. waiting o ≡ false) ys
  front_passed [] rest e = tt
  front_passed (y ∷ ys) rest e = let p = not_picked waiting y (ys ++ rest) e in (p.0, front_passed ys rest p.1)

  over_by : Still set c younger turned → every goes_on (after_issue set c).rows ≡ true → DispatchIsOver g c false old
  over_by still go = record { stands = is_over still; stops = no_stop_at go }

  -- no row waits
  pub over_none : pick waiting (younger ++ turned) ≡ [] → DispatchIsOver g c false old
  over_none e =
      over_by (none_still set c younger turned e)
      (ap (every goes_on) k.rows ∙ passed_go younger older (front_passed younger turned e) (older_go older k.passed))

  -- turns leave rows as they are, where no row is live behind them
  same_rows : (rows : List Row) → Each (RowFacts set c) rows → pick live (sweep (dispatch_row set c) rows) ≡ [] → sweep (dispatch_row set c) rows ≡ rows
  same_rows [] f e = refl
  same_rows (o ∷ rows) f e =
      let p = not_picked live (dispatch_row set c (sweep (dispatch_row set c) rows) o) (sweep (dispatch_row set c) rows) e in
      ap (λ x. x ∷ sweep (dispatch_row set c) rows) (cond-false (dispatches set c (sweep (dispatch_row set c) rows) o) (marked c o) o (off (dispatches set c (sweep (dispatch_row set c) rows) o) (λ h. dead h p.0)))
      ∙ ap (λ l. o ∷ l) (same_rows rows f.1 p.1)
    where
      uncommitted : (m d : Option ℕ) → (is_some m ≡ true → is_some d ≡ true) → d ≡ None → is_none m ≡ true
      uncommitted None d f e = refl
      uncommitted (Some x) d f e = absurd (both (f refl) (ap is_some e))

      dead : dispatches set c (sweep (dispatch_row set c) rows) o ≡ true → live (dispatch_row set c (sweep (dispatch_row set c) rows) o) ≡ false → ⊥
      dead h l =
          let u = unset o (first_of set c (sweep (dispatch_row set c) rows) o h).0 in
          let now : live (marked c o) ≡ true = ap (λ b. b && is_none o.squashed) (uncommitted o.committed o.dispatched f.0.left u.0) ∙ ap is_none u.1 in
          both now (sym (ap live (cond-true (dispatches set c (sweep (dispatch_row set c) rows) o) (marked c o) o h)) ∙ l)

  none_live : (rows : List Row) → pick live rows ≡ [] → Each (λ _ o. live o ≡ false) rows
  none_live [] e = tt
  none_live (o ∷ rows) e = let p = not_picked live o rows e in (p.0, none_live rows p.1)

  tail_of : (P : List Row → Row → Type 0) (ys rest : List Row) → Each P (ys ++ rest) → Each P rest
  tail_of P [] rest h = h
  tail_of P (y ∷ ys) rest h = tail_of P ys rest h.1

  pick_tail : (p : Row → Bool) (ys rest : List Row) → pick p (ys ++ rest) ≡ [] → pick p rest ≡ []
  pick_tail p [] rest e = e
  pick_tail p (y ∷ ys) rest e = pick_tail p ys rest (not_picked p y (ys ++ rest) e).1

  none_zip : (us : List unit.Row) (ps : List Placed) → (length us == 0) ≡ true → AllZip (Lives g) us ps → ps ≡ []
  none_zip [] [] e z = refl
  none_zip [] (p ∷ ps) e z = absurd z
  none_zip (u ∷ us) ps e z = absurd (omega (arith, eqb-true (length (u ∷ us)) 0 e))

  older_facts : Each (RowFacts set c) older
  older_facts = tail_of (RowFacts set c) younger older (subst (Each (RowFacts set c)) k.rows (facts_three set c))

  all_waiting : (rows : List Row) → list_all (λ o. not (waiting o)) rows ≡ true → pick waiting rows ≡ []
  all_waiting [] h = refl
  all_waiting (o ∷ rows) h =
      let p = and_parts (not (waiting o)) (list_all (λ o. not (waiting o)) rows) h in
      ap (λ b. cond b (record { row = o; older = rows } ∷ pick waiting rows) (pick waiting rows)) (flip (waiting o) p.0) ∙ all_waiting rows p.1
    where
      flip : (b : Bool) → not b ≡ true → b ≡ false
      flip true e = absurd cc
      flip false e = refl

  -- where none of them waits, none has a turn
  pub unturned : (ys : List Row) → list_all (λ o. not (waiting o)) (ys ++ older) ≡ true → ys ++ turned ≡ ys ++ older
  unturned ys h =
      ap (λ l. ys ++ l)
      (ap (sweep (dispatch_row set c)) (sym (end older)) ∙ (swept_still set c older [] (none_still set c older [] (subst (λ l. pick waiting l ≡ []) (sym (end older)) (pick_tail waiting ys older (all_waiting (ys ++ older) h)))) ∙ end older))
    where
      end : (rows : List Row) → rows ++ [] ≡ rows
      end [] = refl
      end (o ∷ rows) = ap (λ l. o ∷ l) (end rows)

  -- ---- where the oldest waiting row isn't dispatched

  module _ (h : FetchRow) (e : Head h) (no_turn : dispatches set c (e.passed ++ turned) e.row ≡ false) where
    still_there : Still set c younger turned
    still_there = subst (λ l. Still set c l turned) (sym e.is) (head_still set c e.left e.passed turned e.row e.at e.none no_turn)

    pub over_head : (Stopping (e.passed ++ older) e.row → ⊥) → DispatchIsOver g c false old
    over_head no_stop =
        over_by still_there
        (ap (every goes_on) (rows_then h e)
        ∙ left_go e.left (e.passed ++ older) e.row e.at
        (ap (λ b. b && every goes_on (e.passed ++ older)) (goes (e.passed ++ older) e.row no_stop)
        ∙ passed_go e.passed older (front_passed e.passed turned e.none) (older_go older k.passed)))

    -- it stops where nothing is live
    pub stops_head : (nat_lt e.row.fetched.queued c ≡ true) → e.row.fetched.right ≡ true → (execution set e.row).stops ≡ true → is_empty old ≡ true → DispatchIsOver g c true old
    stops_head queued w stops empty =
        record {
          stands = is_over still_there;
          stops = (stops_there set c).stop (
            e.left,
            e.passed ++ older,
            e.row,
            rows_then h e,
            record {
              waits = e.at;
              queued = ltb-true e.row.fetched.queued c queued;
              right = w;
              stops = stops;
              passed = subst Passed unchanged (passed_rows h e);
              gone = subst (Each (λ _ o. live o ≡ false)) unchanged (none_live (e.passed ++ turned) none_there);
            },
          );
        }
      where
        none_there : pick live (e.passed ++ turned) ≡ []
        none_there = none_zip old.unit.rows (pick live (e.passed ++ turned)) empty (zip_unit h e)

        unchanged : e.passed ++ turned ≡ e.passed ++ older
        unchanged = ap (λ l. e.passed ++ l) (same_rows older older_facts (pick_tail live e.passed turned none_there))
