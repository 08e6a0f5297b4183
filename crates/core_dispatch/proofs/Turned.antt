-- Each answer of a turn over the parts is that of the table.
use Rattle.std.proofs.Common.{◌≡◌, ℕ, suc, ◌<◌, Bool, true, false, cond, List, [], ◌∷◌, ◌++◌, Option, Some, None, refl, sym, ap, ◌∙◌, subst, arith, length}
use Rattle.std.specs.Prelude.{◌&&◌, ◌||◌, ◌==◌, ◌-◌, not, nat_lt, slice_get, is_some, unwrap_or, count_by}
use Rattle.std.specs.List.{AllZip}
use Rattle.event_trace.specs.declared.trace.Trace.{Trace}
use Rattle.pisa_step.specs.declared.cause.Cause.{Cause}
use Rattle.sim_safe.specs.State.{state_of}
use Rattle.sim_safe.specs.Step.{Outcome, Next, Halt, is_call, step_of}
use Rattle.ooo_front.specs.declared.row.FetchRow.{FetchRow}
use Rattle.ooo_front.specs.Stands.{oldest, queued_before}
use Rattle.ooo_table.specs.Row.{Row, sweep}
use Rattle.ooo_table.specs.Execution.{Execution}
use Rattle.ooo_table.specs.Table.{Setting}
use Rattle.ooo_table.specs.Path.{execution}
use Rattle.ooo_table.specs.Done.{live, waiting}
use Rattle.ooo_table.specs.Dispatch.{dispatches, dispatch_row}
use Rattle.ooo_table.specs.Machine.{Given, setting_of}
use Rattle.ooo_table.specs.MachineLaws.{IsSound}
use Rattle.core_parts.specs.declared.answers.Dispatched.{Dispatched}
use Rattle.core_parts.specs.declared.answers.Dispatched.TheVariants as turn
use Rattle.core_parts.specs.declared.parts.Parts.{Parts}
use Rattle.core_parts.specs.Fits.{Fits}
use Rattle.core_parts.specs.Rows.{Placed, pick, Waits}
use Rattle.core_parts.specs.Stages.{Dispatching, DispatchesAs, DispatchIsOver, DispatchTurn}
use Rattle.core_dispatch.specs.declared.verdict.WrongAct.{WrongAct}
use Rattle.core_dispatch.specs.declared.verdict.Verdict.{Verdict}
use Rattle.core_dispatch.specs.declared.verdict.Verdict.TheVariants as verdict
use Rattle.core_dispatch.specs.Verdict.{has_access, has_place, is_empty, right_verdict, wrong_act, wrong_verdict, verdict_at, verdict_of}
use Rattle.core_dispatch.specs.Turn.{EntersRight, EntersWrong, TurnBy, Turns, access_in, right_station, wrong_station}
use Rattle.core_dispatch.proofs.Marked.{both}
use Rattle.core_dispatch.proofs.Enacting.{right_is, right_halts, right_enacts, wrong_is, wrong_enacts}
use Rattle.core_dispatch.proofs.Test.{enters}
use Rattle.core_dispatch.proofs.Whole.{Head, head_at, Stopping, ready, counts, tested, dispatching, dispatches_as, over_none, over_head, stops_head, unturned}

-- ---- the oldest waiting row

pub queued_some : (c : ℕ) (m : Option FetchRow) (h : FetchRow) → queued_before c m ≡ Some h → (m ≡ Some h) × (nat_lt h.queued c ≡ true)
queued_some c None h e = absurd cc
queued_some c (Some x) h e = by_test (nat_lt x.queued c) refl e
  where
    by_test : (b : Bool) → nat_lt x.queued c ≡ b → cond b (Some x) None ≡ Some h → (Some x ≡ Some h) × (nat_lt h.queued c ≡ true)
    by_test true f e =
        let same : x ≡ h = cc in (e, subst (λ (y : FetchRow). nat_lt y.queued c ≡ true) same f)
    by_test false f e = absurd cc

none_first : (rows : List FetchRow) → oldest rows ≡ None → rows ≡ []
none_first [] e = refl
none_first (x ∷ rows) e = absurd (some (x ∷ rows) (omega arith) e)
  where
    some : (rows : List FetchRow) → 0 < length rows → slice_get rows (length rows - 1) ≡ None → ⊥
    some [] lt e = absurd (omega arith)
    some (x ∷ []) lt e =
        let n : length (x ∷ []) - 1 ≡ 0 = omega arith in
        let f : Some x ≡ None = sym (ap (λ k. slice_get (x ∷ []) k) n) ∙ e in cc
    some (x ∷ (y ∷ rows)) lt e =
        let n : length (x ∷ (y ∷ rows)) - 1 ≡ suc (length (y ∷ rows) - 1) = omega arith in
        some (y ∷ rows) (omega arith) (sym (ap (λ k. slice_get (x ∷ (y ∷ rows)) k) n) ∙ e)

-- ---- what a verdict says

module _ (trace : Trace) (n : ℕ) (called : Bool) (parts : Parts) where
  right_not_wrong : (b : Bool) (act : WrongAct) → cond b (verdict.Wrong act) verdict.Stays ≡ verdict.Right → ⊥
  right_not_wrong true act e = cc
  right_not_wrong false act e = cc

  right_not_other : (b : Bool) (act : WrongAct) → cond b verdict.Right verdict.Stays ≡ verdict.Wrong act → ⊥
  right_not_other true act e = cc
  right_not_other false act e = cc

  stop_not_right : (b : Bool) (why : Cause) → cond b (verdict.Stops why) verdict.Stays ≡ verdict.Right → ⊥
  stop_not_right true why e = cc
  stop_not_right false why e = cc

  stop_not_wrong : (b : Bool) (why : Cause) (act : WrongAct) → cond b (verdict.Stops why) verdict.Stays ≡ verdict.Wrong act → ⊥
  stop_not_wrong true why act e = cc
  stop_not_wrong false why act e = cc

  pub right_of : (h : FetchRow) → verdict_at trace n called parts (Some h) ≡ verdict.Right → parts.wrong ≡ false
  right_of h e = by_wrong parts.wrong refl e
    where
      by_wrong : (b : Bool) → parts.wrong ≡ b
          → cond b (wrong_verdict n called parts (wrong_act parts h.pc)) (right_verdict n called parts (step_of trace (state_of parts.arch))) ≡ verdict.Right → parts.wrong ≡ false
      by_wrong true f e =
          absurd (right_not_wrong (not (is_some parts.arch.ended) && not (is_call (wrong_act parts h.pc).instr.op) && has_place n called parts (is_some (wrong_act parts h.pc).changes && has_access (wrong_act parts h.pc).instr)) (wrong_act parts h.pc) e)
      by_wrong false f e = f

  -- where a wrong row is let in
  pub record IsWrong (h : FetchRow) (act : WrongAct) : Type 0 where
    pub wrong : parts.wrong ≡ true
    pub is : act ≡ wrong_act parts h.pc
    pub running : is_some parts.arch.ended ≡ false
    pub no_call : is_call act.instr.op ≡ false
    pub place : has_place n called parts (is_some act.changes && has_access act.instr) ≡ true

  not_right_wrong : (o : Outcome) (act : WrongAct) → right_verdict n called parts o ≡ verdict.Wrong act → ⊥
  not_right_wrong (Halt why) act e = stop_not_wrong (is_empty parts) why act e
  not_right_wrong (Next did after) act e = right_not_other (has_place n called parts (has_access did.instr) && (not (is_call did.instr.op) || is_empty parts)) act e

  flip : (b : Bool) → not b ≡ true → b ≡ false
  flip true e = absurd cc
  flip false e = refl

  conj : (a b : Bool) → (a && b) ≡ true → (a ≡ true) × (b ≡ true)
  conj true true e = (refl, refl)
  conj true false e = absurd cc
  conj false b e = absurd cc

  pub wrong_of : (h : FetchRow) (act : WrongAct) → verdict_at trace n called parts (Some h) ≡ verdict.Wrong act → IsWrong h act
  wrong_of h act e = by_wrong parts.wrong refl e
    where
      found : WrongAct
      found = wrong_act parts h.pc

      by_test : (b : Bool) → (not (is_some parts.arch.ended) && not (is_call found.instr.op) && has_place n called parts (is_some found.changes && has_access found.instr)) ≡ b
          → parts.wrong ≡ true → cond b (verdict.Wrong found) verdict.Stays ≡ verdict.Wrong act → IsWrong h act
      by_test false t f e = absurd cc
      by_test true t f e =
          let same : found ≡ act = cc in
          let p = conj (not (is_some parts.arch.ended) && not (is_call found.instr.op)) (has_place n called parts (is_some found.changes && has_access found.instr)) t in
          let q = conj (not (is_some parts.arch.ended)) (not (is_call found.instr.op)) p.0 in
          subst (IsWrong h) same (record { wrong = f; is = refl; running = flip (is_some parts.arch.ended) q.0; no_call = flip (is_call found.instr.op) q.1; place = p.1 })

      by_wrong : (b : Bool) → parts.wrong ≡ b
          → cond b (wrong_verdict n called parts (wrong_act parts h.pc)) (right_verdict n called parts (step_of trace (state_of parts.arch))) ≡ verdict.Wrong act → IsWrong h act
      by_wrong true f e =
          by_test (not (is_some parts.arch.ended) && not (is_call found.instr.op) && has_place n called parts (is_some found.changes && has_access found.instr)) refl f e
      by_wrong false f e = absurd (not_right_wrong (step_of trace (state_of parts.arch)) act e)

  -- where the machine stops
  pub record IsStop (why : Cause) : Type 0 where
    pub wrong : parts.wrong ≡ false
    pub step : step_of trace (state_of parts.arch) ≡ Halt why
    pub empty : is_empty parts ≡ true

  wrong_not_stop : (b : Bool) (act : WrongAct) (why : Cause) → cond b (verdict.Wrong act) verdict.Stays ≡ verdict.Stops why → ⊥
  wrong_not_stop true act why e = cc
  wrong_not_stop false act why e = cc

  right_not_stop : (b : Bool) (why : Cause) → cond b verdict.Right verdict.Stays ≡ verdict.Stops why → ⊥
  right_not_stop true why e = cc
  right_not_stop false why e = cc

  pub stop_of : (h : FetchRow) (why : Cause) → verdict_at trace n called parts (Some h) ≡ verdict.Stops why → IsStop why
  stop_of h why e = by_wrong parts.wrong refl e
    where
      by_empty : (b : Bool) (w : Cause) → is_empty parts ≡ b → step_of trace (state_of parts.arch) ≡ Halt w → parts.wrong ≡ false → cond b (verdict.Stops w) verdict.Stays ≡ verdict.Stops why → IsStop why
      by_empty true w t s f e = let same : w ≡ why = cc in record { wrong = f; step = s ∙ ap Halt same; empty = t }
      by_empty false w t s f e = absurd cc

      by_step : (o : Outcome) → step_of trace (state_of parts.arch) ≡ o → parts.wrong ≡ false → right_verdict n called parts o ≡ verdict.Stops why → IsStop why
      by_step (Halt w) s f e = by_empty (is_empty parts) w refl s f e
      by_step (Next did after) s f e = absurd (right_not_stop (has_place n called parts (has_access did.instr) && (not (is_call did.instr.op) || is_empty parts)) why e)

      by_wrong : (b : Bool) → parts.wrong ≡ b
          → cond b (wrong_verdict n called parts (wrong_act parts h.pc)) (right_verdict n called parts (step_of trace (state_of parts.arch))) ≡ verdict.Stops why → IsStop why
      by_wrong true f e =
          absurd (wrong_not_stop (not (is_some parts.arch.ended) && not (is_call (wrong_act parts h.pc).instr.op) && has_place n called parts (is_some (wrong_act parts h.pc).changes && has_access (wrong_act parts h.pc).instr)) (wrong_act parts h.pc) why e)
      by_wrong false f e = by_step (step_of trace (state_of parts.arch)) refl f e

  -- no right row that can't be done stays where no row is live
  pub stays_not : (h : FetchRow) (why : Cause) → verdict_at trace n called parts (Some h) ≡ verdict.Stays → parts.wrong ≡ false → step_of trace (state_of parts.arch) ≡ Halt why → is_empty parts ≡ true → ⊥
  stays_not h why e f s t =
      differ (sym (ap (λ b. cond b (wrong_verdict n called parts (wrong_act parts h.pc)) (right_verdict n called parts (step_of trace (state_of parts.arch)))) f
      ∙ (ap (right_verdict n called parts) s ∙ ap (λ b. cond b (verdict.Stops why) verdict.Stays) t)) ∙ e)
    where
      differ : verdict.Stops why ≡ verdict.Stays → ⊥
      differ e = cc

-- ---- the answers

pub path_of : (b w : Bool) → b ≡ not w → b ≡ false → w ≡ true
path_of b true e f = refl
path_of b false e f = absurd (both (e) f)

wrong_path : (b w : Bool) → b ≡ not w → b ≡ true → w ≡ false
wrong_path b false e f = refl
wrong_path b true e f = absurd (both f e)

module _ (g : Given) (sound : IsSound g) (c n : ℕ) (called : Bool) (old : Parts) (fits : Fits c 64 old) (younger older : List Row) (k : Dispatching g c n called younger older old) where
  abbrev set : Setting
  set = setting_of g

  abbrev HeadAt : FetchRow → Type 0
  HeadAt h = Head g sound c n called old fits younger older k h

  abbrev rest_of : (h : FetchRow) → HeadAt h → List Row
  rest_of h e = e.passed ++ sweep (dispatch_row set c) older

  -- the outcome of a right row that can't be done
  halts : (h : FetchRow) (e : HeadAt h) → e.row.fetched.right ≡ true → (execution set e.row).stops ≡ true → (why : Cause) × (step_of g.trace (state_of old.arch) ≡ Halt why)
  halts h e w stops = by_step (step_of g.trace (state_of old.arch)) refl
    where
      by_step : (o : Outcome) → step_of g.trace (state_of old.arch) ≡ o → (why : Cause) × (o ≡ Halt why)
      by_step (Halt why) f = (why, refl)
      by_step (Next did after) f =
          absurd (both stops (ap (λ (x : Execution). x.stops) (right_is g old e.row h (rest_of h e) (ready g sound c n called old fits younger older k h e) did after w f)))

  no_stop : (h : FetchRow) (e : HeadAt h) → verdict_at g.trace n called old (Some h) ≡ verdict.Stays → Stopping g sound c n called old fits younger older k (e.passed ++ older) e.row → ⊥
  no_stop h e v s =
      let it = halts h e s.right s.stops in
      stays_not g.trace n called old h it.0 v ((ready g sound c n called old fits younger older k h e).wrong ∙ ap not s.right) it.1
      (ap (λ m. m == 0) (sym (counts g sound c n called old fits younger older k h e).unit)
      ∙ (ap (λ l. count_by live l == 0) (unturned g sound c n called old fits younger older k e.passed s.passed) ∙ s.gone))

  stays_queued : (h : FetchRow) (e : HeadAt h) (b : Bool) → nat_lt h.queued c ≡ b → verdict_at g.trace n called old (cond b (Some h) None) ≡ verdict.Stays → DispatchIsOver g c false old
  stays_queued h e false q v =
      let late : nat_lt e.row.fetched.queued c ≡ false = ap (λ m. nat_lt m c) (sym e.waits.queued) ∙ q in
      over_head g sound c n called old fits younger older k h e
      (tested g sound c n called old fits younger older k h e ∙ ap (λ b. b && enters (verdict_at g.trace n called old (Some h))) late) (λ s. both s.queued late)
  stays_queued h e true q v =
      over_head g sound c n called old fits younger older k h e
      (tested g sound c n called old fits younger older k h e ∙ (ap (λ y. nat_lt e.row.fetched.queued c && enters y) v ∙ none (nat_lt e.row.fetched.queued c))) (no_stop h e v)
    where
      none : (b : Bool) → (b && false) ≡ false
      none true = refl
      none false = refl

  no_waiting : (ps : List Placed) → AllZip (Waits g) [] ps → ps ≡ []
  no_waiting [] z = refl
  no_waiting (p ∷ ps) z = absurd z

  stays_over : (m : Option FetchRow) → oldest old.front.rows ≡ m → verdict_at g.trace n called old (queued_before c m) ≡ verdict.Stays → DispatchIsOver g c false old
  stays_over None f v =
      over_none g sound c n called old fits younger older k
      (no_waiting (pick waiting (younger ++ sweep (dispatch_row set c) older))
      (subst (λ l. AllZip (Waits g) l (pick waiting (younger ++ sweep (dispatch_row set c) older))) (none_first old.front.rows f) k.stands.rows.front))
  stays_over (Some h) f v = stays_queued h (head_at g sound c n called old fits younger older k h f) (nat_lt h.queued c) refl v

  stop_over : (why : Cause) (m : Option FetchRow) → oldest old.front.rows ≡ m → verdict_at g.trace n called old (queued_before c m) ≡ verdict.Stops why
      → DispatchIsOver g c true old × (step_of g.trace (state_of old.arch) ≡ Halt why)
  stop_over why None f v = absurd (differ v)
    where
      differ : verdict.Stays ≡ verdict.Stops why → ⊥
      differ e = cc
  stop_over why (Some h) f v = by_queued (nat_lt h.queued c) refl v
    where
      differ : verdict.Stays ≡ verdict.Stops why → ⊥
      differ e = cc

      e : HeadAt h
      e = head_at g sound c n called old fits younger older k h f

      by_queued : (b : Bool) → nat_lt h.queued c ≡ b → verdict_at g.trace n called old (cond b (Some h) None) ≡ verdict.Stops why
          → DispatchIsOver g c true old × (step_of g.trace (state_of old.arch) ≡ Halt why)
      by_queued false q v = absurd (differ v)
      by_queued true q v =
          let s = stop_of g.trace n called old h why v in
          let w : e.row.fetched.right ≡ true = path_of old.wrong e.row.fetched.right (ready g sound c n called old fits younger older k h e).wrong s.wrong in
          let stops : (execution set e.row).stops ≡ true =
          ap (λ (x : Execution). x.stops) (right_halts g old e.row h (rest_of h e) (ready g sound c n called old fits younger older k h e) why w s.step) in (
            stops_head g sound c n called old fits younger older k h e
                (tested g sound c n called old fits younger older k h e ∙ (ap (λ y. nat_lt e.row.fetched.queued c && enters y) v ∙ none (nat_lt e.row.fetched.queued c)))
                (ap (λ m. nat_lt m c) (sym e.waits.queued) ∙ q) w stops s.empty,
            s.step,
          )
        where
          none : (b : Bool) → (b && false) ≡ false
          none true = refl
          none false = refl

  -- the row enters
  pub yes_of : (h : FetchRow) (e : HeadAt h) (v : Verdict) → nat_lt h.queued c ≡ true → verdict_at g.trace n called old (Some h) ≡ v → enters v ≡ true
      → dispatches set c (e.passed ++ sweep (dispatch_row set c) older) e.row ≡ true
  yes_of h e v q is lets =
      tested g sound c n called old fits younger older k h e
      ∙ (ap (λ b. b && enters (verdict_at g.trace n called old (Some h))) (ap (λ m. nat_lt m c) (sym e.waits.queued) ∙ q) ∙ (ap enters is ∙ lets))

  right_turn : (new : Parts) (number : ℕ) (call : Bool) → verdict_of g.trace c n called old ≡ verdict.Right → EntersRight g.trace c old new number call
      → (left : List Row) × (r : Row) × (passed : List Row) × (younger ≡ left ++ (r ∷ passed))
      × DispatchesAs g c number call r (passed ++ older) × Dispatching g c (suc n) (called || call) left (r ∷ (passed ++ older)) new
  right_turn new number call v t =
      let q = queued_some c (oldest old.front.rows) t.head t.first in
      let e : HeadAt t.head = head_at g sound c n called old fits younger older k t.head q.0 in
      let is : verdict_at g.trace n called old (Some t.head) ≡ verdict.Right = ap (verdict_at g.trace n called old) (sym t.first) ∙ v in
      let yes = yes_of t.head e verdict.Right q.1 is refl in
      let rd = ready g sound c n called old fits younger older k t.head e in
      let w : e.row.fetched.right ≡ true = path_of old.wrong e.row.fetched.right rd.wrong (right_of g.trace n called old t.head is) in
      let exec = right_is g old e.row t.head (rest_of t.head e) rd t.did t.after w t.steps in
      let calls : call ≡ (execution set e.row).call = t.call ∙ sym (ap (λ (x : Execution). x.call) exec) in (
        e.left,
        e.row,
        e.passed,
        e.is,
        subst (λ m. DispatchesAs g c m call e.row (e.passed ++ older)) (sym t.row) (dispatches_as g sound c n called old fits younger older k t.head e yes call calls),
        dispatching g sound c n called old fits younger older k t.head e yes new (right_station t.head t.did) (unwrap_or t.did.access 0) call t.enters
            (right_enacts g old e.row t.head (rest_of t.head e) rd t.did t.after w t.steps new t.state t.overlay t.wrong) calls,
      )

  wrong_turn : (new : Parts) (act : WrongAct) (number : ℕ) (call : Bool) → verdict_of g.trace c n called old ≡ verdict.Wrong act → EntersWrong act c old new number call
      → (left : List Row) × (r : Row) × (passed : List Row) × (younger ≡ left ++ (r ∷ passed))
      × DispatchesAs g c number call r (passed ++ older) × Dispatching g c (suc n) (called || call) left (r ∷ (passed ++ older)) new
  wrong_turn new act number call v t =
      let q = queued_some c (oldest old.front.rows) t.head t.first in
      let e : HeadAt t.head = head_at g sound c n called old fits younger older k t.head q.0 in
      let is : verdict_at g.trace n called old (Some t.head) ≡ verdict.Wrong act = ap (verdict_at g.trace n called old) (sym t.first) ∙ v in
      let yes = yes_of t.head e (verdict.Wrong act) q.1 is refl in
      let rd = ready g sound c n called old fits younger older k t.head e in
      let a = wrong_of g.trace n called old t.head act is in
      let w : e.row.fetched.right ≡ false = wrong_path old.wrong e.row.fetched.right rd.wrong a.wrong in
      let d = wrong_is g old e.row t.head (rest_of t.head e) rd act w a.is a.running in
      let calls : call ≡ (execution set e.row).call = t.call ∙ (sym a.no_call ∙ d.call) in (
        e.left,
        e.row,
        e.passed,
        e.is,
        subst (λ m. DispatchesAs g c m call e.row (e.passed ++ older)) (sym t.row) (dispatches_as g sound c n called old fits younger older k t.head e yes call calls),
        dispatching g sound c n called old fits younger older k t.head e yes new (wrong_station t.head act) (access_in act.changes) call t.enters
            (wrong_enacts g old e.row t.head (rest_of t.head e) rd act w d a.no_call new t.arch t.overlay t.wrong) calls,
      )

-- ---- the turn

module _ (g : Given) (sound : IsSound g) (c n : ℕ) (called : Bool) (old new : Parts) (fits : Fits c 64 old) where
  by_verdict : (v : Verdict) (answer : Dispatched) → verdict_of g.trace c n called old ≡ v → TurnBy v g.trace c old new answer → DispatchTurn g c n called old new answer
  by_verdict verdict.Stays answer v t =
      subst (DispatchTurn g c n called old new) (sym t.0)
      (subst (λ x. DispatchTurn g c n called old x turn.Over) (sym t.1)
      (λ younger older k. stays_over g sound c n called old fits younger older k (oldest old.front.rows) refl v))
  by_verdict (verdict.Stops why) answer v t =
      subst (DispatchTurn g c n called old new) (sym t.0)
      (subst (λ x. DispatchTurn g c n called old x (turn.Stops why)) (sym t.1)
      (λ younger older k. stop_over g sound c n called old fits younger older k why (oldest old.front.rows) refl v))
  by_verdict verdict.Right (turn.Row number call) v t = λ younger older k. right_turn g sound c n called old fits younger older k new number call v t
  by_verdict verdict.Right turn.Over v t = absurd t
  by_verdict verdict.Right (turn.Stops why) v t = absurd t
  by_verdict verdict.Right turn.OutOfMemory v t = tt
  by_verdict (verdict.Wrong act) (turn.Row number call) v t = λ younger older k. wrong_turn g sound c n called old fits younger older k new act number call v t
  by_verdict (verdict.Wrong act) turn.Over v t = absurd t
  by_verdict (verdict.Wrong act) (turn.Stops why) v t = absurd t
  by_verdict (verdict.Wrong act) turn.OutOfMemory v t = absurd t

pub dispatch_turn : (g : Given) → IsSound g → (trace : Trace) → g.trace ≡ trace → (c n : ℕ) (called : Bool) (old new : Parts) (answer : Dispatched) → Fits c 64 old
    → Turns trace c n called old new answer → DispatchTurn g c n called old new answer
dispatch_turn g sound trace e c n called old new answer fits t =
    by_verdict g sound c n called old new fits (verdict_of g.trace c n called old) answer refl
    (subst (λ x. TurnBy (verdict_of x c n called old) x c old new answer) (sym e) t.turn)
