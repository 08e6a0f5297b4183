-- The verdict on the oldest waiting row is the test of the table.
use Rattle.std.proofs.Common.{◌≡◌, ℕ, Bool, true, false, cond, List, [], ◌∷◌, ◌++◌, refl, sym, ap, ◌∙◌, length}
use Rattle.std.specs.Prelude.{◌&&◌, ◌||◌, ◌==◌, not, nat_lt, is_some, count_by}
use Rattle.std.specs.List.{list_any, list_all}
use Rattle.pisa_step.specs.declared.cause.Cause.{Cause}
use Rattle.sim_safe.specs.declared.record.CommitRecord.{CommitRecord}
use Rattle.sim_safe.specs.State.{State}
use Rattle.sim_safe.specs.Step.{Next, Halt, is_call}
use Rattle.ooo_table.specs.declared.config.OooConfig.{OooConfig}
use Rattle.ooo_table.specs.Row.{Row, is_at}
use Rattle.ooo_table.specs.Execution.{uses_memory}
use Rattle.ooo_table.specs.Table.{Setting}
use Rattle.ooo_table.specs.Path.{execution, is_exit}
use Rattle.ooo_table.specs.Done.{live, waiting}
use Rattle.ooo_table.specs.Dispatch.{dispatches}
use Rattle.core_parts.specs.declared.parts.Parts.{Parts}
use Rattle.core_dispatch.specs.declared.verdict.WrongAct.{WrongAct}
use Rattle.core_dispatch.specs.declared.verdict.Verdict.{Verdict}
use Rattle.core_dispatch.specs.declared.verdict.Verdict.TheVariants as verdict
use Rattle.core_dispatch.specs.Verdict.{has_access, is_empty, has_place, right_verdict, wrong_verdict}

-- the verdict lets the row enter
abbrev pub enters : Verdict → Bool
enters verdict.Stays = false
enters (verdict.Stops why) = false
enters verdict.Right = true
enters (verdict.Wrong act) = true

enters_right : (b : Bool) → enters (cond b verdict.Right verdict.Stays) ≡ b
enters_right true = refl
enters_right false = refl

enters_wrong : (b : Bool) (act : WrongAct) → enters (cond b (verdict.Wrong act) verdict.Stays) ≡ b
enters_wrong true act = refl
enters_wrong false act = refl

enters_stop : (b : Bool) (why : Cause) → enters (cond b (verdict.Stops why) verdict.Stays) ≡ false
enters_stop true why = refl
enters_stop false why = refl

-- what the rows before it say, by the parts
pub record Counts (set : Setting) (c n : ℕ) (called : Bool) (old : Parts) (rest : List Row) : Type 0 where
  pub config : old.config ≡ set.config
  pub size : old.unit.size ≡ set.config.ruu
  pub queue_size : old.queue.size ≡ set.config.lsq
  pub unit : count_by live rest ≡ length old.unit.rows
  pub queue : count_by (λ o. live o && uses_memory (execution set o).memory) rest ≡ length old.queue.entries
  pub count : count_by (λ o. is_at c o.dispatched) rest ≡ n
  pub call : list_any (λ o. is_at c o.dispatched && (execution set o).call) rest ≡ called

-- the table's test by its parts
abbrev test : (w q l width room mem queue may call exit : Bool) → Bool
test w q l width room mem queue may call exit = (w && q && l) && width && (room && (not mem || queue)) && may && not call && not exit

abbrev place : (width room mem queue call : Bool) → Bool
place width room mem queue call = width && room && (not mem || queue) && not call

test_halt : (w q l width room mem queue call exit : Bool) → test w q l width room mem queue false call exit ≡ false
test_halt w q l width room mem queue call exit = by_value ((w && q && l) && width && (room && (not mem || queue)))
  where
    by_value : (a : Bool) → (a && false && not call && not exit) ≡ false
    by_value true = refl
    by_value false = refl

test_next : (q width room mem queue x call : Bool) → test true q true width room mem queue (true && x) call false ≡ (q && (place width room mem queue call && x))
test_next q width room mem queue x call = by_value q width room (not mem || queue) call x
  where
    by_value : (q width room m call x : Bool) → ((true && q && true) && width && (room && m) && (true && x) && not call && not false) ≡ (q && ((width && room && m && not call) && x))
    by_value false width room m call x = refl
    by_value true false room m call x = refl
    by_value true true false m call x = refl
    by_value true true true false call x = refl
    by_value true true true true true true = refl
    by_value true true true true true false = refl
    by_value true true true true false true = refl
    by_value true true true true false false = refl

test_wrong : (q width room mem queue calls call exit : Bool)
    → test true q true width room mem queue (not calls) call exit ≡ (q && (not exit && not calls && place width room mem queue call))
test_wrong q width room mem queue calls call exit = by_value q width room (not mem || queue) calls call exit
  where
    by_value : (q width room m calls call exit : Bool)
        → ((true && q && true) && width && (room && m) && not calls && not call && not exit) ≡ (q && (not exit && not calls && (width && room && m && not call)))
    by_value false width room m calls call exit = refl
    by_value true false room m true call true = refl
    by_value true false room m true call false = refl
    by_value true false room m false call true = refl
    by_value true false room m false call false = refl
    by_value true true false m true call true = refl
    by_value true true false m true call false = refl
    by_value true true false m false call true = refl
    by_value true true false m false call false = refl
    by_value true true true false true call true = refl
    by_value true true true false true call false = refl
    by_value true true true false false call true = refl
    by_value true true true false false call false = refl
    by_value true true true true true call true = refl
    by_value true true true true true call false = refl
    by_value true true true true false true true = refl
    by_value true true true true false true false = refl
    by_value true true true true false false true = refl
    by_value true true true true false false false = refl

module _ (set : Setting) (c n : ℕ) (called : Bool) (old : Parts) (rest : List Row) (r : Row) (k : Counts set c n called old rest)
    (at : waiting r ≡ true) (passed : list_all (λ o. not (waiting o)) rest ≡ true) where
  -- the same with what the parts hold
  abbrev mem : Bool
  mem = uses_memory (execution set r).memory

  abbrev may : Bool → Bool
  may w = cond w (not (execution set r).stops && (not (execution set r).call || (count_by live rest == 0))) (not (execution set r).call)

  abbrev exits : Bool
  exits = list_any (λ o. is_some o.dispatched && is_exit set o) rest

  tested : (w : Bool) → r.fetched.right ≡ w
      → dispatches set c rest r
      ≡ test true (nat_lt r.fetched.queued c) true (nat_lt n old.config.decode) (nat_lt (length old.unit.rows) old.unit.size) mem (nat_lt (length old.queue.entries) old.queue.size) (may w) called exits
  tested w e =
      joined (waiting r) (nat_lt r.fetched.queued c) (list_all (λ o. not (waiting o)) rest) (count_by (λ o. is_at c o.dispatched) rest) n set.config old.config
      (count_by live rest) (length old.unit.rows) old.unit.size (count_by (λ o. live o && uses_memory (execution set o).memory) rest) (length old.queue.entries) old.queue.size
      r.fetched.right w (not (execution set r).stops && (not (execution set r).call || (count_by live rest == 0))) (not (execution set r).call)
      (list_any (λ o. is_at c o.dispatched && (execution set o).call) rest) called exits
      at passed k.count k.config k.unit k.size k.queue k.queue_size e k.call
    where
      joined : (a q l : Bool) (m m' : ℕ) (s s' : OooConfig) (u u' us v v' vs : ℕ) (w w' x y d d' z : Bool)
          → a ≡ true → l ≡ true → m ≡ m' → s' ≡ s → u ≡ u' → us ≡ s.ruu → v ≡ v' → vs ≡ s.lsq → w ≡ w' → d ≡ d'
          → ((a && q && l) && nat_lt m s.decode && (nat_lt u s.ruu && (not mem || nat_lt v s.lsq)) && cond w x y && not d && not z)
          ≡ test true q true (nat_lt m' s'.decode) (nat_lt u' us) mem (nat_lt v' vs) (cond w' x y) d' z
      joined a q l m m' s s' u u' us v v' vs w w' x y d d' z e1 e2 e3 e4 e5 e6 e7 e8 e9 e10 = rw (e1, e2, e3, e4, e5, e6, e7, e8, e9, e10) refl

  -- a right row that can't be done
  pub halt_test : (why : Cause) → r.fetched.right ≡ true → (execution set r).stops ≡ true
      → dispatches set c rest r ≡ (nat_lt r.fetched.queued c && enters (right_verdict n called old (Halt why)))
  halt_test why w stops =
      tested true w
      ∙ (ap (λ b. test true (nat_lt r.fetched.queued c) true (nat_lt n old.config.decode) (nat_lt (length old.unit.rows) old.unit.size) mem (nat_lt (length old.queue.entries) old.queue.size)
      (not b && (not (execution set r).call || (count_by live rest == 0))) called exits) stops
      ∙ (test_halt true (nat_lt r.fetched.queued c) true (nat_lt n old.config.decode) (nat_lt (length old.unit.rows) old.unit.size) mem (nat_lt (length old.queue.entries) old.queue.size) called exits
      ∙ sym (ap (λ b. nat_lt r.fetched.queued c && b) (enters_stop (is_empty old) why) ∙ none (nat_lt r.fetched.queued c))))
    where
      none : (b : Bool) → (b && false) ≡ false
      none true = refl
      none false = refl

  -- one that is done
  pub next_test : (did : CommitRecord) (after : State) → r.fetched.right ≡ true → (execution set r).stops ≡ false → is_call did.instr.op ≡ (execution set r).call
      → has_access did.instr ≡ mem → exits ≡ false → dispatches set c rest r ≡ (nat_lt r.fetched.queued c && enters (right_verdict n called old (Next did after)))
  next_test did after w stops call access exit =
      tested true w
      ∙ (whole (execution set r).stops (execution set r).call (is_call did.instr.op) (count_by live rest) (length old.unit.rows) mem (has_access did.instr) exits stops call k.unit access exit
      ∙ sym (ap (λ b. nat_lt r.fetched.queued c && b) (enters_right (has_place n called old (has_access did.instr) && (not (is_call did.instr.op) || is_empty old)))))
    where
      whole : (s x x' : Bool) (u u' : ℕ) (m m' z : Bool) → s ≡ false → x' ≡ x → u ≡ u' → m' ≡ m → z ≡ false
          → test true (nat_lt r.fetched.queued c) true (nat_lt n old.config.decode) (nat_lt (length old.unit.rows) old.unit.size) m (nat_lt (length old.queue.entries) old.queue.size)
          (not s && (not x || (u == 0))) called z
          ≡ (nat_lt r.fetched.queued c && (place (nat_lt n old.config.decode) (nat_lt (length old.unit.rows) old.unit.size) m' (nat_lt (length old.queue.entries) old.queue.size) called && (not x' || (u' == 0))))
      whole s x x' u u' m m' z e1 e2 e3 e4 e5 =
          rw (e1, e2, e3, e4, e5)
          (test_next (nat_lt r.fetched.queued c) (nat_lt n old.config.decode) (nat_lt (length old.unit.rows) old.unit.size) m (nat_lt (length old.queue.entries) old.queue.size) (not x || (u' == 0)) called)

  -- a wrong one
  pub wrong_test : (act : WrongAct) → r.fetched.right ≡ false → exits ≡ is_some old.arch.ended
      → (is_some old.arch.ended ≡ false → is_call act.instr.op ≡ (execution set r).call)
      → (is_some old.arch.ended ≡ false → is_call act.instr.op ≡ false → (is_some act.changes && has_access act.instr) ≡ mem)
      → dispatches set c rest r ≡ (nat_lt r.fetched.queued c && enters (wrong_verdict n called old act))
  wrong_test act w exit calls access =
      tested false w
      ∙ (test_wrong (nat_lt r.fetched.queued c) (nat_lt n old.config.decode) (nat_lt (length old.unit.rows) old.unit.size) mem (nat_lt (length old.queue.entries) old.queue.size) (execution set r).call called exits
      ∙ ap (λ b. nat_lt r.fetched.queued c && b)
      (by_end exits (is_some old.arch.ended) exit calls access
      ∙ sym (enters_wrong (not (is_some old.arch.ended) && not (is_call act.instr.op) && has_place n called old (is_some act.changes && has_access act.instr)) act)))
    where
      room : Bool → Bool
      room m = place (nat_lt n old.config.decode) (nat_lt (length old.unit.rows) old.unit.size) m (nat_lt (length old.queue.entries) old.queue.size) called

      by_call : (x x' m m' : Bool) → x' ≡ x → (x' ≡ false → m' ≡ m) → (not x && room m) ≡ (not x' && room m')
      by_call true true m m' e f = refl
      by_call false false m m' e f = ap room (sym (f refl))
      by_call true false m m' e f = absurd cc
      by_call false true m m' e f = absurd cc

      by_end : (z z' : Bool) → z ≡ z' → (z' ≡ false → is_call act.instr.op ≡ (execution set r).call)
          → (z' ≡ false → is_call act.instr.op ≡ false → (is_some act.changes && has_access act.instr) ≡ mem)
          → (not z && not (execution set r).call && room mem) ≡ (not z' && not (is_call act.instr.op) && room (is_some act.changes && has_access act.instr))
      by_end true true e f h = refl
      by_end false false e f h = by_call (execution set r).call (is_call act.instr.op) mem (is_some act.changes && has_access act.instr) (f refl) (h refl)
      by_end true false e f h = absurd cc
      by_end false true e f h = absurd cc

-- ---- no row is dispatched

-- of these rows none is dispatched, behind others
abbrev pub Still : Setting → ℕ → List Row → List Row → Type 0
Still set c [] rest = Unit {0}
Still set c (y ∷ ys) rest = (dispatches set c (ys ++ rest) y ≡ false) × Still set c ys rest
