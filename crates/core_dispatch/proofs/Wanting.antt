-- A turn that wants memory is that of a right row which the table dispatches.
use Rattle.std.proofs.Common.{◌≡◌, ℕ, Bool, true, List, [], ◌∷◌, ◌++◌, Option, length, refl, sym, ◌∙◌}
use Rattle.std.specs.Option.{ForSome}
use Rattle.paged_mem.specs.Memory.{IsRangeReserved}
use Rattle.event_trace.specs.declared.trace.Block.{Block}
use Rattle.event_trace.specs.declared.trace.Trace.{Trace}
use Rattle.pisa_step.specs.declared.cause.Cause.{Cause}
use Rattle.sim_safe.specs.State.{Storage, state_of}
use Rattle.sim_safe.specs.Record.{call_by}
use Rattle.sim_safe.specs.Step.{Outcome, Next, Halt, AreBlocksReserved, TakesNoMemory}
use Rattle.ooo_front.specs.Stands.{oldest}
use Rattle.ooo_table.specs.Row.{Row, sweep}
use Rattle.ooo_table.specs.Path.{execution}
use Rattle.ooo_table.specs.Dispatch.{dispatches, dispatch_row}
use Rattle.ooo_table.specs.Machine.{Given, setting_of}
use Rattle.ooo_table.specs.MachineLaws.{IsSound}
use Rattle.core_parts.specs.declared.answers.Dispatched.TheVariants as turn
use Rattle.core_parts.specs.declared.parts.Parts.{Parts}
use Rattle.core_parts.specs.Fits.{Fits}
use Rattle.core_parts.specs.Stages.{Dispatching}
use Rattle.core_dispatch.specs.declared.verdict.Verdict.{Verdict}
use Rattle.core_dispatch.specs.declared.verdict.Verdict.TheVariants as verdict
use Rattle.core_dispatch.specs.Verdict.{verdict_of}
use Rattle.core_dispatch.specs.Turn.{Keeps, TurnBy, Turns}
use Rattle.core_dispatch.proofs.Admit.{found}
use Rattle.core_dispatch.proofs.Enacting.{state_now}
use Rattle.core_dispatch.proofs.Whole.{head_at, ready, dispatches_as}
use Rattle.core_dispatch.proofs.Turned.{path_of, queued_some, right_of, yes_of}

-- ---- pages that were reserved stay so

module _ (old new : Storage) (keeps : Keeps old new) where
  more_range : (address len : ℕ) → IsRangeReserved old.pages address len → IsRangeReserved new.pages address len
  more_range address len h number meets = keeps.pages number (h number meets)

  more_blocks : (blocks : List Block) → AreBlocksReserved old.pages blocks → AreBlocksReserved new.pages blocks
  more_blocks [] h = tt
  more_blocks (b ∷ blocks) h = (more_range b.addr (length b.bytes) h.0, more_blocks blocks h.1)

  more_some : {A : Type 0} (m : Option A) (P Q : A → Type 0) → ((x : A) → P x → Q x) → ForSome m P → ForSome m Q
  more_some m P Q f h x e = f x (h x e)

  pub takes_more : (trace : Trace) (o : Outcome) → TakesNoMemory trace old.pages o → TakesNoMemory trace new.pages o
  takes_more trace (Next did after) h =
      record {
        store = more_some did.mem (λ w. IsRangeReserved old.pages w.addr (length w.bytes.items)) (λ w. IsRangeReserved new.pages w.addr (length w.bytes.items))
            (λ w. more_range w.addr (length w.bytes.items)) h.store;
        blocks = more_some (call_by trace did.call) (λ x. AreBlocksReserved old.pages x.out_blocks) (λ x. AreBlocksReserved new.pages x.out_blocks)
            (λ x. more_blocks x.out_blocks) h.blocks;
      }
  takes_more trace (Halt why) h = tt

-- ---- the turn

module _ (trace : Trace) (c : ℕ) (old new : Parts) where
  right_by : (v : Verdict) → TurnBy v trace c old new turn.OutOfMemory → v ≡ verdict.Right
  right_by verdict.Stays t = absurd (other t.0)
    where
      other : turn.OutOfMemory ≡ turn.Over → ⊥
      other e = cc
  right_by (verdict.Stops why) t = absurd (other t.0)
    where
      other : turn.OutOfMemory ≡ turn.Stops why → ⊥
      other e = cc
  right_by verdict.Right t = refl
  right_by (verdict.Wrong act) t = absurd t

  pub wanting_right : (n : ℕ) (called : Bool) → Turns trace c n called old new turn.OutOfMemory → verdict_of trace c n called old ≡ verdict.Right
  wanting_right n called t = right_by (verdict_of trace c n called old) t.turn

-- the right row whose turn it is, which the table dispatches and which acts on the state as it is
pub record NextRight (g : Given) (c : ℕ) (old : Parts) (younger older : List Row) : Type 0 where
  pub left : List Row
  pub row : Row
  pub passed : List Row
  pub is : younger ≡ left ++ (row ∷ passed)
  pub turn : dispatches (setting_of g) c (sweep (dispatch_row (setting_of g) c) (passed ++ older)) row ≡ true
  pub right : row.fetched.right ≡ true
  pub state : state_of old.arch ≡ row.fetched.state

pub next_right : (g : Given) → IsSound g → (c n : ℕ) (called : Bool) (old : Parts) → Fits c 64 old → (younger older : List Row) → Dispatching g c n called younger older old
    → verdict_of g.trace c n called old ≡ verdict.Right → NextRight g c old younger older
next_right g sound c n called old fits younger older k v =
    let f = found g.trace c n called old verdict.Right differ v in
    let q = queued_some c (oldest old.front.rows) f.head f.first in
    let e = head_at g sound c n called old fits younger older k f.head q.0 in
    let yes = yes_of g sound c n called old fits younger older k f.head e verdict.Right q.1 f.is refl in
    let rd = ready g sound c n called old fits younger older k f.head e in
    let w : e.row.fetched.right ≡ true = path_of old.wrong e.row.fetched.right rd.wrong (right_of g.trace n called old f.head f.is) in
    record {
      left = e.left;
      row = e.row;
      passed = e.passed;
      is = e.is;
      turn = (dispatches_as g sound c n called old fits younger older k f.head e yes (execution (setting_of g) e.row).call refl).dispatches;
      right = w;
      state = state_now g old e.row f.head (e.passed ++ sweep (dispatch_row (setting_of g) c) older) rd w;
    }
  where
    differ : verdict.Right ≡ verdict.Stays → ⊥
    differ e = cc
