-- What the calls of a turn ask, where a row is let in.
use Rattle.std.proofs.Common.{◌≡◌, ℕ, ◌+◌, ◌<◌, ◌≤◌, Bool, true, false, cond, List, [], ◌∷◌, Option, Some, None, refl, sym, ap, ◌∙◌, subst, arith, length}
use Rattle.std.specs.Prelude.{◌&&◌, ◌||◌, ◌==◌, not, nat_lt, is_some, is_none, unwrap_or, count_by}
use Rattle.std.proofs.lemmas.Bool.{and_parts, lt-ltb, ltb-true}
use Rattle.std.proofs.lemmas.List.{length-map}
use Rattle.pisa_isa.specs.Classes.{access_of}
use Rattle.pisa_isa.specs.Coding.{IsWellFormed}
use Rattle.pisa_step.specs.declared.cause.Cause.{Cause}
use Rattle.pisa_step.specs.declared.changes.Changes.{Changes}
use Rattle.paged_mem.specs.Memory.{IsReserved}
use Rattle.event_trace.specs.declared.trace.Trace.{Trace}
use Rattle.sim_safe.specs.declared.record.CommitRecord.{CommitRecord}
use Rattle.sim_safe.specs.State.{State, Storage, state_of, reader_of}
use Rattle.sim_safe.specs.Step.{Outcome, Next, Halt, TakesNoMemory, is_call, step_of}
use Rattle.lsq_core.specs.Queue as lsq
use Rattle.lsq_core.specs.Queue.{Entry, Queue}
use Rattle.ruu_core.specs.declared.station.Station.{Station}
use Rattle.ruu_core.specs.Window as unit
use Rattle.ruu_core.specs.Window.{Window, MayEnter, IsStation, is_load_kind, is_store_kind}
use Rattle.ooo_front.specs.declared.row.FetchRow.{FetchRow}
use Rattle.ooo_front.specs.Fetching.{FrontEnd}
use Rattle.core_parts.specs.declared.addresses.MemoryRow.{MemoryRow}
use Rattle.core_parts.specs.declared.parts.Parts.{Parts}
use Rattle.core_parts.specs.Fits.{Fits, IsBehind, Tag, queue_tags, address_tags}
use Rattle.core_parts.proofs.Lists.{count_cons}
use Rattle.core_dispatch.specs.declared.verdict.WrongAct.{WrongAct}
use Rattle.core_dispatch.specs.declared.verdict.Verdict.{Verdict}
use Rattle.core_dispatch.specs.declared.verdict.Verdict.TheVariants as verdict
use Rattle.core_dispatch.specs.Verdict.{Admits, has_access, has_place, head_of, is_empty, right_verdict, wrong_act, wrong_verdict, verdict_at, verdict_of}
use Rattle.core_dispatch.specs.Turn.{Enters, EntersRight, EntersWrong, FindsMemory, HasRight, HasWrong, Keeps, MakesAny, TakesEntry, access_in, is_memory, right_station, wrong_station}
use Rattle.core_dispatch.proofs.Entry.{head_is}
use Rattle.core_dispatch.proofs.Performed.{performs, performed_formed}
use Rattle.core_dispatch.proofs.Turned.{right_of, wrong_of}

-- ---- places

pub record Opens (parts : Parts) (memory : Bool) : Type 0 where
  pub unit : length parts.unit.rows < parts.unit.size
  pub queue : memory ≡ true → length parts.queue.entries < parts.queue.size

pub opens : (n : ℕ) (called : Bool) (parts : Parts) (memory : Bool) → has_place n called parts memory ≡ true → Opens parts memory
opens n called parts memory h =
    let a = and_parts _ _ h in
    let b = and_parts _ _ a.0 in
    let d = and_parts _ _ b.0 in
    record {
      unit = ltb-true (length parts.unit.rows) parts.unit.size d.1;
      queue = λ e. ltb-true (length parts.queue.entries) parts.queue.size (by_memory memory e b.1);
    }
  where
    by_memory : (m : Bool) → m ≡ true → (not m || nat_lt (length parts.queue.entries) parts.queue.size) ≡ true → nat_lt (length parts.queue.entries) parts.queue.size ≡ true
    by_memory true e h = h
    by_memory false e h = absurd cc

-- ---- the row

-- the oldest waiting row, where there is one that a turn lets in
pub record Found (trace : Trace) (c n : ℕ) (called : Bool) (parts : Parts) (v : Verdict) : Type 0 where
  pub head : FetchRow
  pub first : head_of c parts ≡ Some head
  pub is : verdict_at trace n called parts (Some head) ≡ v

pub found : (trace : Trace) (c n : ℕ) (called : Bool) (parts : Parts) (v : Verdict) → (v ≡ verdict.Stays → ⊥) → verdict_of trace c n called parts ≡ v → Found trace c n called parts v
found trace c n called parts v other e = by_head (head_of c parts) refl e
  where
    by_head : (m : Option FetchRow) → head_of c parts ≡ m → verdict_at trace n called parts m ≡ v → Found trace c n called parts v
    by_head None f e = absurd (other (sym e))
    by_head (Some h) f e = record { head = h; first = f; is = e }

right_stays : verdict.Right ≡ verdict.Stays → ⊥
right_stays e = cc

wrong_stays : (act : WrongAct) → verdict.Wrong act ≡ verdict.Stays → ⊥
wrong_stays act e = cc

-- ---- right rows

pub record IsRight (trace : Trace) (n : ℕ) (called : Bool) (parts : Parts) : Type 0 where
  pub did : CommitRecord
  pub after : State
  pub step : step_of trace (state_of parts.arch) ≡ Next did after
  pub place : has_place n called parts (has_access did.instr) ≡ true

pub right_found : (trace : Trace) (n : ℕ) (called : Bool) (parts : Parts) (h : FetchRow) → verdict_at trace n called parts (Some h) ≡ verdict.Right → IsRight trace n called parts
right_found trace n called parts h e =
    by_step (step_of trace (state_of parts.arch)) refl
    (sym (ap (λ b. cond b (wrong_verdict n called parts (wrong_act parts h.pc)) (right_verdict n called parts (step_of trace (state_of parts.arch)))) (right_of trace n called parts h e)) ∙ e)
  where
    stops : (b : Bool) (why : Cause) → cond b (verdict.Stops why) verdict.Stays ≡ verdict.Right → ⊥
    stops true why e = cc
    stops false why e = cc

    lets : (a b : Bool) → cond (a && b) verdict.Right verdict.Stays ≡ verdict.Right → a ≡ true
    lets true b e = refl
    lets false b e = absurd cc

    by_step : (o : Outcome) → step_of trace (state_of parts.arch) ≡ o → right_verdict n called parts o ≡ verdict.Right → IsRight trace n called parts
    by_step (Halt why) s e = absurd (stops (is_empty parts) why e)
    by_step (Next did after) s e = record { did = did; after = after; step = s; place = lets (has_place n called parts (has_access did.instr)) (not (is_call did.instr.op) || is_empty parts) e }

-- ---- what calls ask

above : (m : Option ℕ) (f : FrontEnd) (row : ℕ) → IsBehind m f → row + length f.rows ≡ f.row → unit.is_above m row ≡ true
above None f row b e = refl
above (Some last) f row b e = lt-ltb last row (omega (arith, b, e))

above_queue : (m : Option ℕ) (f : FrontEnd) (row : ℕ) → IsBehind m f → row + length f.rows ≡ f.row → lsq.is_above m row ≡ true
above_queue None f row b e = refl
above_queue (Some last) f row b e = lt-ltb last row (omega (arith, b, e))

same_length : (entries : List Entry) (rows : List MemoryRow) → queue_tags entries ≡ address_tags rows → length entries ≡ length rows
same_length entries rows e =
    sym (length-map entries (λ (x : Entry). record { row = x.row; store = x.store }))
    ∙ (ap (length {A = Tag}) e ∙ length-map rows (λ (x : MemoryRow). record { row = x.row; store = x.store }))

pub enters_unit : (c : ℕ) (parts : Parts) (s : Station) → Fits c 64 parts → length parts.unit.rows < parts.unit.size → s.row + length parts.front.rows ≡ parts.front.row → IsStation s
    → MayEnter parts.unit s c
enters_unit c parts s f room number station =
    record { room = room; rises = above parts.unit.last parts.front s.row f.agree.behind number; time = f.time.unit; station = station }

pub enters_queue : (c : ℕ) (parts : Parts) (row : ℕ) → Fits c 64 parts → length parts.queue.entries < parts.queue.size → row + length parts.front.rows ≡ parts.front.row
    → TakesEntry parts.queue parts.addresses row
enters_queue c parts row f room number =
    record {
      room = room;
      rises = above_queue parts.queue.last parts.front row f.agree.memory_behind number;
      addresses =
          let n : length parts.queue.entries ≡ length parts.addresses.rows = same_length parts.queue.entries parts.addresses.rows (f.agree.queue ∙ sym f.agree.addresses) in
          omega (arith, n, room, f.sizes.queue, f.sizes.addresses);
    }

-- ---- of a right row

pub right_head : (trace : Trace) (c : ℕ) (parts : Parts) → HasRight trace c parts → (h : FetchRow) × (head_of c parts ≡ Some h)
right_head trace c parts (n, called, v) = let it = found trace c n called parts verdict.Right right_stays v in (it.head, it.first)

pub right_is_not_wrong : (trace : Trace) (c n : ℕ) (called : Bool) (parts : Parts) → verdict_of trace c n called parts ≡ verdict.Right → parts.wrong ≡ false
right_is_not_wrong trace c n called parts v =
    let it = found trace c n called parts verdict.Right right_stays v in right_of trace n called parts it.head it.is

pub right_no_halt : (trace : Trace) (c : ℕ) (parts : Parts) (why : Cause) → HasRight trace c parts → Halt why ≡ step_of trace (state_of parts.arch) → ⊥
right_no_halt trace c parts why (n, called, v) e =
    let it = found trace c n called parts verdict.Right right_stays v in
    differ (right_found trace n called parts it.head it.is).did (right_found trace n called parts it.head it.is).after (e ∙ (right_found trace n called parts it.head it.is).step)
  where
    differ : (did : CommitRecord) (after : State) → Halt why ≡ Next did after → ⊥
    differ did after e = cc

right_opens : (trace : Trace) (c : ℕ) (parts : Parts) (did : CommitRecord) (after : State) → HasRight trace c parts → Next did after ≡ step_of trace (state_of parts.arch) → Opens parts (has_access did.instr)
right_opens trace c parts did after (n, called, v) e =
    let it = found trace c n called parts verdict.Right right_stays v in
    let r = right_found trace n called parts it.head it.is in
    let same : r.did ≡ did = same_did r.did r.after (sym r.step ∙ sym e) in
    subst (λ (d : CommitRecord). Opens parts (has_access d.instr)) same (opens n called parts (has_access r.did.instr) r.place)
  where
    same_did : (d : CommitRecord) (a : State) → Next d a ≡ Next did after → d ≡ did
    same_did d a e = cc

right_station_is : (trace : Trace) (s : State) (h : FetchRow) (did : CommitRecord) (after : State) → Next did after ≡ step_of trace s → IsStation (right_station h did)
right_station_is trace s h did after e = record { well_formed = performed_formed s did after (performs trace s did after (sym e)); recorded = refl }

pub right_enters : (trace : Trace) (c : ℕ) (parts : Parts) (h : FetchRow) (did : CommitRecord) (after : State) → Fits c 64 parts → HasRight trace c parts
    → Next did after ≡ step_of trace (state_of parts.arch) → h.row + length parts.front.rows ≡ parts.front.row → MayEnter parts.unit (right_station h did) c
right_enters trace c parts h did after f r e number =
    enters_unit c parts (right_station h did) f (right_opens trace c parts did after r e).unit number (right_station_is trace (state_of parts.arch) h did after e)

pub right_takes : (trace : Trace) (c : ℕ) (parts : Parts) (h : FetchRow) (did : CommitRecord) (after : State) → Fits c 64 parts → HasRight trace c parts
    → Next did after ≡ step_of trace (state_of parts.arch) → h.row + length parts.front.rows ≡ parts.front.row → is_memory (right_station h did) ≡ true
    → TakesEntry parts.queue parts.addresses h.row
right_takes trace c parts h did after f r e number memory = enters_queue c parts h.row f ((right_opens trace c parts did after r e).queue memory) number

-- ---- of a wrong one

pub wrong_head : (act : WrongAct) (c : ℕ) (parts : Parts) → HasWrong act c parts → (h : FetchRow) × (head_of c parts ≡ Some h)
wrong_head act c parts (trace, n, called, v) = let it = found trace c n called parts (verdict.Wrong act) (wrong_stays act) v in (it.head, it.first)

wrong_opens : (act : WrongAct) (c : ℕ) (parts : Parts) → HasWrong act c parts → Opens parts (is_some act.changes && has_access act.instr)
wrong_opens act c parts (trace, n, called, v) =
    let it = found trace c n called parts (verdict.Wrong act) (wrong_stays act) v in
    opens n called parts (is_some act.changes && has_access act.instr) (wrong_of trace n called parts it.head act it.is).place

-- fewer effects were applied than there may be
pub wrong_room : (act : WrongAct) (c : ℕ) (parts : Parts) → Fits c 64 parts → HasWrong act c parts → parts.overlay.applied < parts.overlay.size
wrong_room act c parts f w =
    let o = (wrong_opens act c parts w).unit in
    omega (arith, o, f.agree.applied, few parts.unit.rows, f.sizes.unit, f.sizes.overlay)
  where
    few : (rows : List unit.Row) → count_by (λ (u : unit.Row). u.station.wrong) rows ≤ length rows
    few [] = omega arith
    few (u ∷ rows) = by_wrong u.station.wrong (count_cons (λ (u : unit.Row). u.station.wrong) u rows) (few rows)
      where
        by_wrong : (b : Bool) → count_by (λ (u : unit.Row). u.station.wrong) (u ∷ rows) ≡ cond b 1 0 + count_by (λ (u : unit.Row). u.station.wrong) rows
            → count_by (λ (u : unit.Row). u.station.wrong) rows ≤ length rows → count_by (λ (u : unit.Row). u.station.wrong) (u ∷ rows) ≤ length (u ∷ rows)
        by_wrong true e ih = omega (arith, e, ih)
        by_wrong false e ih = omega (arith, e, ih)

wrong_memory : (m : Option Changes) (a b : Bool) → ((not (is_none m) && a) || (not (is_none m) && b)) ≡ true → (is_some m && (a || b)) ≡ true
wrong_memory None a b e = absurd cc
wrong_memory (Some x) a b e = e

pub wrong_enters : (act : WrongAct) (c : ℕ) (parts : Parts) (h : FetchRow) → Fits c 64 parts → HasWrong act c parts → IsWellFormed act.instr
    → h.row + length parts.front.rows ≡ parts.front.row → MayEnter parts.unit (wrong_station h act) c
wrong_enters act c parts h f w formed number =
    enters_unit c parts (wrong_station h act) f (wrong_opens act c parts w).unit number (record { well_formed = formed; recorded = refl })

pub wrong_takes : (act : WrongAct) (c : ℕ) (parts : Parts) (h : FetchRow) → Fits c 64 parts → HasWrong act c parts
    → h.row + length parts.front.rows ≡ parts.front.row → is_memory (wrong_station h act) ≡ true → TakesEntry parts.queue parts.addresses h.row
wrong_takes act c parts h f w number memory =
    enters_queue c parts h.row f
    ((wrong_opens act c parts w).queue (wrong_memory act.changes (is_load_kind (access_of act.instr.op)) (is_store_kind (access_of act.instr.op)) memory)) number

-- ---- answers

pub right_admits : (n : ℕ) (called : Bool) (parts : Parts) (o : Outcome) → Admits (right_verdict n called parts o)
right_admits n called parts (Halt why) = by_empty (is_empty parts)
  where
    by_empty : (b : Bool) → Admits (cond b (verdict.Stops why) verdict.Stays)
    by_empty true = tt
    by_empty false = tt
right_admits n called parts (Next did after) = by_place (has_place n called parts (has_access did.instr) && (not (is_call did.instr.op) || is_empty parts))
  where
    by_place : (b : Bool) → Admits (cond b verdict.Right verdict.Stays)
    by_place true = tt
    by_place false = tt

-- what a right row writes, as it was found before the look
pub memory_found : (trace : Trace) (c n : ℕ) (called : Bool) (old later : Parts) → later ≡ old → verdict_of trace c n called old ≡ verdict.Right → FindsMemory trace old
    → TakesNoMemory trace later.arch.pages (step_of trace (state_of later.arch))
memory_found trace c n called old later e v m =
    subst (λ (p : Parts). TakesNoMemory trace p.arch.pages (step_of trace (state_of p.arch))) (sym e) (m (right_is_not_wrong trace c n called old v))

-- ---- a row that entered

pub enters_right : (trace : Trace) (c : ℕ) (old new : Parts) (head : FetchRow) (did : CommitRecord) (s : Station) (addr : ℕ) (b : Bool) → HasRight trace c old
    → Next did (state_of new.arch) ≡ step_of trace (state_of old.arch) → s ≡ right_station head did → addr ≡ unwrap_or did.access 0 → b ≡ is_call did.instr.op → Enters c addr head s old new
    → new.overlay ≡ old.overlay → new.wrong ≡ not (head.next == did.next) → EntersRight trace c old new head.row b
enters_right trace c old new head did s addr b r e station address call l over wrong =
    let found = right_head trace c old r in
    record {
      head = head;
      did = did;
      after = state_of new.arch;
      first = head_is c old.front new.front head found.0 l.front found.1;
      steps = sym e;
      formed = performed_formed (state_of old.arch) did (state_of new.arch) (performs trace (state_of old.arch) did (state_of new.arch) (sym e));
      row = refl;
      call = call;
      enters = subst (λ x. Enters c (unwrap_or did.access 0) head x old new) station (subst (λ a. Enters c a head s old new) address l);
      state = refl;
      overlay = over;
      wrong = wrong;
    }

pub enters_wrong : (act : WrongAct) (c : ℕ) (old new : Parts) (head : FetchRow) (s : Station) (addr : ℕ) → HasWrong act c old → IsWellFormed act.instr
    → s ≡ wrong_station head act → addr ≡ access_in act.changes → Enters c addr head s old new
    → new.arch ≡ old.arch → MakesAny (reader_of old.arch) act.changes old.overlay new.overlay → new.wrong ≡ old.wrong → EntersWrong act c old new head.row false
enters_wrong act c old new head s addr w formed station address l arch over wrong =
    let found = wrong_head act c old w in
    record {
      head = head;
      first = head_is c old.front new.front head found.0 l.front found.1;
      formed = formed;
      row = refl;
      call = refl;
      enters = subst (λ x. Enters c (access_in act.changes) head x old new) station (subst (λ a. Enters c a head s old new) address l);
      arch = arch;
      overlay = over;
      wrong = wrong;
    }

-- ---- what stays of the state

pub keeps_all : (old new : Storage) → new ≡ old → Keeps old new
keeps_all old new e = subst (Keeps old) (sym e) (record { pages = λ number h. h; text = refl })

pub keeps_same : (old new : Storage) → ((number : ℕ) → IsReserved old.pages number → IsReserved new.pages number) → state_of new ≡ state_of old → Keeps old new
keeps_same old new pages e = record { pages = pages; text = ap (λ (s : State). s.text) e }

pub keeps_done : (trace : Trace) (old new : Storage) (did : CommitRecord) → ((number : ℕ) → IsReserved old.pages number → IsReserved new.pages number)
    → Next did (state_of new) ≡ step_of trace (state_of old) → Keeps old new
keeps_done trace old new did pages e = record { pages = pages; text = (performs trace (state_of old) did (state_of new) (sym e)).text }
