-- The parts fit together after a turn.
use Rattle.std.proofs.Common.{◌≡◌, ℕ, ◌+◌, ◌*◌, ◌≤◌, Bool, true, false, cond, List, [], ◌∷◌, ◌++◌, Option, Some, None, refl, sym, ap, ◌∙◌, subst, arith, length, length-append, map}
use Rattle.std.specs.Prelude.{All, filter, unwrap_or, count_by}
use Rattle.std.proofs.lemmas.List.Elements.{All-cons, All-head, All-tail, All-nil}
use Rattle.pisa_step.specs.declared.changes.Changes.{Changes}
use Rattle.event_trace.specs.declared.trace.Trace.{Trace}
use Rattle.sim_safe.specs.State.{State, Storage, state_of, reader_of}
use Rattle.pisa_step.specs.Reader.{Reader}
use Rattle.bpred_unit.specs.Stands.{cells_of, IsTop}
use Rattle.lsq_core.specs.Queue.{Queue}
use Rattle.spec_state.specs.Overlay.{Overlaid}
use Rattle.ruu_core.specs.declared.station.Station.{Station}
use Rattle.ruu_core.specs.Window as unit
use Rattle.ruu_core.specs.Window.{Window, is_store}
use Rattle.ooo_front.specs.declared.row.FetchRow.{FetchRow}
use Rattle.ooo_front.specs.Fetching.{FrontEnd}
use Rattle.core_parts.specs.declared.answers.Dispatched.{Dispatched}
use Rattle.core_parts.specs.declared.answers.Dispatched.TheVariants as turn
use Rattle.core_parts.specs.declared.parts.Parts.{Parts}
use Rattle.core_parts.specs.Addresses.{AddressList}
use Rattle.core_parts.specs.Fits as fits
use Rattle.core_parts.specs.Fits.{Fits, Tag, IsBehind, unit_tags, queue_tags, address_tags}
use Rattle.core_parts.proofs.Lists.{count_cons}
use Rattle.core_dispatch.specs.declared.verdict.WrongAct.{WrongAct}
use Rattle.core_dispatch.specs.declared.verdict.Verdict.{Verdict}
use Rattle.core_dispatch.specs.declared.verdict.Verdict.TheVariants as verdict
use Rattle.core_dispatch.specs.Verdict.{verdict_of}
use Rattle.core_dispatch.specs.Turn.{Enters, EntersRight, EntersWrong, StaysBefore, MakesAny, TurnBy, Turns, access_in, entry_of, address_at, entered_queue, entered_addresses, is_memory, right_station, wrong_station}
use Rattle.core_dispatch.proofs.Performed.{performs}

all_front : {X : Type 0} (P : X → Type 0) (xs : List X) (x : X) → All P (xs ++ (x ∷ [])) → All P xs
all_front P [] x h = All-nil P
all_front P (y ∷ xs) x h = All-cons P y xs (All-head P y (xs ++ (x ∷ [])) h) (all_front P xs x (All-tail P y (xs ++ (x ∷ [])) h))

all_last : {X : Type 0} (P : X → Type 0) (xs : List X) (x : X) → All P (xs ++ (x ∷ [])) → P x
all_last P [] x h = All-head P x [] h
all_last P (y ∷ xs) x h = all_last P xs x (All-tail P y (xs ++ (x ∷ [])) h)

-- ---- a row that enters

module _ (c addr : ℕ) (h : FetchRow) (s : Station) (old new : Parts) (l : Enters c addr h s old new) (f : Fits c 64 old)
    (row : s.row ≡ h.row) (top : s.top ≡ h.top) (more : new.arch.icnt ≤ old.arch.icnt + 1) (size : new.overlay.size ≡ old.overlay.size)
    (applied : new.overlay.applied ≤ old.overlay.applied + cond {A = ℕ} s.wrong 1 0) where
  rows_were : old.front.rows ≡ new.front.rows ++ (h ∷ [])
  rows_were = ap (λ (x : FrontEnd). x.rows) l.front

  one_less : length old.front.rows ≡ length new.front.rows + 1
  one_less = ap (length {A = FetchRow}) rows_were ∙ length-append new.front.rows (h ∷ [])

  next_row : old.front.row ≡ new.front.row
  next_row = ap (λ (x : FrontEnd). x.row) l.front

  behind_less : (m : Option ℕ) → IsBehind m old.front → IsBehind m new.front
  behind_less None b = tt
  behind_less (Some last) b = omega (arith, b, one_less, next_row)

  behind_now : IsBehind (Some s.row) new.front
  behind_now = omega (arith, l.number, row, one_less, next_row)

  memory_behind_now : (b : Bool) → (q : Queue) → q ≡ entered_queue b (entry_of c old.unit s addr) old.queue → IsBehind q.last new.front
  memory_behind_now true q e = subst (λ (x : Queue). IsBehind x.last new.front) (sym e) behind_now
  memory_behind_now false q e = subst (λ (x : Queue). IsBehind x.last new.front) (sym e) (behind_less old.queue.last f.agree.memory_behind)

  queue_size : (b : Bool) (q : Queue) → q ≡ entered_queue b (entry_of c old.unit s addr) old.queue → q.size ≡ old.queue.size
  queue_size true q e = ap (λ (x : Queue). x.size) e
  queue_size false q e = ap (λ (x : Queue). x.size) e

  address_size : (b : Bool) (a : AddressList) → a ≡ entered_addresses b (address_at s addr) old.addresses → a.size ≡ old.addresses.size
  address_size true a e = ap (λ (x : AddressList). x.size) e
  address_size false a e = ap (λ (x : AddressList). x.size) e

  abbrev tag : Tag
  tag = record { row = s.row; store = is_store s }

  tags_now : (b : Bool) → is_memory s ≡ b → unit_tags (unit.entering s c ∷ old.unit.rows) ≡ cond b (tag ∷ unit_tags old.unit.rows) (unit_tags old.unit.rows)
  tags_now true e = ap (λ b. map {B = Tag} (λ (u : unit.Row). record { row = u.station.row; store = is_store u.station }) (cond b (unit.entering s c ∷ filter fits.is_memory old.unit.rows) (filter fits.is_memory old.unit.rows))) e
  tags_now false e = ap (λ b. map {B = Tag} (λ (u : unit.Row). record { row = u.station.row; store = is_store u.station }) (cond b (unit.entering s c ∷ filter fits.is_memory old.unit.rows) (filter fits.is_memory old.unit.rows))) e

  queue_now : (b : Bool) → is_memory s ≡ b → queue_tags (entered_queue b (entry_of c old.unit s addr) old.queue).entries ≡ unit_tags (unit.entering s c ∷ old.unit.rows)
  queue_now true e = ap (λ (t : List Tag). tag ∷ t) f.agree.queue ∙ sym (tags_now true e)
  queue_now false e = f.agree.queue ∙ sym (tags_now false e)

  addresses_now : (b : Bool) → is_memory s ≡ b → address_tags (entered_addresses b (address_at s addr) old.addresses).rows ≡ unit_tags (unit.entering s c ∷ old.unit.rows)
  addresses_now true e = ap (λ (t : List Tag). tag ∷ t) f.agree.addresses ∙ sym (tags_now true e)
  addresses_now false e = f.agree.addresses ∙ sym (tags_now false e)

  waiting_were : All (λ (w : FetchRow). IsTop (cells_of old.predictor) w.top) (new.front.rows ++ (h ∷ []))
  waiting_were = subst (All (λ (w : FetchRow). IsTop (cells_of old.predictor) w.top)) rows_were f.agree.waiting_tops

  pub fits_entered : Fits c 64 new
  fits_entered =
      subst (Fits c 64) (sym l.same)
      (record {
        sizes = record {
          allowed = f.sizes.allowed;
          unit = ap (λ (w : Window). w.size) l.unit ∙ f.sizes.unit;
          queue = queue_size (is_memory s) new.queue l.queue ∙ f.sizes.queue;
          addresses = address_size (is_memory s) new.addresses l.addresses ∙ f.sizes.addresses;
          front = sym (ap (λ (x : FrontEnd). x.size) l.front) ∙ f.sizes.front;
          width = sym (ap (λ (x : FrontEnd). x.width) l.front) ∙ f.sizes.width;
          overlay = size ∙ f.sizes.overlay;
          alus = f.sizes.alus;
          mults = f.sizes.mults;
          ports = f.sizes.ports;
        };
        time = record {
          cycle = f.time.cycle;
          unit = ap (λ (w : Window). unit.is_above w.past c) l.unit ∙ f.time.unit;
          pools = f.time.pools;
          front = subst (λ x. x ≤ c) (ap (λ (x : FrontEnd). x.cycle) l.front) f.time.front;
          hier = f.time.hier;
        };
        numbers = record {
          references = f.numbers.references;
          rows = subst (λ x. x ≤ 32 * c) next_row f.numbers.rows;
          instructions = omega (arith, f.numbers.instructions, more, one_less, next_row);
        };
        agree = record {
          queue = ap (λ (q : Queue). queue_tags q.entries) l.queue ∙ (queue_now (is_memory s) refl ∙ sym (ap (λ (w : Window). unit_tags w.rows) l.unit));
          addresses = ap (λ (a : AddressList). address_tags a.rows) l.addresses ∙ (addresses_now (is_memory s) refl ∙ sym (ap (λ (w : Window). unit_tags w.rows) l.unit));
          behind = subst (λ (w : Window). IsBehind w.last new.front) (sym l.unit) behind_now;
          memory_behind = memory_behind_now (is_memory s) new.queue l.queue;
          tops =
              subst (λ (w : Window). All (λ (u : unit.Row). IsTop (cells_of old.predictor) u.station.top) w.rows) (sym l.unit)
              (All-cons (λ (u : unit.Row). IsTop (cells_of old.predictor) u.station.top) (unit.entering s c) old.unit.rows
              (subst (IsTop (cells_of old.predictor)) (sym top) (all_last (λ (w : FetchRow). IsTop (cells_of old.predictor) w.top) new.front.rows h waiting_were)) f.agree.tops);
          waiting_tops = all_front (λ (w : FetchRow). IsTop (cells_of old.predictor) w.top) new.front.rows h waiting_were;
          applied =
              subst (λ (w : Window). new.overlay.applied ≤ count_by (λ (u : unit.Row). u.station.wrong) w.rows) (sym l.unit)
              (omega (arith, applied, f.agree.applied, count_cons (λ (u : unit.Row). u.station.wrong) (unit.entering s c) old.unit.rows));
        };
      })

-- ---- the state alone may have changed

fits_state : (c : ℕ) (old new : Parts) → Fits c 64 old → StaysBefore old new → Fits c 64 new
fits_state c old new f k =
    let same : new.arch.icnt ≡ old.arch.icnt = ap (λ (s : State). s.icnt) k.state in
    subst (Fits c 64) (sym k.same)
    (record {
      sizes = record {
        allowed = f.sizes.allowed;
        unit = f.sizes.unit;
        queue = f.sizes.queue;
        addresses = f.sizes.addresses;
        front = f.sizes.front;
        width = f.sizes.width;
        overlay = f.sizes.overlay;
        alus = f.sizes.alus;
        mults = f.sizes.mults;
        ports = f.sizes.ports;
      };
      time = record { cycle = f.time.cycle; unit = f.time.unit; pools = f.time.pools; front = f.time.front; hier = f.time.hier };
      numbers = record { references = f.numbers.references; rows = f.numbers.rows; instructions = omega (arith, f.numbers.instructions, same) };
      agree = record {
        queue = f.agree.queue;
        addresses = f.agree.addresses;
        behind = f.agree.behind;
        memory_behind = f.agree.memory_behind;
        tops = f.agree.tops;
        waiting_tops = f.agree.waiting_tops;
        applied = f.agree.applied;
      };
    })

-- ---- the turn

made_size : (s : Reader) (m : Option Changes) (old new : Overlaid) → MakesAny s m old new → new.size ≡ old.size
made_size s None old new e = ap (λ (o : Overlaid). o.size) e
made_size s (Some x) old new e = e.size

made_applied : (s : Reader) (m : Option Changes) (old new : Overlaid) → MakesAny s m old new → new.applied ≤ old.applied + 1
made_applied s None old new e = let same : new.applied ≡ old.applied = ap (λ (o : Overlaid). o.applied) e in omega (arith, same)
made_applied s (Some x) old new e = omega (arith, e.applied)

fits_right : (trace : Trace) (c : ℕ) (old new : Parts) (n : ℕ) (b : Bool) → Fits c 64 old → EntersRight trace c old new n b → Fits c 64 new
fits_right trace c old new n b f t =
    let p = performs trace (state_of old.arch) t.did t.after t.steps in
    let count : new.arch.icnt ≡ old.arch.icnt + 1 = ap (λ (s : State). s.icnt) t.state ∙ p.count in
    let same : new.overlay.applied ≡ old.overlay.applied = ap (λ (o : Overlaid). o.applied) t.overlay in
    fits_entered c (unwrap_or t.did.access 0) t.head (right_station t.head t.did) old new t.enters f refl refl
    (omega (arith, count)) (ap (λ (o : Overlaid). o.size) t.overlay) (omega (arith, same))

fits_wrong : (act : WrongAct) (c : ℕ) (old new : Parts) (n : ℕ) (b : Bool) → Fits c 64 old → EntersWrong act c old new n b → Fits c 64 new
fits_wrong act c old new n b f t =
    let same : new.arch.icnt ≡ old.arch.icnt = ap (λ (s : Storage). s.icnt) t.arch in
    fits_entered c (access_in act.changes) t.head (wrong_station t.head act) old new t.enters f refl refl
    (omega (arith, same)) (made_size (reader_of old.arch) act.changes old.overlay new.overlay t.overlay) (made_applied (reader_of old.arch) act.changes old.overlay new.overlay t.overlay)

fits_by : (trace : Trace) (c : ℕ) (old new : Parts) (answer : Dispatched) (v : Verdict) → Fits c 64 old → TurnBy v trace c old new answer → Fits c 64 new
fits_by trace c old new answer verdict.Stays f t = subst (Fits c 64) (sym t.1) f
fits_by trace c old new answer (verdict.Stops why) f t = subst (Fits c 64) (sym t.1) f
fits_by trace c old new (turn.Row n b) verdict.Right f t = fits_right trace c old new n b f t
fits_by trace c old new turn.OutOfMemory verdict.Right f t = fits_state c old new f t
fits_by trace c old new turn.Over verdict.Right f t = absurd t
fits_by trace c old new (turn.Stops why) verdict.Right f t = absurd t
fits_by trace c old new (turn.Row n b) (verdict.Wrong act) f t = fits_wrong act c old new n b f t
fits_by trace c old new turn.OutOfMemory (verdict.Wrong act) f t = absurd t
fits_by trace c old new turn.Over (verdict.Wrong act) f t = absurd t
fits_by trace c old new (turn.Stops why) (verdict.Wrong act) f t = absurd t

pub fits_after : (trace : Trace) (c n : ℕ) (called : Bool) (old new : Parts) (answer : Dispatched) → Fits c 64 old → Turns trace c n called old new answer → Fits c 64 new
fits_after trace c n called old new answer f t = fits_by trace c old new answer (verdict_of trace c n called old) f t.turn
