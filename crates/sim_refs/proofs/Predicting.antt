-- What follows of the events and the counts of predictions.
use Rattle.std.specs.Prelude.{◌≡◌, ℕ, ◌+◌, ◌≤◌, Bool, true, false, not, ◌&&◌, List, [], ◌∷◌, ◌++◌, Option, Some, None, ◌==◌, if◌then◌else◌}
use Rattle.std.specs.Option.{unwrap_or}
use Rattle.std.proofs.Common.{refl, ap, arith, ◌∙◌}
use Rattle.pisa_isa.specs.declared.instr.Instr.{Instr}
use Rattle.pisa_isa.specs.declared.classes.AccessKind.{AccessKind}
use Rattle.pisa_isa.specs.declared.classes.AccessKind.TheVariants as access
use Rattle.pisa_isa.specs.declared.classes.ControlKind.{ControlKind}
use Rattle.pisa_isa.specs.declared.classes.ControlKind.TheVariants as control
use Rattle.pisa_isa.specs.Classes.{access_of, control_of}
use Rattle.sim_safe.specs.declared.record.CommitRecord.{CommitRecord}
use Rattle.sim_safe.specs.Statistics.{branch_count}
use Rattle.mem_hier.specs.Replay.{Reference, Fetch}
use Rattle.bpred_tables.specs.Updates.{predicted}
use Rattle.bpred_tables.specs.Updates as branch
use Rattle.bpred_tables.specs.Buffer.{Entry, target_of}
use Rattle.bpred_tables.specs.Stack.{Call, popped}
use Rattle.bpred_unit.specs.declared.config.PredConfig.{PredConfig}
use Rattle.bpred_unit.specs.declared.predictor.Look.{Look}
use Rattle.bpred_unit.specs.History.{Event, LookUp, Update, following, scheme_of, told, branches, direction, cells_for, stacked, calls, top_by, is_held, transfers, expected, returned, next_by, is_expected, look_of}
use Rattle.sim_refs.specs.declared.pred_run.PredCounts.{PredCounts}
use Rattle.sim_refs.specs.References.{data_referred, references_of}
use Rattle.sim_refs.specs.Predictions.{asked_by, events_of, look_at, cond_count, same_way, where_so, counted, counts_of}
use Rattle.sim_refs.specs.Laws.{lookups_in, updates_in, RightOrWrong, Joins, AsksNothing, all_events_of, AnswersAlike}
use Rattle.sim_refs.proofs.Counting.{where_most}

-- ---- right or wrong

asked_lookups : (k : ControlKind) (r : CommitRecord) (before : List Event) → lookups_in (asked_by k r before) ≡ lookups_in before + branch_count k
asked_lookups control.Nothing r before = omega arith
asked_lookups control.Cond r before = refl
asked_lookups control.Jump r before = refl
asked_lookups control.Call r before = refl
asked_lookups control.Return r before = refl

asked_updates : (k : ControlKind) (r : CommitRecord) (before : List Event) → updates_in (asked_by k r before) ≡ updates_in before + branch_count k
asked_updates control.Nothing r before = omega arith
asked_updates control.Cond r before = refl
asked_updates control.Jump r before = refl
asked_updates control.Call r before = refl
asked_updates control.Return r before = refl

cond_fewer : (k : ControlKind) → cond_count k ≤ branch_count k
cond_fewer control.Nothing = omega arith
cond_fewer control.Cond = omega arith
cond_fewer control.Jump = omega arith
cond_fewer control.Call = omega arith
cond_fewer control.Return = omega arith

so_or_not : (so : Bool) (n : ℕ) → where_so so n + where_so (not so) n ≡ n
so_or_not true n = omega arith
so_or_not false n = omega arith

pub right_or_wrong : (c : PredConfig) (h : List CommitRecord) → RightOrWrong c h
right_or_wrong c [] = record { lookups = refl; updates = refl; addresses = refl; directions = refl; cond = omega arith; taken = omega arith }
right_or_wrong c (r ∷ h) =
    let rest = right_or_wrong c h in
    let kind = control_of r.instr in
    let look : Look = look_at c h r in
    let lookups : lookups_in (events_of (r ∷ h)) ≡ lookups_in (events_of h) + branch_count kind = asked_lookups kind r (events_of h) in
    let updates : updates_in (events_of (r ∷ h)) ≡ updates_in (events_of h) + branch_count kind = asked_updates kind r (events_of h) in
    record {
      lookups = omega (arith, lookups, rest.lookups);
      updates = omega (arith, updates, rest.updates);
      addresses = omega (arith, rest.addresses, so_or_not (look.next == r.next) (branch_count kind));
      directions = omega (arith, rest.directions, so_or_not (same_way look.taken r.taken) (cond_count kind));
      cond = omega (arith, rest.cond, cond_fewer kind);
      taken = omega (arith, rest.taken, where_most r.taken (branch_count kind));
    }

-- ---- parts

referred_onto : (k : AccessKind) (a : Option ℕ) (xs ys : List Reference) → data_referred k a (xs ++ ys) ≡ data_referred k a xs ++ ys
referred_onto access.Load (Some a) xs ys = refl
referred_onto access.Load None xs ys = refl
referred_onto access.Store (Some a) xs ys = refl
referred_onto access.Store None xs ys = refl
referred_onto access.Nothing a xs ys = refl

asked_onto : (k : ControlKind) (r : CommitRecord) (xs ys : List Event) → asked_by k r (xs ++ ys) ≡ asked_by k r xs ++ ys
asked_onto control.Nothing r xs ys = refl
asked_onto control.Cond r xs ys = refl
asked_onto control.Jump r xs ys = refl
asked_onto control.Call r xs ys = refl
asked_onto control.Return r xs ys = refl

pub joins : (c : PredConfig) (h g : List CommitRecord) → Joins c h g
joins c [] g = record { references = refl; events = refl; control = omega arith; cond = omega arith; taken = omega arith; dir_hits = omega arith; addr_hits = omega arith }
joins c (r ∷ h) g =
    let rest = joins c h g in
    let kind = control_of r.instr in
    let fetch : Reference = Fetch r.pc 0 in
    record {
      references =
          ap (λ before. data_referred (access_of r.instr.op) r.access (fetch ∷ before)) rest.references
          ∙ referred_onto (access_of r.instr.op) r.access (fetch ∷ references_of h) (references_of g);
      events = ap (λ before. asked_by kind r before) rest.events ∙ asked_onto kind r (events_of h) (events_of g);
      control = omega (arith, rest.control);
      cond = omega (arith, rest.cond);
      taken = omega (arith, rest.taken);
      dir_hits = omega (arith, rest.dir_hits);
      addr_hits = omega (arith, rest.addr_hits);
    }

-- ---- instructions that direct no control

none_so : (so : Bool) (n : ℕ) → n + where_so so 0 ≡ n
none_so true n = omega arith
none_so false n = omega arith

quiet : (r : CommitRecord) (look : Look) (n : PredCounts) → counted control.Nothing r look n ≡ n
quiet r look n =
    let taken = none_so r.taken n.taken in
    let dir_hits = none_so (same_way look.taken r.taken) n.dir_hits in
    let addr_hits = none_so (look.next == r.next) n.addr_hits in
    let control : n.control + 0 ≡ n.control = omega arith in
    let cond : n.cond + 0 ≡ n.cond = omega arith in
    rw (taken, dir_hits, addr_hits, control, cond) refl

pub asks_nothing : (c : PredConfig) (r : CommitRecord) (h : List CommitRecord) → control_of r.instr ≡ control.Nothing → AsksNothing c r h
asks_nothing c r h e =
    record {
      events = ap (λ k. asked_by k r (events_of h)) e;
      counts = ap (λ k. counted k r (look_at c h r) (counts_of c h)) e ∙ quiet r (look_at c h r) (counts_of c h);
    }

-- two histories that tell each table the same
record AreAlike (c : PredConfig) (h g : List Event) : Type 0 where
  pub branches : branches h ≡ branches g
  pub transfers : transfers (cells_for c.ras) h ≡ transfers (cells_for c.ras) g
  pub calls : calls h ≡ calls g

expected_alike : (c : PredConfig) (h g : List Event) (pc : ℕ) → AreAlike c h g → expected c h pc ≡ expected c g pc
expected_alike c h g pc a = ap (λ (ts : List Entry). unwrap_or (target_of c.btb_sets c.btb_ways ts pc) (following pc)) a.transfers

direction_alike : (c : PredConfig) (h g : List Event) (pc : ℕ) → AreAlike c h g → direction c h pc ≡ direction c g pc
direction_alike c h g pc a = ap (λ (us : List branch.Update). predicted (scheme_of c) us pc) a.branches

returned_alike : (o : Option ℕ) (c : PredConfig) (h g : List Event) (pc : ℕ) → AreAlike c h g → returned o c h pc ≡ returned o c g pc
returned_alike None c h g pc a = expected_alike c h g pc a
returned_alike (Some n) c h g pc a = ap (λ (done : List Call). popped n done) a.calls

next_alike : (k : ControlKind) (c : PredConfig) (h g : List Event) (pc : ℕ) → AreAlike c h g → next_by k c h pc ≡ next_by k c g pc
next_alike control.Nothing c h g pc a = refl
next_alike control.Cond c h g pc a =
    ap (λ b. if b then expected c h pc else following pc) (direction_alike c h g pc a)
    ∙ ap (λ n. if direction c g pc then n else following pc) (expected_alike c h g pc a)
next_alike control.Jump c h g pc a = expected_alike c h g pc a
next_alike control.Call c h g pc a = expected_alike c h g pc a
next_alike control.Return c h g pc a = returned_alike (cells_for c.ras) c h g pc a

look_alike : (c : PredConfig) (h g : List Event) (pc : ℕ) (i : Instr) → AreAlike c h g → look_of c h pc i ≡ look_of c g pc i
unfolding look_of
look_alike c h g pc i a =
    let look : ℕ → Bool → ℕ → Look = λ next taken top. record { next = next; taken = taken; top = top } in
    let kind = control_of i in
    let top : List Call → ℕ = λ done. top_by (cells_for c.ras) (stacked kind pc done) in
    ap (λ n. look n (is_expected kind (direction c h pc)) (top (calls h))) (next_alike kind c h g pc a)
    ∙ ap (λ d. look (next_by kind c g pc) (is_expected kind d) (top (calls h))) (direction_alike c h g pc a)
    ∙ ap (λ done. look (next_by kind c g pc) (is_expected kind (direction c g pc)) (top done)) a.calls

not_held : (cells : Option ℕ) (taken : Bool) (u : Entry) (older : List Entry) → (if taken && is_held cells control.Nothing then u ∷ older else older) ≡ older
not_held None true u older = refl
not_held None false u older = refl
not_held (Some n) true u older = refl
not_held (Some n) false u older = refl

-- an instruction that directs no control tells no table anything
told_nothing : (c : PredConfig) (r : CommitRecord) (h g : List Event) → control_of r.instr ≡ control.Nothing → AreAlike c h g
    → AreAlike c (Update r.pc r.instr r.taken r.next ∷ (LookUp r.pc r.instr ∷ h)) g
told_nothing c r h g e a =
    let cells = cells_for c.ras in
    let entry : Entry = record { pc = r.pc; target = r.next } in
    let outcome : branch.Update = record { pc = r.pc; taken = r.taken } in
    record {
      branches = ap (λ k. told k outcome (branches h)) e ∙ a.branches;
      transfers =
          ap (λ k. if r.taken && is_held cells k then entry ∷ transfers cells h else transfers cells h) e
          ∙ not_held cells r.taken entry (transfers cells h) ∙ a.transfers;
      calls = ap (λ k. stacked k r.pc (calls h)) e ∙ a.calls;
    }

-- two alike histories stay so when both are told the same
told_same : (c : PredConfig) (r : CommitRecord) (h g : List Event) → AreAlike c h g
    → AreAlike c (Update r.pc r.instr r.taken r.next ∷ (LookUp r.pc r.instr ∷ h)) (Update r.pc r.instr r.taken r.next ∷ (LookUp r.pc r.instr ∷ g))
told_same c r h g a =
    let cells = cells_for c.ras in
    let kind = control_of r.instr in
    let entry : Entry = record { pc = r.pc; target = r.next } in
    let outcome : branch.Update = record { pc = r.pc; taken = r.taken } in
    record {
      branches = ap (λ us. told kind outcome us) a.branches;
      transfers = ap (λ ts. if r.taken && is_held cells kind then entry ∷ ts else ts) a.transfers;
      calls = ap (λ done. stacked kind r.pc done) a.calls;
    }

told_by : (k : ControlKind) (c : PredConfig) (r : CommitRecord) (h g : List Event) → control_of r.instr ≡ k → AreAlike c h g
    → AreAlike c (Update r.pc r.instr r.taken r.next ∷ (LookUp r.pc r.instr ∷ h)) (asked_by k r g)
told_by control.Nothing c r h g e a = told_nothing c r h g e a
told_by control.Cond c r h g e a = told_same c r h g a
told_by control.Jump c r h g e a = told_same c r h g a
told_by control.Call c r h g e a = told_same c r h g a
told_by control.Return c r h g e a = told_same c r h g a

all_alike : (c : PredConfig) (h : List CommitRecord) → AreAlike c (all_events_of h) (events_of h)
all_alike c [] = record { branches = refl; transfers = refl; calls = refl }
all_alike c (r ∷ h) = told_by (control_of r.instr) c r (all_events_of h) (events_of h) refl (all_alike c h)

pub answers_alike : (c : PredConfig) (h : List CommitRecord) (pc : ℕ) (i : Instr) → AnswersAlike c h pc i
answers_alike c h pc i = look_alike c (all_events_of h) (events_of h) pc i (all_alike c h)
