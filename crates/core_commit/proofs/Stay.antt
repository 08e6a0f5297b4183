-- The parts stand for the table with one row more committed.
use Rattle.std.proofs.Common.{◌≡◌, ℕ, suc, ◌+◌, ◌≤◌, Bool, true, false, cond, List, [], ◌∷◌, ◌++◌, Option, Some, None, refl, sym, ap, ◌∙◌, subst, arith, length, length-append, take}
use Rattle.std.specs.Prelude.{◌&&◌, ◌||◌, ◌==◌, ◌-◌, not, nat_lt, is_some, is_none, unwrap_or, count_by}
use Rattle.std.specs.List.{AllZip}
use Rattle.std.proofs.lemmas.Bool.Decides.{nat_tests}
use Rattle.pisa_isa.specs.declared.classes.AccessKind.{AccessKind}
use Rattle.pisa_isa.specs.declared.classes.AccessKind.TheVariants as access
use Rattle.pisa_isa.specs.Classes.{control_of, access_of}
use Rattle.mem_hier.specs.Replay.{Reference, Store}
use Rattle.mem_hier.specs.Stands as hierarchy
use Rattle.mem_hier.specs.Stands.{Held}
use Rattle.bpred_unit.specs.declared.predictor.Predictor.{Predictor}
use Rattle.bpred_unit.specs.History.{Event, Update}
use Rattle.bpred_unit.specs.Stands as predictor
use Rattle.fu_pool.specs.declared.pools.Pool as units
use Rattle.fu_pool.specs.declared.pools.Pool.TheVariants as pool
use Rattle.fu_pool.specs.Takes.{Units, units_of, busy, same_pool}
use Rattle.lsq_core.specs.Queue.{Queue}
use Rattle.ruu_core.specs.Window as unit
use Rattle.ruu_core.specs.Window.{Window}
use Rattle.core_parts.specs.declared.parts.Parts.{Parts}
use Rattle.core_parts.specs.Addresses.{AddressList}
use Rattle.ooo_table.specs.Row.{Row, is_at, accessed}
use Rattle.ooo_table.specs.Execution.{Execution, MemoryUse, NoMemory, LoadFrom, StoreTo, is_load, is_store, uses_memory, address, Pool, Alus, Multipliers, Ports}
use Rattle.ooo_table.specs.Table.{Setting, NextFetch, Table}
use Rattle.ooo_table.specs.Path.{execution, loads, stores}
use Rattle.ooo_table.specs.Done.{live, waiting}
use Rattle.ooo_table.specs.References.{references_of, updates_of}
use Rattle.ooo_table.specs.Issue.{holds, spans}
use Rattle.ooo_table.specs.Later.{Each}
use Rattle.ooo_table.specs.Machine.{Given, setting_of, memory_use, is_control}
use Rattle.core_parts.specs.Rows.{Placed, pick, in_queue, Lives, Holds, HasAddress, Waits, Did}
use Rattle.core_parts.specs.Stands.{Stands, PoolsStand, pool_of}
use Rattle.core_parts.proofs.Lists.{and_false, same_number}
use Rattle.core_commit.specs.Turn.{Leaves, Refers, Teaches, address_in, taken_in, stored_address, was_taken, is_memory, left_queue, left_addresses}
use Rattle.core_commit.proofs.Partial.{Fit}
use Rattle.core_commit.proofs.Lasts.{ends_in, zip_without, zip_beside}
use Rattle.core_commit.proofs.Head.{both, live_parts, not_picked}
use Rattle.core_commit.proofs.Marked.{marked, newest_marked, next_marked, count_marked, count_more, settled_marked, holds_marked, address_marked, lives_marked, waits_marked, references_more, references_same, updates_more, updates_same}

-- ---- what the oldest row did

stored_at : (kind : AccessKind) (addr : Option ℕ) → is_store (memory_use kind addr) ≡ true → address (memory_use kind addr) ≡ unwrap_or addr 0
stored_at access.Nothing addr e = absurd cc
stored_at access.Load None e = absurd cc
stored_at access.Load (Some a) e = absurd cc
stored_at access.Store None e = absurd cc
stored_at access.Store (Some a) e = refl

memory_parts : (m : MemoryUse) → (is_load m || is_store m) ≡ uses_memory m
memory_parts NoMemory = refl
memory_parts (LoadFrom a) = refl
memory_parts (StoreTo a) = refl

-- ---- lists

-- a list that isn't empty ends in an item, and without it is its first part
last_of : {X : Type 0} (xs : List X) → (xs ≡ [] → ⊥) → (x : X) × (xs ≡ take (length xs - 1) xs ++ (x ∷ []))
last_of [] h = absurd (h refl)
last_of {X = X} (x ∷ []) h =
    let n : length (x ∷ []) - 1 ≡ 0 = omega arith in (x, sym (ap (λ k. take k (x ∷ []) ++ (x ∷ [])) n))
last_of {X = X} (x ∷ (y ∷ xs)) h =
    let it : (z : X) × (y ∷ xs ≡ take (length (y ∷ xs) - 1) (y ∷ xs) ++ (z ∷ [])) = last_of (y ∷ xs) (λ e. cc) in
    let n : length (x ∷ (y ∷ xs)) - 1 ≡ suc (length (y ∷ xs) - 1) = omega arith in
    (it.0, ap (λ l. x ∷ l) it.1 ∙ sym (ap (λ k. take k (x ∷ (y ∷ xs)) ++ (it.0 ∷ [])) n))

-- where the row is among those of the kind, none that is related to them is empty
filled : {A : Type 0} (R : A → Placed → Type 0) (p : Row → Bool) (left rest : List Row) (r : Row) (xs : List A) → p r ≡ true
    → AllZip R xs (pick p (left ++ (r ∷ rest))) → xs ≡ [] → ⊥
filled {A = A} R p left rest r xs t z e = by_picks (pick p (left ++ (r ∷ rest))) refl (subst (λ l. AllZip R l (pick p (left ++ (r ∷ rest)))) e z)
  where
    some : (left : List Row) → pick p (left ++ (r ∷ rest)) ≡ [] → ⊥
    some [] e = both t (not_picked p r rest e).0
    some (y ∷ left) e = some left (not_picked p y (left ++ (r ∷ rest)) e).1

    by_picks : (ps : List Placed) → pick p (left ++ (r ∷ rest)) ≡ ps → AllZip R [] ps → ⊥
    by_picks [] f z = some left f
    by_picks (q ∷ ps) f z = z

none_in_queue : (set : Setting) (rows : List Row) → pick live rows ≡ [] → pick (in_queue set) rows ≡ []
none_in_queue set [] e = refl
none_in_queue set (o ∷ rows) e =
    let n = not_picked live o rows e in
    ap (λ b. cond (b && uses_memory (execution set o).memory) (record { row = o; older = rows } ∷ pick (in_queue set) rows) (pick (in_queue set) rows)) n.0
    ∙ none_in_queue set rows n.1

-- ---- functional units

module _ (set : Setting) (c : ℕ) (left rest : List Row) (r : Row) where
  -- a store that commits at c holds a port then, and nothing before
  store_alone : (x : ℕ) → stores set r ≡ true → loads set r ≡ false → r.committed ≡ None → holds set Ports x r ≡ false
  store_alone x e f n =
      ap (λ b. (b && spans x 1 (accessed r)) || (stores set r && is_at x r.committed)) f
      ∙ (ap (λ m. stores set r && is_at x m) n ∙ and_false (stores set r))

  store_holds : (x : ℕ) → stores set r ≡ true → loads set r ≡ false → holds set Ports x (marked c r) ≡ (c == x)
  store_holds x e f =
      ap (λ b. (b && spans x 1 (accessed r)) || (stores set r && (c == x))) f ∙ ap (λ b. b && (c == x)) e

  same_ports : (x : ℕ) → stores set r ≡ false → holds set Ports x (marked c r) ≡ holds set Ports x r
  same_ports x e = by_store (stores set r) e
    where
      by_store : (b : Bool) → b ≡ false → ((loads set r && spans x 1 (accessed r)) || (b && (c == x))) ≡ ((loads set r && spans x 1 (accessed r)) || (b && is_at x r.committed))
      by_store true e = absurd cc
      by_store false e = refl

  now : (x : ℕ) → c ≤ x → cond {A = ℕ} (c == x) 1 0 ≡ cond {A = ℕ} (nat_lt x (c + 1)) 1 0
  now x le = grind (arith, nat_tests)

  -- a pool whose units no store takes
  pool_same : (p : Pool) (x : ℕ) (v v' : Units) → holds set p x (marked c r) ≡ holds set p x r → busy x (units_of v' (pool_of p)) ≡ busy x (units_of v (pool_of p))
      → busy x (units_of v (pool_of p)) ≡ count_by (holds set p x) (left ++ (r ∷ rest)) → busy x (units_of v' (pool_of p)) ≡ count_by (holds set p x) (left ++ (marked c r ∷ rest))
  pool_same p x v v' e f st = f ∙ (st ∙ sym (count_marked c rest r (holds set p x) e left))

  plus_none : (a b : ℕ) → a ≡ b + 0 → a ≡ b
  plus_none a b e = omega (arith, e)

  after_store : (v v' : Units) → ((q : units.Pool) (x : ℕ) → c ≤ x → busy x (units_of v' q) ≡ busy x (units_of v q) + cond {A = ℕ} (same_pool pool.Port q && nat_lt x (c + 1)) 1 0)
      → stores set r ≡ true → loads set r ≡ false → r.committed ≡ None
      → PoolsStand set c v (left ++ (r ∷ rest)) → PoolsStand set c v' (left ++ (marked c r ∷ rest))
  after_store v v' more e f none st Alus x le = pool_same Alus x v v' refl (plus_none _ _ (more pool.Alu x le)) (st Alus x le)
  after_store v v' more e f none st Multipliers x le = pool_same Multipliers x v v' refl (plus_none _ _ (more pool.Mult x le)) (st Multipliers x le)
  after_store v v' more e f none st Ports x le =
      let counted : count_by (holds set Ports x) (left ++ (marked c r ∷ rest)) ≡ count_by (holds set Ports x) (left ++ (r ∷ rest)) + cond {A = ℕ} (nat_lt x (c + 1)) 1 0 =
      count_more c rest r (holds set Ports x) (cond {A = ℕ} (nat_lt x (c + 1)) 1 0) (ap (λ b. cond {A = ℕ} b 1 0) (store_holds x e f) ∙ now x le) (store_alone x e f none) left in
      more pool.Port x le ∙ (ap (λ n. n + cond {A = ℕ} (nat_lt x (c + 1)) 1 0) (st Ports x le) ∙ sym counted)

  after_other : (v v' : Units) → v' ≡ v → stores set r ≡ false → PoolsStand set c v (left ++ (r ∷ rest)) → PoolsStand set c v' (left ++ (marked c r ∷ rest))
  after_other v v' same e st Alus x le = pool_same Alus x v v' refl (ap (λ w. busy x (units_of w pool.Alu)) same) (st Alus x le)
  after_other v v' same e st Multipliers x le = pool_same Multipliers x v v' refl (ap (λ w. busy x (units_of w pool.Mult)) same) (st Multipliers x le)
  after_other v v' same e st Ports x le = pool_same Ports x v v' (same_ports x e) (ap (λ w. busy x (units_of w pool.Port)) same) (st Ports x le)

-- ---- the whole

store_no_load : (m : MemoryUse) → is_store m ≡ true → is_load m ≡ false
store_no_load NoMemory h = refl
store_no_load (LoadFrom a) h = absurd cc
store_no_load (StoreTo a) h = refl

none_is : {A : Type 0} (m : Option A) → is_none m ≡ true → m ≡ None
none_is None h = refl
none_is (Some x) h = absurd cc

not_waiting : (o : Row) → live o ≡ true → waiting o ≡ false
not_waiting o h = ap (λ b. b && is_none o.squashed) (some_not o.dispatched (live_parts o h).0)
  where
    some_not : (m : Option ℕ) → is_some m ≡ true → is_none m ≡ false
    some_not None h = absurd cc
    some_not (Some x) h = refl

-- what is known of the row that leaves
pub record Going (g : Given) (c : ℕ) (left rest : List Row) (r : Row) (u : unit.Row) : Type 0 where
  pub lives : Lives g u (record { row = r; older = rest })
  pub at : live r ≡ true
  pub none : pick live rest ≡ []
  pub right : r.fetched.right ≡ true
  pub fit : Each (Fit (setting_of g) c) (left ++ (r ∷ rest))
  pub fit' : Each (Fit (setting_of g) c) (left ++ (marked c r ∷ rest))
  pub young : Each (λ _ o. is_at c o.committed ≡ false) left

module _ (g : Given) (c : ℕ) (left rest : List Row) (r : Row) (u : unit.Row) (k : Going g c left rest r u) where
  unset : r.committed ≡ None
  unset = none_is r.committed (live_parts r k.at).1

  gone : live (marked c r) ≡ false
  gone = ap (λ b. b && is_none r.squashed) (and_false (is_some r.dispatched))

  did : Did g u.station r.fetched
  did = k.lives.station.did k.right

  -- ---- lists

  unit_after : (rows : List unit.Row) → unit.first rows ≡ Some u → AllZip (Lives g) rows (pick live (left ++ (r ∷ rest)))
      → AllZip (Lives g) (take (length rows - 1) rows) (pick live (left ++ (marked c r ∷ rest)))
  unit_after rows e z =
      zip_without (Lives g) live left rest r (marked c r) (take (length rows - 1) rows) u (λ x y ys. lives_marked c rest r g x y ys) k.at gone k.none
      (subst (λ l. AllZip (Lives g) l (pick live (left ++ (r ∷ rest)))) (ends_in rows u e) z)

  leaving_some : {A : Type 0} (R : A → Placed → Type 0) (xs : List A)
      → ((x : A) (y : Row) (ys : List Row) → R x (record { row = y; older = ys ++ (r ∷ rest) }) → R x (record { row = y; older = ys ++ (marked c r ∷ rest) }))
      → uses_memory (execution (setting_of g) r).memory ≡ true
      → AllZip R xs (pick (in_queue (setting_of g)) (left ++ (r ∷ rest))) → AllZip R (take (length xs - 1) xs) (pick (in_queue (setting_of g)) (left ++ (marked c r ∷ rest)))
  leaving_some R xs stable e z =
      let here : in_queue (setting_of g) r ≡ true = ap (λ b. b && uses_memory (execution (setting_of g) r).memory) k.at ∙ e in
      let it = last_of xs (filled R (in_queue (setting_of g)) left rest r xs here z) in
      zip_without R (in_queue (setting_of g)) left rest r (marked c r) (take (length xs - 1) xs) it.0 stable here
      (ap (λ b. b && uses_memory (execution (setting_of g) r).memory) gone) (none_in_queue (setting_of g) rest k.none)
      (subst (λ l. AllZip R l (pick (in_queue (setting_of g)) (left ++ (r ∷ rest)))) it.1 z)

  leaving_none : {A : Type 0} (R : A → Placed → Type 0) (xs : List A)
      → ((x : A) (y : Row) (ys : List Row) → R x (record { row = y; older = ys ++ (r ∷ rest) }) → R x (record { row = y; older = ys ++ (marked c r ∷ rest) }))
      → uses_memory (execution (setting_of g) r).memory ≡ false
      → AllZip R xs (pick (in_queue (setting_of g)) (left ++ (r ∷ rest))) → AllZip R xs (pick (in_queue (setting_of g)) (left ++ (marked c r ∷ rest)))
  leaving_none R xs stable e z =
      zip_beside R (in_queue (setting_of g)) left rest r (marked c r) xs stable (ap (λ b. live r && b) e ∙ and_false (live r)) (ap (λ b. b && uses_memory (execution (setting_of g) r).memory) gone) z

  memory_same : is_memory u.station ≡ uses_memory (execution (setting_of g) r).memory
  memory_same =
      ap (λ b. b || unit.is_store u.station) k.lives.station.operates.load
      ∙ (ap (λ b. is_load (execution (setting_of g) r).memory || b) k.lives.station.operates.store ∙ memory_parts (execution (setting_of g) r).memory)

  queue_after : (n : ℕ) (q q' : Queue) → q' ≡ left_queue (is_memory u.station) q
      → AllZip (Holds (setting_of g) n) q.entries (pick (in_queue (setting_of g)) (left ++ (r ∷ rest))) → AllZip (Holds (setting_of g) n) q'.entries (pick (in_queue (setting_of g)) (left ++ (marked c r ∷ rest)))
  queue_after n q q' e z = subst (λ (x : Queue). AllZip (Holds (setting_of g) n) x.entries (pick (in_queue (setting_of g)) (left ++ (marked c r ∷ rest)))) (sym e) (by_memory (is_memory u.station) memory_same)
    where
      by_memory : (b : Bool) → b ≡ uses_memory (execution (setting_of g) r).memory → AllZip (Holds (setting_of g) n) (left_queue b q).entries (pick (in_queue (setting_of g)) (left ++ (marked c r ∷ rest)))
      by_memory true h = leaving_some (Holds (setting_of g) n) q.entries (λ x y ys. holds_marked c rest r (setting_of g) n x y ys) (sym h) z
      by_memory false h = leaving_none (Holds (setting_of g) n) q.entries (λ x y ys. holds_marked c rest r (setting_of g) n x y ys) (sym h) z

  addresses_after : (a a' : AddressList) → a' ≡ left_addresses (is_memory u.station) a
      → AllZip (HasAddress (setting_of g)) a.rows (pick (in_queue (setting_of g)) (left ++ (r ∷ rest))) → AllZip (HasAddress (setting_of g)) a'.rows (pick (in_queue (setting_of g)) (left ++ (marked c r ∷ rest)))
  addresses_after a a' e z = subst (λ (x : AddressList). AllZip (HasAddress (setting_of g)) x.rows (pick (in_queue (setting_of g)) (left ++ (marked c r ∷ rest)))) (sym e) (by_memory (is_memory u.station) memory_same)
    where
      by_memory : (b : Bool) → b ≡ uses_memory (execution (setting_of g) r).memory → AllZip (HasAddress (setting_of g)) (left_addresses b a).rows (pick (in_queue (setting_of g)) (left ++ (marked c r ∷ rest)))
      by_memory true h = leaving_some (HasAddress (setting_of g)) a.rows (λ x y ys. address_marked c rest r (setting_of g) x y ys) (sym h) z
      by_memory false h = leaving_none (HasAddress (setting_of g)) a.rows (λ x y ys. address_marked c rest r (setting_of g) x y ys) (sym h) z

  -- ---- units and histories

  not_now : is_at c r.committed ≡ false
  not_now = ap (is_at c) unset

  stored : stores (setting_of g) r ≡ true → address (execution (setting_of g) r).memory ≡ stored_address u.station
  stored e =
      let d = did in
      let m : (execution (setting_of g) r).memory ≡ memory_use (access_of d.did.instr.op) d.did.access = ap (λ (x : Execution). x.memory) d.does in
      ap address m ∙ (stored_at (access_of d.did.instr.op) d.did.access (ap is_store (sym m) ∙ e) ∙ ap address_in (sym d.is))

  pools_after : (v v' : Units) (h h' : Held) → Refers (unit.is_store u.station) c (stored_address u.station) v v' h h'
      → PoolsStand (setting_of g) c v (left ++ (r ∷ rest)) → PoolsStand (setting_of g) c v' (left ++ (marked c r ∷ rest))
  pools_after v v' h h' refers st = by_store (unit.is_store u.station) k.lives.station.operates.store refers
    where
      by_store : (b : Bool) → b ≡ stores (setting_of g) r → Refers b c (stored_address u.station) v v' h h' → PoolsStand (setting_of g) c v' (left ++ (marked c r ∷ rest))
      by_store true e f = after_store (setting_of g) c left rest r v v' (λ q x le. f.pools q x le) (sym e) (store_no_load (execution (setting_of g) r).memory (sym e)) unset st
      by_store false e f = after_other (setting_of g) c left rest r v v' f.0 (sym e) st

  hierarchy_after : (v v' : Units) (h h' : Held) (base : List Reference) → Refers (unit.is_store u.station) c (stored_address u.station) v v' h h'
      → hierarchy.StandsFor h g.hier (references_of (setting_of g) c (left ++ (r ∷ rest)) base) → hierarchy.StandsFor h' g.hier (references_of (setting_of g) c (left ++ (marked c r ∷ rest)) base)
  hierarchy_after v v' h h' base refers st = by_store (unit.is_store u.station) k.lives.station.operates.store refers
    where
      by_store : (b : Bool) → b ≡ stores (setting_of g) r → Refers b c (stored_address u.station) v v' h h' → hierarchy.StandsFor h' g.hier (references_of (setting_of g) c (left ++ (marked c r ∷ rest)) base)
      by_store true e f =
          subst (hierarchy.StandsFor h' g.hier)
          (ap (λ a. Store a c ∷ references_of (setting_of g) c (left ++ (r ∷ rest)) base) (sym (stored (sym e)))
          ∙ sym (references_more (setting_of g) c left rest r base k.fit k.fit' k.young not_now (sym e) (same_number c)))
          (f.stands g.hier (references_of (setting_of g) c (left ++ (r ∷ rest)) base) st)
      by_store false e f =
          subst (λ x. hierarchy.StandsFor x g.hier (references_of (setting_of g) c (left ++ (marked c r ∷ rest)) base)) (sym f.1)
          (subst (hierarchy.StandsFor h g.hier) (sym (references_same (setting_of g) c left rest r base k.fit k.fit' (sym e))) st)

  control_same : is_control (control_of u.station.instr) ≡ (execution (setting_of g) r).control
  control_same =
      let d = did in
      ap (λ i. is_control (control_of i)) (sym d.instr) ∙ ap (λ (x : Execution). x.control) (sym d.does)

  told : Update u.station.pc u.station.instr (was_taken u.station) u.station.actual
      ≡ Update r.fetched.pc ((setting_of g).instruction r.fetched.pc) (execution (setting_of g) r).taken (execution (setting_of g) r).next
  told =
      let d = did in
      let t : was_taken u.station ≡ (execution (setting_of g) r).taken = ap taken_in d.is ∙ ap (λ (x : Execution). x.taken) (sym d.does) in
      ap (λ x. Update x u.station.instr (was_taken u.station) u.station.actual) k.lives.station.pc
      ∙ (ap (λ x. Update r.fetched.pc x (was_taken u.station) u.station.actual) k.lives.station.instr
      ∙ (ap (λ x. Update r.fetched.pc ((setting_of g).instruction r.fetched.pc) x u.station.actual) t
      ∙ ap (λ x. Update r.fetched.pc ((setting_of g).instruction r.fetched.pc) (execution (setting_of g) r).taken x) (k.lives.station.actual k.right)))

  predictor_after : (p p' : Predictor) (base : List Event) → Teaches (is_control (control_of u.station.instr)) u.station p p'
      → predictor.StandsFor p g.pred (updates_of (setting_of g) c (left ++ (r ∷ rest)) base) → predictor.StandsFor p' g.pred (updates_of (setting_of g) c (left ++ (marked c r ∷ rest)) base)
  predictor_after p p' base teaches st = by_control (is_control (control_of u.station.instr)) control_same teaches
    where
      by_control : (b : Bool) → b ≡ (execution (setting_of g) r).control → Teaches b u.station p p' → predictor.StandsFor p' g.pred (updates_of (setting_of g) c (left ++ (marked c r ∷ rest)) base)
      by_control true e f =
          subst (predictor.StandsFor p' g.pred)
          (ap (λ x. x ∷ updates_of (setting_of g) c (left ++ (r ∷ rest)) base) told
          ∙ sym (updates_more (setting_of g) c left rest r base k.young not_now (sym e) (same_number c)))
          (f g.pred (updates_of (setting_of g) c (left ++ (r ∷ rest)) base) st)
      by_control false e f =
          subst (λ x. predictor.StandsFor x g.pred (updates_of (setting_of g) c (left ++ (marked c r ∷ rest)) base)) (sym f)
          (subst (predictor.StandsFor p g.pred) (sym (updates_same (setting_of g) c left rest r base (sym e))) st)

  -- ---- all together

  pub stands_after : (old new : Parts) (t : Table) → unit.first old.unit.rows ≡ Some u → Leaves c u.station old new
      → Stands g c false old (record t { rows = left ++ (r ∷ rest) }) → Stands g c false new (record t { rows = left ++ (marked c r ∷ rest) })
  stands_after old new t head l st =
      subst (λ x. Stands g c false x (record t { rows = left ++ (marked c r ∷ rest) })) (sym l.same)
      (record {
        run = record { config = st.run.config; text = st.run.text };
        rows = record {
          unit = subst (λ (x : Window). AllZip (Lives g) x.rows (pick live (left ++ (marked c r ∷ rest)))) (sym l.unit) (unit_after old.unit.rows head st.rows.unit);
          queue = queue_after c old.queue new.queue l.queue st.rows.queue;
          addresses = addresses_after old.addresses new.addresses l.addresses st.rows.addresses;
          front = zip_beside (Waits g) waiting left rest r (marked c r) old.front.rows (λ x y ys. waits_marked c rest r g x y ys) (not_waiting r k.at) (not_waiting r k.at) st.rows.front;
        };
        next = record {
          row = omega (arith, st.next.row, length-append left (r ∷ rest), length-append left (marked c r ∷ rest));
          pc = st.next.pc;
          earliest = st.next.earliest;
          last =
              ap (λ (x : Window). x.last) l.unit ∙ (st.next.last ∙ sym (newest_marked c rest r (λ r. is_some r.dispatched) refl left));
          last_memory =
              queue_last (is_memory u.station) old.queue new.queue l.queue
              ∙ (st.next.last_memory ∙ sym (newest_marked c rest r (λ r. is_some r.dispatched && uses_memory (execution (setting_of g) r).memory) refl left));
        };
        pools = pools_after old.pools new.pools old.hier new.hier l.refers st.pools;
        states = record {
          wrong = st.states.wrong ∙ ap (λ (n : NextFetch). not n.right) (sym (next_marked c rest r left t.next_fetch));
          base = st.states.base ∙ sym (settled_marked c rest r (setting_of g) left);
          view = st.states.view ∙ ap (λ (n : NextFetch). n.state) (sym (next_marked c rest r left t.next_fetch));
          applied = subst (λ n. old.overlay.applied ≤ n) (sym wrong_same) st.states.applied;
          clean = st.states.clean;
        };
        histories = record {
          hierarchy = hierarchy_after old.pools new.pools old.hier new.hier t.references l.refers st.histories.hierarchy;
          predictor = predictor_after old.predictor new.predictor t.predictor_events l.teaches st.histories.predictor;
        };
      })
    where
      queue_last : (b : Bool) (q q' : Queue) → q' ≡ left_queue b q → q'.last ≡ q.last
      queue_last true q q' e = ap (λ (x : Queue). x.last) e
      queue_last false q q' e = ap (λ (x : Queue). x.last) e

      wrong_same : count_by (λ r. live r && not r.fetched.right) (left ++ (marked c r ∷ rest)) ≡ count_by (λ r. live r && not r.fetched.right) (left ++ (r ∷ rest))
      wrong_same =
          count_marked c rest r (λ r. live r && not r.fetched.right)
          (ap (λ b. live (marked c r) && not b) k.right ∙ (and_false (live (marked c r)) ∙ sym (ap (λ b. live r && not b) k.right ∙ and_false (live r)))) left
