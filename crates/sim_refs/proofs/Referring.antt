-- What the references of records are.
use Rattle.std.specs.Prelude.{◌≡◌, ◌≢◌, ℕ, suc, ◌+◌, true, false, List, [], ◌∷◌, All, IsSome, Option, Some, None}
use Rattle.std.proofs.Common.{refl, ap, arith, ◌∙◌}
use Rattle.std.proofs.lemmas.List.Sums.{sum_by-cons}
use Rattle.pisa_isa.specs.declared.classes.AccessKind.{AccessKind}
use Rattle.pisa_isa.specs.declared.classes.AccessKind.TheVariants as access
use Rattle.pisa_isa.specs.Classes.{access_of}
use Rattle.sim_safe.specs.declared.record.CommitRecord.{CommitRecord}
use Rattle.sim_safe.specs.Statistics.{load_count, store_count}
use Rattle.mem_hier.specs.Replay.{Reference, Fetch}
use Rattle.sim_refs.specs.References.{data_referred, references_of}
use Rattle.sim_refs.specs.Laws.{fetches_in, loads_in, stores_in, HasAddress, RefersOnce, RefersInOrder}

data_fetches : (k : AccessKind) (a : Option ℕ) (before : List Reference) → fetches_in (data_referred k a before) ≡ fetches_in before
data_fetches access.Load (Some a) before = refl
data_fetches access.Load None before = refl
data_fetches access.Store (Some a) before = refl
data_fetches access.Store None before = refl
data_fetches access.Nothing a before = refl

data_loads : (k : AccessKind) (a : Option ℕ) (before : List Reference) → (k ≢ access.Nothing → IsSome a) → loads_in (data_referred k a before) ≡ loads_in before + load_count k
data_loads access.Load (Some a) before has = refl
data_loads access.Load None before has = let no : false ≡ true = has (λ e. let other : access.Load ≡ access.Nothing = e in cc) in cc
data_loads access.Store (Some a) before has = omega arith
data_loads access.Store None before has = omega arith
data_loads access.Nothing a before has = omega arith

data_stores : (k : AccessKind) (a : Option ℕ) (before : List Reference) → (k ≢ access.Nothing → IsSome a) → stores_in (data_referred k a before) ≡ stores_in before + store_count k
data_stores access.Store (Some a) before has = refl
data_stores access.Store None before has = let no : false ≡ true = has (λ e. let other : access.Store ≡ access.Nothing = e in cc) in cc
data_stores access.Load (Some a) before has = omega arith
data_stores access.Load None before has = omega arith
data_stores access.Nothing a before has = omega arith

pub refers_once : (h : List CommitRecord) → All HasAddress h → RefersOnce h
refers_once [] has = record { fetches = refl; loads = refl; stores = refl }
refers_once (r ∷ h) has =
    let first : HasAddress r = has 0 r (omega arith) in
    let rest = refers_once h (λ k d below. has (suc k) d (omega (arith, below))) in
    let kind = access_of r.instr.op in
    let before : List Reference = Fetch r.pc 0 ∷ references_of h in
    let fetches : fetches_in (references_of (r ∷ h)) ≡ fetches_in (references_of h) + 1 = data_fetches kind r.access before in
    let loads : loads_in (references_of (r ∷ h)) ≡ loads_in (references_of h) + load_count kind = data_loads kind r.access before first in
    let stores : stores_in (references_of (r ∷ h)) ≡ stores_in (references_of h) + store_count kind = data_stores kind r.access before first in
    record {
      fetches = omega (arith, fetches, rest.fetches);
      loads = omega (arith, loads, rest.loads, sum_by-cons (λ (r : CommitRecord). load_count (access_of r.instr.op)) r h);
      stores = omega (arith, stores, rest.stores, sum_by-cons (λ (r : CommitRecord). store_count (access_of r.instr.op)) r h);
    }

pub refers_in_order : (r : CommitRecord) (h : List CommitRecord) → RefersInOrder r h
refers_in_order r h =
    let before : List Reference = Fetch r.pc 0 ∷ references_of h in
    record {
      load = λ a k e. ap (λ x. data_referred x r.access before) k ∙ ap (λ o. data_referred access.Load o before) e;
      store = λ a k e. ap (λ x. data_referred x r.access before) k ∙ ap (λ o. data_referred access.Store o before) e;
      other = λ k. ap (λ x. data_referred x r.access before) k;
      call = λ e. ap (λ o. data_referred (access_of o) r.access before) e;
    }
