-- The cycles of a table's references never fall.
use Rattle.std.proofs.Common.{◌≡◌, ℕ, zero, suc, ◌≤◌, cond, List, [], ◌∷◌, Option, Some, None, refl, sym, subst, arith}
use Rattle.std.specs.Prelude.{◌++◌, ◌==◌, ◌&&◌, filter_map}
use Rattle.std.proofs.lemmas.Bool.{cond_both}
use Rattle.mem_hier.specs.Replay.{Reference, Fetch, Load, Store, SettleAll}
use Rattle.mem_hier.specs.Stands.{CyclesRise}
use Rattle.ooo_table.specs.Row.{Row, is_at, accessed, not_forwarded}
use Rattle.ooo_table.specs.Execution.{address}
use Rattle.ooo_table.specs.Table.{Setting, Table}
use Rattle.ooo_table.specs.Path.{execution, stores}
use Rattle.ooo_table.specs.Commit.{commit}
use Rattle.ooo_table.specs.Recovery.{recover}
use Rattle.ooo_table.specs.References.{store_references, load_references, fetch_references, references_of}
use Rattle.ooo_table.specs.Issue.{issue}
use Rattle.ooo_table.specs.Dispatch.{dispatch}
use Rattle.ooo_table.specs.Fetch.{fetch_up_to, fetch_one, may_fetch}
use Rattle.ooo_table.specs.Cycle.{table}
use Rattle.ooo_table.specs.Bound.{Rises}

-- a reference, if there is one, is of cycle c
abbrev IsOf : ℕ → Option Reference → Type 0
IsOf c None = Unit {0}
IsOf c (Some (Fetch pc x)) = x ≡ c
IsOf c (Some (Load addr x)) = x ≡ c
IsOf c (Some (Store addr x)) = x ≡ c
IsOf c (Some SettleAll) = ⊥

-- ahead of a history, a reference if there is one
abbrev ahead_of : Option Reference → List Reference → List Reference
ahead_of None h = h
ahead_of (Some r) h = r ∷ h

with_one : (c : ℕ) (m : Option Reference) (h : List Reference) → IsOf c m → Rises c h → Rises c (ahead_of m h)
with_one c None h e r = r
with_one c (Some (Fetch pc x)) h e r = record { rise = (omega (arith, e, r.last), r.rise); last = omega (arith, e) }
with_one c (Some (Load addr x)) h e r = record { rise = (omega (arith, e, r.last), r.rise); last = omega (arith, e) }
with_one c (Some (Store addr x)) h e r = record { rise = (omega (arith, e, r.last), r.rise); last = omega (arith, e) }
with_one c (Some SettleAll) h e r = absurd e

with_all : (c : ℕ) (f : Row → Option Reference) → ((r : Row) → IsOf c (f r)) → (rows : List Row) (h : List Reference) → Rises c h → Rises c (filter_map f rows ++ h)
with_all c f of [] h r = r
with_all c f of (o ∷ rows) h r = by_case (f o) (of o) (with_all c f of rows h r)
  where
    by_case : (m : Option Reference) → IsOf c m → Rises c (filter_map f rows ++ h) → Rises c (ahead_of m (filter_map f rows) ++ h)
    by_case None e k = k
    by_case (Some x) e k = with_one c (Some x) (filter_map f rows ++ h) e k

pub rises_later : (c n : ℕ) (h : List Reference) → c ≤ n → Rises c h → Rises n h
rises_later c n h le r = record { rise = r.rise; last = omega (arith, r.last) }

module _ (set : Setting) where
  pub rises_stores : (c : ℕ) (rows : List Row) (h : List Reference) → Rises c h → Rises c (store_references set c rows h)
  rises_stores c rows h =
      with_all c (λ r. cond (stores set r && is_at c r.committed) (Some (Store (address (execution set r).memory) c)) None)
      (λ r. cond_both (stores set r && is_at c r.committed) (Some (Store (address (execution set r).memory) c)) None (IsOf c) (λ _. refl) (λ _. tt)) rows h

  pub rises_loads : (c : ℕ) (rows : List Row) (h : List Reference) → Rises c h → Rises c (load_references set c rows h)
  rises_loads c rows h =
      with_all c (λ r. cond (is_at c (accessed r) && not_forwarded r.access) (Some (Load (address (execution set r).memory) c)) None)
      (λ r. cond_both (is_at c (accessed r) && not_forwarded r.access) (Some (Load (address (execution set r).memory) c)) None (IsOf c) (λ _. refl) (λ _. tt)) rows h

  rises_fetches : (c : ℕ) (rows : List Row) (h : List Reference) → Rises c h → Rises c (fetch_references set c rows h)
  rises_fetches c rows h =
      with_all c (λ r. cond ((r.fetched.at == c) && set.is_text r.fetched.pc) (Some (Fetch r.fetched.pc c)) None)
      (λ r. cond_both ((r.fetched.at == c) && set.is_text r.fetched.pc) (Some (Fetch r.fetched.pc c)) None (IsOf c) (λ _. refl) (λ _. tt)) rows h

  pub rises_all : (c : ℕ) (rows : List Row) (h : List Reference) → Rises c h → Rises c (references_of set c rows h)
  rises_all c rows h r = rises_fetches c rows _ (rises_loads c rows _ (rises_stores c rows h r))

  kept_references : (n c : ℕ) (t : Table) → (fetch_up_to set n c t).references ≡ t.references
  kept_references zero c t = refl
  kept_references (suc n) c t =
      cond_both (may_fetch set c t) (fetch_up_to set n c (fetch_one set c t)) t (λ u. u.references ≡ t.references) (λ _. kept_references n c (fetch_one set c t)) (λ _. refl)

  pub rises_table : CyclesRise set.start_references → (c : ℕ) → Rises c (table set c).references
  rises_table start zero = record { rise = start; last = omega arith }
  rises_table start (suc c) =
      let t : Table = dispatch set c (issue set c (recover set c (commit set c (table set c)))) in
      let u : Table = fetch_up_to set set.config.decode c t in
      let before : Rises c u.references = subst (Rises c) (sym (kept_references set.config.decode c t)) (rises_table start c) in
      rises_later c (suc c) _ (omega arith) (rises_all c u.rows u.references before)
