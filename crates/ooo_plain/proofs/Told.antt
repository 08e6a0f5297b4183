-- Histories, row by row.
use Rattle.std.proofs.Common.{◌≡◌, ℕ, Bool, true, false, cond, List, [], ◌∷◌, ◌++◌, Option, Some, None, refl, sym, ap, ◌∙◌, subst}
use Rattle.std.specs.Prelude.{not, ◌&&◌, filter_map, if◌then◌else◌}
use Rattle.std.specs.List.{cons_option}
use Rattle.mem_hier.specs.declared.config.HierConfig.{HierConfig}
use Rattle.mem_hier.specs.Replay.{Reference, Load, Store}
use Rattle.mem_hier.specs.Stands.{Held, StandsFor}
use Rattle.ooo_table.specs.Row as table
use Rattle.ooo_table.specs.Row.{is_at, accessed, not_forwarded}
use Rattle.ooo_table.specs.Execution.{address}
use Rattle.ooo_table.specs.Table.{Setting}
use Rattle.ooo_table.specs.Path.{execution, stores}
use Rattle.ooo_table.specs.References.{store_references, load_references}
use Rattle.ooo_plain.specs.declared.row.Row.{Row}
use Rattle.ooo_plain.specs.Kept.{kept}

pub filter_more : {X Y : Type 0} (f : X → Option Y) (x : X) (xs : List X) (y : Y) (base : List Y) → f x ≡ Some y → filter_map f (x ∷ xs) ++ base ≡ y ∷ (filter_map f xs ++ base)
filter_more f x xs y base e = ap (λ o. cons_option o (filter_map f xs) ++ base) e

pub filter_same : {X Y : Type 0} (f : X → Option Y) (x : X) (xs : List X) (base : List Y) → f x ≡ None → filter_map f (x ∷ xs) ++ base ≡ filter_map f xs ++ base
filter_same f x xs base e = ap (λ o. cons_option o (filter_map f xs) ++ base) e

pub store_more : (set : Setting) (c : ℕ) (d : Row) (r : table.Row) (olds : List table.Row) (h : List Reference) → d ≡ kept set r
    → (answer : Bool) → answer ≡ (d.store && is_at c d.committed) → answer ≡ true → store_references set c (r ∷ olds) h ≡ Store d.address c ∷ store_references set c olds h
store_more set c d r olds h i answer e holds =
    let passes : (stores set r && is_at c r.committed) ≡ true = sym (e ∙ ap (λ x. x.store && is_at c x.committed) i) ∙ holds in
    ap (λ b. cons_option (cond b (Some (Store (address (execution set r).memory) c)) None) (filter_map (λ o. if stores set o && is_at c o.committed then Some (Store (address (execution set o).memory) c) else None) olds) ++ h) passes
    ∙ sym (ap (λ x. Store x.address c ∷ store_references set c olds h) i)

pub store_same : (set : Setting) (c : ℕ) (d : Row) (r : table.Row) (olds : List table.Row) (h : List Reference) → d ≡ kept set r
    → (answer : Bool) → answer ≡ (d.store && is_at c d.committed) → answer ≡ false → store_references set c (r ∷ olds) h ≡ store_references set c olds h
store_same set c d r olds h i answer e fails =
    let fails' : (stores set r && is_at c r.committed) ≡ false = sym (e ∙ ap (λ x. x.store && is_at c x.committed) i) ∙ fails in
    ap (λ b. cons_option (cond b (Some (Store (address (execution set r).memory) c)) None) (filter_map (λ o. if stores set o && is_at c o.committed then Some (Store (address (execution set o).memory) c) else None) olds) ++ h) fails'

pub load_same : (set : Setting) (c : ℕ) (r : table.Row) (olds : List table.Row) (h : List Reference) → (is_at c (accessed r) && not_forwarded r.access) ≡ false
    → load_references set c (r ∷ olds) h ≡ load_references set c olds h
load_same set c r olds h fails =
    ap (λ b. cons_option (cond b (Some (Load (address (execution set r).memory) c)) None) (filter_map (λ o. if is_at c (accessed o) && not_forwarded o.access then Some (Load (address (execution set o).memory) c) else None) olds) ++ h) fails

pub load_more : (set : Setting) (c : ℕ) (r : table.Row) (olds : List table.Row) (h : List Reference) → (is_at c (accessed r) && not_forwarded r.access) ≡ true
    → load_references set c (r ∷ olds) h ≡ Load (address (execution set r).memory) c ∷ load_references set c olds h
load_more set c r olds h passes =
    ap (λ b. cons_option (cond b (Some (Load (address (execution set r).memory) c)) None) (filter_map (λ o. if is_at c (accessed o) && not_forwarded o.access then Some (Load (address (execution set o).memory) c) else None) olds) ++ h) passes

pub stands_as : (v : Held) (c : HierConfig) (h k : List Reference) → h ≡ k → StandsFor v c h → StandsFor v c k
stands_as v c h k e s = let P : List Reference → Type 0 = λ l. StandsFor v c l in subst P e s
