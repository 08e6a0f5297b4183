-- What the predictor is told, row by row.
use Rattle.std.proofs.Common.{◌≡◌, ℕ, Bool, true, false, cond, List, ◌∷◌, ◌++◌, Some, None, refl, sym, ap, ◌∙◌, subst}
use Rattle.std.specs.Prelude.{◌&&◌, ◌||◌, filter_map, if◌then◌else◌}
use Rattle.std.specs.List.{cons_option}
use Rattle.bpred_unit.specs.declared.config.PredConfig.{PredConfig}
use Rattle.bpred_unit.specs.declared.predictor.Predictor.{Predictor}
use Rattle.bpred_unit.specs.History.{Event, Update}
use Rattle.bpred_unit.specs.Stands.{StandsFor}
use Rattle.ooo_table.specs.Row as table
use Rattle.ooo_table.specs.Row.{is_at}
use Rattle.ooo_table.specs.Table.{Setting}
use Rattle.ooo_table.specs.Path.{execution}
use Rattle.ooo_table.specs.References.{updates_of}
use Rattle.ooo_plain.specs.declared.row.Row.{Row}
use Rattle.ooo_plain.specs.Kept.{kept}

pub stands_as : (v : Predictor) (c : PredConfig) (h k : List Event) → h ≡ k → StandsFor v c h → StandsFor v c k
stands_as v c h k e s = let P : List Event → Type 0 = λ l. StandsFor v c l in subst P e s

both_second : (a b : Bool) → (a && b) ≡ true → b ≡ true
both_second true b e = e
both_second false b e = absurd cc

or_true : (b : Bool) → (b || true) ≡ true
or_true true = refl
or_true false = refl

pub update_more : (set : Setting) (c : ℕ) (d : Row) (r : table.Row) (olds : List table.Row) (h : List Event) → d ≡ kept set r
    → (answer : Bool) → answer ≡ (is_at c d.committed && d.control) → answer ≡ true → updates_of set c (r ∷ olds) h ≡ Update d.pc d.instr d.taken d.next ∷ updates_of set c olds h
update_more set c d r olds h i answer e holds =
    let passes : (is_at c r.committed && (execution set r).control) ≡ true = sym (e ∙ ap (λ x. is_at c x.committed && x.control) i) ∙ holds in
    let control : (execution set r).control ≡ true = both_second (is_at c r.committed) (execution set r).control passes in
    let next : (kept set r).next ≡ (execution set r).next =
    ap (λ b. cond (r.fetched.right || b) (execution set r).next 0) control ∙ ap (λ b. cond b (execution set r).next 0) (or_true r.fetched.right) in
    ap (λ b. cons_option (cond b (Some (Update r.fetched.pc (set.instruction r.fetched.pc) (execution set r).taken (execution set r).next)) None)
    (filter_map (λ o. if is_at c o.committed && (execution set o).control then Some (Update o.fetched.pc (set.instruction o.fetched.pc) (execution set o).taken (execution set o).next) else None) olds) ++ h) passes
    ∙ sym (ap (λ x. Update x.pc x.instr x.taken x.next ∷ updates_of set c olds h) i ∙ ap (λ n. Update r.fetched.pc (set.instruction r.fetched.pc) (execution set r).taken n ∷ updates_of set c olds h) next)

pub update_same : (set : Setting) (c : ℕ) (d : Row) (r : table.Row) (olds : List table.Row) (h : List Event) → d ≡ kept set r
    → (answer : Bool) → answer ≡ (is_at c d.committed && d.control) → answer ≡ false → updates_of set c (r ∷ olds) h ≡ updates_of set c olds h
update_same set c d r olds h i answer e fails =
    let fails' : (is_at c r.committed && (execution set r).control) ≡ false = sym (e ∙ ap (λ x. is_at c x.committed && x.control) i) ∙ fails in
    ap (λ b. cons_option (cond b (Some (Update r.fetched.pc (set.instruction r.fetched.pc) (execution set r).taken (execution set r).next)) None)
    (filter_map (λ o. if is_at c o.committed && (execution set o).control then Some (Update o.fetched.pc (set.instruction o.fetched.pc) (execution set o).taken (execution set o).next) else None) olds) ++ h) fails'
