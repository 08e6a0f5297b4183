-- The producer of a place, by the newest of the rows.
use Rattle.std.proofs.Common.{◌≡◌, ◌∙◌, sym, ap, ℕ, List, ◌∷◌, Bool, true, false, cond, Some, Option, refl}
use Rattle.std.specs.Prelude.{find, ◌&&◌, is_some, if◌then◌else◌}
use Rattle.std.specs.List.{list_any}
use Rattle.pisa_isa.specs.declared.places.Place.{Place}
use Rattle.ooo_table.specs.Row as table
use Rattle.ooo_table.specs.Row.{is_before}
use Rattle.ooo_table.specs.Execution.{same_place}
use Rattle.ooo_table.specs.Table.{Setting}
use Rattle.ooo_table.specs.Path.{execution}
use Rattle.ooo_table.specs.Done.{producer, has_produced, unsquashed_before}
use Rattle.ooo_plain.specs.declared.row.Row.{Row}
use Rattle.ooo_plain.specs.Kept.{kept, AreKept, written_of}

abbrev pub test : Setting → Option ℕ → Place → table.Row → Bool
test set reader p o = list_any (λ w. same_place w p) (execution set o).writes && is_some o.dispatched && unsquashed_before reader o

pub found : (set : Setting) (n : ℕ) (p : Place) (d : Row) (olds : List table.Row) (r o : table.Row) (others : List table.Row) → olds ≡ o ∷ others → d ≡ kept set o
    → (reader : Option ℕ) → reader ≡ r.dispatched → test set reader p o ≡ true → (answer : Bool) → answer ≡ is_before n (if d.load then d.returned else written_of d)
    → answer ≡ has_produced set n (producer set olds r p)
found set n p d olds r o others is first reader same passes answer e =
    let yes' : test set r.dispatched p o ≡ true = ap (λ x. test set x p o) (sym same) ∙ passes in
    e ∙ (ap (λ x. is_before n (cond x.load x.returned (written_of x))) first
    ∙ sym (ap (λ l. has_produced set n (producer set l r p)) is ∙ ap (λ b. has_produced set n (cond b (Some o) (producer set others r p))) yes'))

pub passed : (set : Setting) (n : ℕ) (p : Place) (olds : List table.Row) (r o : table.Row) (others : List table.Row) → olds ≡ o ∷ others
    → (reader : Option ℕ) → reader ≡ r.dispatched → test set reader p o ≡ false → (answer : Bool) → answer ≡ has_produced set n (producer set others r p)
    → answer ≡ has_produced set n (producer set olds r p)
passed set n p olds r o others is reader same fails answer e =
    let not' : test set r.dispatched p o ≡ false = ap (λ x. test set x p o) (sym same) ∙ fails in
    e ∙ sym (ap (λ l. has_produced set n (producer set l r p)) is ∙ ap (λ b. has_produced set n (cond b (Some o) (producer set others r p))) not')
