-- Which rows are squashed, and what follows the row that recovers.
use Rattle.std.proofs.Common.{◌≡◌, ℕ, Bool, true, false, cond, List, ◌∷◌, Option, Some, None, refl, sym, ap, ◌∙◌}
use Rattle.std.specs.Prelude.{◌&&◌, ◌||◌, is_none, find, option_map}
use Rattle.std.specs.List.{list_any}
use Rattle.ooo_table.specs.Row as table
use Rattle.ooo_table.specs.Row.{is_at}
use Rattle.ooo_table.specs.Table.{Setting}
use Rattle.ooo_table.specs.Path.{execution, mispredicted}
use Rattle.ooo_table.specs.Recovery.{recovers}
use Rattle.ooo_plain.specs.declared.row.Row.{Row}
use Rattle.ooo_plain.specs.Kept.{kept, AreKept, written_of}

abbrev pub squashes : Setting → ℕ → List table.Row → table.Row → Bool
squashes set c older r = list_any (recovers set c) older && is_none r.squashed

-- what follows a mispredicted row is kept
pub next_kept : (set : Setting) (r : table.Row) → mispredicted set r ≡ true → (kept set r).next ≡ (execution set r).next
next_kept set r e = by_right r.fetched.right _ _ (execution set r).control e
  where
    by_right : (b x y d : Bool) → (b && x && y) ≡ true → cond (b || d) (execution set r).next 0 ≡ (execution set r).next
    by_right true x y d e = refl
    by_right false x y d e = absurd cc

both_first : (a b : Bool) → (a && b) ≡ true → a ≡ true
both_first true b e = refl
both_first false b e = absurd cc

pub redirect_found : (set : Setting) (c : ℕ) (d : Row) (olds : List table.Row) (o : table.Row) (others : List table.Row) → olds ≡ o ∷ others → d ≡ kept set o
    → (answer : Bool) → answer ≡ (d.mispredicted && is_at c (written_of d)) → answer ≡ true
    → Some d.next ≡ option_map (λ m. (execution set m).next) (find (recovers set c) olds)
redirect_found set c d olds o others is first answer e holds =
    let passes : recovers set c o ≡ true = sym (e ∙ ap (λ x. x.mispredicted && is_at c (written_of x)) first) ∙ holds in
    ap (λ x. Some x.next) first ∙ (ap Some (next_kept set o (both_first _ _ passes))
    ∙ sym (ap (λ l. option_map (λ m. (execution set m).next) (find (recovers set c) l)) is
    ∙ ap (λ b. option_map (λ m. (execution set m).next) (cond b (Some o) (find (recovers set c) others))) passes))

pub redirect_passed : (set : Setting) (c : ℕ) (d : Row) (olds : List table.Row) (o : table.Row) (others : List table.Row) → olds ≡ o ∷ others → d ≡ kept set o
    → (answer : Bool) → answer ≡ (d.mispredicted && is_at c (written_of d)) → answer ≡ false
    → (later : Option ℕ) → later ≡ option_map (λ m. (execution set m).next) (find (recovers set c) others)
    → later ≡ option_map (λ m. (execution set m).next) (find (recovers set c) olds)
redirect_passed set c d olds o others is first answer e fails later k =
    let fails' : recovers set c o ≡ false = sym (e ∙ ap (λ x. x.mispredicted && is_at c (written_of x)) first) ∙ fails in
    k ∙ sym (ap (λ l. option_map (λ m. (execution set m).next) (find (recovers set c) l)) is
    ∙ ap (λ b. option_map (λ m. (execution set m).next) (cond b (Some o) (find (recovers set c) others))) fails')
