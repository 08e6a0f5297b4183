-- How many commits came in the cycle, and which ports they hold.
use Rattle.std.proofs.Common.{◌≡◌, ℕ, ◌+◌, ◌<◌, Bool, true, false, cond, List, [], ◌∷◌, ◌++◌, Option, Some, None, refl, ap, ◌∙◌, subst, arith}
use Rattle.std.specs.Prelude.{◌&&◌, ◌||◌, nat_lt, nat_le, option_map, count_by}
use Rattle.std.proofs.lemmas.Bool.{ltb-true, false_from_ne_true, and_parts}
use Rattle.ooo_table.specs.Row.{Row, MemoryAccess, is_at}
use Rattle.ooo_table.specs.Execution.{Ports}
use Rattle.ooo_table.specs.Table.{Setting}
use Rattle.ooo_table.specs.Path.{loads, stores}
use Rattle.ooo_table.specs.Issue.{holds, spans}
use Rattle.ooo_table.specs.Cycle.{table}
use Rattle.ooo_table.specs.Later.{Each, Where, Past}
use Rattle.ooo_table.proofs.Counts.{past_table}
use Rattle.ooo_table.proofs.Units.{not_at}
use Rattle.core_parts.proofs.Lists.{and_false, count_skip, count_cons}
use Rattle.core_commit.proofs.Partial.{Fit}

pub count_over : (p : Row → Bool) (younger older : List Row) → Each (λ _ o. p o ≡ false) younger → count_by p (younger ++ older) ≡ count_by p older
count_over p [] older h = refl
count_over p (y ∷ younger) older h = count_skip p y (younger ++ older) h.0 ∙ count_over p younger older h.1

-- the first part of rows that each have a fact of their own
pub front_of : (P : Row → Type 0) (younger older : List Row) → Each (λ _. P) (younger ++ older) → Each (λ _. P) younger
front_of P [] older h = tt
front_of P (y ∷ younger) older h = (h.0, front_of P younger older h.1)

pub each_map : (P Q : Row → Type 0) → ((r : Row) → P r → Q r) → (rows : List Row) → Each (λ _. P) rows → Each (λ _. Q) rows
each_map P Q f [] h = tt
each_map P Q f (r ∷ rows) h = (f r h.0, each_map P Q f rows h.1)

-- two counts of rows that pass alike
pub count_alike : (p q : Row → Bool) (rows : List Row) → Each (λ _ o. p o ≡ q o) rows → count_by p rows ≡ count_by q rows
count_alike p q [] h = refl
count_alike p q (r ∷ rows) h =
    let e : cond {A = ℕ} (p r) 1 0 ≡ cond {A = ℕ} (q r) 1 0 = ap (λ b. cond {A = ℕ} b 1 0) h.0 in
    omega (arith, count_cons p r rows, count_cons q r rows, e, count_alike p q rows h.1)

and_swap : (a b : Bool) → (a && b) ≡ (b && a)
and_swap true true = refl
and_swap true false = refl
and_swap false true = refl
and_swap false false = refl

abbrev accessed_of : Option MemoryAccess → Option ℕ
accessed_of m = option_map (λ a. a.at) m

module _ (set : Setting) (c : ℕ) where
  -- rows that didn't have their turns didn't commit at c
  pub not_yet : (younger older : List Row) → (table set c).rows ≡ younger ++ older → Each (λ _ o. is_at c o.committed ≡ false) younger
  not_yet younger older e =
      front_of (λ o. is_at c o.committed ≡ false) younger older
      (subst (Each (λ _ o. is_at c o.committed ≡ false)) e
      (each_map (Past c) (λ o. is_at c o.committed ≡ false) (λ o h. not_at c o.committed h.committed) (table set c).rows (past_table set c)))

  -- no access of a load is of this cycle yet
  no_access : (m : Option MemoryAccess) → Where m (λ a. a.at < c) → (b : Bool) → (b && spans c 1 (accessed_of m)) ≡ false
  no_access None h b = and_false b
  no_access (Some a) h b =
      let off : (nat_le a.at c && nat_lt c (a.at + 1)) ≡ false =
      false_from_ne_true _ (λ k. let p = and_parts _ _ k in let q : c < a.at + 1 = ltb-true c (a.at + 1) p.1 in omega (arith, q, h)) in
      ap (λ x. b && x) off ∙ and_false b

  -- so ports are held by the stores that committed in it
  holds_port : (r : Row) → Where r.access (λ a. a.at < c) → holds set Ports c r ≡ (is_at c r.committed && stores set r)
  holds_port r h = ap (λ x. x || (stores set r && is_at c r.committed)) (no_access r.access h (loads set r)) ∙ and_swap (stores set r) (is_at c r.committed)

  ports_of : (rows : List Row) → Each (Fit set c) rows → Each (λ _ o. holds set Ports c o ≡ (is_at c o.committed && stores set o)) rows
  ports_of [] h = tt
  ports_of (r ∷ rows) h = (holds_port r h.0.own.access, ports_of rows h.1)

  pub ports_held : (rows : List Row) → Each (Fit set c) rows → count_by (holds set Ports c) rows ≡ count_by (λ o. is_at c o.committed && stores set o) rows
  ports_held rows fit = count_alike (holds set Ports c) (λ o. is_at c o.committed && stores set o) rows (ports_of rows fit)
