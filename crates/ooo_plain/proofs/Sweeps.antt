-- Turns of rows, and sweeps of turns.
use Rattle.std.proofs.Common.{◌≡◌, ℕ, zero, suc, ◌+◌, ◌-◌, ◌<◌, ◌≤◌, Bool, true, false, cond, List, [], ◌∷◌, length, take, drop, get_or, set, refl, sym, ap, ◌∙◌, arith, add-one, length-drop, length-set}
use Rattle.std.specs.Prelude.{map, if◌then◌else◌}
use Rattle.std.proofs.lemmas.List.{take_all, take-set, drop-set, drop-set-lt}
use Rattle.ooo_table.specs.Row as table
use Rattle.ooo_table.specs.Row.{sweep}
use Rattle.ooo_table.specs.Table.{Setting}
use Rattle.ooo_plain.specs.declared.row.Row.{Row}
use Rattle.ooo_plain.specs.Kept.{kept, AreKept, Turned, Swept}

-- the rest of a list behind a place, as a slice
abbrev pub behind : {X : Type 0} → ℕ → List X → List X
behind at xs = take (length xs - (at + 1)) (drop (at + 1) xs)

pub behind-is : {X : Type 0} (at : ℕ) (xs : List X) → behind at xs ≡ drop (at + 1) xs
behind-is at xs = take_all (length xs - (at + 1)) (drop (at + 1) xs) (omega (arith, length-drop (at + 1) xs))

pub drop_at : {X : Type 0} (at : ℕ) (xs : List X) (d : X) → at < length xs → drop at xs ≡ get_or xs at d ∷ drop (at + 1) xs
drop_at at [] d h = absurd (omega arith)
drop_at zero (x ∷ xs) d h = refl
drop_at (suc at) (x ∷ xs) d h =
    let e : suc (at + 1) ≡ suc at + 1 = omega arith in
    drop_at at xs d (omega arith) ∙ ap (λ n. get_or xs at d ∷ drop n (x ∷ xs)) e

-- within a list the default doesn't matter
pub same_default : {X : Type 0} (at : ℕ) (xs : List X) (d e : X) → at < length xs → get_or xs at d ≡ get_or xs at e
same_default at [] d e h = absurd (omega arith)
same_default zero (x ∷ xs) d e h = refl
same_default (suc at) (x ∷ xs) d e h = same_default at xs d e (omega arith)

pub cons_parts : {X : Type 0} (x y : X) (xs ys : List X) → x ∷ xs ≡ y ∷ ys → record { first : x ≡ y; rest : xs ≡ ys }
cons_parts x y xs ys e = record { first = ap (λ l. get_or l 0 x) e; rest = ap (λ l. drop 1 l) e }

-- the row at a place, and the rows behind it as a slice
pub record Parts (set' : Setting) (at : ℕ) (old : List Row) (d : Row) (olds : List table.Row) (r : table.Row) : Type 0 where
  pub first : d ≡ kept set' r
  pub rest : AreKept set' (behind at old) olds
  pub later : AreKept set' (drop (at + 1) old) olds

pub parts_at : (set' : Setting) (at : ℕ) (old : List Row) (d : Row) (olds : List table.Row) (r : table.Row) → at < length old → d ≡ get_or old at d → AreKept set' (drop at old) (r ∷ olds)
    → Parts set' at old d olds r
parts_at set' at old d olds r h is k =
    let parts : record { first : get_or old at d ≡ kept set' r; rest : drop (at + 1) old ≡ map (kept set') olds } = cons_parts _ _ _ _ (sym (drop_at at old d h) ∙ k) in
    record { first = is ∙ parts.first; rest = behind-is at old ∙ parts.rest; later = parts.rest }

pub turned : (set' : Setting) (at : ℕ) (old new : List Row) (d : Row) (test : List table.Row → table.Row → Bool) (f : table.Row → table.Row) (g : Row → Row) (answer : Bool) (d' : Row)
    → at < length old → d ≡ get_or old at d
    → ((olds : List table.Row) (r : table.Row) → AreKept set' (behind at old) olds → d ≡ kept set' r → answer ≡ test olds r) → answer ≡ true
    → new ≡ set old at (g (get_or old at d')) → ((r : table.Row) → g (kept set' r) ≡ kept set' (f r)) → Turned set' (λ olds r. if test olds r then f r else r) at old new
turned set' at old new d test f g answer d' h is said holds e' same =
    let e : new ≡ set old at (g d) = e' ∙ ap (λ x. set old at (g x)) (same_default at old d' d h ∙ sym is) in
    record {
      turn = λ olds r k.
          let parts : record { first : get_or old at d ≡ kept set' r; rest : drop (at + 1) old ≡ map (kept set') olds } = cons_parts _ _ _ _ (sym (drop_at at old d h) ∙ k) in
          let first : d ≡ kept set' r = is ∙ parts.first in
          let passes : test olds r ≡ true = sym (said olds r (behind-is at old ∙ parts.rest) first) ∙ holds in
          ap (drop at) e ∙ (drop-set old at (g d) h
          ∙ (ap (λ x. x ∷ drop (at + 1) old) (ap g first ∙ (same r ∙ sym (ap (λ b. kept set' (cond b (f r) r)) passes)))
          ∙ ap (λ l. kept set' (cond (test olds r) (f r) r) ∷ l) parts.rest));
      younger = ap (take at) e ∙ take-set old at (g d);
      many = ap length e ∙ length-set old at (g d);
    }

pub stayed : (set' : Setting) (at : ℕ) (old : List Row) (d : Row) (test : List table.Row → table.Row → Bool) (f : table.Row → table.Row) (answer : Bool)
    → at < length old → d ≡ get_or old at d
    → ((olds : List table.Row) (r : table.Row) → AreKept set' (behind at old) olds → d ≡ kept set' r → answer ≡ test olds r) → answer ≡ false
    → Turned set' (λ olds r. if test olds r then f r else r) at old old
stayed set' at old d test f answer h is said no' =
    record {
      turn = λ olds r k.
          let parts : record { first : get_or old at d ≡ kept set' r; rest : drop (at + 1) old ≡ map (kept set') olds } = cons_parts _ _ _ _ (sym (drop_at at old d h) ∙ k) in
          let fails : test olds r ≡ false = sym (said olds r (behind-is at old ∙ parts.rest) (is ∙ parts.first)) ∙ no' in
          k ∙ sym (ap (λ b. kept set' (cond b (f r) r) ∷ map (kept set') olds) fails);
      younger = refl;
      many = refl;
    }

-- ---- sweeps

shorter : {X : Type 0} (n : ℕ) (zs : List X) → take n zs ≡ take n (take (suc n) zs)
shorter zero zs = refl
shorter (suc n) [] = refl
shorter (suc n) (z ∷ zs) = ap (λ l. z ∷ l) (shorter n zs)

pub take_shorter : {X : Type 0} (at : ℕ) (xs ys : List X) → take (at + 1) xs ≡ take (at + 1) ys → take at xs ≡ take at ys
take_shorter {X = X} at xs ys e =
    let f : take (suc at) xs ≡ take (suc at) ys = ap (λ n. take n xs) (sym (add-one at)) ∙ (e ∙ ap (λ n. take n ys) (add-one at)) in
    shorter at xs ∙ (ap (λ (l : List X). take at l) f ∙ sym (shorter at ys))

item : {X : Type 0} (n : ℕ) (zs : List X) (d : X) → get_or zs n d ≡ get_or (take (suc n) zs) n d
item zero [] d = refl
item zero (z ∷ zs) d = refl
item (suc n) [] d = refl
item (suc n) (z ∷ zs) d = item n zs d

pub same_item : {X : Type 0} (at : ℕ) (xs ys : List X) (d : X) → take (at + 1) xs ≡ take (at + 1) ys → get_or xs at d ≡ get_or ys at d
same_item {X = X} at xs ys d e =
    let f : take (suc at) xs ≡ take (suc at) ys = ap (λ n. take n xs) (sym (add-one at)) ∙ (e ∙ ap (λ n. take n ys) (add-one at)) in
    item at xs d ∙ (ap (λ (l : List X). get_or l at d) f ∙ sym (item at ys d))

pub drop_past : {X : Type 0} (n : ℕ) (xs : List X) → length xs ≤ n → drop n xs ≡ []
drop_past zero [] h = refl
drop_past (suc n) [] h = refl
drop_past zero (x ∷ xs) h = absurd (omega arith)
drop_past (suc n) (x ∷ xs) h = drop_past n xs (omega arith)

pub swept_end : (set' : Setting) (f : List table.Row → table.Row → table.Row) (at : ℕ) (old : List Row) → length old ≤ at → Swept set' f at old old
swept_end set' f at old h =
    record {
      sweep = λ olds k. k ∙ none olds (sym (drop_past at old h) ∙ k);
      younger = refl;
      many = refl;
    }
  where
    none : (olds : List table.Row) → [] ≡ map (kept set') olds → map (kept set') olds ≡ map (kept set') (sweep f olds)
    none [] e = refl
    none (o ∷ olds) e = absurd cc

pub swept_next : (set' : Setting) (f : List table.Row → table.Row → table.Row) (at : ℕ) (old mid new : List Row) → at < length old
    → Swept set' f (at + 1) old mid → Turned set' f at mid new → Swept set' f at old new
swept_next set' f at old mid new h before turn =
    record {
      sweep = λ olds k. from olds k;
      younger = turn.younger ∙ take_shorter at mid old before.younger;
      many = turn.many ∙ before.many;
    }
  where
    from : (olds : List table.Row) → AreKept set' (drop at old) olds → AreKept set' (drop at new) (sweep f olds)
    from [] k = absurd (no_rows (sym (ap length k)))
      where
        no_rows : 0 ≡ length (drop at old) → ⊥
        no_rows e = omega (arith, length-drop at old)
    from (r ∷ olds) k =
        let d : Row = kept set' r in
        let parts : record { first : get_or old at d ≡ kept set' r; rest : drop (at + 1) old ≡ map (kept set') olds } = cons_parts _ _ _ _ (sym (drop_at at old d h) ∙ k) in
        let inside : at < length mid = omega (arith, before.many) in
        let was : get_or mid at d ≡ kept set' r = same_item at mid old d before.younger ∙ parts.first in
        let have : AreKept set' (drop at mid) (r ∷ sweep f olds) = drop_at at mid d inside ∙ (ap (λ x. x ∷ drop (at + 1) mid) was ∙ ap (λ l. kept set' r ∷ l) (before.sweep olds parts.rest)) in
        turn.turn (sweep f olds) r have
