-- What the parts hold of the rows: by their numbers, and up to one of them.
use Rattle.std.proofs.Common.{◌≡◌, ℕ, suc, ◌+◌, ◌<◌, ◌≤◌, Bool, true, false, cond, List, [], ◌∷◌, ◌++◌, Some, refl, sym, ap, ◌∙◌, subst, arith, length, length-append}
use Rattle.std.specs.Prelude.{◌==◌, filter, nat_le}
use Rattle.std.specs.List.{AllZip}
use Rattle.std.proofs.lemmas.Bool.{le-leb}
use Rattle.std.proofs.lemmas.Bool.Decides.{nat_tests}
use Rattle.ruu_core.specs.Window as unit
use Rattle.ooo_table.specs.Row.{Row}
use Rattle.ooo_table.specs.Table.{Setting}
use Rattle.ooo_table.specs.Done.{live}
use Rattle.ooo_table.specs.Later.{Each}
use Rattle.ooo_table.specs.Machine.{Given}
use Rattle.core_parts.specs.declared.addresses.MemoryRow.{MemoryRow}
use Rattle.core_parts.specs.Addresses.{up_to}
use Rattle.core_parts.specs.Rows.{Placed, pick, Lives, HasAddress}
use Rattle.core_parts.proofs.Lists.{same_number}
use Rattle.core_recovery.proofs.Least.{both}

pub differ : (a b : ℕ) → b < a → (a == b) ≡ false
differ a b h = grind (arith, nat_tests)

over : (m n : ℕ) → m < n → nat_le n m ≡ false
over m n h = grind (arith, nat_tests)

-- ---- a row of the unit by its number

module _ (g : Given) where
  -- calls that name the live row r are answered by its row of the unit, which stands behind those of the rows before it
  pub record Found (whole : List unit.Row) (older : List Row) (r : Row) : Type 0 where
    pub at : unit.Row
    pub before : List unit.Row
    pub row : unit.row_of (length older) whole ≡ Some at
    pub passes : (test : List unit.Row → unit.Row → Bool) → unit.passes test (length older) whole ≡ test before at
    pub lives : Lives g at (record { row = r; older = older })
    pub zip : AllZip (Lives g) before (pick live older)

  -- of numbers below n both lists say the same
  abbrev Alike : ℕ → List unit.Row → List unit.Row → Type 0
  Alike n whole us =
      (k : ℕ) → k < n → (unit.row_of k whole ≡ unit.row_of k us) × ((test : List unit.Row → unit.Row → Bool) → unit.passes test k whole ≡ unit.passes test k us)

  abbrev pub IsFound : List unit.Row → List Row → Row → Type 0
  IsFound whole older r = live r ≡ true → Found whole older r

  found_in : (whole : List unit.Row) (rows : List Row) (us : List unit.Row) → AllZip (Lives g) us (pick live rows) → Alike (length rows) whole us → Each (IsFound whole) rows
  found_in whole [] us z same = tt
  found_in whole (r ∷ older) us z same = by_live (live r) refl us z same (λ us. found_in whole older us)
    where
      by_live : (b : Bool) → live r ≡ b → (us : List unit.Row) → AllZip (Lives g) us (cond b (record { row = r; older = older } ∷ pick live older) (pick live older)) → Alike (suc (length older)) whole us
          → ((us : List unit.Row) → AllZip (Lives g) us (pick live older) → Alike (length older) whole us → Each (IsFound whole) older) → IsFound whole older r × Each (IsFound whole) older
      by_live true at [] z same ih = absurd z
      by_live true at (u ∷ us) z same ih =
          let here = same (length older) (omega arith) in
          let on : (u.station.row == length older) ≡ true = ap (λ k. k == length older) z.0.row ∙ same_number (length older) in (
            λ _.
                record {
                  at = u;
                  before = us;
                  row = here.0 ∙ ap (λ b. cond b (Some u) (unit.row_of (length older) us)) on;
                  passes = λ test. here.1 test ∙ ap (λ b. cond b (test us u) (unit.passes test (length older) us)) on;
                  lives = z.0;
                  zip = z.1;
                },
            ih us z.1
                (λ k lt.
                let there = same k (omega (arith, lt)) in
                let off : (u.station.row == k) ≡ false = differ u.station.row k (omega (arith, z.0.row, lt)) in
                (there.0 ∙ ap (λ b. cond b (Some u) (unit.row_of k us)) off, λ test. there.1 test ∙ ap (λ b. cond b (test us u) (unit.passes test k us)) off)),
          )
      by_live false at us z same ih = (λ h. absurd (both h at), ih us z (λ k lt. same k (omega (arith, lt))))

  pub found : (rows : List Row) (us : List unit.Row) → AllZip (Lives g) us (pick live rows) → Each (IsFound us) rows
  found rows us z = found_in us rows us z (λ k lt. (refl, λ test. refl))

-- ---- up to a row

module _ (A : Type 0) (R : A → Placed → Type 0) (number : A → ℕ) (numbered : (x : A) (q : Placed) → R x q → number x ≡ length q.older) (p : Row → Bool) where
  all_kept : (n : ℕ) (rows : List Row) (xs : List A) → AllZip R xs (pick p rows) → length rows ≤ n + 1 → filter (λ x. nat_le (number x) n) xs ≡ xs
  all_kept n [] [] z le = refl
  all_kept n [] (x ∷ xs) z le = absurd z
  all_kept n (r ∷ rows) xs z le = by_case (p r) xs z (all_kept n rows)
    where
      by_case : (b : Bool) (xs : List A) → AllZip R xs (cond b (record { row = r; older = rows } ∷ pick p rows) (pick p rows))
          → ((xs : List A) → AllZip R xs (pick p rows) → length rows ≤ n + 1 → filter (λ x. nat_le (number x) n) xs ≡ xs)
          → filter (λ x. nat_le (number x) n) xs ≡ xs
      by_case true [] z ih = absurd z
      by_case true (x ∷ xs) z ih =
          let is : number x ≡ length rows = numbered x (record { row = r; older = rows }) z.0 in
          ap (λ b. cond b (x ∷ filter (λ x. nat_le (number x) n) xs) (filter (λ x. nat_le (number x) n) xs)) (le-leb (number x) n (omega (arith, is, le)))
          ∙ ap (λ l. x ∷ l) (ih xs z.1 (omega (arith, le)))
      by_case false xs z ih = ih xs z (omega (arith, le))

  -- what is held of the rows up to m, and of no later one
  pub kept_up_to : (younger older : List Row) (m : Row) (xs : List A) → AllZip R xs (pick p (younger ++ (m ∷ older)))
      → AllZip R (filter (λ x. nat_le (number x) (length older)) xs) (pick p (m ∷ older))
  kept_up_to [] older m xs z = subst (λ l. AllZip R l (pick p (m ∷ older))) (sym (all_kept (length older) (m ∷ older) xs z (omega arith))) z
  kept_up_to (y ∷ younger) older m xs z = by_case (p y) xs z (kept_up_to younger older m)
    where
      by_case : (b : Bool) (xs : List A) → AllZip R xs (cond b (record { row = y; older = younger ++ (m ∷ older) } ∷ pick p (younger ++ (m ∷ older))) (pick p (younger ++ (m ∷ older))))
          → ((xs : List A) → AllZip R xs (pick p (younger ++ (m ∷ older))) → AllZip R (filter (λ x. nat_le (number x) (length older)) xs) (pick p (m ∷ older)))
          → AllZip R (filter (λ x. nat_le (number x) (length older)) xs) (pick p (m ∷ older))
      by_case true [] z ih = absurd z
      by_case true (x ∷ xs) z ih =
          let is : number x ≡ length (younger ++ (m ∷ older)) = numbered x (record { row = y; older = younger ++ (m ∷ older) }) z.0 in
          subst (λ b. AllZip R (cond b (x ∷ filter (λ x. nat_le (number x) (length older)) xs) (filter (λ x. nat_le (number x) (length older)) xs)) (pick p (m ∷ older)))
          (sym (over (length older) (number x) (omega (arith, is, length-append younger (m ∷ older))))) (ih xs z.1)
      by_case false xs z ih = ih xs z

module _ (set : Setting) (p : Row → Bool) where
  all_addresses : (n : ℕ) (rows : List Row) (xs : List MemoryRow) → AllZip (HasAddress set) xs (pick p rows) → length rows ≤ n + 1 → up_to n xs ≡ xs
  all_addresses n [] [] z le = refl
  all_addresses n [] (x ∷ xs) z le = absurd z
  all_addresses n (r ∷ rows) xs z le = by_case (p r) xs z (all_addresses n rows)
    where
      by_case : (b : Bool) (xs : List MemoryRow) → AllZip (HasAddress set) xs (cond b (record { row = r; older = rows } ∷ pick p rows) (pick p rows))
          → ((xs : List MemoryRow) → AllZip (HasAddress set) xs (pick p rows) → length rows ≤ n + 1 → up_to n xs ≡ xs) → up_to n xs ≡ xs
      by_case true [] z ih = absurd z
      by_case true (x ∷ xs) z ih = ap (λ b. cond b (x ∷ xs) (up_to n xs)) (le-leb x.row n (omega (arith, z.0.row, le)))
      by_case false xs z ih = ih xs z (omega (arith, le))

  pub addresses_up_to : (younger older : List Row) (m : Row) (xs : List MemoryRow) → AllZip (HasAddress set) xs (pick p (younger ++ (m ∷ older)))
      → AllZip (HasAddress set) (up_to (length older) xs) (pick p (m ∷ older))
  addresses_up_to [] older m xs z = subst (λ l. AllZip (HasAddress set) l (pick p (m ∷ older))) (sym (all_addresses (length older) (m ∷ older) xs z (omega arith))) z
  addresses_up_to (y ∷ younger) older m xs z = by_case (p y) xs z (addresses_up_to younger older m)
    where
      by_case : (b : Bool) (xs : List MemoryRow) → AllZip (HasAddress set) xs (cond b (record { row = y; older = younger ++ (m ∷ older) } ∷ pick p (younger ++ (m ∷ older))) (pick p (younger ++ (m ∷ older))))
          → ((xs : List MemoryRow) → AllZip (HasAddress set) xs (pick p (younger ++ (m ∷ older))) → AllZip (HasAddress set) (up_to (length older) xs) (pick p (m ∷ older)))
          → AllZip (HasAddress set) (up_to (length older) xs) (pick p (m ∷ older))
      by_case true [] z ih = absurd z
      by_case true (x ∷ xs) z ih =
          subst (λ b. AllZip (HasAddress set) (cond b (x ∷ xs) (up_to (length older) xs)) (pick p (m ∷ older)))
          (sym (over (length older) x.row (omega (arith, z.0.row, length-append younger (m ∷ older))))) (ih xs z.1)
      by_case false xs z ih = ih xs z
