-- Of the live rows fewer are wrong than the unit holds.
use Rattle.std.proofs.Common.{◌≡◌, ℕ, suc, ◌+◌, ◌<◌, ◌≤◌, Bool, true, false, cond, List, [], ◌∷◌, Option, Some, None, refl, ap, ◌∙◌, arith, inl, inr}
use Rattle.std.specs.Prelude.{◌&&◌, ◌⊎◌, not, is_none, is_some, count_by}
use Rattle.std.proofs.lemmas.Bool.{and_parts, and_from, ltb-true, lt-ltb, not-true}
use Rattle.ooo_table.specs.Row.{Row, MemoryAccess, is_before, returned}
use Rattle.ooo_table.specs.Table.{Setting}
use Rattle.ooo_table.specs.Path.{execution, loads, stores}
use Rattle.ooo_table.specs.Done.{live, waiting, written, finished, have_produced}
use Rattle.ooo_table.specs.Cycle.{table, after_issue}
use Rattle.ooo_table.specs.Ends.{Whole}
use Rattle.ooo_table.specs.Later.{Each, Where}
use Rattle.ooo_table.specs.Legal.{CommitAllowed}
use Rattle.ooo_table.specs.PathLaws.{newest}
use Rattle.ooo_table.specs.Bound.{Bounded}
use Rattle.ooo_table.specs.CycleLaws.{Passed, RowFacts, WrongRowsFit}
use Rattle.ooo_table.proofs.Route.{Route, Strays}
use Rattle.ooo_table.proofs.Times.{Times, Reads}
use Rattle.ooo_table.proofs.Counts.{both', one, count_cons, count_true, count_false}
use Rattle.ooo_table.proofs.Room.{live_placed, marks_less, places_at}
use Rattle.ooo_table.proofs.Kept.{kept_issue, kept_table}
use Rattle.ooo_table.proofs.Run.{Proceeds, proceeds_kept}
use Rattle.ooo_table.proofs.CycleFacts.{facts_three, route_three, times_three}

abbrev wrong_live : Row → Bool
wrong_live r = live r && not r.fetched.right

abbrev right_live : Row → Bool
right_live r = live r && r.fetched.right

counted_apart : (rows : List Row) → count_by live rows ≡ count_by wrong_live rows + count_by right_live rows
counted_apart [] = refl
counted_apart (r ∷ rows) =
    omega (arith, counted_apart rows, count_cons live r rows, count_cons wrong_live r rows, count_cons right_live r rows, apart (live r) r.fetched.right)
  where
    apart : (a b : Bool) → one a ≡ one (a && not b) + one (a && b)
    apart true true = refl
    apart true false = refl
    apart false b = refl

grown : (p : Row → Bool) (r : Row) (rows : List Row) → count_by p rows ≤ count_by p (r ∷ rows)
grown p r rows = omega (arith, count_cons p r rows)

module _ (set : Setting) (I M : ℕ) (limits : Bounded set I M) where
  before_later : (x n : ℕ) (m : Option ℕ) → x ≤ n → is_before x m ≡ true → is_before n m ≡ true
  before_later x n None le h = absurd cc
  before_later x n (Some t) le h = lt-ltb t n (omega (arith, ltb-true t x h))

  -- a row that has committed by c was written back by c
  committed_written : (c : ℕ) (older : List Row) (r : Row) → RowFacts set c older r → Times set I M limits (suc c) older r → is_some r.committed ≡ true → is_before (suc c) (written set r) ≡ true
  committed_written c older r f t h = by_mark r.committed h f.committed_by f.order
    where
      by_access : (x : ℕ) (m : Option MemoryAccess) → Where m (Reads set I M limits (suc c) (written set r)) → is_before x (returned (record r { access = m })) ≡ true → is_before (suc c) (written set r) ≡ true
      by_access x None w k = absurd cc
      by_access x (Some a) w k = let lt : a.at < suc c = w.0 in before_later (suc a.at) (suc c) (written set r) (omega arith) w.2

      by_load : (x : ℕ) → x ≤ c → (b : Bool) → is_before x (cond b (returned r) (written set r)) ≡ true → is_before (suc c) (written set r) ≡ true
      by_load x le true k = by_access x r.access t.access k
      by_load x le false k = before_later x (suc c) (written set r) (omega arith) k

      by_store : (x : ℕ) → x ≤ c → (b : Bool) → cond b (is_before x (written set r) && have_produced set x older r (execution set r).second) (is_before x (finished set r)) ≡ true → is_before (suc c) (written set r) ≡ true
      by_store x le true k = before_later x (suc c) (written set r) (omega arith) (and_parts (is_before x (written set r)) (have_produced set x older r (execution set r).second) k).0
      by_store x le false k = by_load x le (loads set r) k

      by_mark : (m : Option ℕ) → is_some m ≡ true → Where m (λ x. x ≤ c) → Where m (CommitAllowed set older r) → is_before (suc c) (written set r) ≡ true
      by_mark None h le w = absurd cc
      by_mark (Some x) h le w = by_store x le (stores set r) w.done

  -- the newest right row, where the path has left it and no row behind it is waiting, is live
  left_live : (c : ℕ) (older : List Row) (m : Row) → m.fetched.right ≡ true → RowFacts set c older m → Times set I M limits (suc c) older m → Proceeds set m → waiting m ≡ false → Strays set (suc c) (Some m) → live m ≡ true
  left_live c older m w f t p passed strays = by_strays strays
    where
      came : (d x : Option ℕ) → x ≡ None → (is_none d && is_none x) ≡ false → is_some d ≡ true
      came None x e h = absurd (both' (ap is_none e) h)
      came (Some y) x e h = refl

      dispatched : is_some m.dispatched ≡ true
      dispatched = came m.dispatched m.squashed (t.kept w) passed

      unset : (x : Option ℕ) → (is_some x ≡ true → ⊥) → is_none x ≡ true
      unset None h = refl
      unset (Some y) h = absurd (h refl)

      by_strays : Strays set (suc c) (Some m) → live m ≡ true
      by_strays (inl stops) = absurd (both' stops (p w dispatched))
      by_strays (inr (e, late)) =
          and_from _ _ (and_from _ _ dispatched (unset m.committed (λ k. both' (committed_written c older m f t k) late))) (ap is_none (t.kept w))

  newest_live : (c : ℕ) (rows : List Row) → Each (RowFacts set c) rows → Each (Times set I M limits (suc c)) rows → Each (λ _ r. Proceeds set r) rows → Passed rows → Strays set (suc c) (newest rows)
      → 1 ≤ count_by right_live rows
  newest_live c [] f t p w s = absurd s
  newest_live c (o ∷ rows) f t p w s = by_right o.fetched.right refl s (newest_live c rows f.1 t.1 p.1 w.1)
    where
      by_right : (b : Bool) → o.fetched.right ≡ b → Strays set (suc c) (cond b (Some o) (newest rows)) → (Strays set (suc c) (newest rows) → 1 ≤ count_by right_live rows) → 1 ≤ count_by right_live (o ∷ rows)
      by_right true e s ih = omega (arith, count_true right_live o rows (and_from _ _ (left_live c rows o e f.0 t.0 p.0 w.0 s) e))
      by_right false e s ih = omega (arith, ih s, grown right_live o rows)

  some_right : (c : ℕ) (rows : List Row) → Each (Route set (suc c)) rows → Each (RowFacts set c) rows → Each (Times set I M limits (suc c)) rows → Each (λ _ r. Proceeds set r) rows
      → (count_by wrong_live rows ≡ 0) ⊎ (1 ≤ count_by right_live rows)
  some_right c [] route f t p = inl refl
  some_right c (r ∷ rows) route f t p = by_self (wrong_live r) refl (some_right c rows route.1 f.1 t.1 p.1)
    where
      unset : (m : Option ℕ) → is_none m ≡ true → m ≡ None
      unset None h = refl
      unset (Some x) h = absurd cc

      by_self : (b : Bool) → wrong_live r ≡ b → (count_by wrong_live rows ≡ 0) ⊎ (1 ≤ count_by right_live rows) → (count_by wrong_live (r ∷ rows) ≡ 0) ⊎ (1 ≤ count_by right_live (r ∷ rows))
      by_self true e ih =
          let k : (live r ≡ true) × (not r.fetched.right ≡ true) = and_parts (live r) (not r.fetched.right) e in
          let l : ((is_some r.dispatched && is_none r.committed) ≡ true) × (is_none r.squashed ≡ true) = and_parts (is_some r.dispatched && is_none r.committed) (is_none r.squashed) k.0 in
          let d : is_some r.dispatched ≡ true = (and_parts (is_some r.dispatched) (is_none r.committed) l.0).0 in
          let s : Strays set (suc c) (newest rows) = route.0.strays (not-true r.fetched.right k.1) (unset r.squashed l.1) in
          inr (omega (arith, newest_live c rows f.1 t.1 p.1 (f.0.first d) s, grown right_live r rows))
      by_self false e (inl h) = inl (count_false wrong_live r rows e ∙ h)
      by_self false e (inr h) = inr (omega (arith, h, grown right_live r rows))

  pub wrong_fit : (c : ℕ) → WrongRowsFit set c
  wrong_fit c = by_some (some_right c rows (route_three set I M limits c).0 (facts_three set c) (times_three set I M limits c) proceed)
    where
      rows : List Row
      rows = (after_issue set c).rows

      proceed : Each (λ _ r. Proceeds set r) rows
      proceed = kept_issue set c (λ _ r. Proceeds set r) (proceeds_kept set c) (table set c) (kept_table set (λ c _ r. Proceeds set r) (proceeds_kept set) (λ c older r p. p) c)

      fit : count_by live rows ≤ set.config.ruu
      fit = omega (arith, marks_less set live set.config.ruu (live_placed set) c, (places_at set Whole c).unit)

      by_some : (count_by wrong_live rows ≡ 0) ⊎ (1 ≤ count_by right_live rows) → count_by wrong_live rows < set.config.ruu
      by_some (inl h) = omega (arith, h, limits.ruu)
      by_some (inr h) = omega (arith, h, fit, counted_apart rows)
