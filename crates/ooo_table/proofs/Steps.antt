-- A sweep done turn by turn, and done in view of live rows alone.
use Rattle.std.proofs.Common.{◌≡◌, ℕ, suc, ◌+◌, ◌<◌, Bool, true, false, cond, List, [], ◌∷◌, ◌++◌, Some, refl, sym, ap, ◌∙◌, arith, inl, inr}
use Rattle.std.specs.Prelude.{◌&&◌, nat_lt, is_some, ◌⊎◌, find, filter}
use Rattle.std.specs.List.{list_any}
use Rattle.std.proofs.lemmas.Bool.{cond_both, and_parts, ltb-true, cond-false, false_from_ne_true}
use Rattle.mem_hier.specs.Replay.{Reference}
use Rattle.pisa_isa.specs.declared.places.Place.{Place}
use Rattle.ooo_table.specs.Row.{Row, is_before, sweep}
use Rattle.ooo_table.specs.Execution.{unit_latency, same_place}
use Rattle.ooo_table.specs.Table.{Setting}
use Rattle.ooo_table.specs.Path.{execution}
use Rattle.ooo_table.specs.Done.{finished, has_produced, producer, have_produced, unsquashed_before, waiting, live}
use Rattle.ooo_table.specs.Commit.{commit_row, commits}
use Rattle.ooo_table.specs.Issue.{issue_row, issues, accesses, access_of}
use Rattle.ooo_table.specs.Dispatch.{dispatch_row, dispatches}
use Rattle.ooo_table.specs.Later.{Each}
use Rattle.ooo_table.proofs.Route.{latency_some}

-- no turn changes a row twice
abbrev pub Once : (List Row → Row → Row) → Type 0
Once f = (before : List Row) (r : Row) → f before (f before r) ≡ f before r

-- the oldest row that has something to do may do it ahead of the sweep
pub sweep_first : (f : List Row → Row → Row) → Once f → (younger older : List Row) (r : Row) → sweep f older ≡ older
    → sweep f (younger ++ (f older r ∷ older)) ≡ sweep f (younger ++ (r ∷ older))
sweep_first f once [] older r still = rw (still, once older r) refl
sweep_first f once (y ∷ younger) older r still = ap (λ l. f l y ∷ l) (sweep_first f once younger older r still)

-- where no row has anything to do, the sweep is done
pub sweep_over : (f : List Row → Row → Row) (rows : List Row) → Each (λ older r. f older r ≡ r) rows → sweep f rows ≡ rows
sweep_over f [] h = refl
sweep_over f (r ∷ rows) h = ap (λ l. f l r ∷ l) (sweep_over f rows h.1) ∙ ap (λ x. x ∷ rows) h.0

not_both : {b : Bool} → b ≡ true → b ≡ false → ⊥
not_both e f = cc

module _ (set : Setting) where
  pub commit_once : (c : ℕ) → Once (commit_row set c)
  commit_once c before r =
      cond_both (commits set c before r) (record r { committed = Some c }) r (λ s. commit_row set c before s ≡ s)
      (λ e. cond-false (commits set c before (record r { committed = Some c })) _ _ (false_from_ne_true _ (λ h. set_before h)))
      (λ e. cond-false (commits set c before r) _ _ e)
    where
      set_before : commits set c before (record r { committed = Some c }) ≡ true → ⊥
      set_before h = let k : false ≡ true = grind (arith, and_parts) in cc

  -- each row is live, or is no producer of the reader, or is done with no live row before it
  abbrev pub made_for : ℕ → Place → Row → Bool
  made_for d p o = list_any (λ w. same_place w p) (execution set o).writes && is_some o.dispatched && unsquashed_before (Some d) o

  abbrev pub Kind : ℕ → ℕ → List Row → Row → Type 0
  Kind n d older o = (live o ≡ true) ⊎ (((p : Place) → made_for d p o ≡ false) ⊎ ((is_before n (finished set o) ≡ true) × (filter live older ≡ [])))

  live_ready : (n d : ℕ) (p : Place) (rows : List Row) → Each (Kind n d) rows → has_produced set n (find (made_for d p) rows) ≡ has_produced set n (find (made_for d p) (filter live rows))
  live_ready n d p [] k = refl
  live_ready n d p (o ∷ rows) k = by_kind (live o) (made_for d p o) refl refl k.0 (live_ready n d p rows k.1)
    where
      none_left : (rows : List Row) → filter live rows ≡ [] → has_produced set n (find (made_for d p) (filter live rows)) ≡ true
      none_left rows e = ap (λ l. has_produced set n (find (made_for d p) l)) e

      by_kind : (b m : Bool) → live o ≡ b → made_for d p o ≡ m → Kind n d rows o → has_produced set n (find (made_for d p) rows) ≡ has_produced set n (find (made_for d p) (filter live rows))
          → has_produced set n (cond m (Some o) (find (made_for d p) rows)) ≡ has_produced set n (find (made_for d p) (cond b (o ∷ filter live rows) (filter live rows)))
      by_kind true true e f kind ih = sym (ap (λ x. has_produced set n (cond x (Some o) (find (made_for d p) (filter live rows)))) f)
      by_kind true false e f kind ih = ih ∙ sym (ap (λ x. has_produced set n (cond x (Some o) (find (made_for d p) (filter live rows)))) f)
      by_kind false true e f (inl g) ih = absurd (not_both g e)
      by_kind false true e f (inr (inl g)) ih = absurd (not_both f (g p))
      by_kind false true e f (inr (inr g)) ih = g.0 ∙ sym (none_left rows g.1)
      by_kind false false e f kind ih = ih

  -- then its producers are done among live rows exactly where they are among all
  pub live_have : (n d : ℕ) (rows : List Row) (r : Row) (places : List Place) → r.dispatched ≡ Some d → Each (Kind n d) rows
      → have_produced set n rows r places ≡ have_produced set n (filter live rows) r places
  live_have n d rows r [] e k = refl
  live_have n d rows r (p ∷ places) e k =
      ap (λ b. b && have_produced set n rows r places) (rw e (live_ready n d p rows k)) ∙ ap (λ b. has_produced set n (producer set (filter live rows) r p) && b) (live_have n d rows r places e k)

  pub dispatch_once : (c : ℕ) → Once (dispatch_row set c)
  dispatch_once c before r =
      cond_both (dispatches set c before r) (record r { dispatched = Some c }) r (λ s. dispatch_row set c before s ≡ s)
      (λ e. cond-false (dispatches set c before (record r { dispatched = Some c })) (record r { dispatched = Some c }) (record r { dispatched = Some c }) (false_from_ne_true _ (λ h. set_before h)))
      (λ e. cond-false (dispatches set c before r) _ _ e)
    where
      set_before : dispatches set c before (record r { dispatched = Some c }) ≡ true → ⊥
      set_before h = let k : waiting (record r { dispatched = Some c }) ≡ true = grind (arith, and_parts) in cc

  pub issue_once : (c : ℕ) (base : List Reference) (start : List Row) → Once (issue_row set c base start)
  issue_once c base start before r = turn (issues set c start before r) (accesses set c start before r) refl refl
    where
      issued_again : issues set c start before (record r { issued = Some c }) ≡ true → ⊥
      issued_again h = let k : false ≡ true = grind (arith, and_parts) in cc

      read_early : accesses set c start before (record r { issued = Some c }) ≡ true → ⊥
      read_early h =
          let k : nat_lt (c + unit_latency (execution set r).unit) (suc c) ≡ true = grind (arith, and_parts) in
          let lt : c + unit_latency (execution set r).unit < suc c = ltb-true _ _ k in
          omega (arith, lt, latency_some (execution set r).unit)

      read_again : accesses set c start before (record r { access = Some (access_of set c base before r) }) ≡ true → ⊥
      read_again h = let k : false ≡ true = grind (arith, and_parts) in cc

      turn : (i a : Bool) → issues set c start before r ≡ i → accesses set c start before r ≡ a
          → let s : Row = cond i (record r { issued = Some c }) (cond a (record r { access = Some (access_of set c base before r) }) r) in issue_row set c base start before s ≡ s
      turn true a e f = cond-false _ _ _ (false_from_ne_true _ issued_again) ∙ cond-false _ _ _ (false_from_ne_true _ read_early)
      turn false true e f = cond-false _ _ _ e ∙ cond-false _ _ _ (false_from_ne_true _ read_again)
      turn false false e f = cond-false _ _ _ e ∙ cond-false _ _ _ f
