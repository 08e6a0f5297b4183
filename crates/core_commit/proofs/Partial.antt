-- The rows within the commit stage: the older ones had their turns, the younger ones not yet.
use Rattle.std.proofs.Common.{◌≡◌, ℕ, ◌≤◌, true, List, [], ◌∷◌, ◌++◌, Some, None, refl, sym, ap, ◌∙◌, subst}
use Rattle.std.specs.Prelude.{◌⊎◌}
use Rattle.std.specs.List.{AllZip}
use Rattle.std.proofs.lemmas.Bool.{cond_both}
use Rattle.ooo_table.specs.Row.{Fetched, Row, sweep}
use Rattle.ooo_table.specs.Table.{Setting}
use Rattle.ooo_table.specs.Commit.{commits, commit_row}
use Rattle.ooo_table.specs.Bound.{Bounded}
use Rattle.ooo_table.specs.Cycle.{table}
use Rattle.ooo_table.specs.Ends.{Whole}
use Rattle.ooo_table.specs.Later.{Each, Where, By}
use Rattle.ooo_table.specs.CycleLaws.{RowFacts, SquashSpreads}
use Rattle.ooo_table.proofs.Order.{Changed}
use Rattle.ooo_table.proofs.RowFacts.{sweep_keeps, facts_commit, facts_same, changed_commit, same_changed, facts_table}
use Rattle.ooo_table.proofs.Quiet.{Own, own_commit, Same, same_commit, both_table}
use Rattle.ooo_table.proofs.Recovered.{untouched_at}
use Rattle.ooo_table.proofs.Times.{Times, Gone, times_table}

-- facts that each turn keeps, where the younger rows have none
part_keeps : (P : List Row → Row → Type 0) (R : Row → Row → Type 0) (f : List Row → Row → Row)
    → ((r : Row) → R r r)
    → ((older : List Row) (r : Row) → R r (f older r))
    → ((older before : List Row) (r : Row) → AllZip R older before → Each P before → P older r → P before (f before r))
    → ((older before : List Row) (r : Row) → AllZip R older before → Each P before → P older r → P before r)
    → (younger older : List Row) → Each P (younger ++ older) → AllZip R (younger ++ older) (younger ++ sweep f older) × Each P (younger ++ sweep f older)
part_keeps P R f itself changed step stay [] older h = sweep_keeps P R f changed step older h
part_keeps P R f itself changed step stay (y ∷ younger) older h =
    let ih = part_keeps P R f itself changed step stay younger older h.1 in
    ((itself y, ih.0), (stay (younger ++ older) (younger ++ sweep f older) y ih.0 ih.1 h.0, ih.1))

spreads_stay : (older before : List Row) (r s : Row) → AllZip Same older before → Same r s → SquashSpreads older r → SquashSpreads before s
spreads_stay [] [] r s zip e h = tt
spreads_stay (o ∷ older) (o' ∷ before) r s zip e h =
    let k : Where o.squashed (λ x. (x ≤ s.fetched.at) ⊎ By x r.squashed) = subst (λ w. Where o.squashed (λ x. (x ≤ w.at) ⊎ By x r.squashed)) (sym e.0) h.0 in
    let m : Where o.squashed (λ x. (x ≤ s.fetched.at) ⊎ By x s.squashed) = subst (λ q. Where o.squashed (λ x. (x ≤ s.fetched.at) ⊎ By x q)) (sym e.1) k in
    (subst (λ q. Where q (λ x. (x ≤ s.fetched.at) ⊎ By x s.squashed)) (sym zip.0.1) m, spreads_stay older before r s zip.1 e h.1)
spreads_stay [] (o' ∷ before) r s zip e h = absurd zip
spreads_stay (o ∷ older) [] r s zip e h = absurd zip

-- right rows aren't squashed
abbrev pub Untouched : Row → Type 0
Untouched r = r.fetched.right ≡ true → r.squashed ≡ None

-- what is true of each row
pub record Fit (set : Setting) (c : ℕ) (older : List Row) (r : Row) : Type 0 where
  pub facts : RowFacts set c older r
  pub own : Own c r
  pub stays : Untouched r
  pub spreads : SquashSpreads older r
  pub gone : r.fetched.right ≡ true → Gone r.fetched.at older

gone_stay : (f : ℕ) (older before : List Row) → AllZip Same older before → Gone f older → Gone f before
gone_stay f [] [] zip g = tt
gone_stay f (o ∷ older) (o' ∷ before) zip g =
    ((λ w. let k = g.0 (ap (λ (x : Fetched). x.right) (sym zip.0.0) ∙ w) in (k.0, zip.0.1 ∙ k.1, k.2)), gone_stay f older before zip.1 g.1)
gone_stay f [] (o' ∷ before) zip g = absurd zip
gone_stay f (o ∷ older) [] zip g = absurd zip

-- a right row was fetched after the squashes of all wrong rows before it
abbrev pub After : List Row → Row → Type 0
After older r = r.fetched.right ≡ true → Gone r.fetched.at older

after_stay : (older before : List Row) (r s : Row) → AllZip Same older before → Same r s → After older r → After before s
after_stay older before r s zip e g =
    λ w. subst (λ n. Gone n before) (ap (λ (x : Fetched). x.at) (sym e.0)) (gone_stay r.fetched.at older before zip (g (ap (λ (x : Fetched). x.right) (sym e.0) ∙ w)))

module _ (set : Setting) (c : ℕ) where
  untouched_commit : (before : List Row) (r : Row) → Untouched r → Untouched (commit_row set c before r)
  untouched_commit before r u = cond_both (commits set c before r) (record r { committed = Some c }) r Untouched (λ _. u) (λ _. u)

  together : (rows : List Row) → Each (RowFacts set c) rows → Each (λ _. Own c) rows → Each (λ _. Untouched) rows → Each SquashSpreads rows → Each After rows
      → Each (Fit set c) rows
  together [] f o u s a = tt
  together (r ∷ rows) f o u s a = (record { facts = f.0; own = o.0; stays = u.0; spreads = s.0; gone = a.0 }, together rows f.1 o.1 u.1 s.1 a.1)

  after_of : (I M : ℕ) (limits : Bounded set I M) (rows : List Row) → Each (Times set I M limits c) rows → Each After rows
  after_of I M limits [] h = tt
  after_of I M limits (r ∷ rows) h = (h.0.gone, after_of I M limits rows h.1)

  pub fit_part : (I M : ℕ) → Bounded set I M → (younger older : List Row) → (table set c).rows ≡ younger ++ older
      → Each (Fit set c) (younger ++ sweep (commit_row set c) older)
  fit_part I M limits younger older e =
      together (younger ++ sweep (commit_row set c) older)
      (part_keeps (RowFacts set c) (Changed c) (commit_row set c) (same_changed set c) (changed_commit set c)
      (facts_commit set c) (λ o b r zip below k. facts_same set c o b r zip k) younger older
      (subst (Each (RowFacts set c)) e (facts_table set c))).1
      (part_keeps (λ _. Own c) (λ _ _. Unit {0}) (commit_row set c) (λ _. tt) (λ _ _. tt)
      (λ o b r zip below k. own_commit set c c b r k) (λ o b r zip below k. k) younger older
      (subst (Each (λ _. Own c)) e (both_table set c).0)).1
      (part_keeps (λ _. Untouched) (λ _ _. Unit {0}) (commit_row set c) (λ _. tt) (λ _ _. tt)
      (λ o b r zip below k. untouched_commit b r k) (λ o b r zip below k. k) younger older
      (subst (Each (λ _. Untouched)) e (untouched_at set Whole c limits.penalty))).1
      (part_keeps SquashSpreads Same (commit_row set c) (λ _. (refl, refl)) (same_commit set c)
      (λ o b r zip below k. spreads_stay o b r (commit_row set c b r) zip (same_commit set c b r) k)
      (λ o b r zip below k. spreads_stay o b r r zip (refl, refl) k) younger older
      (subst (Each SquashSpreads) e (both_table set c).1)).1
      (part_keeps After Same (commit_row set c) (λ _. (refl, refl)) (same_commit set c)
      (λ o b r zip below k. after_stay o b r (commit_row set c b r) zip (same_commit set c b r) k)
      (λ o b r zip below k. after_stay o b r r zip (refl, refl) k) younger older
      (subst (Each After) e (after_of I M limits (table set c).rows (times_table set I M limits c)))).1
