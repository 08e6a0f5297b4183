-- The rows within the dispatch stage: the older ones had their turns, the younger ones not yet.
use Rattle.std.proofs.Common.{◌≡◌, ℕ, suc, ◌<◌, ◌≤◌, Bool, true, false, List, [], ◌∷◌, ◌++◌, Some, None, refl, sym, ap, ◌∙◌, subst, inl, inr}
use Rattle.std.specs.Prelude.{◌⊎◌, ◌&&◌, ◌||◌, not, is_some, is_none, nat_lt}
use Rattle.std.specs.List.{AllZip, list_any, list_all}
use Rattle.std.proofs.lemmas.Bool.{cond_both, and_parts, not-true}
use Rattle.ooo_table.specs.Row.{Fetched, Row, sweep}
use Rattle.ooo_table.specs.Table.{Setting, Table}
use Rattle.ooo_table.specs.Path.{execution_of, is_exit}
use Rattle.ooo_table.specs.Done.{waiting}
use Rattle.ooo_table.specs.Commit.{commit_row, commits}
use Rattle.ooo_table.specs.Recovery.{squash_row, recovers}
use Rattle.ooo_table.specs.References.{store_references}
use Rattle.ooo_table.specs.Issue.{issue_row, issues, accesses, access_of}
use Rattle.ooo_table.specs.Dispatch.{dispatches, dispatch_row, may_enter}
use Rattle.ooo_table.specs.Cycle.{table, after_commit, after_recover, after_issue}
use Rattle.ooo_table.specs.Ends.{AtStop}
use Rattle.ooo_table.specs.Bound.{Bounded}
use Rattle.ooo_table.specs.Later.{Each, Where, By, Past}
use Rattle.ooo_table.specs.CycleLaws.{Newest, RowFacts, SquashSpreads}
use Rattle.ooo_table.specs.Machine.{Given, setting_of}
use Rattle.ooo_table.specs.MachineLaws.{IsSound}
use Rattle.ooo_table.specs.RunLaws.{IsStep}
use Rattle.ooo_table.proofs.Order.{Changed}
use Rattle.ooo_table.proofs.RowFacts.{sweep_keeps, waits_not, facts_dispatch, facts_same, changed_dispatch, same_changed}
use Rattle.ooo_table.proofs.Quiet.{Own, Same, each_turn, own_commit, own_squash, own_issue, own_dispatch, same_dispatch, both_table}
use Rattle.ooo_table.proofs.Counts.{past_table}
use Rattle.ooo_table.proofs.CycleFacts.{facts_three, follows_three, times_three}
use Rattle.ooo_table.proofs.Kept.{Kept, kept_issue, kept_table}
use Rattle.ooo_table.proofs.Run.{Proceeds, proceeds_kept, steps_at}
use Rattle.ooo_table.proofs.Times.{Gone, Times}
use Rattle.ooo_table.proofs.Turns.{within_dispatch}

-- facts that each turn keeps, where the younger rows have none
pub part_keeps : (P : List Row → Row → Type 0) (R : Row → Row → Type 0) (f : List Row → Row → Row)
    → ((r : Row) → R r r)
    → ((older : List Row) (r : Row) → R r (f older r))
    → ((older before : List Row) (r : Row) → AllZip R older before → Each P before → P older r → P before (f before r))
    → ((older before : List Row) (r : Row) → AllZip R older before → Each P before → P older r → P before r)
    → (younger older : List Row) → Each P (younger ++ older) → AllZip R (younger ++ older) (younger ++ sweep f older) × Each P (younger ++ sweep f older)
part_keeps P R f itself changed step stay [] older h = sweep_keeps P R f changed step older h
part_keeps P R f itself changed step stay (y ∷ younger) older h =
    let ih = part_keeps P R f itself changed step stay younger older h.1 in
    ((itself y, ih.0), (stay (younger ++ older) (younger ++ sweep f older) y ih.0 ih.1 h.0, ih.1))

spreads_stay : (older before : List Row) (r s : Row) → AllZip Same older before → Same r s → SquashSpreads older r → SquashSpreads before s
spreads_stay [] [] r s zip e h = tt
spreads_stay (o ∷ older) (o' ∷ before) r s zip e h =
    let k : Where o.squashed (λ x. (x ≤ s.fetched.at) ⊎ By x r.squashed) = subst (λ w. Where o.squashed (λ x. (x ≤ w.at) ⊎ By x r.squashed)) (sym e.0) h.0 in
    let m : Where o.squashed (λ x. (x ≤ s.fetched.at) ⊎ By x s.squashed) = subst (λ q. Where o.squashed (λ x. (x ≤ s.fetched.at) ⊎ By x q)) (sym e.1) k in
    (subst (λ q. Where q (λ x. (x ≤ s.fetched.at) ⊎ By x s.squashed)) (sym zip.0.1) m, spreads_stay older before r s zip.1 e h.1)
spreads_stay [] (o' ∷ before) r s zip e h = absurd zip
spreads_stay (o ∷ older) [] r s zip e h = absurd zip

-- right rows aren't squashed
abbrev pub Untouched : Row → Type 0
Untouched r = r.fetched.right ≡ true → r.squashed ≡ None

gone_stay : (f : ℕ) (older before : List Row) → AllZip Same older before → Gone f older → Gone f before
gone_stay f [] [] zip g = tt
gone_stay f (o ∷ older) (o' ∷ before) zip g =
    ((λ w. let k = g.0 (ap (λ (x : Fetched). x.right) (sym zip.0.0) ∙ w) in (k.0, zip.0.1 ∙ k.1, k.2)), gone_stay f older before zip.1 g.1)
gone_stay f [] (o' ∷ before) zip g = absurd zip
gone_stay f (o ∷ older) [] zip g = absurd zip

-- a right row was fetched after the squashes of all wrong rows before it
abbrev pub After : List Row → Row → Type 0
After older r = r.fetched.right ≡ true → Gone r.fetched.at older

after_stay : (older before : List Row) (r s : Row) → AllZip Same older before → Same r s → After older r → After before s
after_stay older before r s zip e g =
    λ w. subst (λ n. Gone n before) (ap (λ (x : Fetched). x.at) (sym e.0)) (gone_stay r.fetched.at older before zip (g (ap (λ (x : Fetched). x.right) (sym e.0) ∙ w)))

both : {b : Bool} → b ≡ true → b ≡ false → ⊥
both e f = cc

module _ (set : Setting) where
  -- ---- no row is dispatched behind a dispatched exit

  -- a row that doesn't wait, and was no exit that was dispatched
  pub record Left (o : Row) : Type 0 where
    pub waits : waiting o ≡ false
    pub exit : (is_some o.dispatched && is_exit set o) ≡ false

  abbrev pub Came : List Row → Row → Type 0
  Came older r = is_some r.dispatched ≡ true → Each (λ _. Left) older

  left_stays : (c : ℕ) (o o' : Row) → Changed c o o' → Left o → Left o'
  left_stays c o o' ch h = record { waits = waits_not c o o' ch h.waits; exit = by_dispatch ch.dispatched }
    where
      exit_same : is_exit set o' ≡ is_exit set o
      exit_same = ap (λ (f : Fetched). f.right && (execution_of set f).exit) ch.fetched

      by_dispatch : (o'.dispatched ≡ o.dispatched) ⊎ ((waiting o ≡ true) × (o'.dispatched ≡ Some c)) → (is_some o'.dispatched && is_exit set o') ≡ false
      by_dispatch (inl e) = ap (λ m. is_some m && is_exit set o') e ∙ (ap (λ b. is_some o.dispatched && b) exit_same ∙ h.exit)
      by_dispatch (inr w) = absurd (both w.0 h.waits)

  left_all : (c : ℕ) (older before : List Row) → AllZip (Changed c) older before → Each (λ _. Left) older → Each (λ _. Left) before
  left_all c [] [] zip h = tt
  left_all c (o ∷ older) (o' ∷ before) zip h = (left_stays c o o' zip.0 h.0, left_all c older before zip.1 h.1)
  left_all c [] (o' ∷ before) zip h = absurd zip
  left_all c (o ∷ older) [] zip h = absurd zip

  left_of : (rows : List Row) → list_all (λ o. not (waiting o)) rows ≡ true → list_any (λ o. is_some o.dispatched && is_exit set o) rows ≡ false → Each (λ _. Left) rows
  left_of [] h k = tt
  left_of (o ∷ rows) h k =
      let p = and_parts (not (waiting o)) (list_all (λ o. not (waiting o)) rows) h in
      let q = neither (is_some o.dispatched && is_exit set o) (list_any (λ o. is_some o.dispatched && is_exit set o) rows) k in
      (record { waits = not-true (waiting o) p.0; exit = q.0 }, left_of rows p.1 q.1)
    where
      neither : (a b : Bool) → (a || b) ≡ false → (a ≡ false) × (b ≡ false)
      neither true b e = absurd cc
      neither false b e = (refl, e)

  -- what a dispatch finds
  pub record Admitted (c : ℕ) (older : List Row) (r : Row) : Type 0 where
    pub waits : waiting r ≡ true
    pub queued : nat_lt r.fetched.queued c ≡ true
    pub passed : list_all (λ o. not (waiting o)) older ≡ true
    pub may : may_enter set older r ≡ true
    pub exits : list_any (λ o. is_some o.dispatched && is_exit set o) older ≡ false

  pub admitted : (c : ℕ) (older : List Row) (r : Row) → dispatches set c older r ≡ true → Admitted c older r
  admitted c older r h =
      let a = and_parts _ _ h in
      let b = and_parts _ _ a.0 in
      let d = and_parts _ _ b.0 in
      let e = and_parts _ _ d.0 in
      let f = and_parts _ _ e.0 in
      let i = and_parts _ _ f.0 in
      let j = and_parts _ _ i.0 in
      record { waits = j.0; queued = j.1; passed = i.1; may = d.1; exits = not-true _ a.1 }

  came_kept : (c : ℕ) → Kept set c Came
  came_kept c =
      record {
        at_commit = λ older before r zip below p.
            cond_both (commits set c before r) (record r { committed = Some c }) r (Came before) (λ _ s. left_all c older before zip (p s)) (λ _ s. left_all c older before zip (p s));
        at_squash = λ older before r zip below p.
            cond_both (list_any (recovers set c) before && is_none r.squashed) (record r { squashed = Some c }) r (Came before) (λ _ s. left_all c older before zip (p s)) (λ _ s. left_all c older before zip (p s));
        at_issue = λ base start older before r zip below p.
            cond_both (issues set c start before r) (record r { issued = Some c }) _ (Came before) (λ _ s. left_all c older before zip (p s))
            (λ _. cond_both (accesses set c start before r) (record r { access = Some (access_of set c base before r) }) r (Came before) (λ _ s. left_all c older before zip (p s)) (λ _ s. left_all c older before zip (p s)));
        at_dispatch = λ older before r zip below p.
            cond_both (dispatches set c before r) (record r { dispatched = Some c }) r (Came before)
            (λ e s. let a = admitted c before r e in left_of before a.passed a.exits) (λ _ s. left_all c older before zip (p s));
        at_fetch = λ older u look queued g s. absurd cc;
        still = λ older before r zip below p s. left_all c older before zip (p s);
      }

  -- ---- within the stage

  -- a fact that all turns keep
  pub kept_part : (P : List Row → Row → Type 0) (c : ℕ) → Kept set c P → Each P (table set c).rows → (younger older : List Row) → (after_issue set c).rows ≡ younger ++ older
      → Each P (younger ++ sweep (dispatch_row set c) older)
  kept_part P c k t younger older e =
      (part_keeps P (Changed c) (dispatch_row set c) (same_changed set c) (changed_dispatch set c) k.at_dispatch k.still younger older
      (subst (Each P) e (kept_issue set c P k (table set c) t))).1

  own_three : (c : ℕ) → Each (λ _. Own (suc c)) (after_issue set c).rows
  own_three c =
      let one : Table = after_commit set c in
      let two : Table = after_recover set c in
      let o1 : Each (λ _. Own c) one.rows = each_turn (Own c) (Own c) (commit_row set c) (own_commit set c c) (table set c).rows (both_table set c).0 in
      let o2 : Each (λ _. Own (suc c)) two.rows = each_turn (Own c) (Own (suc c)) (squash_row set c) (own_squash set c) one.rows o1 in
      each_turn (Own (suc c)) (Own (suc c)) (issue_row set c (store_references set c two.rows two.references) two.rows) (own_issue set c (store_references set c two.rows two.references) two.rows) two.rows o2

  abbrev Before : ℕ → Row → Type 0
  Before c r = Where r.dispatched (λ d. d < c)

  -- before the stage no row was dispatched in the cycle
  pub not_yet : (c : ℕ) → Each (λ _. Before c) (after_issue set c).rows
  not_yet c =
      let one : Table = after_commit set c in
      let two : Table = after_recover set c in
      let base = store_references set c two.rows two.references in
      let o1 : Each (λ _. Before c) one.rows =
      each_turn (Past c) (Before c) (commit_row set c) (λ before r p. cond_both (commits set c before r) (record r { committed = Some c }) r (Before c) (λ _. p.dispatched) (λ _. p.dispatched))
      (table set c).rows (past_table set c) in
      let o2 : Each (λ _. Before c) two.rows =
      each_turn (Before c) (Before c) (squash_row set c)
      (λ before r p. cond_both (list_any (recovers set c) before && is_none r.squashed) (record r { squashed = Some c }) r (Before c) (λ _. p) (λ _. p)) one.rows o1 in
      each_turn (Before c) (Before c) (issue_row set c base two.rows)
      (λ before r p. cond_both (issues set c two.rows before r) (record r { issued = Some c }) _ (Before c) (λ _. p)
      (λ _. cond_both (accesses set c two.rows before r) (record r { access = Some (access_of set c base before r) }) r (Before c) (λ _. p) (λ _. p)))
      two.rows o2

  untouched_dispatch : (c : ℕ) (before : List Row) (r : Row) → Untouched r → Untouched (dispatch_row set c before r)
  untouched_dispatch c before r u = cond_both (dispatches set c before r) (record r { dispatched = Some c }) r Untouched (λ _. u) (λ _. u)

  -- what is true of each row
  pub record Fit (c : ℕ) (older : List Row) (r : Row) : Type 0 where
    pub facts : RowFacts set c older r
    pub own : Own (suc c) r
    pub stays : Untouched r
    pub spreads : SquashSpreads older r
    pub gone : After older r
    pub newest : Newest older r
    pub came : Came older r
    pub proceeds : Proceeds set r

  together : (c : ℕ) (rows : List Row) → Each (RowFacts set c) rows → Each (λ _. Own (suc c)) rows → Each (λ _. Untouched) rows → Each SquashSpreads rows → Each After rows
      → Each Newest rows → Each Came rows → Each (λ _. Proceeds set) rows → Each (Fit c) rows
  together c [] f o u s a n m p = tt
  together c (r ∷ rows) f o u s a n m p =
      (record { facts = f.0; own = o.0; stays = u.0; spreads = s.0; gone = a.0; newest = n.0; came = m.0; proceeds = p.0 }, together c rows f.1 o.1 u.1 s.1 a.1 n.1 m.1 p.1)

  module _ (I M : ℕ) (limits : Bounded set I M) where
    times_give : (n : ℕ) (rows : List Row) → Each (Times set I M limits n) rows → Each (λ _. Untouched) rows × Each After rows
    times_give n [] h = (tt, tt)
    times_give n (r ∷ rows) h = let ih = times_give n rows h.1 in ((h.0.kept, ih.0), (h.0.gone, ih.1))

    pub fit_part : (c : ℕ) (younger older : List Row) → (after_issue set c).rows ≡ younger ++ older → Each (Fit c) (younger ++ sweep (dispatch_row set c) older)
    fit_part c younger older e =
        let given : Each (λ _. Untouched) (after_issue set c).rows × Each After (after_issue set c).rows = times_give (suc c) (after_issue set c).rows (times_three set I M limits c) in
        together c (younger ++ sweep (dispatch_row set c) older)
        (part_keeps (RowFacts set c) (Changed c) (dispatch_row set c) (same_changed set c) (changed_dispatch set c)
        (facts_dispatch set c) (λ o b r zip below k. facts_same set c o b r zip k) younger older
        (subst (Each (RowFacts set c)) e (facts_three set c))).1
        (part_keeps (λ _. Own (suc c)) (λ _ _. Unit {0}) (dispatch_row set c) (λ _. tt) (λ _ _. tt)
        (λ o b r zip below k. own_dispatch set c b r k) (λ o b r zip below k. k) younger older
        (subst (Each (λ _. Own (suc c))) e (own_three c))).1
        (part_keeps (λ _. Untouched) (λ _ _. Unit {0}) (dispatch_row set c) (λ _. tt) (λ _ _. tt)
        (λ o b r zip below k. untouched_dispatch c b r k) (λ o b r zip below k. k) younger older
        (subst (Each (λ _. Untouched)) e given.0)).1
        (part_keeps SquashSpreads Same (dispatch_row set c) (λ _. (refl, refl)) (same_dispatch set c)
        (λ o b r zip below k. spreads_stay o b r (dispatch_row set c b r) zip (same_dispatch set c b r) k)
        (λ o b r zip below k. spreads_stay o b r r zip (refl, refl) k) younger older
        (subst (Each SquashSpreads) e (follows_three set c))).1
        (part_keeps After Same (dispatch_row set c) (λ _. (refl, refl)) (same_dispatch set c)
        (λ o b r zip below k. after_stay o b r (dispatch_row set c b r) zip (same_dispatch set c b r) k)
        (λ o b r zip below k. after_stay o b r r zip (refl, refl) k) younger older
        (subst (Each After) e given.1)).1
        (within_dispatch set c younger older e).newest
        (kept_part Came c (came_kept c) (kept_table set (λ _. Came) came_kept (λ _ older r p. p) c) younger older e)
        (kept_part (λ _. Proceeds set) c (proceeds_kept set c) (kept_table set (λ _ _. Proceeds set) (proceeds_kept set) (λ _ older r p. p) c) younger older e)

-- ---- right rows stand at the address of their state

before_turns : (P : Fetched → Type 0) (f : List Row → Row → Row) → ((before : List Row) (r : Row) → (f before r).fetched ≡ r.fetched) → (rows : List Row)
    → Each (λ _ r. P r.fetched) (sweep f rows) → Each (λ _ r. P r.fetched) rows
before_turns P f same [] h = tt
before_turns P f same (r ∷ rows) h = (subst P (same (sweep f rows) r) h.0, before_turns P f same rows h.1)

abbrev pub AtState : Fetched → Type 0
AtState f = f.right ≡ true → f.pc ≡ f.state.pc

pub stands_at : (g : Given) → IsSound g → (c : ℕ) → Each (λ _ r. AtState r.fetched) (after_issue (setting_of g) c).rows
stands_at g sound c =
    before_turns AtState (dispatch_row (setting_of g) c) (λ before r. (same_dispatch (setting_of g) c before r).0) (after_issue (setting_of g) c).rows
    (weaken (sweep (dispatch_row (setting_of g) c) (after_issue (setting_of g) c).rows) (steps_at g AtStop c sound.config.penalty.least))
  where
    weaken : (rows : List Row) → Each (λ older r. r.fetched.right ≡ true → IsStep g older r) rows → Each (λ _ r. AtState r.fetched) rows
    weaken [] h = tt
    weaken (r ∷ rows) h = ((λ w. (h.0 w).pc), weaken rows h.1)
