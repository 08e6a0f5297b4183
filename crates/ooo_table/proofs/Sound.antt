-- What allowed an issue or an access holds on.
use Rattle.std.proofs.Common.{◌≡◌, ℕ, suc, ◌<◌, ◌≤◌, Bool, true, false, cond, List, [], ◌∷◌, Option, Some, None, refl, sym, ap, ◌∙◌, subst, arith, inl, inr}
use Rattle.std.specs.Prelude.{◌&&◌, ◌||◌, not, is_none, is_some, ◌⊎◌}
use Rattle.std.specs.List.{AllZip, list_any}
use Rattle.std.proofs.lemmas.Bool.{cond_both, and_parts, and_from, ltb-true, lt-ltb}
use Rattle.mem_hier.specs.Replay.{Reference}
use Rattle.pisa_isa.specs.declared.places.Place.{Place}
use Rattle.ooo_table.specs.Row.{Row, is_before, MemoryAccess}
use Rattle.ooo_table.specs.Execution.{MemoryUse, is_store, same_block}
use Rattle.ooo_table.specs.Table.{Setting}
use Rattle.ooo_table.specs.Path.{execution, execution_of, stores}
use Rattle.ooo_table.specs.Done.{have_produced, done_before, finished, written, waiting, live, has_produced, producer}
use Rattle.ooo_table.specs.Commit.{commit_row, commits}
use Rattle.ooo_table.specs.Recovery.{squash_row, recovers}
use Rattle.ooo_table.specs.Issue.{issue_row, issues, accesses, is_clear, access_of}
use Rattle.ooo_table.specs.Dispatch.{dispatch_row, dispatches}
use Rattle.ooo_table.specs.Ends.{Extent, rows_at}
use Rattle.ooo_table.specs.Later.{Each, Where}
use Rattle.ooo_table.specs.Legal.{CommitAllowed, AccessAllowed, ProducersDone, MemoryInOrder, Allows, StoreStands}
use Rattle.ooo_table.specs.CycleLaws.{RowFacts, Passed}
use Rattle.ooo_table.proofs.Order.{Changed, Now, have_stays, done_stays, below_written}
use Rattle.ooo_table.proofs.RowFacts.{dispatch_same, facts_commit, facts_squash, facts_issue, facts_dispatch, facts_fresh, facts_same, facts_later, changed_commit, changed_squash, changed_issue, changed_dispatch, same_changed}
use Rattle.ooo_table.proofs.Kept.{Kept, Turn, kept_at, each_of}

-- a fact of a mark holds on where it holds of a new one
marked_stays : {A : Type 0} (At : A → Type 0) (Q R : A → Type 0) (m n : Option A) → Now At m n → Where m Q
    → ((a : A) → m ≡ Some a → Q a → R a) → (m ≡ None → Where n R) → Where n R
marked_stays At Q R None n (inl e) w old new = new refl
marked_stays At Q R (Some a) n (inl e) w old new = let k : R a = old a refl w in rw e k
marked_stays At Q R m n (inr (e, i, at)) w old new = new e

below_more : (n k : ℕ) (m : Option ℕ) → n ≤ k → is_before n m ≡ true → is_before k m ≡ true
below_more n k None le h = absurd cc
below_more n k (Some t) le h = let lt : t < n = ltb-true _ _ h in lt-ltb t k (omega arith)

some_of : {A : Type 0} (m : Option A) → is_some m ≡ true → (x : A) × (m ≡ Some x)
some_of None h = absurd cc
some_of (Some x) h = (x, refl)

bound_of : (c d : ℕ) (m : Option ℕ) → m ≡ Some d → Where m (λ d. d ≤ c) → d ≤ c
bound_of c d None f w = absurd cc
bound_of c d (Some x) f w = let k : x ≡ d = cc in omega (arith, w, k)

where_some : {A : Type 0} (m : Option A) (P : A → Type 0) (x : A) → m ≡ Some x → Where m P → P x
where_some None P x e w = absurd cc
where_some {A = A} (Some y) P x e w = let k : y ≡ x = cc in subst P k w

now_by : (c : ℕ) (m n : Option ℕ) → Now (λ d. d ≡ c) m n → Where m (λ d. d ≤ c) → Where n (λ d. d ≤ c)
now_by c m n (inl e) w = rw e w
now_by c m None (inr e) w = tt
now_by c m (Some y) (inr (e, i, at)) w = omega arith

both' : {b : Bool} → b ≡ true → b ≡ false → ⊥
both' e f = cc

module _ (set : Setting) where
  pub record Sound (c : ℕ) (older : List Row) (r : Row) : Type 0 where
    pub facts : RowFacts set c older r
    pub squashed_by : Where r.squashed (λ d. d ≤ c)
    pub p1 : ProducersDone set older r
    pub memory : MemoryInOrder set older r

  all_facts : (c : ℕ) (rows : List Row) → Each (Sound c) rows → Each (RowFacts set c) rows
  all_facts c rows g = each_of (Sound c) (RowFacts set c) (λ older r s. s.facts) rows g

  -- done before n is done before any later cycle
  ready_more : (n k : ℕ) (o : Option Row) → n ≤ k → has_produced set n o ≡ true → has_produced set k o ≡ true
  ready_more n k None le h = refl
  ready_more n k (Some o) le h = below_more n k (finished set o) le h

  have_more : (n k : ℕ) (older : List Row) (r : Row) (places : List Place) → n ≤ k → have_produced set n older r places ≡ true → have_produced set k older r places ≡ true
  have_more n k older r [] le h = refl
  have_more n k older r (p ∷ places) le h =
      let parts : (has_produced set n (producer set older r p) ≡ true) × (have_produced set n older r places ≡ true) = and_parts _ _ h in
      and_from _ _ (ready_more n k (producer set older r p) le parts.0) (have_more n k older r places le parts.1)

  done_more : (n k : ℕ) (older : List Row) (r : Row) → n ≤ k → done_before set n older r ≡ true → done_before set k older r ≡ true
  done_more n k older r le h = by_kind (stores set r) h
    where
      by_kind : (b : Bool) → cond b (is_before n (written set r) && have_produced set n older r (execution set r).second) (is_before n (finished set r)) ≡ true
          → cond b (is_before k (written set r) && have_produced set k older r (execution set r).second) (is_before k (finished set r)) ≡ true
      by_kind true h =
          let parts : (is_before n (written set r) ≡ true) × (have_produced set n older r (execution set r).second ≡ true) = and_parts _ _ h in
          and_from _ _ (below_more n k (written set r) le parts.0) (have_more n k older r (execution set r).second le parts.1)
      by_kind false h = below_more n k (finished set r) le h

  -- a store that is done was written back
  store_known : (n : ℕ) (older : List Row) (o : Row) → stores set o ≡ true → done_before set n older o ≡ true → is_before n (written set o) ≡ true
  store_known n older o s h =
      (and_parts (is_before n (written set o)) (have_produced set n older o (execution set o).second)
      (subst (λ b. cond b (is_before n (written set o) && have_produced set n older o (execution set o).second) (is_before n (finished set o)) ≡ true) s h)).0

  -- each older store lets an access at m come
  abbrev pub Clears : ℕ → MemoryUse → List Row → Type 0
  Clears m a older = Each (λ before o. StoreStands set m o → Allows set m a before o) older

  clears_stay : (c m : ℕ) (older before : List Row) (a : MemoryUse) → AllZip (Changed c) older before → Passed older → Each (RowFacts set c) before
      → Clears m a older → Clears m a before
  clears_stay c m [] [] a zip p g h = tt
  clears_stay c m (o ∷ older) (o' ∷ before) a zip p g h = (still, clears_stay c m older before a zip.1 p.1 g.1 h.1)
    where
      came_before : (o'.dispatched ≡ o.dispatched) ⊎ ((waiting o ≡ true) × (o'.dispatched ≡ Some c)) → o'.dispatched ≡ o.dispatched
      came_before (inl e) = e
      came_before (inr (k, e)) = absurd (both' k p.0)

      stood : (x y : Option ℕ) → Now (λ d. d ≡ c) x y → is_before (suc m) y ≡ false → is_before (suc m) x ≡ false
      stood x y (inl e) k = sym (ap (is_before (suc m)) e) ∙ k
      stood x y (inr (e, i, at)) k = ap (is_before (suc m)) e

      still : StoreStands set m o' → Allows set m a before o'
      still t =
          let same : o'.dispatched ≡ o.dispatched = came_before zip.0.dispatched in
          let was : StoreStands set m o = record {
            store = ap (λ w. is_store (execution_of set w).memory) (sym zip.0.fetched) ∙ t.store;
            came = ap is_some (sym same) ∙ t.came;
            stays = stood o.squashed o'.squashed zip.0.squashed t.stays;
          } in
          let was_clear : Allows set m a older o = h.0 was in
          let d : (x : ℕ) × (o.dispatched ≡ Some x) = some_of o.dispatched was.came in
          let e : o'.dispatched ≡ Some d.0 = same ∙ d.1 in
          record {
            known = below_written set c (suc m) o o' zip.0 was_clear.known;
            done = λ b. done_stays set c d.0 (suc m) older before o o' zip.1 zip.0 (bound_of c d.0 o'.dispatched e g.0.dispatched_by) p.1 d.1 e
                (was_clear.done (ap (λ x. same_block (execution_of set x).memory a) (sym zip.0.fetched) ∙ b));
          }
  clears_stay c m [] (o' ∷ before) a zip p g h = absurd zip
  clears_stay c m (o ∷ older) [] a zip p g h = absurd zip

  -- where the issue stage let it come, each store that isn't squashed does
  now_clears : (c : ℕ) (rows : List Row) (r : Row) → Each (Sound c) rows → is_clear set c rows r ≡ true → Clears c (execution set r).memory rows
  now_clears c [] r g h = tt
  now_clears c (o ∷ rows) r g h =
      let parts : ((not (live o && stores set o) || (is_before (suc c) (written set o) && (not (same_block (execution set o).memory (execution set r).memory) || done_before set (suc c) rows o))) ≡ true)
      × (is_clear set c rows r ≡ true) = and_parts _ _ h in
      ((λ t. allows t parts.0), now_clears c rows r g.1 parts.1)
    where
      unsquashed : (m : Option ℕ) → Where m (λ d. d ≤ c) → is_before (suc c) m ≡ false → m ≡ None
      unsquashed None w k = refl
      unsquashed (Some x) w k = let e : is_before (suc c) (Some x) ≡ true = lt-ltb x (suc c) (omega arith) in absurd (both' e k)

      is_live : StoreStands set c o → o.committed ≡ None → live o ≡ true
      is_live t e = and_from _ _ (and_from _ _ t.came (ap is_none e)) (ap is_none (unsquashed o.squashed g.0.squashed_by t.stays))

      allows : StoreStands set c o → (not (live o && stores set o) || (is_before (suc c) (written set o) && (not (same_block (execution set o).memory (execution set r).memory) || done_before set (suc c) rows o))) ≡ true → Allows set c (execution set r).memory rows o
      allows t k = by_commit o.committed refl
        where
          by_commit : (m : Option ℕ) → o.committed ≡ m → Allows set c (execution set r).memory rows o
          by_commit None e =
              let there : (live o && stores set o) ≡ true = and_from _ _ (is_live t e) t.store in
              let at : (is_before (suc c) (written set o) && (not (same_block (execution set o).memory (execution set r).memory) || done_before set (suc c) rows o)) ≡ true =
              subst (λ b. (not b || (is_before (suc c) (written set o) && (not (same_block (execution set o).memory (execution set r).memory) || done_before set (suc c) rows o))) ≡ true) there k in
              let both : (is_before (suc c) (written set o) ≡ true) × ((not (same_block (execution set o).memory (execution set r).memory) || done_before set (suc c) rows o) ≡ true) = and_parts _ _ at in
              record { known = both.0; done = λ b. subst (λ x. (not x || done_before set (suc c) rows o) ≡ true) b both.1 }
          by_commit (Some x) e =
              let well : CommitAllowed set rows o x = where_some o.committed (CommitAllowed set rows o) x e g.0.facts.order in
              let le : x ≤ c = bound_of c x o.committed e g.0.facts.committed_by in
              record {
                known = below_more x (suc c) (written set o) (omega arith) (store_known x rows o t.store well.done);
                done = λ b. done_more x (suc c) rows o (omega arith) well.done;
              }

  -- both facts hold on in a turn
  sound_stays : (c : ℕ) (older before : List Row) (r s : Row) → AllZip (Changed c) older before → Changed c r s → Each (Sound c) before → Sound c older r
      → RowFacts set c before s
      → (r.issued ≡ None → Where s.issued (λ i. have_produced set (suc i) before s (execution set s).main ≡ true))
      → (r.access ≡ None → Where s.access (λ a. AccessAllowed set before s a.at) × MemoryInOrder set before s)
      → Sound c before s
  sound_stays c older before r s zip ch below t g iss acc =
      record {
        facts = g;
        squashed_by = now_by c r.squashed s.squashed ch.squashed t.squashed_by;
        p1 = record {
          main = marked_stays (λ d. d ≡ c) (λ i. have_produced set (suc i) older r (execution set r).main ≡ true) (λ i. have_produced set (suc i) before s (execution set s).main ≡ true)
              r.issued s.issued ch.issued t.p1.main main' iss;
          access = marked_stays (λ a. a.at ≡ c) (λ a. AccessAllowed set older r a.at) (λ a. AccessAllowed set before s a.at) r.access s.access ch.access t.p1.access access' (λ e. (acc e).0);
        };
        memory = marked_stays (λ a. a.at ≡ c) (λ a. Clears a.at (execution set r).memory older) (λ a. Clears a.at (execution set s).memory before) r.access s.access ch.access t.memory clears' (λ e. (acc e).1);
      }
    where
      -- its dispatch doesn't change
      have' : (n : ℕ) (places : List Place) → is_some r.dispatched ≡ true → have_produced set n older r places ≡ true → have_produced set n before s places ≡ true
      have' n places at h =
          let d : (x : ℕ) × (r.dispatched ≡ Some x) = some_of r.dispatched at in
          have_stays set c d.0 n older before r s places zip (bound_of c d.0 r.dispatched d.1 t.facts.dispatched_by) (t.facts.first at) d.1 (dispatch_same c r s ch at ∙ d.1) h

      main' : (i : ℕ) → r.issued ≡ Some i → have_produced set (suc i) older r (execution set r).main ≡ true → have_produced set (suc i) before s (execution set s).main ≡ true
      main' i e h =
          let k : have_produced set (suc i) before s (execution set r).main ≡ true = have' (suc i) (execution set r).main (t.facts.came (ap is_some e)) h in
          subst (λ w. have_produced set (suc i) before s (execution_of set w).main ≡ true) (sym ch.fetched) k

      came' : (a : MemoryAccess) → r.access ≡ Some a → is_some r.dispatched ≡ true
      came' a e = t.facts.came (t.facts.reached (ap is_some e))

      access' : (a : MemoryAccess) → r.access ≡ Some a → AccessAllowed set older r a.at → AccessAllowed set before s a.at
      access' a e h =
          let k : have_produced set (suc a.at) before s (execution set r).second ≡ true = have' (suc a.at) (execution set r).second (came' a e) h.second in
          record {
            back = below_written set c (suc a.at) r s ch h.back;
            second = subst (λ w. have_produced set (suc a.at) before s (execution_of set w).second ≡ true) (sym ch.fetched) k;
          }

      clears' : (a : MemoryAccess) → r.access ≡ Some a → Clears a.at (execution set r).memory older → Clears a.at (execution set s).memory before
      clears' a e h =
          subst (λ w. Clears a.at (execution_of set w).memory before) (sym ch.fetched)
          (clears_stay c a.at older before (execution set r).memory zip (t.facts.first (came' a e)) (all_facts c before below) h)

  -- a turn without issue and access
  quiet_turn : (c : ℕ) (older before : List Row) (r s : Row) → AllZip (Changed c) older before → Changed c r s → Each (Sound c) before → Sound c older r
      → RowFacts set c before s → s.issued ≡ r.issued → s.access ≡ r.access → Sound c before s
  quiet_turn c older before r s zip ch below t g i a =
      sound_stays c older before r s zip ch below t g
      (λ e. no_mark _ s.issued (i ∙ e)) (λ e. (no_mark _ s.access (a ∙ e), no_mark _ s.access (a ∙ e)))
    where
      no_mark : {A : Type 0} (P : A → Type 0) (m : Option A) → m ≡ None → Where m P
      no_mark P None e = tt
      no_mark P (Some x) e = absurd cc

  sound_commit : (c : ℕ) → Turn set c (Sound c) (commit_row set c)
  sound_commit c older before r zip below t =
      quiet_turn c older before r (commit_row set c before r) zip (changed_commit set c before r) below t (facts_commit set c older before r zip (all_facts c before below) t.facts)
      (cond_both (commits set c before r) (record r { committed = Some c }) r (λ s. s.issued ≡ r.issued) (λ _. refl) (λ _. refl))
      (cond_both (commits set c before r) (record r { committed = Some c }) r (λ s. s.access ≡ r.access) (λ _. refl) (λ _. refl))

  sound_squash : (c : ℕ) → Turn set c (Sound c) (squash_row set c)
  sound_squash c older before r zip below t =
      quiet_turn c older before r (squash_row set c before r) zip (changed_squash set c before r) below t (facts_squash set c older before r zip (all_facts c before below) t.facts)
      (cond_both (list_any (recovers set c) before && is_none r.squashed) (record r { squashed = Some c }) r (λ s. s.issued ≡ r.issued) (λ _. refl) (λ _. refl))
      (cond_both (list_any (recovers set c) before && is_none r.squashed) (record r { squashed = Some c }) r (λ s. s.access ≡ r.access) (λ _. refl) (λ _. refl))

  sound_dispatch : (c : ℕ) → Turn set c (Sound c) (dispatch_row set c)
  sound_dispatch c older before r zip below t =
      quiet_turn c older before r (dispatch_row set c before r) zip (changed_dispatch set c before r) below t (facts_dispatch set c older before r zip (all_facts c before below) t.facts)
      (cond_both (dispatches set c before r) (record r { dispatched = Some c }) r (λ s. s.issued ≡ r.issued) (λ _. refl) (λ _. refl))
      (cond_both (dispatches set c before r) (record r { dispatched = Some c }) r (λ s. s.access ≡ r.access) (λ _. refl) (λ _. refl))

  -- an issue, and an access, in their turn
  sound_issue : (c : ℕ) (base : List Reference) (start : List Row) → Turn set c (Sound c) (issue_row set c base start)
  sound_issue c base start older before r zip below t =
      cond_both (issues set c start before r) (record r { issued = Some c }) _ (λ s. Changed c r s → RowFacts set c before s → Sound c before s)
      (λ e ch g. sound_stays c older before r (record r { issued = Some c }) zip ch below t g (λ _. ready e) (λ f. (no_access _ f, no_access _ f)))
      (λ _. cond_both (accesses set c start before r) (record r { access = Some (access_of set c base before r) }) r (λ s. Changed c r s → RowFacts set c before s → Sound c before s)
      (λ e ch g. sound_stays c older before r (record r { access = Some (access_of set c base before r) }) zip ch below t g (λ f. no_issue _ f)
      (λ _. (record { back = back e; second = second e }, now_clears c before r below (clear e))))
      (λ _ ch g. quiet_turn c older before r r zip ch below t g refl refl))
      (changed_issue set c base start before r) (facts_issue set c base start older before r zip (all_facts c before below) t.facts)
    where
      no_issue : (P : ℕ → Type 0) → r.issued ≡ None → Where r.issued P
      no_issue P f = rw f tt

      no_access : (P : MemoryAccess → Type 0) → r.access ≡ None → Where r.access P
      no_access P f = rw f tt

      ready : issues set c start before r ≡ true → have_produced set (suc c) before r (execution set r).main ≡ true
      ready e = grind (arith, and_parts)

      back : accesses set c start before r ≡ true → is_before (suc c) (written set r) ≡ true
      back e = grind (arith, and_parts)

      second : accesses set c start before r ≡ true → have_produced set (suc c) before r (execution set r).second ≡ true
      second e = grind (arith, and_parts)

      clear : accesses set c start before r ≡ true → is_clear set c before r ≡ true
      clear e = grind (arith, and_parts)

  pub sound_kept : (c : ℕ) → Kept set c (Sound c)
  sound_kept c =
      record {
        at_commit = sound_commit c;
        at_squash = sound_squash c;
        at_issue = sound_issue c;
        at_dispatch = sound_dispatch c;
        at_fetch = λ older u look queued below. record { facts = facts_fresh set c older u look queued; squashed_by = tt; p1 = record { main = tt; access = tt }; memory = tt };
        still = λ older before r zip below t. quiet_turn c older before r r zip (same_changed set c r) below t (facts_same set c older before r zip t.facts) refl refl;
      }

  pub sound_later : (c : ℕ) (older : List Row) (r : Row) → Sound c older r → Sound (suc c) older r
  sound_later c older r t = record { facts = facts_later set c older r t.facts; squashed_by = weaker r.squashed t.squashed_by; p1 = t.p1; memory = t.memory }
    where
      weaker : (m : Option ℕ) → Where m (λ d. d ≤ c) → Where m (λ d. d ≤ suc c)
      weaker None w = tt
      weaker (Some d) w = omega arith

  pub sound_at : (e : Extent) (c : ℕ) → Each (Sound c) (rows_at set e c)
  sound_at e c = kept_at set Sound sound_kept sound_later e c

  pub producers_at : (e : Extent) (c : ℕ) → Each (ProducersDone set) (rows_at set e c)
  producers_at e c = each_of (Sound c) (ProducersDone set) (λ older r t. t.p1) (rows_at set e c) (sound_at e c)

  pub memory_at : (e : Extent) (c : ℕ) → Each (MemoryInOrder set) (rows_at set e c)
  memory_at e c = each_of (Sound c) (MemoryInOrder set) (λ older r t. t.memory) (rows_at set e c) (sound_at e c)
