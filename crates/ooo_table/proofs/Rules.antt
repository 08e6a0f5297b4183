-- Issue in order, and no issue on wrong paths.
use Rattle.std.proofs.Common.{◌≡◌, ℕ, suc, ◌<◌, true, false, List, [], ◌∷◌, Option, Some, None, refl, sym, ap, ◌∙◌, subst, arith, inl, inr}
use Rattle.std.specs.Prelude.{◌&&◌, ◌||◌, not, is_none, is_some, ◌⊎◌}
use Rattle.std.specs.List.{AllZip, list_any, list_all}
use Rattle.std.proofs.lemmas.Bool.{cond_both, and_parts, and_from, lt-ltb}
use Rattle.mem_hier.specs.Replay.{Reference}
use Rattle.ooo_table.specs.Row.{Row, is_before}
use Rattle.ooo_table.specs.Table.{Setting}
use Rattle.ooo_table.specs.Done.{waiting, live}
use Rattle.ooo_table.specs.Commit.{commit_row, commits}
use Rattle.ooo_table.specs.Recovery.{squash_row, recovers}
use Rattle.ooo_table.specs.Issue.{issue_row, issues, accesses, may_issue, access_of}
use Rattle.ooo_table.specs.Dispatch.{dispatch_row, dispatches}
use Rattle.ooo_table.specs.Ends.{Extent, rows_at}
use Rattle.ooo_table.specs.Later.{Each, Where, Past}
use Rattle.ooo_table.specs.Legal.{CommitAllowed, IssueRules}
use Rattle.ooo_table.specs.CycleLaws.{Passed}
use Rattle.ooo_table.proofs.Order.{Changed, Now}
use Rattle.ooo_table.proofs.RowFacts.{changed_commit, changed_squash, changed_dispatch, done_issued}
use Rattle.ooo_table.proofs.Kept.{Kept, Turn, kept_at, each_of}
use Rattle.ooo_table.proofs.Counts.{both', past_kept, past_later}
use Rattle.ooo_table.proofs.Sound.{Sound, sound_kept, sound_later}

some_below : (n : ℕ) (m : Option ℕ) → is_some m ≡ true → Where m (λ d. d < n) → is_before n m ≡ true
some_below n None h w = absurd cc
some_below n (Some d) h w = lt-ltb d n w

none_below : (n : ℕ) (m : Option ℕ) → Where m (λ d. d < n) → is_before n m ≡ false → m ≡ None
none_below n None w h = refl
none_below n (Some d) w h = absurd (both' (lt-ltb d n w) h)

below_kept : (n c : ℕ) (m k : Option ℕ) → Now (λ d. d ≡ c) m k → is_before n m ≡ true → is_before n k ≡ true
below_kept n c m k (inl e) h = rw e h
below_kept n c None k (inr e) h = absurd cc
below_kept n c (Some x) k (inr (e, i, at)) h = absurd cc

unbelow : (n c : ℕ) (m k : Option ℕ) → Now (λ d. d ≡ c) m k → is_before n k ≡ false → is_before n m ≡ false
unbelow n c m k (inl e) h = sym (ap (is_before n) e) ∙ h
unbelow n c m k (inr (e, i, at)) h = ap (is_before n) e

not_none : {A : Type 0} (m : Option A) → is_none m ≡ false → is_some m ≡ true
not_none None h = absurd cc
not_none (Some x) h = refl

module _ (set : Setting) where
  abbrev Turned : ℕ → List Row → Type 0
  Turned i older = Each (λ _ o. is_some o.dispatched ≡ true → is_before (suc i) o.squashed ≡ false → is_before (suc i) o.issued ≡ true) older

  record Ruled (c : ℕ) (older : List Row) (r : Row) : Type 0 where
    sound : Sound set c older r
    past : Past (suc c) r
    rules : IssueRules set older r

  turned_stays : (c i : ℕ) (older before : List Row) → AllZip (Changed c) older before → Passed older → Turned i older → Turned i before
  turned_stays c i [] [] zip p h = tt
  turned_stays c i (o ∷ older) (o' ∷ before) zip p h =
      ((λ d s. below_kept (suc i) c o.issued o'.issued zip.0.issued (h.0 (came zip.0.dispatched d) (unbelow (suc i) c o.squashed o'.squashed zip.0.squashed s))), turned_stays c i older before zip.1 p.1 h.1)
    where
      came : (o'.dispatched ≡ o.dispatched) ⊎ ((waiting o ≡ true) × (o'.dispatched ≡ Some c)) → is_some o'.dispatched ≡ true → is_some o.dispatched ≡ true
      came (inl e) d = ap is_some (sym e) ∙ d
      came (inr (w, e)) d = absurd (both' w p.0)
  turned_stays c i [] (o' ∷ before) zip p h = absurd zip
  turned_stays c i (o ∷ older) [] zip p h = absurd zip

  -- what a row found that issues
  turned_now : (c : ℕ) (rows : List Row) → Each (Ruled c) rows → list_all (λ o. not (live o) || is_before (suc c) o.issued) rows ≡ true → Turned c rows
  turned_now c [] g h = tt
  turned_now c (o ∷ rows) g h =
      let parts : ((not (live o) || is_before (suc c) o.issued) ≡ true) × (list_all (λ o. not (live o) || is_before (suc c) o.issued) rows ≡ true) = and_parts _ _ h in
      ((λ d s. by_commit o.committed refl d s parts.0), turned_now c rows g.1 parts.1)
    where
      is_live : is_some o.dispatched ≡ true → o.committed ≡ None → o.squashed ≡ None → live o ≡ true
      is_live d e q = and_from _ _ (and_from _ _ d (ap is_none e)) (ap is_none q)

      by_commit : (m : Option ℕ) → o.committed ≡ m → is_some o.dispatched ≡ true → is_before (suc c) o.squashed ≡ false → (not (live o) || is_before (suc c) o.issued) ≡ true → is_before (suc c) o.issued ≡ true
      by_commit None e d s k = subst (λ b. (not b || is_before (suc c) o.issued) ≡ true) (is_live d e (none_below (suc c) o.squashed g.0.past.squashed s)) k
      by_commit (Some x) e d s k = some_below (suc c) o.issued (done_issued set x rows o g.0.sound.facts.reached well.done) g.0.past.issued
        where
          at : (m : Option ℕ) → m ≡ Some x → Where m (CommitAllowed set rows o) → CommitAllowed set rows o x
          at None e w = absurd cc
          at (Some y) e w = let k : y ≡ x = cc in subst (CommitAllowed set rows o) k w

          well : CommitAllowed set rows o x
          well = at o.committed e g.0.sound.facts.order

  -- a turn in which it doesn't issue
  rules_stay : (c : ℕ) (older before : List Row) (r s : Row) → AllZip (Changed c) older before → s.fetched ≡ r.fetched → s.issued ≡ r.issued → Sound set c older r → IssueRules set older r → IssueRules set before s
  rules_stay c older before r s zip w e t k =
      record {
        in_order = λ o. let m : Where r.issued (λ i. Turned i before) = moved r.issued (λ h. t.facts.first (t.facts.came h)) (k.in_order o) in subst (λ m. Where m (λ i. Turned i before)) (sym e) m;
        wrong = λ o f. e ∙ k.wrong o (ap (λ w. w.right) (sym w) ∙ f);
      }
    where
      moved : (m : Option ℕ) → (is_some m ≡ true → Passed older) → Where m (λ i. Turned i older) → Where m (λ i. Turned i before)
      moved None p h = tt
      moved (Some i) p h = turned_stays c i older before zip (p refl) h

  sounds : (c : ℕ) (rows : List Row) → Each (Ruled c) rows → Each (Sound set c) rows
  sounds c rows g = each_of (Ruled c) (Sound set c) (λ older r t. t.sound) rows g

  pasts : (c : ℕ) (rows : List Row) → Each (Ruled c) rows → Each (λ _. Past (suc c)) rows
  pasts c rows g = each_of (Ruled c) (λ _. Past (suc c)) (λ older r t. t.past) rows g

  ruled_issue : (c : ℕ) (base : List Reference) (start : List Row) → Turn set c (Ruled c) (issue_row set c base start)
  ruled_issue c base start older before r zip below t =
      record {
        sound = (sound_kept set c).at_issue base start older before r zip (sounds c before below) t.sound;
        past = (past_kept set c).at_issue base start older before r zip (pasts c before below) t.past;
        rules = cond_both (issues set c start before r) (record r { issued = Some c }) _ (IssueRules set before)
            (λ e. record { in_order = λ o. turned_now c before below (turned (allowed e) o); wrong = λ o f. absurd (never (allowed e) o f) })
            (λ _. cond_both (accesses set c start before r) (record r { access = Some (access_of set c base before r) }) r (IssueRules set before)
            (λ _. rules_stay c older before r (record r { access = Some (access_of set c base before r) }) zip refl refl t.sound t.rules)
            (λ _. rules_stay c older before r r zip refl refl t.sound t.rules));
      }
    where
      allowed : issues set c start before r ≡ true → may_issue set c before r ≡ true
      allowed e = grind (arith, and_parts)

      turned : may_issue set c before r ≡ true → set.config.in_order ≡ true → list_all (λ o. not (live o) || is_before (suc c) o.issued) before ≡ true
      turned e o = subst (λ b. (not b || list_all (λ o. not (live o) || is_before (suc c) o.issued) before) ≡ true) o
          (and_parts (r.fetched.right || set.config.wrong_issue) (not set.config.in_order || list_all (λ o. not (live o) || is_before (suc c) o.issued) before) e).1

      never : may_issue set c before r ≡ true → set.config.wrong_issue ≡ false → r.fetched.right ≡ false → ⊥
      never e o f = let k : (r.fetched.right || set.config.wrong_issue) ≡ true = (and_parts (r.fetched.right || set.config.wrong_issue) (not set.config.in_order || list_all (λ o. not (live o) || is_before (suc c) o.issued) before) e).0 in
          let m : (false || false) ≡ true = subst (λ b. (false || b) ≡ true) o (subst (λ b. (b || set.config.wrong_issue) ≡ true) f k) in cc

  ruled_kept : (c : ℕ) → Kept set c (Ruled c)
  ruled_kept c =
      record {
        at_commit = λ older before r zip below t. record {
          sound = (sound_kept set c).at_commit older before r zip (sounds c before below) t.sound;
          past = (past_kept set c).at_commit older before r zip (pasts c before below) t.past;
          rules = rules_stay c older before r (commit_row set c before r) zip (changed_commit set c before r).fetched
              (cond_both (commits set c before r) (record r { committed = Some c }) r (λ s. s.issued ≡ r.issued) (λ _. refl) (λ _. refl)) t.sound t.rules;
        };
        at_squash = λ older before r zip below t. record {
          sound = (sound_kept set c).at_squash older before r zip (sounds c before below) t.sound;
          past = (past_kept set c).at_squash older before r zip (pasts c before below) t.past;
          rules = rules_stay c older before r (squash_row set c before r) zip (changed_squash set c before r).fetched
              (cond_both (list_any (recovers set c) before && is_none r.squashed) (record r { squashed = Some c }) r (λ s. s.issued ≡ r.issued) (λ _. refl) (λ _. refl)) t.sound t.rules;
        };
        at_issue = ruled_issue c;
        at_dispatch = λ older before r zip below t. record {
          sound = (sound_kept set c).at_dispatch older before r zip (sounds c before below) t.sound;
          past = (past_kept set c).at_dispatch older before r zip (pasts c before below) t.past;
          rules = rules_stay c older before r (dispatch_row set c before r) zip (changed_dispatch set c before r).fetched
              (cond_both (dispatches set c before r) (record r { dispatched = Some c }) r (λ s. s.issued ≡ r.issued) (λ _. refl) (λ _. refl)) t.sound t.rules;
        };
        at_fetch = λ older u look queued below. record {
          sound = (sound_kept set c).at_fetch older u look queued (sounds c older below);
          past = (past_kept set c).at_fetch older u look queued (pasts c older below);
          rules = record { in_order = λ o. tt; wrong = λ o f. refl };
        };
        still = λ older before r zip below t. record {
          sound = (sound_kept set c).still older before r zip (sounds c before below) t.sound;
          past = t.past;
          rules = rules_stay c older before r r zip refl refl t.sound t.rules;
        };
      }

  pub rules_at : (e : Extent) (c : ℕ) → Each (IssueRules set) (rows_at set e c)
  rules_at e c =
      each_of (Ruled c) (IssueRules set) (λ older r t. t.rules) (rows_at set e c)
      (kept_at set Ruled ruled_kept (λ c older r t. record { sound = sound_later set c older r t.sound; past = past_later set (suc c) r t.past; rules = t.rules }) e c)
