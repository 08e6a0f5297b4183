-- The stages over the rows leave the machine on its path.
use Rattle.std.proofs.Common.{◌≡◌, ℕ, Bool, true, false, cond, List, [], ◌∷◌, ◌++◌, length, Option, Some, None, refl, sym, ap, ◌∙◌, subst, take, drop}
use Rattle.std.specs.Prelude.{nat_le, is_some, find, option_map}
use Rattle.std.proofs.lemmas.Bool.{cond_both}
use Rattle.sim_safe.specs.State.{Storage, state_of}
use Rattle.mem_hier.specs.Replay.{Reference}
use Rattle.mem_hier.specs.Stands as hierarchy
use Rattle.bpred_unit.specs.History.{Event}
use Rattle.bpred_unit.specs.Stands as prediction
use Rattle.ooo_table.specs.Row as table
use Rattle.ooo_table.specs.Row.{sweep}
use Rattle.ooo_table.specs.Table as given
use Rattle.ooo_table.specs.Table.{Setting}
use Rattle.ooo_table.specs.Path.{execution, mispredicted, redirected}
use Rattle.ooo_table.specs.Commit.{commit_row, commits}
use Rattle.ooo_table.specs.Issue.{issue_row}
use Rattle.ooo_table.specs.Recovery.{recovers, squash_row}
use Rattle.ooo_table.specs.Dispatch.{dispatch_row}
use Rattle.ooo_table.specs.Machine.{Given, setting_of}
use Rattle.std.proofs.lemmas.Bool.{and_parts}
use Rattle.ooo_plain.specs.declared.row.Row.{Row}
use Rattle.ooo_plain.specs.Kept.{AreKept}
use Rattle.ooo_plain.specs.NextFetch.{kept_next}
use Rattle.ooo_plain.specs.Until.{committing}
use Rattle.plain_machine.specs.declared.machine.Plain.{Plain}
use Rattle.plain_machine.specs.Copied.{acting}
use Rattle.plain_machine.specs.Standing.{Stands, OnPath, RecoversOnce, recoveries, newest_fetched, state_after, top_after}
use Rattle.plain_machine.specs.Stages.{RollsBack, RollsBackIf, recovered_to}
use Rattle.ooo_table.proofs.Ends.{swept_length}
use Rattle.plain_machine.proofs.Shown.{map_length}
use Rattle.plain_machine.proofs.Histories.{squash_same, dispatch_same, issue_same}
use Rattle.plain_machine.proofs.Newest.{newest_sweep, path_sweep, leads_mispredicted}

committed : (set : Setting) (c : ℕ) (before : List table.Row) (r : table.Row) → (commit_row set c before r).fetched ≡ r.fetched
committed set c before r = cond_both (commits set c before r) (record r { committed = Some c }) r (λ s. s.fetched ≡ r.fetched) (λ _. refl) (λ _. refl)

until : (set : Setting) (c : ℕ) (answer : Option ℕ) (before : List table.Row) (r : table.Row) → (committing set c answer before r).fetched ≡ r.fetched
until set c None before r = committed set c before r
until set c (Some row) before r =
    cond_both (nat_le (length before) row) (commit_row set c before r) r (λ s. s.fetched ≡ r.fetched) (λ _. committed set c before r) (λ _. refl)

pub newest_committed : (set : Setting) (c : ℕ) (answer : Option ℕ) (rows : List table.Row) → newest_fetched (sweep (committing set c answer) rows) ≡ newest_fetched rows
newest_committed set c answer rows = newest_sweep (committing set c answer) (until set c answer) rows

pub newest_squashed : (set : Setting) (c : ℕ) (rows : List table.Row) → newest_fetched (sweep (squash_row set c) rows) ≡ newest_fetched rows
newest_squashed set c rows = newest_sweep (squash_row set c) (squash_same set c (λ r. r.fetched) (λ r. refl)) rows

pub newest_issued : (set : Setting) (c : ℕ) (base : List Reference) (start rows : List table.Row) → newest_fetched (sweep (issue_row set c base start) rows) ≡ newest_fetched rows
newest_issued set c base start rows = newest_sweep (issue_row set c base start) (issue_same set c (λ r. r.fetched) base start (λ b r e. refl) (λ b r. refl)) rows

pub newest_dispatched : (set : Setting) (c : ℕ) (rows : List table.Row) → newest_fetched (sweep (dispatch_row set c) rows) ≡ newest_fetched rows
newest_dispatched set c rows = newest_sweep (dispatch_row set c) (dispatch_same set c (λ r. r.fetched) (λ r. refl)) rows

-- ---- the vector of the rows

take_front : {X : Type 0} (xs ys : List X) → take (length xs) (xs ++ ys) ≡ xs
take_front [] ys = refl
take_front (x ∷ xs) ys = ap (λ l. x ∷ l) (take_front xs ys)

-- a vector whose items were swept holds the swept rows
pub vec_swept : (set : Setting) (n : ℕ) (items news : List Row) (rows : List table.Row) (f : List table.Row → table.Row → table.Row) → AreKept set items rows → AreKept set news (sweep f rows)
    → length items ≡ n → AreKept set (take n (news ++ drop (length news) items)) (sweep f rows)
vec_swept set n items news rows f k l e =
    let many : n ≡ length news = sym e ∙ (ap length k ∙ (map_length set rows ∙ (sym (swept_length set f rows) ∙ (sym (map_length set (sweep f rows)) ∙ sym (ap length l))))) in
    ap (λ m. take m (news ++ drop (length news) items)) many ∙ (take_front news (drop (length news) items) ∙ l)

-- ---- the recovery

found : (set : Setting) (c : ℕ) (rows : List table.Row) (m : table.Row) → find (recovers set c) rows ≡ Some m → recovers set c m ≡ true
found set c [] m e = absurd cc
found set c (r ∷ rows) m e = by_case (recovers set c r) refl e (found set c rows m)
  where
    by_case : (b : Bool) → recovers set c r ≡ b → cond b (Some r) (find (recovers set c) rows) ≡ Some m → (find (recovers set c) rows ≡ Some m → recovers set c m ≡ true) → recovers set c m ≡ true
    by_case true f e ih = let k : r ≡ m = cc in subst (λ x. recovers set c x ≡ true) k f
    by_case false f e ih = ih e

-- mid has the squashed rows and the redirected fetch, and all else of old
pub recovered_on : (g : Given) (c : ℕ) (rows : List table.Row) (next : given.NextFetch) (h : List Reference) (e : List Event) (old mid new : Plain) (is_found : Bool) (answer : Option ℕ)
    → Stands g rows next h e old → RecoversOnce (setting_of g) c rows (find (recovers (setting_of g) c) rows)
    → is_found ≡ is_some answer → answer ≡ option_map (λ m. (execution (setting_of g) m).next) (find (recovers (setting_of g) c) rows)
    → mid.config ≡ old.config → AreKept (setting_of g) mid.rows.items (sweep (squash_row (setting_of g) c) rows)
    → mid.next ≡ kept_next (redirected (setting_of g) c (find (recovers (setting_of g) c) rows) next)
    → mid.hier ≡ old.hier → mid.predictor ≡ old.predictor → mid.arch ≡ old.arch → mid.copy ≡ old.copy → mid.top ≡ old.top
    → RollsBackIf is_found mid new
    → Stands g (sweep (squash_row (setting_of g) c) rows) (redirected (setting_of g) c (find (recovers (setting_of g) c) rows) next) h (recoveries (setting_of g) c rows ++ e) new
recovered_on g c rows next h e old mid new is_found answer st once ef ea ec er en eh ep earch ecopy etop rolled =
    by_find (find (recovers (setting_of g) c) rows) refl once (ef ∙ ap is_some ea) en rolled
  where
    path_mid : OnPath g (sweep (squash_row (setting_of g) c) rows) next mid
    path_mid = path_sweep g rows (sweep (squash_row (setting_of g) c) rows) next old mid (newest_squashed (setting_of g) c rows) earch ecopy etop st.path

    by_find : (o : Option table.Row) → find (recovers (setting_of g) c) rows ≡ o → RecoversOnce (setting_of g) c rows o
        → is_found ≡ is_some (option_map (λ m. (execution (setting_of g) m).next) o) → mid.next ≡ kept_next (redirected (setting_of g) c o next) → RollsBackIf is_found mid new
        → Stands g (sweep (squash_row (setting_of g) c) rows) (redirected (setting_of g) c o next) h (recoveries (setting_of g) c rows ++ e) new
    by_find None is none f n rolled =
        let same : new ≡ mid = subst (λ b. RollsBackIf b mid new) f rolled in
        let st' : Stands g (sweep (squash_row (setting_of g) c) rows) next h e mid =
        record {
          config_is = ec ∙ st.config_is;
          kept_rows = er;
          kept_to_fetch = n;
          path = path_mid;
          histories = subst (λ v. hierarchy.StandsFor v g.hier h) (sym eh) st.histories;
          predictions = subst (λ v. prediction.StandsFor v g.pred e) (sym ep) st.predictions;
        } in
        subst (λ p. Stands g (sweep (squash_row (setting_of g) c) rows) next h (recoveries (setting_of g) c rows ++ e) p) (sym same)
        (subst (λ l. Stands g (sweep (squash_row (setting_of g) c) rows) next h (l ++ e) mid) (sym none) st')
    by_find (Some m) is (new_is, one) f n rolled =
        let back : RollsBack mid new = subst (λ b. RollsBackIf b mid new) f rolled in
        let at : recovers (setting_of g) c m ≡ true = found (setting_of g) c rows m is in
        let mis : mispredicted (setting_of g) m ≡ true = (and_parts _ _ at).0 in
        let fetched_is : newest_fetched rows ≡ Some m.fetched = ap (λ o. option_map (λ (r : table.Row). r.fetched) o) new_is in
        let new_arch : new.arch ≡ old.arch = ap (λ (p : Plain). p.arch) back.rest ∙ earch in
        let behind : state_of old.arch ≡ (execution (setting_of g) m).after = st.path.behind ∙ ap (λ o. state_after (setting_of g) o) fetched_is in
        let top : mid.top ≡ Some m.fetched.top = etop ∙ (st.path.top_is ∙ ap (λ o. top_after o) fetched_is) in
        record {
          config_is = ap (λ (p : Plain). p.config) back.rest ∙ (ec ∙ st.config_is);
          kept_rows = ap (λ (p : Plain). p.rows.items) back.rest ∙ er;
          kept_to_fetch = ap (λ (p : Plain). p.next) back.rest ∙ n;
          path = record {
            text = ap (λ (x : Storage). x.text) new_arch ∙ st.path.text;
            behind = ap state_of new_arch ∙ (st.path.behind ∙ ap (λ o. state_after (setting_of g) o) (sym (newest_squashed (setting_of g) c rows)));
            top_is = ap (λ (p : Plain). p.top) back.rest ∙ path_mid.top_is;
            state = sym behind ∙ (ap state_of (sym new_arch) ∙ ap (λ (k : Option Storage). acting new.arch k) (sym (ap (λ (p : Plain). p.copy) back.rest)));
            straight = λ _. ap (λ (p : Plain). p.copy) back.rest;
            there = λ _. leads_mispredicted g m mis;
          };
          histories = subst (λ v. hierarchy.StandsFor v g.hier h) (sym (ap (λ (p : Plain). p.hier) back.rest ∙ eh)) st.histories;
          predictions =
              subst (λ l. prediction.StandsFor new.predictor g.pred l) (ap (λ t. recovered_to t e) top ∙ ap (λ l. l ++ e) (sym one))
              (back.predictions g.pred e (subst (λ v. prediction.StandsFor v g.pred e) (sym ep) st.predictions));
        }
