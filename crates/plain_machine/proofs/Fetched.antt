-- Behind the fetch of a row the machine stands for the table with that row.
use Rattle.std.proofs.Common.{◌≡◌, ℕ, zero, suc, ◌-◌, ◌≤◌, Bool, true, false, cond, List, ◌∷◌, ◌++◌, Option, Some, None, refl, sym, ap, ◌∙◌, subst, arith}
use Rattle.std.specs.Prelude.{◌&&◌, ◌==◌, filter_map, option_map}
use Rattle.std.specs.List.{cons_option}
use Rattle.std.proofs.lemmas.Bool.{cond-true, cond-false}
use Rattle.std.proofs.lemmas.Bool.Decides.{nat_tests}
use Rattle.sim_safe.specs.State.{State, Storage, state_of}
use Rattle.mem_hier.specs.Replay.{Reference, Fetch, Store}
use Rattle.mem_hier.specs.Stands as hierarchy
use Rattle.bpred_unit.specs.declared.predictor.Predictor.{Predictor}
use Rattle.mem_hier.specs.Stands.{Held}
use Rattle.bpred_unit.specs.History.{Event, LookUp, Recover}
use Rattle.bpred_unit.specs.Stands as prediction
use Rattle.ooo_table.specs.Row as table
use Rattle.ooo_table.specs.Row.{is_at}
use Rattle.ooo_table.specs.Recovery.{recovers}
use Rattle.ooo_table.specs.Execution.{address}
use Rattle.ooo_table.specs.Table.{Setting, Table}
use Rattle.ooo_table.specs.Path.{execution, execution_of, stores, mispredicted, next_fetch_after}
use Rattle.ooo_table.specs.PathLaws.{newest}
use Rattle.ooo_table.specs.References.{store_references, load_references, references_of, updates_of, predictor_events_of}
use Rattle.ooo_table.specs.Fetch.{may_fetch, fetch_one, fetch_up_to}
use Rattle.ooo_table.specs.Machine.{Given, setting_of}
use Rattle.ooo_plain.specs.declared.row.Row.{Row}
use Rattle.ooo_plain.specs.Kept.{kept}
use Rattle.ooo_plain.specs.NextFetch.{kept_next}
use Rattle.plain_machine.specs.declared.machine.Plain.{Plain}
use Rattle.plain_machine.specs.declared.row.Fetched.{Fetched}
use Rattle.plain_machine.specs.Copied.{acting}
use Rattle.plain_machine.specs.Fits.{Fits}
use Rattle.plain_machine.specs.Performed.{Performs, unmarked}
use Rattle.plain_machine.specs.Standing.{StandsWithin, newest_fetched, state_after, top_after}
use Rattle.plain_machine.specs.Fetching.{next_row, Settles, SettleKeeps, IsNext, PerformKeeps}
use Rattle.plain_machine.proofs.Histories.{and_none}
use Rattle.plain_machine.proofs.Newest.{goes_on}

same : (c : ℕ) → (c == c) ≡ true
same c = grind (arith, nat_tests)

-- ---- what a new row adds

module _ (set : Setting) (c : ℕ) (s : table.Fetched) (at : s.at ≡ c) (rows : List table.Row) where
  is_now : (s.at == c) ≡ true
  is_now = ap (λ n. n == c) at ∙ same c

  no_store : (base : List Reference) → store_references set c (unmarked s ∷ rows) base ≡ store_references set c rows base
  no_store base =
      ap (λ b. cons_option (cond b (Some (Store (address (execution_of set s).memory) c)) None) (filter_map (λ (r : table.Row). cond (stores set r && is_at c r.committed) (Some (Store (address (execution set r).memory) c)) None) rows) ++ base)
      (and_none (stores set (unmarked s)))

  pub references_more : (base : List Reference)
      → references_of set c (unmarked s ∷ rows) base ≡ cond (set.is_text s.pc) (Fetch s.pc c ∷ references_of set c rows base) (references_of set c rows base)
  references_more base =
      ap (λ l. cons_option (cond ((s.at == c) && set.is_text s.pc) (Some (Fetch s.pc c)) None) (filter_map (λ (r : table.Row). cond ((r.fetched.at == c) && set.is_text r.fetched.pc) (Some (Fetch r.fetched.pc c)) None) rows) ++ load_references set c rows l) (no_store base)
      ∙ (ap (λ b. cons_option (cond (b && set.is_text s.pc) (Some (Fetch s.pc c)) None) (filter_map (λ (r : table.Row). cond ((r.fetched.at == c) && set.is_text r.fetched.pc) (Some (Fetch r.fetched.pc c)) None) rows) ++ load_references set c rows (store_references set c rows base)) is_now
      ∙ by_text (set.is_text s.pc) _ (load_references set c rows (store_references set c rows base)))
    where
      by_text : (b : Bool) (fs tail : List Reference) → cons_option (cond b (Some (Fetch s.pc c)) None) fs ++ tail ≡ cond b (Fetch s.pc c ∷ (fs ++ tail)) (fs ++ tail)
      by_text true fs tail = refl
      by_text false fs tail = refl

  pub events_more : (base : List Event) → predictor_events_of set c (unmarked s ∷ rows) base ≡ LookUp s.pc (set.instruction s.pc) ∷ predictor_events_of set c rows base
  events_more base =
      looked (s.at == c) (mispredicted set (unmarked s) && false) is_now (and_none (mispredicted set (unmarked s)))
      (filter_map (λ (r : table.Row). cond (r.fetched.at == c) (Some (LookUp r.fetched.pc (set.instruction r.fetched.pc))) None) rows)
      (filter_map (λ (r : table.Row). cond (recovers set c r) (Some (Recover r.fetched.top)) None) rows)
      (updates_of set c rows base) (LookUp s.pc (set.instruction s.pc)) (Recover s.top)
    where
      looked : (b d : Bool) → b ≡ true → d ≡ false → (ls rs tail : List Event) (x y : Event) → cons_option (cond b (Some x) None) ls ++ (cons_option (cond d (Some y) None) rs ++ tail) ≡ x ∷ (ls ++ (rs ++ tail))
      looked true false e f ls rs tail x y = refl
      looked true true e f ls rs tail x y = absurd cc
      looked false d e f ls rs tail x y = absurd cc

-- ---- the machine

acting_text : (m : Storage) (copy : Option Storage) → (acting m copy).text ≡ m.text
acting_text m None = refl
acting_text m (Some c) = refl

pub fetched_on : (g : Given) (c : ℕ) (t : Table) (old mid done new : Plain) (f : Fetched) (row : Row)
    → StandsWithin g c t old → Settles g c t mid f → SettleKeeps c old mid f
    → ((s : table.Fetched) → IsNext g s f mid → Performs g s row done.arch done.copy) → PerformKeeps f.right mid done
    → new.config ≡ done.config → new.rows.items ≡ row ∷ done.rows.items → new.hier ≡ done.hier → new.predictor ≡ done.predictor → new.arch ≡ done.arch → new.copy ≡ done.copy
    → new.top ≡ cond f.right (Some f.top) done.top
    → ((set : Setting) (r : table.Row) → row ≡ kept set r → new.next ≡ kept_next (next_fetch_after set c r))
    → StandsWithin g c (fetch_one (setting_of g) c t) new
fetched_on g c t old mid done new f row st se sk does pk ec er eh ep ea ecopy et en =
    let set : Setting = setting_of g in
    let s : table.Fetched = (next_row set c t).fetched in
    let mid_arch : mid.arch ≡ old.arch = ap (λ (p : Plain). p.arch) sk.rest in
    let mid_copy : mid.copy ≡ old.copy = ap (λ (p : Plain). p.copy) sk.rest in
    let state : t.next_fetch.state ≡ acting mid.arch mid.copy =
    st.path.state ∙ (ap (λ (m : Storage). acting m old.copy) (sym mid_arch) ∙ ap (λ (k : Option Storage). acting mid.arch k) (sym mid_copy)) in
    let straight : t.next_fetch.right ≡ true → mid.copy ≡ None = λ w. mid_copy ∙ st.path.straight w in
    let is : IsNext g s f mid =
    record {
      text = ap (λ (x : State). x.text) st.path.state ∙ (acting_text old.arch old.copy ∙ st.path.text);
      is = se.row_is;
      state = state;
      straight = straight;
      there = st.path.there;
    } in
    let p : Performs g s row done.arch done.copy = does s is in
    let right_is : f.right ≡ s.right = ap (λ (x : Fetched). x.right) se.row_is in
    let top_is : f.top ≡ s.top = ap (λ (x : Fetched). x.top) se.row_is in
    let done_copy : s.right ≡ true → done.copy ≡ None = λ w. pk.straight (right_is ∙ w) ∙ straight w in
    let done_rows : done.rows ≡ old.rows = ap (λ (q : Plain). q.rows) pk.rest ∙ ap (λ (q : Plain). q.rows) sk.rest in
    let done_top : done.top ≡ old.top = ap (λ (q : Plain). q.top) pk.rest ∙ ap (λ (q : Plain). q.top) sk.rest in
    record {
      config_is = ec ∙ (ap (λ (q : Plain). q.config) pk.rest ∙ (ap (λ (q : Plain). q.config) sk.rest ∙ st.config_is));
      kept_rows = er ∙ (ap (λ x. x ∷ done.rows.items) p.row_is ∙ ap (λ l. kept set (next_row set c t) ∷ l) (ap (λ v. v.items) done_rows ∙ st.kept_rows));
      kept_to_fetch = en set (next_row set c t) p.row_is;
      path = record {
        text = ap (λ (m : Storage). m.text) ea ∙ (pk.same_text ∙ (ap (λ (m : Storage). m.text) mid_arch ∙ st.path.text));
        behind = ap state_of ea ∙ behind s.right refl p.after done_copy (λ w. pk.wrong (right_is ∙ w) ∙ mid_arch) st.path.behind;
        top_is = et ∙ (ap (λ b. cond b (Some f.top) done.top) right_is ∙ (ap (λ x. cond s.right (Some x) done.top) top_is ∙ (ap (λ x. cond s.right (Some s.top) x) (done_top ∙ st.path.top_is) ∙ tops s.right)));
        state = p.after ∙ (ap (λ (m : Storage). acting m done.copy) (sym ea) ∙ ap (λ (k : Option Storage). acting new.arch k) (sym ecopy));
        straight = λ h. ecopy ∙ done_copy (goes_on g s h).right;
        there = λ h. (goes_on g s h).pc;
      };
      histories =
          subst (λ (v : Held). hierarchy.StandsFor v g.hier (references_of (setting_of g) c (next_row (setting_of g) c t ∷ t.rows) t.references)) (sym (eh ∙ ap (λ (q : Plain). q.hier) pk.rest))
          (subst (λ l. hierarchy.StandsFor mid.hier g.hier l) (sym (references_more set c s refl t.rows t.references)) se.histories);
      predictions =
          subst (λ (v : Predictor). prediction.StandsFor v g.pred (predictor_events_of (setting_of g) c (next_row (setting_of g) c t ∷ t.rows) t.predictor_events)) (sym (ep ∙ ap (λ (q : Plain). q.predictor) pk.rest))
          (subst (λ l. prediction.StandsFor mid.predictor g.pred l) (sym (events_more set c s refl t.rows t.predictor_events)) se.predictions);
    }
  where
    behind : (b : Bool) → (next_row (setting_of g) c t).fetched.right ≡ b → (execution_of (setting_of g) (next_row (setting_of g) c t).fetched).after ≡ acting done.arch done.copy
        → ((next_row (setting_of g) c t).fetched.right ≡ true → done.copy ≡ None) → ((next_row (setting_of g) c t).fetched.right ≡ false → done.arch ≡ old.arch)
        → state_of old.arch ≡ state_after (setting_of g) (newest_fetched t.rows)
        → state_of done.arch ≡ state_after (setting_of g) (option_map (λ (r : table.Row). r.fetched) (cond b (Some (next_row (setting_of g) c t)) (newest t.rows)))
    behind true w after none still before = sym (after ∙ ap (λ (k : Option Storage). acting done.arch k) (none w))
    behind false w after none still before = ap state_of (still w) ∙ before

    tops : (b : Bool) → cond b (Some (next_row (setting_of g) c t).fetched.top) (top_after (newest_fetched t.rows))
        ≡ top_after (option_map (λ (r : table.Row). r.fetched) (cond b (Some (next_row (setting_of g) c t)) (newest t.rows)))
    tops true = refl
    tops false = refl

-- ---- one row after another

pub fetch_stops : (set : Setting) (most c : ℕ) (t : Table) → may_fetch set c t ≡ false → fetch_up_to set most c t ≡ t
fetch_stops set zero c t e = refl
fetch_stops set (suc n) c t e = cond-false (may_fetch set c t) (fetch_up_to set n c (fetch_one set c t)) t e

pub fetch_goes : (set : Setting) (most c : ℕ) (t : Table) → (most ≡ 0 → ⊥) → may_fetch set c t ≡ true → fetch_up_to set most c t ≡ fetch_up_to set (most - 1) c (fetch_one set c t)
fetch_goes set zero c t h e = absurd (h refl)
fetch_goes set (suc n) c t h e =
    let less : n ≡ suc n - 1 = omega arith in
    cond-true (may_fetch set c t) (fetch_up_to set n c (fetch_one set c t)) t e ∙ ap (λ k. fetch_up_to set k c (fetch_one set c t)) less

pub positive : (n : ℕ) → (n ≡ 0 → ⊥) → 1 ≤ n
positive zero h = absurd (h refl)
positive (suc n) h = omega arith

pub fits_as : (c a b a' b' : ℕ) (p : Plain) → a ≡ a' → b ≡ b' → Fits c a b p → Fits c a' b' p
fits_as c a b a' b' p ea eb h = subst (λ x. Fits c a' x p) eb (subst (λ x. Fits c x b p) ea h)
