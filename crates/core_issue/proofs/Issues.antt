-- The issue stage takes parts that stand for the table to parts that stand for the table behind it.
use Rattle.std.proofs.Common.{◌≡◌, ℕ, ◌+◌, ◌<◌, Bool, true, false, cond, List, [], ◌∷◌, ◌++◌, Option, Some, None, refl, sym, ap, ◌∙◌, subst, arith, length}
use Rattle.std.specs.Prelude.{◌&&◌, ◌==◌, not, is_some, find, filter_map, option_map}
use Rattle.std.proofs.lemmas.Bool.Decides.{nat_tests}
use Rattle.pisa_isa.specs.declared.classes.UnitClass.{UnitClass}
use Rattle.mem_hier.specs.Replay.{Reference, Load, Store, Fetch}
use Rattle.mem_hier.specs.Stands as hierarchy
use Rattle.mem_hier.proofs.LawProofs.{bounds}
use Rattle.bpred_unit.specs.History.{Event, LookUp, Update, Recover}
use Rattle.bpred_unit.specs.Stands as predictor
use Rattle.fu_pool.specs.Takes.{units_in}
use Rattle.ooo_front.specs.declared.row.FetchRow.{FetchRow}
use Rattle.ooo_table.specs.declared.config.OooConfig.{OooConfig}
use Rattle.ooo_table.specs.Row.{Row, Fetched, MemoryAccess, is_at, accessed, not_forwarded, sweep}
use Rattle.ooo_table.specs.Execution.{Pool, Alus, Multipliers, Ports, address, uses_memory, unit_latency, pool_size}
use Rattle.ooo_table.specs.Table.{Setting, NextFetch}
use Rattle.ooo_table.specs.Path.{execution, execution_of, stores, mispredicted}
use Rattle.ooo_table.specs.Done.{live, waiting}
use Rattle.ooo_table.specs.References.{store_references, load_references, references_of, predictor_events_of}
use Rattle.ooo_table.specs.Recovery.{recovers}
use Rattle.ooo_table.specs.Issue.{issue_row, access_of}
use Rattle.ooo_table.specs.Cycle.{after_recover, after_issue}
use Rattle.ooo_table.specs.Later.{Each}
use Rattle.ooo_table.specs.CycleLaws.{Fresh, as_next}
use Rattle.ooo_table.specs.Bound.{Rises, Bounded}
use Rattle.ooo_table.specs.Machine.{Given, setting_of}
use Rattle.ooo_table.specs.MachineLaws.{IsSound}
use Rattle.mem_hier.specs.Replay.{greatest_fetch_of, greatest_load_of}
use Rattle.ooo_table.proofs.Route.{latency_some}
use Rattle.ooo_table.proofs.Rising.{rises_stores, rises_table}
use Rattle.ooo_table.proofs.Units.{not_at, not_at_access}
use Rattle.ooo_table.proofs.CycleFacts.{fresh_two, follows_three}
use Rattle.ooo_table.proofs.Stages.{issues_live}
use Rattle.ooo_table.proofs.Timely.{bounded}
use Rattle.core_parts.specs.declared.answers.Issued.{Issued}
use Rattle.core_parts.specs.declared.parts.Parts.{Parts}
use Rattle.core_parts.specs.Stages.{IssuesSo, Issues}
use Rattle.core_parts.specs.Stands.{pool_of, next_of, settled, state_after, Stands}
use Rattle.core_parts.specs.Fits.{HasSizes}
use Rattle.core_parts.specs.Rows.{newest_number, Waits}
use Rattle.core_parts.proofs.Lists.{map_none, map_sweep, count_sweep, length_sweep}
use Rattle.core_issue.specs.Stage.{rules_of, shared_of, RanAll}
use Rattle.core_issue.proofs.Sweep.{Slow, turn_cases, unissued, fetched_same, dispatched_same, waiting_same, zip_turns, queue_same, addresses_same}
use Rattle.core_parts.proofs.Live.{fit_three}
use Rattle.core_issue.proofs.Whole.{says, Done, ran_done}

-- a sweep leaves what it says of rows alone
newest_sweep : (p : Row → Bool) (f : List Row → Row → Row) → ((before : List Row) (r : Row) → p (f before r) ≡ p r) → (rows : List Row) → newest_number p (sweep f rows) ≡ newest_number p rows
newest_sweep p f same [] = refl
newest_sweep p f same (r ∷ rows) =
    ap (λ b. cond b (Some (length (sweep f rows))) (newest_number p (sweep f rows))) (same (sweep f rows) r)
    ∙ (ap (λ n. cond (p r) (Some n) (newest_number p (sweep f rows))) (length_sweep f rows) ∙ ap (λ o. cond (p r) (Some (length rows)) o) (newest_sweep p f same rows))

next_sweep : (f : List Row → Row → Row) → ((before : List Row) (r : Row) → ((f before r).fetched ≡ r.fetched) × (waiting (f before r) ≡ waiting r)) → (rows : List Row) (u : NextFetch) → next_of (sweep f rows) u ≡ next_of rows u
next_sweep f same [] u = refl
next_sweep f same (r ∷ rows) u =
    ap (λ b. next_of (sweep f rows) (cond b (as_next (f (sweep f rows) r)) u)) (same (sweep f rows) r).1
    ∙ (ap (λ (w : Fetched). next_of (sweep f rows) (cond (waiting r) (record { pc = w.pc; earliest = w.at; right = w.right; state = w.state }) u)) (same (sweep f rows) r).0
    ∙ next_sweep f same rows (cond (waiting r) (as_next r) u))

settled_sweep : (set : Setting) (f : List Row → Row → Row) → ((before : List Row) (r : Row) → ((f before r).fetched ≡ r.fetched) × ((f before r).dispatched ≡ r.dispatched)) → (rows : List Row) → settled set (sweep f rows) ≡ settled set rows
settled_sweep set f same [] = refl
settled_sweep set f same (r ∷ rows) =
    ap (λ b. state_after set (cond b (Some (f (sweep f rows) r)) (find (λ r. r.fetched.right && is_some r.dispatched) (sweep f rows)))) test
    ∙ by_test (r.fetched.right && is_some r.dispatched) (settled_sweep set f same rows)
  where
    test : ((f (sweep f rows) r).fetched.right && is_some (f (sweep f rows) r).dispatched) ≡ (r.fetched.right && is_some r.dispatched)
    test = ap (λ (w : Fetched). w.right && is_some (f (sweep f rows) r).dispatched) (same (sweep f rows) r).0 ∙ ap (λ d. r.fetched.right && is_some d) (same (sweep f rows) r).1

    by_test : (b : Bool) → settled set (sweep f rows) ≡ settled set rows
        → state_after set (cond b (Some (f (sweep f rows) r)) (find (λ r. r.fetched.right && is_some r.dispatched) (sweep f rows))) ≡ state_after set (cond b (Some r) (find (λ r. r.fetched.right && is_some r.dispatched) rows))
    by_test true ih = ap (λ w. (execution_of set w).after) (same (sweep f rows) r).0
    by_test false ih = ih

module _ (g : Given) (sound : IsSound g) (c : ℕ) where
  abbrev set : Setting
  set = setting_of g

  abbrev rows : List Row
  rows = (after_recover set c).rows

  abbrev base : List Reference
  base = store_references set c rows (after_recover set c).references

  abbrev f : List Row → Row → Row
  f = issue_row set c base rows

  slow : Slow set
  slow a x h r = (bounds g.hier h a x sound.hier r.rise r.last).load.least

  rising : Rises c base
  rising = rises_stores set c rows (after_recover set c).references (rises_table set sound.rise c)

  limits : Bounded set (greatest_fetch_of g.hier) (greatest_load_of g.hier)
  limits = bounded g sound

  turn_same : {A : Type 0} (h : Row → A) → ((r : Row) → h (record r { issued = Some c }) ≡ h r) → ((r : Row) (a : MemoryAccess) → h (record r { access = Some a }) ≡ h r) → (before : List Row) (r : Row) → h (f before r) ≡ h r
  turn_same h one two before r = turn_cases set slow c base rising rows (λ x. h x ≡ h r) before r (λ _. one r) (λ _ _. two r (access_of set c base before r)) (λ _ _. refl)

  kept : (before : List Row) (r : Row) → (f before r).fetched ≡ r.fetched
  kept = fetched_same set slow c base rising rows

  -- ---- histories

  abbrev gs : Row → Option Reference
  gs r = cond (stores set r && is_at c r.committed) (Some (Store (address (execution set r).memory) c)) None

  abbrev gl : Row → Option Reference
  gl r = cond (is_at c (accessed r) && not_forwarded r.access) (Some (Load (address (execution set r).memory) c)) None

  abbrev gf : Row → Option Reference
  gf r = cond ((r.fetched.at == c) && set.is_text r.fetched.pc) (Some (Fetch r.fetched.pc c)) None

  none_fetched : (rs : List Row) → Each (λ _. Fresh c) rs → filter_map gf rs ≡ []
  none_fetched [] h = refl
  none_fetched (r ∷ rs) h = map_none gf r rs (ap (λ b. cond (b && set.is_text r.fetched.pc) (Some (Fetch r.fetched.pc c)) None) (not_at c (Some r.fetched.at) h.0.at)) ∙ none_fetched rs h.1

  none_loaded : (rs : List Row) → Each (λ _. Fresh c) rs → filter_map gl rs ≡ []
  none_loaded [] h = refl
  none_loaded (r ∷ rs) h = map_none gl r rs (ap (λ b. cond (b && not_forwarded r.access) (Some (Load (address (execution set r).memory) c)) None) (not_at_access c r.access h.0.access)) ∙ none_loaded rs h.1

  references_before : references_of set c rows (after_recover set c).references ≡ base
  references_before = ap (λ l. l ++ (filter_map gl rows ++ base)) (none_fetched rows (fresh_two set c)) ∙ ap (λ l. l ++ base) (none_loaded rows (fresh_two set c))

  references_after : references_of set c (after_issue set c).rows (after_issue set c).references ≡ load_references set c (after_issue set c).rows base
  references_after =
      ap (λ l. l ++ (filter_map gl (after_issue set c).rows ++ (filter_map gs (after_issue set c).rows ++ (after_recover set c).references))) (map_sweep gf f (turn_same gf (λ r. refl) (λ r a. refl)) rows ∙ none_fetched rows (fresh_two set c))
      ∙ ap (λ l. filter_map gl (after_issue set c).rows ++ (l ++ (after_recover set c).references)) (map_sweep gs f (turn_same gs (λ r. refl) (λ r a. refl)) rows)

  recovers_turn : (before : List Row) (r : Row) → recovers set c (f before r) ≡ recovers set c r
  recovers_turn before r =
      turn_cases set slow c base rising rows (λ x. recovers set c x ≡ recovers set c r) before r
      (λ e. ap (λ b. mispredicted set r && b) (later (execution set r).unit ∙ sym (ap (λ m. is_at c (option_map (λ i. i + unit_latency (execution set r).unit) m)) (unissued set slow c base rising rows before r e))))
      (λ _ _. refl) (λ _ _. refl)
    where
      later : (u : UnitClass) → (c + unit_latency u == c) ≡ false
      later u = apart (c + unit_latency u) (omega (arith, latency_some u))
        where
          apart : (x : ℕ) → c < x → (x == c) ≡ false
          apart x h = grind (arith, nat_tests)

  events_after : predictor_events_of set c (after_issue set c).rows (after_issue set c).predictor_events ≡ predictor_events_of set c rows (after_recover set c).predictor_events
  events_after =
      joined (map_sweep looks f (turn_same looks (λ r. refl) (λ r a. refl)) rows)
      (map_sweep recs f (λ before r. ap (λ b. cond b (Some (Recover (f before r).fetched.top)) None) (recovers_turn before r) ∙ ap (λ (w : Fetched). cond (recovers set c r) (Some (Recover w.top)) None) (kept before r)) rows)
      (map_sweep updates f (turn_same updates (λ r. refl) (λ r a. refl)) rows)
    where
      looks : Row → Option Event
      looks r = cond (r.fetched.at == c) (Some (LookUp r.fetched.pc (set.instruction r.fetched.pc))) None

      recs : Row → Option Event
      recs r = cond (recovers set c r) (Some (Recover r.fetched.top)) None

      updates : Row → Option Event
      updates r = cond (is_at c r.committed && (execution set r).control) (Some (Update r.fetched.pc (set.instruction r.fetched.pc) (execution set r).taken (execution set r).next)) None

      joined : {a a' b b' d d' : List Event} → a ≡ a' → b ≡ b' → d ≡ d' → a ++ (b ++ (d ++ (after_recover set c).predictor_events)) ≡ a' ++ (b' ++ (d' ++ (after_recover set c).predictor_events))
      joined e g h = rw (e, g, h) refl

  -- ---- the whole

  waits_same : (older : List Row) (r : Row) (w : FetchRow) → Waits g w (record { row = r; older = older }) → Waits g w (record { row = f (sweep f older) r; older = sweep f older })
  waits_same older r w h = moved (f (sweep f older) r) (kept (sweep f older) r)
    where
      moved : (x : Row) → x.fetched ≡ r.fetched → Waits g w (record { row = x; older = sweep f older })
      moved x e = rebuilt x.fetched e
        where
          rebuilt : (y : Fetched) → y ≡ r.fetched → Waits g w (record { row = record x { fetched = y }; older = sweep f older })
          rebuilt y e =
              let k : Waits g w (record { row = record x { fetched = r.fetched }; older = sweep f older }) =
              record { row = h.row ∙ sym (length_sweep f older); pc = h.pc; a = h.a; b = h.b; next = h.next; top = h.top; fetched = h.fetched; queued = h.queued } in
              subst (λ y. Waits g w (record { row = record x { fetched = y }; older = sweep f older })) (sym e) k

  pub stands : (old new : Parts) (answer : List Issued) → HasSizes old → RanAll c old new answer → Stands g c true old (after_recover set c) → IssuesSo g c new answer
  stands old new answer sizes ran st =
      record { stands = subst (λ p. Stands g c true p (after_issue set c)) (sym ran.parts) whole; issued = done.1.is }
    where
      config_is : old.config ≡ g.config
      config_is = st.run.config

      sized : (q : Pool) → units_in old.pools (pool_of q) ≡ pool_size set.config q
      sized Alus = sizes.alus ∙ ap (λ (x : OooConfig). x.alus) config_is
      sized Multipliers = sizes.mults ∙ ap (λ (x : OooConfig). x.mults) config_is
      sized Ports = sizes.ports ∙ ap (λ (x : OooConfig). x.ports) config_is

      hier : hierarchy.StandsFor old.hier g.hier base
      hier = subst (hierarchy.StandsFor old.hier g.hier) references_before st.histories.hierarchy

      done : Done g slow c base rising rows (rules_of old) config_is (shared_of old) st.pools sized hier rows ran.left answer (shared_of new)
      done =
          ran_done g slow c base rising rows (rules_of old) config_is (shared_of old) st.pools sized hier rows old.unit.rows ran.left answer (shared_of new)
          (says set c (rules_of old) rows [] old.queue.entries [] old.addresses.rows refl refl tt tt st.rows.queue st.rows.addresses)
          (fresh_two set c) (fit_three set (greatest_fetch_of g.hier) (greatest_load_of g.hier) limits c) (follows_three set c) (issues_live set c) st.rows.unit ran.ran

      ahead : next_of (after_issue set c).rows (after_issue set c).next_fetch ≡ next_of rows (after_recover set c).next_fetch
      ahead = next_sweep f (λ before r. (kept before r, waiting_same set slow c base rising rows before r)) rows (after_recover set c).next_fetch

      came : (before : List Row) (r : Row) → is_some (f before r).dispatched ≡ is_some r.dispatched
      came before r = ap is_some (dispatched_same set slow c base rising rows before r)

      whole : Stands g c true (record old { unit = record (old.unit) { rows = ran.left }; pools = new.pools; hier = new.hier }) (after_issue set c)
      whole =
          record {
            run = record { config = st.run.config; text = st.run.text };
            rows = record {
              unit = done.0;
              queue = queue_same set slow c base rising rows rows old.queue.entries st.rows.queue;
              addresses = addresses_same set slow c base rising rows rows old.addresses.rows st.rows.addresses;
              front = zip_turns set slow c base rising rows (Waits g) waiting (waiting_same set slow c base rising rows) waits_same rows old.front.rows st.rows.front;
            };
            next = record {
              row = st.next.row ∙ sym (length_sweep f rows);
              pc = st.next.pc;
              earliest = st.next.earliest;
              last = st.next.last ∙ sym (newest_sweep (λ r. is_some r.dispatched) f came rows);
              last_memory = st.next.last_memory ∙ sym (newest_sweep (λ r. is_some r.dispatched && uses_memory (execution set r).memory) f (turn_same (λ r. is_some r.dispatched && uses_memory (execution set r).memory) (λ r. refl) (λ r a. refl)) rows);
            };
            pools = λ q x le. omega (arith, done.1.mid.held q x le, st.pools q x le);
            states = record {
              wrong = st.states.wrong ∙ sym (ap (λ (u : NextFetch). not u.right) ahead);
              base = st.states.base ∙ sym (settled_sweep set f (λ before r. (kept before r, dispatched_same set slow c base rising rows before r)) rows);
              view = st.states.view ∙ sym (ap (λ (u : NextFetch). u.state) ahead);
              applied = (let le = st.states.applied in omega (arith, count_sweep (λ r. live r && not r.fetched.right) f (turn_same (λ r. live r && not r.fetched.right) (λ r. refl) (λ r a. refl)) rows));
              clean = st.states.clean;
            };
            histories = record {
              hierarchy = subst (hierarchy.StandsFor new.hier g.hier) (sym references_after) done.1.mid.hierarchy;
              predictor = subst (predictor.StandsFor old.predictor g.pred) (sym events_after) st.histories.predictor;
            };
          }

pub issues : (c : ℕ) (old new : Parts) (answer : List Issued) → HasSizes old → RanAll c old new answer → Issues c old new answer
issues c old new answer sizes ran g sound st = stands g sound c old new answer sizes ran st
