-- Behind a recovery the parts stand for the table behind it.
use Rattle.std.proofs.Common.{◌≡◌, ℕ, suc, ◌+◌, Bool, true, false, List, [], ◌∷◌, ◌++◌, Option, Some, None, refl, sym, ap, ◌∙◌, subst, arith, length}
use Rattle.std.specs.Prelude.{◌&&◌, ◌||◌, not, is_some, is_none, option_map, find, reverse, filter, nat_le}
use Rattle.std.specs.List.{AllZip, list_any}
use Rattle.std.proofs.lemmas.Bool.{and_left}
use Rattle.sim_safe.specs.State.{reader_of, state_of}
use Rattle.mem_hier.specs.Replay.{greatest_fetch_of, greatest_load_of}
use Rattle.mem_hier.specs.Stands as hierarchy
use Rattle.bpred_unit.specs.History.{Recover}
use Rattle.bpred_unit.specs.Stands as predictor
use Rattle.ruu_core.specs.declared.station.Station.{Station}
use Rattle.ruu_core.specs.Window as unit
use Rattle.lsq_core.specs.Queue.{Entry}
use Rattle.ooo_table.specs.declared.config.OooConfig.{OooConfig}
use Rattle.ooo_table.specs.Row.{Row, sweep}
use Rattle.ooo_table.specs.Execution.{uses_memory}
use Rattle.ooo_table.specs.Table.{Setting, NextFetch}
use Rattle.ooo_table.specs.Path.{execution, redirected}
use Rattle.ooo_table.specs.Done.{live, waiting}
use Rattle.ooo_table.specs.Recovery.{recovers, squash_row}
use Rattle.ooo_table.specs.References.{updates_of, predictor_events_of}
use Rattle.ooo_table.specs.Issue.{holds}
use Rattle.ooo_table.specs.Cycle.{after_commit, after_recover}
use Rattle.ooo_table.specs.Later.{Each}
use Rattle.ooo_table.specs.CycleLaws.{Fresh, RowFacts, RecoversLive}
use Rattle.ooo_table.specs.Machine.{Given, setting_of}
use Rattle.ooo_table.specs.MachineLaws.{IsSound}
use Rattle.ooo_table.proofs.Route.{Route, right_stands, recovers_newest, find_none}
use Rattle.ooo_table.proofs.Quiet.{squash_still}
use Rattle.ooo_table.proofs.CycleFacts.{facts_one, fresh_one, follows_two, route_one, live_one}
use Rattle.ooo_table.proofs.Timely.{bounded}
use Rattle.core_parts.specs.declared.parts.Parts.{Parts}
use Rattle.core_parts.specs.Addresses.{up_to}
use Rattle.core_parts.specs.Rows.{pick, newest_number, in_queue, Lives, Holds, HasAddress, Waits}
use Rattle.core_parts.specs.Stands.{StandsBy, next_of, settled, state_after}
use Rattle.core_parts.specs.Stages.{Recovers}
use Rattle.core_parts.proofs.Lists.{count_sweep, length_sweep, pick_skip}
use Rattle.core_parts.proofs.Live.{live_parts, fit_two}
use Rattle.core_recovery.specs.Recovery.{recovering_in, Squashes, SquashesAny, Turns, learned_of}
use Rattle.core_recovery.proofs.Learns.{learned_all_keeps}
use Rattle.core_recovery.proofs.Named.{named, is_right}
use Rattle.core_recovery.proofs.Behind.{newest_at, none_passes, none_any, find_newest, each_at, none_waits, no_next, newest_dispatched, live_gone, waiting_gone, queue_gone, pick_behind, holds_squash, newest_squash, settled_squash, references_squash, events_behind, events_without}
use Rattle.core_recovery.proofs.Held.{Found, found, kept_up_to, addresses_up_to}
use Rattle.core_recovery.proofs.Known.{says, knows}

some_not : (m : Option ℕ) → is_some m ≡ true → is_none m ≡ false
some_not None h = absurd cc
some_not (Some x) h = refl

station_is : (o : Option unit.Row) (u : unit.Row) (s : Station) → o ≡ Some u → option_map (λ (r : unit.Row). r.station) o ≡ Some s → s ≡ u.station
station_is None u s e f = absurd cc
station_is (Some x) u s e f =
    let k : x ≡ u = cc in
    let n : x.station ≡ s = cc in
    sym n ∙ ap (λ (r : unit.Row). r.station) k

none_of_any : (p : Row → Bool) (rows : List Row) → list_any p rows ≡ false → Each (λ _ o. p o ≡ false) rows
none_of_any p [] e = tt
none_of_any p (r ∷ rows) e = ((parts (p r) e).0, none_of_any p rows (parts (p r) e).1)
  where
    parts : (b : Bool) → (b || list_any p rows) ≡ false → (b ≡ false) × (list_any p rows ≡ false)
    parts true e = absurd cc
    parts false e = (refl, e)

module _ (g : Given) (sound : IsSound g) (c : ℕ) where
  abbrev set : Setting
  set = setting_of g

  routes : Each (Route set c) (after_commit set c).rows
  routes = (route_one set (greatest_fetch_of g.hier) (greatest_load_of g.hier) (bounded g sound) c).0

  all_live : Each (λ _. RecoversLive set c) (after_commit set c).rows
  all_live = live_one set (greatest_fetch_of g.hier) (greatest_load_of g.hier) (bounded g sound) c

  number_is : (old : Parts) → StandsBy g c c false old (after_commit set c) → recovering_in c old.unit.rows ≡ newest_number (recovers set c) (after_commit set c).rows
  number_is old st = named g c (after_commit set c).rows old.unit.rows routes all_live st.rows.unit

  -- ---- where a row recovers

  module _ (younger older : List Row) (m : Row) (is : (after_commit set c).rows ≡ younger ++ (m ∷ older)) (at : recovers set c m ≡ true)
      (off : Each (λ _ o. recovers set c o ≡ false) younger) where
    route : Route set c older m × Each (Route set c) older
    route = each_at (Route set c) younger older m (subst (Each (Route set c)) is routes)

    none : list_any (recovers set c) older ≡ false
    none = off_by (list_any (recovers set c) older) (right_stands set c older m route.1 route.0 (is_right g c m at))
      where
        off_by : (b : Bool) → (b ≡ true → ⊥) → b ≡ false
        off_by true h = absurd (h refl)
        off_by false h = refl

    lives : live m ≡ true
    lives = (each_at (λ _. RecoversLive set c) younger older m (subst (Each (λ _. RecoversLive set c)) is all_live)).0.live at

    facts : RowFacts set c older m
    facts = (each_at (RowFacts set c) younger older m (subst (Each (RowFacts set c)) is (facts_one set c))).0

    picked : (p : Row → Bool) → ((r : Row) → is_none r.squashed ≡ false → p r ≡ false) → pick p (after_recover set c).rows ≡ pick p (m ∷ older)
    picked p gone = ap (λ l. pick p (sweep (squash_row set c) l)) is ∙ pick_behind set c older m at none p gone younger

    not_waiting : waiting m ≡ false
    not_waiting = and_left (is_none m.dispatched) (is_none m.squashed) (some_not m.dispatched (live_parts m lives).0)

    all_wait_no_more : pick waiting (after_recover set c).rows ≡ []
    all_wait_no_more = picked waiting (waiting_gone set c) ∙ (pick_skip waiting m older not_waiting ∙ none_waits older (facts.first (live_parts m lives).0))

    find_is : find (recovers set c) (after_commit set c).rows ≡ Some m
    find_is = ap (find (recovers set c)) is ∙ find_newest (recovers set c) younger older m at off

    next_is : (after_recover set c).next_fetch ≡ record { pc = (execution set m).next; earliest = c + g.config.penalty; right = true; state = (execution set m).after }
    next_is = ap (λ o. redirected set c o (after_commit set c).next_fetch) find_is

    ahead : next_of (after_recover set c).rows (after_recover set c).next_fetch
        ≡ record { pc = (execution set m).next; earliest = c + g.config.penalty; right = true; state = (execution set m).after }
    ahead = no_next (after_recover set c).rows (after_recover set c).next_fetch all_wait_no_more ∙ next_is

    left_by : settled set (after_commit set c).rows ≡ (execution set m).after
    left_by = ap (state_after set) (newest_dispatched (after_commit set c).rows m (recovers_newest set c (after_commit set c).rows m routes find_is).0 (live_parts m lives).0)

    module _ (row : ℕ) (s : Station) (old new : Parts) (number : row ≡ length older) (it : option_map (λ (u : unit.Row). u.station) (unit.row_of row old.unit.rows) ≡ Some s)
        (sq : Squashes c row s old new) (st : StandsBy g c c false old (after_commit set c)) where
      -- the row of the unit that recovers
      held : Found g old.unit.rows older m
      held =
          (each_at (λ o r. live r ≡ true → Found g old.unit.rows o r) younger older m
          (subst (Each (λ o r. live r ≡ true → Found g old.unit.rows o r)) is (found g (after_commit set c).rows old.unit.rows st.rows.unit))).0
          lives

      station : s ≡ held.at.station
      station = station_is (unit.row_of row old.unit.rows) held.at s (ap (λ n. unit.row_of n old.unit.rows) number ∙ held.row) it

      actual : s.actual ≡ (execution set m).next
      actual = ap (λ (x : Station). x.actual) station ∙ held.lives.station.actual (is_right g c m at)

      top : s.top ≡ m.fetched.top
      top = ap (λ (x : Station). x.top) station ∙ held.lives.station.top

      unit_left : AllZip (Lives g) (unit.squashed row old.unit).rows (pick live (after_recover set c).rows)
      unit_left =
          subst (AllZip (Lives g) (unit.squashed row old.unit).rows) (sym (picked live (live_gone set c)))
          (subst (λ n. AllZip (Lives g) (unit.squashed n old.unit).rows (pick live (m ∷ older))) (sym number)
          (kept_up_to unit.Row (Lives g) (λ u. u.station.row) (λ u q h. h.row) live younger older m old.unit.rows (subst (λ l. AllZip (Lives g) old.unit.rows (pick live l)) is st.rows.unit)))

      queue_left : AllZip (Holds set c) (filter (λ (e : Entry). nat_le e.row row) old.queue.entries) (pick (in_queue set) (after_recover set c).rows)
      queue_left =
          subst (AllZip (Holds set c) (filter (λ (e : Entry). nat_le e.row row) old.queue.entries)) (sym (picked (in_queue set) (queue_gone set c)))
          (subst (λ n. AllZip (Holds set c) (filter (λ (e : Entry). nat_le e.row n) old.queue.entries) (pick (in_queue set) (m ∷ older))) (sym number)
          (kept_up_to Entry (Holds set c) (λ e. e.row) (λ e q h. h.row) (in_queue set) younger older m old.queue.entries
          (subst (λ l. AllZip (Holds set c) old.queue.entries (pick (in_queue set) l)) is st.rows.queue)))

      addresses_left : AllZip (HasAddress set) (up_to row old.addresses.rows) (pick (in_queue set) (after_recover set c).rows)
      addresses_left =
          subst (AllZip (HasAddress set) (up_to row old.addresses.rows)) (sym (picked (in_queue set) (queue_gone set c)))
          (subst (λ n. AllZip (HasAddress set) (up_to n old.addresses.rows) (pick (in_queue set) (m ∷ older))) (sym number)
          (addresses_up_to set (in_queue set) younger older m old.addresses.rows (subst (λ l. AllZip (HasAddress set) old.addresses.rows (pick (in_queue set) l)) is st.rows.addresses)))

      events : Recover s.top ∷ updates_of set c (after_commit set c).rows (after_commit set c).predictor_events
          ≡ predictor_events_of set c (after_recover set c).rows (after_recover set c).predictor_events
      events =
          ap (λ n. Recover n ∷ updates_of set c (after_commit set c).rows (after_commit set c).predictor_events) top
          ∙ (ap (λ l. Recover m.fetched.top ∷ updates_of set c l (after_commit set c).predictor_events) is
          ∙ sym
          (ap (λ l. predictor_events_of set c (sweep (squash_row set c) l) (after_commit set c).predictor_events) is
          ∙ events_behind set c younger older m (after_commit set c).predictor_events at off (none_of_any (recovers set c) older none) (subst (Each (λ _. Fresh c)) is (fresh_one set c))))

      pub squashed_stands : StandsBy g c c true new (after_recover set c)
      squashed_stands =
          subst (λ x. StandsBy g c c true x (after_recover set c)) (sym sq.same)
          (record {
            run = record { config = st.run.config; text = st.run.text };
            rows = record { unit = unit_left; queue = queue_left; addresses = addresses_left; front = subst (AllZip (Waits g) []) (sym all_wait_no_more) tt };
            next = record {
              row = st.next.row ∙ sym (length_sweep (squash_row set c) (after_commit set c).rows);
              pc = actual ∙ sym (ap (λ (n : NextFetch). n.pc) next_is);
              earliest = ap (λ (x : OooConfig). c + x.penalty) st.run.config ∙ sym (ap (λ (n : NextFetch). n.earliest) next_is);
              last = st.next.last ∙ sym (newest_squash set c (λ r. is_some r.dispatched) (λ r. refl) (after_commit set c).rows);
              last_memory = st.next.last_memory ∙ sym (newest_squash set c (λ r. is_some r.dispatched && uses_memory (execution set r).memory) (λ r. refl) (after_commit set c).rows);
            };
            pools = λ p x le. st.pools p x le ∙ sym (count_sweep (holds set p x) (squash_row set c) (holds_squash set c p x) (after_commit set c).rows);
            states = record {
              wrong = sym (ap (λ (n : NextFetch). not n.right) ahead);
              base = st.states.base ∙ sym (settled_squash set c (after_commit set c).rows);
              view =
                  ap (λ r. record (state_of old.arch) { reads = r }) (sq.overlay.reads (reader_of old.arch))
                  ∙ (st.states.base ∙ (left_by ∙ sym (ap (λ (n : NextFetch). n.state) ahead)));
              applied = omega (arith, sq.overlay.applied);
              clean = λ _. sq.overlay;
            };
            histories = record {
              hierarchy =
                  subst (hierarchy.StandsFor old.hier g.hier) (sym (references_squash set c (after_commit set c).rows (after_commit set c).references)) st.histories.hierarchy;
              predictor =
                  subst (predictor.StandsFor new.predictor g.pred) events
                  (sq.events g.pred (updates_of set c (after_commit set c).rows (after_commit set c).predictor_events) st.histories.predictor);
            };
          })

  -- ---- where none does

  unsquashed : newest_number (recovers set c) (after_commit set c).rows ≡ None → after_recover set c ≡ after_commit set c
  unsquashed e =
      let none : list_any (recovers set c) (after_commit set c).rows ≡ false = none_any (recovers set c) (after_commit set c).rows (none_passes (recovers set c) (after_commit set c).rows e) in
      ap (λ l. record (after_commit set c) { rows = l; next_fetch = redirected set c (find (recovers set c) (after_commit set c).rows) (after_commit set c).next_fetch })
      (squash_still set c (after_commit set c).rows none)
      ∙ ap (λ o. record (after_commit set c) { next_fetch = redirected set c o (after_commit set c).next_fetch }) (find_none set c (after_commit set c).rows none)

  unsquashed_stands : (old : Parts) → newest_number (recovers set c) (after_commit set c).rows ≡ None → StandsBy g c c false old (after_commit set c) → StandsBy g c c true old (after_recover set c)
  unsquashed_stands old e st =
      subst (StandsBy g c c true old) (sym (unsquashed e))
      (record {
        run = st.run;
        rows = st.rows;
        next = st.next;
        pools = st.pools;
        states = st.states;
        histories = record {
          hierarchy = st.histories.hierarchy;
          predictor =
              subst (predictor.StandsFor old.predictor g.pred)
              (sym
              (events_without set c (after_commit set c).rows (after_commit set c).predictor_events (none_passes (recovers set c) (after_commit set c).rows e) (fresh_one set c)))
              st.histories.predictor;
        };
      })

  -- ---- both

  stands_squashed : (answer : Option ℕ) (old new : Parts) → recovering_in c old.unit.rows ≡ answer → SquashesAny c answer old new → StandsBy g c c false old (after_commit set c)
      → StandsBy g c c true new (after_recover set c)
  stands_squashed None old new e sq st =
      subst (λ x. StandsBy g c c true x (after_recover set c)) (sym sq) (unsquashed_stands old (sym (number_is old st) ∙ e) st)
  stands_squashed (Some row) old new e sq st =
      let k = newest_at (recovers set c) row (after_commit set c).rows (sym (number_is old st) ∙ e) in
      squashed_stands k.younger k.older k.row k.is k.passes k.none row sq.0 old new k.number sq.1 sq.2 st

  -- ---- what the queue learns

  known_stands : (old new : Parts) → new ≡ record old { queue = learned_of c old.unit.rows (reverse old.addresses.rows) old.queue } → StandsBy g c c true old (after_recover set c)
      → StandsBy g c (suc c) true new (after_recover set c)
  known_stands old new is st =
      let said =
      says g c old.unit.rows (after_recover set c).rows (found g (after_recover set c).rows old.unit.rows st.rows.unit)
      (fit_two set (greatest_fetch_of g.hier) (greatest_load_of g.hier) (bounded g sound) c) (follows_two set c) in
      let k = knows g c old.unit.rows (after_recover set c).rows [] old.queue.entries old.addresses.rows old.queue said refl tt st.rows.queue st.rows.addresses in
      subst (λ x. StandsBy g c (suc c) true x (after_recover set c)) (sym is)
      (record {
        run = record { config = st.run.config; text = st.run.text };
        rows = record {
          unit = st.rows.unit;
          queue = subst (λ l. AllZip (Holds set (suc c)) l (pick (in_queue set) (after_recover set c).rows)) (sym k.entries) k.zip;
          addresses = st.rows.addresses;
          front = st.rows.front;
        };
        next = record {
          row = st.next.row;
          pc = st.next.pc;
          earliest = st.next.earliest;
          last = st.next.last;
          last_memory = (learned_all_keeps c old.unit.rows (reverse old.addresses.rows) old.queue).last ∙ st.next.last_memory;
        };
        pools = st.pools;
        states = record { wrong = st.states.wrong; base = st.states.base; view = st.states.view; applied = st.states.applied; clean = st.states.clean };
        histories = record { hierarchy = st.histories.hierarchy; predictor = st.histories.predictor };
      })

-- the stage
pub turns_recover : (c : ℕ) (old new : Parts) → Turns c old new → Recovers c old new
turns_recover c old new t =
    λ g sound stands.
    known_stands g sound c t.squashed new t.learns
    (stands_squashed g sound c (recovering_in c old.unit.rows) old t.squashed refl t.squashes stands)
