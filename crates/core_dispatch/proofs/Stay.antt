-- The parts stand for the table with one row more dispatched.
use Rattle.std.proofs.Common.{◌≡◌, ℕ, suc, ◌+◌, ◌/◌, ◌<◌, ◌≤◌, Bool, true, false, cond, List, [], ◌∷◌, ◌++◌, Option, Some, None, refl, sym, ap, ◌∙◌, subst, arith, length}
use Rattle.std.specs.Prelude.{◌&&◌, ◌||◌, ◌==◌, not, is_some, is_none, option_map, count_by}
use Rattle.std.specs.List.{AllZip}
use Rattle.std.proofs.lemmas.Bool.{and_parts, lt-ltb}
use Rattle.sim_safe.specs.State.{state_of}
use Rattle.mem_hier.specs.Stands as hierarchy
use Rattle.bpred_unit.specs.Stands as predictor
use Rattle.spec_state.specs.Overlay as overlay
use Rattle.lsq_core.specs.Queue.{Queue}
use Rattle.ruu_core.specs.declared.station.Station.{Station}
use Rattle.ruu_core.specs.Window as unit
use Rattle.ruu_core.specs.Window.{Window, is_by, is_load, is_store, second_reads}
use Rattle.ooo_front.specs.declared.row.FetchRow.{FetchRow}
use Rattle.ooo_front.specs.Fetching.{FrontEnd}
use Rattle.ooo_table.specs.Row.{Row, MemoryAccess, is_before}
use Rattle.ooo_table.specs.Execution as table
use Rattle.ooo_table.specs.Execution.{MemoryUse, NoMemory, LoadFrom, StoreTo, uses_memory, address, unit_latency, Pool, Alus, Multipliers, Ports}
use Rattle.ooo_table.specs.Table.{Setting, NextFetch, Table}
use Rattle.ooo_table.specs.Path.{execution}
use Rattle.ooo_table.specs.Done.{live, waiting, have_produced}
use Rattle.ooo_table.specs.Issue.{holds}
use Rattle.ooo_table.specs.Later.{Each}
use Rattle.ooo_table.specs.CycleLaws.{Leads, Linked, Passed}
use Rattle.ooo_table.specs.Machine.{Given, setting_of}
use Rattle.core_parts.specs.declared.parts.Parts.{Parts}
use Rattle.core_parts.specs.Addresses.{AddressList}
use Rattle.core_parts.specs.Rows.{pick, newest_number, in_queue, Describes, Lives, Holds, HasAddress, Waits}
use Rattle.core_parts.specs.Stands.{Stands, acting, next_of, settled}
use Rattle.core_parts.proofs.Lists.{and_false, pick_skip, pick_take}
use Rattle.core_dispatch.specs.Turn.{Enters, entry_of, address_at, entered_queue, entered_addresses, is_fed, is_memory}
use Rattle.core_dispatch.proofs.Lasts.{zip_without}
use Rattle.core_dispatch.proofs.Partial.{Fit}
use Rattle.core_dispatch.proofs.Marked.{marked, both, Fresh, OfDispatched, live_dispatched, not_picked, pick_young, newest_young, unset, fresh_left, next_after, settled_right, settled_wrong, long, count_marked, count_more, waits_marked, references_marked, events_marked}
use Rattle.core_dispatch.proofs.Producers.{cut_of, kinds_live, have_live}

-- the oldest waiting row, behind these rows and before those
pub record Going (g : Given) (c : ℕ) (left rest : List Row) (r : Row) (h : FetchRow) (n : NextFetch) : Type 0 where
  pub waits : Waits g h (record { row = r; older = rest })
  pub at : waiting r ≡ true
  pub none : pick waiting rest ≡ []
  pub young : Each (λ _ o. waiting o ≡ true) left
  pub early : r.fetched.at < c
  pub fit : Fit (setting_of g) c rest r
  pub fits : Each (Fit (setting_of g) c) rest
  pub linked : Linked (setting_of g) (left ++ (r ∷ rest)) n

-- what its station is, and what it leaves of the states
pub record Enacts (g : Given) (old new : Parts) (r : Row) (h : FetchRow) (s : Station) (addr : ℕ) : Type 0 where
  pub row : s.row ≡ h.row
  pub describes : Describes g s r.fetched
  pub address : uses_memory (execution (setting_of g) r).memory ≡ true → addr ≡ address (execution (setting_of g) r).memory
  pub wrong : new.wrong ≡ not (r.fetched.right && not (execution (setting_of g) r).stops && (r.fetched.predicted == (execution (setting_of g) r).next))
  pub text : new.arch.text ≡ old.arch.text
  pub base : state_of new.arch ≡ cond r.fetched.right (execution (setting_of g) r).after (state_of old.arch)
  pub view : acting new ≡ (execution (setting_of g) r).after
  pub applied : new.overlay.applied ≤ old.overlay.applied + cond {A = ℕ} r.fetched.right 0 1
  pub clean : new.wrong ≡ false → overlay.StandsFor new.overlay []

pub memory_parts : (m : MemoryUse) → (table.is_load m || table.is_store m) ≡ uses_memory m
memory_parts NoMemory = refl
memory_parts (LoadFrom a) = refl
memory_parts (StoreTo a) = refl

pub none_passed : (rows : List Row) → pick waiting rows ≡ [] → Passed rows
none_passed [] e = tt
none_passed (o ∷ rows) e = let k = not_picked waiting o rows e in (k.0, none_passed rows k.1)

-- no mark comes before the one that it follows
unmarked : {A B : Type 0} (m : Option A) (d : Option B) → (is_some m ≡ true → is_some d ≡ true) → d ≡ None → m ≡ None
unmarked None d f e = refl
unmarked (Some x) d f e = absurd (both (f refl) (ap is_some e))

module _ (g : Given) (c : ℕ) (left rest : List Row) (r : Row) (h : FetchRow) (n : NextFetch) (k : Going g c left rest r h n) where
  abbrev set : Setting
  set = setting_of g

  fresh : Fresh left
  fresh = fresh_left left k.young

  undispatched : r.dispatched ≡ None
  undispatched = (unset r k.at).0

  unsquashed : r.squashed ≡ None
  unsquashed = (unset r k.at).1

  unissued : r.issued ≡ None
  unissued = unmarked r.issued r.dispatched k.fit.facts.came undispatched

  unread : r.access ≡ None
  unread = unmarked r.access r.issued k.fit.facts.reached unissued

  lives_now : live (marked c r) ≡ true
  lives_now =
      ap (λ m. is_none m && is_none r.squashed) (unmarked r.committed r.dispatched k.fit.facts.left undispatched) ∙ ap is_none unsquashed

  lived : live r ≡ false
  lived = ap (λ m. is_some m && is_none r.committed && is_none r.squashed) undispatched

  in_queue_dispatched : OfDispatched (in_queue set)
  in_queue_dispatched o e = live_dispatched o (and_parts (live o) (uses_memory (execution set o).memory) e).0

  live_before : pick live (left ++ (r ∷ rest)) ≡ pick live rest
  live_before = pick_young live live_dispatched left (r ∷ rest) fresh ∙ pick_skip live r rest lived

  live_after : pick live (left ++ (marked c r ∷ rest)) ≡ record { row = marked c r; older = rest } ∷ pick live rest
  live_after = pick_young live live_dispatched left (marked c r ∷ rest) fresh ∙ pick_take live (marked c r) rest lives_now

  held_before : pick (in_queue set) (left ++ (r ∷ rest)) ≡ pick (in_queue set) rest
  held_before =
      pick_young (in_queue set) in_queue_dispatched left (r ∷ rest) fresh
      ∙ pick_skip (in_queue set) r rest (ap (λ b. b && uses_memory (execution set r).memory) lived)

  held_after : (b : Bool) → uses_memory (execution set r).memory ≡ b
      → pick (in_queue set) (left ++ (marked c r ∷ rest)) ≡ cond b (record { row = marked c r; older = rest } ∷ pick (in_queue set) rest) (pick (in_queue set) rest)
  held_after b e =
      pick_young (in_queue set) in_queue_dispatched left (marked c r ∷ rest) fresh
      ∙ (ap (λ a. cond (a && uses_memory (execution set r).memory) (record { row = marked c r; older = rest } ∷ pick (in_queue set) rest) (pick (in_queue set) rest)) lives_now
      ∙ ap (λ a. cond a (record { row = marked c r; older = rest } ∷ pick (in_queue set) rest) (pick (in_queue set) rest)) e)

  module _ (s : Station) (addr : ℕ) (old new : Parts) (en : Enacts g old new r h s addr) where
    memory_same : is_memory s ≡ uses_memory (execution set r).memory
    memory_same =
        ap (λ b. b || is_store s) en.describes.operates.load
        ∙ (ap (λ b. table.is_load (execution set r).memory || b) en.describes.operates.store ∙ memory_parts (execution set r).memory)

    numbered : s.row ≡ length rest
    numbered = en.row ∙ k.waits.row

    -- ---- the unit

    station_lives : Lives g (unit.entering s c) (record { row = marked c r; older = rest })
    station_lives =
        record {
          row = numbered;
          station = en.describes;
          dispatched = refl;
          issued = unissued;
          written = ap (option_map (λ i. i + unit_latency (execution set r).unit)) unissued;
          accessed = ap (option_map (λ (a : MemoryAccess). a.at)) unread;
          returned = ap (option_map (λ (a : MemoryAccess). a.back)) unread;
        }

    unit_after : AllZip (Lives g) old.unit.rows (pick live (left ++ (r ∷ rest))) → AllZip (Lives g) (unit.entering s c ∷ old.unit.rows) (pick live (left ++ (marked c r ∷ rest)))
    unit_after z =
        subst (AllZip (Lives g) (unit.entering s c ∷ old.unit.rows)) (sym live_after) (station_lives, subst (AllZip (Lives g) old.unit.rows) live_before z)

    -- ---- the queue

    fed_same : AllZip (Lives g) old.unit.rows (pick live rest) → is_fed c old.unit.rows s ≡ have_produced set (suc c) rest (marked c r) (execution set r).second
    fed_same z =
        ap (unit.have_produced (is_by c) old.unit.rows) en.describes.operates.second
        ∙ sym (have_live g c rest (marked c r) old.unit.rows c (execution set r).second refl z
        (kinds_live set c c r.fetched.at rest k.early k.fits (none_passed rest k.none) (cut_of rest r unsquashed k.fit.spreads)))

    entry_holds : AllZip (Lives g) old.unit.rows (pick live rest) → uses_memory (execution set r).memory ≡ true
        → Holds set (suc c) (entry_of c old.unit s addr) (record { row = marked c r; older = rest })
    entry_holds z e =
        record {
          row = numbered;
          store = en.describes.operates.store;
          block = ap (λ a. a / 8) (en.address e);
          address = sym (ap (λ m. is_store s && is_before (suc c) (option_map (λ i. i + unit_latency (execution set r).unit) m)) unissued ∙ and_false (is_store s));
          data_done = some_cond (is_store s && is_fed c old.unit.rows s) ∙ ap (λ b. is_store s && b) (fed_same z);
          address_by = λ f. absurd cc;
          data_by = in_time (is_store s && is_fed c old.unit.rows s);
        }
      where
        some_cond : (b : Bool) → is_some (cond b (Some c) None) ≡ b
        some_cond true = refl
        some_cond false = refl

        in_time : (b : Bool) → is_some (cond b (Some c) None) ≡ true → is_before (suc c) (cond b (Some c) None) ≡ true
        in_time true f = lt-ltb c (suc c) (omega arith)
        in_time false f = absurd cc

    queue_after : AllZip (Lives g) old.unit.rows (pick live rest) → new.queue ≡ entered_queue (is_memory s) (entry_of c old.unit s addr) old.queue
        → AllZip (Holds set (suc c)) old.queue.entries (pick (in_queue set) (left ++ (r ∷ rest))) → AllZip (Holds set (suc c)) new.queue.entries (pick (in_queue set) (left ++ (marked c r ∷ rest)))
    queue_after z e zip =
        subst (λ (q : Queue). AllZip (Holds set (suc c)) q.entries (pick (in_queue set) (left ++ (marked c r ∷ rest)))) (sym e)
        (subst (AllZip (Holds set (suc c)) (entered_queue (is_memory s) (entry_of c old.unit s addr) old.queue).entries) (sym (held_after (is_memory s) (sym memory_same)))
        (by_memory (is_memory s) (λ f. entry_holds z (sym memory_same ∙ f)) (subst (AllZip (Holds set (suc c)) old.queue.entries) held_before zip)))
      where
        by_memory : (b : Bool) → (b ≡ true → Holds set (suc c) (entry_of c old.unit s addr) (record { row = marked c r; older = rest })) → AllZip (Holds set (suc c)) old.queue.entries (pick (in_queue set) rest)
            → AllZip (Holds set (suc c)) (entered_queue b (entry_of c old.unit s addr) old.queue).entries (cond b (record { row = marked c r; older = rest } ∷ pick (in_queue set) rest) (pick (in_queue set) rest))
        by_memory true f z = (f refl, z)
        by_memory false f z = z

    -- ---- the addresses

    addresses_after : new.addresses ≡ entered_addresses (is_memory s) (address_at s addr) old.addresses
        → AllZip (HasAddress set) old.addresses.rows (pick (in_queue set) (left ++ (r ∷ rest))) → AllZip (HasAddress set) new.addresses.rows (pick (in_queue set) (left ++ (marked c r ∷ rest)))
    addresses_after e zip =
        subst (λ (a : AddressList). AllZip (HasAddress set) a.rows (pick (in_queue set) (left ++ (marked c r ∷ rest)))) (sym e)
        (subst (AllZip (HasAddress set) (entered_addresses (is_memory s) (address_at s addr) old.addresses).rows) (sym (held_after (is_memory s) (sym memory_same)))
        (by_memory (is_memory s) (λ f. record { row = numbered; store = en.describes.operates.store; addr = en.address (sym memory_same ∙ f) }) (subst (AllZip (HasAddress set) old.addresses.rows) held_before zip)))
      where
        by_memory : (b : Bool) → (b ≡ true → HasAddress set (address_at s addr) (record { row = marked c r; older = rest })) → AllZip (HasAddress set) old.addresses.rows (pick (in_queue set) rest)
            → AllZip (HasAddress set) (entered_addresses b (address_at s addr) old.addresses).rows (cond b (record { row = marked c r; older = rest } ∷ pick (in_queue set) rest) (pick (in_queue set) rest))
        by_memory true f z = (f refl, z)
        by_memory false f z = z

    -- ---- the last numbers

    abbrev came : Row → Bool
    came o = is_some o.dispatched

    abbrev came_memory : Row → Bool
    came_memory o = is_some o.dispatched && uses_memory (execution set o).memory

    last_after : Some s.row ≡ newest_number came (left ++ (marked c r ∷ rest))
    last_after = ap Some numbered ∙ sym (newest_young came (λ o e. e) left (marked c r ∷ rest) fresh)

    memory_came : OfDispatched came_memory
    memory_came o e = (and_parts (is_some o.dispatched) (uses_memory (execution set o).memory) e).0

    last_memory_after : new.queue ≡ entered_queue (is_memory s) (entry_of c old.unit s addr) old.queue → old.queue.last ≡ newest_number came_memory (left ++ (r ∷ rest))
        → new.queue.last ≡ newest_number came_memory (left ++ (marked c r ∷ rest))
    last_memory_after e f =
        ap (λ (q : Queue). q.last) e
        ∙ (by_memory (is_memory s) before
        ∙ (ap (λ b. cond b (Some (length rest)) (newest_number came_memory rest)) memory_same ∙ sym (newest_young came_memory memory_came left (marked c r ∷ rest) fresh)))
      where
        before : old.queue.last ≡ newest_number came_memory rest
        before =
            f ∙ (newest_young came_memory memory_came left (r ∷ rest) fresh
            ∙ ap (λ m. cond (is_some m && uses_memory (execution set r).memory) (Some (length rest)) (newest_number came_memory rest)) undispatched)

        by_memory : (b : Bool) → old.queue.last ≡ newest_number came_memory rest
            → (entered_queue b (entry_of c old.unit s addr) old.queue).last ≡ cond b (Some (length rest)) (newest_number came_memory rest)
        by_memory true f = ap Some numbered
        by_memory false f = f

    -- ---- units and states

    holds_same : (p : Pool) (x : ℕ) → holds set p x (marked c r) ≡ holds set p x r
    holds_same Alus x = refl
    holds_same Multipliers x = refl
    holds_same Ports x = refl

    leads : Leads set r (next_of (left ++ (marked c r ∷ rest)) n)
    leads = next_after set left rest r (marked c r) n k.young k.linked k.at k.none refl

    base_after : state_of old.arch ≡ settled set (left ++ (r ∷ rest)) → state_of new.arch ≡ settled set (left ++ (marked c r ∷ rest))
    base_after e = en.base ∙ by_right r.fetched.right refl
      where
        by_right : (b : Bool) → r.fetched.right ≡ b → cond b (execution set r).after (state_of old.arch) ≡ settled set (left ++ (marked c r ∷ rest))
        by_right true w = sym (settled_right set left rest r c fresh w)
        by_right false w = e ∙ sym (settled_wrong set left rest r c fresh undispatched w)

    abbrev is_wrong : Row → Bool
    is_wrong o = live o && not o.fetched.right

    applied_after : old.overlay.applied ≤ count_by is_wrong (left ++ (r ∷ rest)) → new.overlay.applied ≤ count_by is_wrong (left ++ (marked c r ∷ rest))
    applied_after le =
        let one : count_by is_wrong (left ++ (marked c r ∷ rest)) ≡ count_by is_wrong (left ++ (r ∷ rest)) + cond {A = ℕ} r.fetched.right 0 1 =
        count_more c rest r is_wrong (cond {A = ℕ} r.fetched.right 0 1) (ap (λ b. cond {A = ℕ} (b && not r.fetched.right) 1 0) lives_now ∙ flipped r.fetched.right)
        (ap (λ b. b && not r.fetched.right) lived) left in
        omega (arith, le, one, en.applied)
      where
        flipped : (b : Bool) → cond {A = ℕ} (not b) 1 0 ≡ cond {A = ℕ} b 0 1
        flipped true = refl
        flipped false = refl

    -- ---- all together

    pub stands_after : (t : Table) → t.next_fetch ≡ n → Enters c addr h s old new
        → Stands g c true old (record t { rows = left ++ (r ∷ rest) }) → Stands g c true new (record t { rows = left ++ (marked c r ∷ rest) })
    stands_after t is l st =
        subst (λ x. Stands g c true x (record t { rows = left ++ (marked c r ∷ rest) })) (sym l.same)
        (record {
          run = record { config = st.run.config; text = en.text ∙ st.run.text };
          rows = record {
            unit = subst (λ (x : Window). AllZip (Lives g) x.rows (pick live (left ++ (marked c r ∷ rest)))) (sym l.unit) (unit_after st.rows.unit);
            queue = queue_after (subst (AllZip (Lives g) old.unit.rows) live_before st.rows.unit) l.queue st.rows.queue;
            addresses = addresses_after l.addresses st.rows.addresses;
            front =
                zip_without (Waits g) waiting left rest r (marked c r) new.front.rows h (λ x y ys. waits_marked c rest r g x y ys) k.at refl k.none
                (subst (λ l. AllZip (Waits g) l (pick waiting (left ++ (r ∷ rest)))) (ap (λ (f : FrontEnd). f.rows) l.front) st.rows.front);
          };
          next = record {
            row = sym (ap (λ (f : FrontEnd). f.row) l.front) ∙ (st.next.row ∙ long c rest r left);
            pc = sym (ap (λ (f : FrontEnd). f.pc) l.front) ∙ st.next.pc;
            earliest = sym (ap (λ (f : FrontEnd). f.earliest) l.front) ∙ st.next.earliest;
            last = ap (λ (x : Window). x.last) l.unit ∙ last_after;
            last_memory = last_memory_after l.queue st.next.last_memory;
          };
          pools = λ p x le. st.pools p x le ∙ sym (count_marked c rest r (holds set p x) (holds_same p x) left);
          states = record {
            wrong = en.wrong ∙ ap not (sym right_after);
            base = base_after st.states.base;
            view = en.view ∙ sym state_after;
            applied = applied_after st.states.applied;
            clean = en.clean;
          };
          histories = record {
            hierarchy = subst (hierarchy.StandsFor old.hier g.hier) (sym (references_marked c rest r set c left t.references)) st.histories.hierarchy;
            predictor = subst (predictor.StandsFor old.predictor g.pred) (sym (events_marked c rest r set c left t.predictor_events)) st.histories.predictor;
          };
        })
      where
        led : Leads set r (next_of (left ++ (marked c r ∷ rest)) t.next_fetch)
        led = subst (λ m. Leads set r (next_of (left ++ (marked c r ∷ rest)) m)) (sym is) leads

        right_after : (next_of (left ++ (marked c r ∷ rest)) t.next_fetch).right
            ≡ (r.fetched.right && not (execution set r).stops && (r.fetched.predicted == (execution set r).next))
        right_after = led.right

        state_after : (next_of (left ++ (marked c r ∷ rest)) t.next_fetch).state ≡ (execution set r).after
        state_after = led.state
