-- What the turn of the oldest waiting row leaves of the states, and what its station is.
use Rattle.std.proofs.Common.{◌≡◌, ℕ, ◌+◌, ◌≤◌, Bool, true, false, cond, List, [], Option, Some, None, refl, sym, ap, ◌∙◌, subst, arith}
use Rattle.std.specs.Prelude.{◌&&◌, ◌==◌, not, is_some, is_none, unwrap_or}
use Rattle.pisa_isa.specs.declared.classes.UnitClass.TheVariants.{Free}
use Rattle.pisa_isa.specs.declared.places.Place.{Place}
use Rattle.pisa_isa.specs.Classes.{unit_of, access_of}
use Rattle.pisa_isa.specs.Coding.{decoded}
use Rattle.pisa_isa.specs.Places.{reads_main_of, reads_second_of, writes_of}
use Rattle.pisa_step.specs.declared.cause.Cause.{Cause}
use Rattle.pisa_step.specs.declared.changes.Changes.{Changes}
use Rattle.pisa_step.specs.Reader.{Reader}
use Rattle.pisa_step.specs.Effect.{changed}
use Rattle.ecoff_load.specs.Fetch.{fetch}
use Rattle.ecoff_load.specs.declared.image.Text.{Text}
use Rattle.sim_safe.specs.declared.record.CommitRecord.{CommitRecord}
use Rattle.sim_safe.specs.State.{State, Storage, state_of, reader_of, range_of}
use Rattle.sim_safe.specs.Decoded.{coded_by}
use Rattle.sim_safe.specs.Step.{Next, Halt, is_call, step_of}
use Rattle.spec_state.specs.Overlay as overlay
use Rattle.spec_state.specs.Overlay.{Overlaid, seen}
use Rattle.ruu_core.specs.Window.{is_load_kind, is_store_kind}
use Rattle.ooo_front.specs.declared.row.FetchRow.{FetchRow}
use Rattle.ooo_table.specs.Row.{Row}
use Rattle.ooo_table.specs.Execution.{Execution, is_load, is_store, uses_memory, address}
use Rattle.ooo_table.specs.Path.{execution, execution_of}
use Rattle.ooo_table.specs.Machine.{Given, setting_of, nop, instruction_at, done_as, halted_as, executed_as}
use Rattle.core_parts.specs.declared.parts.Parts.{Parts}
use Rattle.core_parts.specs.Rows.{Describes, Operates, Waits}
use Rattle.core_parts.specs.Stands.{IsOf, acting}
use Rattle.core_dispatch.specs.declared.verdict.WrongAct.{WrongAct}
use Rattle.core_dispatch.specs.Verdict.{act_by, wrong_act}
use Rattle.core_dispatch.specs.Turn.{Makes, MakesAny, access_in, right_station, wrong_station}
use Rattle.core_dispatch.proofs.Performed.{Performs, performs, use_load, use_store, use_address}
use Rattle.core_dispatch.proofs.Does.{Way, Idles, Makes as Made, WrongDoes, right_does, wrong_does}
use Rattle.core_dispatch.proofs.Marked.{both}
use Rattle.core_dispatch.proofs.Stay.{Enacts}

-- the parts before the turn of the row, which acts on what they hold
pub record Ready (g : Given) (old : Parts) (r : Row) (h : FetchRow) (older : List Row) : Type 0 where
  pub waits : Waits g h (record { row = r; older = older })
  pub run : IsOf g old
  pub wrong : old.wrong ≡ not r.fetched.right
  pub view : acting old ≡ r.fetched.state
  pub clean : old.wrong ≡ false → overlay.StandsFor old.overlay []
  pub at : r.fetched.right ≡ true → r.fetched.pc ≡ r.fetched.state.pc

-- under an overlay on which nothing is written the state is seen
pub bare : (parts : Parts) → overlay.StandsFor parts.overlay [] → acting parts ≡ state_of parts.arch
bare parts s = ap (λ (x : Reader). record (state_of parts.arch) { reads = x }) (s.reads (reader_of parts.arch))

module _ (g : Given) (old : Parts) (r : Row) (h : FetchRow) (older : List Row) (k : Ready g old r h older) where
  texts : g.start.text ≡ r.fetched.state.text
  texts = sym k.run.text ∙ ap (λ (s : State). s.text) k.view

  -- ---- a right row

  pub state_now : r.fetched.right ≡ true → state_of old.arch ≡ r.fetched.state
  state_now w = sym (bare old (k.clean (k.wrong ∙ ap not w))) ∙ k.view

  pub right_is : (did : CommitRecord) (after : State) → r.fetched.right ≡ true → step_of g.trace (state_of old.arch) ≡ Next did after
      → execution (setting_of g) r ≡ done_as did after
  right_is did after w steps =
      right_does g r.fetched w (k.at w)
      ∙ ap (executed_as (instruction_at r.fetched.state.text r.fetched.state.pc) r.fetched.state) (ap (step_of g.trace) (sym (state_now w)) ∙ steps)

  pub right_halts : (why : Cause) → r.fetched.right ≡ true → step_of g.trace (state_of old.arch) ≡ Halt why
      → execution (setting_of g) r ≡ halted_as (instruction_at r.fetched.state.text r.fetched.state.pc) r.fetched.state
  right_halts why w steps =
      right_does g r.fetched w (k.at w)
      ∙ ap (executed_as (instruction_at r.fetched.state.text r.fetched.state.pc) r.fetched.state) (ap (step_of g.trace) (sym (state_now w)) ∙ steps)

  module _ (did : CommitRecord) (after : State) (w : r.fetched.right ≡ true) (steps : step_of g.trace (state_of old.arch) ≡ Next did after) where
    steps_here : step_of g.trace r.fetched.state ≡ Next did after
    steps_here = ap (step_of g.trace) (sym (state_now w)) ∙ steps

    done : Performs r.fetched.state did after
    done = performs g.trace r.fetched.state did after steps_here

    exec : execution_of (setting_of g) r.fetched ≡ done_as did after
    exec = right_is did after w steps

    after_is : (execution_of (setting_of g) r.fetched).after ≡ after
    after_is = ap (λ (x : Execution). x.after) exec

    instr_is : did.instr ≡ (setting_of g).instruction r.fetched.pc
    instr_is =
        sym (ap (λ (t : Text). instruction_at t r.fetched.pc) texts
        ∙ (ap (instruction_at r.fetched.state.text) (k.at w)
        ∙ (ap (λ (m : Option (ℕ × ℕ)). unwrap_or (decoded (unwrap_or m (0, 0)).0 (unwrap_or m (0, 0)).1) nop) done.fetched
        ∙ ap (λ m. unwrap_or m nop) done.codes)))

    right_describes : Describes g (right_station h did) r.fetched
    right_describes =
        record {
          pc = k.waits.pc;
          instr = instr_is;
          wrong = sym (ap not w);
          inert = sym (ap (λ (x : Execution). x.stops) exec);
          possible = λ _. ap (λ (x : Execution). x.stops) exec;
          predicted = k.waits.next;
          top = k.waits.top;
          actual = λ _. sym (ap (λ (x : Execution). x.next) exec);
          did = λ _. record { did = did; is = refl; instr = refl; step = steps_here ∙ ap (Next did) (sym after_is); does = exec ∙ ap (done_as did) (sym after_is) };
          operates = record {
            load = use_load (access_of did.instr.op) did.access done.uses ∙ sym (ap (λ (x : Execution). is_load x.memory) exec);
            store = use_store (access_of did.instr.op) did.access done.uses ∙ sym (ap (λ (x : Execution). is_store x.memory) exec);
            call = sym (ap (λ (x : Execution). x.call) exec);
            unit = sym (ap (λ (x : Execution). x.unit) exec);
            main = sym (ap (λ (x : Execution). x.main) exec);
            second = sym (ap (λ (x : Execution). x.second) exec);
            writes = sym (ap (λ (x : Execution). x.writes) exec);
          };
        }

    -- whether the next row is wrong, by the execution of this one
    abbrev strays : Execution → Bool
    strays x = not (r.fetched.right && not x.stops && (r.fetched.predicted == x.next))

    strays_now : not (h.next == did.next) ≡ strays (execution_of (setting_of g) r.fetched)
    strays_now =
        ap (λ a. not (a == did.next)) k.waits.next
        ∙ (sym (ap (λ b. not (b && true && (r.fetched.predicted == did.next))) w) ∙ sym (ap strays exec))

    pub right_enacts : (new : Parts) → state_of new.arch ≡ after → new.overlay ≡ old.overlay → new.wrong ≡ not (h.next == did.next)
        → Enacts g old new r h (right_station h did) (unwrap_or did.access 0)
    right_enacts new state over wrong =
        record {
          row = refl;
          describes = right_describes;
          address = λ e. sym (use_address (access_of did.instr.op) did.access (sym (ap (λ (x : Execution). uses_memory x.memory) exec) ∙ e)) ∙ sym (ap (λ (x : Execution). address x.memory) exec);
          wrong = wrong ∙ strays_now;
          text = ap (λ (s : State). s.text) state ∙ (done.text ∙ sym (ap (λ (s : State). s.text) (state_now w)));
          base = state ∙ (sym after_is ∙ sym (ap (λ b. cond b (execution_of (setting_of g) r.fetched).after (state_of old.arch)) w));
          view = bare new clear ∙ (state ∙ sym after_is);
          applied = omega (arith, ap (λ (o : Overlaid). o.applied) over);
          clean = λ _. clear;
        }
      where
        clear : overlay.StandsFor new.overlay []
        clear = subst (λ o. overlay.StandsFor o []) (sym over) (k.clean (k.wrong ∙ ap not w))

  -- ---- a wrong row

  not_set : (m : Option ℕ) → is_some m ≡ false → m ≡ None
  not_set None e = refl
  not_set (Some x) e = absurd cc

  pub wrong_is : (act : WrongAct) → r.fetched.right ≡ false → act ≡ wrong_act old h.pc → is_some old.arch.ended ≡ false
      → WrongDoes r.fetched.state r.fetched.pc (execution_of (setting_of g) r.fetched) (instruction_at r.fetched.state.text r.fetched.pc) act
  wrong_is act w is running =
      subst (WrongDoes r.fetched.state r.fetched.pc (execution_of (setting_of g) r.fetched) (instruction_at r.fetched.state.text r.fetched.pc))
      (sym (is ∙ (ap (wrong_act old) k.waits.pc
      ∙ ap (λ (s : State). act_by (range_of s.text) s.reads r.fetched.pc (coded_by (fetch s.text r.fetched.pc))) k.view)))
      (wrong_does g r.fetched w (sym (ap (λ (s : State). s.ended) k.view) ∙ not_set old.arch.ended running))

  module _ (act : WrongAct) (w : r.fetched.right ≡ false) (d : WrongDoes r.fetched.state r.fetched.pc (execution_of (setting_of g) r.fetched) (instruction_at r.fetched.state.text r.fetched.pc) act)
      (no_call : is_call act.instr.op ≡ false) where
    -- what the two ways have in common
    record Common (new : Parts) : Type 0 where
      pub inert : is_none act.changes ≡ (execution_of (setting_of g) r.fetched).stops
      pub operates : Operates (setting_of g) (wrong_station h act) r.fetched
      pub address : uses_memory (execution_of (setting_of g) r.fetched).memory ≡ true → access_in act.changes ≡ address (execution_of (setting_of g) r.fetched).memory
      pub view : acting new ≡ (execution_of (setting_of g) r.fetched).after
      pub applied : new.overlay.applied ≤ old.overlay.applied + 1

    loads_as : (b : Bool) → is_none act.changes ≡ b → (not (is_none act.changes) && is_load_kind (access_of act.instr.op)) ≡ (not b && is_load_kind (access_of act.instr.op))
    loads_as b e = ap (λ x. not x && is_load_kind (access_of act.instr.op)) e

    stores_as : (b : Bool) → is_none act.changes ≡ b → (not (is_none act.changes) && is_store_kind (access_of act.instr.op)) ≡ (not b && is_store_kind (access_of act.instr.op))
    stores_as b e = ap (λ x. not x && is_store_kind (access_of act.instr.op)) e

    unit_as : (b : Bool) → is_none act.changes ≡ b → cond (is_none act.changes) Free (unit_of act.instr.op) ≡ cond b Free (unit_of act.instr.op)
    unit_as b e = ap (λ x. cond x Free (unit_of act.instr.op)) e

    places_as : (b : Bool) (places : List Place) → is_none act.changes ≡ b → cond (is_none act.changes) [] places ≡ cond b [] places
    places_as b places e = ap (λ x. cond x [] places) e

    common : (new : Parts) → new.arch ≡ old.arch → MakesAny (reader_of old.arch) act.changes old.overlay new.overlay → Common new
    common new arch makes = by_way (d.way no_call)
      where
        idle_view : new.overlay ≡ old.overlay → acting new ≡ r.fetched.state
        idle_view over =
            ap (λ (a : Storage). record (state_of a) { reads = seen (reader_of a) new.overlay }) arch
            ∙ (ap (λ o. record (state_of old.arch) { reads = seen (reader_of old.arch) o }) over ∙ k.view)

        made_view : (e : Changes) → Makes (reader_of old.arch) e old.overlay new.overlay → acting new ≡ record r.fetched.state { reads = changed r.fetched.state.reads e }
        made_view e m =
            ap (λ (a : Storage). record (state_of a) { reads = seen (reader_of a) new.overlay }) arch
            ∙ (ap (λ (x : Reader). record (state_of old.arch) { reads = x }) m.reads
            ∙ ap (λ (s : State). record s { reads = changed s.reads e }) k.view)

        by_way : Way r.fetched.state r.fetched.pc (execution_of (setting_of g) r.fetched) act → Common new
        by_way (Idles none x) =
            let over : new.overlay ≡ old.overlay = subst (λ m. MakesAny (reader_of old.arch) m old.overlay new.overlay) none makes in
            let i : is_none act.changes ≡ true = ap is_none none in
            record {
              inert = i ∙ sym (ap (λ (y : Execution). y.stops) x);
              operates = record {
                load = loads_as true i ∙ sym (ap (λ (y : Execution). is_load y.memory) x);
                store = stores_as true i ∙ sym (ap (λ (y : Execution). is_store y.memory) x);
                call = d.call;
                unit = unit_as true i ∙ sym (ap (λ (y : Execution). y.unit) x);
                main = places_as true (reads_main_of act.instr) i ∙ sym (ap (λ (y : Execution). y.main) x);
                second = places_as true (reads_second_of act.instr) i ∙ sym (ap (λ (y : Execution). y.second) x);
                writes = places_as true (writes_of act.instr) i ∙ sym (ap (λ (y : Execution). y.writes) x);
              };
              address = λ e. absurd (both e (ap (λ (y : Execution). uses_memory y.memory) x));
              view = idle_view over ∙ sym (ap (λ (y : Execution). y.after) x);
              applied = omega (arith, ap (λ (o : Overlaid). o.applied) over);
            }
        by_way (Made e some uses x) =
            let made : Makes (reader_of old.arch) e old.overlay new.overlay = subst (λ m. MakesAny (reader_of old.arch) m old.overlay new.overlay) some makes in
            let i : is_none act.changes ≡ false = ap is_none some in
            record {
              inert = i ∙ sym (ap (λ (y : Execution). y.stops) x);
              operates = record {
                load = loads_as false i ∙ (use_load (access_of act.instr.op) e.access uses ∙ sym (ap (λ (y : Execution). is_load y.memory) x));
                store = stores_as false i ∙ (use_store (access_of act.instr.op) e.access uses ∙ sym (ap (λ (y : Execution). is_store y.memory) x));
                call = d.call;
                unit = unit_as false i ∙ sym (ap (λ (y : Execution). y.unit) x);
                main = places_as false (reads_main_of act.instr) i ∙ sym (ap (λ (y : Execution). y.main) x);
                second = places_as false (reads_second_of act.instr) i ∙ sym (ap (λ (y : Execution). y.second) x);
                writes = places_as false (writes_of act.instr) i ∙ sym (ap (λ (y : Execution). y.writes) x);
              };
              address = λ f.
                  ap access_in some
                  ∙ (sym (use_address (access_of act.instr.op) e.access (sym (ap (λ (y : Execution). uses_memory y.memory) x) ∙ f)) ∙ sym (ap (λ (y : Execution). address y.memory) x));
              view = made_view e made ∙ sym (ap (λ (y : Execution). y.after) x);
              applied = omega (arith, made.applied);
            }

    pub wrong_enacts : (new : Parts) → new.arch ≡ old.arch → MakesAny (reader_of old.arch) act.changes old.overlay new.overlay → new.wrong ≡ old.wrong
        → Enacts g old new r h (wrong_station h act) (access_in act.changes)
    wrong_enacts new arch makes wrong =
        let m : Common new = common new arch makes in
        record {
          row = refl;
          describes = record {
            pc = k.waits.pc;
            instr = d.instr ∙ sym (ap (λ (t : Text). instruction_at t r.fetched.pc) texts);
            wrong = sym (ap not w);
            inert = m.inert;
            possible = λ e. absurd (both e w);
            predicted = k.waits.next;
            top = k.waits.top;
            actual = λ e. absurd (both e w);
            did = λ e. absurd (both e w);
            operates = m.operates;
          };
          address = m.address;
          wrong = is_wrong ∙ sym (ap (λ b. not (b && not (execution_of (setting_of g) r.fetched).stops && (r.fetched.predicted == (execution_of (setting_of g) r.fetched).next))) w);
          text = ap (λ (a : Storage). a.text) arch;
          base = ap state_of arch ∙ sym (ap (λ b. cond b (execution_of (setting_of g) r.fetched).after (state_of old.arch)) w);
          view = m.view;
          applied = subst (λ b. new.overlay.applied ≤ old.overlay.applied + cond {A = ℕ} b 0 1) (sym w) m.applied;
          clean = λ e. absurd (both is_wrong e);
        }
      where
        is_wrong : new.wrong ≡ true
        is_wrong = wrong ∙ (k.wrong ∙ ap not w)
