-- The stage, with everything.
use Rattle.std.proofs.Common.{◌≡◌, ℕ, suc, ◌+◌, ◌≤◌, true, List, [], ◌∷◌, ◌++◌, Some, refl, sym, ap, ◌∙◌, subst}
use Rattle.std.specs.Prelude.{reverse, not, ◌==◌}
use Rattle.std.specs.List.{AllZip}
use Rattle.mem_hier.specs.Stands as hierarchy
use Rattle.mem_hier.specs.Stands.{Held}
use Rattle.bpred_unit.specs.declared.predictor.Predictor.{Predictor}
use Rattle.bpred_unit.specs.Stands as predictor
use Rattle.mem_hier.specs.declared.config.HierConfig.{HierConfig}
use Rattle.bpred_unit.specs.declared.config.PredConfig.{PredConfig}
use Rattle.ecoff_load.specs.declared.image.Text.{Text}
use Rattle.ooo_front.specs.declared.row.FetchRow.{FetchRow}
use Rattle.ooo_front.specs.Fetching.{FrontEnd, Stage, fetch_up_to, fetch_cycle}
use Rattle.ooo_front.specs.Stands as front
use Rattle.ooo_table.specs.Row.{Row}
use Rattle.ooo_table.specs.Table.{Table}
use Rattle.ooo_table.specs.Done.{waiting}
use Rattle.ooo_table.specs.References.{references_of, predictor_events_of}
use Rattle.ooo_table.specs.Cycle.{after_dispatch, after_fetch}
use Rattle.ooo_table.specs.Later.{Each}
use Rattle.ooo_table.specs.Machine.{Given, setting_of}
use Rattle.ooo_table.specs.declared.config.OooConfig.{OooConfig}
use Rattle.ooo_table.specs.Ends.{AtStop}
use Rattle.ooo_table.specs.Legal.{Happened}
use Rattle.ooo_table.proofs.Ends.{happened_at}
use Rattle.ooo_table.proofs.Units.{not_at}
use Rattle.core_parts.specs.declared.parts.Parts.{Parts}
use Rattle.core_parts.specs.Rows.{Waits, pick, Lives, Holds, HasAddress}
use Rattle.core_parts.specs.Stands.{Stands}
use Rattle.core_parts.specs.Fits.{HasSizes}
use Rattle.core_parts.specs.Stages as stages
use Rattle.core_parts.proofs.Lists.{same_front, pick_skip}
use Rattle.core_fetch.proofs.Row.{Same}
use Rattle.core_fetch.proofs.Turns.{Fetching, fetches}
use Rattle.core_fetch.proofs.Close.{close}

-- the parts with what the stage changes
abbrev pub with_fetch : Parts → FrontEnd → Held → Predictor → Parts
with_fetch parts f h v = record parts { front = f; hier = h; predictor = v }

-- what the front end promises of its cycle
abbrev pub Promises : ℕ → Text → Parts → FrontEnd → Held → Predictor → Type 0
Promises c text parts f h v =
    (hc : HierConfig) (pc : PredConfig) (s : Stage) → front.Stands parts.front parts.hier parts.predictor hc pc s
    → front.Stands f h v hc pc (fetch_cycle hc pc text c s)

-- no row was fetched at the cycle before its fetch stage
none_yet : (c : ℕ) (rows : List Row) → Each (Happened AtStop c) rows → pick (λ r. r.fetched.at == c) rows ≡ []
none_yet c [] h = refl
none_yet c (r ∷ rows) h = pick_skip (λ r. r.fetched.at == c) r rows (not_at c (Some r.fetched.at) h.0.1) ∙ none_yet c rows h.1

-- the stage of fetching behind the dispatches, as the front end begins the cycle
abbrev begun : (g : Given) (c : ℕ) (parts : Parts) (t : Table) → Stage
begun g c parts t =
    record {
      front = record parts.front { cycle = c + 1 };
      references = references_of (setting_of g) c t.rows t.references;
      events = predictor_events_of (setting_of g) c t.rows t.predictor_events;
    }

abbrev before : (g : Given) (c : ℕ) (parts : Parts) (t : Table) → Stage
before g c parts t =
    record {
      front = parts.front;
      references = references_of (setting_of g) c t.rows t.references;
      events = predictor_events_of (setting_of g) c t.rows t.predictor_events;
    }

begins : (g : Given) (c : ℕ) (parts : Parts) → HasSizes parts → Stands g c true parts (after_dispatch (setting_of g) c)
    → Fetching g c parts.front.rows [] (begun g c parts (after_dispatch (setting_of g) c)) (after_dispatch (setting_of g) c)
begins g c parts sizes st =
    record {
      front = st.rows.front;
      row = st.next.row;
      pc = st.next.pc;
      earliest = st.next.earliest;
      size = sizes.front ∙ ap (λ (o : OooConfig). o.ifq) st.run.config;
      references = refl;
      events = refl;
      split = refl;
      new = subst (AllZip (Waits g) []) (sym (none_yet c (after_dispatch (setting_of g) c).rows (happened_at (setting_of g) AtStop c))) tt;
    }

-- parts that stand for a table stand for another one that is the same but for what the fetch stage changes
stands_after : (g : Given) (c : ℕ) (parts : Parts) (f : FrontEnd) (h : Held) (v : Predictor) (base fresh : List FetchRow) (s : Stage) (t u : Table)
    → f ≡ s.front → hierarchy.StandsFor h g.hier s.references → predictor.StandsFor v g.pred s.events
    → Stands g c true parts t → Fetching g c base fresh s u → Same (setting_of g) t u → Stands g c true (with_fetch parts f h v) u
stands_after g c parts f h v base fresh s t u shows refers looks st k same =
    record {
      run = record { config = st.run.config; text = st.run.text };
      rows = record {
        unit = subst (AllZip (Lives g) parts.unit.rows) (sym same.unit) st.rows.unit;
        queue = subst (AllZip (Holds (setting_of g) (suc c)) parts.queue.entries) (sym same.queue) st.rows.queue;
        addresses = subst (AllZip (HasAddress (setting_of g)) parts.addresses.rows) (sym same.queue) st.rows.addresses;
        front = subst (λ (x : FrontEnd). AllZip (Waits g) x.rows (pick waiting u.rows)) (sym shows) k.front;
      };
      next = record {
        row = ap (λ (x : FrontEnd). x.row) shows ∙ k.row;
        pc = ap (λ (x : FrontEnd). x.pc) shows ∙ k.pc;
        earliest = ap (λ (x : FrontEnd). x.earliest) shows ∙ k.earliest;
        last = st.next.last ∙ sym same.last;
        last_memory = st.next.last_memory ∙ sym same.last_memory;
      };
      pools = λ p x le. st.pools p x le ∙ sym (same.held p x);
      states = record {
        wrong = st.states.wrong ∙ ap not (sym same.right);
        base = st.states.base ∙ sym same.base;
        view = st.states.view ∙ sym same.state;
        applied = subst (λ n. parts.overlay.applied ≤ n) (sym same.wrong) st.states.applied;
        clean = st.states.clean;
      };
      histories = record {
        hierarchy = subst (hierarchy.StandsFor h g.hier) k.references refers;
        predictor = subst (predictor.StandsFor v g.pred) k.events looks;
      };
    }

-- what the front end fetches in the cycle is what the table fetches, and the next cycle begins
pub fetches_so : (g : Given) (c : ℕ) (parts : Parts) (f : FrontEnd) (h : Held) (v : Predictor) (items : List FetchRow) (text : Text) → HasSizes parts
    → text ≡ parts.arch.text → Promises c text parts f h v → f.rows ≡ reverse items ++ parts.front.rows
    → Stands g c true parts (after_dispatch (setting_of g) c) → stages.FetchesSo g c (with_fetch parts f h v) items
fetches_so g c parts f h v items text sizes is_text promises rows st =
    let t = after_dispatch (setting_of g) c in
    let all = fetches g c g.config.decode parts.front.rows [] (begun g c parts t) t (begins g c parts sizes st) in
    let kept : front.Stands f h v g.hier g.pred (fetch_cycle g.hier g.pred text c (before g c parts t)) =
    promises g.hier g.pred (before g c parts t) (record { front = refl; hierarchy = st.histories.hierarchy; predictor = st.histories.predictor }) in
    let same_stage : fetch_cycle g.hier g.pred text c (before g c parts t) ≡ fetch_up_to g.hier g.pred g.start.text c g.config.decode (begun g c parts t) =
    ap (λ x. fetch_up_to g.hier g.pred x c parts.front.width (begun g c parts t)) (is_text ∙ st.run.text)
    ∙ ap (λ n. fetch_up_to g.hier g.pred g.start.text c n (begun g c parts t)) (sizes.width ∙ ap (λ (o : OooConfig). o.decode) st.run.config) in
    let held : front.Stands f h v g.hier g.pred (fetch_up_to g.hier g.pred g.start.text c g.config.decode (begun g c parts t)) =
    subst (front.Stands f h v g.hier g.pred) same_stage kept in
    let fresh : all.fresh ≡ reverse items =
    same_front all.fresh (reverse items) parts.front.rows
    (sym all.turns.split ∙ (ap (λ (x : FrontEnd). x.rows) (sym held.front) ∙ rows)) in
    record {
      stands =
          close g c (with_fetch parts f h v)
          (stands_after g c parts f h v parts.front.rows all.fresh (fetch_up_to g.hier g.pred g.start.text c g.config.decode (begun g c parts t)) t (after_fetch (setting_of g) c)
          held.front held.hierarchy held.predictor st all.turns all.same);
      fetched = subst (λ l. AllZip (Waits g) l (pick (λ r. r.fetched.at == c) (after_fetch (setting_of g) c).rows)) fresh all.turns.new;
    }
