-- The parts with which a run starts fit together, and they stand for the first table.
use Rattle.std.proofs.Common.{◌≡◌, ℕ, ◌^◌, ◌<◌, ◌≤◌, [], length, false, refl, sym, ap, ◌∙◌, subst, arith}
use Rattle.std.specs.Prelude.{All}
use Rattle.std.specs.List.{AllZip}
use Rattle.std.proofs.lemmas.List.Elements.{All-nil}
use Rattle.sim_safe.specs.State.{State, Storage, reader_of, state_of}
use Rattle.mem_hier.specs.Stands.{Held, references_of}
use Rattle.bpred_unit.specs.declared.predictor.Predictor.{Predictor}
use Rattle.bpred_unit.specs.Stands as prediction
use Rattle.bpred_unit.specs.Stands.{cells_of, IsTop}
use Rattle.lsq_core.specs.Queue.{Queue}
use Rattle.ruu_core.specs.Window as unit
use Rattle.ruu_core.specs.Window.{Window, is_above}
use Rattle.ooo_front.specs.declared.row.FetchRow.{FetchRow}
use Rattle.ooo_front.specs.Fetching.{FrontEnd}
use Rattle.ooo_front.specs.Stands.{started}
use Rattle.fu_pool.specs.Takes.{Units}
use Rattle.spec_state.specs.Overlay.{Overlaid}
use Rattle.ooo_table.specs.declared.config.OooConfig.{OooConfig}
use Rattle.ooo_table.specs.Limits.{IsAllowed}
use Rattle.ooo_table.specs.Cycle.{table}
use Rattle.ooo_table.specs.Machine.{Given, setting_of}
use Rattle.core_parts.specs.Addresses.{AddressList}
use Rattle.core_parts.specs.declared.parts.Parts.{Parts}
use Rattle.core_parts.specs.Rows.{Lives, Holds, HasAddress, Waits}
use Rattle.core_parts.specs.Fits.{Fits, HasSizes, IsInTime, HasNumbers, Agree, IsBehind, unit_tags, queue_tags, address_tags}
use Rattle.core_parts.specs.Stands.{Stands, RowsStand, GoesOn, Acts, HistoriesStand, PoolsStand, pool_of}
use Rattle.core_start.specs.Start.{AreEmpty, AreFree, IsClean, IsSettled, Begins, IsGiven, Starts}

-- parts of these buffers and units begin so
pub begun : (c : OooConfig) (m : Storage) (h now : Held) (v : Predictor) (u : Window) (q : Queue) (a : AddressList) (f : FrontEnd) (w : Units) (o : Overlaid) (pc : ℕ)
    → pc ≡ m.pc → AreEmpty c u q a → f ≡ started c.ifq c.decode pc → AreFree c w → IsClean c o → IsSettled h now
    → Begins c m h v (record { config = c; unit = u; queue = q; addresses = a; front = f; pools = w; hier = now; predictor = v; arch = m; overlay = o; wrong = false })
begun c m h now v u q a f w o pc at live front pools overlay hier =
    record {
      config = refl;
      arch = refl;
      predictor = refl;
      hier = hier;
      live = live;
      front = front ∙ ap (λ n. started c.ifq c.decode n) at;
      pools = pools;
      overlay = overlay;
      wrong = refl;
    }

module _ (c : OooConfig) (m : Storage) (h : Held) (v : Predictor) (parts : Parts) (b : Begins c m h v parts) where
  -- ---- the parts fit together

  -- a size by the configuration that was handed in is one by that of the parts
  sized : (f : OooConfig → ℕ) (n : ℕ) → n ≡ f c → n ≡ f parts.config
  sized f n e = e ∙ sym (ap f b.config)

  sizes : IsAllowed c → HasSizes parts
  sizes allowed =
      record {
        allowed = subst IsAllowed (sym b.config) allowed;
        unit = sized (λ o. o.ruu) parts.unit.size (ap (λ (u : Window). u.size) b.live.unit);
        queue = sized (λ o. o.lsq) parts.queue.size (ap (λ (q : Queue). q.size) b.live.queue);
        addresses = sized (λ o. o.lsq) parts.addresses.size (ap (λ (a : AddressList). a.size) b.live.addresses);
        front = sized (λ o. o.ifq) parts.front.size (ap (λ (f : FrontEnd). f.size) b.front);
        width = sized (λ o. o.decode) parts.front.width (ap (λ (f : FrontEnd). f.width) b.front);
        overlay = sized (λ o. o.ruu) parts.overlay.size b.overlay.size;
        alus = sized (λ o. o.alus) _ b.pools.alus;
        mults = sized (λ o. o.mults) _ b.pools.mults;
        ports = sized (λ o. o.ports) _ b.pools.ports;
      }

  no_row : parts.front.row ≡ 0
  no_row = ap (λ (f : FrontEnd). f.row) b.front

  no_effects : parts.overlay.applied ≡ 0
  no_effects = b.overlay.effects.applied

  time : IsInTime 0 parts
  time =
      let early : parts.front.cycle ≡ 0 = ap (λ (f : FrontEnd). f.cycle) b.front in
      record {
        cycle = omega arith;
        unit = ap (λ (u : Window). is_above u.past 0) b.live.unit;
        pools = omega (arith, b.pools.time);
        front = omega (arith, early);
        hier = omega (arith, b.hier.settled.last_cycle);
      }

  numbers : references_of h < 2 ^ 59 → m.icnt ≤ 2 ^ 61 → HasNumbers 0 0 parts
  numbers references done =
      let same : parts.arch.icnt ≡ m.icnt = ap (λ (s : Storage). s.icnt) b.arch in
      let none : length parts.front.rows ≡ 0 = ap (λ (f : FrontEnd). length f.rows) b.front in
      record {
        references = omega (arith, references, b.hier.settled.references);
        rows = omega (arith, no_row);
        instructions = omega (arith, done, same, none, no_row);
      }

  agree : Agree parts
  agree =
      record {
        queue = ap (λ (q : Queue). queue_tags q.entries) b.live.queue ∙ sym (ap (λ (u : Window). unit_tags u.rows) b.live.unit);
        addresses = ap (λ (a : AddressList). address_tags a.rows) b.live.addresses ∙ sym (ap (λ (u : Window). unit_tags u.rows) b.live.unit);
        behind = subst (λ (u : Window). IsBehind u.last parts.front) (sym b.live.unit) tt;
        memory_behind = subst (λ (q : Queue). IsBehind q.last parts.front) (sym b.live.queue) tt;
        tops = subst (λ (u : Window). All (λ (r : unit.Row). IsTop (cells_of parts.predictor) r.station.top) u.rows) (sym b.live.unit) (All-nil _);
        waiting_tops = subst (λ (f : FrontEnd). All (λ (w : FetchRow). IsTop (cells_of parts.predictor) w.top) f.rows) (sym b.front) (All-nil _);
        applied = omega (arith, no_effects);
      }

  pub fits : IsAllowed c → references_of h < 2 ^ 59 → m.icnt ≤ 2 ^ 61 → Fits 0 0 parts
  fits allowed references done = record { sizes = sizes allowed; time = time; numbers = numbers references done; agree = agree }

  -- ---- they stand for the first table

  module _ (g : Given) (i : IsGiven c m h v g) where
    starts_at : state_of parts.arch ≡ g.start
    starts_at = ap state_of b.arch ∙ i.start

    no_rows : RowsStand g 0 parts []
    no_rows =
        record {
          unit = subst (λ (u : Window). AllZip (Lives g) u.rows []) (sym b.live.unit) tt;
          queue = subst (λ (q : Queue). AllZip (Holds (setting_of g) 0) q.entries []) (sym b.live.queue) tt;
          addresses = subst (λ (a : AddressList). AllZip (HasAddress (setting_of g)) a.rows []) (sym b.live.addresses) tt;
          front = subst (λ (f : FrontEnd). AllZip (Waits g) f.rows []) (sym b.front) tt;
        }

    goes_on : GoesOn g parts (table (setting_of g) 0)
    goes_on =
        record {
          row = no_row;
          pc = ap (λ (f : FrontEnd). f.pc) b.front ∙ ap (λ (s : State). s.pc) i.start;
          earliest = ap (λ (f : FrontEnd). f.earliest) b.front;
          last = ap (λ (u : Window). u.last) b.live.unit;
          last_memory = ap (λ (q : Queue). q.last) b.live.queue;
        }

    free : PoolsStand (setting_of g) 0 parts.pools []
    free p x le = b.pools.takes.counts (pool_of p) x (omega (arith, b.pools.time))

    acts : Acts g parts (table (setting_of g) 0)
    acts =
        record {
          wrong = b.wrong;
          base = starts_at;
          view = ap (λ r. record (state_of parts.arch) { reads = r }) (b.overlay.effects.reads (reader_of parts.arch)) ∙ starts_at;
          applied = omega (arith, no_effects);
          clean = λ e. b.overlay.effects;
        }

    histories : HistoriesStand g 0 false parts (table (setting_of g) 0)
    histories =
        record {
          hierarchy = b.hier.references g.hier g.references i.references;
          predictor = subst (λ p. prediction.StandsFor p g.pred g.events) (sym b.predictor) i.events;
        }

    stands : Stands g 0 false parts (table (setting_of g) 0)
    stands =
        record {
          run = record { config = b.config ∙ i.config; text = ap (λ (s : State). s.text) starts_at };
          rows = no_rows;
          next = goes_on;
          pools = free;
          states = acts;
          histories = histories;
        }

  pub starts : Starts c m h v parts
  starts = record { begins = b; stands = stands }
