-- A hierarchy stands for one reference more.
use Rattle.std.proofs.Common.{◌≡◌, ℕ, ◌+◌, ◌-◌, ◌*◌, ◌^◌, ◌<◌, ◌≤◌, List, ◌∷◌, refl, sym, ◌∙◌, ap, subst, arith}
use Rattle.mem_hier.specs.declared.config.HierConfig.{HierConfig}
use Rattle.mem_hier.specs.declared.timing.Timings.{Timings}
use Rattle.mem_hier.specs.Replay.{Reference, Fetch, Load, Store, SettleAll, Calls, answer, settled, calls_of, latency_of}
use Rattle.mem_hier.specs.Stands.{Caches, Held, CachesStand, StandsFor, references_in, last_cycle_in, CyclesRise}
use Rattle.mem_hier.specs.Sound.{timings_of, CachesMet, IsAnswered, AreTimed, CachesBy, IsSound}
use Rattle.mem_hier.proofs.Ways.{by_more}
use Rattle.mem_hier.proofs.Bounds.{calls_fill_by, caches_met, are_timed}

-- what follows of the hierarchy's own configuration follows of any that it stands for
own_config : (v : Held) (h : List Reference) (P : HierConfig → Type 0) → (StandsFor v v.config h → P v.config) → (c : HierConfig) → StandsFor v c h → P c
own_config v h P of_own c st = subst P st.config (of_own (subst (λ c'. StandsFor v c' h) (sym st.config) st))

-- after a reference of this cycle
abbrev pub after : Held → Caches → ℕ → Held
after v new cycle = record { config = v.config; caches = new; references = v.references + 1; last_cycle = cycle }

-- this reference has this cycle
pub record IsOf (r : Reference) (cycle : ℕ) : Type 0 where
  pub references : (h : List Reference) → references_in (r ∷ h) ≡ references_in h + 1
  pub last_cycle : (h : List Reference) → last_cycle_in (r ∷ h) ≡ cycle
  pub rise : (h : List Reference) → last_cycle_in h ≤ cycle → CyclesRise h → CyclesRise (r ∷ h)

pub of_fetch : (pc cycle : ℕ) → IsOf (Fetch pc cycle) cycle
of_fetch pc cycle = record { references = λ h. refl; last_cycle = λ h. refl; rise = λ h le rise. (le, rise) }

pub of_load : (addr cycle : ℕ) → IsOf (Load addr cycle) cycle
of_load addr cycle = record { references = λ h. refl; last_cycle = λ h. refl; rise = λ h le rise. (le, rise) }

pub of_store : (addr cycle : ℕ) → IsOf (Store addr cycle) cycle
of_store addr cycle = record { references = λ h. refl; last_cycle = λ h. refl; rise = λ h le rise. (le, rise) }

-- the latency and the hierarchy then
pub record IsStood (n : ℕ) (v : Held) (c : HierConfig) (r : Reference) (h : List Reference) : Type 0 where
  pub latency : n ≡ latency_of c h r
  pub stands : StandsFor v c (r ∷ h)

pub stood : (v : Held) (t : Timings) (r : Reference) (cycle n : ℕ) (new : Caches) → IsOf r cycle → IsSound v t → v.last_cycle ≤ cycle
    → ((s : Calls) → t ≡ timings_of v.config → CachesMet v.caches v.config s cycle → IsAnswered n new v.config (answer v.config s r))
    → (c : HierConfig) (h : List Reference) → StandsFor v c h → IsStood n (after v new cycle) c r h
unfolding calls_of latency_of
stood v t r cycle n new of sound le answers c h =
    own_config v h (λ c'. IsStood n (after v new cycle) c' r h) step c
  where
    step : StandsFor v v.config h → IsStood n (after v new cycle) v.config r h
    step st =
        let last : v.last_cycle ≡ last_cycle_in h = st.last_cycle in
        let later : last_cycle_in h ≤ cycle = omega arith in
        let met = caches_met v.caches v.config (calls_of v.config h) cycle st.caches (calls_fill_by v.config h cycle sound.allowed st.rise later) in
        let answered = answers (calls_of v.config h) sound.timings met in
        record {
          latency = answered.latency;
          stands = record {
            config = refl;
            allowed = sound.allowed;
            caches = answered.caches;
            references = ap (λ k. k + 1) st.references ∙ sym (of.references h);
            last_cycle = sym (of.last_cycle h);
            rise = of.rise h later st.rise;
          };
        }

pub stood_settled : (v : Held) (new : Caches) → ((c : HierConfig) (s : Calls) → CachesStand v.caches c s → CachesStand new c (settled s)) → (c : HierConfig) (h : List Reference) → StandsFor v c h
    → StandsFor (record { config = v.config; caches = new; references = v.references; last_cycle = 0 }) c (SettleAll ∷ h)
unfolding calls_of
stood_settled v new settles c h st =
    record { config = st.config; allowed = st.allowed; caches = settles c (calls_of c h) st.caches; references = st.references; last_cycle = refl; rise = st.rise }

-- what every hierarchy has
caches_by_more : (v : Caches) (n m : ℕ) → n ≤ m → CachesBy v n → CachesBy v m
caches_by_more v n m le by =
    record {
      il1 = by_more _ _ _ le by.il1;
      dl1 = by_more _ _ _ le by.dl1;
      il2 = by_more _ _ _ le by.il2;
      dl2 = by_more _ _ _ le by.dl2;
      itlb = by_more _ _ _ le by.itlb;
      dtlb = by_more _ _ _ le by.dtlb;
    }

pub has_room : (v : Held) (t : Timings) → IsSound v t → CachesBy v.caches (2 ^ 62 - 3)
has_room v t sound = let few = sound.references in caches_by_more v.caches (2 * v.references) (2 ^ 62 - 3) (omega arith) sound.accesses

pub has_timings : (v : Held) (t : Timings) → IsSound v t → AreTimed t
has_timings v t sound = subst AreTimed (sym sound.timings) (are_timed v.config sound.allowed)

pub sound_after : (v : Held) (t : Timings) (new : Caches) (cycle : ℕ) → IsSound v t → v.references < 2 ^ 60 → ((n : ℕ) → CachesBy v.caches n → CachesBy new (n + 2)) → IsSound (after v new cycle) t
sound_after v t new cycle sound less more =
    record {
      allowed = sound.allowed;
      timings = sound.timings;
      accesses = caches_by_more new (2 * v.references + 2) (2 * (v.references + 1)) (omega arith) (more (2 * v.references) sound.accesses);
      references = omega arith;
    }

pub sound_settled : (v : Held) (t : Timings) (new : Caches) → IsSound v t → ((n : ℕ) → CachesBy v.caches n → CachesBy new n) → IsSound (record { config = v.config; caches = new; references = v.references; last_cycle = 0 }) t
sound_settled v t new sound keeps =
    record { allowed = sound.allowed; timings = sound.timings; accesses = keeps (2 * v.references) sound.accesses; references = sound.references }
