-- How long it takes at most until a row commits.
use Rattle.std.specs.Prelude.{ℕ, ◌+◌, ◌*◌, ◌≤◌, List}
use Rattle.mem_hier.specs.Replay.{Reference, Fetch, Load}
use Rattle.mem_hier.specs.Stands.{last_cycle_in, CyclesRise}
use Rattle.ooo_table.specs.Table.{Setting}

-- a history whose cycles never fall, and which is over by cycle c
pub record Rises (c : ℕ) (h : List Reference) : Type 0 where
  pub rise : CyclesRise h
  pub last : last_cycle_in h ≤ c

module _ (set : Setting) where
  -- There is at least one of everything. After any history whose cycles never fall, and so was the one of the start, no
  -- fetch takes longer than I and no load longer than M.
  pub record Bounded (I M : ℕ) : Type 0 where
    pub ifq : 1 ≤ set.config.ifq
    pub decode : 1 ≤ set.config.decode
    pub issue : 1 ≤ set.config.issue
    pub commit : 1 ≤ set.config.commit
    pub ruu : 1 ≤ set.config.ruu
    pub lsq : 1 ≤ set.config.lsq
    pub penalty : 1 ≤ set.config.penalty
    pub alus : 1 ≤ set.config.alus
    pub mults : 1 ≤ set.config.mults
    pub ports : 1 ≤ set.config.ports
    pub start : CyclesRise set.start_references
    pub fetch : (pc c : ℕ) (h : List Reference) → Rises c h → set.latency (Fetch pc c) h ≤ I
    pub load : (a c : ℕ) (h : List Reference) → Rises c h → set.latency (Load a c) h ≤ M
    pub some : 1 ≤ M

-- the penalty, the greatest latencies of a fetch and of a load, the latency of a division, three times its issue latency,
-- and what the stages take between
abbrev pub bound_of : ℕ → ℕ → ℕ → ℕ
bound_of penalty I M = penalty + I + M + 20 + 3 * 19 + 16

module _ (set : Setting) where
  abbrev pub bound : ℕ → ℕ → ℕ
  bound I M = bound_of set.config.penalty I M
