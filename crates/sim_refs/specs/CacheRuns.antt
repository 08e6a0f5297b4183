-- What a run of a hierarchy holds, and the records that it stands for.
use Rattle.std.specs.Prelude.{◌≡◌, ℕ, ◌+◌, ◌*◌, ◌^◌, ◌≤◌, List, length}
use Rattle.sim_safe.specs.declared.record.CommitRecord.{CommitRecord}
use Rattle.mem_hier.specs.declared.config.HierConfig.{HierConfig}
use Rattle.mem_hier.specs.Stands as hierarchy
use Rattle.mem_hier.specs.Stands.{Held, last_cycle_of}
use Rattle.sim_refs.specs.References.{references_of}

-- the hierarchy, and how many records it was fed
pub record Fed : Type 0 where
  pub hier : Held
  pub records : ℕ

-- a run is fed so many records; further ones leave it as it is
abbrev pub most_records : ℕ
most_records = 2 ^ 59

-- The run has this configuration and stands for these records, the newest first: its hierarchy stands for their
-- references.
pub record StandsFor (v : Fed) (c : HierConfig) (h : List CommitRecord) : Type 0 where
  pub hier : hierarchy.StandsFor v.hier c (references_of h)
  pub records : v.records ≡ length h

-- A hierarchy that was referred to in cycle 0 alone, and may be by so many references more.
pub record MayRefer (v : Held) (more : ℕ) : Type 0 where
  pub cycle : last_cycle_of v ≡ 0
  pub references : hierarchy.references_of v + more ≤ 2 ^ 60

-- what up to so many references in cycle 0 leave of its numbers
pub record Refers (old new : Held) (most : ℕ) : Type 0 where
  pub cycle : last_cycle_of new ≡ 0
  pub references : hierarchy.references_of new ≤ hierarchy.references_of old + most

-- each record made up to two references, in cycle 0
pub record IsSound (v : Fed) : Type 0 where
  pub cycle : last_cycle_of v.hier ≡ 0
  pub references : hierarchy.references_of v.hier ≤ 2 * v.records
  pub records : v.records ≤ most_records
