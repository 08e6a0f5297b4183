-- The references that a run makes of memory, by the records of its instructions.
use Rattle.std.specs.Prelude.{ℕ, List, [], ◌∷◌, Option, Some}
use Rattle.pisa_isa.specs.declared.classes.AccessKind.{AccessKind}
use Rattle.pisa_isa.specs.declared.classes.AccessKind.TheVariants as access
use Rattle.pisa_isa.specs.Classes.{access_of}
use Rattle.sim_safe.specs.declared.record.CommitRecord.{CommitRecord}
use Rattle.mem_hier.specs.Replay.{Reference, Fetch, Load, Store}

-- A load or store refers to its effective address, onto the references before it. All else refers to no data, and so
-- does a system call, whatever memory it reads or writes.
abbrev pub data_referred : AccessKind → Option ℕ → List Reference → List Reference
data_referred access.Load (Some addr) before = Load addr 0 ∷ before
data_referred access.Store (Some addr) before = Store addr 0 ∷ before
data_referred kind addr before = before

-- what an instruction that was done refers to, onto the references before it: it is fetched, and then loads or stores
abbrev pub referred : CommitRecord → List Reference → List Reference
referred r before = data_referred (access_of r.instr.op) r.access (Fetch r.pc 0 ∷ before)

-- The references of these records, all in cycle 0. Both lists have the newest first.
abbrev pub references_of : List CommitRecord → List Reference
references_of [] = []
references_of (r ∷ h) = referred r (references_of h)
