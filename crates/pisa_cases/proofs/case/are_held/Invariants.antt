use Rattle.std.proofs.Common.{ℕ, ◌<◌, string_bytes, slice_index_or, String, Global}
use Rattle.ss_base.specs.Memory.{files_of}
use Rattle.pisa_cases.specs.Expected.{IsSame}
use Rattle.pisa_cases.proofs.case.are_held.Given as goal

-- the files so far are held as they must be
abbrev pub invariant-loop-name : goal.invariant-loop-name
invariant-loop-name l = (k : ℕ) (d : String Global) → k < l.name-index
    → IsSame (files_of l.shelf.files) (files_of l.held.files) (string_bytes {Z = Global} (slice_index_or l.names k d))
