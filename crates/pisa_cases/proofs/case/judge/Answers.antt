use Rattle.std.proofs.Common.{List, All, subst, string_bytes, String, Global}
use Rattle.ss_base.specs.Memory.{files_of}
use Rattle.pisa_cases.specs.Expected.{IsSame}
use Rattle.pisa_cases.proofs.case.judge.Goals as goal

-- the names that were compared are those of the case
pub returns-in-Ok-None-clause-files : goal.returns-in-Ok-None-clause-files
returns-in-Ok-None-clause-files c passed =
    let Held : List (String Global) → Type 0 = λ names. All (λ name. IsSame (files_of c.args.case.now.shelf.files) (files_of c.args.case.now.held.files) (string_bytes {Z = Global} name)) names in
    subst Held c.deref.ensures.value (c.file_difference.ensures passed)
