-- How cases are counted.
use Rattle.std.specs.Prelude.{◌≡◌, ◌+◌, ◌-◌, ◌^◌, ℕ, min, Result, Ok, Err}
use Rattle.pisa_cases.specs.declared.reader.Told.{Told}
use Rattle.pisa_cases.specs.declared.reader.Told.TheVariants as told
use Rattle.pisa_cases.specs.declared.tally.Tally.{Tally}

-- one more, up to the end of the counter
abbrev pub one_more : ℕ → ℕ
one_more n = min (n + 1) (2 ^ 64 - 1)

-- what a line came to is counted: a case that is over, and among these each that failed and each that is refused
abbrev pub Counted : {E : Type 0} → Result Told E → Tally → Tally → Type 0
Counted (Ok told.Nothing) old new = (new.cases ≡ old.cases) × (new.failed ≡ old.failed)
Counted (Ok told.Passed) old new = (new.cases ≡ one_more old.cases) × (new.failed ≡ old.failed)
Counted (Ok (told.Failed why)) old new = (new.cases ≡ one_more old.cases) × (new.failed ≡ one_more old.failed)
Counted (Ok (told.NotEnded name)) old new = (new.cases ≡ one_more old.cases) × (new.failed ≡ one_more old.failed)
Counted (Err fault) old new = (new.cases ≡ one_more old.cases) × (new.failed ≡ one_more old.failed)
