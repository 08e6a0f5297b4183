-- Lines of caches that are added one after the other.
use Rattle.std.specs.Prelude.{◌≡◌, ◌++◌, ℕ, List, Option, Result, Ok, Err, OnOk, OnErr}
use Rattle.std.proofs.Common.{ap, subst, ◌∙◌}
use Rattle.ss_base.specs.Outside.{BeginsWith}
use Rattle.ss_base.specs.Begins.{begins_front}
use Rattle.cache_core.specs.declared.answers.Counts.{Counts}
use Rattle.sim_refs.specs.Statistics.{cache_text}

-- the counts that were answered are those of the references
pub counted_as : (name old new : List ℕ) (found counts : Option Counts) → found ≡ counts
    → new ≡ old ++ cache_text name found → new ≡ old ++ cache_text name counts
counted_as name old new found counts same e = e ∙ ap (λ o. old ++ cache_text name o) same

-- the same of the last lines, where they were added
pub last_counted_as : {T E : Type 0} (r : Result T E) (name old new : List ℕ) (found counts : Option Counts) → found ≡ counts
    → OnOk r (new ≡ old ++ cache_text name found) → OnOk r (new ≡ old ++ cache_text name counts)
last_counted_as (Ok _) name old new found counts same e = counted_as name old new found counts same e
last_counted_as (Err _) name old new found counts same e = e

-- where the last lines weren't added, the front is still there
pub begins_before : {T E : Type 0} (r : Result T E) (old mid new xs : List ℕ) → mid ≡ old ++ xs
    → OnErr r (BeginsWith new mid) → OnErr r (BeginsWith new old)
begins_before (Ok _) old mid new xs e begins = begins
begins_before (Err _) old mid new xs e begins = begins_front new old xs (subst (λ front. BeginsWith new front) e begins)
