-- The witness is the range's first address in its first page, and a page's first address in each later one.
use Rattle.std.proofs.Common.{ℕ, ◌+◌, ◌*◌, ◌/◌, ◌-◌, ◌<◌, ◌≤◌, ◌⊎◌, inl, inr, arith}
use Rattle.std.proofs.lemmas.Bool.{cases_lt}
use Rattle.paged_mem.specs.Memory.{Meets}
use Rattle.paged_mem.proofs.span.pages_met.Goals as goal

meets : (address len number : ℕ) → 0 < len → address / 4096 ≤ number → number < (address + (len - 1)) / 4096 + 1 → Meets address len number
meets address len number some low high = each (cases_lt address (4096 * number))
  where
    each : (address < 4096 * number) ⊎ (4096 * number ≤ address) → Meets address len number
    each (inl h) = (4096 * number, omega arith, omega arith, omega arith)
    each (inr h) = (address, omega arith, omega arith, omega arith)

pub returns-else-len-eq0-clause-only : goal.returns-else-len-eq0-clause-only
returns-else-len-eq0-clause-only c = λ number low high. meets c.args.addr c.args.len number (omega arith) low high
