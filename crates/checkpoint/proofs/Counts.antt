-- How many pages there may be.
use Rattle.std.proofs.Common.{◌≡◌, ℕ, ◌+◌, ◌^◌, ◌≤◌, List, [], ◌∷◌, length, arith}
use Rattle.event_trace.specs.Grammar.{InTurn}
use Rattle.paged_mem.specs.Memory.{Pages}
use Rattle.checkpoint.specs.Grammar.{IsPage, next_page, ArePages}

pages_from : (least : ℕ) (pages : Pages) → least ≤ 2 ^ 20 → InTurn IsPage next_page least pages → least + length pages ≤ 2 ^ 20
pages_from least [] low fits = omega (arith, low)
pages_from least (page ∷ pages) low fits =
    let rest : page.0 + 1 + length pages ≤ 2 ^ 20 = pages_from (page.0 + 1) pages (omega (arith, fits.0.number)) fits.1 in
    omega (arith, rest, fits.0.rising)

pub page_limit : (pages : Pages) → ArePages pages → length pages ≤ 2 ^ 20
page_limit pages fits = omega (arith, pages_from 0 pages (omega arith) fits)
