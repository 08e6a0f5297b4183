use Rattle.std.proofs.Common.{◌≡◌, ◌++◌, take}
use Rattle.std.specs.List.{flat_map}
use Rattle.checkpoint.specs.Grammar.{page_bytes}
use Rattle.checkpoint.proofs.writing.put_pages.Given as goal

abbrev pub invariant-loop-page : goal.invariant-loop-page
invariant-loop-page l = l.into.items ≡ l.fn.into.items ++ flat_map page_bytes (take l.page-index l.pages)
