use Rattle.std.proofs.Common.{◌≡◌, ℕ, ◌<◌, ◌≤◌, [], get_or, slice_index}
use Rattle.paged_mem.proofs.leaf.Leaf.place_from.Given as goal

abbrev pub invariant-loop-place : goal.invariant-loop-place
invariant-loop-place l = (j k : ℕ) → l.from ≤ j → j < l.place → slice_index (get_or l.self-inside.pages.items j []) k ≡ 0
