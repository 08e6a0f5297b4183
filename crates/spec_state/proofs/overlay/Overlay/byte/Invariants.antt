use Rattle.std.proofs.Common.{◌≡◌, ◌≤◌, ℕ, length, reverse, take}
use Rattle.spec_state.specs.Overlay.{bytes_over}
use Rattle.spec_state.proofs.overlay.Overlay.byte.Given as goal

-- no write from the k-th on writes the byte
abbrev pub invariant-loop-k : goal.invariant-loop-k
invariant-loop-k l = record {
  within : l.k ≤ length l.self-inside.writes.items;
  passed : (bytes : ℕ → ℕ) → bytes_over bytes (reverse l.self-inside.writes.items) l.addr ≡ bytes_over bytes (reverse (take l.k l.self-inside.writes.items)) l.addr;
}
