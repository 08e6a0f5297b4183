-- The way of a block, by its place among the ways of its set.
use Rattle.std.proofs.Common.{◌≡◌, ℕ, ◌<◌, Bool, true, List, length, Option, Some, None, refl, arith}
use Rattle.std.specs.Prelude.{◌==◌, not}
use Rattle.std.proofs.lemmas.Bool.{eqb-true, eqb-false, and_parts, not-true}
use Rattle.cache_core.specs.declared.config.CacheConfig.{CacheConfig}
use Rattle.cache_core.specs.declared.ways.Way.{Way}
use Rattle.cache_core.specs.Replay.{Line, find_line, touched, touched_at}
use Rattle.cache_core.specs.Ways.{way_at, IsPlace}

-- the way at place i holds block b
pub record HoldsAt (b i : ℕ) (ways : List Way) : Type 0 where
  pub inside : i < length ways
  pub tag : (way_at ways i).tag ≡ b
  pub held : 0 < (way_at ways i).stamp

pub found_place : (b i : ℕ) (ways : List Way) → IsPlace b ways (Some i) → HoldsAt b i ways
found_place b i ways p =
    let parts = and_parts ((way_at ways i).tag == b) (not ((way_at ways i).stamp == 0)) p.1 in
    let some : (way_at ways i).stamp ≡ 0 → ⊥ = eqb-false (way_at ways i).stamp 0 (not-true ((way_at ways i).stamp == 0) parts.1) in
    record { inside = p.0; tag = eqb-true (way_at ways i).tag b parts.0; held = omega arith }

-- only a miss lets a line leave
pub touched-hit_victim : (c : CacheConfig) (b : ℕ) (write : Bool) (lines : List Line) → (touched c lines b write).touch.hit ≡ true → (touched c lines b write).touch.victim ≡ None
unfolding touched
touched-hit_victim c b write lines = by_case (find_line b lines)
  where
    by_case : (o : Option Line) → (touched_at c lines b write o).touch.hit ≡ true → (touched_at c lines b write o).touch.victim ≡ None
    by_case (Some l) e = refl
    by_case None e = absurd cc
