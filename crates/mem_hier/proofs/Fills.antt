-- When the blocks of one cache are filled at the latest, and how long its accesses take at most.
use Rattle.std.proofs.Common.{◌≡◌, ◌≢◌, ℕ, ◌+◌, ◌-◌, ◌≤◌, Bool, true, false, cond, List, [], ◌∷◌, Option, Some, None, ◌⊎◌, inl, inr, refl, sym, ap, subst, arith}
use Rattle.std.specs.Prelude.{is_some, max}
use Rattle.std.specs.Option.{option_map, option_map_or}
use Rattle.std.proofs.lemmas.Bool.{cases_eq}
use Rattle.cache_core.specs.declared.config.CacheConfig.{CacheConfig}
use Rattle.cache_core.specs.declared.answers.Victim.{Victim}
use Rattle.cache_core.specs.Replay.{Line, Call, Access, Fill, Settle, block_of, ending_at, lines_of, touch_of, line_at, fill_end_of}
use Rattle.cache_core.specs.Laws.{FillEnds}
use Rattle.cache_core.proofs.LawProofs.{fill_ends_kept}
use Rattle.mem_hier.specs.Replay.{Timing, hit_latency, Served, hit, missed, last_access, written_back}
use Rattle.mem_hier.specs.Sound.{FillsBy}

abbrev end_or : Option Line → ℕ
end_or o = option_map_or (λ l. l.fill_end) o 0

-- no fill end comes later by an access
pub fills_access : (shape : CacheConfig) (calls : List Call) (addr : ℕ) (write : Bool) (last : ℕ) → 1 ≤ shape.ways → FillsBy shape calls last → FillsBy shape (Access addr write ∷ calls) last
fills_access shape calls addr write last some by b = by_case (line_at shape calls b) (line_at shape (Access addr write ∷ calls) b) refl refl
  where
    ends : FillEnds shape calls
    ends = fill_ends_kept shape calls some

    by_case : (old new : Option Line) → line_at shape calls b ≡ old → line_at shape (Access addr write ∷ calls) b ≡ new → fill_end_of shape (Access addr write ∷ calls) b ≤ last
    by_case old None e e' = let q : fill_end_of shape (Access addr write ∷ calls) b ≡ 0 = ap end_or e' in omega arith
    by_case None (Some l) e e' = let q : fill_end_of shape (Access addr write ∷ calls) b ≡ 0 = ends.enters addr write b e in omega arith
    by_case (Some k) (Some l) e e' =
        let q : fill_end_of shape (Access addr write ∷ calls) b ≡ fill_end_of shape calls b = ends.stays addr write b (ap is_some e) (ap is_some e') in
        let p = by b in
        omega (arith, q, p)

ending_le : (end last : ℕ) (o : Option Line) → end ≤ last → end_or (option_map (ending_at end) o) ≤ last
ending_le end last None le = omega arith
ending_le end last (Some l) le = le

pub fills_fill : (shape : CacheConfig) (calls : List Call) (addr end last : ℕ) → 1 ≤ shape.ways → end ≤ last → FillsBy shape calls last → FillsBy shape (Fill addr end ∷ calls) last
fills_fill shape calls addr end last some le by b = by_case (cases_eq b (block_of shape addr))
  where
    ends : FillEnds shape calls
    ends = fill_ends_kept shape calls some

    by_case : (b ≡ block_of shape addr) ⊎ (b ≢ block_of shape addr) → fill_end_of shape (Fill addr end ∷ calls) b ≤ last
    by_case (inl q) =
        subst (λ x. fill_end_of shape (Fill addr end ∷ calls) x ≤ last) (sym q)
        (subst (λ o. end_or o ≤ last) (sym (ends.fill addr end)) (ending_le end last (line_at shape calls (block_of shape addr)) le))
    by_case (inr ne) = subst (λ o. end_or o ≤ last) (sym (ends.others addr end b ne)) (by b)

pub fills_settle : (shape : CacheConfig) (calls : List Call) (last : ℕ) → 1 ≤ shape.ways → FillsBy shape (Settle ∷ calls) last
fills_settle shape calls last some b =
    let ends = fill_ends_kept shape calls some in
    subst (λ o. end_or o ≤ last) (sym (ends.settle b)) (ending_le 0 last (line_at shape calls b) (omega arith))

pub fills_none : (shape : CacheConfig) (last : ℕ) → FillsBy shape [] last
unfolding line_at lines_of
fills_none shape last b = omega arith

pub fills_later : (shape : CacheConfig) (calls : List Call) (last last' : ℕ) → last ≤ last' → FillsBy shape calls last → FillsBy shape calls last'
fills_later shape calls last last' le by b = let p = by b in omega (arith, p)

-- a hit takes from the lookup latency on to the greatest
pub hit_bounds : (t : Timing) (end cycle : ℕ) → t.lookup ≤ t.greatest → end ≤ cycle + t.greatest → (t.lookup ≤ hit_latency t end cycle) × (hit_latency t end cycle ≤ t.greatest)
hit_bounds t end cycle le by = by_case t.wait
  where
    by_case : (w : Bool) → (t.lookup ≤ cond w (max t.lookup (end - cycle)) t.lookup) × (cond w (max t.lookup (end - cycle)) t.lookup ≤ t.greatest)
    by_case true = (omega arith, omega arith)
    by_case false = (omega arith, le)

-- what a level with nothing but memory behind it answers, by whether the block is there
pub last_hit : (t : Timing) (shape : CacheConfig) (calls : List Call) (addr : ℕ) (write : Bool) (cycle : ℕ) → (touch_of shape calls addr write).hit ≡ true → last_access t shape calls addr write cycle ≡ hit t shape calls addr write cycle
unfolding last_access
last_hit t shape calls addr write cycle e = ap (λ b. cond b (hit t shape calls addr write cycle) (missed t.greatest calls addr write cycle)) e

pub last_missed : (t : Timing) (shape : CacheConfig) (calls : List Call) (addr : ℕ) (write : Bool) (cycle : ℕ) → (touch_of shape calls addr write).hit ≡ false → last_access t shape calls addr write cycle ≡ missed t.greatest calls addr write cycle
unfolding last_access
last_missed t shape calls addr write cycle e = ap (λ b. cond b (hit t shape calls addr write cycle) (missed t.greatest calls addr write cycle)) e

-- what holds of a hit and of a miss holds of the access
pub last_cases : (P : Served → Type 0) (t : Timing) (shape : CacheConfig) (calls : List Call) (addr : ℕ) (write : Bool) (cycle : ℕ)
    → P (hit t shape calls addr write cycle) → P (missed t.greatest calls addr write cycle) → P (last_access t shape calls addr write cycle)
last_cases P t shape calls addr write cycle on_hit on_miss = by_case (touch_of shape calls addr write).hit refl
  where
    by_case : (b : Bool) → (touch_of shape calls addr write).hit ≡ b → P (last_access t shape calls addr write cycle)
    by_case true e = subst P (sym (last_hit t shape calls addr write cycle e)) on_hit
    by_case false e = subst P (sym (last_missed t shape calls addr write cycle e)) on_miss

pub last_fills : (t : Timing) (shape : CacheConfig) (calls : List Call) (addr : ℕ) (write : Bool) (cycle : ℕ) → 1 ≤ shape.ways
    → FillsBy shape calls (cycle + t.greatest) → FillsBy shape (last_access t shape calls addr write cycle).calls (cycle + t.greatest)
last_fills t shape calls addr write cycle some by =
    let accessed = fills_access shape calls addr write (cycle + t.greatest) some by in
    last_cases (λ p. FillsBy shape p.calls (cycle + t.greatest)) t shape calls addr write cycle accessed
    (fills_fill shape (Access addr write ∷ calls) addr (cycle + t.greatest) (cycle + t.greatest) some (omega arith) accessed)

pub record IsWithin (t : Timing) (n : ℕ) : Type 0 where
  pub least : t.lookup ≤ n
  pub most : n ≤ t.greatest

pub last_within : (t : Timing) (shape : CacheConfig) (calls : List Call) (addr : ℕ) (write : Bool) (cycle : ℕ) → t.lookup ≤ t.greatest
    → FillsBy shape calls (cycle + t.greatest) → IsWithin t (last_access t shape calls addr write cycle).latency
last_within t shape calls addr write cycle le by =
    let bounds = hit_bounds t (fill_end_of shape calls (block_of shape addr)) cycle le (by (block_of shape addr)) in
    last_cases (λ p. IsWithin t p.latency) t shape calls addr write cycle
    (record { least = bounds.0; most = bounds.1 }) (record { least = le; most = omega arith })

pub written_fills : (t : Timing) (shape : CacheConfig) (calls : List Call) (o : Option Victim) (cycle : ℕ) → 1 ≤ shape.ways
    → FillsBy shape calls (cycle + t.greatest) → FillsBy shape (written_back t shape calls o cycle) (cycle + t.greatest)
unfolding written_back
written_fills t shape calls None cycle some by = by
written_fills t shape calls (Some v) cycle some by = by_case v.dirty
  where
    by_case : (dirty : Bool) → FillsBy shape (cond dirty (last_access t shape calls v.addr true cycle).calls calls) (cycle + t.greatest)
    by_case true = last_fills t shape calls v.addr true cycle some by
    by_case false = by
