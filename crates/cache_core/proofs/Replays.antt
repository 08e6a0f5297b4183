-- A cache stands for one call more.
use Rattle.std.proofs.Common.{◌≡◌, ◌≢◌, ℕ, ◌+◌, ◌-◌, ◌<◌, Bool, true, false, cond, List, [], ◌∷◌, take, map, Option, Some, None, refl, sym, ◌∙◌, ap, subst, arith}
use Rattle.std.specs.Prelude.{◌==◌, if◌then◌else◌, not, IsTrue, IsSome, is_some, ◌↔◌}
use Rattle.std.specs.Int.{is_power_of_two}
use Rattle.std.specs.Option.{option_map_or}
use Rattle.std.proofs.lemmas.Bool.{eqb-true, eqb-false}
use Rattle.std.proofs.lemmas.List.FromFn.{get_or-map-range_with_len}
use Rattle.cache_core.specs.declared.config.CacheConfig.{CacheConfig}
use Rattle.cache_core.specs.declared.answers.Touch.{Touch}
use Rattle.cache_core.specs.declared.answers.Counts.{Counts}
use Rattle.cache_core.specs.declared.ways.Way.{Way}
use Rattle.cache_core.specs.Limits.{IsWithinLimits}
use Rattle.cache_core.specs.Replay.{Line, Call, Access, Fill, Settle, block_of, set_of, find_line, removed, changed, with_dirty, ending_at, touched, touched_at, lines_of, touch_of, line_at, fill_end_of, number_of, replaces, writes_back}
use Rattle.cache_core.specs.Stands.{Held, StandsFor, set_at, Holds}
use Rattle.cache_core.specs.Ways.{newest_first, from_latest, ways_of}
use Rattle.cache_core.specs.Sound.{Fields, lines_in, shown, IsSound}
use Rattle.cache_core.proofs.Powers.{positive}
use Rattle.cache_core.proofs.Lines.{find_line-head, find_line-changed, find_line-is}

pub set_below : (c : CacheConfig) → IsWithinLimits c → (b : ℕ) → set_of c b < c.sets
set_below c limits b = let some : 0 < c.sets = positive c.sets limits.sets in omega arith

lines_shown : (v : Fields) (k : ℕ) → k < v.config.sets → set_at (shown v).sets k ≡ lines_in v k
lines_shown v k below = get_or-map-range_with_len (lines_in v) 0 v.config.sets k k [] below (omega arith)

-- what follows of the cache's own shape follows of any shape that it stands for
own_shape : (v : Held) (h : List Call) (P : CacheConfig → Type 0) → (StandsFor v v.config h → P v.config) → (c : CacheConfig) → StandsFor v c h → P c
own_shape v h P of_own c st = subst P st.config (of_own (subst (λ c'. StandsFor v c' h) (sym st.config) st))

-- the lines that a call of the block's set meets
met_lines : (v : Fields) (h : List Call) (b : ℕ) → IsSound v → StandsFor (shown v) v.config h → lines_in v (set_of v.config b) ≡ lines_of v.config (set_of v.config b) h
met_lines v h b sound st =
    let below = set_below v.config sound.limits b in
    sym (lines_shown v (set_of v.config b) below) ∙ st.lines (set_of v.config b) below

-- one call more takes set k of the cache v to these lines, and leaves those of every other one
pub record SetBecomes (v w : Fields) (k : ℕ) (lines : List Line) : Type 0 where
  pub config : w.config ≡ v.config
  pub own : lines_in w k ≡ lines
  pub others : (j : ℕ) → j < v.config.sets → j ≢ k → lines_in w j ≡ lines_in v j

stepped_lines : (v w : Fields) (h : List Call) (k j : ℕ) (next : List Line → List Line) → StandsFor (shown v) v.config h → k < v.config.sets → j < v.config.sets
    → SetBecomes v w k (next (lines_in v k)) → set_at (shown w).sets j ≡ (if k == j then next (lines_of v.config j h) else lines_of v.config j h)
stepped_lines v w h k j next st inside below new = lines_shown w j (subst (λ (c : CacheConfig). j < c.sets) (sym new.config) below) ∙ by_case (k == j) refl
  where
    by_case : (t : Bool) → (k == j) ≡ t → lines_in w j ≡ cond t (next (lines_of v.config j h)) (lines_of v.config j h)
    by_case true e =
        subst (λ i. lines_in w i ≡ next (lines_of v.config i h)) (eqb-true k j e)
        (new.own ∙ ap next (sym (lines_shown v k inside) ∙ st.lines k inside))
    by_case false e = new.others j below (λ q. eqb-false k j e (sym q)) ∙ (sym (lines_shown v j below) ∙ st.lines j below)

pub counts_from : (a b c d e a' b' c' d' e' : ℕ) → a ≡ a' → b ≡ b' → c ≡ c' → d ≡ d' → e ≡ e'
    → ◌≡◌ {A = Counts} (record { accesses = a; hits = b; misses = c; replacements = d; writebacks = e }) (record { accesses = a'; hits = b'; misses = c'; replacements = d'; writebacks = e' })
counts_from a b c d e a' b' c' d' e' p q r s t = cc

counted : (test : Touch → Bool) (n m k : ℕ) (t u : Touch) → n ≡ m + cond (test t) 1 0 → m ≡ k → t ≡ u → n ≡ k + cond (test u) 1 0
counted test n m k t u e q r = e ∙ (ap (λ x. x + cond (test t) 1 0) q ∙ ap (λ x. k + cond (test x) 1 0) r)

pub touch_stands : (v : Fields) (addr : ℕ) (write : Bool) (touch : Touch) → IsSound v
    → touch ≡ (touched v.config (lines_in v (set_of v.config (block_of v.config addr))) (block_of v.config addr) write).touch
    → (c : CacheConfig) (h : List Call) → StandsFor (shown v) c h → touch ≡ touch_of c h addr write
unfolding touch_of
touch_stands v addr write touch sound is_touch c h =
    own_shape (shown v) h (λ c'. touch ≡ touch_of c' h addr write)
    (λ st. is_touch ∙ ap (λ ls. (touched v.config ls (block_of v.config addr) write).touch) (met_lines v h (block_of v.config addr) sound st)) c

pub held_stands : (v : Held) (c : CacheConfig) (h : List Call) (addr : ℕ) → IsWithinLimits c → StandsFor v c h → Holds v addr ↔ IsSome (line_at c h (block_of c addr))
unfolding line_at
held_stands v c h addr limits st = own_shape v h (λ c'. Holds v addr ↔ IsSome (line_at c' h (block_of c' addr))) same c st
  where
    same : StandsFor v v.config h → Holds v addr ↔ IsSome (line_at v.config h (block_of v.config addr))
    same own =
        let b = block_of v.config addr in
        let some : 0 < v.config.sets = positive v.config.sets (subst (λ (c' : CacheConfig). IsTrue (is_power_of_two c'.sets)) (sym st.config) limits.sets) in
        let e = ap (λ ls. is_some (find_line b ls)) (own.lines (set_of v.config b) (omega arith)) in
        (λ held. sym e ∙ held, λ held. e ∙ held)

pub stands_access : (v w : Fields) (addr : ℕ) (write : Bool) (touch : Touch) → IsSound v
    → touch ≡ (touched v.config (lines_in v (set_of v.config (block_of v.config addr))) (block_of v.config addr) write).touch
    → SetBecomes v w (set_of v.config (block_of v.config addr)) (touched v.config (lines_in v (set_of v.config (block_of v.config addr))) (block_of v.config addr) write).lines
    → w.counts.accesses ≡ v.counts.accesses + 1
    → w.counts.hits ≡ v.counts.hits + (if touch.hit then 1 else 0)
    → w.counts.misses ≡ v.counts.misses + (if not touch.hit then 1 else 0)
    → w.counts.replacements ≡ v.counts.replacements + (if replaces touch then 1 else 0)
    → w.counts.writebacks ≡ v.counts.writebacks + (if writes_back touch then 1 else 0)
    → (c : CacheConfig) (h : List Call) → StandsFor (shown v) c h → StandsFor (shown w) c (Access addr write ∷ h)
unfolding lines_of number_of
stands_access v w addr write touch sound is_touch new accesses hits misses replacements writebacks c h =
    own_shape (shown v) h (λ c'. StandsFor (shown w) c' (Access addr write ∷ h)) step c
  where
    step : StandsFor (shown v) v.config h → StandsFor (shown w) v.config (Access addr write ∷ h)
    step st =
        let b = block_of v.config addr in
        let met : touch ≡ touch_of v.config h addr write = touch_stands v addr write touch sound is_touch v.config h st in
        record {
          config = new.config;
          lines = λ j below. stepped_lines v w h (set_of v.config b) j (λ ls. (touched v.config ls b write).lines) st (set_below v.config sound.limits b) below new;
          counts =
              counts_from _ _ _ _ _ _ _ _ _ _
              (accesses ∙ ap (λ (m : Counts). m.accesses + 1) st.counts)
              (counted (λ t. t.hit) _ _ _ _ _ hits (ap (λ (m : Counts). m.hits) st.counts) met)
              (counted (λ t. not t.hit) _ _ _ _ _ misses (ap (λ (m : Counts). m.misses) st.counts) met)
              (counted replaces _ _ _ _ _ replacements (ap (λ (m : Counts). m.replacements) st.counts) met)
              (counted writes_back _ _ _ _ _ writebacks (ap (λ (m : Counts). m.writebacks) st.counts) met);
        }

-- the block of an access is held then
pub touched-held : (c : CacheConfig) (lines : List Line) (b : ℕ) (write : Bool) → IsSome (find_line b (touched c lines b write).lines)
unfolding touched
touched-held c lines b write = by_case (find_line b lines) refl
  where
    by_case : (o : Option Line) → find_line b lines ≡ o → IsSome (find_line b (touched_at c lines b write o).lines)
    by_case (Some l) e = on_hit c.fifo
      where
        on_hit : (fifo : Bool) → IsSome (find_line b (cond fifo (changed b (with_dirty write) lines) (with_dirty write l ∷ removed b lines)))
        on_hit true = rw (find_line-changed b (with_dirty write) (λ l. refl) lines, e) refl
        on_hit false = rw (find_line-head b (with_dirty write l) (removed b lines) (find_line-is b lines l e)) refl
    by_case None e = let entered : Line = record { block = b; dirty = write; fill_end = 0 } in rw (find_line-head b entered (take (c.ways - 1) lines) refl) refl

pub holds_now : (v : Fields) (n : Counts) (ways : List Way) (addr : ℕ) (write : Bool) (lines : List Line) → IsSound v
    → lines_in (record { config = v.config; ways = ways; counts = n }) (set_of v.config (block_of v.config addr)) ≡ (touched v.config lines (block_of v.config addr) write).lines
    → IsSome (find_line (block_of v.config addr) (set_at (shown (record { config = v.config; ways = ways; counts = n })).sets (set_of v.config (block_of v.config addr))))
holds_now v n ways addr write lines sound is_lines =
    let b = block_of v.config addr in
    let w : Fields = record { config = v.config; ways = ways; counts = n } in
    rw (lines_shown w (set_of v.config b) (set_below v.config sound.limits b), is_lines) (touched-held v.config lines b write)

pub stands_fill : (v w : Fields) (addr end : ℕ) → IsSound v
    → SetBecomes v w (set_of v.config (block_of v.config addr)) (changed (block_of v.config addr) (ending_at end) (lines_in v (set_of v.config (block_of v.config addr))))
    → w.counts ≡ v.counts
    → (c : CacheConfig) (h : List Call) → StandsFor (shown v) c h → StandsFor (shown w) c (Fill addr end ∷ h)
unfolding lines_of number_of
stands_fill v w addr end sound new same c h =
    own_shape (shown v) h (λ c'. StandsFor (shown w) c' (Fill addr end ∷ h))
    (λ st. record {
      config = new.config;
      lines = λ j below. stepped_lines v w h (set_of v.config (block_of v.config addr)) j (changed (block_of v.config addr) (ending_at end)) st (set_below v.config sound.limits (block_of v.config addr)) below new;
      counts = same ∙ st.counts;
    }) c

pub fill_end_stands : (v : Fields) (addr end : ℕ) → IsSound v
    → end ≡ option_map_or (λ l. l.fill_end) (find_line (block_of v.config addr) (lines_in v (set_of v.config (block_of v.config addr)))) 0
    → (c : CacheConfig) (h : List Call) → StandsFor (shown v) c h → end ≡ fill_end_of c h (block_of c addr)
unfolding line_at
fill_end_stands v addr end sound is_end c h =
    own_shape (shown v) h (λ c'. end ≡ fill_end_of c' h (block_of c' addr))
    (λ st. is_end ∙ ap (λ ls. option_map_or (λ (l : Line). l.fill_end) (find_line (block_of v.config addr) ls) 0) (met_lines v h (block_of v.config addr) sound st)) c

pub stands_settle : (v w : Fields) → w.config ≡ v.config → ((j : ℕ) → j < v.config.sets → lines_in w j ≡ map (ending_at 0) (lines_in v j)) → w.counts ≡ v.counts
    → (c : CacheConfig) (h : List Call) → StandsFor (shown v) c h → StandsFor (shown w) c (Settle ∷ h)
unfolding lines_of number_of
stands_settle v w config is_lines same c h =
    own_shape (shown v) h (λ c'. StandsFor (shown w) c' (Settle ∷ h))
    (λ st. record {
      config = config;
      lines = λ j below. lines_shown w j (subst (λ (c' : CacheConfig). j < c'.sets) (sym config) below) ∙ (is_lines j below ∙ ap (map (ending_at 0)) (sym (lines_shown v j below) ∙ st.lines j below));
      counts = same ∙ st.counts;
    }) c

pub stands_new : (v : Fields) → v.counts ≡ record { accesses = 0; hits = 0; misses = 0; replacements = 0; writebacks = 0 } → StandsFor (shown v) v.config []
unfolding lines_of number_of from_latest
stands_new v is_counts =
    record {
      config = refl;
      lines = λ j below. lines_shown v j below ∙ ap (λ (n : Counts). newest_first n.accesses (ways_of v.config v.ways j)) is_counts;
      counts = is_counts;
    }
