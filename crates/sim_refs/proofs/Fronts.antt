-- What the caches and TLBs in front are asked by the instructions of a run.
use Rattle.std.specs.Prelude.{◌≡◌, ℕ, ◌+◌, Bool, true, false, cond, List, [], ◌∷◌, ◌++◌, length, All, Option, Some, None, if◌then◌else◌}
use Rattle.std.specs.Option.{option_map}
use Rattle.std.proofs.Common.{refl, sym, ap, arith, ◌∙◌}
use Rattle.sim_safe.specs.declared.record.CommitRecord.{CommitRecord}
use Rattle.cache_core.specs.declared.config.CacheConfig.{CacheConfig}
use Rattle.cache_core.specs.declared.answers.Counts.{Counts}
use Rattle.cache_core.specs.Replay.{Call, Access, number_of, counts_of}
use Rattle.mem_hier.specs.declared.config.Level.{Level}
use Rattle.mem_hier.specs.declared.config.Level.TheVariants.{Off, Own, Shared}
use Rattle.mem_hier.specs.declared.config.HierConfig.{HierConfig}
use Rattle.mem_hier.specs.declared.config.Which.TheVariants.{Il1, Dl1, Itlb, Dtlb}
use Rattle.mem_hier.specs.Limits.{is_shared, own}
use Rattle.mem_hier.specs.Replay.{Reference, Fetch, Load, Store, SettleAll}
use Rattle.mem_hier.specs.Laws.{asked_of}
use Rattle.mem_hier.proofs.Asked.{all_counted}
use Rattle.sim_refs.specs.References.{references_of}
use Rattle.sim_refs.specs.Laws.{fetches_in, loads_in, stores_in, loads_of, stores_of, HasAddress, FrontsCount}
use Rattle.sim_refs.proofs.Referring.{refers_once}

-- the accesses among these calls
abbrev accesses : CacheConfig → List Call → ℕ
accesses s calls = number_of (λ t. true) s calls

il1_asked : (c : HierConfig) (s : CacheConfig) (h : List Reference) → is_shared c.il1 ≡ false → accesses s (asked_of c h Il1) ≡ fetches_in h
unfolding asked_of number_of
il1_asked c s [] e = refl
il1_asked c s (Fetch pc cycle ∷ h) e =
    ap (λ b. accesses s (cond b [] (Access pc false ∷ []) ++ asked_of c h Il1)) e ∙ ap (λ n. n + 1) (il1_asked c s h e)
il1_asked c s (Load addr cycle ∷ h) e = il1_asked c s h e
il1_asked c s (Store addr cycle ∷ h) e = il1_asked c s h e
il1_asked c s (SettleAll ∷ h) e = il1_asked c s h e

itlb_asked : (c : HierConfig) (s : CacheConfig) (h : List Reference) → accesses s (asked_of c h Itlb) ≡ fetches_in h
unfolding asked_of number_of
itlb_asked c s [] = refl
itlb_asked c s (Fetch pc cycle ∷ h) = ap (λ n. n + 1) (itlb_asked c s h)
itlb_asked c s (Load addr cycle ∷ h) = itlb_asked c s h
itlb_asked c s (Store addr cycle ∷ h) = itlb_asked c s h
itlb_asked c s (SettleAll ∷ h) = itlb_asked c s h

dtlb_asked : (c : HierConfig) (s : CacheConfig) (h : List Reference) → accesses s (asked_of c h Dtlb) ≡ loads_in h + stores_in h
unfolding asked_of number_of
dtlb_asked c s [] = refl
dtlb_asked c s (Fetch pc cycle ∷ h) = dtlb_asked c s h
dtlb_asked c s (Load addr cycle ∷ h) = ap (λ n. n + 1) (dtlb_asked c s h) ∙ omega arith
dtlb_asked c s (Store addr cycle ∷ h) = ap (λ n. n + 1) (dtlb_asked c s h) ∙ omega arith
dtlb_asked c s (SettleAll ∷ h) = dtlb_asked c s h

dl1_asked : (c : HierConfig) (s : CacheConfig) (h : List Reference) (b : Bool) → is_shared c.il1 ≡ b → accesses s (asked_of c h Dl1) ≡ (if b then fetches_in h else 0) + (loads_in h + stores_in h)
unfolding asked_of number_of
dl1_asked c s [] true e = refl
dl1_asked c s [] false e = refl
dl1_asked c s (Fetch pc cycle ∷ h) true e =
    ap (λ b. accesses s (cond b (Access pc false ∷ []) [] ++ asked_of c h Dl1)) e ∙ ap (λ n. n + 1) (dl1_asked c s h true e) ∙ omega arith
dl1_asked c s (Fetch pc cycle ∷ h) false e =
    ap (λ b. accesses s (cond b (Access pc false ∷ []) [] ++ asked_of c h Dl1)) e ∙ dl1_asked c s h false e
dl1_asked c s (Load addr cycle ∷ h) true e = ap (λ n. n + 1) (dl1_asked c s h true e) ∙ omega arith
dl1_asked c s (Load addr cycle ∷ h) false e = ap (λ n. n + 1) (dl1_asked c s h false e) ∙ omega arith
dl1_asked c s (Store addr cycle ∷ h) true e = ap (λ n. n + 1) (dl1_asked c s h true e) ∙ omega arith
dl1_asked c s (Store addr cycle ∷ h) false e = ap (λ n. n + 1) (dl1_asked c s h false e) ∙ omega arith
dl1_asked c s (SettleAll ∷ h) b e = dl1_asked c s h b e

-- a level with a cache of its own isn't shared
own_alone : (l : Level) (s : CacheConfig) → own l ≡ Some s → is_shared l ≡ false
own_alone Off s e = refl
own_alone (Own shape) s e = refl
own_alone Shared s e = let no : None ≡ Some s = e in cc

-- the accesses that a cache counts, where it is there
counted_so : (o : Option CacheConfig) (calls : List Call) (n : Counts) (k : ℕ)
    → option_map (λ s. counts_of s calls) o ≡ Some n → ((s : CacheConfig) → o ≡ Some s → accesses s calls ≡ k) → n.accesses ≡ k
counted_so None calls n k e f = let no : None ≡ Some n = e in cc
counted_so (Some s) calls n k e f =
    let known : Some (counts_of s calls) ≡ Some n = e in
    let same : n ≡ counts_of s calls = cc in
    ap (λ (m : Counts). m.accesses) same ∙ f s refl

pub fronts_count : (c : HierConfig) (h : List CommitRecord) → All HasAddress h → FrontsCount c h
fronts_count c h has =
    let once = refers_once h has in
    let refs : List Reference = references_of h in
    let reached : loads_in refs + stores_in refs ≡ loads_of h + stores_of h = omega (arith, once.loads, once.stores) in
    record {
      il1 = λ n e. counted_so (own c.il1) (asked_of c refs Il1) n (length h) (sym (all_counted c refs Il1) ∙ e)
          (λ s o. il1_asked c s refs (own_alone c.il1 s o) ∙ once.fetches);
      itlb = λ n e. counted_so c.itlb (asked_of c refs Itlb) n (length h) (sym (all_counted c refs Itlb) ∙ e)
          (λ s o. itlb_asked c s refs ∙ once.fetches);
      dl1 = λ n e. counted_so (own c.dl1) (asked_of c refs Dl1) n ((if is_shared c.il1 then length h else 0) + (loads_of h + stores_of h)) (sym (all_counted c refs Dl1) ∙ e)
          (λ s o. dl1_asked c s refs (is_shared c.il1) refl ∙ ap (λ n. (if is_shared c.il1 then n else 0) + (loads_in refs + stores_in refs)) once.fetches
          ∙ ap (λ n. (if is_shared c.il1 then length h else 0) + n) reached);
      dtlb = λ n e. counted_so c.dtlb (asked_of c refs Dtlb) n (loads_of h + stores_of h) (sym (all_counted c refs Dtlb) ∙ e)
          (λ s o. dtlb_asked c s refs ∙ reached);
    }
