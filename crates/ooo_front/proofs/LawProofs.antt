-- The laws.
use Rattle.std.proofs.Common.{◌≡◌, ℕ, zero, suc, ◌+◌, ◌-◌, ◌<◌, ◌≤◌, Some, None, cond, Bool, true, false, List, [], ◌∷◌, ◌++◌, All, length, drop, refl, sym, ap, subst, ◌∙◌, arith, length-append, append_assoc}
use Rattle.std.specs.Prelude.{max, map, filter_map, is_some, nat_le, nat_lt, ◌&&◌}
use Rattle.std.proofs.lemmas.List.{map-append}
use Rattle.std.proofs.lemmas.List.Elements.{All-nil, All-push, All-head, All-tail, filter_map-append}
use Rattle.std.proofs.lemmas.Bool.{leb-true, le-leb, lt-ltb, ltb-true}
use Rattle.std.proofs.lemmas.Bool.Decides.{nat_tests}
use Rattle.ecoff_load.specs.declared.image.Text.{Text}
use Rattle.ecoff_load.specs.Fetch.{fetch}
use Rattle.mem_hier.specs.declared.config.HierConfig.{HierConfig}
use Rattle.mem_hier.specs.Limits.{IsAllowed}
use Rattle.mem_hier.specs.Replay.{Reference, Fetch, latency_of, fetch_hit_of, greatest_fetch_of}
use Rattle.mem_hier.specs.Stands.{CyclesRise, last_cycle_in}
use Rattle.mem_hier.proofs.LawProofs.{bounds}
use Rattle.bpred_unit.specs.declared.config.PredConfig.{PredConfig}
use Rattle.ooo_front.specs.declared.row.FetchRow.{FetchRow}
use Rattle.ooo_front.specs.Fetching.{FrontEnd, Stage, goes_on, earliest_after, may_fetch, with_row, with_reference, next_row, fetch_one, fetch_up_to, fetch_cycle}
use Rattle.ooo_front.specs.Stands.{oldest}
use Rattle.ooo_front.specs.Laws.{reference_of, lookup_of, Adds, AddsRows, cycles, redirect, IsIdle, Begins, GoesOnThere, IsQueuedSo}
use Rattle.ooo_front.proofs.Paths.{last_of}
use Rattle.ooo_front.proofs.Turns.{turn_over, turn_taken, turns_done}

-- with another cycle that may come next
abbrev at : ℕ → Stage → Stage
at n s = record s { front = record s.front { cycle = n } }

and_left : (a b : Bool) → (a && b) ≡ true → a ≡ true
and_left true b e = refl
and_left false b e = e

and_right : (a b : Bool) → (a && b) ≡ true → b ≡ true
and_right true b e = e
and_right false b e = absurd cc

module _ (c : HierConfig) (p : PredConfig) (text : Text) (cycle : ℕ) where
  room_for : (f : FrontEnd) → may_fetch cycle f ≡ true → length f.rows < f.size
  room_for f may = ltb-true (length f.rows) f.size (and_right (nat_le f.earliest cycle) (nat_lt (length f.rows) f.size) may)

  adds_none : (n : ℕ) (s : Stage) → (0 < n → may_fetch cycle s.front ≡ false) → Adds text cycle n s s []
  adds_none n s over =
      record {
        rows = refl;
        references = refl;
        events = refl;
        fetched = All-nil (λ (r : FetchRow). r.fetched ≡ cycle);
        most = omega arith;
        room = λ le. le;
        on = All-nil (λ r. goes_on r ≡ true);
        whole = over;
      }

  next_fetched : (s : Stage) → (next_row c p text cycle s).fetched ≡ cycle
  unfolding next_row
  next_fetched s = refl

  next_pc : (s : Stage) → (next_row c p text cycle s).pc ≡ s.front.pc
  unfolding next_row
  next_pc s = refl

  next_number : (s : Stage) → (next_row c p text cycle s).row ≡ s.front.row
  unfolding next_row
  next_number s = refl

  next_reference : (s : Stage) → with_reference text cycle s.front.pc s.references ≡ filter_map (reference_of text) (next_row c p text cycle s ∷ []) ++ s.references
  unfolding next_row
  next_reference s = by_case (is_some (fetch text s.front.pc))
    where
      by_case : (b : Bool) → cond b (Fetch s.front.pc cycle ∷ s.references) s.references ≡ filter_map (λ (r : FetchRow). cond b (Some (Fetch r.pc r.fetched)) None) (next_row c p text cycle s ∷ []) ++ s.references
      by_case true = refl
      by_case false = refl

  next_lookup : (s : Stage) → (fetch_one c p text cycle s).events ≡ lookup_of (next_row c p text cycle s) ∷ s.events
  unfolding next_row
  next_lookup s = refl

  -- fetching goes on behind the row, where another may be fetched in the same cycle
  row_goes_on : (s : Stage) → may_fetch cycle (with_row (next_row c p text cycle s) s.front) ≡ true → goes_on (next_row c p text cycle s) ≡ true
  row_goes_on s may = by_test (goes_on (next_row c p text cycle s)) refl
    where
      r : FetchRow
      r = next_row c p text cycle s

      early : earliest_after r ≤ cycle
      early = leb-true (earliest_after r) cycle (and_left _ _ may)

      by_test : (b : Bool) → goes_on r ≡ b → b ≡ true
      by_test true e = refl
      by_test false e =
          let late : earliest_after r ≡ max (r.fetched + 1) r.queued = ap (λ b. cond b r.fetched (max (r.fetched + 1) r.queued)) e in
          absurd (omega (arith, late, early, next_fetched s))

  -- what comes behind a row
  behind : (s : Stage) (fresh : List FetchRow) → (may_fetch cycle (fetch_one c p text cycle s).front ≡ false → fresh ≡ []) → All (λ r. goes_on r ≡ true) (drop 1 fresh)
      → All (λ r. goes_on r ≡ true) (drop 1 (fresh ++ next_row c p text cycle s ∷ []))
  behind s [] none on = All-nil (λ r. goes_on r ≡ true)
  behind s (x ∷ fresh) none on = All-push (λ r. goes_on r ≡ true) fresh (next_row c p text cycle s) on (row_goes_on s (by_test (may_fetch cycle (fetch_one c p text cycle s).front) refl))
    where
      by_test : (b : Bool) → may_fetch cycle (fetch_one c p text cycle s).front ≡ b → b ≡ true
      by_test true e = refl
      by_test false e = absurd (let no : x ∷ fresh ≡ [] = none e in cc)

  Added : ℕ → Stage → Stage → Type 0
  Added n s s' = (fresh : List FetchRow) × Adds text cycle n s s' fresh × (may_fetch cycle s.front ≡ false → fresh ≡ [])

  added_first : (n : ℕ) (s s' : Stage) → may_fetch cycle s.front ≡ true → Added n (fetch_one c p text cycle s) s' → Added (suc n) s s'
  unfolding Added
  added_first n s s' may a =
      let r = next_row c p text cycle s in
      let fresh = a.0 in
      let h : Adds text cycle n (fetch_one c p text cycle s) s' fresh = a.1 in
      let long : length (fresh ++ r ∷ []) ≡ length fresh + 1 = length-append fresh (r ∷ []) in (
        fresh ++ r ∷ [],
        record {
          rows = h.rows ∙ sym (append_assoc fresh (r ∷ []) s.front.rows);
          references =
              h.references
              ∙ (ap (λ l. filter_map (reference_of text) fresh ++ l) (next_reference s)
              ∙ (sym (append_assoc (filter_map (reference_of text) fresh) (filter_map (reference_of text) (r ∷ [])) s.references)
              ∙ ap (λ l. l ++ s.references) (sym (filter_map-append (reference_of text) fresh (r ∷ [])))));
          events =
              h.events
              ∙ (ap (λ l. map lookup_of fresh ++ l) (next_lookup s)
              ∙ (sym (append_assoc (map lookup_of fresh) (lookup_of r ∷ []) s.events)
              ∙ ap (λ l. l ++ s.events) (sym (map-append lookup_of fresh (r ∷ [])))));
          fetched = All-push (λ (x : FetchRow). x.fetched ≡ cycle) fresh r h.fetched (next_fetched s);
          most = omega (arith, h.most, long);
          room = λ le. h.room (room_for s.front may);
          on = behind s fresh a.2 h.on;
          whole = λ lt. h.whole (omega (arith, long, lt));
        },
        λ no. absurd (let both : true ≡ false = sym may ∙ no in cc),
      )

  added_turns : (n : ℕ) (s : Stage) → Added n s (fetch_up_to c p text cycle n s)
  unfolding Added
  added_turns zero s =
      subst (λ (s' : Stage). (fresh : List FetchRow) × Adds text cycle 0 s s' fresh × (may_fetch cycle s.front ≡ false → fresh ≡ [])) (sym (turns_done c p text cycle s))
      ([], adds_none 0 s (λ lt. absurd (omega arith)), λ _. refl)
  added_turns (suc n) s = by_test (may_fetch cycle s.front) refl (added_turns n (fetch_one c p text cycle s))
    where
      by_test : (b : Bool) → may_fetch cycle s.front ≡ b → Added n (fetch_one c p text cycle s) (fetch_up_to c p text cycle n (fetch_one c p text cycle s)) → Added (suc n) s (fetch_up_to c p text cycle (suc n) s)
      by_test true e rest = subst (Added (suc n) s) (sym (turn_taken c p text cycle n s e)) (added_first n s (fetch_up_to c p text cycle n (fetch_one c p text cycle s)) e rest)
      by_test false e rest = subst (Added (suc n) s) (sym (turn_over c p text cycle (suc n) s e)) ([], adds_none (suc n) s (λ _. e), λ _. refl)

  pub adds_rows : (s : Stage) → AddsRows text cycle s (fetch_cycle c p text cycle s)
  unfolding Added
  adds_rows s =
      let a = added_turns s.front.width (at (cycle + 1) s) in
      let h : Adds text cycle s.front.width (at (cycle + 1) s) (fetch_cycle c p text cycle s) a.0 = a.1 in (
        a.0,
        record {
          rows = h.rows;
          references = h.references;
          events = h.events;
          fetched = h.fetched;
          most = h.most;
          room = h.room;
          on = h.on;
          whole = h.whole;
        },
      )

  -- ---- redirections

  -- a cycle before the earliest one
  too_early : (s : Stage) → cycle < s.front.earliest → fetch_cycle c p text cycle s ≡ at (cycle + 1) s
  too_early s lt = turn_over c p text cycle s.front.width (at (cycle + 1) s) (early (at (cycle + 1) s) lt)
    where
      early : (s : Stage) → cycle < s.front.earliest → may_fetch cycle s.front ≡ false
      early s lt = ap (λ b. b && nat_lt (length s.front.rows) s.front.size) (not_le s.front.earliest lt)
        where
          not_le : (n : ℕ) → cycle < n → nat_le n cycle ≡ false
          not_le n lt = grind (arith, nat_tests)

  -- the first row
  first_from : (n : ℕ) (s : Stage) → 0 < n → may_fetch cycle s.front ≡ true → s.front.rows ≡ [] → oldest (fetch_up_to c p text cycle n s).front.rows ≡ Some (next_row c p text cycle s)
  unfolding Added
  first_from zero s lt may empty = absurd (omega arith)
  first_from (suc n) s lt may empty =
      let a = added_turns n (fetch_one c p text cycle s) in
      let rows : (fetch_up_to c p text cycle n (fetch_one c p text cycle s)).front.rows ≡ a.0 ++ (next_row c p text cycle s ∷ []) = a.1.rows ∙ ap (λ l. a.0 ++ (next_row c p text cycle s ∷ l)) empty in
      ap (λ (x : Stage). oldest x.front.rows) (turn_taken c p text cycle n s may) ∙ (ap oldest rows ∙ last_of a.0 (next_row c p text cycle s))

-- only the cycle that may come next has changed
waits : (c : HierConfig) (p : PredConfig) (text : Text) (before : List ℕ) (s : Stage) → All (λ n. n < s.front.earliest) before → (k : ℕ) × (cycles c p text before s ≡ at k s)
waits c p text [] s early = (s.front.cycle, refl)
waits c p text (n ∷ older) s early =
    let rest = waits c p text older s (All-tail (λ n. n < s.front.earliest) n older early) in
    (n + 1, ap (fetch_cycle c p text n) rest.1 ∙ too_early c p text n (at rest.0 s) (All-head (λ n. n < s.front.earliest) n older early))

pub goes_on_there : (c : HierConfig) (p : PredConfig) (text : Text) (pc earliest : ℕ) (before : List ℕ) (s : Stage) → All (λ n. n < earliest) before
    → GoesOnThere c p text pc earliest before s
goes_on_there c p text pc earliest before s early =
    let w = waits c p text before (redirect pc earliest s) early in
    record {
      idle = subst (IsIdle (redirect pc earliest s)) (sym w.1) (record { rows = refl; references = refl; events = refl });
      begins = λ cycle le wide room.
          subst (λ (x : Stage). Begins (fetch_cycle c p text cycle x) s.front.row pc cycle) (sym w.1)
          (record {
            first = next_row c p text cycle (at (cycle + 1) (redirect pc earliest s));
            waits = first_from c p text cycle s.front.width (at (cycle + 1) (redirect pc earliest s)) wide (may cycle le room) refl;
            row = next_number c p text cycle (at (cycle + 1) (redirect pc earliest s));
            pc = next_pc c p text cycle (at (cycle + 1) (redirect pc earliest s));
            fetched = next_fetched c p text cycle (at (cycle + 1) (redirect pc earliest s));
          });
    }
  where
    may : (cycle : ℕ) → earliest ≤ cycle → 0 < s.front.size → (nat_le earliest cycle && nat_lt 0 s.front.size) ≡ true
    may cycle le room = ap (λ b. b && nat_lt 0 s.front.size) (le-leb earliest cycle le) ∙ lt-ltb 0 s.front.size room

-- ---- queued rows

pub queued_so : (c : HierConfig) (text : Text) (h : List Reference) (pc cycle : ℕ) → IsAllowed c → CyclesRise h → last_cycle_in h ≤ cycle
    → IsQueuedSo c text h pc cycle
queued_so c text h pc cycle allowed rise order =
    record { there = there (is_some (fetch text pc)); most = most (is_some (fetch text pc)) }
  where
    there : (b : Bool) → b ≡ true → cond b (cycle + (latency_of c h (Fetch pc cycle) - fetch_hit_of c)) cycle + fetch_hit_of c ≡ cycle + latency_of c h (Fetch pc cycle)
    there true e = omega (arith, (bounds c h pc cycle allowed rise order).hit)
    there false e = absurd cc

    most : (b : Bool) → cond b (cycle + (latency_of c h (Fetch pc cycle) - fetch_hit_of c)) cycle + fetch_hit_of c ≤ cycle + greatest_fetch_of c
    most true = omega (arith, (bounds c h pc cycle allowed rise order).hit, (bounds c h pc cycle allowed rise order).fetch.most)
    most false = omega (arith, (bounds c h pc cycle allowed rise order).hit, (bounds c h pc cycle allowed rise order).fetch.most)
