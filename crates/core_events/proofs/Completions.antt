-- A row that writes back or returns in a cycle, and wasn't squashed before, is live behind the commits of the cycle.
use Rattle.std.proofs.Common.{◌≡◌, ℕ, suc, ◌+◌, ◌<◌, ◌≤◌, Bool, true, false, cond, List, [], ◌∷◌, ◌++◌, Option, Some, None, refl, sym, ap, ◌∙◌, arith, length, append-nil}
use Rattle.std.specs.Prelude.{◌&&◌, option_map, is_some, is_none}
use Rattle.std.specs.List.{AllZip, list_any}
use Rattle.std.proofs.lemmas.Bool.{cond_both, and_parts, eqb-true, ltb-true, lt-ltb}
use Rattle.mem_hier.specs.Replay.{Reference}
use Rattle.ruu_core.specs.Window as unit
use Rattle.ooo_table.specs.declared.event.Mark.TheVariants as mark
use Rattle.ooo_table.specs.declared.event.Event.{Event}
use Rattle.ooo_table.specs.Row.{Row, MemoryAccess, is_at, is_before, returned}
use Rattle.ooo_table.specs.Execution.{MemoryUse, NoMemory, LoadFrom, StoreTo, is_load, is_store, unit_latency}
use Rattle.ooo_table.specs.Table.{Setting}
use Rattle.ooo_table.specs.Path.{execution, loads, stores}
use Rattle.ooo_table.specs.Done.{live, written, finished, have_produced, done_before}
use Rattle.ooo_table.specs.Commit.{commits, commit_row}
use Rattle.ooo_table.specs.Recovery.{recovers, squash_row}
use Rattle.ooo_table.specs.Issue.{issues, accesses, access_of, issue_row}
use Rattle.ooo_table.specs.Dispatch.{dispatches}
use Rattle.ooo_table.specs.Cycle.{table, after_commit}
use Rattle.ooo_table.specs.Events.{by_row, event_at}
use Rattle.ooo_table.specs.Later.{Each, Where}
use Rattle.ooo_table.specs.Legal.{Before, CommitAllowed}
use Rattle.ooo_table.specs.CycleLaws.{RowFacts, Comes}
use Rattle.ooo_table.specs.Machine.{Given, setting_of}
use Rattle.ooo_table.proofs.CycleFacts.{facts_one, comes_one}
use Rattle.ooo_table.proofs.Kept.{Kept, kept_table}
use Rattle.ooo_table.proofs.Quiet.{Own, own_commit, each_turn, both_table}
use Rattle.core_parts.specs.Rows.{Placed, pick, Lives}
use Rattle.core_watch.proofs.Stages.{when, written_at, written_when, written_tests}
use Rattle.core_events.specs.Completions.{completed_in, ShowsCompletions}

at_not_below : (x c : ℕ) (m : Option ℕ) → x ≤ c → is_at c m ≡ true → is_before x m ≡ true → ⊥
at_not_below x c None le h k = absurd cc
at_not_below x c (Some t) le h k = let e : t ≡ c = eqb-true t c h in omega (arith, e, ltb-true t x k)

off : (b : Bool) → (b ≡ true → ⊥) → b ≡ false
off true h = absurd (h refl)
off false h = refl

and_off : (b : Bool) → (b && false) ≡ false
and_off true = refl
and_off false = refl

and_on : (b : Bool) → (b && true) ≡ b
and_on true = refl
and_on false = refl

-- ---- only loads have accesses

module _ (set : Setting) where
  abbrev Reads : Row → Type 0
  Reads r = is_some r.access ≡ true → loads set r ≡ true

  is_loaded : (c : ℕ) (start before : List Row) (r : Row) → accesses set c start before r ≡ true → loads set r ≡ true
  is_loaded c start before r e = grind (arith, and_parts)

  reads_commit : (c : ℕ) (before : List Row) (r : Row) → Reads r → Reads (commit_row set c before r)
  reads_commit c before r h = cond_both (commits set c before r) (record r { committed = Some c }) r Reads (λ _. h) (λ _. h)

  reads_kept : (c : ℕ) → Kept set c (λ _. Reads)
  reads_kept c =
      record {
        at_commit = λ older before r zip below h. reads_commit c before r h;
        at_squash = λ older before r zip below h. squashed before r h;
        at_issue = λ base start older before r zip below h. issued base start before r h;
        at_dispatch = λ older before r zip below h. cond_both (dispatches set c before r) (record r { dispatched = Some c }) r Reads (λ _. h) (λ _. h);
        at_fetch = λ older u look queued below k. absurd cc;
        still = λ older before r zip below h. h;
      }
    where
      squashed : (before : List Row) (r : Row) → Reads r → Reads (squash_row set c before r)
      squashed before r h = cond_both (list_any (recovers set c) before && is_none r.squashed) (record r { squashed = Some c }) r Reads (λ _. h) (λ _. h)

      issued : (base : List Reference) (start before : List Row) (r : Row) → Reads r → Reads (issue_row set c base start before r)
      issued base start before r h =
          cond_both (issues set c start before r) (record r { issued = Some c }) _ Reads (λ _. h)
          (λ _. cond_both (accesses set c start before r) (record r { access = Some (access_of set c base before r) }) r Reads (λ e _. is_loaded c start before r e) (λ _. h))

  reads_table : (c : ℕ) → Each (λ _. Reads) (table set c).rows
  reads_table c = kept_table set (λ _ _. Reads) reads_kept (λ c older r h. h) c

  reads_one : (c : ℕ) → Each (λ _. Reads) (after_commit set c).rows
  reads_one c = each_turn Reads Reads (commit_row set c) (reads_commit c) (table set c).rows (reads_table c)

  -- ---- a committed row was done before

  module _ (c x : ℕ) (le : x ≤ c) (older : List Row) (r : Row) (comes : Comes set r) where
    read_late : (m : Option MemoryAccess) → Where m (λ a. a.at ≤ a.back) → Where m (λ a. is_before (suc a.at) (written set r) ≡ true)
        → is_at c (written set r) ≡ true → is_before x (option_map (λ a. a.back) m) ≡ true → ⊥
    read_late None b w h k = absurd cc
    read_late (Some a) b w h k = let lt : a.back < x = ltb-true a.back x k in at_not_below (suc a.at) c (written set r) (omega (arith, lt, b, le)) h w

    finished_late : (l : Bool) → is_at c (written set r) ≡ true → is_before x (cond l (returned r) (written set r)) ≡ true → ⊥
    finished_late true h k = read_late r.access comes.back comes.written h k
    finished_late false h k = at_not_below x c (written set r) le h k

    written_late : (b : Bool) → is_at c (written set r) ≡ true
        → cond b (is_before x (written set r) && have_produced set x older r (execution set r).second) (is_before x (finished set r)) ≡ true → ⊥
    written_late true h k = at_not_below x c (written set r) le h (and_parts (is_before x (written set r)) (have_produced set x older r (execution set r).second) k).0
    written_late false h k = finished_late (loads set r) h k

    no_store : (m : MemoryUse) → is_load m ≡ true → is_store m ≡ false
    no_store NoMemory e = absurd cc
    no_store (LoadFrom addr) e = refl
    no_store (StoreTo addr) e = absurd cc

    returned_late : loads set r ≡ true → is_at c (returned r) ≡ true → done_before set x older r ≡ true → ⊥
    returned_late l h k =
        at_not_below x c (returned r) le h
        (sym (ap (λ b. is_before x (cond b (returned r) (written set r))) l)
        ∙ (sym (ap (λ b. cond b (is_before x (written set r) && have_produced set x older r (execution set r).second) (is_before x (finished set r))) (no_store (execution set r).memory l)) ∙ k))

  -- a row that completes at c hasn't committed
  module _ (c : ℕ) (older : List Row) (r : Row) (facts : RowFacts set c older r) (comes : Comes set r) (reads : Reads r) where
    has_access : (m : Option MemoryAccess) → is_at c (option_map (λ a. a.back) m) ≡ true → is_some m ≡ true
    has_access None h = absurd cc
    has_access (Some a) h = refl

    committed_none : (m : Option ℕ) → Where m (CommitAllowed set older r) → Where m (λ x. x ≤ c) → is_some m ≡ true
        → (is_at c (written set r) ≡ false) × (is_at c (returned r) ≡ false)
    committed_none None w by k = absurd cc
    committed_none (Some x) w by k = (
      off (is_at c (written set r)) (λ h. written_late c x by older r comes (stores set r) h w.done),
      off (is_at c (returned r)) (λ h. returned_late c x by older r comes (reads (has_access r.access h)) h w.done),
    )

    not_issued : (m : Option ℕ) → (is_some m ≡ true → ⊥) → m ≡ None
    not_issued None h = refl
    not_issued (Some x) h = absurd (h refl)

    waits : r.dispatched ≡ None → (is_at c (written set r) ≡ false) × (is_at c (returned r) ≡ false)
    waits e = (ap (λ m. is_at c (option_map (λ i. i + unit_latency (execution set r).unit) m)) unissued, ap (λ m. is_at c (option_map (λ a. a.back) m)) unread)
      where
        none : is_some r.dispatched ≡ true → ⊥
        none h = apart r.dispatched e h
          where
            apart : (m : Option ℕ) → m ≡ None → is_some m ≡ true → ⊥
            apart None e h = cc
            apart (Some x) e h = cc

        unissued : r.issued ≡ None
        unissued = not_issued r.issued (λ h. none (facts.came h))

        unread : r.access ≡ None
        unread = not_read r.access (λ h. none (facts.came (facts.reached h)))
          where
            not_read : (m : Option MemoryAccess) → (is_some m ≡ true → ⊥) → m ≡ None
            not_read None h = refl
            not_read (Some a) h = absurd (h refl)

    -- ---- what it shows

    abbrev plain : ℕ → List Event
    plain n = event_at c (written set r) mark.Written n ++ event_at c (returned r) mark.Returned n

    nothing : (n : ℕ) → (is_at c (written set r) ≡ false) × (is_at c (returned r) ≡ false) → written_at set c n r ≡ []
    nothing n h =
        written_tests set c n r
        ∙ (ap (λ b. written_when set c n b (is_at c (returned r)) (is_before c r.squashed)) h.0 ∙ ap (λ b. written_when set c n false b (is_before c r.squashed)) h.1)

    gone : (n x : ℕ) → r.squashed ≡ Some x → x < c → written_at set c n r ≡ []
    gone n x e lt =
        written_tests set c n r
        ∙ (ap (λ m. written_when set c n (is_at c (written set r)) (is_at c (returned r)) (is_before c m)) e
        ∙ (ap (λ b. written_when set c n (is_at c (written set r)) (is_at c (returned r)) b) (lt-ltb x c lt)
        ∙ (ap (λ b. when b c n mark.Written ++ when (is_at c (returned r) && false) c n mark.Returned) (and_off (is_at c (written set r)))
        ∙ ap (λ b. when b c n mark.Returned) (and_off (is_at c (returned r))))))

    here : (n : ℕ) → r.squashed ≡ None → written_at set c n r ≡ plain n
    here n e =
        written_tests set c n r
        ∙ (ap (λ m. written_when set c n (is_at c (written set r)) (is_at c (returned r)) (is_before c m)) e
        ∙ (ap (λ b. when b c n mark.Written ++ when (is_at c (returned r) && true) c n mark.Returned) (and_on (is_at c (written set r)))
        ∙ ap (λ b. when (is_at c (written set r)) c n mark.Written ++ when b c n mark.Returned) (and_on (is_at c (returned r)))))

    by_live : (own : Where r.squashed (λ x. (x < c) × Before x r)) (n : ℕ) → written_at set c n r ≡ cond (live r) (plain n) []
    by_live own n = by_squash r.squashed refl own
      where
        with_commit : (b : Bool) → is_none r.committed ≡ b → r.squashed ≡ None → is_some r.dispatched ≡ true → written_at set c n r ≡ cond (live r) (plain n) []
        with_commit true f e d = here n e ∙ sym (ap (λ b. cond b (plain n) []) (alive (is_some r.dispatched) (is_none r.committed) (is_none r.squashed) d f (ap is_none e)))
          where
            alive : (a b s : Bool) → a ≡ true → b ≡ true → s ≡ true → (a && b && s) ≡ true
            alive a b s e f h = rw (e, f, h) refl
        with_commit false f e d =
            nothing n (committed_none r.committed facts.order facts.committed_by (some r.committed f))
            ∙ sym (ap (λ b. cond b (plain n) []) (dead (is_some r.dispatched) (is_none r.committed) (is_none r.squashed) f))
          where
            some : (m : Option ℕ) → is_none m ≡ false → is_some m ≡ true
            some None e = absurd cc
            some (Some x) e = refl

            dead : (a b s : Bool) → b ≡ false → (a && b && s) ≡ false
            dead true b s f = rw f refl
            dead false b s f = refl

        with_dispatch : (m : Option ℕ) → r.dispatched ≡ m → r.squashed ≡ None → written_at set c n r ≡ cond (live r) (plain n) []
        with_dispatch None d e = nothing n (waits d) ∙ sym (ap (λ m. cond (is_some m && is_none r.committed && is_none r.squashed) (plain n) []) d)
        with_dispatch (Some x) d e = with_commit (is_none r.committed) refl e (ap is_some d)

        by_squash : (m : Option ℕ) → r.squashed ≡ m → Where m (λ x. (x < c) × Before x r) → written_at set c n r ≡ cond (live r) (plain n) []
        by_squash None e w = with_dispatch r.dispatched refl e
        by_squash (Some x) e w =
            gone n x e w.0
            ∙ sym (ap (λ m. cond (is_some r.dispatched && is_none r.committed && is_none m) (plain n) []) e
            ∙ ap (λ b. cond b (plain n) []) (never (is_some r.dispatched && is_none r.committed)))
          where
            never : (a : Bool) → (a && false) ≡ false
            never a = and_off a

  -- ---- the live rows

  abbrev shown_by : ℕ → Placed → List Event
  shown_by c p = event_at c (written set p.row) mark.Written (length p.older) ++ event_at c (returned p.row) mark.Returned (length p.older)

  abbrev shown_in : ℕ → List Placed → List Event
  shown_in c [] = []
  shown_in c (p ∷ older) = shown_in c older ++ shown_by c p

  over_live : (c : ℕ) (rows : List Row) → Each (RowFacts set c) rows → Each (λ _. Comes set) rows → Each (λ _. Reads) rows → Each (λ _. Own c) rows
      → by_row (written_at set c) rows ≡ shown_in c (pick live rows)
  over_live c [] f k h o = refl
  over_live c (r ∷ rows) f k h o =
      ap (λ l. l ++ written_at set c (length rows) r) (over_live c rows f.1 k.1 h.1 o.1)
      ∙ (ap (λ l. shown_in c (pick live rows) ++ l) (by_live c rows r f.0 k.0 h.0 o.0.squashed (length rows)) ∙ by_test (live r))
    where
      by_test : (b : Bool) → (shown_in c (pick live rows) ++ cond b (shown_by c (record { row = r; older = rows })) []) ≡ shown_in c (cond b (record { row = r; older = rows } ∷ pick live rows) (pick live rows))
      by_test true = refl
      by_test false = append-nil (shown_in c (pick live rows))

unit_shows : (g : Given) (c : ℕ) (units : List unit.Row) (ps : List Placed) → AllZip (Lives g) units ps → shown_in (setting_of g) c ps ≡ completed_in c units
unit_shows g c [] [] z = refl
unit_shows g c (u ∷ units) (p ∷ ps) z =
    ap (λ l. l ++ shown_by (setting_of g) c p) (unit_shows g c units ps z.1)
    ∙ ap (λ l. completed_in c units ++ l)
    (ap (λ m. event_at c m mark.Written (length p.older) ++ event_at c (returned p.row) mark.Returned (length p.older)) z.0.written
    ∙ (ap (λ m. event_at c u.written mark.Written (length p.older) ++ event_at c m mark.Returned (length p.older)) z.0.returned
    ∙ ap (λ n. event_at c u.written mark.Written n ++ event_at c u.returned mark.Returned n) (sym z.0.row)))
unit_shows g c [] (p ∷ ps) z = absurd z
unit_shows g c (u ∷ units) [] z = absurd z

pub unit_completes : (g : Given) (c : ℕ) → ShowsCompletions g c
unit_completes g c units zip =
    over_live (setting_of g) c (after_commit (setting_of g) c).rows (facts_one (setting_of g) c) (comes_one (setting_of g) c) (reads_one (setting_of g) c)
    (each_turn (Own c) (Own c) (commit_row (setting_of g) c) (own_commit (setting_of g) c c) (table (setting_of g) c).rows (both_table (setting_of g) c).0)
    ∙ unit_shows g c units (pick live (after_commit (setting_of g) c).rows) zip
