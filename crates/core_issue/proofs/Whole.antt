-- The turns of the unit's rows are the issue stage of the table.
use Rattle.std.proofs.Common.{◌≡◌, ℕ, suc, ◌+◌, ◌/◌, ◌<◌, ◌≤◌, Bool, true, false, cond, List, [], ◌∷◌, ◌++◌, Option, Some, None, refl, sym, ap, ◌∙◌, subst, arith, length, append_assoc}
use Rattle.std.specs.Prelude.{◌&&◌, ◌||◌, ◌==◌, nat_lt, count_by}
use Rattle.std.specs.List.{AllZip}
use Rattle.std.proofs.lemmas.Bool.{and_from}
use Rattle.std.proofs.lemmas.Bool.Decides.{nat_tests}
use Rattle.mem_hier.specs.Replay.{Reference}
use Rattle.mem_hier.specs.Stands as hierarchy
use Rattle.fu_pool.specs.declared.pools.Pool.TheVariants as pool
use Rattle.fu_pool.specs.Takes.{units_of, units_in, busy}
use Rattle.lsq_core.specs.Queue as lsq
use Rattle.lsq_core.specs.Queue.{Entry}
use Rattle.ruu_core.specs.Window as unit
use Rattle.ooo_table.specs.Row.{Row, is_at, accessed, sweep}
use Rattle.ooo_table.specs.Execution.{Pool, Ports, address, uses_memory, pool_size}
use Rattle.ooo_table.specs.Table.{Setting}
use Rattle.ooo_table.specs.Path.{execution, loads}
use Rattle.ooo_table.specs.Done.{live}
use Rattle.ooo_table.specs.Issue.{issues, accesses, issue_row, access_of, is_forwarded, holds, issues_at}
use Rattle.ooo_table.specs.Later.{Each, Where}
use Rattle.ooo_table.specs.CycleLaws.{Fresh, SquashSpreads, IssuesLive}
use Rattle.ooo_table.specs.Bound.{Rises}
use Rattle.ooo_table.specs.Machine.{Given, setting_of}
use Rattle.core_parts.specs.declared.addresses.MemoryRow.{MemoryRow}
use Rattle.core_parts.specs.declared.answers.Issued.{Issued}
use Rattle.core_parts.specs.Addresses.{address_of}
use Rattle.core_parts.specs.Stands.{pool_of}
use Rattle.core_parts.specs.Rows.{pick, in_queue, unit_class, Lives, Holds, HasAddress}
use Rattle.core_parts.proofs.Lists.{length_sweep, same_number}
use Rattle.core_issue.specs.Turns.{is_ok, has_free}
use Rattle.core_issue.specs.Stage.{Rules, Shared, access_issues, forwards, Ran}
use Rattle.core_issue.proofs.Next.{apart}
use Rattle.core_issue.proofs.Sweep.{Slow, turn_cases, dispatched_same, squashed_same, live_same, queue_same}
use Rattle.core_issue.proofs.Queue.{Above, above_less, above_last, answer_at, load_uses}
use Rattle.core_issue.proofs.Pools.{free_same, unit_same}
use Rattle.core_parts.proofs.Live.{Fit, none_of, live_parts, kinds_of}
use Rattle.core_issue.proofs.Tests.{Marked, Answers, issue_same, access_same, forwarded_same}
use Rattle.core_issue.proofs.Step.{After, after_left, step_turn}

-- ---- what the queue and the addresses say of a load

-- every address of these is of a row from n on
abbrev From : ℕ → List MemoryRow → Type 0
From n [] = Unit {0}
From n (x ∷ xs) = (n ≤ x.row) × From n xs

from_less : (m n : ℕ) (xs : List MemoryRow) → m ≤ n → From n xs → From m xs
from_less m n [] le h = tt
from_less m n (x ∷ xs) le h = (omega (arith, le, h.0), from_less m n xs le h.1)

from_last : (n : ℕ) (xs : List MemoryRow) (x : MemoryRow) → From n xs → n ≤ x.row → From n (xs ++ (x ∷ []))
from_last n [] x h le = (le, tt)
from_last n (y ∷ xs) x h le = (h.0, from_last n xs x h.1 le)

address_at : (xs ys : List MemoryRow) (x : MemoryRow) (n : ℕ) → From (suc n) xs → x.row ≡ n → address_of n (xs ++ (x ∷ ys)) ≡ x.addr
address_at [] ys x n h is = ap (λ b. cond b x.addr (address_of n ys)) (ap (λ k. k == n) is ∙ same_number n)
address_at (y ∷ xs) ys x n h is = ap (λ b. cond b y.addr (address_of n (xs ++ (x ∷ ys)))) (differ y.row n h.0) ∙ address_at xs ys x n h.1 is
  where
    differ : (a b : ℕ) → suc b ≤ a → (a == b) ≡ false
    differ a b le = grind (arith, nat_tests)

-- of a live load, by its number
pub record Says (set : Setting) (c : ℕ) (k : Rules) (older : List Row) (r : Row) : Type 0 where
  pub block : ℕ
  pub rest : List Entry
  pub is : lsq.load_answer c (length older) k.queue ≡ lsq.answer_after c block rest
  pub at : block ≡ address (execution set r).memory / 8
  pub zip : AllZip (Holds set (suc c)) rest (pick (in_queue set) older)
  pub addr : address_of (length older) k.addresses ≡ address (execution set r).memory

abbrev pub SaysOf : Setting → ℕ → Rules → List Row → Row → Type 0
SaysOf set c k older r = live r ≡ true → loads set r ≡ true → Says set c k older r

pub says : (set : Setting) (c : ℕ) (k : Rules) (rows : List Row) (qy qs : List Entry) (ay az : List MemoryRow) → k.queue ≡ qy ++ qs → k.addresses ≡ ay ++ az → Above (length rows) qy → From (length rows) ay
    → AllZip (Holds set (suc c)) qs (pick (in_queue set) rows) → AllZip (HasAddress set) az (pick (in_queue set) rows) → Each (SaysOf set c k) rows
says set c k [] qy qs ay az is is' above from z z' = tt
says set c k (r ∷ older) qy qs ay az is is' above from z z' =
    by_memory (in_queue set r) refl qs az is is' z z' (λ qy qs ay az is is' above from z z'. says set c k older qy qs ay az is is' above from z z')
  where
    in_it : live r ≡ true → loads set r ≡ true → in_queue set r ≡ true
    in_it at l = and_from (live r) (uses_memory (execution set r).memory) at (load_uses (execution set r).memory l)

    by_memory : (b : Bool) → in_queue set r ≡ b → (qs : List Entry) (az : List MemoryRow) → k.queue ≡ qy ++ qs → k.addresses ≡ ay ++ az
        → AllZip (Holds set (suc c)) qs (cond b (record { row = r; older = older } ∷ pick (in_queue set) older) (pick (in_queue set) older))
        → AllZip (HasAddress set) az (cond b (record { row = r; older = older } ∷ pick (in_queue set) older) (pick (in_queue set) older))
        → ((qy qs : List Entry) (ay az : List MemoryRow) → k.queue ≡ qy ++ qs → k.addresses ≡ ay ++ az → Above (length older) qy → From (length older) ay
        → AllZip (Holds set (suc c)) qs (pick (in_queue set) older) → AllZip (HasAddress set) az (pick (in_queue set) older) → Each (SaysOf set c k) older)
        → SaysOf set c k older r × Each (SaysOf set c k) older
    by_memory true m [] az is is' z z' ih = absurd z
    by_memory true m (e ∷ qs) [] is is' z z' ih = absurd z'
    by_memory true m (e ∷ qs) (x ∷ az) is is' z z' ih = (
      λ at l.
          record {
            block = e.block;
            rest = qs;
            is = ap (lsq.load_answer c (length older)) is ∙ answer_at c qy qs e (length older) (above_less (suc (length older)) (length (r ∷ older)) qy (omega arith) above) z.0.row;
            at = z.0.block;
            zip = z.1;
            addr = ap (address_of (length older)) is' ∙ (address_at ay az x (length older) (from_less (suc (length older)) (length (r ∷ older)) ay (omega arith) from) z'.0.row ∙ z'.0.addr);
          },
      ih (qy ++ (e ∷ [])) qs (ay ++ (x ∷ [])) az (is ∙ sym (append_assoc qy (e ∷ []) qs)) (is' ∙ sym (append_assoc ay (x ∷ []) az))
          (above_last (length older) qy e (above_less (length older) (length (r ∷ older)) qy (omega arith) above) (omega (arith, z.0.row)))
          (from_last (length older) ay x (from_less (length older) (length (r ∷ older)) ay (omega arith) from) (omega (arith, z'.0.row)))
          z.1 z'.1,
    )
    by_memory false m qs az is is' z z' ih = (
      λ at l. absurd (apart (in_it at l) m),
      ih qy qs ay az is is' (above_less (length older) (length (r ∷ older)) qy (omega arith) above) (from_less (length older) (length (r ∷ older)) ay (omega arith) from) z z',
    )

-- ---- all rows

module _ (g : Given) (slow : Slow (setting_of g)) (c : ℕ) (base : List Reference) (rising : Rises c base) (start : List Row) where
  abbrev set : Setting
  set = setting_of g

  abbrev turn : List Row → Row → Row
  turn = issue_row set c base start

  -- no turn is a row's that isn't live
  still : (before : List Row) (r : Row) → live r ≡ false → IssuesLive set c (turn before r) → turn before r ≡ r
  still before r off lives =
      by_turn (issues set c start before r) (accesses set c start before r) refl refl
    where
      never : {A : Type 0} → issues_at set c (turn before r) ≡ true → A
      never h = absurd (apart (sym (live_same set slow c base rising start before r) ∙ lives.live h) off)

      or_true : (b : Bool) → (b || true) ≡ true
      or_true true = refl
      or_true false = refl

      by_turn : (b d : Bool) → issues set c start before r ≡ b → accesses set c start before r ≡ d → turn before r ≡ r
      by_turn true d e f =
          never (ap (λ b. issues_at set c (cond b (record r { issued = Some c }) (cond (accesses set c start before r) (record r { access = Some (access_of set c base before r) }) r))) e ∙ ap (λ b. b || is_at c (accessed r)) (same_number c))
      by_turn false true e f =
          never (ap (λ b. issues_at set c (cond b (record r { issued = Some c }) (cond (accesses set c start before r) (record r { access = Some (access_of set c base before r) }) r))) e
          ∙ (ap (λ b. issues_at set c (cond b (record r { access = Some (access_of set c base before r) }) r)) f ∙ (ap (λ b. is_at c r.issued || b) (same_number c) ∙ or_true (is_at c r.issued))))
      by_turn false false e f =
          ap (λ b. cond b (record r { issued = Some c }) (cond (accesses set c start before r) (record r { access = Some (access_of set c base before r) }) r)) e
          ∙ ap (λ b. cond b (record r { access = Some (access_of set c base before r) }) r) f

  marked_turn : (before : List Row) (r : Row) → Fresh c r → Marked c (turn before r)
  marked_turn before r f =
      turn_cases set slow c base rising start (λ x. Where x.issued (λ i. i ≤ c)) before r (λ _. omega arith) (λ _ _. by_mark r.issued f.issued) (λ _ _. by_mark r.issued f.issued)
    where
      by_mark : (m : Option ℕ) → Where m (λ i. i < c) → Where m (λ i. i ≤ c)
      by_mark None w = tt
      by_mark (Some i) w = omega (arith, w)

  marked_all : (rows : List Row) → Each (λ _. Fresh c) rows → Each (λ _. Marked c) (sweep turn rows)
  marked_all [] f = tt
  marked_all (r ∷ rows) f = (marked_turn (sweep turn rows) r f.0, marked_all rows f.1)

  module _ (k : Rules) (kc : k.config ≡ g.config) (first : Shared) (begins : (q : Pool) (x : ℕ) → c ≤ x → busy x (units_of first.pools (pool_of q)) ≡ count_by (holds set q x) start)
      (sized : (q : Pool) → units_in first.pools (pool_of q) ≡ pool_size set.config q) (hier : hierarchy.StandsFor first.hier g.hier base) where
    abbrev pub Done : List Row → List unit.Row → List Issued → Shared → Type 0
    Done rows ys all a = AllZip (Lives g) ys (pick live (sweep turn rows)) × After g slow c base rising start first.pools a all rows (sweep turn rows)

    pub ran_done : (rows : List Row) (us ys : List unit.Row) (all : List Issued) (a : Shared) → Each (SaysOf set c k) rows → Each (λ _. Fresh c) rows
        → Each (Fit set c) (sweep turn rows) → Each SquashSpreads (sweep turn rows) → Each (λ _. IssuesLive set c) (sweep turn rows)
        → AllZip (Lives g) us (pick live rows) → Ran c k first us ys all a → Done rows ys all a
    ran_done [] [] ys all a say fresh fit fol lives z (ey, eall, ea) = (
      subst (λ l. AllZip (Lives g) l []) (sym ey) tt,
      record {
        mid = record {
          count = ap length eall;
          held = λ q x le. ap (λ (b : Shared). busy x (units_of b.pools (pool_of q)) + 0) ea;
          size = λ q. ap (λ (b : Shared). units_in b.pools (pool_of q)) ea ∙ sized q;
          hierarchy = subst (λ (b : Shared). hierarchy.StandsFor b.hier g.hier base) (sym ea) hier;
        };
        is = eall;
      },
    )
    ran_done [] (u ∷ us) ys all a say fresh fit fol lives z ran = absurd z
    ran_done (r ∷ older) us ys all a say fresh fit fol lives z ran =
        by_live (live r) refl us z ran (λ us ys all a z ran. ran_done older us ys all a say.1 fresh.1 fit.1 fol.1 lives.1 z ran)
      where
        now : List Row
        now = sweep turn older

        by_live : (b : Bool) → live r ≡ b → (us : List unit.Row) → AllZip (Lives g) us (cond b (record { row = r; older = older } ∷ pick live older) (pick live older)) → Ran c k first us ys all a
            → ((us ys : List unit.Row) (all : List Issued) (a : Shared) → AllZip (Lives g) us (pick live older) → Ran c k first us ys all a → Done older ys all a)
            → Done (r ∷ older) ys all a
        by_live true at [] z ran ih = absurd z
        by_live true at (u ∷ us) z (before, s', earlier, made, b, ey, eall, ran, step) ih =
            let it : Done older before earlier b = ih us before earlier b z.1 ran in
            let zl : AllZip (Lives g) before (pick live now) = it.0 in
            let after : After g slow c base rising start first.pools b earlier older now = it.1 in
            let l : Lives g u (record { row = r; older = older }) = z.0 in
            let free = free_same set slow c base rising start g first.pools b.pools b.hier (length earlier) older begins after.mid fresh.1 in
            let came : (turn now r).dispatched ≡ Some u.dispatched = dispatched_same set slow c base rising start now r ∙ l.dispatched in
            let stands : (turn now r).squashed ≡ None = squashed_same set slow c base rising start now r ∙ none_of r.squashed (live_parts r at).2 in
            let kinds = kinds_of set c now (turn now r) u.dispatched fit.0 fit.1 fol.0 came stands in
            let answers : loads set r ≡ true → Answers g c k now r u =
            λ e. (let y : Says set c k older r = say.0 at e in
            record { block = y.block; rest = y.rest; is = ap (λ n. lsq.load_answer c n k.queue) l.row ∙ y.is; at = y.at; zip = queue_same set slow c base rising start older y.rest y.zip }) in
            let ei = issue_same g c start k kc (length earlier) b.pools older now r before u l at kinds (marked_all older fresh.1) zl after.mid.count (unit_same set slow c base rising start b.pools now free (unit_class u.station)) in
            let ea = access_same g c start k kc (length earlier) b.pools older now r before u l at kinds zl after.mid.count (free Ports) answers in
            let ef : loads set r ≡ true → access_issues c (length earlier) k b.pools before u ≡ true → is_forwarded set now r ≡ forwards c k u =
            λ e h. forwarded_same g c start k kc now r u e (answers e) (okay (unit.may_access c before u) (is_ok (lsq.load_answer c u.station.row k.queue)) (nat_lt (length earlier) k.config.issue) (has_free c b.pools pool.Port) h) in
            let both = step_turn g slow c base rising start k first.pools b a earlier made older now older r before u s' fresh.0 l (length_sweep turn older) after
            (λ e. ap (λ n. address_of n k.addresses) l.row ∙ (say.0 at e).addr) step ei ea ef in
            let on : live (turn now r) ≡ true = live_same set slow c base rising start now r ∙ at in (
              subst (λ l. AllZip (Lives g) l (pick live (turn now r ∷ now))) (sym ey)
                  (subst (λ b. AllZip (Lives g) (s' ∷ before) (cond b (record { row = turn now r; older = now } ∷ pick live now) (pick live now))) (sym on) (both.0, zl)),
              subst (λ x. After g slow c base rising start first.pools a x (r ∷ older) (turn now r ∷ now)) (sym eall) both.1,
            )
          where
            okay : (x y w v : Bool) → (x && y && w && v) ≡ true → y ≡ true
            okay true true w v h = refl
            okay true false w v h = absurd cc
            okay false y w v h = absurd cc
        by_live false at us z ran ih =
            let e : turn now r ≡ r = still now r at lives.0 in
            let it : Done older ys all a = ih us ys all a z ran in (
              subst (λ x. AllZip (Lives g) ys (pick live (x ∷ now))) (sym e) (subst (λ b. AllZip (Lives g) ys (cond b (record { row = r; older = now } ∷ pick live now) (pick live now))) (sym at) it.0),
              subst (λ x. After g slow c base rising start first.pools a all (r ∷ older) (x ∷ now)) (sym e) (after_left g slow c base rising start first.pools a all older now r fresh.0 it.1),
            )
