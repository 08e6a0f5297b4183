-- What the queue says of a load is what the rows before it say.
use Rattle.std.proofs.Common.{◌≡◌, ℕ, suc, ◌/◌, ◌<◌, ◌≤◌, Bool, true, false, cond, List, [], ◌∷◌, ◌++◌, Option, Some, None, refl, sym, ap, ◌∙◌, arith}
use Rattle.std.specs.Prelude.{◌&&◌, ◌||◌, ◌==◌, not, is_some}
use Rattle.std.specs.List.{AllZip, list_any}
use Rattle.std.proofs.lemmas.Bool.{and_parts, ltb-true, le-leb}
use Rattle.std.proofs.lemmas.Bool.Decides.{nat_tests}
use Rattle.lsq_core.specs.Queue as lsq
use Rattle.lsq_core.specs.Queue.{Entry}
use Rattle.ooo_table.specs.Row.{Row, is_before}
use Rattle.ooo_table.specs.Execution.{MemoryUse, NoMemory, LoadFrom, StoreTo, is_load, is_store, uses_memory, address, same_block}
use Rattle.ooo_table.specs.Table.{Setting}
use Rattle.ooo_table.specs.Path.{execution, loads, stores}
use Rattle.ooo_table.specs.Done.{live, written, finished, have_produced, done_before}
use Rattle.ooo_table.specs.Issue.{is_clear, is_forwarded}
use Rattle.core_parts.specs.Rows.{pick, in_queue, Holds}
use Rattle.core_parts.proofs.Lists.{same_number}
use Rattle.core_issue.specs.Turns as turns
use Rattle.core_issue.specs.Turns.{is_ok}

-- a load may go where no entry forbids it
ok_of : (p : Entry → Bool) (xs : List Entry) (b : Bool) → is_ok (lsq.answer (lsq.oldest p xs) b) ≡ not (list_any p xs)
ok_of p [] b = refl
ok_of p (x ∷ xs) b = by_case (lsq.oldest p xs) (p x) refl (ok_of p xs b)
  where
    off : (d e : Bool) → false ≡ not e → false ≡ not (d || e)
    off true e h = refl
    off false e h = h

    by_case : (o : Option ℕ) (d : Bool) → lsq.oldest p xs ≡ o → is_ok (lsq.answer (lsq.oldest p xs) b) ≡ not (list_any p xs) → is_ok (lsq.answer (lsq.or_else o (cond d (Some x.row) None)) b) ≡ not (d || list_any p xs)
    by_case (Some n) d e ih = off d (list_any p xs) (ap (λ o. is_ok (lsq.answer o b)) (sym e) ∙ ih)
    by_case None true e ih = refl
    by_case None false e ih = ap (λ o. is_ok (lsq.answer o b)) (sym e) ∙ ih

forward_of : (o : Option ℕ) (b : Bool) → is_ok (lsq.answer o b) ≡ true → turns.is_forwarded (lsq.answer o b) ≡ b
forward_of None b h = refl
forward_of (Some e) b h = absurd cc

-- every entry of these is of a row from n on
abbrev pub Above : ℕ → List Entry → Type 0
Above n [] = Unit {0}
Above n (e ∷ es) = (n ≤ e.row) × Above n es

pub above_less : (m n : ℕ) (es : List Entry) → m ≤ n → Above n es → Above m es
above_less m n [] le h = tt
above_less m n (e ∷ es) le h = (omega (arith, le, h.0), above_less m n es le h.1)

pub above_last : (n : ℕ) (es : List Entry) (e : Entry) → Above n es → n ≤ e.row → Above n (es ++ (e ∷ []))
above_last n [] e h le = (le, tt)
above_last n (x ∷ es) e h le = (h.0, above_last n es e h.1 le)

-- the load's answer is that of the entries behind its own
pub answer_at : (c : ℕ) (qy qs : List Entry) (e : Entry) (n : ℕ) → Above (suc n) qy → e.row ≡ n → lsq.load_answer c n (qy ++ (e ∷ qs)) ≡ lsq.answer_after c e.block qs
answer_at c [] qs e n h is = ap (λ b. cond b (lsq.answer_after c e.block qs) (lsq.load_answer c n qs)) (ap (λ k. k == n) is ∙ same_number n)
answer_at c (x ∷ qy) qs e n h is = ap (λ b. cond b (lsq.answer_after c x.block (qy ++ (e ∷ qs))) (lsq.load_answer c n (qy ++ (e ∷ qs)))) (differ x.row n h.0) ∙ answer_at c qy qs e n h.1 is
  where
    differ : (a b : ℕ) → suc b ≤ a → (a == b) ≡ false
    differ a b le = grind (arith, nat_tests)

pub answer_ok : (c block : ℕ) (qs : List Entry) → is_ok (lsq.answer_after c block qs) ≡ not (list_any (lsq.forbids c block) qs)
answer_ok c block qs = ok_of (lsq.forbids c block) qs (list_any (lsq.forwards block) qs)

pub answer_forward : (c block : ℕ) (qs : List Entry) → is_ok (lsq.answer_after c block qs) ≡ true → turns.is_forwarded (lsq.answer_after c block qs) ≡ list_any (lsq.forwards block) qs
answer_forward c block qs ok = forward_of (lsq.oldest (lsq.forbids c block) qs) (list_any (lsq.forwards block) qs) ok

pub load_uses : (m : MemoryUse) → is_load m ≡ true → uses_memory m ≡ true
load_uses NoMemory h = absurd cc
load_uses (LoadFrom a) h = refl
load_uses (StoreTo a) h = absurd cc

module _ (set : Setting) (c : ℕ) where
  store_uses : (m : MemoryUse) → is_store m ≡ true → uses_memory m ≡ true
  store_uses NoMemory h = absurd cc
  store_uses (LoadFrom a) h = absurd cc
  store_uses (StoreTo a) h = refl

  not_memory : (o : Row) → in_queue set o ≡ false → (live o && stores set o) ≡ false
  not_memory o h = by_both (live o) (stores set o) refl h
    where
      by_both : (b d : Bool) → stores set o ≡ d → (b && uses_memory (execution set o).memory) ≡ false → (b && d) ≡ false
      by_both false d e h = refl
      by_both true false e h = refl
      by_both true true e h = let k : uses_memory (execution set o).memory ≡ true = store_uses (execution set o).memory e in absurd cc

  known_by : (m : Option ℕ) → (is_some m ≡ true → is_before (suc c) m ≡ true) → lsq.is_by c m ≡ is_some m
  known_by None h = refl
  known_by (Some x) h = let l : x < suc c = ltb-true x (suc c) (h refl) in le-leb x c (omega arith)

  block_same : (o r : Row) (e : Entry) (block : ℕ) → stores set o ≡ true → loads set r ≡ true → e.block ≡ address (execution set o).memory / 8 → block ≡ address (execution set r).memory / 8
      → same_block (execution set o).memory (execution set r).memory ≡ (e.block == block)
  block_same o r e block so lr eb er =
      ap (λ b. b && uses_memory (execution set r).memory && ((address (execution set o).memory / 8) == (address (execution set r).memory / 8))) (store_uses (execution set o).memory so)
      ∙ (ap (λ b. true && b && ((address (execution set o).memory / 8) == (address (execution set r).memory / 8))) (load_uses (execution set r).memory lr)
      ∙ (ap (λ k. k == (address (execution set r).memory / 8)) (sym eb) ∙ ap (λ k. e.block == k) (sym er)))

  -- an entry's two tests are those of its row
  module _ (r : Row) (block : ℕ) (lr : loads set r ≡ true) (er : block ≡ address (execution set r).memory / 8) where
    allows : (before : List Row) (o : Row) (e : Entry) → live o ≡ true → Holds set (suc c) e (record { row = o; older = before })
        → (not (live o && stores set o) || (is_before (suc c) (written set o) && (not (same_block (execution set o).memory (execution set r).memory) || done_before set (suc c) before o))) ≡ not (lsq.forbids c block e)
    allows before o e at h =
        ap (λ b. not (b && stores set o) || (is_before (suc c) (written set o) && (not (same_block (execution set o).memory (execution set r).memory) || done_before set (suc c) before o))) at
        ∙ by_store (stores set o) refl
      where
        by_store : (b : Bool) → stores set o ≡ b → (not (true && b) || (is_before (suc c) (written set o) && (not (same_block (execution set o).memory (execution set r).memory) || done_before set (suc c) before o))) ≡ not (lsq.forbids c block e)
        by_store false so = sym (ap (λ b. not (b && (not (lsq.is_by c e.address) || ((e.block == block) && not (lsq.is_done c e))))) (h.store ∙ so))
        by_store true so =
            let es : e.store ≡ true = h.store ∙ so in
            let w : lsq.is_by c e.address ≡ is_before (suc c) (written set o) = known_by e.address h.address_by ∙ (h.address ∙ ap (λ b. b && is_before (suc c) (written set o)) es) in
            let d : lsq.is_by c e.data_done ≡ have_produced set (suc c) before o (execution set o).second = known_by e.data_done h.data_by ∙ (h.data_done ∙ ap (λ b. b && have_produced set (suc c) before o (execution set o).second) es) in
            joined (is_before (suc c) (written set o)) (same_block (execution set o).memory (execution set r).memory) (have_produced set (suc c) before o (execution set o).second) (done_before set (suc c) before o) e.store (lsq.is_by c e.address) (e.block == block) (lsq.is_by c e.data_done)
            (ap (λ b. cond b (is_before (suc c) (written set o) && have_produced set (suc c) before o (execution set o).second) (is_before (suc c) (finished set o))) so) es w (block_same o r e block so lr h.block er) d
          where
            joined : (a b d f : Bool) (st w bl dn : Bool) → f ≡ (a && d) → st ≡ true → w ≡ a → b ≡ bl → dn ≡ d → (a && (not b || f)) ≡ not (st && (not w || (bl && not (w && dn))))
            joined a b d f st w bl dn e1 e2 e3 e4 e5 = rw (e1, e2, e3, e4, e5) (by_value a bl d)
              where
                by_value : (a b d : Bool) → (a && (not b || (a && d))) ≡ not (true && (not a || (b && not (a && d))))
                by_value true true true = refl
                by_value true true false = refl
                by_value true false d = refl
                by_value false b d = refl

    forwards : (before : List Row) (o : Row) (e : Entry) → live o ≡ true → Holds set (suc c) e (record { row = o; older = before })
        → (live o && stores set o && same_block (execution set o).memory (execution set r).memory) ≡ lsq.forwards block e
    forwards before o e at h = ap (λ b. b && stores set o && same_block (execution set o).memory (execution set r).memory) at ∙ by_store (stores set o) refl
      where
        by_store : (b : Bool) → stores set o ≡ b → (true && b && same_block (execution set o).memory (execution set r).memory) ≡ (e.store && (e.block == block))
        by_store false so = sym (ap (λ b. b && (e.block == block)) (h.store ∙ so))
        by_store true so = block_same o r e block so lr h.block er ∙ sym (ap (λ b. b && (e.block == block)) (h.store ∙ so))

    -- so the queue's tests are those of the rows
    pub clear_same : (rows : List Row) (es : List Entry) → AllZip (Holds set (suc c)) es (pick (in_queue set) rows) → is_clear set c rows r ≡ not (list_any (lsq.forbids c block) es)
    clear_same [] [] z = refl
    clear_same [] (e ∷ es) z = absurd z
    clear_same (o ∷ older) es z = by_case (in_queue set o) refl es z (clear_same older)
      where
        by_case : (b : Bool) → in_queue set o ≡ b → (es : List Entry) → AllZip (Holds set (suc c)) es (cond b (record { row = o; older = older } ∷ pick (in_queue set) older) (pick (in_queue set) older))
            → ((es : List Entry) → AllZip (Holds set (suc c)) es (pick (in_queue set) older) → is_clear set c older r ≡ not (list_any (lsq.forbids c block) es))
            → ((not (live o && stores set o) || (is_before (suc c) (written set o) && (not (same_block (execution set o).memory (execution set r).memory) || done_before set (suc c) older o)))
            && is_clear set c older r) ≡ not (list_any (lsq.forbids c block) es)
        by_case true m [] z ih = absurd z
        by_case true m (e ∷ es) z ih = both _ _ (lsq.forbids c block e) (list_any (lsq.forbids c block) es) (allows older o e (and_parts (live o) (uses_memory (execution set o).memory) m).0 z.0) (ih es z.1)
          where
            both : (a b x y : Bool) → a ≡ not x → b ≡ not y → (a && b) ≡ not (x || y)
            both a b true y e f = ap (λ x. x && b) e
            both a b false y e f = ap (λ x. x && b) e ∙ f
        by_case false m es z ih = ap (λ b. (not b || (is_before (suc c) (written set o) && (not (same_block (execution set o).memory (execution set r).memory) || done_before set (suc c) older o))) && is_clear set c older r) (not_memory o m) ∙ ih es z

    pub forward_same : (rows : List Row) (es : List Entry) → AllZip (Holds set (suc c)) es (pick (in_queue set) rows) → is_forwarded set rows r ≡ list_any (lsq.forwards block) es
    forward_same [] [] z = refl
    forward_same [] (e ∷ es) z = absurd z
    forward_same (o ∷ older) es z = by_case (in_queue set o) refl es z (forward_same older)
      where
        by_case : (b : Bool) → in_queue set o ≡ b → (es : List Entry) → AllZip (Holds set (suc c)) es (cond b (record { row = o; older = older } ∷ pick (in_queue set) older) (pick (in_queue set) older))
            → ((es : List Entry) → AllZip (Holds set (suc c)) es (pick (in_queue set) older) → is_forwarded set older r ≡ list_any (lsq.forwards block) es)
            → ((live o && stores set o && same_block (execution set o).memory (execution set r).memory) || is_forwarded set older r) ≡ list_any (lsq.forwards block) es
        by_case true m [] z ih = absurd z
        by_case true m (e ∷ es) z ih = ap (λ b. b || is_forwarded set older r) (forwards older o e (and_parts (live o) (uses_memory (execution set o).memory) m).0 z.0) ∙ ap (λ b. lsq.forwards block e || b) (ih es z.1)
        by_case false m es z ih = ap (λ b. (b && same_block (execution set o).memory (execution set r).memory) || is_forwarded set older r) (not_memory o m) ∙ ih es z
