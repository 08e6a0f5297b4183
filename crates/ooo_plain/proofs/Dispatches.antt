-- Which rows are dispatched.
use Rattle.std.proofs.Common.{◌≡◌, ℕ, Bool, true, false, cond, List, refl, sym, ap, ◌∙◌}
use Rattle.std.specs.Prelude.{not, nat_lt, nat_eq, ◌&&◌, ◌||◌, count_by, is_some, is_none}
use Rattle.std.specs.List.{list_all, list_any}
use Rattle.ooo_table.specs.declared.config.OooConfig.{OooConfig}
use Rattle.ooo_table.specs.Row as table
use Rattle.ooo_table.specs.Row.{is_at}
use Rattle.ooo_table.specs.Execution.{MemoryUse, NoMemory, LoadFrom, StoreTo, is_load, is_store, uses_memory}
use Rattle.ooo_table.specs.Table.{Setting}
use Rattle.ooo_table.specs.Path.{execution, is_exit, loads, stores}
use Rattle.ooo_table.specs.Done as done
use Rattle.ooo_table.specs.Dispatch.{is_first, has_place, may_enter, dispatches}
use Rattle.ooo_plain.specs.declared.row.Row.{Row}
use Rattle.ooo_plain.specs.Kept.{kept, AreKept, is_live, is_waiting}
use Rattle.ooo_plain.proofs.Lists.{list_all-kept, list_any-kept, count_by-kept}

pub uses_or : (m : MemoryUse) → (is_load m || is_store m) ≡ uses_memory m
uses_or NoMemory = refl
uses_or (LoadFrom addr) = refl
uses_or (StoreTo addr) = refl

pub access_test : (set : Setting) (d : Row) (o : table.Row) → d ≡ kept set o → (answer : Bool) → answer ≡ (is_live d && (d.load || d.store)) → (b : Bool) → answer ≡ b
    → (done.live o && uses_memory (execution set o).memory) ≡ b
access_test set d o first answer e b k =
    sym (e ∙ (ap (λ x. is_live x && (x.load || x.store)) first ∙ ap (λ u. done.live o && u) (uses_or (execution set o).memory))) ∙ k

pub first_by : (set : Setting) (c : ℕ) (rows : List Row) (olds : List table.Row) (d : Row) (r : table.Row) → AreKept set rows olds → d ≡ kept set r
    → (waits first none answer : Bool) → waits ≡ is_waiting d → first ≡ (waits && nat_lt d.queued c) → none ≡ list_all (λ o. not (is_waiting o)) rows → answer ≡ (first && none)
    → answer ≡ is_first set c olds r
first_by set c rows olds d r k i waits first none answer e1 e2 e3 e4 =
    let one = e2 ∙ (ap (λ b. b && nat_lt d.queued c) e1 ∙ ap (λ x. is_waiting x && nat_lt x.queued c) i) in
    let all = e3 ∙ list_all-kept set (λ o. not (is_waiting o)) (λ o. not (done.waiting o)) (λ o. refl) rows olds k in
    e4 ∙ (ap (λ b. b && none) one ∙ ap (λ b. (done.waiting r && nat_lt r.fetched.queued c) && b) all)

pub place_by : (set : Setting) (config : OooConfig) (rows : List Row) (olds : List table.Row) (d : Row) (r : table.Row) → config ≡ set.config → AreKept set rows olds → d ≡ kept set r
    → (uses queue answer : Bool) (n m : ℕ) → n ≡ count_by done.live olds → m ≡ count_by (λ o. done.live o && uses_memory (execution set o).memory) olds
    → uses ≡ (d.load || d.store) → queue ≡ (not uses || nat_lt m config.lsq) → answer ≡ (nat_lt n config.ruu && queue)
    → answer ≡ has_place set olds r
place_by set config rows olds d r e k i uses queue answer n m e1 e2 e3 e4 e5 =
    let lives = e1 in
    let accesses = e2 in
    let use' : uses ≡ uses_memory (execution set r).memory = e3 ∙ (ap (λ x. x.load || x.store) i ∙ uses_or (execution set r).memory) in
    let q = e4 ∙ (ap (λ b. not b || nat_lt m config.lsq) use' ∙ (ap (λ x. not (uses_memory (execution set r).memory) || nat_lt x config.lsq) accesses
    ∙ ap (λ g. not (uses_memory (execution set r).memory) || nat_lt (count_by (λ o. done.live o && uses_memory (execution set o).memory) olds) g.lsq) e)) in
    e5 ∙ (ap (λ b. nat_lt n config.ruu && b) q ∙ (ap (λ x. nat_lt x config.ruu && (not (uses_memory (execution set r).memory) || nat_lt (count_by (λ o. done.live o && uses_memory (execution set o).memory) olds) set.config.lsq)) lives
    ∙ ap (λ g. nat_lt (count_by done.live olds) g.ruu && (not (uses_memory (execution set r).memory) || nat_lt (count_by (λ o. done.live o && uses_memory (execution set o).memory) olds) set.config.lsq)) e))

pub enter_right : (set : Setting) (rows : List Row) (olds : List table.Row) (d : Row) (r : table.Row) → AreKept set rows olds → d ≡ kept set r → d.right ≡ true
    → (empty answer : Bool) (n : ℕ) → n ≡ count_by done.live olds → empty ≡ (not d.call || nat_eq n 0) → answer ≡ (not d.stops && empty)
    → answer ≡ may_enter set olds r
enter_right set rows olds d r k i right empty answer n e1 e2 e3 =
    let is_right : r.fetched.right ≡ true = sym (ap (λ x. x.right) i) ∙ right in
    let lives = e1 in
    let free = e2 ∙ (ap (λ x. not x.call || nat_eq n 0) i ∙ ap (λ x. not (execution set r).call || nat_eq x 0) lives) in
    e3 ∙ (ap (λ x. not x.stops && empty) i ∙ (ap (λ b. not (b && (execution set r).stops) && empty) is_right ∙ (ap (λ b. not (execution set r).stops && b) free
    ∙ sym (ap (λ b. cond b (not (execution set r).stops && (not (execution set r).call || nat_eq (count_by done.live olds) 0)) (not (execution set r).call)) is_right))))

pub enter_wrong : (set : Setting) (olds : List table.Row) (d : Row) (r : table.Row) → d ≡ kept set r → d.right ≡ false → not d.call ≡ may_enter set olds r
enter_wrong set olds d r i wrong =
    let is_wrong : r.fetched.right ≡ false = sym (ap (λ x. x.right) i) ∙ wrong in
    ap (λ x. not x.call) i ∙ sym (ap (λ b. cond b (not (execution set r).stops && (not (execution set r).call || nat_eq (count_by done.live olds) 0)) (not (execution set r).call)) is_wrong)

pub dispatches_by : (set : Setting) (c : ℕ) (config : OooConfig) (rows : List Row) (olds : List table.Row) (r : table.Row) → config ≡ set.config → AreKept set rows olds
    → (first wide place placed enters fits call uncalled exit answer : Bool) (n : ℕ)
    → first ≡ is_first set c olds r → n ≡ count_by (λ o. is_at c o.dispatched) rows → wide ≡ (first && nat_lt n config.decode)
    → place ≡ has_place set olds r → placed ≡ (wide && place) → enters ≡ may_enter set olds r → fits ≡ (placed && enters)
    → call ≡ list_any (λ o. is_at c o.dispatched && o.call) rows → uncalled ≡ (fits && not call)
    → exit ≡ list_any (λ o. is_some o.dispatched && o.exit) rows → answer ≡ (uncalled && not exit)
    → answer ≡ dispatches set c olds r
dispatches_by set c config rows olds r e k first wide place placed enters fits call uncalled exit answer n e1 e2 e3 e4 e5 e6 e7 e8 e9 e10 e11 =
    let width = e2 ∙ count_by-kept set (λ o. is_at c o.dispatched) (λ o. is_at c o.dispatched) (λ o. refl) rows olds k in
    let calls = e8 ∙ list_any-kept set (λ o. is_at c o.dispatched && o.call) (λ o. is_at c o.dispatched && (execution set o).call) (λ o. refl) rows olds k in
    let exits = e10 ∙ list_any-kept set (λ o. is_some o.dispatched && o.exit) (λ o. is_some o.dispatched && is_exit set o) (λ o. refl) rows olds k in
    let one = e3 ∙ (ap (λ b. b && nat_lt n config.decode) e1 ∙ (ap (λ x. is_first set c olds r && nat_lt x config.decode) width ∙ ap (λ g. is_first set c olds r && nat_lt (count_by (λ o. is_at c o.dispatched) olds) g.decode) e)) in
    let upto : Bool = is_first set c olds r && nat_lt (count_by (λ o. is_at c o.dispatched) olds) set.config.decode in
    let two = e5 ∙ (ap (λ b. b && place) one ∙ ap (λ b. upto && b) e4) in
    let three = e7 ∙ (ap (λ b. b && enters) two ∙ ap (λ b. (upto && has_place set olds r) && b) e6) in
    let four = e9 ∙ (ap (λ b. b && not call) three ∙ ap (λ b. ((upto && has_place set olds r) && may_enter set olds r) && not b) calls) in
    e11 ∙ (ap (λ b. b && not exit) four ∙ ap (λ b. (((upto && has_place set olds r) && may_enter set olds r) && not (list_any (λ o. is_at c o.dispatched && (execution set o).call) olds)) && not b) exits)
