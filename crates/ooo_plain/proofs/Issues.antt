-- Which operations and accesses issue.
use Rattle.std.proofs.Common.{◌≡◌, ℕ, suc, ◌+◌, ◌/◌, Bool, true, false, cond, List, [], ◌∷◌, length, Option, Some, None, refl, sym, ap, ◌∙◌, add-one}
use Rattle.std.specs.Prelude.{not, nat_lt, nat_eq, ◌==◌, ◌&&◌, ◌||◌, count_by, is_some, is_none, option_map}
use Rattle.std.specs.List.{list_all, list_any}
use Rattle.ooo_table.specs.declared.config.OooConfig.{OooConfig}
use Rattle.ooo_table.specs.Row as table
use Rattle.ooo_table.specs.Row.{is_at, is_before, accessed, every, MemoryAccess}
use Rattle.ooo_table.specs.Execution.{MemoryUse, is_load, is_store, uses_memory, address, same_block, Ports}
use Rattle.ooo_table.specs.Table.{Setting}
use Rattle.ooo_table.specs.Path.{execution, loads, stores}
use Rattle.ooo_table.specs.Done.{live, written, have_produced, done_before}
use Rattle.ooo_table.specs.Issue.{may_issue, issues, has_width, has_unit, has_unit_for, issues_at, is_clear, is_forwarded, accesses}
use Rattle.ooo_plain.specs.declared.row.Row.{Row}
use Rattle.ooo_plain.specs.Kept.{kept, AreKept, is_live, written_of, same_block_of}
use Rattle.ooo_plain.proofs.Lists.{rest, list_all-kept, list_any-kept, count_by-kept}
use Rattle.ooo_plain.proofs.Dispatches.{uses_or}

pub access-none : (r : table.Row) → is_none (accessed r) ≡ is_none r.access
access-none r = by_access r.access
  where
    by_access : (a : Option MemoryAccess) → is_none (option_map (λ x. x.at) a) ≡ is_none a
    by_access None = refl
    by_access (Some x) = refl

pub block-kept : (set : Setting) (o r : table.Row) → same_block_of (kept set o) (kept set r) ≡ same_block (execution set o).memory (execution set r).memory
block-kept set o r =
    let at : Bool = (address (execution set o).memory / 8) == (address (execution set r).memory / 8) in
    ap (λ b. b && (loads set r || stores set r) && at) (uses_or (execution set o).memory)
    ∙ ap (λ b. uses_memory (execution set o).memory && b && at) (uses_or (execution set r).memory)

pub may_issue_by : (set : Setting) (c : ℕ) (config : OooConfig) (rows : List Row) (olds : List table.Row) (d : Row) (r : table.Row) → config ≡ set.config → AreKept set rows olds → d ≡ kept set r
    → (path order free answer : Bool) → path ≡ (d.right || config.wrong_issue) → order ≡ list_all (λ o. not (is_live o) || is_before (c + 1) o.issued) rows
    → free ≡ (not config.in_order || order) → answer ≡ (path && free) → answer ≡ may_issue set c olds r
may_issue_by set c config rows olds d r e k i path order free answer e1 e2 e3 e4 =
    let one = e1 ∙ (ap (λ x. x.right || config.wrong_issue) i ∙ ap (λ g. r.fetched.right || g.wrong_issue) e) in
    let all = e2 ∙ (list_all-kept set (λ o. not (is_live o) || is_before (c + 1) o.issued) (λ o. not (live o) || is_before (c + 1) o.issued) (λ o. refl) rows olds k
    ∙ ap (λ n. list_all (λ o. not (live o) || is_before n o.issued) olds) (add-one c)) in
    let two = e3 ∙ (ap (λ b. not config.in_order || b) all ∙ ap (λ g. not g.in_order || list_all (λ o. not (live o) || is_before (suc c) o.issued) olds) e) in
    e4 ∙ (ap (λ b. b && free) one ∙ ap (λ b. (r.fetched.right || set.config.wrong_issue) && b) two)

pub width-kept : (set : Setting) (c : ℕ) (config : OooConfig) (rows : List Row) (olds : List table.Row) → config ≡ set.config → AreKept set rows olds
    → (n : ℕ) → n ≡ count_by (λ o. is_at c o.issued || is_at c o.accessed) rows → nat_lt n config.issue ≡ has_width set c olds
width-kept set c config rows olds e k n e1 =
    ap (λ g. nat_lt n g.issue) e ∙ ap (λ x. nat_lt x set.config.issue) (e1 ∙ count_by-kept set (λ o. is_at c o.issued || is_at c o.accessed) (issues_at set c) (λ o. refl) rows olds k)

pub issues_by : (set : Setting) (c : ℕ) (config : OooConfig) (rows : List Row) (start olds : List table.Row) (d : Row) (r : table.Row) → config ≡ set.config → AreKept set rows olds → d ≡ kept set r
    → (dispatched unissued one unsquashed fresh may two ready three four unit answer : Bool) (n : ℕ)
    → dispatched ≡ is_before c d.dispatched → unissued ≡ is_none d.issued → one ≡ (dispatched && unissued) → unsquashed ≡ is_none d.squashed → fresh ≡ (one && unsquashed)
    → may ≡ may_issue set c olds r → two ≡ (fresh && may) → ready ≡ have_produced set (c + 1) olds r d.main → three ≡ (two && ready)
    → n ≡ count_by (λ o. is_at c o.issued || is_at c o.accessed) rows → four ≡ (three && nat_lt n config.issue)
    → unit ≡ has_unit_for set c start olds d.unit → answer ≡ (four && unit) → answer ≡ issues set c start olds r
issues_by set c config rows start olds d r e k i dispatched unissued one unsquashed fresh may two ready three four unit answer n e1 e2 e3 e4 e5 e6 e7 e8 e9 e10 e11 e12 e13 =
    let f1 = e3 ∙ (ap (λ b. b && unissued) e1 ∙ (ap (λ b. is_before c d.dispatched && b) e2 ∙ ap (λ x. is_before c x.dispatched && is_none x.issued) i)) in
    let g1 : Bool = is_before c r.dispatched && is_none r.issued in
    let f2 = e5 ∙ (ap (λ b. b && unsquashed) f1 ∙ ap (λ b. g1 && b) (e4 ∙ ap (λ x. is_none x.squashed) i)) in
    let g2 : Bool = g1 && is_none r.squashed in
    let f3 = e7 ∙ (ap (λ b. b && may) f2 ∙ ap (λ b. g2 && b) e6) in
    let g3 : Bool = g2 && may_issue set c olds r in
    let done = e8 ∙ (ap (λ x. have_produced set (c + 1) olds r x.main) i ∙ ap (λ m. have_produced set m olds r (execution set r).main) (add-one c)) in
    let f4 = e9 ∙ (ap (λ b. b && ready) f3 ∙ ap (λ b. g3 && b) done) in
    let g4 : Bool = g3 && have_produced set (suc c) olds r (execution set r).main in
    let f5 = e11 ∙ (ap (λ b. b && nat_lt n config.issue) f4 ∙ ap (λ b. g4 && b) (width-kept set c config rows olds e k n e10)) in
    e13 ∙ (ap (λ b. b && unit) f5 ∙ ap (λ b. g4 && has_width set c olds && b) (e12 ∙ ap (λ x. has_unit_for set c start olds x.unit) i))

pub accesses_by : (set : Setting) (c : ℕ) (config : OooConfig) (rows : List Row) (start olds : List table.Row) (d : Row) (r : table.Row) → config ≡ set.config → AreKept set rows olds → d ≡ kept set r
    → (unaccessed one unsquashed fresh done two ready three clear four five port answer : Bool) (n : ℕ)
    → unaccessed ≡ is_none d.accessed → one ≡ (d.load && unaccessed) → unsquashed ≡ is_none d.squashed → fresh ≡ (one && unsquashed)
    → done ≡ is_before (c + 1) (written_of d) → two ≡ (fresh && done) → ready ≡ have_produced set (c + 1) olds r d.second → three ≡ (two && ready)
    → clear ≡ is_clear set c olds r → four ≡ (three && clear)
    → n ≡ count_by (λ o. is_at c o.issued || is_at c o.accessed) rows → five ≡ (four && nat_lt n config.issue)
    → port ≡ has_unit set c start olds Ports → answer ≡ (five && port) → answer ≡ accesses set c start olds r
accesses_by set c config rows start olds d r e k i unaccessed one unsquashed fresh done two ready three clear four five port answer n e1 e2 e3 e4 e5 e6 e7 e8 e9 e10 e11 e12 e13 e14 =
    let f1 = e2 ∙ (ap (λ b. d.load && b) e1 ∙ (ap (λ x. x.load && is_none x.accessed) i ∙ ap (λ b. loads set r && b) (access-none r))) in
    let g1 : Bool = loads set r && is_none r.access in
    let f2 = e4 ∙ (ap (λ b. b && unsquashed) f1 ∙ ap (λ b. g1 && b) (e3 ∙ ap (λ x. is_none x.squashed) i)) in
    let g2 : Bool = g1 && is_none r.squashed in
    let f3 = e6 ∙ (ap (λ b. b && done) f2 ∙ ap (λ b. g2 && b) (e5 ∙ (ap (λ x. is_before (c + 1) (written_of x)) i ∙ ap (λ m. is_before m (written set r)) (add-one c)))) in
    let g3 : Bool = g2 && is_before (suc c) (written set r) in
    let f4 = e8 ∙ (ap (λ b. b && ready) f3 ∙ ap (λ b. g3 && b) (e7 ∙ (ap (λ x. have_produced set (c + 1) olds r x.second) i ∙ ap (λ m. have_produced set m olds r (execution set r).second) (add-one c)))) in
    let g4 : Bool = g3 && have_produced set (suc c) olds r (execution set r).second in
    let f5 = e10 ∙ (ap (λ b. b && clear) f4 ∙ ap (λ b. g4 && b) e9) in
    let g5 : Bool = g4 && is_clear set c olds r in
    let f6 = e12 ∙ (ap (λ b. b && nat_lt n config.issue) f5 ∙ ap (λ b. g5 && b) (width-kept set c config rows olds e k n e11)) in
    e14 ∙ (ap (λ b. b && port) f6 ∙ ap (λ b. g5 && has_width set c olds && b) e13)

-- ---- older stores

abbrev pub passes : Setting → ℕ → table.Row → List table.Row → table.Row → Bool
passes set n r before o = not (live o && stores set o) || (is_before n (written set o) && (not (same_block (execution set o).memory (execution set r).memory) || done_before set n before o))

pub passes_by : (set : Setting) (n : ℕ) (olds : List table.Row) (d e : Row) (o r : table.Row) → d ≡ kept set o → e ≡ kept set r
    → (same finished done written' known store answer : Bool) → same ≡ same_block_of d e → finished ≡ done_before set n olds o → done ≡ (not same || finished)
    → written' ≡ is_before n (written_of d) → known ≡ (written' && done) → store ≡ (is_live d && d.store) → answer ≡ (not store || known)
    → answer ≡ passes set n r olds o
passes_by set n olds d e o r i j same finished done written' known store answer e1 e2 e3 e4 e5 e6 e7 =
    let blocks = e1 ∙ (ap (λ x. same_block_of x e) i ∙ (ap (λ x. same_block_of (kept set o) x) j ∙ block-kept set o r)) in
    let f1 = e3 ∙ (ap (λ b. not b || finished) blocks ∙ ap (λ b. not (same_block (execution set o).memory (execution set r).memory) || b) e2) in
    let f2 = e5 ∙ (ap (λ b. b && done) (e4 ∙ ap (λ x. is_before n (written_of x)) i) ∙ ap (λ b. is_before n (written set o) && b) f1) in
    e7 ∙ (ap (λ b. not b || known) (e6 ∙ ap (λ x. is_live x && x.store) i) ∙ ap (λ b. not (live o && stores set o) || b) f2)

pub clear_next : (set : Setting) (c : ℕ) (olds : List table.Row) (r o : table.Row) (others : List table.Row) → olds ≡ o ∷ others
    → (one more answer : Bool) → one ≡ passes set (c + 1) r others o → more ≡ is_clear set c others r → answer ≡ (one && more) → answer ≡ is_clear set c olds r
clear_next set c olds r o others is one more answer e1 e2 e3 =
    e3 ∙ (ap (λ b. b && more) (e1 ∙ ap (λ n. passes set n r others o) (add-one c)) ∙ (ap (λ b. passes set (suc c) r others o && b) e2 ∙ sym (ap (λ l. is_clear set c l r) is)))

pub forwarded_next : (set : Setting) (d e : Row) (olds : List table.Row) (r o : table.Row) (others : List table.Row) → olds ≡ o ∷ others → d ≡ kept set o → e ≡ kept set r
    → (one more answer : Bool) → one ≡ ((is_live d && d.store) && same_block_of d e) → more ≡ is_forwarded set others r → answer ≡ (one || more) → answer ≡ is_forwarded set olds r
forwarded_next set d e olds r o others is i j one more answer e1 e2 e3 =
    let f1 = e1 ∙ (ap (λ x. (is_live x && x.store) && same_block_of x e) i ∙ (ap (λ x. (live o && stores set o) && same_block_of (kept set o) x) j ∙ ap (λ b. (live o && stores set o) && b) (block-kept set o r))) in
    e3 ∙ (ap (λ b. b || more) f1 ∙ (ap (λ b. ((live o && stores set o) && same_block (execution set o).memory (execution set r).memory) || b) e2 ∙ sym (ap (λ l. is_forwarded set l r) is)))
