-- Which rows commit.
use Rattle.std.proofs.Common.{◌≡◌, ℕ, Bool, List, refl, sym, ap, ◌∙◌}
use Rattle.std.specs.Prelude.{not, nat_lt, ◌&&◌, ◌||◌, count_by, is_some, is_none}
use Rattle.std.specs.List.{list_all}
use Rattle.ooo_table.specs.declared.config.OooConfig.{OooConfig}
use Rattle.ooo_table.specs.Row as table
use Rattle.ooo_table.specs.Row.{is_at}
use Rattle.ooo_table.specs.Table.{Setting}
use Rattle.ooo_table.specs.Path.{stores}
use Rattle.ooo_table.specs.Done.{done_before}
use Rattle.ooo_table.specs.Commit.{commits}
use Rattle.ooo_plain.specs.declared.row.Row.{Row}
use Rattle.ooo_plain.specs.Kept.{kept, AreKept}
use Rattle.ooo_plain.proofs.Lists.{list_all-kept, count_by-kept}

pub commits_by : (set : Setting) (c : ℕ) (config : OooConfig) (rows : List Row) (olds : List table.Row) (d : Row) (r : table.Row)
    → config ≡ set.config → AreKept set rows olds → d ≡ kept set r
    → (none fresh done first in_order ready wide port answer : Bool) (n m : ℕ)
    → none ≡ is_none d.committed → fresh ≡ (d.right && none) → done ≡ done_before set c olds r → first ≡ (fresh && done)
    → in_order ≡ list_all (λ o. not o.right || is_some o.committed) rows → ready ≡ (first && in_order)
    → n ≡ count_by (λ o. is_at c o.committed) rows → wide ≡ (ready && nat_lt n config.commit)
    → m ≡ count_by (λ o. is_at c o.committed && o.store) rows → port ≡ (not d.store || nat_lt m config.ports)
    → answer ≡ (wide && port) → answer ≡ commits set c olds r
commits_by set c config rows olds d r e k i none fresh done first in_order ready wide port answer n m e1 e2 e3 e4 e5 e6 e7 e8 e9 e10 e11 =
    let settled = e5 ∙ list_all-kept set (λ o. not o.right || is_some o.committed) (λ o. not o.fetched.right || is_some o.committed) (λ o. refl) rows olds k in
    let width = e7 ∙ count_by-kept set (λ o. is_at c o.committed) (λ o. is_at c o.committed) (λ o. refl) rows olds k in
    let ports = e9 ∙ count_by-kept set (λ o. is_at c o.committed && o.store) (λ o. is_at c o.committed && stores set o) (λ o. refl) rows olds k in
    let step1 : first ≡ (r.fetched.right && is_none r.committed && done_before set c olds r) = e4 ∙ (ap (λ b. fresh && b) e3 ∙ ap (λ b. b && done_before set c olds r) (e2 ∙ (ap (λ b. d.right && b) e1 ∙ ap (λ x. x.right && is_none x.committed) i))) in
    let step2 = e6 ∙ (ap (λ b. b && in_order) step1 ∙ ap (λ b. (r.fetched.right && is_none r.committed && done_before set c olds r) && b) settled) in
    let step3 = e8 ∙ (ap (λ b. b && nat_lt n config.commit) step2 ∙ (ap (λ x. (r.fetched.right && is_none r.committed && done_before set c olds r && list_all (λ o. not o.fetched.right || is_some o.committed) olds) && nat_lt x config.commit) width
    ∙ ap (λ g. (r.fetched.right && is_none r.committed && done_before set c olds r && list_all (λ o. not o.fetched.right || is_some o.committed) olds) && nat_lt (count_by (λ o. is_at c o.committed) olds) g.commit) e)) in
    let step4 = e10 ∙ (ap (λ x. not x.store || nat_lt m config.ports) i ∙ (ap (λ x. not (stores set r) || nat_lt x config.ports) ports ∙ ap (λ g. not (stores set r) || nat_lt (count_by (λ o. is_at c o.committed && stores set o) olds) g.ports) e)) in
    e11 ∙ (ap (λ b. b && port) step3 ∙ ap (λ b. (r.fetched.right && is_none r.committed && done_before set c olds r && list_all (λ o. not o.fetched.right || is_some o.committed) olds && nat_lt (count_by (λ o. is_at c o.committed) olds) set.config.commit) && b) step4)
