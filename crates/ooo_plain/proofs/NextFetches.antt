-- The row that is fetched next.
use Rattle.std.proofs.Common.{◌≡◌, ℕ, suc, ◌+◌, ◌^◌, ◌%◌, Bool, true, false, cond, List, Option, Some, None, refl, sym, ap, ◌∙◌}
use Rattle.std.specs.Prelude.{not, nat_le, nat_lt, nat_eq, max, ◌==◌, ◌&&◌, ◌||◌, count_by, find, option_map, if◌then◌else◌}
use Rattle.ooo_table.specs.declared.config.OooConfig.{OooConfig}
use Rattle.ooo_table.specs.Row as table
use Rattle.ooo_table.specs.Table as given
use Rattle.ooo_table.specs.Table.{Setting, Table}
use Rattle.ooo_table.specs.Path.{execution, keeps_fetching, next_fetch_after, redirected}
use Rattle.ooo_table.specs.Done.{waiting}
use Rattle.ooo_table.specs.Recovery.{recovers, recover}
use Rattle.ooo_table.specs.Fetch.{may_fetch}
use Rattle.ooo_plain.specs.declared.row.Row.{Row}
use Rattle.ooo_plain.specs.declared.next_fetch.NextFetch.{NextFetch}
use Rattle.ooo_plain.specs.Kept.{kept, AreKept}
use Rattle.ooo_plain.specs.NextFetch.{kept_next}

pub may_by : (set : Setting) (c : ℕ) (config : OooConfig) (t : Table) (next : NextFetch) → config ≡ set.config → next ≡ kept_next t.next_fetch
    → (n : ℕ) (answer : Bool) → n ≡ count_by waiting t.rows → answer ≡ (nat_le next.earliest c && nat_lt n config.ifq) → answer ≡ may_fetch set c t
may_by set c config t next e i n answer e1 e2 =
    e2 ∙ (ap (λ x. nat_le x.earliest c && nat_lt n config.ifq) i ∙ (ap (λ x. nat_le t.next_fetch.earliest c && nat_lt x config.ifq) e1
    ∙ ap (λ g. nat_le t.next_fetch.earliest c && nat_lt (count_by waiting t.rows) g.ifq) e))

pub stays_by : (set : Setting) (c : ℕ) (n : given.NextFetch) (next : NextFetch) (answer : Option ℕ) (o : Option table.Row) → next ≡ kept_next n
    → answer ≡ option_map (λ m. (execution set m).next) o → answer ≡ None → next ≡ kept_next (redirected set c o n)
stays_by set c n next answer None i e k = i
stays_by set c n next answer (Some m) i e k = absurd (nothing (sym k ∙ e))
  where
    nothing : None ≡ Some (execution set m).next → ⊥
    nothing h = cc

abbrev pub redirected_to : ℕ → ℕ → NextFetch
redirected_to pc early = record { pc = pc; earliest = early; right = true }

pub goes_by : (set : Setting) (c : ℕ) (config : OooConfig) (n : given.NextFetch) (pc : ℕ) (answer : Option ℕ) (o : Option table.Row) → config ≡ set.config
    → answer ≡ option_map (λ m. (execution set m).next) o → answer ≡ Some pc → record { pc = pc; earliest = c + config.penalty; right = true } ≡ kept_next (redirected set c o n)
goes_by set c config n pc answer None e i k = absurd (nothing (sym i ∙ k))
  where
    nothing : None ≡ Some pc → ⊥
    nothing h = cc
goes_by set c config n pc answer (Some m) e i k =
    let is : Some pc ≡ Some (execution set m).next = sym k ∙ i in
    let is' : pc ≡ (execution set m).next = ap (λ o. from o) is in
    ap (λ x. record { pc = x; earliest = c + config.penalty; right = true }) is' ∙ ap (λ g. record { pc = (execution set m).next; earliest = c + g.penalty; right = true }) e
  where
    from : Option ℕ → ℕ
    from None = 0
    from (Some x) = x

pub after_by : (set : Setting) (c : ℕ) (d : Row) (r : table.Row) → d ≡ kept set r → (keeps goes right : Bool) (early : ℕ)
    → keeps ≡ keeps_fetching set c r → early ≡ (if keeps then c else max (suc c) d.queued) → goes ≡ (d.right && not d.stops) → right ≡ (goes && (d.predicted == d.next))
    → record { pc = d.predicted; earliest = early; right = right } ≡ kept_next (next_fetch_after set c r)
after_by set c d r i keeps goes right early e1 e2 e3 e4 =
    let when : early ≡ (if keeps_fetching set c r then c else max (suc c) r.fetched.queued) =
    e2 ∙ (ap (λ b. cond b c (max (suc c) d.queued)) e1 ∙ ap (λ x. cond (keeps_fetching set c r) c (max (suc c) x.queued)) i) in
    let on : right ≡ (r.fetched.right && not (execution set r).stops && (r.fetched.predicted == (execution set r).next)) =
    e4 ∙ (ap (λ b. b && (d.predicted == d.next)) e3 ∙ (ap (λ x. x.right && not x.stops && (x.predicted == x.next)) i ∙ by_right r.fetched.right)) in
    ap (λ x. record { pc = x.predicted; earliest = early; right = right }) i
    ∙ (ap (λ x. record { pc = r.fetched.predicted; earliest = x; right = right }) when
    ∙ ap (λ x. record { pc = r.fetched.predicted; earliest = if keeps_fetching set c r then c else max (suc c) r.fetched.queued; right = x }) on)
  where
    by_right : (b : Bool) → (b && not (b && (execution set r).stops) && (r.fetched.predicted == cond (b || (execution set r).control) (execution set r).next 0))
        ≡ (b && not (execution set r).stops && (r.fetched.predicted == (execution set r).next))
    by_right true = refl
    by_right false = refl
