-- The turns of the issue stage.
use Rattle.std.proofs.Common.{◌≡◌, ℕ, zero, suc, ◌+◌, ◌-◌, ◌<◌, ◌≤◌, Bool, true, false, cond, List, [], ◌∷◌, length, Option, Some, None, take, drop, get_or, set, refl, sym, ap, ◌∙◌, arith, length-drop, length-set, eq-eqb}
use Rattle.std.specs.Prelude.{map, not, nat_eq, ◌&&◌, ◌||◌, if◌then◌else◌}
use Rattle.std.specs.List.{list_any}
use Rattle.std.proofs.lemmas.List.{take-set, drop-set}
use Rattle.mem_hier.specs.Replay.{Reference, Load, latency_of}
use Rattle.mem_hier.specs.Stands.{Held, StandsFor}
use Rattle.ooo_table.specs.Row as table
use Rattle.ooo_table.specs.Row.{is_at, accessed, not_forwarded, sweep}
use Rattle.ooo_table.specs.Execution.{address}
use Rattle.ooo_table.specs.Path.{execution}
use Rattle.ooo_table.specs.References.{load_references}
use Rattle.ooo_table.specs.Issue.{issues, accesses, issue_row, access_of, is_forwarded}
use Rattle.ooo_table.specs.Machine.{Given, setting_of}
use Rattle.ooo_plain.specs.declared.row.Row.{Row}
use Rattle.ooo_plain.specs.Kept.{kept, AreKept}
use Rattle.ooo_plain.specs.Asked.{referred_if}
use Rattle.ooo_plain.specs.IssueStage.{NoAccess, AccessLeft, Left, IssueTurned, IssueSwept}
use Rattle.ooo_plain.proofs.Sweeps.{behind, Parts, parts_at, drop_at, same_default, same_item, take_shorter, drop_past}
use Rattle.ooo_plain.proofs.Told.{load_same, load_more, stands_as}

abbrev pub issued_row : ℕ → table.Row → table.Row
issued_row c r = record r { issued = Some c }

abbrev pub accessed_row : Given → ℕ → List Reference → List table.Row → table.Row → table.Row
accessed_row g c base olds r = record r { access = Some (access_of (setting_of g) c base olds r) }

abbrev pub issued_as : ℕ → Row → Row
issued_as c d = record d { issued = Some c }

-- ---- what a turn may do

pub issued_turn : (g : Given) (c : ℕ) (base : List Reference) (start : List table.Row) (at : ℕ) (old new : List Row) (h : Held) (d d' : Row) (answer : Bool)
    → at < length old → d ≡ get_or old at d
    → ((olds : List table.Row) (r : table.Row) → AreKept (setting_of g) (behind at old) olds → d ≡ kept (setting_of g) r → answer ≡ issues (setting_of g) c start olds r) → answer ≡ true
    → new ≡ set old at (issued_as c (get_or old at d')) → IssueTurned g c base start at old new h h
issued_turn g c base start at old new h d d' answer inside is said holds e =
    record {
      turn = λ olds r k fresh s.
          let p = parts_at (setting_of g) at old d olds r inside is k in
          let passes : issues (setting_of g) c start olds r ≡ true = sym (said olds r p.rest p.first) ∙ holds in
          let one : table.Row = issued_row c r in
          let row : issue_row (setting_of g) c base start olds r ≡ one = ap (λ b. cond b one (cond (accesses (setting_of g) c start olds r) (accessed_row g c base olds r) r)) passes in
          let first : get_or old at d' ≡ kept (setting_of g) r = same_default at old d' d inside ∙ (sym is ∙ p.first) in
          record {
            rows = ap (drop at) e ∙ (drop-set old at (issued_as c (get_or old at d')) inside
                ∙ (ap (λ x. issued_as c x ∷ drop (at + 1) old) first ∙ (ap (λ l. kept (setting_of g) one ∷ l) p.later ∙ ap (λ x. map (kept (setting_of g)) (x ∷ olds)) (sym row))));
            hier = stands_as h g.hier _ _ (sym (ap (λ x. load_references (setting_of g) c (x ∷ olds) base) row ∙ load_same (setting_of g) c one olds base (ap (λ b. b && not_forwarded r.access) fresh))) s;
          };
      younger = ap (take at) e ∙ take-set old at (issued_as c (get_or old at d'));
      many = ap length e ∙ length-set old at (issued_as c (get_or old at d'));
    }

pub accessed_turn : (g : Given) (c : ℕ) (base : List Reference) (start : List table.Row) (at : ℕ) (old new : List Row) (before after : Held) (d : Row) (first second : Bool)
    → at < length old → d ≡ get_or old at d
    → ((olds : List table.Row) (r : table.Row) → AreKept (setting_of g) (behind at old) olds → d ≡ kept (setting_of g) r → first ≡ issues (setting_of g) c start olds r) → first ≡ false
    → ((olds : List table.Row) (r : table.Row) → AreKept (setting_of g) (behind at old) olds → d ≡ kept (setting_of g) r → second ≡ accesses (setting_of g) c start olds r) → second ≡ true
    → ((olds : List table.Row) (r : table.Row) → AreKept (setting_of g) (drop at old) (r ∷ olds) → StandsFor before g.hier (load_references (setting_of g) c olds base) → AccessLeft g c base at old new after olds r)
    → take at new ≡ take at old → length new ≡ length old
    → IssueTurned g c base start at old new before after
accessed_turn g c base start at old new before after d first second inside is said fails said' holds left younger many =
    record {
      turn = λ olds r k fresh s.
          let p = parts_at (setting_of g) at old d olds r inside is k in
          let fails' : issues (setting_of g) c start olds r ≡ false = sym (said olds r p.rest p.first) ∙ fails in
          let passes : accesses (setting_of g) c start olds r ≡ true = sym (said' olds r p.rest p.first) ∙ holds in
          let one : table.Row = accessed_row g c base olds r in
          let row : issue_row (setting_of g) c base start olds r ≡ one =
          ap (λ b. cond b (issued_row c r) (cond (accesses (setting_of g) c start olds r) one r)) fails' ∙ ap (λ b. cond b one r) passes in
          let l = left olds r k s in
          record {
            rows = l.rows ∙ ap (λ x. map (kept (setting_of g)) (x ∷ olds)) (sym row);
            hier = stands_as after g.hier _ _ (sym (ap (λ x. load_references (setting_of g) c (x ∷ olds) base) row ∙ told olds r (is_forwarded (setting_of g) olds r) refl)) l.hier;
          };
      younger = younger;
      many = many;
    }
  where
    told : (olds : List table.Row) (r : table.Row) (b : Bool) → is_forwarded (setting_of g) olds r ≡ b
        → load_references (setting_of g) c (accessed_row g c base olds r ∷ olds) base
        ≡ referred_if b (Load (address (execution (setting_of g) r).memory) c) (load_references (setting_of g) c olds base)
    told olds r true e =
        load_same (setting_of g) c (accessed_row g c base olds r) olds base (ap (λ b. nat_eq c c && not b) e ∙ ap (λ b. b && false) (eq-eqb c c refl))
    told olds r false e =
        load_more (setting_of g) c (accessed_row g c base olds r) olds base (ap (λ b. nat_eq c c && not b) e ∙ ap (λ b. b && true) (eq-eqb c c refl))

pub idle_turn : (g : Given) (c : ℕ) (base : List Reference) (start : List table.Row) (at : ℕ) (old : List Row) (h : Held) (d : Row) (first second : Bool)
    → at < length old → d ≡ get_or old at d
    → ((olds : List table.Row) (r : table.Row) → AreKept (setting_of g) (behind at old) olds → d ≡ kept (setting_of g) r → first ≡ issues (setting_of g) c start olds r) → first ≡ false
    → ((olds : List table.Row) (r : table.Row) → AreKept (setting_of g) (behind at old) olds → d ≡ kept (setting_of g) r → second ≡ accesses (setting_of g) c start olds r) → second ≡ false
    → IssueTurned g c base start at old old h h
idle_turn g c base start at old h d first second inside is said fails said' fails2 =
    record {
      turn = λ olds r k fresh s.
          let p = parts_at (setting_of g) at old d olds r inside is k in
          let fails' : issues (setting_of g) c start olds r ≡ false = sym (said olds r p.rest p.first) ∙ fails in
          let none : accesses (setting_of g) c start olds r ≡ false = sym (said' olds r p.rest p.first) ∙ fails2 in
          let one : table.Row = accessed_row g c base olds r in
          let row : issue_row (setting_of g) c base start olds r ≡ r =
          ap (λ b. cond b (issued_row c r) (cond (accesses (setting_of g) c start olds r) one r)) fails' ∙ ap (λ b. cond b one r) none in
          record {
            rows = k ∙ ap (λ x. map (kept (setting_of g)) (x ∷ olds)) (sym row);
            hier = stands_as h g.hier _ _ (sym (ap (λ x. load_references (setting_of g) c (x ∷ olds) base) row ∙ load_same (setting_of g) c r olds base (ap (λ b. b && not_forwarded r.access) fresh))) s;
          };
      younger = refl;
      many = refl;
    }

-- ---- an access

not_not : (b : Bool) → b ≡ not (not b)
not_not true = refl
not_not false = refl

abbrev pub accessed_as : ℕ → ℕ → Bool → Row → Row
accessed_as c n forwarded d = record d { accessed = Some c; returned = Some (c + n); forwarded = forwarded }

pub access_left : (g : Given) (c : ℕ) (base : List Reference) (at : ℕ) (old new : List Row) (before after : Held) (d d' : Row) (olds : List table.Row) (r : table.Row)
    → at < length old → d ≡ get_or old at d → AreKept (setting_of g) (drop at old) (r ∷ olds) → (forwarded : Bool) (n addr : ℕ)
    → ((xs : List table.Row) (x : table.Row) → AreKept (setting_of g) (behind at old) xs → d ≡ kept (setting_of g) x → forwarded ≡ is_forwarded (setting_of g) xs x)
    → addr ≡ d.address → n ≡ (if forwarded then 1 else latency_of g.hier (load_references (setting_of g) c olds base) (Load addr c))
    → new ≡ set old at (accessed_as c n forwarded (get_or old at d'))
    → StandsFor after g.hier (referred_if forwarded (Load addr c) (load_references (setting_of g) c olds base))
    → AccessLeft g c base at old new after olds r
access_left g c base at old new before after d d' olds r inside is k forwarded n addr said a e1 e2 s =
    let p = parts_at (setting_of g) at old d olds r inside is k in
    let h : List Reference = load_references (setting_of g) c olds base in
    let gives : forwarded ≡ is_forwarded (setting_of g) olds r = said olds r p.rest p.first in
    let where' : addr ≡ address (execution (setting_of g) r).memory = a ∙ ap (λ x. x.address) p.first in
    let takes : n ≡ (if is_forwarded (setting_of g) olds r then 1 else latency_of g.hier h (Load (address (execution (setting_of g) r).memory) c)) =
    e1 ∙ (ap (λ b. cond b 1 (latency_of g.hier h (Load addr c))) gives ∙ ap (λ x. cond (is_forwarded (setting_of g) olds r) 1 (latency_of g.hier h (Load x c))) where') in
    let first : get_or old at d' ≡ kept (setting_of g) r = same_default at old d' d inside ∙ (sym is ∙ p.first) in
    let f : Bool = is_forwarded (setting_of g) olds r in
    record {
      rows = ap (drop at) e2 ∙ (drop-set old at (accessed_as c n forwarded (get_or old at d')) inside
          ∙ (ap (λ x. accessed_as c n forwarded x ∷ drop (at + 1) old) first
          ∙ (ap (λ x. accessed_as c x forwarded (kept (setting_of g) r) ∷ drop (at + 1) old) takes
          ∙ (ap (λ b. accessed_as c (if f then 1 else latency_of g.hier h (Load (address (execution (setting_of g) r).memory) c)) b (kept (setting_of g) r) ∷ drop (at + 1) old) (gives ∙ not_not f)
          ∙ ap (λ l. kept (setting_of g) (accessed_row g c base olds r) ∷ l) p.later))));
      younger = ap (take at) e2 ∙ take-set old at (accessed_as c n forwarded (get_or old at d'));
      many = ap length e2 ∙ length-set old at (accessed_as c n forwarded (get_or old at d'));
      hier = stands_as after g.hier _ _ (ap (λ b. referred_if b (Load addr c) h) gives ∙ ap (λ x. referred_if f (Load x c) h) where') s;
    }

-- ---- sweeps

or_first : (a b : Bool) → (a || b) ≡ false → a ≡ false
or_first true b e = absurd cc
or_first false b e = refl

or_second : (a b : Bool) → (a || b) ≡ false → b ≡ false
or_second true b e = absurd cc
or_second false b e = e

pub issue_end : (g : Given) (c : ℕ) (base : List Reference) (start : List table.Row) (at : ℕ) (old : List Row) (h : Held) → length old ≤ at → IssueSwept g c base start at old old h h
issue_end g c base start at old h past =
    record { sweep = λ olds k none s. from olds k s; younger = refl; many = refl }
  where
    from : (olds : List table.Row) → AreKept (setting_of g) (drop at old) olds → StandsFor h g.hier base → Left g c base (drop at old) h (sweep (issue_row (setting_of g) c base start) olds)
    from [] k s = record { rows = k; hier = s }
    from (o ∷ olds) k s = absurd (nothing (sym (drop_past at old past) ∙ k))
      where
        nothing : [] ≡ kept (setting_of g) o ∷ map (kept (setting_of g)) olds → ⊥
        nothing e = cc

pub issue_next : (g : Given) (c : ℕ) (base : List Reference) (start : List table.Row) (at : ℕ) (old mid new : List Row) (before between after : Held) → at < length old
    → IssueSwept g c base start (at + 1) old mid before between → IssueTurned g c base start at mid new between after → IssueSwept g c base start at old new before after
issue_next g c base start at old mid new before between after inside swept turn =
    record {
      sweep = λ olds k none s. from olds k none s;
      younger = turn.younger ∙ take_shorter at mid old swept.younger;
      many = turn.many ∙ swept.many;
    }
  where
    from : (olds : List table.Row) → AreKept (setting_of g) (drop at old) olds → NoAccess c olds → StandsFor before g.hier base → Left g c base (drop at new) after (sweep (issue_row (setting_of g) c base start) olds)
    from [] k none s = absurd (no_rows (sym (ap length k)))
      where
        no_rows : 0 ≡ length (drop at old) → ⊥
        no_rows e = omega (arith, length-drop at old)
    from (r ∷ olds) k none s =
        let d : Row = get_or old at (kept (setting_of g) r) in
        let is : d ≡ get_or old at d = same_default at old (kept (setting_of g) r) d inside in
        let p = parts_at (setting_of g) at old d olds r inside is k in
        let inside' : at < length mid = omega (arith, swept.many) in
        let was : get_or mid at d ≡ kept (setting_of g) r = same_item at mid old d swept.younger ∙ (sym is ∙ p.first) in
        let l = swept.sweep olds p.later (or_second (is_at c (accessed r)) (list_any (λ x. is_at c (accessed x)) olds) none) s in
        let have : AreKept (setting_of g) (drop at mid) (r ∷ sweep (issue_row (setting_of g) c base start) olds) =
        drop_at at mid d inside' ∙ (ap (λ x. x ∷ drop (at + 1) mid) was ∙ ap (λ xs. kept (setting_of g) r ∷ xs) l.rows) in
        turn.turn (sweep (issue_row (setting_of g) c base start) olds) r have (or_first (is_at c (accessed r)) (list_any (λ x. is_at c (accessed x)) olds) none) l.hier
