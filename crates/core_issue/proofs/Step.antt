-- A row's turn in the unit is its turn in the table.
use Rattle.std.proofs.Common.{◌≡◌, ℕ, ◌+◌, ◌≤◌, Bool, true, false, cond, List, [], ◌∷◌, ◌++◌, Option, Some, None, refl, sym, ap, ◌∙◌, subst, arith, length, length-append, max}
use Rattle.std.specs.Prelude.{◌&&◌, ◌||◌, ◌==◌, not, nat_lt, count_by}
use Rattle.mem_hier.specs.Replay.{Reference, Load, latency_of}
use Rattle.mem_hier.specs.Stands as hierarchy
use Rattle.fu_pool.specs.declared.pools.Pool.{Pool as Taken}
use Rattle.fu_pool.specs.Takes.{Units, units_of, units_in, busy}
use Rattle.ruu_core.specs.Window as unit
use Rattle.ooo_table.specs.Row.{Row, MemoryAccess, is_at, accessed, not_forwarded}
use Rattle.ooo_table.specs.Execution.{Pool, is_of, unit_hold, unit_latency, address}
use Rattle.ooo_table.specs.Table.{Setting}
use Rattle.ooo_table.specs.Path.{execution, loads}
use Rattle.ooo_table.specs.References.{load_references}
use Rattle.ooo_table.specs.Issue.{issues, accesses, issue_row, access_of, is_forwarded, holds, issues_at}
use Rattle.ooo_table.specs.CycleLaws.{Fresh}
use Rattle.ooo_table.specs.Bound.{Rises}
use Rattle.ooo_table.specs.Machine.{Given, setting_of}
use Rattle.ooo_table.proofs.Units.{not_at, not_at_access}
use Rattle.ooo_table.proofs.Rising.{rises_loads}
use Rattle.core_parts.specs.declared.answers.Issued.{Issued}
use Rattle.core_parts.specs.declared.answers.Issued.TheVariants as issued
use Rattle.core_parts.specs.Addresses.{address_of}
use Rattle.core_parts.specs.Stages.{issued_of, issued_in}
use Rattle.core_parts.specs.Stands.{pool_of}
use Rattle.core_parts.specs.Rows.{unit_class, Lives}
use Rattle.core_parts.proofs.Lists.{and_false, same_number, count_cons, count_skip, count_take, map_some, map_none}
use Rattle.core_issue.specs.Turns.{pool_for, TakesUnit, Returns}
use Rattle.core_issue.specs.Stage.{Rules, Shared, main_issues, access_issues, forwards, StepBy}
use Rattle.core_issue.proofs.Sweep.{Slow, unissued, unread, is_loaded}
use Rattle.core_issue.proofs.Pools.{one, Mid, issue_holds, access_holds, taken_units}

none_at : (c : ℕ) (r : Row) → Fresh c r → is_at c r.issued ≡ false
none_at c r f = not_at c r.issued f.issued

none_accessed : (c : ℕ) (r : Row) → Fresh c r → is_at c (accessed r) ≡ false
none_accessed c r f = not_at_access c r.access f.access

module _ (g : Given) (slow : Slow (setting_of g)) (c : ℕ) (base : List Reference) (rising : Rises c base) (start : List Row) where
  abbrev set : Setting
  set = setting_of g

  abbrev turn_of : List Row → Row → Row
  turn_of = issue_row set c base start

  abbrev gl : Row → Option Reference
  gl r = cond (is_at c (accessed r) && not_forwarded r.access) (Some (Load (address (execution set r).memory) c)) None

  no_load : (r : Row) → is_at c (accessed r) ≡ false → gl r ≡ None
  no_load r e = ap (λ b. cond (b && not_forwarded r.access) (Some (Load (address (execution set r).memory) c)) None) e

  -- What the pools and the hierarchy are, and what issued, after the turns of these rows
  pub record After (first : Units) (a : Shared) (all : List Issued) (older before : List Row) : Type 0 where
    pub mid : Mid set slow c base rising start g first a.pools a.hier (length all) older before
    pub is : all ≡ issued_in c before

  -- a row that is left
  pub after_left : (first : Units) (a : Shared) (all : List Issued) (older before : List Row) (r : Row) → Fresh c r → After first a all older before → After first a all (r ∷ older) (r ∷ before)
  after_left first a all older before r f after =
      record {
        mid = record {
          count = after.mid.count ∙ sym (count_skip (issues_at set c) r before (ap (λ b. b || is_at c (accessed r)) (none_at c r f) ∙ none_accessed c r f));
          held = λ q x le. omega (arith, after.mid.held q x le, count_cons (holds set q x) r older, count_cons (holds set q x) r before);
          size = after.mid.size;
          hierarchy = subst (hierarchy.StandsFor a.hier g.hier) (sym (ap (λ l. l ++ base) (map_none gl r before (no_load r (none_accessed c r f))))) after.mid.hierarchy;
        };
        is = after.is ∙ sym (ap (λ l. issued_in c before ++ l) none_of ∙ nil (issued_in c before));
      }
    where
      none_of : issued_of c (length before) r ≡ []
      none_of =
          ap (λ b. cond b (issued.Main (length before) ∷ []) [] ++ cond (is_at c (accessed r)) (issued.Access (length before) (cond (not_forwarded r.access) false true) ∷ []) []) (none_at c r f)
          ∙ ap (λ b. [] ++ cond b (issued.Access (length before) (cond (not_forwarded r.access) false true) ∷ []) []) (none_accessed c r f)

      nil : (xs : List Issued) → xs ++ [] ≡ xs
      nil [] = refl
      nil (x ∷ xs) = ap (λ l. x ∷ l) (nil xs)

  module _ (k : Rules) where
    -- the row of the unit and what is shared, after the turn
    pub step_turn : (first : Units) (a b : Shared) (earlier made : List Issued) (older before olds : List Row) (r : Row) (ys : List unit.Row) (s s' : unit.Row) → Fresh c r → Lives g s (record { row = r; older = olds }) → length before ≡ length olds
        → After first a earlier older before
        → (loads set r ≡ true → address_of s.station.row k.addresses ≡ address (execution set r).memory)
        → StepBy (main_issues c (length earlier) k a.pools ys s) (access_issues c (length earlier) k a.pools ys s) c k a s s' made b
        → issues set c start before r ≡ main_issues c (length earlier) k a.pools ys s → accesses set c start before r ≡ access_issues c (length earlier) k a.pools ys s
        → (loads set r ≡ true → access_issues c (length earlier) k a.pools ys s ≡ true → is_forwarded set before r ≡ forwards c k s)
        → Lives g s' (record { row = turn_of before r; older = before }) × After first b (earlier ++ made) (r ∷ older) (turn_of before r ∷ before)
    step_turn first a b earlier made older before olds r ys s s' f l same after addr step ei ea ef =
        by_test (issues set c start before r) (accesses set c start before r) refl refl
        (subst (λ i. StepBy i (accesses set c start before r) c k a s s' made b) (sym ei) (subst (λ d. StepBy (main_issues c (length earlier) k a.pools ys s) d c k a s s' made b) (sym ea) step))
      where
        mid : Mid set slow c base rising start g first a.pools a.hier (length earlier) older before
        mid = after.mid

        acc : MemoryAccess
        acc = access_of set c base before r

        number : s.station.row ≡ length before
        number = l.row ∙ sym same

        one_more : {X : Type 0} (x : ℕ) (xs ys : List X) → length ys ≡ 1 → length xs ≡ x → length (xs ++ ys) ≡ 1 + x
        one_more x xs ys e e' = omega (arith, length-append xs ys, e, e')

        by_test : (i d : Bool) → issues set c start before r ≡ i → accesses set c start before r ≡ d → StepBy i d c k a s s' made b
            → Lives g s' (record { row = cond i (record r { issued = Some c }) (cond d (record r { access = Some (access_of set c base before r) }) r); older = before })
            × After first b (earlier ++ made) (r ∷ older) (cond i (record r { issued = Some c }) (cond d (record r { access = Some (access_of set c base before r) }) r) ∷ before)
        by_test true d e e' (is, made_is, pools, hier) = (
          subst (λ x. Lives g x (record { row = record r { issued = Some c }; older = before })) (sym is)
              (record {
                row = number;
                station = l.station;
                dispatched = l.dispatched;
                issued = refl;
                written = ap (λ u. Some (c + unit_latency u)) (sym l.station.operates.unit);
                accessed = l.accessed;
                returned = l.returned;
              }),
          record {
            mid = record {
              count = one_more (count_by (issues_at set c) before) earlier made (ap length made_is) mid.count ∙ sym (count_take (issues_at set c) (record r { issued = Some c }) before (ap (λ b. b || is_at c (accessed r)) (same_number c)));
              held = λ q x le.
                  omega (arith, mid.held q x le, taken_units c (unit_class s.station) a.pools b.pools pools q x le, issue_holds set slow c base rising start q x r le (unissued set slow c base rising start before r e), ap (λ u. one (is_of q u && nat_lt x (c + unit_hold u))) l.station.operates.unit, count_cons (holds set q x) r older, count_cons (holds set q x) (record r { issued = Some c }) before);
              size = λ q. sizes (pool_for (unit_class s.station)) (unit_hold (unit_class s.station)) pools q ∙ mid.size q;
              hierarchy = subst (λ h. hierarchy.StandsFor h g.hier (load_references set c (record r { issued = Some c } ∷ before) base)) (sym hier)
                  (subst (hierarchy.StandsFor a.hier g.hier) (sym (ap (λ l. l ++ base) (map_none gl (record r { issued = Some c }) before (no_load (record r { issued = Some c }) (none_accessed c r f))))) mid.hierarchy);
            };
            is = joined earlier (issued_in c before) made (issued_of c (length before) (record r { issued = Some c })) after.is
                (made_is
                ∙ (ap (λ n. issued.Main n ∷ []) number
                ∙ sym (ap (λ b. cond b (issued.Main (length before) ∷ []) [] ++ cond (is_at c (accessed r)) (issued.Access (length before) (cond (not_forwarded r.access) false true) ∷ []) []) (same_number c)
                ∙ ap (λ b. (issued.Main (length before) ∷ []) ++ cond b (issued.Access (length before) (cond (not_forwarded r.access) false true) ∷ []) []) (none_accessed c r f))));
          },
        )
          where
            sizes : (o : Option Taken) (n : ℕ) → TakesUnit o c n a.pools b.pools → (q : Pool) → units_in b.pools (pool_of q) ≡ units_in a.pools (pool_of q)
            sizes None n h q = ap (λ v. units_in v (pool_of q)) h
            sizes (Some p) n h q = h.sizes (pool_of q)

            joined : (xs ys zs ws : List Issued) → xs ≡ ys → zs ≡ ws → xs ++ zs ≡ ys ++ ws
            joined xs ys zs ws e f = ap (λ l. l ++ zs) e ∙ ap (λ l. ys ++ l) f
        by_test false true e e' (back, is, made_is, pools, returns) = by_forward (is_forwarded set before r) refl (subst (λ w. Returns w c (address_of s.station.row k.addresses) back a.hier b.hier) (sym forwarded) returns)
          where
            loaded : loads set r ≡ true
            loaded = is_loaded set slow c base rising start before r e'

            forwarded : is_forwarded set before r ≡ forwards c k s
            forwarded = ef loaded (sym ea ∙ e')

            now : Row
            now = record r { access = Some (access_of set c base before r) }

            counted : length (earlier ++ made) ≡ count_by (issues_at set c) (now ∷ before)
            counted = one_more (count_by (issues_at set c) before) earlier made (ap length made_is) mid.count ∙ sym (count_take (issues_at set c) now before (ap (λ b. is_at c r.issued || b) (same_number c) ∙ or_true (is_at c r.issued)))
              where
                or_true : (b : Bool) → (b || true) ≡ true
                or_true true = refl
                or_true false = refl

            helds : (q : Pool) (x : ℕ) → c ≤ x → busy x (units_of b.pools (pool_of q)) + count_by (holds set q x) (r ∷ older) ≡ busy x (units_of first (pool_of q)) + count_by (holds set q x) (now ∷ before)
            helds q x le = omega (arith, mid.held q x le, pools.more (pool_of q) x le, access_holds set slow c base rising start q x r (access_of set c base before r) refl le (unread set slow c base rising start before r e') loaded, count_cons (holds set q x) r older, count_cons (holds set q x) now before)

            lives : back ≡ (access_of set c base before r).back → Lives g s' (record { row = now; older = before })
            lives eb =
                subst (λ x. Lives g x (record { row = now; older = before })) (sym is)
                (record { row = number; station = l.station; dispatched = l.dispatched; issued = l.issued; written = l.written; accessed = refl; returned = ap (λ x. Some x) (sym eb) })

            alls : (w : Bool) → is_forwarded set before r ≡ w → earlier ++ made ≡ issued_in c (now ∷ before)
            alls w ew =
                ap (λ l. l ++ made) after.is
                ∙ ap (λ l. issued_in c before ++ l)
                (made_is
                ∙ (ap (λ n. issued.Access n (forwards c k s) ∷ []) number
                ∙ (ap (λ b. issued.Access (length before) b ∷ []) (sym forwarded)
                ∙ sym (ap (λ b. cond b (issued.Main (length before) ∷ []) [] ++ cond (c == c) (issued.Access (length before) (cond (not (is_forwarded set before r)) false true) ∷ []) []) (none_at c r f)
                ∙ (ap (λ b. [] ++ cond b (issued.Access (length before) (cond (not (is_forwarded set before r)) false true) ∷ []) []) (same_number c)
                ∙ ap (λ b. issued.Access (length before) b ∷ []) (flag (is_forwarded set before r)))))))
              where
                flag : (b : Bool) → cond (not b) false true ≡ b
                flag true = refl
                flag false = refl

            by_forward : (w : Bool) → is_forwarded set before r ≡ w → Returns w c (address_of s.station.row k.addresses) back a.hier b.hier
                → Lives g s' (record { row = now; older = before }) × After first b (earlier ++ made) (r ∷ older) (now ∷ before)
            by_forward true ew (eb, eh) = (
              lives (eb ∙ sym (ap (λ w. c + cond w 1 (set.latency (Load (address (execution set r).memory) c) (load_references set c before base))) ew)),
              record {
                mid = record {
                  count = counted;
                  held = helds;
                  size = λ q. pools.sizes (pool_of q) ∙ mid.size q;
                  hierarchy = subst (λ h. hierarchy.StandsFor h g.hier (load_references set c (now ∷ before) base)) (sym eh)
                      (subst (hierarchy.StandsFor a.hier g.hier) (sym (ap (λ l. l ++ base) (map_none gl now before (ap (λ w. cond ((c == c) && not w) (Some (Load (address (execution set r).memory) c)) None) ew ∙ ap (λ b. cond b (Some (Load (address (execution set r).memory) c)) None) (and_false (c == c)))))) mid.hierarchy);
                };
                is = alls true ew;
              },
            )
            by_forward false ew returns =
                let it = returns.0 g.hier (load_references set c before base) mid.hierarchy in
                let address_is : address_of s.station.row k.addresses ≡ address (execution set r).memory = addr loaded in
                let least : 1 ≤ set.latency (Load (address (execution set r).memory) c) (load_references set c before base) = slow (address (execution set r).memory) c (load_references set c before base) (rises_loads set c before base rising) in
                let eb : back ≡ c + set.latency (Load (address (execution set r).memory) c) (load_references set c before base) =
                it.0 ∙ (ap (λ x. c + max (latency_of g.hier (load_references set c before base) (Load x c)) 1) address_is ∙ greater c (set.latency (Load (address (execution set r).memory) c) (load_references set c before base)) least) in (
                  lives (eb ∙ sym (ap (λ w. c + cond w 1 (set.latency (Load (address (execution set r).memory) c) (load_references set c before base))) ew)),
                  record {
                    mid = record {
                      count = counted;
                      held = helds;
                      size = λ q. pools.sizes (pool_of q) ∙ mid.size q;
                      hierarchy = subst (hierarchy.StandsFor b.hier g.hier)
                          (ap (λ x. Load x c ∷ load_references set c before base) address_is
                          ∙ sym (ap (λ l. l ++ base) (map_some gl now before (Load (address (execution set r).memory) c) (ap (λ w. cond ((c == c) && not w) (Some (Load (address (execution set r).memory) c)) None) ew ∙ ap (λ b. cond (b && true) (Some (Load (address (execution set r).memory) c)) None) (same_number c)))))
                          it.1;
                    };
                    is = alls false ew;
                  },
                )
              where
                greater : (c n : ℕ) → 1 ≤ n → c + max n 1 ≡ c + n
                greater c n le = omega arith
        by_test false false e e' (is, none, eb) = (
          subst (λ x. Lives g x (record { row = r; older = before })) (sym is) (record { row = number; station = l.station; dispatched = l.dispatched; issued = l.issued; written = l.written; accessed = l.accessed; returned = l.returned }),
          subst (λ x. After first x (earlier ++ made) (r ∷ older) (r ∷ before)) (sym eb) (subst (λ x. After first a x (r ∷ older) (r ∷ before)) (sym (ap (λ l. earlier ++ l) none ∙ nil earlier)) (after_left first a earlier older before r f after)),
        )
          where
            nil : (xs : List Issued) → xs ++ [] ≡ xs
            nil [] = refl
            nil (x ∷ xs) = ap (λ l. x ∷ l) (nil xs)
