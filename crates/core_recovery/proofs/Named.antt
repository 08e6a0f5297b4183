-- The row that recovers by the unit's marks is the one that recovers in the table.
use Rattle.std.proofs.Common.{◌≡◌, ℕ, Bool, true, false, cond, List, [], ◌∷◌, Option, Some, None, refl, sym, ap, ◌∙◌, length}
use Rattle.std.specs.Prelude.{◌&&◌, ◌||◌, ◌==◌, not}
use Rattle.std.specs.List.{AllZip, list_any}
use Rattle.mem_hier.specs.Replay.{greatest_fetch_of, greatest_load_of}
use Rattle.ruu_core.specs.Window as unit
use Rattle.ooo_table.specs.Row.{Row, is_at}
use Rattle.ooo_table.specs.Path.{execution}
use Rattle.ooo_table.specs.Done.{live, written}
use Rattle.ooo_table.specs.Recovery as table
use Rattle.ooo_table.specs.Cycle.{after_commit}
use Rattle.ooo_table.specs.Later.{Each}
use Rattle.ooo_table.specs.CycleLaws.{RecoversLive}
use Rattle.ooo_table.specs.Machine.{Given, setting_of}
use Rattle.ooo_table.proofs.Route.{Route, right_stands}
use Rattle.ooo_table.proofs.CycleFacts.{route_one, live_one}
use Rattle.ooo_table.proofs.Timely.{bounded}
use Rattle.core_parts.specs.declared.parts.Parts.{Parts}
use Rattle.core_parts.specs.Rows.{pick, newest_number, Lives}
use Rattle.core_parts.specs.Stages.{RecoversAt}
use Rattle.core_recovery.specs.Recovery.{recovers, recovering_in}
use Rattle.core_recovery.proofs.Least.{both}

same_at : (c : ℕ) (m : Option ℕ) → unit.is_at c m ≡ is_at c m
same_at c None = refl
same_at c (Some t) = refl

same_test : (c : ℕ) (w right stops : Bool) (pred pred' act next : ℕ) (m m' : Option ℕ) → w ≡ not right → (right ≡ true → stops ≡ false) → pred ≡ pred' → (right ≡ true → act ≡ next) → m' ≡ m
    → (not w && not (pred == act) && unit.is_at c m) ≡ (right && not stops && not (pred' == next) && is_at c m')
same_test c w true stops pred pred' act next m m' e possible f actual g = rw (e, possible refl, f, actual refl, g, same_at c m) refl
same_test c w false stops pred pred' act next m m' e possible f actual g = rw (e) refl

module _ (g : Given) (c : ℕ) where
  -- of a live row the station and the marks say whether it recovers
  pub test_same : (u : unit.Row) (r : Row) (before : List unit.Row) (older : List Row) → Lives g u (record { row = r; older = older })
      → recovers c before u ≡ table.recovers (setting_of g) c r
  test_same u r before older l =
      same_test c u.station.wrong r.fetched.right (execution (setting_of g) r).stops u.station.predicted r.fetched.predicted u.station.actual (execution (setting_of g) r).next u.written (written (setting_of g) r)
      l.station.wrong l.station.possible l.station.predicted l.station.actual l.written

  off : (b : Bool) → (b ≡ true → ⊥) → b ≡ false
  off true h = absurd (h refl)
  off false h = refl

  none_newest : (rows : List Row) → list_any (table.recovers (setting_of g) c) rows ≡ false → newest_number (table.recovers (setting_of g) c) rows ≡ None
  none_newest [] e = refl
  none_newest (r ∷ rows) e = by_test (table.recovers (setting_of g) c r) e (none_newest rows)
    where
      by_test : (b : Bool) → (b || list_any (table.recovers (setting_of g) c) rows) ≡ false
          → (list_any (table.recovers (setting_of g) c) rows ≡ false → newest_number (table.recovers (setting_of g) c) rows ≡ None)
          → cond b (Some (length rows)) (newest_number (table.recovers (setting_of g) c) rows) ≡ None
      by_test true e ih = absurd cc
      by_test false e ih = ih e

  or_none : (o : Option ℕ) → unit.or_else o None ≡ o
  or_none (Some a) = refl
  or_none None = refl

  pub is_right : (r : Row) → table.recovers (setting_of g) c r ≡ true → r.fetched.right ≡ true
  is_right r h = by_value r.fetched.right h
    where
      by_value : (b : Bool) → (b && not (execution (setting_of g) r).stops && not (r.fetched.predicted == (execution (setting_of g) r).next) && is_at c (written (setting_of g) r)) ≡ true → b ≡ true
      by_value true h = refl
      by_value false h = absurd cc

  pub named : (rows : List Row) (us : List unit.Row) → Each (Route (setting_of g) c) rows → Each (λ _. RecoversLive (setting_of g) c) rows → AllZip (Lives g) us (pick live rows)
      → recovering_in c us ≡ newest_number (table.recovers (setting_of g) c) rows
  named [] [] route lives z = refl
  named [] (u ∷ us) route lives z = absurd z
  named (r ∷ older) us route lives z = by_live (live r) refl us z (λ vs. named older vs route.1 lives.1)
    where
      gone : live r ≡ false → table.recovers (setting_of g) c r ≡ false
      gone e = off (table.recovers (setting_of g) c r) (λ h. both (lives.0.live h) e)

      by_test : (u : unit.Row) (us : List unit.Row) (b : Bool) → table.recovers (setting_of g) c r ≡ b → u.station.row ≡ length older
          → recovering_in c us ≡ newest_number (table.recovers (setting_of g) c) older
          → unit.or_else (recovering_in c us) (cond b (Some u.station.row) None) ≡ cond b (Some (length older)) (newest_number (table.recovers (setting_of g) c) older)
      by_test u us true e is ih =
          let none : list_any (table.recovers (setting_of g) c) older ≡ false =
          off (list_any (table.recovers (setting_of g) c) older) (right_stands (setting_of g) c older r route.1 route.0 (is_right r e)) in
          ap (λ o. unit.or_else o (Some u.station.row)) (ih ∙ none_newest older none) ∙ ap Some is
      by_test u us false e is ih = or_none (recovering_in c us) ∙ ih

      by_live : (b : Bool) → live r ≡ b → (us : List unit.Row) → AllZip (Lives g) us (cond b (record { row = r; older = older } ∷ pick live older) (pick live older))
          → ((vs : List unit.Row) → AllZip (Lives g) vs (pick live older) → recovering_in c vs ≡ newest_number (table.recovers (setting_of g) c) older)
          → recovering_in c us ≡ newest_number (table.recovers (setting_of g) c) (r ∷ older)
      by_live true e [] z ih = absurd z
      by_live true e (u ∷ us) z ih =
          ap (λ b. unit.or_else (recovering_in c us) (cond b (Some u.station.row) None)) (test_same u r us older z.0)
          ∙ by_test u us (table.recovers (setting_of g) c r) refl z.0.row (ih us z.1)
      by_live false e us z ih =
          ih us z ∙ sym (ap (λ b. cond b (Some (length older)) (newest_number (table.recovers (setting_of g) c) older)) (gone e))

pub recovers_at : (c : ℕ) (parts : Parts) (answer : Option ℕ) → answer ≡ recovering_in c parts.unit.rows → RecoversAt c parts answer
recovers_at c parts answer e =
    λ g sound stands.
    e
    ∙ named g c (after_commit (setting_of g) c).rows parts.unit.rows
    (route_one (setting_of g) (greatest_fetch_of g.hier) (greatest_load_of g.hier) (bounded g sound) c).0
    (live_one (setting_of g) (greatest_fetch_of g.hier) (greatest_load_of g.hier) (bounded g sound) c)
    stands.rows.unit
