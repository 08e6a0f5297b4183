-- What a slot keeps of its producers is what the rows before it say.
use Rattle.std.proofs.Common.{◌≡◌, ℕ, ◌<◌, ◌≤◌, Some, None, cond, Bool, true, false, List, [], ◌∷◌, ◌++◌, length, refl, sym, ap, subst, ◌∙◌, arith, eq-eqb}
use Rattle.std.specs.Prelude.{map, reverse, find, option_map, Option, ◌==◌, ◌&&◌, ◌||◌, not, is_none, nat_lt, nat_le, if◌then◌else◌}
use Rattle.std.specs.List.{list_any}
use Rattle.std.proofs.lemmas.List.{map-append}
use Rattle.std.proofs.lemmas.Bool.{eqb-true}
use Rattle.pisa_isa.specs.declared.places.Place.{Place}
use Rattle.pisa_isa.specs.declared.classes.AccessKind.{AccessKind}
use Rattle.pisa_isa.specs.declared.classes.AccessKind.TheVariants as access
use Rattle.pisa_isa.specs.Classes.{access_of}
use Rattle.ruu_core.specs.declared.station.Station.{Station}
use Rattle.ruu_core.specs.declared.slot.Slot.{Slot}
use Rattle.ruu_core.specs.declared.slot.Source.{Source}
use Rattle.ruu_core.specs.declared.slot.Event.{Event}
use Rattle.ruu_core.specs.declared.slot.Event.TheVariants as event
use Rattle.ruu_core.specs.declared.search.Search.{Search}
use Rattle.ruu_core.specs.declared.search.Search.TheVariants as search_for
use Rattle.ruu_core.specs.Window.{Row, is_at, is_by, is_above, is_load_kind, is_store_kind, is_load, is_store, main_reads, second_reads, same_place, writes_place, producer, finished, has_produced, have_produced, second_done, is_done, is_ready, may_access, or_else, next, is_row, passes, issuing, accessing, falls_below}
use Rattle.ruu_core.specs.Slots.{shown, Feeds, FeedAll, IsLinked, AreLinked, source_of, source_behind, sources_behind, source_after, sources_after, slot_after, up_to, slot_named, is_fed, are_fed, slot_passes, wanted, least_of}
use Rattle.ruu_core.proofs.Rows.{reverse_first, and_right, found_above, or_this, or_last}

-- ---- sources answer for producers

fed_one : (t : Option ℕ → Bool) (o : Option Row) (x : Source) → Feeds o x → has_produced t o ≡ is_fed t x
fed_one t None x h = ap (λ r. is_none r || t x.done) (sym h)
fed_one t (Some o) x (row, load, done) = ap t (sym done) ∙ ap (λ r. is_none r || t x.done) (sym row)

fed_all : (t : Option ℕ → Bool) (older : List Row) (ps : List Place) (xs : List Source) → FeedAll older ps xs → have_produced t older ps ≡ are_fed t xs
fed_all t older [] [] h = refl
fed_all t older [] (x ∷ xs) (none, h) = fed_all t older [] xs h ∙ ap (λ r. (is_none r || t x.done) && are_fed t xs) (sym none)
fed_all t older (p ∷ ps) [] h = absurd h
fed_all t older (p ∷ ps) (x ∷ xs) (one, h) =
    ap (λ b. b && have_produced t older ps) (fed_one t (producer older p) x one) ∙ ap (λ b. is_fed t x && b) (fed_all t older ps xs h)

-- ---- tests of a slot alone are those of its row

pub ready_passes : (c : ℕ) (older : List Row) (s : Slot) → IsLinked older s → is_ready c older (shown s) ≡ slot_passes (search_for.Ready c) s
ready_passes c older s l = ap (λ b. nat_lt s.dispatched c && is_none s.issued && b) (fed_all (is_by c) older (main_reads s.station) s.main l.main)

pub access_passes : (c : ℕ) (older : List Row) (s : Slot) → IsLinked older s → may_access c older (shown s) ≡ slot_passes (search_for.Access c) s
access_passes c older s l =
    ap (λ b. is_load s.station && is_by c s.written && is_none s.accessed && b) (fed_all (is_by c) older (second_reads s.station) s.second l.second)

pub second_passes : (t : Option ℕ → Bool) (older : List Row) (s : Slot) → IsLinked older s → second_done t older (shown s) ≡ are_fed t s.second
second_passes t older s l = fed_all t older (second_reads s.station) s.second l.second

-- ---- the least row, from either end

row_if : Search → Option ℕ → Slot → Option ℕ
row_if what after s = if wanted what after s then Some s.station.row else None

least_slots : Search → Option ℕ → List Slot → Option ℕ
least_slots what after [] = None
least_slots what after (s ∷ older) = or_else (least_slots what after older) (if wanted what after s then Some s.station.row else None)

least_linked : (what : Search) (test : List Row → Row → Bool) → ((older : List Row) (s : Slot) → IsLinked older s → test older (shown s) ≡ slot_passes what s)
    → (after : Option ℕ) (zs : List Slot) → AreLinked zs → next test after (map shown zs) ≡ least_slots what after zs
unfolding least_slots
least_linked what test same after [] h = refl
least_linked what test same after (s ∷ older) (l, h) =
    ap (λ o. or_else o (cond (is_above after s.station.row && test (map shown older) (shown s)) (Some s.station.row) None)) (least_linked what test same after older h)
    ∙ ap (λ b. or_else (least_slots what after older) (cond (is_above after s.station.row && b) (Some s.station.row) None)) (same (map shown older) s l)

or_assoc : (a b c : Option ℕ) → or_else (or_else a b) c ≡ or_else a (or_else b c)
or_assoc (Some x) b c = refl
or_assoc None b c = refl

or_none : (a : Option ℕ) → or_else a None ≡ a
or_none (Some x) = refl
or_none None = refl

least_last : (what : Search) (after : Option ℕ) (zs : List Slot) (x : Slot)
    → least_slots what after (zs ++ x ∷ []) ≡ or_else (if wanted what after x then Some x.station.row else None) (least_slots what after zs)
unfolding least_slots
least_last what after [] x = sym (or_none (if wanted what after x then Some x.station.row else None))
least_last what after (s ∷ zs) x =
    ap (λ o. or_else o (if wanted what after s then Some s.station.row else None)) (least_last what after zs x)
    ∙ or_assoc (if wanted what after x then Some x.station.row else None) (least_slots what after zs) (if wanted what after s then Some s.station.row else None)

least_reverse : (what : Search) (after : Option ℕ) (xs : List Slot) → least_slots what after (reverse xs) ≡ least_of what after xs
unfolding least_slots
least_reverse what after [] = refl
least_reverse what after (x ∷ xs) =
    ap (least_slots what after) (reverse_first x xs)
    ∙ (least_last what after (reverse xs) x ∙ by_test (wanted what after x) (least_reverse what after xs))
  where
    by_test : (b : Bool) → least_slots what after (reverse xs) ≡ least_of what after xs
        → or_else (cond b (Some x.station.row) None) (least_slots what after (reverse xs)) ≡ option_map (λ (s : Slot). s.station.row) (cond b (Some x) (find (wanted what after) xs))
    by_test true ih = refl
    by_test false ih = ih

pub least_answer : (what : Search) (test : List Row → Row → Bool) → ((older : List Row) (s : Slot) → IsLinked older s → test older (shown s) ≡ slot_passes what s)
    → (after : Option ℕ) (xs : List Slot) → AreLinked (reverse xs) → least_of what after xs ≡ next test after (map shown (reverse xs))
least_answer what test same after xs h = sym (least_linked what test same after (reverse xs) h ∙ least_reverse what after xs)

-- ---- the sources of a named row

second_of : (Option ℕ → Bool) → Option Slot → Bool
second_of t None = false
second_of t (Some s) = are_fed t s.second

named_linked : (t : Option ℕ → Bool) (n : ℕ) (zs : List Slot) → AreLinked zs → passes (second_done t) n (map shown zs) ≡ second_of t (find (slot_named n) zs)
unfolding second_of
named_linked t n [] h = refl
named_linked t n (s ∷ older) (l, h) = by_test (s.station.row == n) (named_linked t n older h)
  where
    by_test : (b : Bool) → passes (second_done t) n (map shown older) ≡ second_of t (find (slot_named n) older)
        → cond b (second_done t (map shown older) (shown s)) (passes (second_done t) n (map shown older)) ≡ second_of t (cond b (Some s) (find (slot_named n) older))
    by_test true ih = second_passes t (map shown older) s l
    by_test false ih = ih

pub named_second : (t : Option ℕ → Bool) (n : ℕ) (zs : List Slot) (s : Slot) → AreLinked zs → find (slot_named n) zs ≡ Some s → passes (second_done t) n (map shown zs) ≡ are_fed t s.second
unfolding second_of
named_second t n zs s h e = named_linked t n zs h ∙ ap (second_of t) e

-- ---- a row that enters

behind_one : (p : Place) (zs : List Slot) → AreLinked zs → Feeds (producer (map shown zs) p) (source_behind p zs)
behind_one p [] h = refl
behind_one p (s ∷ older) (l, h) = by_test (list_any (λ w. same_place w p) s.writes.items) refl (behind_one p older h)
  where
    rewrite_test : (b d : Bool) → d ≡ b → Feeds (producer (map shown older) p) (source_behind p older)
        → Feeds (cond d (Some (shown s)) (producer (map shown older) p)) (cond b (source_of s) (source_behind p older))
    rewrite_test true true e ih = (refl, refl, refl)
    rewrite_test false false e ih = ih
    rewrite_test true false e ih = absurd cc
    rewrite_test false true e ih = absurd cc

    by_test : (b : Bool) → list_any (λ w. same_place w p) s.writes.items ≡ b → Feeds (producer (map shown older) p) (source_behind p older)
        → Feeds (cond (writes_place p s.station) (Some (shown s)) (producer (map shown older) p)) (cond b (source_of s) (source_behind p older))
    by_test b e ih = rewrite_test b (writes_place p s.station) (ap (λ ws. list_any (λ w. same_place w p) ws) (sym l.writes) ∙ e) ih

pub behind_all : (ps : List Place) (zs : List Slot) → length ps ≤ 3 → AreLinked zs → FeedAll (map shown zs) ps (sources_behind ps zs)
behind_all [] zs le h = (refl, (refl, (refl, tt)))
behind_all (a ∷ []) zs le h = (behind_one a zs h, (refl, (refl, tt)))
behind_all (a ∷ b ∷ []) zs le h = (behind_one a zs h, (behind_one b zs h, (refl, tt)))
behind_all (a ∷ b ∷ d ∷ []) zs le h = (behind_one a zs h, (behind_one b zs h, (behind_one d zs h, tt)))
behind_all (a ∷ b ∷ d ∷ e ∷ ps) zs le h = absurd (omega arith)

-- ---- marks and what they change

-- a change of rows and of sources that fit each other
pub record Fits (f : Row → Row) (g : Source → Source) : Type 0 where
  pub station : (r : Row) → (f r).station ≡ r.station
  pub row : (x : Source) → (g x).row ≡ x.row
  pub load : (x : Source) → (g x).load ≡ x.load
  pub done : (x : Source) (o : Row) → x.row ≡ Some o.station.row → x.load ≡ is_load o.station → x.done ≡ finished o → (g x).done ≡ finished (f o)

producer_changed : (f : Row → Row) → ((r : Row) → (f r).station ≡ r.station) → (older : List Row) (p : Place) → producer (map f older) p ≡ option_map f (producer older p)
producer_changed f same [] p = refl
producer_changed f same (r ∷ older) p =
    ap (λ s. cond (writes_place p s) (Some (f r)) (producer (map f older) p)) (same r) ∙ by_test (writes_place p r.station) (producer_changed f same older p)
  where
    by_test : (b : Bool) → producer (map f older) p ≡ option_map f (producer older p)
        → cond b (Some (f r)) (producer (map f older) p) ≡ option_map f (cond b (Some r) (producer older p))
    by_test true ih = refl
    by_test false ih = ih

feeds_changed : (f : Row → Row) (g : Source → Source) → Fits f g → (o : Option Row) (x : Source) → Feeds o x → Feeds (option_map f o) (g x)
feeds_changed f g fits None x h = fits.row x ∙ h
feeds_changed f g fits (Some o) x (row, load, done) = (
  fits.row x ∙ (row ∙ ap (λ (s : Station). Some s.row) (sym (fits.station o))),
  fits.load x ∙ (load ∙ ap is_load (sym (fits.station o))),
  fits.done x o row load done,
)

all_changed : (f : Row → Row) (g : Source → Source) → Fits f g → (older : List Row) (ps : List Place) (xs : List Source) → FeedAll older ps xs → FeedAll (map f older) ps (map g xs)
all_changed f g fits older [] [] h = tt
all_changed f g fits older [] (x ∷ xs) (none, h) = (fits.row x ∙ none, all_changed f g fits older [] xs h)
all_changed f g fits older (p ∷ ps) [] h = absurd h
all_changed f g fits older (p ∷ ps) (x ∷ xs) (one, h) = (
  subst_producer (producer (map f older) p) (option_map f (producer older p)) (producer_changed f fits.station older p) (feeds_changed f g fits (producer older p) x one),
  all_changed f g fits older ps xs h,
)
  where
    subst_producer : (a b : Option Row) → a ≡ b → Feeds b (g x) → Feeds a (g x)
    subst_producer a b e h = rw e h

-- an event of rows in flight: what it does to rows
pub row_after : Event → Row → Row
row_after (event.Issued n c done) r = if is_row n r then issuing c done r else r
row_after (event.Accessed n c done) r = if is_row n r then accessing c done r else r
row_after (event.Retired n) r = r

issued_station : (n c done : ℕ) (r : Row) → (if is_row n r then issuing c done r else r).station ≡ r.station
issued_station n c done r = by_test (is_row n r)
  where
    by_test : (b : Bool) → (cond b (issuing c done r) r).station ≡ r.station
    by_test true = refl
    by_test false = refl

accessed_station : (n c done : ℕ) (r : Row) → (if is_row n r then accessing c done r else r).station ≡ r.station
accessed_station n c done r = by_test (is_row n r)
  where
    by_test : (b : Bool) → (cond b (accessing c done r) r).station ≡ r.station
    by_test true = refl
    by_test false = refl

same_row : (b : Bool) (done : ℕ) (x : Source) → (cond b (record x { done = Some done }) x).row ≡ x.row
same_row true done x = refl
same_row false done x = refl

same_load : (b : Bool) (done : ℕ) (x : Source) → (cond b (record x { done = Some done }) x).load ≡ x.load
same_load true done x = refl
same_load false done x = refl

issued_done : (n load : Bool) (c done : ℕ) (x : Source) (o : Row) → is_load o.station ≡ load → x.done ≡ finished o
    → (cond (n && not load) (record x { done = Some done }) x).done ≡ finished (cond n (issuing c done o) o)
issued_done true false c done x o e h = sym (ap (λ b. cond b o.returned (Some done)) e)
issued_done true true c done x o e h = h ∙ (ap (λ b. cond b o.returned o.written) e ∙ sym (ap (λ b. cond b o.returned (Some done)) e))
issued_done false true c done x o e h = h
issued_done false false c done x o e h = h

accessed_done : (n load : Bool) (c done : ℕ) (x : Source) (o : Row) → is_load o.station ≡ load → x.done ≡ finished o
    → (cond (n && load) (record x { done = Some done }) x).done ≡ finished (cond n (accessing c done o) o)
accessed_done true true c done x o e h = sym (ap (λ b. cond b (Some done) o.written) e)
accessed_done true false c done x o e h = h ∙ (ap (λ b. cond b o.returned o.written) e ∙ sym (ap (λ b. cond b (Some done) o.written) e))
accessed_done false true c done x o e h = h
accessed_done false false c done x o e h = h

pub issued_fits : (n c done : ℕ) → Fits (λ r. if is_row n r then issuing c done r else r) (source_after (event.Issued n c done))
issued_fits n c done =
    record {
      station = issued_station n c done;
      row = λ x. same_row (is_at n x.row && not x.load) done x;
      load = λ x. same_load (is_at n x.row && not x.load) done x;
      done = λ x o row load h. ap (λ b. (cond b (record x { done = Some done }) x).done) (ap (λ r. is_at n r && not x.load) row ∙ ap (λ b. (o.station.row == n) && not b) load) ∙ issued_done (o.station.row == n) (is_load o.station) c done x o refl h;
    }

pub accessed_fits : (n c done : ℕ) → Fits (λ r. if is_row n r then accessing c done r else r) (source_after (event.Accessed n c done))
accessed_fits n c done =
    record {
      station = accessed_station n c done;
      row = λ x. same_row (is_at n x.row && x.load) done x;
      load = λ x. same_load (is_at n x.row && x.load) done x;
      done = λ x o row load h. ap (λ b. (cond b (record x { done = Some done }) x).done) (ap (λ r. is_at n r && x.load) row ∙ ap (λ b. (o.station.row == n) && b) load) ∙ accessed_done (o.station.row == n) (is_load o.station) c done x o refl h;
    }

issued_linked : (n c done : ℕ) (older : List Row) (s : Slot) → IsLinked older s → IsLinked (map (λ r. if is_row n r then issuing c done r else r) older) (slot_after (event.Issued n c done) s)
issued_linked n c done older s l = by_test (s.station.row == n)
  where
    by_test : (b : Bool) → IsLinked (map (λ r. if is_row n r then issuing c done r else r) older) (sources_after (event.Issued n c done) (cond b (record s { issued = Some c; written = Some done }) s))
    by_test true =
        record {
          writes = l.writes;
          main = all_changed (λ r. if is_row n r then issuing c done r else r) (source_after (event.Issued n c done)) (issued_fits n c done) older (main_reads s.station) s.main l.main;
          second = all_changed (λ r. if is_row n r then issuing c done r else r) (source_after (event.Issued n c done)) (issued_fits n c done) older (second_reads s.station) s.second l.second;
          recorded = l.recorded;
        }
    by_test false =
        record {
          writes = l.writes;
          main = all_changed (λ r. if is_row n r then issuing c done r else r) (source_after (event.Issued n c done)) (issued_fits n c done) older (main_reads s.station) s.main l.main;
          second = all_changed (λ r. if is_row n r then issuing c done r else r) (source_after (event.Issued n c done)) (issued_fits n c done) older (second_reads s.station) s.second l.second;
          recorded = l.recorded;
        }

accessed_linked : (n c done : ℕ) (older : List Row) (s : Slot) → IsLinked older s → IsLinked (map (λ r. if is_row n r then accessing c done r else r) older) (slot_after (event.Accessed n c done) s)
accessed_linked n c done older s l = by_test (s.station.row == n)
  where
    by_test : (b : Bool) → IsLinked (map (λ r. if is_row n r then accessing c done r else r) older) (sources_after (event.Accessed n c done) (cond b (record s { accessed = Some c; returned = Some done }) s))
    by_test true =
        record {
          writes = l.writes;
          main = all_changed (λ r. if is_row n r then accessing c done r else r) (source_after (event.Accessed n c done)) (accessed_fits n c done) older (main_reads s.station) s.main l.main;
          second = all_changed (λ r. if is_row n r then accessing c done r else r) (source_after (event.Accessed n c done)) (accessed_fits n c done) older (second_reads s.station) s.second l.second;
          recorded = l.recorded;
        }
    by_test false =
        record {
          writes = l.writes;
          main = all_changed (λ r. if is_row n r then accessing c done r else r) (source_after (event.Accessed n c done)) (accessed_fits n c done) older (main_reads s.station) s.main l.main;
          second = all_changed (λ r. if is_row n r then accessing c done r else r) (source_after (event.Accessed n c done)) (accessed_fits n c done) older (second_reads s.station) s.second l.second;
          recorded = l.recorded;
        }

issued_shown : (n c done : ℕ) (s : Slot) → shown (slot_after (event.Issued n c done) s) ≡ (if is_row n (shown s) then issuing c done (shown s) else shown s)
issued_shown n c done s = by_test (s.station.row == n)
  where
    by_test : (b : Bool) → shown (sources_after (event.Issued n c done) (cond b (record s { issued = Some c; written = Some done }) s)) ≡ cond b (issuing c done (shown s)) (shown s)
    by_test true = refl
    by_test false = refl

accessed_shown : (n c done : ℕ) (s : Slot) → shown (slot_after (event.Accessed n c done) s) ≡ (if is_row n (shown s) then accessing c done (shown s) else shown s)
accessed_shown n c done s = by_test (s.station.row == n)
  where
    by_test : (b : Bool) → shown (sources_after (event.Accessed n c done) (cond b (record s { accessed = Some c; returned = Some done }) s)) ≡ cond b (accessing c done (shown s)) (shown s)
    by_test true = refl
    by_test false = refl

map-shown : (f : Row → Row) (g : Slot → Slot) → ((s : Slot) → shown (g s) ≡ f (shown s)) → (zs : List Slot) → map shown (map g zs) ≡ map f (map shown zs)
map-shown f g e [] = refl
map-shown f g e (s ∷ zs) = ap (λ r. r ∷ map shown (map g zs)) (e s) ∙ ap (λ l. f (shown s) ∷ l) (map-shown f g e zs)

all_linked : (f : Row → Row) (g : Slot → Slot) → ((s : Slot) → shown (g s) ≡ f (shown s))
    → ((older : List Row) (s : Slot) → IsLinked older s → IsLinked (map f older) (g s)) → (zs : List Slot) → AreLinked zs → AreLinked (map g zs)
all_linked f g e keep [] h = tt
all_linked f g e keep (s ∷ zs) (l, h) = (subst_rows (map shown (map g zs)) (map f (map shown zs)) (map-shown f g e zs) (keep (map shown zs) s l), all_linked f g e keep zs h)
  where
    subst_rows : (a b : List Row) → a ≡ b → IsLinked b (g s) → IsLinked a (g s)
    subst_rows a b e h = rw e h

pub issue_shows : (n c done : ℕ) (zs : List Slot) → map shown (map (slot_after (event.Issued n c done)) zs) ≡ map (λ r. if is_row n r then issuing c done r else r) (map shown zs)
issue_shows n c done zs = map-shown (λ r. if is_row n r then issuing c done r else r) (slot_after (event.Issued n c done)) (issued_shown n c done) zs

pub issue_links : (n c done : ℕ) (zs : List Slot) → AreLinked zs → AreLinked (map (slot_after (event.Issued n c done)) zs)
issue_links n c done zs h = all_linked (λ r. if is_row n r then issuing c done r else r) (slot_after (event.Issued n c done)) (issued_shown n c done) (issued_linked n c done) zs h

pub access_shows : (n c done : ℕ) (zs : List Slot) → map shown (map (slot_after (event.Accessed n c done)) zs) ≡ map (λ r. if is_row n r then accessing c done r else r) (map shown zs)
access_shows n c done zs = map-shown (λ r. if is_row n r then accessing c done r else r) (slot_after (event.Accessed n c done)) (accessed_shown n c done) zs

pub access_links : (n c done : ℕ) (zs : List Slot) → AreLinked zs → AreLinked (map (slot_after (event.Accessed n c done)) zs)
access_links n c done zs h = all_linked (λ r. if is_row n r then accessing c done r else r) (slot_after (event.Accessed n c done)) (accessed_shown n c done) (accessed_linked n c done) zs h

-- ---- rows that leave

pub up_to_links : (n : ℕ) (zs : List Slot) → AreLinked zs → AreLinked (up_to n zs)
up_to_links n [] h = tt
up_to_links n (s ∷ older) (l, h) = by_test (nat_le s.station.row n) (up_to_links n older h)
  where
    by_test : (b : Bool) → AreLinked (up_to n older) → AreLinked (cond b (s ∷ older) (up_to n older))
    by_test true ih = (l, h)
    by_test false ih = ih

-- where the first row leaves, no source names it any more
released_step : (n : ℕ) (found last : Option Row) (x : Source) → ((o : Row) → found ≡ Some o → (o.station.row == n) ≡ false)
    → ((r : Row) → last ≡ Some r → (r.station.row == n) ≡ true) → Feeds (or_this found last) x → Feeds found (source_after (event.Retired n) x)
released_step n (Some o) last x other same (row, load, done) = by_test (is_at n x.row) (ap (is_at n) row ∙ other o refl)
  where
    by_test : (b : Bool) → b ≡ false → Feeds (Some o) (cond b (record x { row = None }) x)
    by_test false e = (row, load, done)
    by_test true e = absurd cc
released_step n None (Some r) x other same (row, load, done) = by_test (is_at n x.row) (ap (is_at n) row ∙ same r refl)
  where
    by_test : (b : Bool) → b ≡ true → (cond b (record x { row = None }) x).row ≡ None
    by_test true e = refl
    by_test false e = absurd cc
released_step n None None x other same none = by_test (is_at n x.row) (ap (is_at n) none)
  where
    by_test : (b : Bool) → b ≡ false → (cond b (record x { row = None }) x).row ≡ None
    by_test false e = none
    by_test true e = absurd cc

not_same : (a b : ℕ) → b < a → (a == b) ≡ false
not_same a b h = by_test (a == b) refl
  where
    by_test : (t : Bool) → (a == b) ≡ t → t ≡ false
    by_test true e = let same : a ≡ b = eqb-true a b e in absurd (omega arith)
    by_test false e = refl

is_same : (a b : ℕ) → a ≡ b → (a == b) ≡ true
is_same a b e = eq-eqb a b e

the_first : (b : Bool) (first r : Row) → cond b (Some first) None ≡ Some r → first ≡ r
the_first true first r e = cc
the_first false first r e = absurd cc

released_one : (n m : ℕ) (rows : List Row) (first : Row) (p : Place) (x : Source) → first.station.row ≡ n → falls_below m (rows ++ first ∷ []) ≡ true
    → Feeds (producer (rows ++ first ∷ []) p) x → Feeds (producer rows p) (source_after (event.Retired n) x)
released_one n m rows first p x is falls h =
    released_step n (producer rows p) (if writes_place p first.station then Some first else None) x above own
    (subst (λ o. Feeds o x) (or_last (λ o. writes_place p o.station) rows first (producer rows p) refl) h)
  where
    above : (o : Row) → producer rows p ≡ Some o → (o.station.row == n) ≡ false
    above o e =
        let less : first.station.row < o.station.row = found_above (λ o. writes_place p o.station) m rows first o falls e in
        not_same o.station.row n (omega arith)

    own : (r : Row) → (if writes_place p first.station then Some first else None) ≡ Some r → (r.station.row == n) ≡ true
    own r e = is_same r.station.row n (ap (λ (y : Row). y.station.row) (sym (the_first (writes_place p first.station) first r e)) ∙ is)

released_all : (n m : ℕ) (rows : List Row) (first : Row) → first.station.row ≡ n → falls_below m (rows ++ first ∷ []) ≡ true
    → (ps : List Place) (xs : List Source) → FeedAll (rows ++ first ∷ []) ps xs → FeedAll rows ps (map (source_after (event.Retired n)) xs)
released_all n m rows first is falls [] [] h = tt
released_all n m rows first is falls [] (x ∷ xs) (none, h) = (stays (is_at n x.row), released_all n m rows first is falls [] xs h)
  where
    stays : (b : Bool) → (cond b (record x { row = None }) x).row ≡ None
    stays true = refl
    stays false = none
released_all n m rows first is falls (p ∷ ps) [] h = absurd h
released_all n m rows first is falls (p ∷ ps) (x ∷ xs) (one, h) = (released_one n m rows first p x is falls one, released_all n m rows first is falls ps xs h)

pub retire_shows : (n : ℕ) (zs : List Slot) → map shown (map (slot_after (event.Retired n)) zs) ≡ map shown zs
retire_shows n [] = refl
retire_shows n (s ∷ zs) = ap (λ l. shown s ∷ l) (retire_shows n zs)

pub retire_links : (n m : ℕ) (zs : List Slot) (x : Slot) → x.station.row ≡ n → falls_below m (map shown (zs ++ x ∷ [])) ≡ true
    → AreLinked (zs ++ x ∷ []) → AreLinked (map (slot_after (event.Retired n)) zs)
retire_links n m [] x is falls h = tt
retire_links n m (s ∷ older) x is falls (l, h) = (
  subst_rows (map shown (map (slot_after (event.Retired n)) older)) (map shown older) (retire_shows n older) released,
  retire_links n s.station.row older x is (and_right _ _ falls) h,
)
  where
    rows_are : map shown (older ++ x ∷ []) ≡ map shown older ++ shown x ∷ []
    rows_are = map-append shown older (x ∷ [])

    falls' : falls_below s.station.row (map shown older ++ shown x ∷ []) ≡ true
    falls' = ap (falls_below s.station.row) (sym rows_are) ∙ and_right (nat_lt s.station.row m) (falls_below s.station.row (map shown (older ++ x ∷ []))) falls

    released : IsLinked (map shown older) (slot_after (event.Retired n) s)
    released =
        record {
          writes = l.writes;
          main = released_all n s.station.row (map shown older) (shown x) is falls' (main_reads s.station) s.main (subst (λ rs. FeedAll rs (main_reads s.station) s.main) rows_are l.main);
          second = released_all n s.station.row (map shown older) (shown x) is falls' (second_reads s.station) s.second (subst (λ rs. FeedAll rs (second_reads s.station) s.second) rows_are l.second);
          recorded = l.recorded;
        }

    subst_rows : (a b : List Row) → a ≡ b → IsLinked b (slot_after (event.Retired n) s) → IsLinked a (slot_after (event.Retired n) s)
    subst_rows a b e h = rw e h

-- the first of all
pub last_linked : (zs : List Slot) (x : Slot) → AreLinked (zs ++ x ∷ []) → IsLinked [] x
last_linked [] x (l, h) = l
last_linked (s ∷ zs) x (l, h) = last_linked zs x h

-- ---- the first row

none_before : (t : Option ℕ → Bool) (ps : List Place) → have_produced t [] ps ≡ true
none_before t [] = refl
none_before t (p ∷ ps) = none_before t ps

kind_apart : (inert : Bool) (k : AccessKind) → (not inert && is_store_kind k) ≡ true → (not inert && is_load_kind k) ≡ false
kind_apart true k e = refl
kind_apart false access.Load e = absurd cc
kind_apart false access.Store e = refl
kind_apart false access.Nothing e = refl

and_true : (a : Bool) → (a && true) ≡ a
and_true true = refl
and_true false = refl

pub first_done : (t : Option ℕ → Bool) (r : Row) → is_done t [] r ≡ t (finished r)
first_done t r = by_store (is_store r.station) refl
  where
    by_store : (b : Bool) → is_store r.station ≡ b → cond b (t r.written && second_done t [] r) (t (finished r)) ≡ t (finished r)
    by_store true e =
        ap (λ b. t r.written && b) (none_before t (second_reads r.station))
        ∙ (and_true (t r.written) ∙ ap (λ b. t (cond b r.returned r.written)) (sym (kind_apart r.station.inert (access_of r.station.instr.op) e)))
    by_store false e = refl
