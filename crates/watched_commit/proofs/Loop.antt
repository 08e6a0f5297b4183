-- The loop over the rows that commit: what holds between two turns, and what each way out of it gives.
use Rattle.std.proofs.Common.{◌≡◌, ℕ, suc, ◌+◌, ◌<◌, ◌≤◌, Bool, true, false, cond, List, [], ◌∷◌, ◌++◌, length, Option, Some, None, refl, sym, ap, ◌∙◌, subst, arith, append-nil}
use Rattle.std.specs.Prelude.{◌&&◌, ◌||◌, ◌==◌, is_some, nat_lt, count_by}
use Rattle.std.proofs.lemmas.Bool.{ltb-true, false_from_ne_true}
use Rattle.event_trace.specs.declared.trace.Trace.{Trace}
use Rattle.ruu_core.specs.declared.station.Station.{Station}
use Rattle.ruu_core.specs.Window.{head_of, first, is_store}
use Rattle.ooo_table.specs.declared.config.OooConfig.{OooConfig}
use Rattle.ooo_table.specs.declared.event.EndWord.TheVariants as told
use Rattle.ooo_table.specs.Row.{Row, is_at, sweep}
use Rattle.ooo_table.specs.Commit.{commit_row}
use Rattle.ooo_table.specs.Cycle.{table, after_commit}
use Rattle.ooo_table.specs.Ends.{last_commit}
use Rattle.ooo_table.specs.Events.{exit_word}
use Rattle.ooo_table.specs.Machine.{Given, setting_of}
use Rattle.ooo_table.specs.MachineLaws.{IsSound}
use Rattle.core_parts.specs.declared.parts.Parts.{Parts}
use Rattle.core_parts.specs.Fits.{Fits, HasNumbers}
use Rattle.core_parts.specs.Stands.{Stands}
use Rattle.core_parts.specs.Stages.{Committing, CommitsOne}
use Rattle.core_commit.specs.Turn.{has_port, if_may, leaving, Turns}
use Rattle.core_commit.proofs.Whole.{turn, turns_over}
use Rattle.core_watch.specs.Shown.{Shown, behind, CutWithin}
use Rattle.core_watch.specs.ShownLaws.{behind_append, cut_front, cut_back}
use Rattle.core_watch.specs.StageItems.{commit_items}
use Rattle.core_statistics.specs.declared.stats.CoreStats.{CoreStats}
use Rattle.core_statistics.specs.Counted.{with_commit}
use Rattle.core_statistics.specs.Standing.{CommitsCounted}
use Rattle.core_statistics.proofs.Standing.{counts_stand}
use Rattle.watched_commit.specs.declared.stage.Committed.{Committed}
use Rattle.watched_commit.specs.declared.stage.Committed.TheVariants as stage
use Rattle.watched_commit.specs.Stage as specs
use Rattle.core_events.specs.Exits.{exit_by}
use Rattle.watched_commit.specs.Stage.{shown_by, end_with, budget, stage_items, rows_behind, IsWhole}
use Rattle.watched_commit.proofs.Marks.{NoneAt, count_join, count_none, last_over, items_over, not_yet, front_none}
use Rattle.watched_commit.proofs.Turn.{Turned, row_turned}
use Rattle.watched_commit.proofs.Ending.{goes_on, ends_here, all_shown, begins_so}

-- ---- between two turns

-- in a run: these rows had their turns, so many of them committed, none of them ended the run, and they were counted and shown
pub record PartWay {S : Type 0} (took : S → List Shown → S → Type 0) (trace : Trace) (g : Given) (c most n : ℕ) (parts : Parts) (counted counts : CoreStats) (before now : S) : Type 0 where
  pub younger : List Row
  pub older : List Row
  pub at : Committing g c n younger older parts
  pub none : last_commit (setting_of g) (budget g c most) c (sweep (commit_row (setting_of g) c) older) ≡ None
  pub stats : CommitsCounted g c (younger ++ sweep (commit_row (setting_of g) c) older) counted counts
  pub taken : (start : S) (h : List Shown) → took start h before → g.trace ≡ trace
      → took start (behind (commit_items g c (sweep (commit_row (setting_of g) c) older)) h) now

pub record Within {S : Type 0} (took : S → List Shown → S → Type 0) (trace : Trace) (c most n : ℕ) (old parts : Parts) (counted counts : CoreStats) (before now : S) : Type 0 where
  pub fits : Fits c n parts
  pub config : parts.config ≡ old.config
  pub arch : parts.arch ≡ old.arch
  pub runs : (g : Given) → IsSound g → Stands g c false old (table (setting_of g) c) → PartWay took trace g c most n parts counted counts before now

pub within_begin : {S : Type 0} (took : S → List Shown → S → Type 0) (trace : Trace) (c most : ℕ) (old : Parts) (counted : CoreStats) (before : S) → Fits c 0 old
    → Within took trace c most 0 old old counted counted before before
within_begin took trace c most old counted before fits =
    record {
      fits = fits;
      config = refl;
      arch = refl;
      runs = λ g sound st.
          record {
            younger = (table (setting_of g) c).rows;
            older = [];
            at = record {
              rows = sym (append-nil (table (setting_of g) c).rows);
              stands = subst (λ l. Stands g c false old (record (table (setting_of g) c) { rows = l })) (sym (append-nil (table (setting_of g) c).rows)) st;
              count = refl;
              passed = refl;
            };
            none = refl;
            stats = subst (λ l. CommitsCounted g c l counted counted) (sym (append-nil (table (setting_of g) c).rows)) (λ cycles e. e);
            taken = λ start h t e. t;
          };
    }

-- the row that commits in a turn, with what the turn does
pub record Found (g : Given) (c most n : ℕ) (younger older : List Row) (s : Station) (new : Parts) : Type 0 where
  pub left : List Row
  pub row : Row
  pub rest : List Row
  pub then_at : Committing g c (suc n) left (row ∷ rest) new
  pub turned : Turned g c most n older left row rest s
  pub stats : (counted counts : CoreStats) → CommitsCounted g c (younger ++ sweep (commit_row (setting_of g) c) older) counted counts
      → CommitsCounted g c (left ++ sweep (commit_row (setting_of g) c) (row ∷ rest)) counted (with_commit s counts)

find_row : (g : Given) → IsSound g → (c most n : ℕ) (younger older : List Row) (s : Station) (parts new : Parts) → Committing g c n younger older parts
    → last_commit (setting_of g) (budget g c most) c (sweep (commit_row (setting_of g) c) older) ≡ None → CommitsOne c n parts new (Some s) → Found g c most n younger older s new
find_row g sound c most n younger older s parts new k none turns =
    let it = turns g sound younger older k in
    record {
      left = it.0;
      row = it.1;
      rest = it.2 ++ older;
      then_at = it.5;
      turned = row_turned g sound c most n younger older it.0 it.2 it.1 s parts new k none it.4 it.5;
      stats = λ counted counts e. (counts_stand g c).commit n younger older it.0 it.2 it.1 s counted counts k.rows it.5.rows k.count it.5.count it.4 e;
    }

same_config : (c n : ℕ) (parts new : Parts) (s : Station) → Turns c n parts new (Some s) → new.config ≡ parts.config
same_config c n parts new s t = ap (λ (p : Parts). p.config) t.1.same

same_arch : (c n : ℕ) (parts new : Parts) (s : Station) → Turns c n parts new (Some s) → new.arch ≡ parts.arch
same_arch c n parts new s t = ap (λ (p : Parts). p.arch) t.1.same

-- ---- a row that doesn't end the stage

goes : (m : Option ℕ) (n most : ℕ) → end_with m n most ≡ None → (is_some m || (n == most)) ≡ false
goes (Some code) n most e = absurd cc
goes None n most e = by_test (n == most) e
  where
    by_test : (b : Bool) → cond b (Some stage.Spent) None ≡ None → b ≡ false
    by_test true e = absurd cc
    by_test false e = refl

pub within_next : {S : Type 0} (took : S → List Shown → S → Type 0) (trace : Trace) (c most n : ℕ) (old parts new : Parts) (counted counts more : CoreStats) (before now after : S) (s : Station)
    → Within took trace c most n old parts counted counts before now → more ≡ with_commit s counts → Fits c (n + 1) new → Turns c n parts new (Some s) → CommitsOne c n parts new (Some s)
    → ((start : S) (h : List Shown) → took start h now → took start (behind (shown_by trace c s.row s.commit) h) after)
    → end_with (exit_by s.commit) (n + 1) most ≡ None
    → Within took trace c most (n + 1) old new counted more before after
within_next {S = S} took trace c most n old parts new counted counts more before now after s w is fits turns commits takes goes_so =
    record {
      fits = fits;
      config = same_config c n parts new s turns ∙ w.config;
      arch = same_arch c n parts new s turns ∙ w.arch;
      runs = λ g sound st.
          let p : PartWay took trace g c most n parts counted counts before now = w.runs g sound st in
          let f : Found g c most n p.younger p.older s new = find_row g sound c most n p.younger p.older s parts new p.at p.none commits in
          record {
            younger = f.left;
            older = f.row ∷ f.rest;
            at = subst (λ m. Committing g c m f.left (f.row ∷ f.rest) new) one f.then_at;
            none = goes_on g c most n p.older f.left f.row f.rest s f.turned (goes (exit_by s.commit) (suc n) most (ap (λ m. end_with (exit_by s.commit) m most) one ∙ goes_so));
            stats = subst (λ (o : CoreStats). CommitsCounted g c (f.left ++ sweep (commit_row (setting_of g) c) (f.row ∷ f.rest)) counted o) (sym is) (f.stats counted counts p.stats);
            taken = λ start h t e.
                subst (λ l. took start l after)
                (sym (ap (λ l. behind l h) (f.turned.items ∙ ap (λ tr. commit_items g c (sweep (commit_row (setting_of g) c) p.older) ++ shown_by tr c s.row s.commit) e)
                ∙ behind_append (commit_items g c (sweep (commit_row (setting_of g) c) p.older)) (shown_by trace c s.row s.commit) h))
                (takes start (behind (commit_items g c (sweep (commit_row (setting_of g) c) p.older)) h) (p.taken start h t e));
          };
    }
  where
    one : suc n ≡ n + 1
    one = omega arith

-- ---- a row that ends it

ended : (m : Option ℕ) (n most : ℕ) (end : Committed) → end_with m n most ≡ Some end → (is_some m || (n == most)) ≡ true
ended (Some code) n most end e = refl
ended None n most end e = by_test (n == most) e
  where
    by_test : (b : Bool) → cond b (Some stage.Spent) None ≡ Some end → b ≡ true
    by_test true e = refl
    by_test false e = absurd cc

module _ {S : Type 0} (took : S → List Shown → S → Type 0) (trace : Trace) (c most n : ℕ) (old parts new : Parts) (counted counts : CoreStats) (before now : S) (s : Station)
    (w : Within took trace c most n old parts counted counts before now) (commits : CommitsOne c n parts new (Some s)) where
  leaves : (g : Given) (younger older : List Row) (f : Found g c most n younger older s new) → CommitsCounted g c (younger ++ sweep (commit_row (setting_of g) c) older) counted counts
      → (more : CoreStats) → more ≡ with_commit s counts → (end : Committed) (m : Option ℕ) → exit_by s.commit ≡ m
      → (is_some (exit_by s.commit) || (suc n == most)) ≡ true → end_with m (suc n) most ≡ Some end → specs.Leaves g c most end new counted more
  leaves g younger older f stats more is end (Some code) e h k =
      subst (λ x. specs.Leaves g c most x new counted more) (here k) (
        length f.rest,
        ends_here g c most n older f.left f.row f.rest s f.turned h (told.Exited code) new counted more (ap exit_word e) f.then_at.stands
            (subst (λ (o : CoreStats). CommitsCounted g c (f.left ++ sweep (commit_row (setting_of g) c) (f.row ∷ f.rest)) counted o) (sym is) (f.stats counted counts stats)),
      )
    where
      here : Some (stage.Exited code) ≡ Some end → stage.Exited code ≡ end
      here k = cc
  leaves g younger older f stats more is end None e h k =
      subst (λ x. specs.Leaves g c most x new counted more) (by_test (suc n == most) k) (
        length f.rest,
        ends_here g c most n older f.left f.row f.rest s f.turned h told.Budget new counted more (ap exit_word e) f.then_at.stands
            (subst (λ (o : CoreStats). CommitsCounted g c (f.left ++ sweep (commit_row (setting_of g) c) (f.row ∷ f.rest)) counted o) (sym is) (f.stats counted counts stats)),
      )
    where
      by_test : (b : Bool) → cond b (Some stage.Spent) None ≡ Some end → stage.Spent ≡ end
      by_test true k = cc
      by_test false k = absurd cc

  pub ends_rows : (more : CoreStats) → more ≡ with_commit s counts → Turns c n parts new (Some s) → (end : Committed) → end_with (exit_by s.commit) (n + 1) most ≡ Some end
      → (g : Given) → IsSound g → Stands g c false old (table (setting_of g) c) → specs.Leaves g c most end new counted more × (new.arch ≡ old.arch)
  ends_rows more is turns end e g sound st =
      let p : PartWay took trace g c most n parts counted counts before now = w.runs g sound st in
      let f : Found g c most n p.younger p.older s new = find_row g sound c most n p.younger p.older s parts new p.at p.none commits in
      let one : suc n ≡ n + 1 = omega arith in
      let k : end_with (exit_by s.commit) (suc n) most ≡ Some end = ap (λ m. end_with (exit_by s.commit) m most) one ∙ e in
      (leaves g p.younger p.older f p.stats more is end (exit_by s.commit) refl (ended (exit_by s.commit) (suc n) most end k) k, same_arch c n parts new s turns ∙ w.arch)

  pub ends_shown : (after : S) (end : Committed) → end_with (exit_by s.commit) (n + 1) most ≡ Some end
      → ((start : S) (h : List Shown) → took start h now → took start (behind (shown_by trace c s.row s.commit) h) after)
      → (start : S) (h : List Shown) → took start h before → (g : Given) → IsSound g → g.trace ≡ trace → Stands g c false old (table (setting_of g) c)
      → took start (behind (stage_items g c most) h) after
  ends_shown after end e takes start h t g sound same st =
      let p : PartWay took trace g c most n parts counted counts before now = w.runs g sound st in
      let f : Found g c most n p.younger p.older s new = find_row g sound c most n p.younger p.older s parts new p.at p.none commits in
      let one : suc n ≡ n + 1 = omega arith in
      let k : end_with (exit_by s.commit) (suc n) most ≡ Some end = ap (λ m. end_with (exit_by s.commit) m most) one ∙ e in
      subst (λ l. took start l after)
      (sym (ap (λ l. behind l h)
      (all_shown g c most n p.older f.left f.row f.rest s f.turned (ended (exit_by s.commit) (suc n) most end k)
      ∙ ap (λ tr. commit_items g c (sweep (commit_row (setting_of g) c) p.older) ++ shown_by tr c s.row s.commit) same)
      ∙ behind_append (commit_items g c (sweep (commit_row (setting_of g) c) p.older)) (shown_by trace c s.row s.commit) h))
      (takes start (behind (commit_items g c (sweep (commit_row (setting_of g) c) p.older)) h) (p.taken start h t same))

  -- the watch was cut within a row
  pub cut_shown : (cut : S → List Shown → S → Type 0) (after : S)
      → ((start : S) (h : List Shown) → took start h now → CutWithin cut start h (shown_by trace c s.row s.commit) after)
      → (start : S) (h : List Shown) → took start h before → (g : Given) → IsSound g → g.trace ≡ trace → Stands g c false old (table (setting_of g) c)
      → CutWithin cut start h (stage_items g c most) after
  cut_shown cut after cuts start h t g sound same st =
      let p : PartWay took trace g c most n parts counted counts before now = w.runs g sound st in
      let f : Found g c most n p.younger p.older s new = find_row g sound c most n p.younger p.older s parts new p.at p.none commits in
      let done : List Shown = commit_items g c (sweep (commit_row (setting_of g) c) p.older) in
      let all : (more : List Shown) × (stage_items g c most ≡ (done ++ shown_by g.trace c s.row s.commit) ++ more) = begins_so g c most n p.older f.left f.row f.rest s f.turned in
      subst (λ l. CutWithin cut start h l after) (sym (all.1 ∙ ap (λ tr. (done ++ shown_by tr c s.row s.commit) ++ all.0) same))
      (cut_front cut start (done ++ shown_by trace c s.row s.commit) all.0 h after
      (cut_back cut start done (shown_by trace c s.row s.commit) h after (cuts start (behind done h) (p.taken start h t same))))

-- ---- no row commits any more

module _ {S : Type 0} (took : S → List Shown → S → Type 0) (trace : Trace) (c most n : ℕ) (old parts : Parts) (counted counts : CoreStats) (before now : S)
    (w : Within took trace c most n old parts counted counts before now) (over : leaving c n parts ≡ None) where
  module _ (g : Given) (sound : IsSound g) (st : Stands g c false old (table (setting_of g) c)) where
    way : PartWay took trace g c most n parts counted counts before now
    way = w.runs g sound st

    rows_over : (after_commit (setting_of g) c).rows ≡ way.younger ++ sweep (commit_row (setting_of g) c) way.older
    rows_over = turns_over g sound c n parts w.fits over way.younger way.older way.at

    quiet : NoneAt c way.younger
    quiet = front_none c way.younger way.older (not_yet (setting_of g) c (way.younger ++ way.older) way.at.rows)

    none_last : specs.last_row g c most ≡ None
    none_last =
        ap (last_commit (setting_of g) (budget g c most) c) rows_over
        ∙ (last_over (setting_of g) (budget g c most) c way.younger (sweep (commit_row (setting_of g) c) way.older) quiet ∙ way.none)

    so_many : count_by (λ o. is_at c o.committed) (after_commit (setting_of g) c).rows ≡ n
    so_many =
        omega (
          arith,
          ap (count_by (λ o. is_at c o.committed)) rows_over,
          count_join (λ o. is_at c o.committed) way.younger (sweep (commit_row (setting_of g) c) way.older),
          count_none (λ o. is_at c o.committed) way.younger quiet,
          way.at.count,
        )

    pub whole : IsWhole g c most n parts counted counts
    whole =
        record {
          none = none_last;
          stands = turn g sound c n parts parts None w.fits (over, refl) way.younger way.older way.at;
          count = so_many;
          stats = subst (λ l. CommitsCounted g c l counted counts) (sym rows_over) way.stats;
        }

    pub whole_shown : g.trace ≡ trace → (start : S) (h : List Shown) → took start h before → took start (behind (stage_items g c most) h) now
    whole_shown same start h t =
        subst (λ l. took start l now)
        (sym (ap (λ l. behind l h)
        (ap (λ o. commit_items g c (rows_behind g c o)) none_last
        ∙ (ap (commit_items g c) rows_over ∙ items_over g c way.younger (sweep (commit_row (setting_of g) c) way.older) quiet))))
        (way.taken start h t same)

-- the width is used up
pub none_left : (c : ℕ) (parts : Parts) → leaving c parts.config.commit parts ≡ None
none_left c parts = by_head (head_of c (first parts.unit.rows))
  where
    full : nat_lt parts.config.commit parts.config.commit ≡ false
    full =
        false_from_ne_true (nat_lt parts.config.commit parts.config.commit)
        (λ h. let q : parts.config.commit < parts.config.commit = ltb-true parts.config.commit parts.config.commit h in omega (arith, q))

    by_head : (o : Option Station) → if_may c parts.config.commit parts o ≡ None
    by_head None = refl
    by_head (Some s) = ap (λ b. cond (b && has_port (is_store s) c parts.pools) (Some s) None) full

-- ---- numbers

-- no more rows commit in a cycle than 32
pub fits_more : (c n m : ℕ) (parts : Parts) → n ≤ m → Fits c n parts → Fits c m parts
fits_more c n m parts le fits =
    let h : HasNumbers c n parts = fits.numbers in
    record {
      sizes = fits.sizes;
      time = fits.time;
      numbers = record { references = omega (arith, le, h.references); rows = h.rows; instructions = h.instructions };
      agree = fits.agree;
    }

-- behind the last turn
pub used_up : {S : Type 0} (took : S → List Shown → S → Type 0) (trace : Trace) (c most n : ℕ) (old parts : Parts) (counted counts : CoreStats) (before now : S)
    → Within took trace c most n old parts counted counts before now → n ≡ old.config.commit → leaving c n parts ≡ None
used_up took trace c most n old parts counted counts before now w e =
    subst (λ m. leaving c m parts ≡ None) (ap (λ (o : OooConfig). o.commit) w.config ∙ sym e) (none_left c parts)
