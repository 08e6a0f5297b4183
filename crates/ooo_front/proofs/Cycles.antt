-- What a row more adds to what a cycle leaves.
use Rattle.std.proofs.Common.{◌≡◌, ℕ, ◌+◌, ◌<◌, List, [], ◌∷◌, ◌++◌, All, length, refl, sym, ap, subst, ◌∙◌, arith, length-append}
use Rattle.std.specs.Prelude.{reverse}
use Rattle.std.proofs.lemmas.List.Elements.{All-nil, All-push, All-head}
use Rattle.mem_hier.specs.Stands.{Held}
use Rattle.bpred_unit.specs.declared.predictor.Predictor.{Predictor}
use Rattle.bpred_unit.specs.Stands.{cells_of, IsTop}
use Rattle.ooo_front.specs.declared.row.FetchRow.{FetchRow}
use Rattle.ooo_front.specs.Fetching.{FrontEnd, with_row}
use Rattle.ooo_front.specs.Stands.{Refers, LooksUp, Counts, IsNext}
use Rattle.ooo_front.proofs.Paths.{pushed}

pub rows_begin : (f f' : FrontEnd) (cycle : ℕ) (rows : List FetchRow) → f' ≡ record f { cycle = cycle + 1 } → rows ≡ [] → f'.rows ≡ reverse rows ++ f.rows
rows_begin f f' cycle rows e none = ap (λ (x : FrontEnd). x.rows) e ∙ ap (λ l. reverse l ++ f.rows) (sym none)

pub counts_begin : (f f' : FrontEnd) (cycle : ℕ) (rows : List FetchRow) → f' ≡ record f { cycle = cycle + 1 } → rows ≡ [] → Counts f f' rows cycle
counts_begin f f' cycle rows e none =
    record {
      size = ap (λ (x : FrontEnd). x.size) e;
      width = ap (λ (x : FrontEnd). x.width) e;
      row = omega (arith, ap (λ (x : FrontEnd). x.row) e, empty);
      cycle = ap (λ (x : FrontEnd). x.cycle) e;
      most = omega (arith, empty);
    }
  where
    empty : length rows ≡ 0
    empty = ap length none

pub looks_begin : (v : Predictor) (rows : List FetchRow) → rows ≡ [] → LooksUp v v rows
looks_begin v rows none =
    record { cells = refl; tops = subst (All (λ (r : FetchRow). IsTop (cells_of v) r.top)) (sym none) (All-nil (λ (r : FetchRow). IsTop (cells_of v) r.top)) }

pub rows_more : (f old new : FrontEnd) (rows rows' : List FetchRow) (r : FetchRow) → old.rows ≡ reverse rows ++ f.rows → new ≡ with_row r old → rows' ≡ rows ++ r ∷ []
    → new.rows ≡ reverse rows' ++ f.rows
rows_more f old new rows rows' r h e more =
    ap (λ (x : FrontEnd). x.rows) e ∙ (ap (λ l. r ∷ l) h ∙ sym (ap (λ l. reverse l ++ f.rows) more ∙ ap (λ l. l ++ f.rows) (pushed rows r)))

one_more : (rows rows' : List FetchRow) (r : FetchRow) → rows' ≡ rows ++ r ∷ [] → length rows' ≡ length rows + 1
one_more rows rows' r more = ap length more ∙ length-append rows (r ∷ [])

pub counts_more : (f old new : FrontEnd) (rows rows' : List FetchRow) (r : FetchRow) (cycle : ℕ) → Counts f old rows cycle → new ≡ with_row r old → IsNext old r cycle
    → rows' ≡ rows ++ r ∷ [] → length rows < f.width → Counts f new rows' cycle
counts_more f old new rows rows' r cycle h e next more few =
    record {
      size = ap (λ (x : FrontEnd). x.size) e ∙ h.size;
      width = ap (λ (x : FrontEnd). x.width) e ∙ h.width;
      row = omega (arith, ap (λ (x : FrontEnd). x.row) e, next.row, h.row, one_more rows rows' r more);
      cycle = ap (λ (x : FrontEnd). x.cycle) e ∙ h.cycle;
      most = omega (arith, one_more rows rows' r more);
    }

pub refers_more : (h h' h'' : Held) (rows rows' : List FetchRow) (r : FetchRow) (cycle : ℕ) → Refers h h' (length rows) cycle → Refers h' h'' 1 cycle → rows' ≡ rows ++ r ∷ []
    → Refers h h'' (length rows') cycle
refers_more h h' h'' rows rows' r cycle a b more =
    record {
      config = b.config ∙ a.config;
      references = omega (arith, a.references, b.references, one_more rows rows' r more);
      last_cycle = b.last_cycle;
    }

pub looks_more : (v v' v'' : Predictor) (rows rows' : List FetchRow) (r : FetchRow) → LooksUp v v' rows → LooksUp v' v'' (r ∷ []) → rows' ≡ rows ++ r ∷ []
    → LooksUp v v'' rows'
looks_more v v' v'' rows rows' r a b more =
    record {
      cells = b.cells ∙ a.cells;
      tops = subst (All P) (sym more) (All-push P rows r a.tops (subst (λ n. IsTop n r.top) a.cells (All-head (λ (x : FetchRow). IsTop (cells_of v') x.top) r [] b.tops)));
    }
  where
    P : FetchRow → Type 0
    P x = IsTop (cells_of v) x.top
