-- The view of a shelf and two streams that are three values, and of a value that borrows them.
use Rattle.std.specs.Prelude.{ℕ, List}
use Rattle.ss_base.specs.Outside.{Files}
use Rattle.journal.specs.declared.outside.Borrowed.{Borrowed}
use Rattle.journal.specs.View.{View}

abbrev pub parts_view : {H P R : Type 0} → (H → Type 0) → (H → Type 0) → (H → Files) → (H → ℕ) → (P → Type 0) → (P → List ℕ) → (P → ℕ) → (P → Type 0) → (R → Type 0) → (R → List ℕ) → (R → ℕ) → (R → Type 0) → View (H × P × R)
parts_view {H} {P} {R} tells calm files faults prog_tells prog_contents prog_faults prog_calm stat_tells stat_contents stat_faults stat_calm = record {
  place = λ o. (0, 0, 0);
  tells = λ o. tells o.0;
  calm = λ o. calm o.0;
  files = λ o. files o.0;
  faults = λ o. faults o.0;
  prog = record { Sink = P; sink = λ o. o.1; tells = λ o. prog_tells o.1; contents = λ o. prog_contents o.1; faults = λ o. prog_faults o.1; calm = λ o. prog_calm o.1 };
  stat = record { Sink = R; sink = λ o. o.2; tells = λ o. stat_tells o.2; contents = λ o. stat_contents o.2; faults = λ o. stat_faults o.2; calm = λ o. stat_calm o.2 };
}

-- the view of a value that leads to another one
abbrev pub through : {O Q : Type 0} → (O → Q) → (O → ℕ × ℕ × ℕ) → View Q → View O
through f place v = record {
  place = place;
  tells = λ o. v.tells (f o);
  calm = λ o. v.calm (f o);
  files = λ o. v.files (f o);
  faults = λ o. v.faults (f o);
  prog = record { Sink = v.prog.Sink; sink = λ o. v.prog.sink (f o); tells = λ o. v.prog.tells (f o); contents = λ o. v.prog.contents (f o); faults = λ o. v.prog.faults (f o); calm = λ o. v.prog.calm (f o) };
  stat = record { Sink = v.stat.Sink; sink = λ o. v.stat.sink (f o); tells = λ o. v.stat.tells (f o); contents = λ o. v.stat.contents (f o); faults = λ o. v.stat.faults (f o); calm = λ o. v.stat.calm (f o) };
}

-- the shelf and the streams that are borrowed
abbrev pub parts_of : {H P R : Type 0} → Borrowed H P R → H × P × R
parts_of o = (o.shelf.now, o.prog.now, o.stat.now)

abbrev pub names_of : {H P R : Type 0} → Borrowed H P R → ℕ × ℕ × ℕ
names_of o = (o.shelf.ghost_name, o.prog.ghost_name, o.stat.ghost_name)
