-- Laws from a value that leads to another one to that other value.
use Rattle.std.specs.Prelude.{◌≡◌, ℕ, List, Result, Ok, Err}
use Rattle.std.proofs.Common.{inl, inr}
use Rattle.journal.specs.declared.fault.Fault.{Fault}
use Rattle.journal.specs.declared.fault.Fault.TheVariants as fault
use Rattle.journal.specs.declared.loading.Found.{Found}
use Rattle.journal.specs.Write.{Journal}
use Rattle.journal.specs.View.{View, Stays, Holds, Untouched, Wrote, Failed, LeftOut, GaveUp, IsCalm}
use Rattle.journal.specs.Load.{Input, Unloaded, UnloadedAt, GaveUpLoading}
use Rattle.journal.specs.Outcome.{Outcome, Ends, EndsByFound, Comes}
use Rattle.journal.specs.Parts.{through}

stays_through : {O Q : Type 0} (f : O → Q) (place : O → ℕ × ℕ × ℕ) (v : View Q) (a b : O) → v.place (f b) ≡ v.place (f a) → Stays (through f place v) a b → Stays v (f a) (f b)
stays_through f place v a b e q = record { place = e; tells = q.tells; calm = q.calm; prog = q.prog; stat = q.stat; prog_calm = q.prog_calm; stat_calm = q.stat_calm }

holds_through : {O Q : Type 0} (f : O → Q) (place : O → ℕ × ℕ × ℕ) (v : View Q) (a b : O) (h : Journal) → v.place (f b) ≡ v.place (f a) → Holds (through f place v) a h b → Holds v (f a) h (f b)
holds_through f place v a b h e q = record { stays = stays_through f place v a b e q.stays; counts = q.counts; files = q.files; output = q.output; report = q.report }

untouched_through : {O Q : Type 0} (f : O → Q) (place : O → ℕ × ℕ × ℕ) (v : View Q) (a b : O) (h : Journal) → Untouched (through f place v) a h b → Untouched v (f a) h (f b)
untouched_through f place v a b h q = record { prog = q.prog; stat = q.stat }

wrote_through : {O Q : Type 0} (f : O → Q) (place : O → ℕ × ℕ × ℕ) (v : View Q) (a b : O) (h : Journal) → v.place (f b) ≡ v.place (f a) → Wrote (through f place v) a h b → Wrote v (f a) h (f b)
wrote_through f place v a b h e q = record { holds = holds_through f place v a b h e q.holds; untouched = untouched_through f place v a b h q.untouched }

calm_through : {O Q : Type 0} (f : O → Q) (place : O → ℕ × ℕ × ℕ) (v : View Q) (x : Fault) (a : O) → IsCalm v x (f a) → IsCalm (through f place v) x a
calm_through f place v fault.Shelf a c = c
calm_through f place v fault.Prog a c = c
calm_through f place v fault.Stat a c = c
calm_through f place v fault.OutOfMemory a c = c

failed_through : {O Q : Type 0} (f : O → Q) (place : O → ℕ × ℕ × ℕ) (v : View Q) (a b : O) (h : Journal) (x : Fault) → v.place (f b) ≡ v.place (f a) → Failed (through f place v) a h x b → Failed v (f a) h x (f b)
failed_through f place v a b h x e q = record {
  done = q.done;
  next = q.next;
  later = q.later;
  all = q.all;
  by = q.by;
  stays = stays_through f place v a b e q.stays;
  counts = q.counts;
  calm = λ c. q.calm (calm_through f place v x a c);
  files = q.files;
  output = q.output;
  report = q.report;
  untouched = untouched_through f place v a b _ q.untouched;
}

left_through : {O Q : Type 0} (f : O → Q) (place : O → ℕ × ℕ × ℕ) (v : View Q) (a b : O) (h : Journal) → v.place (f b) ≡ v.place (f a) → LeftOut (through f place v) a h b → LeftOut v (f a) h (f b)
left_through f place v a b h e q = record { done = q.done; next = q.next; later = q.later; all = q.all; holds = holds_through f place v a b _ e q.holds; untouched = untouched_through f place v a b _ q.untouched }

gave_up_through : {O Q : Type 0} (f : O → Q) (place : O → ℕ × ℕ × ℕ) (v : View Q) (a b : O) (h : Journal) (x : Fault) → v.place (f b) ≡ v.place (f a) → GaveUp (through f place v) a h x b → GaveUp v (f a) h x (f b)
gave_up_through f place v a b h fault.Shelf e q = failed_through f place v a b h fault.Shelf e q
gave_up_through f place v a b h fault.Prog e q = failed_through f place v a b h fault.Prog e q
gave_up_through f place v a b h fault.Stat e q = failed_through f place v a b h fault.Stat e q
gave_up_through f place v a b h fault.OutOfMemory e q = left_through f place v a b h e q

unloaded_through : {O Q : Type 0} (f : O → Q) (place : O → ℕ × ℕ × ℕ) (v : View Q) (a b : O) (i : Input) → v.place (f b) ≡ v.place (f a) → Unloaded (through f place v) a i b → Unloaded v (f a) i (f b)
unloaded_through f place v a b i e q = record {
  stays = stays_through f place v a b e q.stays;
  counts = q.counts;
  calm = q.calm;
  files = q.files;
  output = q.output;
  report = q.report;
  prog = q.prog;
  stat = q.stat;
}

unloaded_at_through : {O Q : Type 0} (f : O → Q) (place : O → ℕ × ℕ × ℕ) (v : View Q) (a b : O) (is : List Input) → v.place (f b) ≡ v.place (f a) → UnloadedAt (through f place v) a is b → UnloadedAt v (f a) is (f b)
unloaded_at_through f place v a b is e q = record {
  before = q.before;
  failed = q.failed;
  later = q.later;
  all = q.all;
  found = q.found;
  are = q.are;
  whole = q.whole;
  unloaded = unloaded_through f place v a b q.failed e q.unloaded;
}

loading_through : {O Q : Type 0} (f : O → Q) (place : O → ℕ × ℕ × ℕ) (v : View Q) (a b : O) (is : List Input) (x : Fault) → v.place (f b) ≡ v.place (f a) → GaveUpLoading (through f place v) a is x b → GaveUpLoading v (f a) is x (f b)
loading_through f place v a b is fault.Shelf e q = unloaded_at_through f place v a b is e q
loading_through f place v a b is fault.Prog e q = q
loading_through f place v a b is fault.Stat e q = q
loading_through f place v a b is fault.OutOfMemory e q = wrote_through f place v a b _ e q

ends_through : {O Q E : Type 0} (f : O → Q) (place : O → ℕ × ℕ × ℕ) (v : View Q) (a b : O) (o : Outcome E) (r : Result E Fault) → v.place (f b) ≡ v.place (f a) → Ends (through f place v) a o b r → Ends v (f a) o (f b) r
ends_through f place v a b o (Ok x) e q = (q.0, wrote_through f place v a b o.writes e q.1)
ends_through f place v a b o (Err x) e q = gave_up_through f place v a b o.writes x e q

by_found_through : {O Q E : Type 0} (f : O → Q) (place : O → ℕ × ℕ × ℕ) (v : View Q) (a b : O) (is : List Input) (Has : List Found → Outcome E → Type 0) (r : Result E Fault) → v.place (f b) ≡ v.place (f a)
    → EndsByFound (through f place v) a is Has b r → EndsByFound v (f a) is Has (f b) r
by_found_through f place v a b is Has r e q = record { found = q.found; are = q.are; outcome = q.outcome; has = q.has; ends = ends_through f place v a b q.outcome r e q.ends }

-- a command over the one is a command over the other
pub comes_through : {O Q E : Type 0} (f : O → Q) (place : O → ℕ × ℕ × ℕ) (v : View Q) (a b : O) (is : List Input) (Has : List Found → Outcome E → Type 0) (r : Result E Fault) → v.place (f b) ≡ v.place (f a)
    → Comes (through f place v) a is Has b r → Comes v (f a) is Has (f b) r
comes_through f place v a b is Has (Ok x) e q = by_found_through f place v a b is Has (Ok x) e q
comes_through f place v a b is Has (Err x) e (inl q) = inl (loading_through f place v a b is x e q)
comes_through f place v a b is Has (Err x) e (inr q) = inr (by_found_through f place v a b is Has (Err x) e q)
