-- How the files and streams of a command are seen, and what its calls do to them.
use Rattle.std.specs.Prelude.{◌≡◌, ◌⊎◌, ◌≤◌, ◌++◌, ℕ, List, ◌∷◌, Result, Ok, Err}
use Rattle.ss_base.specs.Outside.{Files, Rose}
use Rattle.journal.specs.declared.fault.Fault.{Fault}
use Rattle.journal.specs.declared.fault.Fault.TheVariants as fault
use Rattle.journal.specs.Write.{Write, Journal, fault_of, Lacks, files_after, output_of, report_of, PartOfFiles, PartOfOutput, PartOfReport}

-- ---- how an outside is seen

-- a stream: whether it tells its bytes and which these are, how often it failed, and whether it never fails from
-- now on
pub record Stream (O : Type 0) : Type 1 where
  pub Sink : Type 0
  pub sink : O → Sink
  pub tells : O → Type 0
  pub contents : O → List ℕ
  pub faults : O → ℕ
  pub calm : O → Type 0

-- a shelf of files, the stream of a program's output, and the stream of refusals and statistics
pub record View (O : Type 0) : Type 1 where
  -- by which references they are reached
  pub place : O → ℕ × ℕ × ℕ
  pub tells : O → Type 0
  pub calm : O → Type 0
  pub files : O → Files
  pub faults : O → ℕ
  pub prog : Stream O
  pub stat : Stream O

-- the counts of faults of the shelf and of both streams
abbrev pub counts : {O : Type 0} → View O → O → ℕ × ℕ × ℕ
counts v o = (v.faults o, v.prog.faults o, v.stat.faults o)

-- ---- what stays

-- a count of faults is greater, or stands at its last value
abbrev pub Risen : ℕ → ℕ → Type 0
Risen before now = (before ≤ now) × Rose before now

-- a fault raises the count of the shelf or stream that failed, and leaves the other two
abbrev pub Raised : Fault → ℕ × ℕ × ℕ → ℕ × ℕ × ℕ → Type 0
Raised fault.Shelf before now = Risen before.0 now.0 × (now.1 ≡ before.1) × (now.2 ≡ before.2)
Raised fault.Prog before now = (now.0 ≡ before.0) × Risen before.1 now.1 × (now.2 ≡ before.2)
Raised fault.Stat before now = (now.0 ≡ before.0) × (now.1 ≡ before.1) × Risen before.2 now.2
Raised fault.OutOfMemory before now = now ≡ before

-- the part that a fault tells of never fails from now on; of a shelf this speaks of writes
abbrev pub IsCalm : {O : Type 0} → View O → Fault → O → Type 0
IsCalm v fault.Shelf o = v.calm o
IsCalm v fault.Prog o = v.prog.calm o
IsCalm v fault.Stat o = v.stat.calm o
IsCalm v fault.OutOfMemory o = ⊥

-- shelf and streams are reached as before, tell what they told, and are calm where they were
pub record Stays {O : Type 0} (v : View O) (a b : O) : Type 0 where
  pub place : v.place b ≡ v.place a
  pub tells : v.tells a → v.tells b
  pub calm : v.calm a → v.calm b
  pub prog : v.prog.tells a → v.prog.tells b
  pub stat : v.stat.tells a → v.stat.tells b
  pub prog_calm : v.prog.calm a → v.prog.calm b
  pub stat_calm : v.stat.calm a → v.stat.calm b

-- ---- journals that were written

-- files and streams hold what they held, changed by this journal
pub record Holds {O : Type 0} (v : View O) (a : O) (h : Journal) (b : O) : Type 0 where
  pub stays : Stays v a b
  pub counts : counts v b ≡ counts v a
  pub files : v.tells a → v.files b ≡ files_after h (v.files a)
  pub output : v.prog.tells a → v.prog.contents b ≡ v.prog.contents a ++ output_of h
  pub report : v.stat.tells a → v.stat.contents b ≡ v.stat.contents a ++ report_of h

-- a stream to which a journal puts nothing is as it was, its count and all
pub record Untouched {O : Type 0} (v : View O) (a : O) (h : Journal) (b : O) : Type 0 where
  pub prog : Lacks fault.Prog h → v.prog.sink b ≡ v.prog.sink a
  pub stat : Lacks fault.Stat h → v.stat.sink b ≡ v.stat.sink a

-- a journal was written from its first write to its last
pub record Wrote {O : Type 0} (v : View O) (a : O) (h : Journal) (b : O) : Type 0 where
  pub holds : Holds v a h b
  pub untouched : Untouched v a h b

-- a write of a journal failed, and only a part of it may be done; all that come before it are done, and
-- none that come behind it
pub record Failed {O : Type 0} (v : View O) (a : O) (h : Journal) (f : Fault) (b : O) : Type 0 where
  pub done : Journal
  pub next : Write
  pub later : Journal
  pub all : h ≡ later ++ next ∷ done
  pub by : f ≡ fault_of next
  pub stays : Stays v a b
  pub counts : Raised f (counts v a) (counts v b)
  pub calm : IsCalm v f a → ⊥
  pub files : v.tells a → PartOfFiles next (files_after done (v.files a)) (v.files b)
  pub output : v.prog.tells a → PartOfOutput next (v.prog.contents a ++ output_of done) (v.prog.contents b)
  pub report : v.stat.tells a → PartOfReport next (v.stat.contents a ++ report_of done) (v.stat.contents b)
  pub untouched : Untouched v a (next ∷ done) b

-- there was no memory for the rest of a journal, from one write on: nothing of that is done
pub record LeftOut {O : Type 0} (v : View O) (a : O) (h : Journal) (b : O) : Type 0 where
  pub done : Journal
  pub next : Write
  pub later : Journal
  pub all : h ≡ later ++ next ∷ done
  pub holds : Holds v a done b
  pub untouched : Untouched v a (next ∷ done) b

-- so it was, or the journal had no rest
abbrev pub RanOut : {O : Type 0} → View O → O → Journal → O → Type 0
RanOut v a h b = Wrote v a h b ⊎ LeftOut v a h b

-- a journal was cut by a fault; where memory ran out it may yet be whole
abbrev pub Cut : {O : Type 0} → View O → O → Journal → Fault → O → Type 0
Cut v a h fault.Shelf b = Failed v a h fault.Shelf b
Cut v a h fault.Prog b = Failed v a h fault.Prog b
Cut v a h fault.Stat b = Failed v a h fault.Stat b
Cut v a h fault.OutOfMemory b = RanOut v a h b

-- a journal was given up by a fault before it was whole
abbrev pub GaveUp : {O : Type 0} → View O → O → Journal → Fault → O → Type 0
GaveUp v a h fault.Shelf b = Failed v a h fault.Shelf b
GaveUp v a h fault.Prog b = Failed v a h fault.Prog b
GaveUp v a h fault.Stat b = Failed v a h fault.Stat b
GaveUp v a h fault.OutOfMemory b = LeftOut v a h b

-- a call writes a journal, or gives it up
abbrev pub Writes : {O T : Type 0} → View O → O → Journal → O → Result T Fault → Type 0
Writes v a h b (Ok x) = Wrote v a h b
Writes v a h b (Err f) = GaveUp v a h f b
