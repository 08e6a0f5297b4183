-- What a watch has made of events and of the file that it writes.
use Rattle.std.specs.Prelude.{◌≡◌, ◌++◌, ◌<◌, ℕ, List, [], ◌∷◌, length, Option, Some, None, Result, Ok, Err}
use Rattle.ss_base.specs.declared.fault.PutFault.{PutFault}
use Rattle.ss_base.specs.Outside.{BeginsWith, Files, OthersStay, bytes_at}
use Rattle.ooo_table.specs.declared.event.Event.{Event}
use Rattle.pipetrace.specs.declared.watch.TextWatch.{TextWatch}
use Rattle.pipetrace.specs.Text.{events_text}
use Rattle.pipetrace.specs.Watch.{file_of, last_of, pending_of}

-- the cycle of the last of events, whose line stands
abbrev pub last_cycle : Option ℕ → List Event → Option ℕ
last_cycle last [] = last
last_cycle last (e ∷ es) = last_cycle (Some e.cycle) es

-- since a file was in some state, a watch has taken events: what is written to the file and what is pending are their text,
-- less than a piece is pending, and no other file has changed
pub record HasTaken (start : Files) (name : List ℕ) (es : List Event) (w : TextWatch) (now : Files) : Type 0 where
  pub name_is : file_of w ≡ name
  pub last : last_of w ≡ last_cycle None es
  pub short : length (pending_of w) < 65536
  pub text : bytes_at now name ++ pending_of w ≡ bytes_at start name ++ events_text None es
  pub others : OthersStay start name now

-- it was cut within events: a front of their text is written
pub record WasCut (start : Files) (name : List ℕ) (es : List Event) (now : Files) : Type 0 where
  pub front : BeginsWith (bytes_at start name ++ events_text None es) (bytes_at now name)
  pub others : OthersStay start name now

abbrev pub TakesOrIsCut : {T : Type 0} → Files → List ℕ → List Event → TextWatch → Files → Result T PutFault → Type 0
TakesOrIsCut start name es w now (Ok x) = HasTaken start name es w now
TakesOrIsCut start name es w now (Err f) = WasCut start name es now
