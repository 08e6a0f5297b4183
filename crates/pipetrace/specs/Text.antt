-- The text of a log: a line for each cycle with events, a line for each of them, and the line of the end.
use Rattle.std.specs.Prelude.{◌++◌, ℕ, Bool, false, List, [], ◌∷◌, Option, Some, None, nat_eq, if◌then◌else◌, codes, decimal}
use Rattle.ss_base.specs.Text.{hex8}
use Rattle.pisa_step.specs.declared.cause.Cause.TheVariants as cause
use Rattle.sim_safe.specs.declared.observer.RunEnd.TheVariants as ends
use Rattle.sim_safe.specs.Ends.{end_text}
use Rattle.ooo_table.specs.declared.event.Mark.{Mark}
use Rattle.ooo_table.specs.declared.event.Mark.TheVariants as mark
use Rattle.ooo_table.specs.declared.event.Event.{Event}
use Rattle.ooo_table.specs.declared.event.EndWord.{EndWord}
use Rattle.ooo_table.specs.declared.event.EndWord.TheVariants as word
use Rattle.ooo_table.specs.declared.event.Log.{Log}

-- what stands in the line of a row's mark; a fetch has the address, the predicted next one, and when the words are there
abbrev pub mark_text : ℕ → Mark → List ℕ
mark_text row mark.Committed = codes "C " ++ decimal row
mark_text row mark.Written = codes "W " ++ decimal row
mark_text row mark.Returned = codes "R " ++ decimal row
mark_text row mark.Squashed = codes "X " ++ decimal row
mark_text row mark.Issued = codes "I " ++ decimal row
mark_text row mark.Accessed = codes "A " ++ decimal row
mark_text row mark.Dispatched = codes "D " ++ decimal row
mark_text row (mark.Fetched pc next queued) = codes "+ " ++ decimal row ++ (codes " " ++ hex8 pc) ++ (codes " " ++ hex8 next) ++ (codes " " ++ decimal queued)

abbrev pub cycle_line : ℕ → List ℕ
cycle_line c = codes "@ " ++ decimal c ++ codes "\n"

-- this is the cycle whose line was the last
abbrev pub is_open : Option ℕ → ℕ → Bool
is_open None c = false
is_open (Some last) c = nat_eq last c

-- the line of a cycle, where it isn't the last cycle whose line stands
abbrev pub opening : Option ℕ → ℕ → List ℕ
opening last c = if is_open last c then [] else cycle_line c

-- the text of an event behind the line of a cycle: the line of its own cycle where that is another one, and its line
abbrev pub event_text : Option ℕ → Event → List ℕ
event_text last e = opening last e.cycle ++ mark_text e.row e.mark ++ codes "\n"

abbrev pub events_text : Option ℕ → List Event → List ℕ
events_text last [] = []
events_text last (e ∷ es) = event_text last e ++ events_text (Some e.cycle) es

-- how a run ended, in words
abbrev pub word_text : EndWord → List ℕ
word_text (word.Exited code) = end_text (ends.Stop (cause.Exited code)) 0 0
word_text word.Budget = end_text ends.Limit 0 0
word_text (word.Stopped pc icnt why) = end_text (ends.Stop why) pc icnt

abbrev pub end_line : ℕ → EndWord → List ℕ
end_line cycles end = codes ". " ++ decimal cycles ++ codes " " ++ word_text end ++ codes "\n"

-- the text of a log
abbrev pub text_of : Log → List ℕ
text_of log = events_text None log.events ++ end_line log.cycles log.end
