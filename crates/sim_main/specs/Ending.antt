-- How commands end: an answer, or the fault that ended them.
use Rattle.std.specs.Prelude.{ℕ, Bool, true, false, Option, Some, None, Result, Ok, Err}
use Rattle.journal.specs.declared.fault.Fault.{Fault}
use Rattle.journal.specs.declared.fault.Fault.TheVariants as fault
use Rattle.answers.specs.declared.answer.Answer.{Answer}
use Rattle.answers.specs.declared.answer.Answer.TheVariants as answer
use Rattle.sim_main.specs.declared.ending.Ending.{Ending}
use Rattle.sim_main.specs.declared.ending.Ending.TheVariants as ending

-- the status of the program
abbrev pub status_of : Ending → ℕ
status_of (ending.Exited code) = 0
status_of ending.Made = 0
status_of (ending.Words at why) = 1
status_of (ending.Object at why) = 2
status_of (ending.Trace at why) = 3
status_of (ending.Point at why) = 4
status_of ending.ShelfFault = 5
status_of ending.SinkFault = 6
status_of ending.OutOfMemory = 7
status_of (ending.Stopped why pc icnt) = 8
status_of ending.Budget = 9
status_of (ending.Text line why) = 10
status_of (ending.TooLong name) = 11
status_of (ending.NotBuilt what) = 12

-- an ending tells of a failing outside or of want of memory, and not of words and files
abbrev pub is_fault : Ending → Bool
is_fault (ending.Exited code) = false
is_fault ending.Made = false
is_fault (ending.Words at why) = false
is_fault (ending.Object at why) = false
is_fault (ending.Trace at why) = false
is_fault (ending.Point at why) = false
is_fault ending.ShelfFault = true
is_fault ending.SinkFault = true
is_fault ending.OutOfMemory = true
is_fault (ending.Stopped why pc icnt) = false
is_fault ending.Budget = false
is_fault (ending.Text line why) = false
is_fault (ending.TooLong name) = false
is_fault (ending.NotBuilt what) = false

-- the ending of an answer
abbrev pub answer_ending : Answer → Ending
answer_ending (answer.Exited code) = ending.Exited code
answer_ending answer.Made = ending.Made
answer_ending (answer.Words at why) = ending.Words at why
answer_ending (answer.Object at why) = ending.Object at why
answer_ending (answer.Trace at why) = ending.Trace at why
answer_ending (answer.Point at why) = ending.Point at why
answer_ending (answer.Stopped why pc icnt) = ending.Stopped why pc icnt
answer_ending answer.Budget = ending.Budget
answer_ending (answer.Text line why) = ending.Text line why
answer_ending (answer.TooLong name) = ending.TooLong name
answer_ending (answer.NotBuilt what) = ending.NotBuilt what

-- the ending of a fault
abbrev pub fault_ending : Fault → Ending
fault_ending fault.Shelf = ending.ShelfFault
fault_ending fault.Prog = ending.SinkFault
fault_ending fault.Stat = ending.SinkFault
fault_ending fault.OutOfMemory = ending.OutOfMemory

-- the ending of what a command came to
abbrev pub ending_of : Result Answer Fault → Ending
ending_of (Ok a) = answer_ending a
ending_of (Err f) = fault_ending f

-- the answer of an ending that tells of no fault
abbrev pub answer_of : Ending → Option Answer
answer_of (ending.Exited code) = Some (answer.Exited code)
answer_of ending.Made = Some answer.Made
answer_of (ending.Words at why) = Some (answer.Words at why)
answer_of (ending.Object at why) = Some (answer.Object at why)
answer_of (ending.Trace at why) = Some (answer.Trace at why)
answer_of (ending.Point at why) = Some (answer.Point at why)
answer_of (ending.Stopped why pc icnt) = Some (answer.Stopped why pc icnt)
answer_of ending.Budget = Some answer.Budget
answer_of (ending.Text line why) = Some (answer.Text line why)
answer_of (ending.TooLong name) = Some (answer.TooLong name)
answer_of (ending.NotBuilt what) = Some (answer.NotBuilt what)
answer_of ending.ShelfFault = None
answer_of ending.SinkFault = None
answer_of ending.OutOfMemory = None
