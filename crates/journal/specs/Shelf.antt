-- How a shelf over an outside answers.
use Rattle.std.specs.Prelude.{Result, Ok, Err}
use Rattle.ss_base.specs.declared.fault.PutFault.{PutFault}
use Rattle.ss_base.specs.declared.fault.PutFault.TheVariants as put
use Rattle.journal.specs.declared.fault.Fault.{Fault}
use Rattle.journal.specs.declared.fault.Fault.TheVariants as fault

-- the answer to a write of a file, which no stream can fail
abbrev pub put_result : {T : Type 0} → Result T Fault → Result T PutFault
put_result (Ok x) = Ok x
put_result (Err fault.Shelf) = Err put.Failed
put_result (Err fault.Prog) = Err put.Failed
put_result (Err fault.Stat) = Err put.Failed
put_result (Err fault.OutOfMemory) = Err put.OutOfMemory
