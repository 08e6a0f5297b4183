use Rattle.ecoff_load.proofs.Written.{HeadersSoFar}
use Rattle.ecoff_load.proofs.writing.put_part_headers.Given as goal

abbrev pub invariant-loop-part : goal.invariant-loop-part
invariant-loop-part l = HeadersSoFar l.big l.fn.at l.parts l.part-index l.at l.fn.bytes.items l.bytes.items
