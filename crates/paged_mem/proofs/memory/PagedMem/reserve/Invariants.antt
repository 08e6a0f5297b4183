use Rattle.paged_mem.proofs.Reserving.{Reserving}
use Rattle.paged_mem.proofs.memory.PagedMem.reserve.Given as goal

abbrev pub invariant-loop-number : goal.invariant-loop-number
invariant-loop-number l = Reserving l.initial.self l.self l.addr l.len l.number
