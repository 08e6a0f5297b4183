use Rattle.paged_mem.proofs.Pages.{same_bytes}
use Rattle.paged_mem.proofs.Entries.{in_space}
use Rattle.paged_mem.proofs.memory.PagedMem.equal_where_read_alike.Goals as goal

pub returns : goal.returns
returns c = λ same. rw (← c.self.view_is, ← c.other.view_is) (same_bytes _ _ (in_space _ c.self.invariant) (in_space _ c.other.invariant) (rw (c.self.view_is, c.other.view_is) same))
