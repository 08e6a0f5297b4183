use Rattle.std.proofs.Common.{◌+◌, ◌-◌, ◌≤◌, arith}
use Rattle.std.proofs.lemmas.Nat.{le-div}
use Rattle.mem_hier.proofs.config.HierConfig.memory_latency.Goals as goal

pub overflow_sub-result : goal.overflow_sub-result
overflow_sub-result c =
    let width = c.args.self.now.mem_width in
    let least : 1 ≤ width = c.requires.allowed.memory.width.least in
    let block : 1 ≤ c.args.block = c.requires.block.0 in
    le-div 1 (c.args.block + width - 1) width (omega arith) (omega arith)
