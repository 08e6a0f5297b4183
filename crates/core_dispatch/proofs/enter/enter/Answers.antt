use Rattle.std.proofs.Common.{◌∙◌, ap, sym}
use Rattle.ruu_core.specs.Window.{Window, is_above}
use Rattle.core_dispatch.proofs.Entry.{is_there, entered_so, addressed_so}
use Rattle.core_dispatch.proofs.enter.enter.Goals as goal

pub enter_queue_if-requires-clause-live : goal.enter_queue_if-requires-clause-live
enter_queue_if-requires-clause-live c = is_there c.args.s c.args.cycle c.args.unit.now c.dispatch.new.self c.dispatch.ensures

pub enter_queue_if-requires-clause-time : goal.enter_queue_if-requires-clause-time
enter_queue_if-requires-clause-time c = ap (λ (w : Window). is_above w.past c.args.cycle) c.dispatch.ensures ∙ c.requires.unit.time

pub enter_queue_if-requires-clause-room : goal.enter_queue_if-requires-clause-room
enter_queue_if-requires-clause-room c = λ e. c.requires.queue (sym c.is_memory-memory.ensures ∙ e)

pub returns-clause-queue : goal.returns-clause-queue
returns-clause-queue c =
    entered_so c.args.s c.args.cycle c.args.addr c.args.unit.now c.dispatch.new.self c.is_memory-memory.result c.is_store-store.result c.args.queue.now c.enter_queue_if.new.queue
    c.dispatch.ensures c.is_memory-memory.ensures c.is_store-store.ensures c.enter_queue_if.ensures.queue

pub returns-clause-addresses : goal.returns-clause-addresses
returns-clause-addresses c =
    addressed_so c.args.s c.args.addr c.is_memory-memory.result c.is_store-store.result c.args.addresses.now c.enter_queue_if.new.addresses
    c.is_memory-memory.ensures c.is_store-store.ensures c.enter_queue_if.ensures.addresses
