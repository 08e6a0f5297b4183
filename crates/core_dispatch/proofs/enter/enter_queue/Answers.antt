use Rattle.ruu_core.specs.Window.{is_by, passes, second_done}
use Rattle.core_dispatch.proofs.Entry.{learned, store_held}
use Rattle.core_dispatch.proofs.enter.enter_queue.Goals as goal

pub know-requires : goal.know-requires
know-requires c =
    store_held c.args.held.row c.args.held.addr c.args.held.store (passes (second_done (is_by c.args.cycle)) c.args.held.row c.args.unit.now.rows) c.is_fed_store-fed.result c.args.queue.now c.add.new.self
    c.is_fed_store-fed.ensures c.add.ensures

pub returns-clause-queue : goal.returns-clause-queue
returns-clause-queue c =
    learned c.args.held.row c.args.cycle c.args.held.addr c.args.held.store (passes (second_done (is_by c.args.cycle)) c.args.held.row c.args.unit.now.rows) c.is_fed_store-fed.result c.args.queue.now c.add.new.self c.know.new.queue
    c.is_fed_store-fed.ensures c.requires.room.rises c.room-room.ensures.rises c.add.ensures c.know.ensures
