use Rattle.checkpoint.proofs.Memory.{page_turn, laid_none, laid_next}
use Rattle.checkpoint.proofs.restoring.memory.Goals as goal

pub loop-page-init : goal.loop-page-init
loop-page-init c = laid_none _ c.new-mem.ensures.bytes

pub put_page-requires-clause-number : goal.put_page-requires-clause-number
put_page-requires-clause-number c = (page_turn 0 c.args.pages.now c.loop-page.page-index c.page-item.result c.requires c.loop-page-test.true c.page-item.is).number

pub put_page-requires-clause-whole : goal.put_page-requires-clause-whole
put_page-requires-clause-whole c = (page_turn 0 c.args.pages.now c.loop-page.page-index c.page-item.result c.requires c.loop-page-test.true c.page-item.is).whole

pub loop-page-preserved : goal.loop-page-preserved
loop-page-preserved c = laid_next _ _ c.args.pages.now c.loop-page.page-index c.page-item.result c.requires c.loop-page-test.true c.page-item.is c.loop-page.invariant c.in_ok-put_page.ensures
