use Rattle.ooo_table.proofs.Turns.{within_dispatch}
use Rattle.ooo_table.proofs.stage_laws.dispatch_turns_keep_links.Goals as goal

pub returns : goal.returns
returns c = within_dispatch
