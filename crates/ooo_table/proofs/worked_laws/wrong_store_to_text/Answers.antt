use Rattle.ooo_table.proofs.WrongStoreToText.{shows}
use Rattle.ooo_table.proofs.worked_laws.wrong_store_to_text.Goals as goal

pub returns : goal.returns
returns c = shows
