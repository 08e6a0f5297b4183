-- What the program keeps of the row that is fetched next.
use Rattle.ooo_table.specs.Table as table
use Rattle.ooo_plain.specs.declared.next_fetch.NextFetch.{NextFetch}

abbrev pub kept_next : table.NextFetch → NextFetch
kept_next n = record { pc = n.pc; earliest = n.earliest; right = n.right }
