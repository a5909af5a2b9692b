use Rattle.tables.proofs.EntryLaws.{entry_here, no_entry_lem}
use Rattle.tables.proofs.name_in.Goals as goal

pub returns-then-k-names : goal.returns-then-k-names
returns-then-k-names c = search entry_here

pub returns-else-k-names : goal.returns-else-k-names
returns-else-k-names c = search no_entry_lem
