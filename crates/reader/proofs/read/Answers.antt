use Rattle.reader.proofs.ReadLaws.{used_fits, used_in, read_table}
use Rattle.reader.proofs.read.Goals as goal

pub used_by-requires : goal.used_by-requires
used_by-requires c = search used_fits

pub clear-requires : goal.clear-requires
clear-requires c = search used_in

pub returns-clause-table_after : goal.returns-clause-table_after
returns-clause-table_after c = search read_table
