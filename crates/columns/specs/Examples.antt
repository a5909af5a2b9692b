-- Worked examples.
use Rattle.std.specs.Prelude.{◌≡◌, refl, [], get_or, Some, None}
use Rattle.text.specs.Ascii.{ascii}
use Rattle.letters.specs.Capitals.{raised}
use Rattle.letters.specs.Same.{same_raised}
use Rattle.tables.specs.Table.{named}
use Rattle.columns.specs.Columns.{column_names, column_named, band_rx, dxcc}

a_column : column_named (ascii "Band_Rx") ≡ Some band_rx
unfolding column_named named column_names same_raised raised
a_column = refl

an_extra_field : column_named (ascii "CALLS") ≡ None
unfolding column_named named column_names same_raised raised
an_extra_field = refl

the_last : get_or column_names dxcc [] ≡ ascii "DXCC"
unfolding column_names
the_last = refl
