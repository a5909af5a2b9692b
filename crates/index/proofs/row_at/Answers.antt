use Rattle.index.specs.Rows.{row_at}
use Rattle.contacts.specs.Lists.{call_at, date_at, time_at, band_at, mode_at, services_at}
use Rattle.index.proofs.row_at.Goals as goal

pub returns : goal.returns
unfolding row_at call_at date_at time_at band_at mode_at services_at
returns c = cc
