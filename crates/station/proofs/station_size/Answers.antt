use Rattle.station.proofs.SizeLaws.{station_size}
use Rattle.station.proofs.TextLaws.{station_text_lem}
use Rattle.station.proofs.station_size.Goals as goal

pub returns : goal.returns
returns c = search (station_size, station_text_lem)
