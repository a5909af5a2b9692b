use Rattle.station.proofs.TextLaws.{station_first, station_second, station_third, station_put}
use Rattle.station.proofs.put_station.Goals as goal

pub put_place-a-requires : goal.put_place-a-requires
put_place-a-requires c = search station_first

pub put_region-b-requires : goal.put_region-b-requires
put_region-b-requires c = search station_second

pub put_call-requires : goal.put_call-requires
put_call-requires c = search station_third

pub returns : goal.returns
returns c = search station_put
