-- Each public call's promise is met by one answer. Assumes nothing.
use mathlib.Core.Path.{sym, ◌∙◌}
use Rattle.text.proofs.Once.{OnceWith}
use Rattle.station.proofs.write_station.Reads as write-station
use Rattle.station.proofs.write_station.Kinds as write-station-kinds

write_station_once : OnceWith 8 write-station-kinds.ps write-station-kinds.r (λ κs d. d.1.1.1.1.1.1.1.0.now) write-station.Post
write_station_once κs a x y d e p q = (p.0 ∙ sym q.0, p.1 ∙ rw (p.0 ∙ sym q.0) (sym q.1))
