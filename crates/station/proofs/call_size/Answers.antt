use Rattle.headers.proofs.SizeLaws.{two_sizes}
use Rattle.station.proofs.call_size.Goals as goal

pub returns : goal.returns
returns c = search two_sizes
