use Rattle.headers.proofs.SizeLaws.{export_size}
use Rattle.headers.proofs.export_size.Goals as goal

pub returns : goal.returns
returns c = search export_size
