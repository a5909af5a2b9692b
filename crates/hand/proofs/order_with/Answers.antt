use Rattle.hand.proofs.PartLaws.{order_there}
use Rattle.hand.proofs.order_with.Goals as goal

pub returns : goal.returns
returns c = search order_there
