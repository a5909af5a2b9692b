use Rattle.wanted.proofs.WantedLaws.{place_out, place_in}
use Rattle.wanted.proofs.place_at.Goals as goal

pub returns-then-list-p : goal.returns-then-list-p
returns-then-list-p c = search place_out

pub returns : goal.returns
returns c = search place_in
