use Rattle.mhz.proofs.WriteLaws.{too_high, past_the_end, too_short, has_room, wrote}
use Rattle.mhz.proofs.hz_to_mhz_string.Goals.{then-at-out-via-then-at-out, then-at-out-via-else-at-out+then-out-at}
use Rattle.mhz.proofs.hz_to_mhz_string.Goals as goal

pub returns-then-hz-ge8589934592000000 : goal.returns-then-hz-ge8589934592000000
returns-then-hz-ge8589934592000000 c = search too_high

pub returns-then-at-out : goal.returns-then-at-out
returns-then-at-out c = elim c.then-at-out.branch [
  | then-at-out-via-then-at-out w ↦ search past_the_end
  | then-at-out-via-else-at-out+then-out-at w ↦ search too_short
]

pub put_mhz-requires : goal.put_mhz-requires
put_mhz-requires c = search has_room

pub returns : goal.returns
returns c = search wrote
