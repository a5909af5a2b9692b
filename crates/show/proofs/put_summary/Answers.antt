use Rattle.show.proofs.PlanLaws.{is_written, size_within, front_size, front_room, front_put}
use Rattle.show.proofs.put_summary.Goals as goal

pub unwrap-n-requires : goal.unwrap-n-requires
unwrap-n-requires c = search is_written

pub slice_bounds-line-end : goal.slice_bounds-line-end
slice_bounds-line-end c = search size_within

pub slice_bounds-put_bytes-end : goal.slice_bounds-put_bytes-end
slice_bounds-put_bytes-end c = search front_size

pub put_bytes-requires : goal.put_bytes-requires
put_bytes-requires c = search front_room

pub returns : goal.returns
returns c = search front_put
