use Rattle.indexing.proofs.ChainLaws.{linking_start, linking_on, linking_end}
use Rattle.indexing.proofs.link.Goals as goal

pub loop-k-init : goal.loop-k-init
loop-k-init c = linking_start c.args.n c.args.rows.now c.requires.0

pub loop-k-preserved : goal.loop-k-preserved
loop-k-preserved c =
    linking_on c.args.n c.args.rows.now c.requires.0 c.loop-k.k c.loop-k.rows c.loop-k.invariant c.loop-k-test.true c.chain_of-b.result c.chain_of-b.ensures
    c.in_front.result c.begun_with.result c.in_front.ensures c.begun_with.ensures

pub returns : goal.returns
returns c = linking_end c.args.n c.args.rows.now c.requires.0 c.loop-k.k c.loop-k.rows c.loop-k.invariant c.loop-k-test.false
