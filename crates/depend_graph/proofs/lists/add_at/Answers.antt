use Rattle.std.proofs.Common.{◌<◌, length, arith}
use Rattle.depend_graph.proofs.Adding.{pushed}
use Rattle.depend_graph.proofs.lists.add_at.Goals as goal

pub returns-clause-ok : goal.returns-clause-ok
returns-clause-ok c =
    let lt : c.args.place < length c.args.lists.now.items = omega arith in
    pushed c.args.lists.now.items c.args.place c.args.item _ _ lt c.index_mut.ensures.value c.in_ok-push.ensures.items
