-- The list to be written is as long as the one that was there.
use Rattle.std.proofs.Common.{arith}
use Rattle.vc_tree_nodes.proofs.Events.{length-kept}
use Rattle.vc_tree_nodes.proofs.insertion.add_to_some.Goals as goal

pub put-requires-clause-within : goal.put-requires-clause-within
put-requires-clause-within g c =
    let kept = g.met.T.Build.kept_alike _ _ c.in_ok-list.ensures.value in
    let long = length-kept g.T.Build.keeps g.T.RadixNode.tree _ _ kept in
    let room = c.make_room.ensures.len in
    omega (arith, long, c.in_ok-list.list.now.ok.0, room)
