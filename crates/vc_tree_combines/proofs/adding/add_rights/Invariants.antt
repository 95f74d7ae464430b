-- What comes of the trees that are left, comes of all.
use Rattle.std.proofs.Common.{List, length, map}
use Rattle.vc_tree_model.specs.Tree.{Tree}
use Rattle.vc_tree_combines.specs.Making.{MayAddRights, AreRightAdded}
use Rattle.vc_tree_combines.proofs.adding.add_rights.Given as goal

abbrev pub invariant-loop-tree : goal.invariant-loop-tree
invariant-loop-tree g l = record {
  may : MayAddRights g.K.Ord.cmp (g.O.Combine.asks l.op) g.B.RadixNode.tree l.rest;
  ends : (new : List (Tree g.row.K.Denot g.row.V.Denot))
      → AreRightAdded g.K.Ord.cmp (g.O.Combine.says l.op) g.B.RadixNode.tree l.rest
      (map g.O.Made.RadixNode.tree l.made.items) new
      → AreRightAdded g.K.Ord.cmp (g.O.Combine.says l.op) g.B.RadixNode.tree l.trees
      (map g.O.Made.RadixNode.tree l.fn.made.items) new;
}

abbrev pub decreases-loop-tree : goal.decreases-loop-tree
decreases-loop-tree g l = length l.rest
