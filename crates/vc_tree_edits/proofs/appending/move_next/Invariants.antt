-- What comes in for the trees that are left, comes in for all.
use Rattle.std.proofs.Common.{◌≡◌, ◌<◌, ◌-◌, List, length, take, drop}
use Rattle.std.specs.List.{AllByRecursion}
use Rattle.vc_tree_edits.specs.Appended.{ComesWhole, rest_of}
use Rattle.vc_tree_edits.specs.Woven.{AreAdded, comer}
use Rattle.vc_tree_edits.specs.declared.comers.Comer.{Comer}
use Rattle.vc_tree_edits.proofs.appending.move_next.Given as goal

abbrev pub invariant-loop-moved : goal.invariant-loop-moved
invariant-loop-moved g l =
    let comes = ComesWhole g.K.Ord.cmp g.T.Build.keeps g.T.RadixNode.tree l.from in
    record {
      within : AllByRecursion (λ y. l.from < length (g.T.RadixNode.tree y).prefix) (rest_of l.right);
      rest : rest_of l.right ≡ drop l._moved (rest_of l.fn.right);
      ends : (new : List (Comer g.row.T.Denot))
          → AreAdded comes (comer l.place) (take (l.n - l._moved) (rest_of l.right)) l.right.comers.items new
          → AreAdded comes (comer l.place) (take l.n (rest_of l.fn.right)) l.fn.right.comers.items new;
    }
