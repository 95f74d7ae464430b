-- A tree alone continues after the place; where no right tree is left, all left ones are passed.
use Rattle.std.proofs.Common.{◌≡◌, length, rules}
use Rattle.std.proofs.lemmas.List.{nil_from_length, take_rest}
use Rattle.vc_tree_edits.proofs.Passing.{one-within, end-next}
use Rattle.vc_tree_edits.proofs.pairs.next_pair.Goals as goal

pub search_pair-requires-clause-within : goal.search_pair-requires-clause-within
search_pair-requires-clause-within g c =
    one-within g.K.Ord.cmp g.met.K.Ord.total g.B.RadixNode.tree c.args.from c.in-One.tree.now
    (rw c.in-One.is at c.requires.right)

pub returns-in-Many : goal.returns-in-Many
returns-in-Many g c =
    let none : length c.in-Many.trees.now ≡ 0 = search rules in
    rw (c.in-Many.is, c.stop_at.ensures.passed, take_rest c.args.lefts.now c.args.at)
    (end-next _ _ c.in-Many.trees.now _ _ (nil_from_length _ none) c.stop_at.ensures.rights c.stop_at.ensures.end)
