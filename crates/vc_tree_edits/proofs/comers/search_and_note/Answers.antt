-- The search stops at the place of the component that the tree goes on with.
use Rattle.std.proofs.Common.{rules, refl}
use Rattle.std.proofs.lemmas.List.{length-take-le}
use Rattle.vc_tree_edits.proofs.Passing.{component-at, place-next, gap-next}
use Rattle.vc_tree_edits.proofs.comers.search_and_note.Goals as goal

pub returns-in-Ok : goal.returns-in-Ok
returns-in-Ok g c = record {
  pair =
      place-next g.K.Ord.cmp g.met.K.Ord.total g.T.RadixNode.tree g.B.RadixNode.tree c.args.from c.args.tree.now
      c.index-prefix-from.result
      (component-at _ _ c.args.from c.index-prefix-from.result c.prefix.ensures.value c.requires.within c.index-prefix-from.is)
      c.args.lefts.now c.in-Ok.at c.in-Ok.ensures;
  noted = refl;
}

pub returns-in_ok-push-in-Err : goal.returns-in_ok-push-in-Err
returns-in_ok-push-in-Err g c = record {
  pair =
      gap-next g.K.Ord.cmp g.met.K.Ord.total g.T.RadixNode.tree g.B.RadixNode.tree c.args.from c.args.tree.now
      c.index-prefix-from.result
      (component-at _ _ c.args.from c.index-prefix-from.result c.prefix.ensures.value c.requires.within c.index-prefix-from.is)
      c.args.lefts.now c.in-Err.at c.in-Err.ensures;
  noted = (
    _,
    (
      _,
      c.in_ok-right_alone-in-Err.ensures,
      rw (length-take-le c.in-Err.at c.args.lefts.now c.in-Err.ensures.within) (search rules),
    ),
    refl,
  );
}
