-- The walk of what `find_under` finds.
use Rattle.std.proofs.Common.{◌≡◌, [], ◌++◌, ◌∙◌, alloc_error, ap, refl, sym, subst, map}
use Rattle.vc_tree_model.specs.Map.{lookup}
use Rattle.vc_tree_model.specs.Under.{under}
use Rattle.vc_tree_model.specs.Walk.{IsWalk, prepended, walk}
use Rattle.vc_tree_walks.specs.IterLeft.{pairs_from}
use Rattle.vc_tree_walks.proofs.Filtered.{bare-walk, something-below}
use Rattle.vc_tree_walks.proofs.Folds.{stopped-walk, walked}
use Rattle.vc_tree_walks.proofs.folding.fold_prefix.Goals as goal

pub returns : goal.returns
returns g c =
    let binds = under g.K.Ord.cmp (lookup g.K.Ord.cmp (g.T.RadixNode.tree c.args.tree.now)) c.args.prefix.now in
    let w = walk (g.T.RadixNode.tree c.in-Some.node.now) in
    let front : c.extend_from_slice.new.self.items ≡ c.in-Some.front.now =
    c.in_ok-extend_from_slice.ensures.items ∙ ap (λ k. k ++ c.in-Some.front.now) c.new-key.ensures.items in
    let found = ap (pairs_from g.T.RadixNode.tree) c.in-Some.is ∙ ap (λ k. map (prepended k) w) (sym front) in
    let walks = subst (IsWalk g.K.Ord.cmp binds) found c.find_under.ensures in
    record {
      folded = walked g.F.Fn c.args.turn.now (IsWalk g.K.Ord.cmp binds) _ c.args.init c.fold_node.result walks
          c.fold_node.ensures.folded;
      err = stopped-walk g.F.Fn c.args.turn.now (g.E.From.from_gives alloc_error) (IsWalk g.K.Ord.cmp binds) _ c.args.init
          c.fold_node.result walks c.fold_node.ensures.err;
      none = something-below g.K.Ord.cmp g.met.K.Ord.total (λ v w. v ≡ w)
          (lookup g.K.Ord.cmp (g.T.RadixNode.tree c.args.tree.now)) c.args.prefix.now c.in-Some.front.now
          (g.T.RadixNode.tree c.in-Some.node.now) c.canonical.ensures
          (subst (IsWalk g.K.Ord.cmp binds) (ap (pairs_from g.T.RadixNode.tree) c.in-Some.is) c.find_under.ensures)
          (sym c.is_empty.ensures ∙ c.if-is_empty.false);
    }

pub returns-then-is_empty : goal.returns-then-is_empty
returns-then-is_empty g c =
    let binds = under g.K.Ord.cmp (lookup g.K.Ord.cmp (g.T.RadixNode.tree c.args.tree.now)) c.args.prefix.now in
    let none = ap (pairs_from g.T.RadixNode.tree) c.in-Some.is
    ∙ bare-walk c.in-Some.front.now (g.T.RadixNode.tree c.in-Some.node.now) (sym c.is_empty.ensures ∙ c.if-is_empty.true) in
    record {
      folded = ([], subst (IsWalk g.K.Ord.cmp binds) none c.find_under.ensures, refl);
      err = tt;
      none = λ h. refl;
    }

pub returns-in_err-extend_from_slice-clause-none : goal.returns-in_err-extend_from_slice-clause-none
returns-in_err-extend_from_slice-clause-none g c =
    let binds = under g.K.Ord.cmp (lookup g.K.Ord.cmp (g.T.RadixNode.tree c.args.tree.now)) c.args.prefix.now in
    something-below g.K.Ord.cmp g.met.K.Ord.total (λ v w. v ≡ w)
    (lookup g.K.Ord.cmp (g.T.RadixNode.tree c.args.tree.now)) c.args.prefix.now c.in-Some.front.now
    (g.T.RadixNode.tree c.in-Some.node.now) c.canonical.ensures
    (subst (IsWalk g.K.Ord.cmp binds) (ap (pairs_from g.T.RadixNode.tree) c.in-Some.is) c.find_under.ensures)
    (sym c.is_empty.ensures ∙ c.if-is_empty.false)
