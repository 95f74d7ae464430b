-- Nothing stands before the keys of a whole tree.
use Rattle.std.proofs.Common.{◌∙◌, ◌⊎◌, alloc_error, ap, sym, subst, map, IfErr, IfOk}
use Rattle.std.specs.List.{FoldsTo}
use Rattle.vc_tree_model.specs.Walk.{prepended, walk}
use Rattle.vc_tree_walks.specs.Folding.{CanFold, IsStopped, Turns}
use Rattle.vc_tree_walks.proofs.WholeWalks.{prepended-empty}
use Rattle.vc_tree_walks.proofs.folding.fold.Goals as goal

pub fold_node-requires : goal.fold_node-requires
fold_node-requires g c =
    let w = walk (g.T.RadixNode.tree c.args.tree.now) in
    let whole = ap (λ k. map (prepended k) w) c.new-key.ensures.items ∙ prepended-empty w in
    record { callable = subst (CanFold g.F.Fn c.args.turn.now c.args.init) (sym whole) c.requires.callable }

pub returns-clause-folded : goal.returns-clause-folded
returns-clause-folded g c =
    let w = walk (g.T.RadixNode.tree c.args.tree.now) in
    let whole = ap (λ k. map (prepended k) w) c.new-key.ensures.items ∙ prepended-empty w in
    subst (λ l. IfOk c.fold_node.result (FoldsTo (Turns g.F.Fn c.args.turn.now) c.args.init l)) whole
    c.fold_node.ensures.folded

pub returns-clause-err : goal.returns-clause-err
returns-clause-err g c =
    let w = walk (g.T.RadixNode.tree c.args.tree.now) in
    let whole = ap (λ k. map (prepended k) w) c.new-key.ensures.items ∙ prepended-empty w in
    subst (λ l. IfErr c.fold_node.result (λ e. g.E.From.from_gives alloc_error e
    ⊎ IsStopped g.F.Fn c.args.turn.now c.args.init l e)) whole c.fold_node.ensures.err
