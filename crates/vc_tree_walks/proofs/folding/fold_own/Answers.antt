-- The one pair of the node is the one that the closure is shown.
use Rattle.std.proofs.Common.{rules, ◌≡◌, [], ◌∷◌, ◌∙◌, ap, sym, refl, subst, IfErr, IfOk}
use Rattle.std.specs.List.{FoldsTo}
use Rattle.std.specs.Option.{option_copied}
use Rattle.vc_tree_walks.specs.Folding.{IsStopped, Turns}
use Rattle.vc_tree_walks.specs.Left.{pair_at}
use Rattle.vc_tree_walks.proofs.Folds.{stopped-once, turned-once}
use Rattle.vc_tree_walks.proofs.folding.fold_own.Goals as goal

pub turn-requires : goal.turn-requires
turn-requires g c =
    let one : pair_at c.args.key.now (g.T.RadixNode.tree c.args.node.now).value ≡ (c.args.key.now, c.in-Some.value.now) ∷ [] =
    ap (pair_at c.args.key.now) (sym c.value.ensures ∙ ap option_copied c.in-Some.is) in
    let may = c.requires.callable [] [] c.args.held c.args.key c.in-Some.value one refl in
    search rules

pub returns-in-Some : goal.returns-in-Some
returns-in-Some g c =
    let one : pair_at c.args.key.now (g.T.RadixNode.tree c.args.node.now).value ≡ (c.args.key.now, c.in-Some.value.now) ∷ [] =
    ap (pair_at c.args.key.now) (sym c.value.ensures ∙ ap option_copied c.in-Some.is) in
    record {
      folded = subst (λ l. IfOk c.turn.result (FoldsTo (Turns g.F.Fn c.args.turn.now) c.args.held l)) (sym one)
          (turned-once g.F.Fn c.args.turn.now c.args.held c.args.key c.in-Some.value c.turn.result c.turn.ensures);
      err = subst (λ l. IfErr c.turn.result (IsStopped g.F.Fn c.args.turn.now c.args.held l)) (sym one)
          (stopped-once g.F.Fn c.args.turn.now c.args.held c.args.key c.in-Some.value c.turn.result c.turn.ensures);
    }
