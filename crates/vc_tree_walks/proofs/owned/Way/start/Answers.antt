-- What is left behind the root is that of its children.
use Rattle.std.proofs.Common.{◌≡◌, ◌++◌, ◌∙◌, length, sym, ap}
use Rattle.std.proofs.lemmas.Result.{on_ok_weaker}
use Rattle.vc_tree_walks.specs.OwnedLeft.{opened}
use Rattle.vc_tree_walks.proofs.Paths.{started-left, started-work}
use Rattle.vc_tree_walks.proofs.owned.Way.start.Goals as goal

pub returns-clause-left : goal.returns-clause-left
returns-clause-left g c =
    let t = g.T.RadixNode.tree c.args.tree.now in
    let long : length c.as_ref.result.now ≡ length c.open.new.self.key =
    ap length (c.as_ref.ensures ∙ sym c.open.ensures.key) in
    on_ok_weaker c.open.result
    (λ h. started-left t c.open.new.self.key c.open.new.self.front c.open.new.self.path.items
    (c.open.ensures.key ∙ c.in_ok-turn_to.ensures ∙ c.prefix.ensures.value) (c.open.ensures.front ∙ long)
    (h ∙ ap (λ xs. xs ++ opened t (length c.as_ref.result.now)) c.clear.ensures.items
    ∙ ap (opened t) (sym c.open.ensures.front)))
    c.open.ensures.path

pub returns-clause-work : goal.returns-clause-work
returns-clause-work g c =
    let t = g.T.RadixNode.tree c.args.tree.now in
    on_ok_weaker c.open.result
    (λ h. started-work t c.open.new.self.front c.open.new.self.path.items
    (h ∙ ap (λ xs. xs ++ opened t (length c.as_ref.result.now)) c.clear.ensures.items
    ∙ ap (opened t) (sym c.open.ensures.front)))
    c.open.ensures.path
