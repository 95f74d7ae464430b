-- A root of which all keys go is the answer; else the node that goes is, behind the front that was found before.
use Rattle.std.proofs.Common.{rules, ◌++◌, ◌∙◌, ap}
use Rattle.vc_tree_model.specs.Key.{behind}
use Rattle.vc_tree_model.specs.Snapshot.{tree_alike_refl}
use Rattle.vc_tree_model.specs.Tree.{node}
use Rattle.vc_tree_model.proofs.AlikeLemmas.{tree-alike_lookup}
use Rattle.vc_tree_nodes.proofs.Events.{always-err}
use Rattle.vc_tree_removal.proofs.Going.{begins-tells}
use Rattle.vc_tree_removal.proofs.Parting.{divides-joined, divides-without}
use Rattle.vc_tree_removal.proofs.Staying.{deep-stays}
use Rattle.vc_tree_removal.proofs.removal_below.split_below.Goals as goal

pub returns-in_err-joined-clause-err : goal.returns-in_err-joined-clause-err
returns-in_err-joined-clause-err g c = search (rules, always-err, tree_alike_refl, tree-alike_lookup)

pub returns-in_err-joined-clause-err_nodes : goal.returns-in_err-joined-clause-err_nodes
returns-in_err-joined-clause-err_nodes g c = search (rules, always-err, tree_alike_refl)

pub returns-clause-made : goal.returns-clause-made
returns-clause-made g c =
    let taken = g.T.RadixNode.tree c.in_ok-taken.taken in
    divides-joined g.met.K.Ord.total c.in-Some.ensures c.in_ok-taken.ensures.ok.divided
    (g.T.RadixNode.tree c.with_prefix.result)
    (c.with_prefix.ensures ∙ ap (λ p. node p taken.value taken.children)
    (c.in_ok-joined.ensures ∙ ap (λ p. c.in-Some.front.now ++ p) c.prefix.ensures.value))

pub returns-clause-ok : goal.returns-clause-ok
returns-clause-ok g c =
    divides-without c.in_ok-taken.ensures.ok.divided _ (λ k. begins-tells (behind g.K.Ord.cmp c.args.prefix.now k))

pub returns-in_err-joined-clause-all : goal.returns-in_err-joined-clause-all
returns-in_err-joined-clause-all g c =
    deep-stays g.met.K.Ord.total (g.T.RadixNode.tree c.args.tree.now) c.args.prefix.now c.canonical.ensures
    c.if-goes_wholly.ensures

pub returns-in_err-taken-clause-all : goal.returns-in_err-taken-clause-all
returns-in_err-taken-clause-all g c =
    deep-stays g.met.K.Ord.total (g.T.RadixNode.tree c.args.tree.now) c.args.prefix.now c.canonical.ensures
    c.if-goes_wholly.ensures
