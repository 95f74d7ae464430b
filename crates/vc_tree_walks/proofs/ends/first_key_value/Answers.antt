-- By the walk of the tree the first pair has the least key.
use Rattle.std.proofs.Common.{refl}
use Rattle.vc_tree_model.specs.Map.{lookup}
use Rattle.vc_tree_model.specs.Walk.{walk}
use Rattle.vc_tree_walks.specs.Towards.{end_of}
use Rattle.vc_tree_walks.specs.declared.ends.End.TheVariants.{First}
use Rattle.vc_tree_model.proofs.LookupLemmas.{children-ordered}
use Rattle.vc_tree_model.proofs.Walking.{walk-is}
use Rattle.vc_tree_walks.proofs.EndPairs.{first-empty, least-is, unprepended}
use Rattle.vc_tree_walks.proofs.ends.first_key_value.Goals as goal

pub returns-clause-least : goal.returns-clause-least
returns-clause-least g c =
    let cmp = g.K.Ord.cmp in
    let t = g.T.RadixNode.tree c.args.tree.now in
    least-is cmp g.met.K.Ord.total (lookup cmp t) (λ b. (b.0.items, b.1.now)) (walk t)
    (walk-is cmp g.met.K.Ord.total t (children-ordered cmp t.children c.canonical.ensures.1)) c.key_value_behind.result
    (unprepended (λ b. (b.0.items, b.1.now)) (end_of First (walk t)) c.key_value_behind.result c.key_value_behind.ensures.pair)

pub returns-clause-empty_key : goal.returns-clause-empty_key
returns-clause-empty_key g c s =
    let t = g.T.RadixNode.tree c.args.tree.now in
    let b = first-empty g.K.Ord.cmp t.prefix t.value t.children s in
    c.key_value_behind.ensures.empty_key b.0 refl b.1

pub returns-clause-pair : goal.returns-clause-pair
returns-clause-pair g c =
    unprepended (λ b. (b.0.items, b.1.now)) (end_of First (walk (g.T.RadixNode.tree c.args.tree.now))) c.key_value_behind.result
    c.key_value_behind.ensures.pair
