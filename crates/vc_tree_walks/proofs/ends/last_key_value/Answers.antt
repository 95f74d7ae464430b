-- By the walk of the tree the last pair has the greatest key.
use Rattle.std.proofs.Common.{List, Ok, Option, Result, refl}
use Rattle.std.specs.Prelude.{IsOk}
use Rattle.vc_tree_model.specs.Map.{lookup}
use Rattle.vc_tree_model.specs.Walk.{walk}
use Rattle.vc_tree_walks.specs.Towards.{end_of}
use Rattle.vc_tree_walks.specs.declared.ends.End.TheVariants.{Last}
use Rattle.vc_tree_model.proofs.LookupLemmas.{children-ordered}
use Rattle.vc_tree_model.proofs.Walking.{walk-is}
use Rattle.vc_tree_walks.proofs.EndPairs.{greatest-is, last-empty, mapped-itself, unprepended}
use Rattle.vc_tree_walks.proofs.ends.last_key_value.Goals as goal

pub returns-clause-greatest : goal.returns-clause-greatest
returns-clause-greatest g c =
    let cmp = g.K.Ord.cmp in
    let t = g.T.RadixNode.tree c.args.tree.now in
    greatest-is cmp g.met.K.Ord.total (lookup cmp t) (λ b. (b.0.items, b.1.now)) (walk t)
    (walk-is cmp g.met.K.Ord.total t (children-ordered cmp t.children c.canonical.ensures.1)) c.key_value_behind.result
    (unprepended (λ b. (b.0.items, b.1.now)) (end_of Last (walk t)) c.key_value_behind.result c.key_value_behind.ensures.pair)

pub returns-clause-pair : goal.returns-clause-pair
returns-clause-pair g c =
    unprepended (λ b. (b.0.items, b.1.now)) (end_of Last (walk (g.T.RadixNode.tree c.args.tree.now))) c.key_value_behind.result
    c.key_value_behind.ensures.pair

pub returns-clause-empty_key : goal.returns-clause-empty_key
returns-clause-empty_key g c only =
    let cmp = g.K.Ord.cmp in
    let t = g.T.RadixNode.tree c.args.tree.now in
    let last : Result (Option (List g.row.K.Denot × g.row.V.Denot)) (Unit {0}) = Ok (end_of Last (walk t)) in
    let greatest =
    greatest-is cmp g.met.K.Ord.total (lookup cmp t) (λ b. b) (walk t)
    (walk-is cmp g.met.K.Ord.total t (children-ordered cmp t.children c.canonical.ensures.1)) last
    (mapped-itself (end_of Last (walk t))) in
    last-empty cmp (lookup cmp t) (end_of Last (walk t)) greatest only (IsOk c.key_value_behind.result)
    (λ e. rw (c.key_value_behind.ensures.none e) refl) (λ v e. c.key_value_behind.ensures.empty_key v refl e)
