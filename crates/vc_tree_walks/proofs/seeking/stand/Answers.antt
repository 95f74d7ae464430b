-- What the parting of the key and the prefix tells, and behind the prefix the place among the children.
use Rattle.std.proofs.Common.{◌∙◌, ap, arith, refl, sym}
use Rattle.std.specs.Option.{option_copied}
use Rattle.std.specs.declared.cmp.Ordering.TheVariants.{Less, Greater}
use Rattle.vc_tree_nodes.proofs.Finding.{begins-below}
use Rattle.vc_tree_nodes.proofs.Growing.{gap-within}
use Rattle.vc_tree_walks.proofs.Scanning.{first-cons, no-first}
use Rattle.vc_tree_walks.proofs.Standings.{stands-between, stands-inside, stands-into, stands-own, stands-parted}
use Rattle.vc_tree_walks.proofs.seeking.stand.Goals as goal

pub returns-in-Inside : goal.returns-in-Inside
returns-in-Inside g c =
    let tree = g.T.RadixNode.tree in
    let is = c.in-Inside.ensures.is in
    stands-inside g.K.Ord.cmp tree (tree c.args.node.now) c.args.key.now c.prefix-own.result.now c.in-Inside.field-0
    c.prefix-own.ensures.value is.0 is.1 is.2

pub returns-in-Higher : goal.returns-in-Higher
returns-in-Higher g c =
    let tree = g.T.RadixNode.tree in
    stands-parted g.K.Ord.cmp tree (tree c.args.node.now) c.args.key.now Greater refl c.prefix-own.result.now
    c.in-Higher.field-0 c.prefix-own.ensures.value c.in-Higher.ensures.is

pub returns-in-Lower : goal.returns-in-Lower
returns-in-Lower g c =
    let tree = g.T.RadixNode.tree in
    stands-parted g.K.Ord.cmp tree (tree c.args.node.now) c.args.key.now Less refl c.prefix-own.result.now
    c.in-Lower.field-0 c.prefix-own.ensures.value c.in-Lower.ensures.is

pub returns-in_default : goal.returns-in_default
returns-in_default g c =
    let tree = g.T.RadixNode.tree in
    let left = c.split_at.result.1.now in
    stands-own g.K.Ord.cmp tree (tree c.args.node.now) c.args.key.now c.prefix-own.result.now left
    c.prefix-own.ensures.value c.in-Behind.ensures.is c.split_at.ensures.back
    (no-first left (sym c.first.ensures.value ∙ ap option_copied c.in_default.is)) c.prefix-own.ensures.canonical.1

pub split_at-requires-in-Ok : goal.split_at-requires-in-Ok
split_at-requires-in-Ok g c =
    let h = begins-below g.K.Ord.cmp g.T.RadixNode.tree c.children-children.result.now c.in-Some.first.now c.in-Ok.place
    c.in-Ok.ensures.place in
    omega (arith, h)

pub split_at-requires-in-Err : goal.split_at-requires-in-Err
split_at-requires-in-Err g c =
    gap-within g.K.Ord.cmp g.T.RadixNode.tree c.children-children.result.now c.in-Some.first.now c.in-Err.place
    c.in-Err.ensures.place

pub returns-in-Ok : goal.returns-in-Ok
returns-in-Ok g c =
    let tree = g.T.RadixNode.tree in
    let left = c.split_at.result.1.now in
    let x = c.in-Some.first.now in
    let s = c.split_at-in-Ok in
    stands-into g.K.Ord.cmp tree (tree c.args.node.now) c.args.key.now c.prefix-own.result.now left
    c.prefix-own.ensures.value c.in-Behind.ensures.is c.split_at.ensures.back c.children-children.result.now
    c.children-children.ensures c.prefix-own.ensures.canonical.1 x _
    (first-cons left x (sym c.first.ensures.value ∙ ap option_copied c.in-Some.is)) s.result.0.now s.result.1.now
    c.in-Ok.place s.ensures.front s.ensures.back s.ensures.by_index.0 g.met.K.Ord.total c.in-Ok.ensures.place

pub returns-in-Err : goal.returns-in-Err
returns-in-Err g c =
    let tree = g.T.RadixNode.tree in
    let left = c.split_at.result.1.now in
    let x = c.in-Some.first.now in
    let s = c.split_at-in-Err in
    stands-between g.K.Ord.cmp tree (tree c.args.node.now) c.args.key.now c.prefix-own.result.now left
    c.prefix-own.ensures.value c.in-Behind.ensures.is c.split_at.ensures.back c.children-children.result.now
    c.children-children.ensures c.prefix-own.ensures.canonical.1 x _
    (first-cons left x (sym c.first.ensures.value ∙ ap option_copied c.in-Some.is)) s.result.0.now s.result.1.now
    c.in-Err.place s.ensures.front s.ensures.back s.ensures.by_index.0 g.met.K.Ord.total c.in-Err.ensures.place
