use Rattle.std.proofs.Common.{rules, ◌≡◌, ◌++◌, ◌∷◌, [], OnOk}
use Rattle.std.specs.String.{string_bytes}
use Rattle.vecbench_lines.specs.Shapes.{key_text, value_mark, shape_text}
use Rattle.vecbench_lines.proofs.Shaping.{pieces-written, child-falls, children-written}
use Rattle.vecbench_lines.proofs.keys.+put_shape.Goals as goal

pub put_shape-requires-in-loop-child : goal.put_shape-requires-in-loop-child
put_shape-requires-in-loop-child g t c κs within =
    let less = child-falls g.T.RadixNode.tree c.children.result.now
    (g.T.RadixNode.tree c.args.tree.now) c.loop-child.child-index c.child-item.result
    c.children.ensures c.loop-child-test.true c.child-item.is in
    search (rules, less)

pub returns : goal.returns
returns g t c =
    let tree = g.T.RadixNode.tree in
    let keyed : string_bytes c.put_key.new.text
    ≡ string_bytes c.args.text.now ++ key_text (tree c.args.tree.now).prefix = search rules in
    let marked : string_bytes c.put_mark.new.text
    ≡ string_bytes c.put_key.new.text ++ value_mark (tree c.args.tree.now).value = search rules in
    let opened : string_bytes c.push.new.self ≡ string_bytes c.put_mark.new.text ++ 40 ∷ [] = search rules in
    let begun : string_bytes c.put_shape.new.text
    ≡ string_bytes c.push.new.self ++ shape_text (tree c.first-item.result) = search rules in
    let closed : OnOk c.push-2.result (string_bytes c.push-2.new.self ≡ string_bytes c.loop-child.text ++ 41 ∷ []) =
    search rules in
    let children = children-written tree c.children.result.now (tree c.args.tree.now) c.first-item.result c.loop-child.child-index
    c.children.ensures c.in-len1-up.len_at_least c.first-item.is c.loop-child.auto.child-index-end c.loop-child-test.false in
    pieces-written _ _ _ _ _ c.push-2.result _ keyed marked opened begun c.loop-child.invariant children closed
