-- The path leads to a node, and the step goes out of it or to its next child.
use Rattle.std.proofs.Common.{◌≡◌, ◌-◌, ◌++◌, length, sym, ap, ◌∙◌, arith}
use Rattle.vc_tree_walks.specs.OwnedLeft.{opened}
use Rattle.vc_tree_walks.proofs.Paths.{left-step, entered-step}
use Rattle.vc_tree_walks.proofs.owned.Way.advance.Goals as goal

pub returns-in_default : goal.returns-in_default
returns-in_default g c =
    let tree = g.T.RadixNode.tree in
    let step =
    left-step tree (tree c.args.tree.now) c.args.self.now.path.items c.as_slice.result.now c.truncate.new.self.items
    c.reach-depth.result.0.now c.reach-depth.result.1 c.index-place.result.now c.args.self.now.key c.args.self.now.front
    c.min-base.result c.children.result.now c.reach-depth.ensures c.as_slice.ensures.value c.index-place.ensures
    c.children.ensures c.in_default.ensures.lookup.3 c.truncate.ensures.items c.min-base.ensures in
    record { left = step.0; work = step.1; some_work = grind arith }

pub returns : goal.returns
returns g c =
    let tree = g.T.RadixNode.tree in
    let shown : c.as_ref.result.now ≡ c.open.new.self.key = c.as_ref.ensures ∙ sym c.in_ok-open.ensures.key in
    let front : c.open.new.self.front ≡ length c.as_ref.result.now = c.in_ok-open.ensures.front in
    let step =
    entered-step tree (tree c.args.tree.now) c.args.self.now.path.items c.as_slice.result.now c.truncate.new.self.items
    c.push.new.self.items c.open.new.self.path.items c.reach-depth.result.0.now c.in-Some.child.now
    c.reach-depth.result.1 c.index-place.result.now c.args.self.now.key c.open.new.self.key c.prefix-prefix.result.now
    c.as_ref.result.now c.args.self.now.front c.min-base.result c.open.new.self.front _ c.children.result.now
    c.reach-depth.ensures c.as_slice.ensures.value c.index-place.ensures c.children.ensures
    c.in-Some.ensures.lookup.3.0 c.in-Some.ensures.lookup.1 c.prefix-prefix.ensures.value c.min-base.ensures
    (c.in_ok-open.ensures.key ∙ c.in_ok-turn_to.ensures) shown front
    (ap (λ n. n - length c.prefix-prefix.result.now) (sym front)) c.truncate.ensures.items c.in_ok-push.ensures.items
    (c.in_ok-open.ensures.path ∙ ap (λ n. c.push.new.self.items ++ opened (tree c.in-Some.child.now) n) (sym front)) in
    record { left = step.0; work = step.1; some_work = grind arith }
