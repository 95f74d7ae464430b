-- The children one after the other, and then the node.
use Rattle.std.proofs.Common.{rules, refl, ap, map, Ok}
use Rattle.vc_tree_model.specs.Asking.{MayAnswerAt, CanAskAt}
use Rattle.vc_tree_model.specs.Child.{solid_child}
use Rattle.vc_tree_model.specs.Combine.{IsLeftAt}
use Rattle.vc_tree_model.specs.Tree.{shortened}
use Rattle.vc_tree_nodes.specs.Children.{seen}
use Rattle.vc_tree_facing.proofs.Next.{doing-start, left-next, left_within, asked, done, all-done, left-fewer, made-left, nil-by}
use Rattle.vc_tree_facing.proofs.Opening.{slice-from}
use Rattle.vc_tree_combines.proofs.Asked.{value-alone, below-alone, node-alone}
use Rattle.vc_tree_combines.proofs.Runs.{on-ok}
use Rattle.vc_tree_combines.proofs.left.+asking.Goals as goal

pub ask_value-requires : goal.ask_value-requires
ask_value-requires g t c =
    rw c.value.ensures (value-alone g.met.K.Ord.total (shortened c.args.from (g.A.RadixNode.tree c.args.tree.now))
    (CanAskAt g.F.Fn c.args.answer.now) c.requires.asks)

pub loop-child-init : goal.loop-child-init
loop-child-init g t c =
    let below = below-alone g.met.K.Ord.total (shortened c.args.from (g.A.RadixNode.tree c.args.tree.now))
    (CanAskAt g.F.Fn c.args.answer.now) c.requires.asks in
    record {
      doing =
          doing-start g.met.K.Ord.total tt (rw c.children-trees.ensures c.prefix-prefix.ensures.canonical.1) tt
          (rw c.children-trees.ensures below) (ap (map g.M.RadixNode.tree) c.in_ok-kids.ensures.items);
      value = refl;
    }

pub ask_onto-requires : goal.ask_onto-requires
ask_onto-requires g t c κs within =
    let run = c.loop-child.invariant.doing in
    let n = left-next run (rw c.in-Some.ensures.cases.0 refl) c.in-Some.ensures.cases.0 in
    search (rules, left_within run c.in-Some.ensures.cases.0, asked n, left-fewer n)

pub loop-child-preserved : goal.loop-child-preserved
loop-child-preserved g t c =
    let n = left-next c.loop-child.invariant.doing (rw c.in-Some.ensures.cases.0 refl) c.in-Some.ensures.cases.0 in
    let one = c.in_ok-ask_onto.ensures in
    record { doing = done n one.is one.made; value = c.loop-child.invariant.value }

pub finish_onto-requires : goal.finish_onto-requires
finish_onto-requires g t c = (all-done c.loop-child.invariant.doing (rw (nil-by _ c.in_default.ensures.cases) refl) refl).0

pub returns : goal.returns
returns g t c =
    let value = c.in_ok-value.value in
    let kids = seen g.M.RadixNode.tree c.loop-child.kids.items in
    let m = rw c.children-trees.ensures at
    (all-done c.loop-child.invariant.doing (rw (nil-by _ c.in_default.ensures.cases) refl) refl) in
    on-ok c.finish_onto.result c.finish_onto.ensures
    (λ e. record {
      one = _;
      made =
          made-left (node-alone g.met.K.Ord.total (shortened c.args.from (g.A.RadixNode.tree c.args.tree.now))
          (IsLeftAt (λ v w z. MayAnswerAt g.F.Fn c.args.answer.now v w (Ok z))) refl value kids
          (rw c.value.ensures at c.in_ok-value.ensures) m
          (ap (λ p. solid_child p value kids) (slice-from _ _ _ c.args.from refl c.prefix-prefix.ensures.value)));
      is = rw c.loop-child.invariant.value at e;
    })
