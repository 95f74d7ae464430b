-- At each way out, the walk of the pairs under the prefix; and the child where the rest of the prefix leads.
use Rattle.std.proofs.Common.{◌≡◌, ◌+◌, [], ◌++◌, ◌∙◌, ap, sym, subst, take, drop, length, arith}
use Rattle.std.specs.Option.{option_copied}
use Rattle.std.proofs.Math.Seq.{take-add}
use Rattle.std.proofs.lemmas.List.{drop-drop}
use Rattle.vc_tree_nodes.specs.Children.{seen}
use Rattle.vc_tree_nodes.specs.Parting.{Agree}
use Rattle.vc_tree_nodes.specs.Places.{IsNoChild, IsFoundChild}
use Rattle.vc_tree_walks.proofs.Scanning.{no-first, first-cons, none-of, some-of, part-split, part-next, child-agrees}
use Rattle.vc_tree_walks.proofs.Scanning.{walk-inside, walk-ended, walk-default, walk-childless}
use Rattle.vc_tree_walks.proofs.scan.find_under.Goals as goal

pub returns-in-Inside : goal.returns-in-Inside
returns-in-Inside g c =
    let o = g.met.K.Ord.total in
    let cmp = g.K.Ord.cmp in
    let tree = g.T.RadixNode.tree in
    let s = c.split_at.ensures in
    let part = part-split cmp o _ _ _ _ _ c.loop-here.invariant.part _ _ s.front s.back in
    walk-inside cmp o _ _ _ _ _ part c.in-Inside.field-0 c.prefix-own.result.now c.prefix-own.ensures.value
    c.prefix-own.ensures.canonical c.in-Inside.ensures.is.0 c.in-Inside.ensures.is.1

pub returns-in_default : goal.returns-in_default
returns-in_default g c =
    let o = g.met.K.Ord.total in
    let cmp = g.K.Ord.cmp in
    let s = c.split_at.ensures in
    let part = part-split cmp o _ _ _ _ _ c.loop-here.invariant.part _ _ s.front s.back in
    walk-default cmp o _ _ _ _ _ part c.prefix-own.result.now _ c.prefix-own.ensures.value c.find_parting.ensures.is
    c.in_default.not-Behind c.in_default.not-Inside

pub returns-in_default-first : goal.returns-in_default-first
returns-in_default-first g c =
    let o = g.met.K.Ord.total in
    let cmp = g.K.Ord.cmp in
    let s = c.split_at.ensures in
    let part = part-split cmp o _ _ _ _ _ c.loop-here.invariant.part _ _ s.front s.back in
    let left = c.split_at-in-loop-here.result.1.now in
    let ended : left ≡ [] = no-first left (sym c.first.ensures.value ∙ ap option_copied c.in_default-first.is) in
    walk-ended cmp o _ _ _ _ _ part c.prefix-own.result.now c.prefix-own.ensures.value c.prefix-own.ensures.canonical
    c.in-Behind.ensures.is (sym c.split_at-in-loop-here.ensures.back ∙ ended)

pub returns-in_err-node : goal.returns-in_err-node
returns-in_err-node g c =
    let o = g.met.K.Ord.total in
    let cmp = g.K.Ord.cmp in
    let tree = g.T.RadixNode.tree in
    let s = c.split_at.ensures in
    let part = part-split cmp o _ _ _ _ _ c.loop-here.invariant.part _ _ s.front s.back in
    let left = c.split_at-in-loop-here.result.1.now in
    let x = c.in-Some.first.now in
    let begins = first-cons left x (sym c.first.ensures.value ∙ ap option_copied c.in-Some.is) in
    let kids = seen tree c.children.result.now in
    let childless = none-of (IsNoChild cmp kids x) _ c.child_at.result c.child_at.ensures.child c.in_err-node.was in
    rw c.from_residual.ensures
    (walk-childless cmp o _ _ _ _ _ part c.prefix-own.result.now x _ c.prefix-own.ensures.value c.in-Behind.ensures.is
    (sym c.split_at-in-loop-here.ensures.back ∙ begins) (subst (λ f. IsNoChild cmp f x) c.children.ensures childless))

pub loop-here-preserved : goal.loop-here-preserved
loop-here-preserved g c =
    let o = g.met.K.Ord.total in
    let cmp = g.K.Ord.cmp in
    let tree = g.T.RadixNode.tree in
    let s = c.split_at.ensures in
    let t = c.split_at-in-loop-here.ensures in
    let prefix = c.args.prefix.now in
    let used = c.loop-here.used in
    let here = length c.split_at-in-loop-here.result.0.now in
    let whole = length c.prefix-own.result.now in
    let part = part-split cmp o _ _ _ _ _ c.loop-here.invariant.part _ _ s.front s.back in
    let left = c.split_at-in-loop-here.result.1.now in
    let x = c.in-Some.first.now in
    let begins = first-cons left x (sym c.first.ensures.value ∙ ap option_copied c.in-Some.is) in
    let kids = seen tree c.children.result.now in
    let child = c.in_ok-node.node.now in
    let found = some-of _ (λ child. IsFoundChild cmp kids x (tree child.now)) c.child_at.result c.in_ok-node.node
    c.child_at.ensures.child c.in_ok-node.was in
    let below = subst (λ f. IsFoundChild cmp f x (tree child)) c.children.ensures found in
    let next = part-next cmp o _ _ _ _ _ part c.prefix-own.result.now left x _ (tree child) c.prefix-own.ensures.value
    c.in-Behind.ensures.is t.back begins below in
    let front : take (used + here) prefix ≡ c.split_at.result.0.now ++ take whole c.split_at.result.1.now =
    take-add used here prefix
    ∙ ap (λ l. l ++ take here (drop used prefix)) (sym s.front) ∙ ap (λ l. c.split_at.result.0.now ++ take here l) (sym s.back)
    ∙ ap (λ n. c.split_at.result.0.now ++ take n c.split_at.result.1.now) t.front_len in
    let rest : drop (used + here) prefix ≡ left =
    sym (drop-drop here used prefix) ∙ ap (drop here) (sym s.back)
    ∙ ap (λ n. drop n c.split_at.result.1.now) t.front_len ∙ sym t.back in
    record {
      part = part-split cmp o _ _ _ _ _ next _ _ front rest;
      within = let a = t.back_len in let b = s.back_len in omega (arith, a, b);
      agree = subst (λ l. Agree cmp (tree child).prefix l 1) (sym rest)
          (child-agrees cmp (tree c.loop-here.node.now).children (tree child) left x _ begins below);
    }
