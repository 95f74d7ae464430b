-- What is left of two trees, by where their prefixes end, and of the children one after the other.
use Rattle.std.proofs.Common.{◌≡◌, [], ◌∷◌, refl, sym, ap, subst, ◌∙◌, arith, rules, take}
use Rattle.std.proofs.Common.{length-drop, is_ok, List}
use Rattle.std.proofs.lemmas.List.{length-take-le}
use Rattle.std.specs.List.{cons_option}
use Rattle.std.specs.Option.{option_copied}
use Rattle.vc_tree_model.specs.Canonical.{AreChildren}
use Rattle.vc_tree_model.specs.Tree.{forest_nodes}
use Rattle.vc_tree_model.proofs.AlikeLemmas.{alike-children, alike-lookup, alike-nodes}
use Rattle.vc_tree_nodes.specs.Children.{listed, seen}
use Rattle.vc_tree_facing.proofs.Advancing.{inside-next, inside}
use Rattle.vc_tree_facing.proofs.Apart.{apart-lessened}
use Rattle.vc_tree_facing.proofs.Next.{doing-start, meets, left-fewer, right-fewer, made-left}
use Rattle.vc_tree_facing.proofs.Leaving.{if-ok, node-lessened, inside-lessened, value-may, below-may}
use Rattle.vc_tree_facing.proofs.Leaving.{ended-node, inner-node, opened-node}
use Rattle.vc_tree_facing.proofs.Leaving.{below-fewer}
use Rattle.vc_tree_edits.proofs.Placed.{set-at, alone-made, only-popped, same-many}
use Rattle.vc_tree_edits.proofs.Sifted.{runs-done, pair-end, pair-within, pair-next, pair-done}
use Rattle.vc_tree_edits.proofs.lessening.+lessening.Goals.{lessen_in-else-is_bare-via-then-is_bare+else-kept-eq1}
use Rattle.vc_tree_edits.proofs.lessening.+lessening.Goals.{lessen_in-else-is_bare-via-else-is_bare}
use Rattle.vc_tree_edits.proofs.lessening.+lessening.Goals as goal

pub lessen_at-overflow_add-place : goal.lessen_at-overflow_add-place
lessen_at-overflow_add-place g t c =
    let k = length-drop c.args.i (g.T.RadixNode.tree c.args.tree.now).prefix in
    grind (arith, k, c.prefix-whole.ensures.value, c.split-front.ensures.agree.within_prefix)

pub lessen_at-overflow_add-other_place : goal.lessen_at-overflow_add-other_place
lessen_at-overflow_add-other_place g t c =
    let k = length-drop c.args.j (g.B.RadixNode.tree c.args.that.now).prefix in
    grind (arith, k, c.prefix-other_whole.ensures.value, c.split-front.ensures.agree.within_key)

pub lessen_at-returns-then-other_place-other_whole : goal.lessen_at-returns-then-other_place-other_whole
lessen_at-returns-then-other_place-other_whole g t c =
    let tree = g.T.RadixNode.tree in
    let op = c.args.op.now in
    let within = rw c.prefix-whole.ensures.value at c.if-place-whole.true in
    let beyond = rw c.prefix-other_whole.ensures.value at c.if-other_place-other_whole.true in
    apart-lessened tree c.args.tree.now g.B.RadixNode.tree c.args.that.now c.split-front.ensures within beyond
    (g.O.Lessen.look g.K.Ord.cmp) (g.O.Lessen.says op) (g.O.Lessen.asks op) (g.met.O.Lessen.says_nothing op)
    (g.met.O.Lessen.asks_none op) c.requires.asks (λ s. refl) (alone-made g.K.Ord.cmp g.met.K.Ord.total g.T.Build.keeps
    g.met.T.Build.keeps_refl (g.O.Lessen.says op) _ (tree c.args.tree.now) _ c.split-front.ensures.left within
    c.stays_alone.result c.stays_alone.ensures)

pub lessen_at-lessen_inside-requires : goal.lessen_at-lessen_inside-requires
lessen_at-lessen_inside-requires g t c κs inside =
    let s = c.split-front.ensures in
    let tree = g.T.RadixNode.tree c.args.tree.now in
    let that = g.B.RadixNode.tree c.args.that.now in
    let within = rw c.prefix-whole.ensures.value at c.if-place-whole.true in
    let ended = rw c.prefix-other_whole.ensures.value at c.if-other_place-other_whole.false in
    let node = inner-node c.args.i c.split-front.result tree within in
    let other = ended-node c.args.j c.split-front.result that ended in
    let value = value-may s (g.O.Lessen.look g.K.Ord.cmp) (g.O.Lessen.asks c.args.op.now) c.requires.asks node other in
    let below = below-may s (g.O.Lessen.look g.K.Ord.cmp) (g.O.Lessen.asks c.args.op.now) c.requires.asks node other in
    search rules

pub lessen_at-returns-then-place-whole : goal.lessen_at-returns-then-place-whole
lessen_at-returns-then-place-whole g t c =
    let that = g.B.RadixNode.tree c.args.that.now in
    let within = rw c.prefix-whole.ensures.value at c.if-place-whole.true in
    let ended = rw c.prefix-other_whole.ensures.value at c.if-other_place-other_whole.false in
    if-ok c.lessen_inside.result
    (λ stays h. inside-lessened c.split-front.ensures (ended-node c.args.j c.split-front.result that ended)
    (g.met.O.Lessen.says_nothing c.args.op.now _) h within) c.lessen_inside.ensures

pub lessen_at-lessen_node-requires : goal.lessen_at-lessen_node-requires
lessen_at-lessen_node-requires g t c κs inside =
    let s = c.split-front.ensures in
    let tree = g.T.RadixNode.tree c.args.tree.now in
    let that = g.B.RadixNode.tree c.args.that.now in
    let long = rw c.prefix-whole.ensures.value at c.if-place-whole.false in
    let opened = c.trees_at-from.ensures.opened in
    let children = c.trees_at-from.ensures.children in
    let fewer = below-fewer opened in
    let node = ended-node c.args.i c.split-front.result tree long in
    let other = opened-node c.args.j c.split-front.result that c.value_at.ensures opened in
    let value = value-may s (g.O.Lessen.look g.K.Ord.cmp) (g.O.Lessen.asks c.args.op.now) c.requires.asks node other in
    let below = below-may s (g.O.Lessen.look g.K.Ord.cmp) (g.O.Lessen.asks c.args.op.now) c.requires.asks node other in
    search rules

pub lessen_at-returns : goal.lessen_at-returns
lessen_at-returns g t c =
    let long = rw c.prefix-whole.ensures.value at c.if-place-whole.false in
    if-ok c.lessen_node.result
    (λ stays h. node-lessened c.split-front.ensures
    (opened-node c.args.j c.split-front.result (g.B.RadixNode.tree c.args.that.now) c.value_at.ensures
    c.trees_at-from.ensures.opened) (g.met.O.Lessen.says_nothing c.args.op.now _) h long) c.lessen_node.ensures

-- ---- inside the left prefix

pub lessen_inside-lessen_at-requires : goal.lessen_inside-lessen_at-requires
lessen_inside-lessen_at-requires g t c κs inside =
    let op = c.change_value-below.result.1 in
    let kids = c.children.ensures in
    let right = subst (AreChildren g.K.Ord.cmp) (sym kids) c.canonical.ensures.1 in
    let n = inside-next g.T.RadixNode.tree g.B.RadixNode.tree c.args.tree.now c.args.place (g.O.Lessen.look g.K.Ord.cmp)
    (g.O.Lessen.says op) (g.O.Lessen.asks op) g.met.K.Ord.total (g.met.O.Lessen.says_nothing op) (g.met.O.Lessen.asks_none op)
    c.look_around.ensures.canonical c.requires.within right
    (λ x q. c.change_value-below.ensures.asked _ _ (rw (c.value.ensures, kids) (c.requires.asks_below x q)))
    c.look_around.ensures.sought (ap option_copied c.in-Some.is) in
    let may = meets n refl in
    let smaller = right-fewer n in
    let all = ap forest_nodes kids in
    search rules

pub lessen_inside-returns-in-Some : goal.lessen_inside-returns-in-Some
lessen_inside-returns-in-Some g t c =
    let op = c.change_value-below.result.1 in
    let kids = c.children.ensures in
    let right = subst (AreChildren g.K.Ord.cmp) (sym kids) c.canonical.ensures.1 in
    let n = inside-next g.T.RadixNode.tree g.B.RadixNode.tree c.args.tree.now c.args.place (g.O.Lessen.look g.K.Ord.cmp)
    (g.O.Lessen.says op) (g.O.Lessen.asks op) g.met.K.Ord.total (g.met.O.Lessen.says_nothing op) (g.met.O.Lessen.asks_none op)
    c.look_around.ensures.canonical c.requires.within right
    (λ x q. c.change_value-below.ensures.asked _ _ (rw (c.value.ensures, kids) (c.requires.asks_below x q)))
    c.look_around.ensures.sought (ap option_copied c.in-Some.is) in
    if-ok c.lessen_at.result
    (λ stays h. inside n (g.met.O.Lessen.says_nothing op) kids (rw c.value.ensures at c.change_value-below.ensures.below)
    (g.met.O.Lessen.says_nothing c.args.op.now _) h.front h.made) c.lessen_at.ensures

pub lessen_inside-returns : goal.lessen_inside-returns
lessen_inside-returns g t c =
    let op = c.change_value-below.result.1 in
    let kids = c.children.ensures in
    let right = subst (AreChildren g.K.Ord.cmp) (sym kids) c.canonical.ensures.1 in
    let n = inside-next g.T.RadixNode.tree g.B.RadixNode.tree c.args.tree.now c.args.place (g.O.Lessen.look g.K.Ord.cmp)
    (g.O.Lessen.says op) (g.O.Lessen.asks op) g.met.K.Ord.total (g.met.O.Lessen.says_nothing op) (g.met.O.Lessen.asks_none op)
    c.look_around.ensures.canonical c.requires.within right
    (λ x q. c.change_value-below.ensures.asked _ _ (rw (c.value.ensures, kids) (c.requires.asks_below x q)))
    c.look_around.ensures.sought (ap option_copied c.in-None.is) in
    inside n (g.met.O.Lessen.says_nothing op) kids (rw c.value.ensures at c.change_value-below.ensures.below)
    (g.met.O.Lessen.says_nothing c.args.op.now _) (λ e. refl)
    (made-left (alone-made g.K.Ord.cmp g.met.K.Ord.total g.T.Build.keeps g.met.T.Build.keeps_refl (g.O.Lessen.says op) _
    (g.T.RadixNode.tree c.args.tree.now) c.args.place c.look_around.ensures.canonical c.requires.within c.stays_alone.result
    c.stays_alone.ensures))

-- ---- the children

pub lessen_in-lessen_list-requires : goal.lessen_in-lessen_list-requires
lessen_in-lessen_list-requires g t c κs inside =
    let alike = g.met.T.Build.kept_alike _ _ c.in_ok-list.ensures.value in
    let left = alike-children g.T.Build.keeps g.K.Ord.cmp _ _ alike c.requires.left in
    let right = c.requires.right in
    let asks = λ (x : g.row.K.Denot) (q : List g.row.K.Denot). g.met.O.Lessen.asks_kept c.args.op.now _ _ _
    (alike-lookup g.T.Build.keeps g.K.Ord.cmp _ _ alike (x ∷ q)) (c.requires.asks x q) in
    let many = alike-nodes g.T.Build.keeps _ _ alike in
    search rules

pub lessen_in-returns-then-kept-eq1-clause-below : goal.lessen_in-returns-then-kept-eq1-clause-below
lessen_in-returns-then-kept-eq1-clause-below g t c =
    let long = length-take-le c.in_ok-kept.kept c.lessen_list.new.list.items c.in_ok-kept.ensures.within in
    let items : cons_option c.pop.result (g.T.Children.ChildList.items (c.make_mut.follows.lender c.pop.new.self))
    ≡ take c.in_ok-kept.kept c.lessen_list.new.list.items =
    ap (cons_option c.pop.result) (c.make_mut.follows.holds _ (ap is_ok c.in_ok-list.was))
    ∙ only-popped _ _ c.pop.result (sym c.truncate.ensures.items ∙ c.pop.ensures.items) (long ∙ c.if-kept-eq1.true) in
    let alike = g.met.T.Build.kept_alike _ _ c.in_ok-list.ensures.value in
    rw items (λ x q. g.met.O.Lessen.says_kept c.args.op.now _ _ _ _
    (alike-lookup g.T.Build.keeps g.K.Ord.cmp _ _ alike (x ∷ q)) (c.in_ok-kept.ensures.below x q))

pub lessen_in-returns-clause-below : goal.lessen_in-returns-clause-below
lessen_in-returns-clause-below g t c =
    let held = c.make_mut.follows.holds _ (ap is_ok c.in_ok-list.was) ∙ c.truncate.ensures.items in
    let items : g.T.Children.ChildList.items c.else-is_bare.children ≡ take c.in_ok-kept.kept c.lessen_list.new.list.items =
    elim c.else-is_bare.branch [
      | lessen_in-else-is_bare-via-then-is_bare+else-kept-eq1 w ↦ ap g.T.Children.ChildList.items w.children-is ∙ held
      | lessen_in-else-is_bare-via-else-is_bare w ↦ ap g.T.Children.ChildList.items w.children-is ∙ held
    ] in
    let alike = g.met.T.Build.kept_alike _ _ c.in_ok-list.ensures.value in
    rw items (λ x q. g.met.O.Lessen.says_kept c.args.op.now _ _ _ _
    (alike-lookup g.T.Build.keeps g.K.Ord.cmp _ _ alike (x ∷ q)) (c.in_ok-kept.ensures.below x q))

pub lessen_list-pairs-init : goal.lessen_list-pairs-init
lessen_list-pairs-init g t c = record {
  order = omega arith;
  within = omega arith;
  long = refl;
  going =
      doing-start g.met.K.Ord.total (g.met.O.Lessen.asks_none c.args.op.now) c.requires.left c.requires.right c.requires.asks refl;
}

pub lessen_list-next_pair-passed-requires-clause-within : goal.lessen_list-next_pair-passed-requires-clause-within
lessen_list-next_pair-passed-requires-clause-within g t c = rw c.deref.ensures.value c.pairs.invariant.within

pub lessen_list-next_pair-passed-requires-clause-left : goal.lessen_list-next_pair-passed-requires-clause-left
lessen_list-next_pair-passed-requires-clause-left g t c = rw c.deref.ensures.value c.pairs.invariant.going.left

pub lessen_list-next_pair-passed-requires-clause-right : goal.lessen_list-next_pair-passed-requires-clause-right
lessen_list-next_pair-passed-requires-clause-right g t c = c.pairs.invariant.going.right

pub lessen_list-pass-kept-requires : goal.lessen_list-pass-kept-requires
lessen_list-pass-kept-requires g t c =
    let inv = c.pairs.invariant in
    let p = rw c.deref.ensures.value at c.next_pair-passed.ensures in
    record { order = inv.order; within = omega (arith, p.within, length-drop c.pairs.at c.pairs.list.items, inv.within) }

pub lessen_list-returns-in_default : goal.lessen_list-returns-in_default
lessen_list-returns-in_default g t c =
    let inv = c.pairs.invariant in
    let p = rw c.deref.ensures.value at c.next_pair-passed.ensures in
    let passed = c.pass-kept.ensures in
    let nothing = g.met.O.Lessen.says_nothing c.args.op.now in
    let end =
    pair-end _ _ p _ passed.rest (ap option_copied c.in_default.is) (nothing _)
    (runs-done g.T.Build.keeps g.met.T.Build.keeps_refl _ c.stays_alone-stay.ensures nothing _ _ _ inv.going p _ _ passed.built
    passed.rest) in
    record {
      within = omega (arith, p.within, length-drop c.pairs.at c.pairs.list.items, inv.within, passed.long, passed.order);
      children = end.0;
      below = end.1;
    }

pub lessen_list-lessen_at-requires : goal.lessen_list-lessen_at-requires
lessen_list-lessen_at-requires g t c κs inside =
    let inv = c.pairs.invariant in
    let p = rw c.deref.ensures.value at c.next_pair-passed.ensures in
    let passed = c.pass-kept.ensures in
    let n =
    pair-next _ _ p _ passed.rest (ap option_copied c.in-Some.is)
    (runs-done g.T.Build.keeps g.met.T.Build.keeps_refl _ c.stays_alone-stay.ensures (g.met.O.Lessen.says_nothing c.args.op.now)
    _ _ _ inv.going p _ _ passed.built passed.rest) _ c.index_mut.ensures.value in
    let may = meets n refl in
    let smaller = right-fewer n in
    let fewer = left-fewer n in
    search rules

pub lessen_list-pairs-preserved : goal.lessen_list-pairs-preserved
lessen_list-pairs-preserved g t c =
    let inv = c.pairs.invariant in
    let p = rw c.deref.ensures.value at c.next_pair-passed.ensures in
    let found = ap option_copied c.in-Some.is in
    let passed = c.pass-kept.ensures in
    let within = pair-within _ _ p _ passed.rest found in
    let n =
    pair-next _ _ p _ passed.rest found
    (runs-done g.T.Build.keeps g.met.T.Build.keeps_refl _ c.stays_alone-stay.ensures (g.met.O.Lessen.says_nothing c.args.op.now)
    _ _ _ inv.going p _ _ passed.built passed.rest) _ c.index_mut.ensures.value in
    let s = set-at c.pass-kept.new.list.items _ _ c.lessen_at.new.tree within refl in
    let last = c.pass-kept-in-pairs.ensures in
    record {
      order = last.order;
      within = omega (arith, last.long, s.long, within);
      long = last.long ∙ s.long ∙ passed.long ∙ inv.long;
      going = (pair-done [] n tt _ c.in_ok-stays.ensures.made passed.order _ s _ _ last.built last.rest).0;
    }

-- ---- the calls for the parts of a node

pub lessen_kids-lessen_in-requires : goal.lessen_kids-lessen_in-requires
lessen_kids-lessen_in-requires g t c κs inside =
    let children = ap (listed g.T.Children.ChildList.items) c.in-Some.is in
    let left = rw children at c.requires.left in
    let asks = rw children at c.requires.asks in
    let right = c.requires.right in
    let fewer = ap forest_nodes (ap (seen g.T.RadixNode.tree) children) in
    search rules

pub lessen_node-lessen_kids-requires : goal.lessen_node-lessen_kids-requires
lessen_node-lessen_kids-requires g t c κs inside =
    let tree = g.T.RadixNode.tree in
    let whole = c.replace-node.ensures.value in
    let kids = c.take_apart-prefix.ensures.children ∙ ap (λ t. (tree t).children) whole in
    let canonical = subst (λ t. AreChildren g.K.Ord.cmp (tree t).children) whole c.take_apart-prefix.ensures.canonical.1 in
    let left = subst (AreChildren g.K.Ord.cmp) (sym kids) canonical in
    let had = same-many tree tree _ _ (c.children-had.ensures ∙ sym kids) in
    let fewer = ap forest_nodes kids in
    let asks = rw (← kids) at c.requires.asks_below in
    let asked = λ (x : g.row.K.Denot) (q : List g.row.K.Denot). c.change_value-value.ensures.asked _ _ (asks x q) in
    search rules
