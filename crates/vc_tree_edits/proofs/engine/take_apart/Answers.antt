-- Where the prefix continues, the tree itself is below the place, and otherwise its children.
use Rattle.std.proofs.Common.{◌≡◌, ℕ, ◌+◌, ◌-◌, ◌≤◌, List, arith, refl, sym, ◌∙◌, ap, length, length-drop, take, drop, map}
use Rattle.std.proofs.lemmas.List.{take_all}
use Rattle.vc_tree_model.specs.Child.{value_at}
use Rattle.vc_tree_model.specs.Snapshot.{tree_alike_refl, kept_itself}
use Rattle.vc_tree_model.specs.Tree.{forest, node, shortened}
use Rattle.vc_tree_facing.proofs.Leaving.{inner-node}
use Rattle.vc_tree_facing.proofs.Opening.{opened-all, opened-rest}
use Rattle.vc_tree_edits.proofs.Stepping.{ended-rest}
use Rattle.vc_tree_edits.proofs.engine.take_apart.Goals as goal

pub returns-then-i-front : goal.returns-then-i-front
returns-then-i-front g c =
    let whole = c.prefix-whole.ensures.value in
    let t = g.T.RadixNode.tree c.args.tree in
    let within = rw whole at c.if-i-front.true in
    let long : c.args.i + c.args.front - c.args.i ≡ c.args.front = omega arith in
    record {
      taken = record {
        taken = shortened c.args.i t;
        alike = tree_alike_refl g.T.Build.keeps g.met.T.Build.keeps_refl (shortened c.args.i t);
        front_is = rw (long, whole) at c.in_ok-from_slice.ensures.items;
        value_is = (inner-node c.args.i c.args.front t within).value;
        opened = opened-rest g.T.RadixNode.tree c.args.tree c.args.i c.args.front refl within;
      };
      stands = (refl, refl, within);
    }

-- the components up to the end of a prefix
cut-all : {K : Type 0} (i n : ℕ) (whole own front : List K) → own ≡ whole → front ≡ drop i own → length whole ≤ i + n
    → front ≡ take n (drop i whole)
cut-all i n whole own front a f h = grind (arith, length-drop, take_all)

pub returns : goal.returns
returns g c =
    let t = g.T.RadixNode.tree c.args.tree in
    let parts = c.take_apart-prefix.ensures in
    let long = rw c.prefix-whole.ensures.value at c.if-i-front.false in
    let none = ended-rest c.args.i c.args.front t.prefix long in
    let taken = node (drop c.args.i t.prefix) t.value (forest (map g.T.RadixNode.tree c.in_ok-list.list.items)) in
    record {
      taken = record {
        taken = taken;
        alike = (
          refl,
          kept_itself g.T.Build.keeps g.met.T.Build.keeps_refl t.value,
          rw parts.children at c.in_ok-list.ensures,
        );
        front_is = cut-all c.args.i c.args.front t.prefix _ _ parts.prefix c.in_ok-prefix.ensures long;
        value_is = parts.value ∙ ap (value_at taken) (sym none);
        opened = opened-all g.T.RadixNode.tree taken _ _ none refl;
      };
      stands = long;
    }
