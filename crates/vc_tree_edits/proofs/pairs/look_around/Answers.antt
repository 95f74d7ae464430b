-- The component that the tree goes on with is sought.
use Rattle.std.proofs.Common.{◌≡◌, ◌+◌, ◌∙◌, ap, take, refl, sym, arith, rules}
use Rattle.std.proofs.lemmas.List.{take_rest, take-append-drop}
use Rattle.vc_tree_facing.specs.Seeking.{side_at}
use Rattle.vc_tree_edits.proofs.Passing.{component-at, found-parts, all-take, all-rest, all-within}
use Rattle.vc_tree_edits.proofs.pairs.look_around.Goals as goal

pub returns-in-Ok : goal.returns-in-Ok
returns-in-Ok g c =
    let x = c.index-prefix-place.result in
    let e = component-at _ _ c.args.place x c.prefix.ensures.value c.requires.place c.index-prefix-place.is in
    let xs = c.args.children.now in
    let child = c.index-children-at.is in
    let found = c.in-Ok.ensures in
    let all = all-within g.K.Ord.cmp g.met.K.Ord.total g.B.RadixNode.tree 0 xs c.requires.children in
    let back = take_rest xs (c.in-Ok.at + 1) in
    let parts = found-parts xs c.in-Ok.at c.index-children-at.result found.within child _ _ refl back in
    record {
      parts = parts;
      before = all-take _ c.in-Ok.at xs all;
      after = all-rest _ (c.in-Ok.at + 1) xs all;
      sought = λ k h.
          let same : k ≡ x = cc in
          rw same (record {
            passes = record { passed = take c.in-Ok.at xs; is = parts; lower = found.less };
            stops = ap (side_at g.K.Ord.cmp g.B.RadixNode.tree 0 x) child ∙ found.equal c.index-children-at.result;
          });
      canonical = search rules;
    }

pub returns-in-Err : goal.returns-in-Err
returns-in-Err g c =
    let x = c.index-prefix-place.result in
    let e = component-at _ _ c.args.place x c.prefix.ensures.value c.requires.place c.index-prefix-place.is in
    let xs = c.args.children.now in
    let gap = c.in-Err.ensures in
    let back = take_rest xs c.in-Err.at in
    let all = all-within g.K.Ord.cmp g.met.K.Ord.total g.B.RadixNode.tree 0 xs c.requires.children in
    record {
      parts = grind (arith, back, take-append-drop c.in-Err.at xs);
      before = all-take _ c.in-Err.at xs all;
      after = all-rest _ c.in-Err.at xs all;
      sought = λ k h.
          let same : k ≡ x = cc in
          rw (same, back) (record {
            passes = record { passed = take c.in-Err.at xs; is = sym (take-append-drop c.in-Err.at xs); lower = gap.less };
            stops = grind (arith, gap.greater);
          });
      canonical = search rules;
    }
