use Rattle.std.proofs.Common.{rules, ◌≡◌, refl, true}
use Rattle.std.specs.List.{list_all}
use Rattle.vecbench_lines.proofs.Leading.{run-weaker}
use Rattle.vecbench_lines.proofs.tree_line.TreeLine.change.Goals as goal

pub same-tree : goal.same-tree
same-tree c = refl

pub run-requires : goal.run-requires
run-requires c = search rules

pub returns-then-all_set : goal.returns-then-all_set
returns-then-all_set c =
    let set : list_all (λ ok. ok) c.run.new.accepted ≡ true = search rules in
    (c.run.new.accepted, set, run-weaker _ (λ v w. v ≡ w) (λ v w h. refl) _ _ _ _ c.run.ensures.steps)

pub back_following-flags : goal.back_following-flags
back_following-flags c = (refl, refl)
