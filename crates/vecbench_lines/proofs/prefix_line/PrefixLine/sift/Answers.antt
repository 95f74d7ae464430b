use Rattle.std.proofs.Common.{rules, ◌≡◌, ◌∙◌, refl}
use Rattle.std.specs.Ordering.{nat_cmp}
use Rattle.vec_collections.specs.Map.{lookup}
use Rattle.vecbench_lines.proofs.Listing.{removed-keys, retained-keys}
use Rattle.vecbench_lines.proofs.prefix_line.PrefixLine.sift.Goals as goal
use Rattle.vecbench_lines.proofs.prefix_line.PrefixLine.sift.Goals.{in-Remove+in_ok-remove_prefix_with-in-Remove}
use Rattle.vecbench_lines.proofs.prefix_line.PrefixLine.sift.Goals.{in-Retain+in_ok-retain_prefix_with-in-Retain}

pub same-tree : goal.same-tree
same-tree c = refl

pub same-tree-in-Continue-branch-2 : goal.same-tree-in-Continue-branch-2
same-tree-in-Continue-branch-2 c = refl

pub returns : goal.returns
returns c =
    elim c.match-operation.branch [
      | in-Remove+in_ok-remove_prefix_with-in-Remove w ↦
          let left = removed-keys (λ v w. v ≡ w) _ (λ rule admitted h. h.answers ∙ h.shows) w.rules.result.now
          (lookup nat_cmp c.args.self.tree) _ w.in_ok-remove_prefix_with-in-Remove.ensures.ok in
          search (rules, left, w.tree-is, w.in-Remove.is, w.rules.ensures.is)
      | in-Retain+in_ok-retain_prefix_with-in-Retain w ↦
          let left = retained-keys (λ v w. v ≡ w) _ (λ rule admitted h. h.answers ∙ h.shows) w.rules-in-Retain.result.now
          (lookup nat_cmp c.args.self.tree) _ w.in_ok-retain_prefix_with-in-Retain.ensures.ok in
          search (rules, left, w.tree-is, w.in-Retain.is, w.rules-in-Retain.ensures.is)
    ]
