use Rattle.std.proofs.Common.{true, ap, arith}
use Rattle.vc_merge.specs.ChoosingViews.{built_items, list_name, right_items}
use Rattle.vc_merge.proofs.Builds.{advances-adds}
use Rattle.vc_merge.proofs.Clones.{clone-equal}
use Rattle.vc_sets.proofs.Combined.{merged-set_of}
use Rattle.vc_sets.proofs.combine.combine_either.Goals as goal

pub merge-requires-clause-ascend : goal.merge-requires-clause-ascend
merge-requires-clause-ascend g c =
    rw (c.new-state.ensures.a, c.new-state.ensures.b) (record { left = c.requires.a_ascends; right = c.requires.b_ascends })

pub returns-clause-combined : goal.returns-clause-combined
returns-clause-combined g c =
    let equal = clone-equal g.T.Ord.cmp g.met.T.Ord.total g.T.Clone.is_clone c.requires.clones in
    merged-set_of g.T.Ord.cmp g.met.T.Ord.total g.T.Clone.is_clone g.T.Clone.is_clone equal equal true true _
    built_items list_name _ _ _
    (λ s t n answer h. h) (λ s t n answer h. advances-adds built_items list_name g.T.Clone.is_clone right_items s t n
    true answer h)
    (λ s t answer h. h) (λ s t answer h. h) (λ s t answer h. h)
    _ _ _ _ _ c.in_ok-merge.ensures.merged c.new-state.ensures.a c.new-state.ensures.b
    (rw c.new-state.ensures.same_reference c.in_ok-built.ensures)
    (λ e. let k = c.new-state.ensures.same_reference in let n = ap (λ r. r.ghost_name) k in grind arith)
