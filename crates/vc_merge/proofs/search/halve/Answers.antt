use Rattle.std.proofs.Common.{◌+◌, ◌-◌, ◌/◌, arith}
use Rattle.vc_merge.proofs.Digits.{digits-half}
use Rattle.vc_merge.proofs.PlaceLemmas.{searched-half, searched-within}
use Rattle.vc_merge.proofs.search.halve.Goals as goal
use Rattle.vc_merge.proofs.search.halve.Goals.{then-is_gt, else-is_gt}

pub returns-clause-searched : goal.returns-clause-searched
returns-clause-searched g c =
    let part = c.args.part in
    let len = part.len / 2 in
    let middle = part.start + (part.len - len) in
    let some = c.if-part-eq0.false in
    let w = searched-within _ _ part.start part.len part.found c.requires.searched in
    searched-half _ _ c.requires.ordered part.start part.len middle len (omega arith) (omega arith) (omega arith) (omega arith)
    part.found c.is_eq.result c.compare-side.result c.if-is_gt.start c.index-list-middle.result c.requires.searched
    c.index-list-middle.is (omega arith) c.compare-side.ensures.value
    (elim c.if-is_gt.branch [
      | then-is_gt w ↦ grind (arith, w.start-is, c.is_gt.ensures, w.if-is_gt.true)
      | else-is_gt w ↦ grind (arith, w.start-is, c.is_gt.ensures, w.if-is_gt.false)
    ])
    c.is_eq.ensures

pub returns-clause-counted : goal.returns-clause-counted
returns-clause-counted g c =
    let some = c.if-part-eq0.false in
    omega (arith, digits-half c.args.part.len (omega arith), c.compare-side.ensures.ticks)
