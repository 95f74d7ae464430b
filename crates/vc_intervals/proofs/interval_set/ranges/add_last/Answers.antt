use Rattle.std.proofs.Common.{◌||◌, false, [], ◌∷◌, ◌++◌, sym, ap, subst, ◌∙◌, length, length-append, arith, rules}
use Rattle.vc_intervals.specs.Boundaries.{toggled}
use Rattle.vc_intervals.specs.Ranges.{in_range, IsSwept}
use Rattle.vc_intervals.proofs.Ranged.{less-told}
use Rattle.vc_intervals.proofs.Swept.{below-start, swept-pushed, pushed-holds, swept-met, met-holds}
use Rattle.vc_intervals.proofs.interval_set.ranges.add_last.Goals as goal

pub returns-in-Some : goal.returns-in-Some
returns-in-Some g c =
    let cmp = g.T.Ord.cmp in
    let reached = c.in-Some.ensures.reached in
    let front = c.pop_reached.new.boundaries.items in
    let swept = subst (IsSwept cmp c.args.range.start) reached.0 c.requires.swept in
    let less = less-told c.cmp.ensures c.is_lt.ensures c.if-not-is_lt.false in
    let is = c.push_reserved.ensures.items ∙ ap (λ m. front ++ m ∷ []) c.max.ensures in
    record {
      swept = swept-met cmp g.met.T.Ord.total front _ c.in-Some.last c.args.range.start c.args.range.end swept is;
      added = λ x. met-holds cmp g.met.T.Ord.total front _ c.in-Some.last c.args.range.start c.args.range.end x swept reached.1 less is
          ∙ ap (λ l. in_range cmp c.args.range x || toggled cmp false l x) (sym reached.0);
      capacity = search rules;
      len = omega (arith, simp length-append at (ap length is), simp length-append at (ap length reached.0));
    }

pub returns-in-None : goal.returns-in-None
returns-in-None g c =
    let cmp = g.T.Ord.cmp in
    let range = c.args.range in
    let passed = c.in-None.ensures.passed in
    let less = less-told c.cmp.ensures c.is_lt.ensures c.if-not-is_lt.false in
    let below = below-start cmp g.met.T.Ord.total _ range.start c.requires.swept.ascends passed.1 in
    let is = c.push_reserved-in-None-2.ensures.items ∙ ap (λ l. l ++ range.end ∷ [])
    (c.push_reserved-in-None.ensures.items ∙ ap (λ v. v.items ++ range.start ∷ []) passed.0) in
    record {
      swept = swept-pushed cmp g.met.T.Ord.total _ _ range.start range.end c.requires.swept less below is;
      added = λ x. pushed-holds cmp g.met.T.Ord.total _ _ range.start range.end x c.requires.swept less below is;
      capacity = search rules;
      len = omega (arith, simp length-append at (ap length is));
    }
