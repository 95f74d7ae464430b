use Rattle.std.proofs.Common.{arith}
use Rattle.std.proofs.lemmas.Bool.{leb-true, le-leb}
use Rattle.vc_sets.proofs.Shorter.{subset-shorter}
use Rattle.vc_sets.proofs.witness.is_within.Goals as goal

pub returns-else-a-b-clause-within : goal.returns-else-a-b-clause-within
returns-else-a-b-clause-within g c =
    let longer = c.if-a-b.false in let cmp = g.T.Ord.cmp in (
      λ e. absurd (omega (arith, leb-true _ _ e, longer)),
      λ h. le-leb _ _ (subset-shorter cmp g.met.T.Ord.total c.args.a.now c.args.b.now c.requires.a_ascends
          c.requires.b_ascends h),
    )
