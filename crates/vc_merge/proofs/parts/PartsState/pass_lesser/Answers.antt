use Rattle.std.proofs.Common.{◌≡◌, ◌||◌, refl, arith}
use Rattle.std.specs.Ordering.{is_ne}
use Rattle.vc_merge.proofs.LesserPassed.{passes-lesser}
use Rattle.vc_merge.proofs.parts.PartsState.pass_lesser.Goals as goal
use Rattle.vc_merge.proofs.parts.PartsState.pass_lesser.Goals.{then-is_ne, else-is_ne}

pub returns : goal.returns
returns g c =
    let s = c.args.self.now in let o = c.args.order in
    let kept : c.if-is_ne.from ≡ (is_ne o || c.args.both)
    = elim c.if-is_ne.branch [ then-is_ne w ↦ grind arith | else-is_ne w ↦ grind arith ] in
    passes-lesser s _ c.requires.some_left c.requires.hole refl refl o c.args.both
    (rw (c.from.ensures, kept) refl) (rw (c.from-2.ensures, c.is_le.ensures) refl) (rw (c.from-3.ensures, c.is_ge.ensures) refl)
    (rw c.place_of_lesser-from.ensures at c.trade_one.ensures)
