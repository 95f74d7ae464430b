use Rattle.std.proofs.Common.{◌-◌, ◌/◌, ◌≤◌, arith}
use Rattle.std.proofs.Math.Nat.{div-le_self}
use Rattle.std.proofs.lemmas.Nat.{le-div}
use Rattle.std.specs.Int.Count.{count_leading_zeros}
use Rattle.vc_merge.proofs.Digits.{digits-from_zeros, digits-half}
use Rattle.vc_merge.proofs.Strides.{strides-few}
use Rattle.vc_merge.proofs.searching.stride_exponent.Goals as goal

pub returns-clause-searches : goal.returns-clause-searches
returns-clause-searches c =
    let few = c.args.few in let many = c.args.many in let share = c.share_of-share.result in
    let same = c.share_of-share.ensures in
    let other = c.if-few-eq0.false in let fits = c.ranges.many.fits in
    let least : 1 ≤ many / few = le-div 1 many few (omega arith) (omega (arith, c.requires)) in
    let most = div-le_self many few in
    strides-few few many share (63 - count_leading_zeros 64 share) (omega arith) c.requires same
    (omega (arith, digits-from_zeros 64 share (omega arith), digits-half share (omega arith)))
