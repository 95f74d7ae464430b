use Rattle.vc_merge.proofs.Digits.{digits-enough, digits-least}
use Rattle.vc_merge.proofs.laws.digits_are_least.Goals as goal

pub returns : goal.returns
returns c = record { enough = digits-enough; least = digits-least }
