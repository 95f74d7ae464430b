use Rattle.std.proofs.Common.{◌∙◌, sym}
use Rattle.vc_merge.proofs.PlaceLemmas.{place-equal, place-unequal}
use Rattle.vc_merge.proofs.search.look_up.Goals as goal

pub returns-then-is_eq : goal.returns-then-is_eq
returns-then-is_eq g c =
    place-equal _ _ _ _ c.requires c.nearest-start.ensures.rest c.nearest-start.ensures.one c.index-one-0.result
    c.index-one-0.is c.compare-order.result c.compare-order.ensures.value (sym c.is_eq.ensures ∙ c.if-is_eq.true)

pub returns : goal.returns
returns g c =
    rw c.from.ensures (place-unequal _ _ _ _ c.requires c.nearest-start.ensures.rest c.nearest-start.ensures.one
    c.index-one-0.result c.index-one-0.is c.compare-order.result c.is_lt.result c.compare-order.ensures.value
    (sym c.is_eq.ensures ∙ c.if-is_eq.false) c.is_lt.ensures)
