use Rattle.std.proofs.Common.{◌≡◌, refl, rules, not}
use Rattle.std.specs.List.{filter}
use Rattle.vc_total_maps.proofs.Copying.{filter-canonical, left-filtered}
use Rattle.vc_total_maps.proofs.total_vec_map.TotalVecMap.new.Goals as goal

left : (g : _) (c : goal.After-retain g) → c.retain.new.self ≡ filter (λ p. not (g.V.PartialEq.eq p.1 c.args.default)) c.args.map
left g c = left-filtered _ _ _ _ _ c.retain.ensures.filtered (λ x answer after h. search rules)

pub invariant_of-result : goal.invariant_of-result
invariant_of-result g c = rw (left g c) (filter-canonical g.V.PartialEq.eq c.args.default g.K.Ord.cmp c.args.map)

pub returns : goal.returns
returns g c = rw (left g c) refl
