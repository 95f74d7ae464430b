use Rattle.std.proofs.Common.{◌<◌, length, sym, subst}
use mathlib.Core.Bool.{true≢false}
use Rattle.vc_total_maps.proofs.total_vec_map.TotalVecMap.set.Goals as goal

pub returns-in_err-_old-clause-room : goal.returns-in_err-_old-clause-room
returns-in_err-_old-clause-room g c h =
    let fits = subst (λ m. length m.mappings < g.row.N) (sym c.self.view_is) h in
    absurd (true≢false (sym (c.in_err-_old.ensures.room fits)))
