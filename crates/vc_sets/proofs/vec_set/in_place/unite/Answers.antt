use Rattle.std.proofs.Common.{◌≡◌, ap, arith, length, length-append, rules}
use Rattle.vc_merge.proofs.Clones.{clone-equal, clones-ascend}
use Rattle.vc_sets.proofs.Clones.{set_of-clones}
use Rattle.vc_merge.proofs.Parted.{not-refused, is-parted, cut-off}
use Rattle.vc_sets.proofs.Parted.{set_of-parts}
use Rattle.vc_sets.proofs.vec_set.in_place.unite.Goals as goal

pub join-kept-requires : goal.join-kept-requires
join-kept-requires g c =
    let made = not-refused c.append_clones-cloned.result _ c.is_err.result c.is_err.ensures.value c.if-is_err.false
    c.append_clones-cloned.ensures.clones in
    let parts = is-parted _ {added = made.added} {all = c.as_mut_slice.result.now} {end = c.len-end.result}
    {next = c.len-next.result}
    c.len-end.ensures.value c.len-next.ensures.value
    c.in_ok-open_gap.ensures.front c.in_ok-open_gap.ensures.gap made.items c.as_mut_slice.ensures.value in
    record {
      order = search rules;
      within = omega (arith, ap length c.as_mut_slice.ensures.value, ap length made.items, length-append {A = g.row.T.Denot});
      left_ascends = rw parts.left c.requires.left_ascends;
      right_ascends = rw parts.right (clones-ascend g.T.Ord.cmp g.met.T.Ord.total g.T.Clone.is_clone
          (clone-equal g.T.Ord.cmp g.met.T.Ord.total g.T.Clone.is_clone c.requires.clones) _ made.added made.come
          c.requires.right_ascends);
    }

pub returns-clause-ok : goal.returns-clause-ok
returns-clause-ok g c =
    let made = not-refused c.append_clones-cloned.result _ c.is_err.result c.is_err.ensures.value c.if-is_err.false
    c.append_clones-cloned.ensures.clones in
    let parts = is-parted _ {added = made.added} {all = c.as_mut_slice.result.now} {end = c.len-end.result}
    {next = c.len-next.result}
    c.len-end.ensures.value c.len-next.ensures.value
    c.in_ok-open_gap.ensures.front c.in_ok-open_gap.ensures.gap made.items c.as_mut_slice.ensures.value in
    let cut = cut-off c.append_clones-cloned.new.list _ c.join-kept.new.list c.truncate-2.new.self.items c.join-kept.result
    c.as_mut_slice.ensures.value c.join-kept.auto.list c.truncate-2.ensures.items in
    set_of-clones g.T.Ord.cmp g.met.T.Ord.total g.T.Clone.is_clone
    (clone-equal g.T.Ord.cmp g.met.T.Ord.total g.T.Clone.is_clone c.requires.clones) _
    (λ x y. x ≡ y) _ _ made.added _ made.come
    (set_of-parts g.T.Ord.cmp _ _ _ parts cut c.join-kept.ensures)
