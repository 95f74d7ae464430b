use Rattle.std.proofs.Common.{◌≡◌, take, rules}
use Rattle.vc_merge.proofs.Parted.{cut-off}
use Rattle.vc_maps.proofs.in_place.join_in.Goals as goal

pub join_parts-kept-requires-clause-takes : goal.join_parts-kept-requires-clause-takes
join_parts-kept-requires-clause-takes g c =
    λ a h. c.requires.takes a
    (rw (c.len-end.ensures.value, c.as_mut_slice.ensures.value, c.in_ok-next.ensures.front) at h)

pub returns : goal.returns
returns g c =
    let first : take c.len-end.result c.as_mut_slice.result.now ≡ c.args.list.now.items =
    rw (c.len-end.ensures.value, c.as_mut_slice.ensures.value) c.in_ok-next.ensures.front in
    let cut = cut-off c.append_keys.new.list _ c.join_parts-kept.new.list c.truncate.new.self.items c.join_parts-kept.result
    c.as_mut_slice.ensures.value c.join_parts-kept.auto.list c.truncate.ensures.items in
    record {
      joins = rw cut (rw first at c.join_parts-kept.ensures.joins);
      counted = rw first at c.join_parts-kept.ensures.counted;
      no_memory = search rules;
      err = search rules;
    }
