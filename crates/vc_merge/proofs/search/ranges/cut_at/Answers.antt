use Rattle.vc_merge.proofs.search.ranges.cut_at.Goals as goal

pub count_passing-requires : goal.count_passing-requires
count_passing-requires g c = c.requires c.in-Included.sought

pub count_passing-requires-in-Excluded : goal.count_passing-requires-in-Excluded
count_passing-requires-in-Excluded g c = c.requires c.in-Excluded.sought
