-- Where two prefixes part settles what is asked below; a tree that is found has fewer nodes than the one that it stands below.
use Rattle.std.proofs.Common.{rules, arith, refl, ap, length, true, false}
use Rattle.std.proofs.lemmas.Option.{slice_get_read}
use Rattle.vc_tree_facing.proofs.Opening.{slice-from}
use Rattle.vc_tree_combines.proofs.Testing.{found_in}
use Rattle.vc_tree_combines.proofs.Testing.{parted-told, inside-told, inside-none, inside-agrees, behind-told}
use Rattle.vc_tree_combines.proofs.Testing.{within-told, within-none, within-bare, both-told, some-at}
use Rattle.vc_tree_combines.proofs.keys.+meeting.Goals as goal

pub keys_meet-keys_meet-requires : goal.keys_meet-keys_meet-requires
keys_meet-keys_meet-requires g t c κs within =
    let agree = inside-agrees g.met.K.Ord.total c.args.shared (g.A.RadixNode.tree c.args.a.now) (g.B.RadixNode.tree c.args.b.now)
    c.args.i c.args.j (slice-from _ _ _ _ refl c.prefix.ensures.value) (slice-from _ _ _ _ refl c.prefix-2.ensures.value)
    c.prefix.ensures.canonical c.in-Inside.n _ c.in-Inside.ensures.is
    (slice_get_read _ _ c.in-Inside.n _ refl c.in-Inside.ensures.is.2 c.index-p-n.is) _ _ c.in-Some.ensures.child in
    search rules

pub keys_meet-returns-in-Lower : goal.keys_meet-returns-in-Lower
keys_meet-returns-in-Lower g t c =
    parted-told g.met.K.Ord.total c.args.shared (g.A.RadixNode.tree c.args.a.now) (g.B.RadixNode.tree c.args.b.now)
    c.args.i c.args.j (slice-from _ _ _ _ refl c.prefix.ensures.value) (slice-from _ _ _ _ refl c.prefix-2.ensures.value)
    c.prefix.ensures.canonical _ c.find_parting.ensures.is c.in-Lower.is

pub keys_meet-returns-in-Some : goal.keys_meet-returns-in-Some
keys_meet-returns-in-Some g t c =
    inside-told g.met.K.Ord.total c.args.shared (g.A.RadixNode.tree c.args.a.now) (g.B.RadixNode.tree c.args.b.now)
    c.args.i c.args.j (slice-from _ _ _ _ refl c.prefix.ensures.value) (slice-from _ _ _ _ refl c.prefix-2.ensures.value)
    c.prefix.ensures.canonical c.in-Inside.n _ c.in-Inside.ensures.is
    (slice_get_read _ _ c.in-Inside.n _ refl c.in-Inside.ensures.is.2 c.index-p-n.is) _ _ _ c.children.ensures
    c.in-Some.ensures.child c.keys_meet.ensures

pub keys_meet-returns-in-None : goal.keys_meet-returns-in-None
keys_meet-returns-in-None g t c =
    inside-none g.met.K.Ord.total c.args.shared (g.A.RadixNode.tree c.args.a.now) (g.B.RadixNode.tree c.args.b.now)
    c.args.i c.args.j (slice-from _ _ _ _ refl c.prefix.ensures.value) (slice-from _ _ _ _ refl c.prefix-2.ensures.value)
    c.prefix.ensures.canonical c.in-Inside.n _ c.in-Inside.ensures.is
    (slice_get_read _ _ c.in-Inside.n _ refl c.in-Inside.ensures.is.2 c.index-p-n.is) _ c.children.ensures c.in-None.ensures.child

pub keys_meet-returns-in-Behind : goal.keys_meet-returns-in-Behind
keys_meet-returns-in-Behind g t c =
    behind-told g.met.K.Ord.total c.args.shared (g.A.RadixNode.tree c.args.a.now) (g.B.RadixNode.tree c.args.b.now)
    c.args.i c.args.j (slice-from _ _ _ _ refl c.prefix.ensures.value) (slice-from _ _ _ _ refl c.prefix-2.ensures.value)
    _ c.in-Behind.ensures.is c.keys_meet_behind.ensures

pub keys_meet_below-returns-in-End : goal.keys_meet_below-returns-in-End
keys_meet_below-returns-in-End g t c = c.loop-x.invariant.tells true c.in-End.ensures

pub keys_meet_below-returns-in-Missed : goal.keys_meet_below-returns-in-Missed
keys_meet_below-returns-in-Missed g t c = c.loop-x.invariant.tells false c.in-Missed.ensures

pub keys_meet_below-returns-then-not-keys_meet : goal.keys_meet_below-returns-then-not-keys_meet
keys_meet_below-returns-then-not-keys_meet g t c =
    c.loop-x.invariant.tells false (c.in-Meeting.ensures.here_missed c.if-not-keys_meet.ensures)

pub keys_meet_behind-returns-then-values_meet : goal.keys_meet_behind-returns-then-values_meet
keys_meet_behind-returns-then-values_meet g t c =
    search (rules, g.met.K.Ord.total, both-told, ap length c.prefix-whole.ensures.value)

pub keys_meet_behind-returns-then-shared : goal.keys_meet_behind-returns-then-shared
keys_meet_behind-returns-then-shared g t c =
    let at = some-at (g.B.RadixNode.tree c.args.b.now).prefix c.args.n (omega (arith, ap length c.prefix-whole.ensures.value)) in
    within-bare g.met.K.Ord.total (g.A.RadixNode.tree c.args.a.now) (g.B.RadixNode.tree c.args.b.now) c.args.n at.0 at.1
    c.args.shared _ c.canonical.ensures c.if-shared.true c.is_empty.ensures

pub keys_meet_behind-returns-in-Some : goal.keys_meet_behind-returns-in-Some
keys_meet_behind-returns-in-Some g t c = search (rules, g.met.K.Ord.total, within-told, found_in)

pub keys_meet_behind-returns-in-None : goal.keys_meet_behind-returns-in-None
keys_meet_behind-returns-in-None g t c =
    within-none g.met.K.Ord.total (g.A.RadixNode.tree c.args.a.now) (g.B.RadixNode.tree c.args.b.now) c.args.n _
    (found_in _ _ c.args.n _ c.prefix-whole.ensures.value (omega (arith, ap length c.prefix-whole.ensures.value))
    c.index-whole-n.is) c.args.shared _ c.if-shared.false c.children-kids.ensures c.in-None.ensures.child
