-- Each command is one step more, and at the end all were done.
use Rattle.std.proofs.Common.{◌≡◌, ◌<◌, ◌∙◌, ap, arith, length, rules}
use Rattle.std.proofs.lemmas.Iterator.Adapters.{YieldsList-from_vec}
use Rattle.std.proofs.lemmas.Iterator.Consumers.{YieldsList-from_enumerate, YieldsList-turn, YieldsList-end}
use Rattle.std.proofs.lemmas.List.FromFn.{length-enumerate_from, get_or-enumerate_from}
use Rattle.vc_tree_model.specs.Map.{lookup}
use Rattle.vc_tree_model.proofs.Uniqueness.{canonical-one}
use Rattle.vc_tree_model.proofs.Smallness.{canonical-smallest}
use Rattle.vc_tree_model.specs.Snapshot.{kept_itself}
use Rattle.vc_tree_model.specs.Matches.{AreCopies}
use Rattle.vc_tree_model.specs.Machine.{KeptStep}
use Rattle.vc_trees.proofs.Chaining.{leads-turn, leads-through}
use Rattle.vc_trees.proofs.Obeying.{run-copied}
use Rattle.vc_trees.specs.Commanded.{command_of}
use Rattle.vc_trees.proofs.commands.run.Goals as goal

pub loop-at-preserved : goal.loop-at-preserved
loop-at-preserved g c =
    let turn =
    YieldsList-turn (YieldsList-from_enumerate (YieldsList-from_vec c.args.commands.items (cc) (cc)) (cc)) c.loop-at.yielded
    c.loop-at.at-iterator c.loop-at.yielded_by c.next.result c.next.new.self (c.in-Some.at, c.in-Some.command) c.in-Some.is
    c.next.ensures.steps in
    let within : length c.loop-at.yielded < length c.args.commands.items =
    rw (← length-enumerate_from 0 c.args.commands.items) turn.0 in
    let found = ap (λ p. p.0) (turn.1 ∙ get_or-enumerate_from 0 c.args.commands.items (length c.loop-at.yielded) _ within) in
    let place : c.in-Some.at ≡ length c.loop-at.yielded = omega (arith, found) in
    let flags : length c.loop-at.accepted ≡ length c.args.commands.items = search rules in
    let inside : c.in-Some.at < length c.loop-at.accepted = rw flags (rw place within) in
    let start = lookup g.K.Ord.cmp (g.T.RadixNode.tree c.args.tree.now) in
    let before = lookup g.K.Ord.cmp (g.T.RadixNode.tree c.loop-at.tree) in
    let after = lookup g.K.Ord.cmp (g.T.RadixNode.tree c.obey.new.tree) in
    leads-turn g.T.Build.keeps (KeptStep g.K.Ord.cmp g.T.Build.keeps g.V.Clone.is_clone) (command_of g.T.RadixNode.tree)
    start before after c.loop-at.yielded c.in-Some.at c.in-Some.command c.loop-at.accepted c.is_ok.result place inside
    c.loop-at.invariant (rw c.is_ok.ensures.value c.obey.ensures.kept)

pub returns-clause-kept : goal.returns-clause-kept
returns-clause-kept g c =
    let end =
    YieldsList-end (YieldsList-from_enumerate (YieldsList-from_vec c.args.commands.items (cc) (cc)) (cc)) c.loop-at.yielded
    c.loop-at.at-iterator c.loop-at.yielded_by c.next.result c.next.new.self c.in-None.is c.next.ensures.steps in
    let flags : length c.loop-at.accepted ≡ length c.args.commands.items = search rules in
    let all = end.1 ∙ length-enumerate_from 0 c.args.commands.items in
    leads-through g.T.Build.keeps (KeptStep g.K.Ord.cmp g.T.Build.keeps g.V.Clone.is_clone)
    (command_of g.T.RadixNode.tree) _ _ c.args.commands.items c.loop-at.yielded
    c.loop-at.accepted end.0 (omega (arith, flags, all)) c.loop-at.invariant
    (λ k. kept_itself g.T.Build.keeps g.met.T.Build.keeps_refl _)

pub returns-clause-steps : goal.returns-clause-steps
returns-clause-steps g c =
    run-copied g.K.Ord.cmp g.T.Build.keeps g.V.Clone.is_clone g.met.T.Build.keeps_copies _ _ _ _ (returns-clause-kept g c)

pub returns-clause-one : goal.returns-clause-one
returns-clause-one g c =
    canonical-one g.K.Ord.cmp g.met.K.Ord.total (AreCopies g.V.Clone.is_clone) (g.T.RadixNode.tree c.loop-at.tree)
    c.prefix.ensures.canonical

pub returns-clause-smallest : goal.returns-clause-smallest
returns-clause-smallest g c =
    canonical-smallest g.K.Ord.cmp (AreCopies g.V.Clone.is_clone) g.met.K.Ord.total (g.T.RadixNode.tree c.loop-at.tree)
    c.prefix.ensures.canonical
