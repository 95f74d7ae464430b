use Rattle.std.proofs.Common.{drop, ap, ◌∙◌}
use Rattle.std.proofs.lemmas.List.{length-take-le, take_rest}
use Rattle.vc_maps.specs.KeptViews.{key_pairs}
use Rattle.vc_merge.proofs.ListLemmas.{each-weaker}
use Rattle.vc_maps.proofs.Kept.{enough-keys, keys-passed}
use Rattle.vc_maps.proofs.in_place.KeptStateJoinState.ask_b.Goals as goal

pub rights_turned-self-requires-clause-keys : goal.rights_turned-self-requires-clause-keys
rights_turned-self-requires-clause-keys g c =
    let s = c.args.self.now in
    enough-keys g.K.Clone.is_clone _ s.right.now (key_pairs s) _ c.args.n c.requires.within c.requires.ready c.requires.takes

pub rights_turned-self-requires-clause-takes : goal.rights_turned-self-requires-clause-takes
rights_turned-self-requires-clause-takes g c = each-weaker _ _ (λ p h. h.1) _ c.requires.takes

pub returns-clause-passes : goal.returns-clause-passes
returns-clause-passes g c = λ _.
    let s = c.args.self.now in let n = c.args.n in let left = take_rest s.right.now n in
    let turned = c.rights_turned-self.ensures in
    let rights = turned.right ∙ ap (λ l. drop l (key_pairs s)) (length-take-le n s.right.now c.requires.within) in
    (turned.left, left, keys-passed g.K.Clone.is_clone _ s.right.now _ (key_pairs s) _ n c.requires.ready left (λ _. rights))
