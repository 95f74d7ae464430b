use Rattle.std.proofs.Common.{◌≡◌, false, ◌∙◌, ap, drop, arith}
use Rattle.std.proofs.lemmas.List.{take_rest}
use Rattle.vc_maps.specs.Keeping.{has_keys}
use Rattle.vc_maps.specs.KeptViews.{key_pairs}
use Rattle.vc_maps.proofs.Kept.{keys-within, keys-passed}
use Rattle.vc_maps.proofs.in_place.KeptState.pass_right.Goals as goal
use Rattle.vc_maps.proofs.in_place.KeptState.pass_right.Goals.{then-this-gt0, else-this-gt0}

pub pass_keys-requires : goal.pass_keys-requires
pass_keys-requires g c =
    let s = c.args.self.now in (
      omega arith,
      keys-within g.K.Clone.is_clone _ s.right.now (key_pairs s) c.args.n
          (grind (arith, c.if-this-gt0.true)) c.requires.within c.requires.ready,
    )

pub returns-clause-ready : goal.returns-clause-ready
returns-clause-ready g c =
    let s = c.args.self.now in let n = c.args.n in
    elim c.if-this-gt0.branch [
      | then-this-gt0 w ↦ rw w.self-is (keys-passed g.K.Clone.is_clone _ s.right.now _ (key_pairs s) _ n c.requires.ready
          (take_rest w.pass_keys.new.self.right.now n ∙ ap (drop n) w.pass_keys.ensures.right) (λ _. w.pass_keys.ensures.keys))
      | else-this-gt0 w ↦
          let none : has_keys g.row.KEYS ≡ false = grind (arith, w.if-this-gt0.false) in
          rw (w.self-is, none) tt
    ]
