use Rattle.std.proofs.Common.{◌≡◌, ◌+◌, ◌++◌, [], ◌∷◌, refl, sym, ap, ◌∙◌}
use Rattle.std.specs.Int.{from_bool}
use Rattle.vc_sets.specs.Select.{keeps}
use Rattle.vc_merge.proofs.LesserTaken.{within-left}
use Rattle.vc_intervals.proofs.Passed.{heads-kept, heads-skipped, heads-passed}
use Rattle.vc_intervals.proofs.combine.pass_heads.Goals as goal
use Rattle.vc_intervals.proofs.combine.pass_heads.Goals.{then-says+in_ok-boundary+in_ok-make_room, else-says}

pub returns-clause-gives : goal.returns-clause-gives
returns-clause-gives g c =
    let s = c.args.walk.now in
    elim c.if-says.branch [
      | then-says+in_ok-boundary+in_ok-make_room w ↦
          let x = w.index-walk-walk in let y = w.index-walk-walk-then-says in
          heads-kept g.T.Clone.is_clone (keeps _ _ _) s _ (ap (λ u. u.built.ghost_name) w.walk-is) c.args.heads c.is_le.ensures c.is_ge.ensures
          refl refl c.says.ensures c.says-2.ensures x.result y.result w.lesser.result.now w.in_ok-boundary.boundary
          (within-left s.a.now s.left c.requires.some_left) (within-left s.b.now s.right c.requires.some_right) x.is y.is
          (λ e. w.lesser.ensures.lesser e ∙ sym x.is) (λ e. w.lesser.ensures.equal e ∙ sym x.is)
          (λ e. w.lesser.ensures.greater e ∙ sym y.is) w.in_ok-boundary.ensures.cases
          (ap (λ u. u.built.now.items) w.walk-is ∙ w.push_reserved.ensures.items
          ∙ ap (λ l. l ++ w.in_ok-boundary.boundary ∷ []) w.make_room.ensures.items) w.if-says.true
      | else-says w ↦
          heads-skipped g.T.Clone.is_clone (keeps _ _ _) s _ (ap (λ u. u.built.ghost_name) w.walk-is) c.args.heads c.is_le.ensures
          c.is_ge.ensures refl refl c.says.ensures c.says-2.ensures (ap (λ u. u.built.now.items) w.walk-is) w.if-says.false
    ]

pub returns-clause-takes : goal.returns-clause-takes
returns-clause-takes g c =
    let s = c.args.walk.now in let u = c.if-says.walk in
    let same : (u.a.now ≡ s.a.now) × (u.b.now ≡ s.b.now) × (u.left ≡ s.left) × (u.right ≡ s.right) =
    elim c.if-says.branch [
      | then-says+in_ok-boundary+in_ok-make_room w ↦ rw w.walk-is (refl, refl, refl, refl)
      | else-says w ↦ rw w.walk-is (refl, refl, refl, refl)
    ] in
    heads-passed _ s _ c.args.heads same.0 same.1
    (c.passed-walk.ensures.place ∙ (λ i. same.2 i + from_bool (c.is_le-2.ensures i)))
    (c.passed-walk-2.ensures.place ∙ (λ i. same.3 i + from_bool (c.is_ge-2.ensures i)))
    (c.requires.ready.0, (c.passed-walk.ensures.within, c.passed-walk-2.ensures.within))
