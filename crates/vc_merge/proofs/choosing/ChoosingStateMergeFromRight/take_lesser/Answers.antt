use Rattle.std.proofs.Common.{◌++◌, ◌∷◌, [], refl, ap, ◌∙◌, arith}
use Rattle.std.proofs.lemmas.Result.{err_from_is_err_and}
use Rattle.vc_merge.proofs.LesserTaken.{one-taken, both-skipped, one-refused, one-passed}
use Rattle.vc_merge.proofs.LesserTaken.{eq-both, eq-not, within-left, room-one}
use Rattle.vc_merge.proofs.choosing.ChoosingStateMergeFromRight.take_lesser.Goals as goal
use Rattle.vc_merge.proofs.choosing.ChoosingStateMergeFromRight.take_lesser.Goals.{else-is_eq-via-then-is_eq+else-not-both, else-is_eq-via-else-is_eq}

pub returns-then-not-both-clause-gives : goal.returns-then-not-both-clause-gives
returns-then-not-both-clause-gives g c =
    both-skipped g.T.Clone.is_clone _ _ c.args.heads c.args.both c.is_eq.ensures c.if-is_eq.true c.if-not-both.true refl refl

pub returns-then-not-both-clause-takes : goal.returns-then-not-both-clause-takes
returns-then-not-both-clause-takes g c =
    let s = c.args.self.now in
    let both = eq-both c.args.heads c.is_eq.ensures c.if-is_eq.true in
    let left = within-left s.a.now s.left c.requires.some_left in
    let right = within-left s.b.now s.right c.requires.some_right in
    one-passed g.T.Clone.is_clone _ s _ c.args.heads both.0 both.1 refl refl refl refl
    (c.requires.ready.0, c.requires.ready.1, omega (arith, left), omega (arith, right))

pub returns-in_err-item-clause-gives : goal.returns-in_err-item-clause-gives
returns-in_err-item-clause-gives g c =
    one-refused g.T.Clone.is_clone _ _ c.args.heads c.args.both _ _
    (err_from_is_err_and c.from_residual.result c.from_residual.ensures.1).1

pub returns-in_err-room-clause-gives : goal.returns-in_err-room-clause-gives
returns-in_err-room-clause-gives g c =
    one-refused g.T.Clone.is_clone _ _ c.args.heads c.args.both _ _
    (err_from_is_err_and c.from_residual-in_err-room.result c.from_residual-in_err-room.ensures.1).1

pub returns-clause-gives : goal.returns-clause-gives
returns-clause-gives g c =
    let s = c.args.self.now in let x = c.index-self-self.result in let y = c.index-self-self-2.result in
    let v = c.in_ok-item.item in
    one-taken g.T.Clone.is_clone s _ c.args.heads c.args.both x y c.lesser.result.now v refl
    (within-left s.a.now s.left c.requires.some_left) (within-left s.b.now s.right c.requires.some_right)
    c.index-self-self.is c.index-self-self-2.is c.lesser.ensures.lesser c.lesser.ensures.equal c.lesser.ensures.greater
    c.in_ok-item.ensures.cases
    (c.push_reserved.ensures.items ∙ ap (λ l. l ++ v ∷ []) c.room_for_some.ensures.items)
    (λ e. elim c.else-is_eq.branch [
      | else-is_eq-via-then-is_eq+else-not-both w ↦ w.if-not-both.false
      | else-is_eq-via-else-is_eq w ↦ eq-not c.args.heads c.is_eq.ensures w.if-is_eq.false e
    ])

pub returns-clause-takes : goal.returns-clause-takes
returns-clause-takes g c =
    let room = c.in_ok-room.ensures in
    one-passed g.T.Clone.is_clone _ c.args.self.now _ c.args.heads c.is_le.ensures c.is_ge.ensures refl refl
    c.passed-self.ensures.place c.passed-self-2.ensures.place (
      c.requires.ready.0,
      (λ _. room-one _ _ c.push_reserved.ensures.items c.push_reserved.ensures.capacity room.some room.room),
      c.passed-self.ensures.within,
      c.passed-self-2.ensures.within,
    )
