use Rattle.std.proofs.Common.{◌++◌, ◌∷◌, [], refl, sym, ap, ◌∙◌}
use Rattle.std.proofs.lemmas.Result.{err_from_is_err_and}
use Rattle.vc_merge.proofs.LesserTaken.{left-taken, left-passed, left-refused, one-passed, within-left, room-one}
use Rattle.vc_merge.proofs.choosing.ChoosingStateMergeStateMut.take_left.Goals as goal

pub returns-then-not-is_kept-clause-gives : goal.returns-then-not-is_kept-clause-gives
returns-then-not-is_kept-clause-gives g c =
    left-passed g.T.Clone.is_clone c.args.self.now _ c.args.heads c.args.left c.args.both refl refl
    (sym c.is_taken-is_kept.ensures ∙ c.if-not-is_kept.true)

pub returns-then-not-is_kept-clause-takes : goal.returns-then-not-is_kept-clause-takes
returns-then-not-is_kept-clause-takes g c =
    one-passed g.T.Clone.is_clone _ c.args.self.now _ c.args.heads c.is_le.ensures c.is_ge.ensures refl refl
    c.passed-self.ensures.place c.passed-self-then-not-is_kept.ensures.place
    (c.requires.ready.0, c.requires.ready.1, c.passed-self.ensures.within, c.passed-self-then-not-is_kept.ensures.within)

pub returns-in_err-item-clause-gives : goal.returns-in_err-item-clause-gives
returns-in_err-item-clause-gives g c =
    left-refused g.T.Clone.is_clone _ _ c.args.heads c.args.left c.args.both _ _
    (err_from_is_err_and c.from_residual.result c.from_residual.ensures.1).1

pub returns-in_err-room-clause-gives : goal.returns-in_err-room-clause-gives
returns-in_err-room-clause-gives g c =
    left-refused g.T.Clone.is_clone _ _ c.args.heads c.args.left c.args.both _ _
    (err_from_is_err_and c.from_residual-in_err-room.result c.from_residual-in_err-room.ensures.1).1

pub returns-clause-gives : goal.returns-clause-gives
returns-clause-gives g c =
    let s = c.args.self.now in let v = c.in_ok-item.item in
    left-taken g.T.Clone.is_clone s _ c.args.heads c.args.left c.args.both c.index-self-self.result v refl
    (within-left s.a.now s.left c.requires.some_left) c.index-self-self.is
    (rw c.index-self-self.is c.in_ok-item.ensures.cases)
    (c.push_reserved.ensures.items ∙ ap (λ l. l ++ v ∷ []) c.room_for_some.ensures.items)
    (sym c.is_taken-is_kept.ensures ∙ c.if-not-is_kept.false)

pub returns-clause-takes : goal.returns-clause-takes
returns-clause-takes g c =
    let room = c.in_ok-room.ensures in
    one-passed g.T.Clone.is_clone _ c.args.self.now _ c.args.heads c.is_le-2.ensures c.is_ge-2.ensures refl refl
    c.passed-self-2.ensures.place c.passed-self-3.ensures.place (
      c.requires.ready.0,
      (λ _. room-one _ _ c.push_reserved.ensures.items c.push_reserved.ensures.capacity room.some room.room),
      c.passed-self-2.ensures.within,
      c.passed-self-3.ensures.within,
    )
