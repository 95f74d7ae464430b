-- Where no right tree is left, all left ones stay.
use Rattle.std.proofs.Common.{◌≡◌, length, refl, rules}
use Rattle.std.proofs.lemmas.List.{nil_from_length, take_rest}
use Rattle.vc_tree_edits.proofs.Passing.{end-next}
use Rattle.vc_tree_edits.proofs.comers.next_noted.Goals as goal

pub returns-in-Many : goal.returns-in-Many
returns-in-Many g c =
    let none : length c.in-Many.trees.now ≡ 0 = search rules in
    rw (c.in-Many.is, c.stop_at.ensures.passed, take_rest c.args.lefts.now c.args.at)
    (record {
      pair = end-next _ _ c.in-Many.trees.now _ _ (nil_from_length _ none) c.stop_at.ensures.rights c.stop_at.ensures.end;
      noted = refl;
    })
