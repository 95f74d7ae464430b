-- A key that is not bound leaves the tree as it is, and any other goes.
use Rattle.std.proofs.Common.{arith, sym, ◌∙◌}
use Rattle.vc_tree_model.specs.Map.{lookup}
use Rattle.vc_tree_model.proofs.KeyLemmas.{same-itself}
use Rattle.vc_tree_model.proofs.LookupLemmas.{lookup-same}
use Rattle.vc_tree_model.proofs.ValueLemmas.{kept-refl}
use Rattle.vc_tree_removal.proofs.Going.{same-tells}
use Rattle.vc_tree_removal.proofs.Parting.{divides-value, divides-without}
use Rattle.vc_tree_removal.proofs.removal.remove.Goals as goal

pub returns-then-not-contains_key-clause-ok : goal.returns-then-not-contains_key-clause-ok
returns-then-not-contains_key-clause-ok g c =
    let t = g.T.RadixNode.tree c.args.tree.now in
    record {
      at = λ k s. grind (arith, lookup-same g.K.Ord.cmp g.met.K.Ord.total t c.args.key.now k s, c.contains_key.ensures);
      others = λ k s. kept-refl g.T.Build.keeps g.met.T.Build.keeps_refl (lookup g.K.Ord.cmp t k);
    }

pub remove_met-requires : goal.remove_met-requires
remove_met-requires g c =
    let key = c.args.key.now in
    grind (arith, same-tells g.K.Ord.cmp key key, same-itself g.K.Ord.cmp g.met.K.Ord.total key, c.contains_key.ensures)

pub returns-clause-old : goal.returns-clause-old
returns-clause-old g c =
    rw c.take_apart-value.ensures.value (divides-value g.met.K.Ord.total (g.T.RadixNode.tree c.args.tree.now)
    c.in_ok-taken.ensures.ok (sym c.contains_key.ensures ∙ c.if-not-contains_key.false))

pub returns-clause-ok : goal.returns-clause-ok
returns-clause-ok g c = divides-without c.in_ok-taken.ensures.ok _ (same-tells g.K.Ord.cmp c.args.key.now)
