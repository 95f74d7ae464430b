-- Clones of rules are the rules: what is handed up is the rule that stood there, and those that stay are the very same.
use Rattle.std.proofs.Common.{◌≡◌, List, Bool, subst}
use Rattle.std.proofs.lemmas.Result.{IfOk-weaker, on_ok_weaker, on_err_weaker}
use Rattle.vc_tree_model.specs.Key.{same_key}
use Rattle.vc_tree_model.specs.Map.{lookup, HaveEqualMaps}
use Rattle.vc_tree_removal.specs.Without.{IsWithout}
use Rattle.vc_trees.specs.Exact.{handed-exact, without-exact, equal_maps-exact}
use Rattle.vc_path_filter.proofs.Outside.{outside}
use Rattle.vc_path_filter.proofs.path_filter.PathFilter.remove.Goals as goal

pub returns-clause-old : goal.returns-clause-old
returns-clause-old g c =
    IfOk-weaker c.remove.result _ _
    (λ rule h. subst (λ t. rule ≡ lookup g.K.Ord.cmp t c.args.path.now) c.self.view_is
    (handed-exact _ (λ v w e. e) (lookup g.K.Ord.cmp c.self.inside.rules c.args.path.now) rule h))
    c.remove.ensures.old

pub returns-clause-ok : goal.returns-clause-ok
returns-clause-ok g c =
    on_ok_weaker c.remove.result
    (λ h. subst (λ t. IsWithout g.K.Ord.cmp (λ v w. v ≡ w) c.args.path.now (lookup g.K.Ord.cmp t)
    (lookup g.K.Ord.cmp c.remove.new.self))
    c.self.view_is
    (without-exact _ (λ v w e. e) (same_key g.K.Ord.cmp c.args.path.now) (lookup g.K.Ord.cmp c.self.inside.rules)
    (lookup g.K.Ord.cmp c.remove.new.self) h))
    c.remove.ensures.ok

pub returns-clause-outside : goal.returns-clause-outside
returns-clause-outside g c =
    on_ok_weaker c.remove.result
    (λ h. outside g.K.Ord.cmp _ _ c.args.path.now
    (subst (λ t. IsWithout g.K.Ord.cmp (λ v w. v ≡ w) c.args.path.now (lookup g.K.Ord.cmp t)
    (lookup g.K.Ord.cmp c.remove.new.self)) c.self.view_is
    (without-exact _ (λ v w e. e) (same_key g.K.Ord.cmp c.args.path.now) (lookup g.K.Ord.cmp c.self.inside.rules)
    (lookup g.K.Ord.cmp c.remove.new.self) h)).others)
    c.remove.ensures.ok

pub returns-clause-absent : goal.returns-clause-absent
returns-clause-absent g c = rw c.self.view_is at c.remove.ensures.absent

pub returns-clause-err : goal.returns-clause-err
returns-clause-err g c =
    on_err_weaker c.remove.result
    (λ h. subst (λ t. HaveEqualMaps g.K.Ord.cmp (λ v w. v ≡ w) t c.remove.new.self) c.self.view_is
    (equal_maps-exact _ (λ v w e. e) g.K.Ord.cmp c.self.inside.rules c.remove.new.self h))
    c.remove.ensures.err
