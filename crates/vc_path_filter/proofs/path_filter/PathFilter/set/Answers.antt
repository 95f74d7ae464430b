-- Clones of rules are the rules, so those that stay are the very same. The rule of a path decides on it, and on nothing
-- outside of it.
use Rattle.std.proofs.Common.{◌≡◌, subst}
use Rattle.std.proofs.lemmas.Result.{on_ok_weaker, on_err_weaker}
use Rattle.vc_tree_model.specs.Map.{IsInserted, HaveEqualMaps}
use Rattle.vc_trees.specs.Exact.{inserted-exact, equal_maps-exact}
use Rattle.vc_path_filter.proofs.Deciding.{allowed-itself}
use Rattle.vc_path_filter.proofs.Outside.{outside}
use Rattle.vc_path_filter.proofs.path_filter.PathFilter.set.Goals as goal

pub returns-clause-ok : goal.returns-clause-ok
returns-clause-ok g c =
    on_ok_weaker c.insert.result
    (λ h. subst (λ t. IsInserted g.K.Ord.cmp (λ v w. v ≡ w) c.args.path.now c.args.allowed t c.insert.new.self)
    c.self.view_is
    (inserted-exact _ (λ v w e. e) g.K.Ord.cmp c.args.path.now c.args.allowed c.self.inside.rules c.insert.new.self h))
    c.insert.ensures.ok

pub returns-clause-err : goal.returns-clause-err
returns-clause-err g c =
    on_err_weaker c.insert.result
    (λ h. subst (λ t. HaveEqualMaps g.K.Ord.cmp (λ v w. v ≡ w) t c.insert.new.self) c.self.view_is
    (equal_maps-exact _ (λ v w e. e) g.K.Ord.cmp c.self.inside.rules c.insert.new.self h))
    c.insert.ensures.err

pub returns-clause-decides : goal.returns-clause-decides
returns-clause-decides g c =
    on_ok_weaker c.insert.result
    (allowed-itself g.K.Ord.cmp c.insert.new.self c.args.path.now c.args.allowed)
    c.insert.ensures.binds

pub returns-clause-outside : goal.returns-clause-outside
returns-clause-outside g c =
    on_ok_weaker c.insert.result
    (λ h. outside g.K.Ord.cmp _ _ c.args.path.now
    (subst (λ t. IsInserted g.K.Ord.cmp (λ v w. v ≡ w) c.args.path.now c.args.allowed t c.insert.new.self) c.self.view_is
    (inserted-exact _ (λ v w e. e) g.K.Ord.cmp c.args.path.now c.args.allowed c.self.inside.rules c.insert.new.self h)).others)
    c.insert.ensures.ok
