use Rattle.std.proofs.Common.{rules, refl, sym, ◌∙◌}
use Rattle.vc_joins.specs.declared.question.JoinKind.TheVariants.{Right}
use Rattle.vc_btree_maps.proofs.Staying.{none-decided, next-decided, all-decided, asks-shared, asks-alone, right-of_along}
use Rattle.vc_btree_maps.proofs.btree_map.in_place.keep_right.Goals as goal

pub keys-init : goal.keys-init
keys-init g c = search (rules, none-decided)

pub keep_at-requires : goal.keep_at-requires
keep_at-requires g c = record {
  takes = λ v e. c.requires.takes _ (asks-shared g.met.K.Ord.total (rw c.in-Some.ensures.steps at c.keys.invariant) v e);
}

pub keys-preserved : goal.keys-preserved
keys-preserved g c = next-decided g.met.K.Ord.total (rw c.in-Some.ensures.steps at c.keys.invariant) c.keep_at.ensures.kept

pub keys-preserved-then-not-keep_at : goal.keys-preserved-then-not-keep_at
keys-preserved-then-not-keep_at g c =
    next-decided g.met.K.Ord.total (rw c.in-Some.ensures.steps at c.keys.invariant) c.keep_at.ensures.kept

pub other_alone-requires : goal.other_alone-requires
other_alone-requires g c =
    c.requires.callable _ _ (asks-alone g.met.K.Ord.total (rw c.in-Some.ensures.steps at c.keys.invariant) Right refl
    (sym c.keep_at.ensures.had ∙ c.if-not-keep_at.true))

pub returns : goal.returns
returns g c = right-of_along g.met.K.Ord.total (all-decided g.met.K.Ord.total c.keys.invariant c.in-None.ensures.steps.0)
