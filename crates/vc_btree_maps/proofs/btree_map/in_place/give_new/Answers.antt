use Rattle.std.proofs.Common.{rules, refl, sym, ◌∙◌, false, true, append_assoc, append-nil}
use Rattle.std.proofs.lemmas.List.{map-append}
use Rattle.vc_joins.specs.declared.question.JoinKind.TheVariants.{Outer}
use Rattle.vc_btree_maps.proofs.Entries.{none-by, value-is_some}
use Rattle.vc_btree_maps.proofs.Giving.{none-given, next-given, next-had, next-shared, all-given, grown, after-error}
use Rattle.vc_btree_maps.proofs.Staying.{asks-alone}
use Rattle.vc_btree_maps.proofs.btree_map.in_place.give_new.Goals as goal

pub keys-init : goal.keys-init
keys-init g c =
    rw (c.into_iter-key-iterator.ensures.into_iter_gives, c.iter-key-items.ensures.pairs)
    (none-given g.met.K.Ord.total c.iter-key-items.ensures.ascends c.keys_ascend.ensures, search rules)

pub keys-preserved-in-Continue-1 : goal.keys-preserved-in-Continue-1
keys-preserved-in-Continue-1 g c =
    let i = rw c.in-Some.ensures.steps at c.keys.invariant in
    let has = sym c.contains_key.ensures ∙ c.if-contains_key.true in (
      next-shared g.met.K.Ord.total i.0 has,
      rw c.in_ok-push.ensures.items (simp (map-append, append_assoc) (rw (next-had g.met.K.Ord.total i.0 true has) at i.1)),
    )

pub returns-in_err-push-clause-grown : goal.returns-in_err-push-clause-grown
returns-in_err-push-clause-grown g c = after-error _ (grown g.met.K.Ord.total c.keys.invariant.0)

pub given-requires : goal.given-requires
given-requires g c =
    c.requires.callable _ _ (asks-alone g.met.K.Ord.total (rw c.in-Some.ensures.steps at c.keys.invariant.0) Outer refl
    (sym c.contains_key.ensures ∙ c.if-contains_key.false))

pub put_answer-requires-clause-absent : goal.put_answer-requires-clause-absent
put_answer-requires-clause-absent g c =
    none-by _ (value-is_some g.met.K.Ord.total _ _ ∙ sym c.contains_key.ensures ∙ c.if-contains_key.false)

pub keys-preserved : goal.keys-preserved
keys-preserved g c =
    let i = rw c.in-Some.ensures.steps at c.keys.invariant in
    let lacks = sym c.contains_key.ensures ∙ c.if-contains_key.false in (
      next-given g.met.K.Ord.total i.0 c.given.result lacks (search rules) c.in_ok-put_answer.ensures.put,
      rw (next-had g.met.K.Ord.total i.0 false lacks) at i.1,
    )

pub returns-in_err-put_answer-clause-grown : goal.returns-in_err-put_answer-clause-grown
returns-in_err-put_answer-clause-grown g c =
    rw c.in_err-put_answer.ensures.err (after-error _ (grown g.met.K.Ord.total c.keys.invariant.0))

pub returns-clause-given : goal.returns-clause-given
returns-clause-given g c = all-given g.met.K.Ord.total c.keys.invariant.0 c.in-None.ensures.steps.0

pub returns-clause-shared : goal.returns-clause-shared
returns-clause-shared g c = sym (append-nil _) ∙ (rw c.in-None.ensures.steps.0 at c.keys.invariant.1)
