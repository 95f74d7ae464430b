use Rattle.std.proofs.Common.{sym, ap, ◌∙◌, ◌≡◌, length, arith, Ok, Some, cond, not, set, is_ok, ℕ, List, rules}
use Rattle.std.specs.Ordering.{eq_by_cmp}
use mathlib.Core.Bool.{true≢false}
use Rattle.std.proofs.lemmas.List.{length-set}
use Rattle.smallvec.proofs.SmallVecLemmas.{items-with_items}
use Rattle.std.specs.List.{refill}
use Rattle.vc_merge.specs.Ascending.{member, element_at}
use Rattle.vc_sets.proofs.Searching.{place-is_ok}
use Rattle.vc_sets.proofs.Editing.{ascends-insert, element_at-insert, ascends-set, element_at-set, members-put, new-answer}
use Rattle.vc_sets.proofs.vec_set.VecSet.insert.Goals as goal

-- the list, once an element was written through its slice
written : {X : Type 0} (xs ys : List X) (i : ℕ) (x : X) → ys ≡ xs → refill (length xs) xs (set ys i x) ≡ set xs i x
written xs ys i x e =
    ap (λ l. refill (length xs) xs (set l i x)) e
    ∙ items-with_items (record { items = xs; capacity = 0 }) (set xs i x) (length-set xs i x)

-- ---- an equal element was found

pub invariant_of-self : goal.invariant_of-self
invariant_of-self g c =
    let p = rw c.as_slice.ensures at c.in-Ok.ensures in
    rw (written _ _ c.in-Ok.index c.args.that c.as_mut_slice.ensures.value)
    (ascends-set g.T.Ord.cmp g.met.T.Ord.total _ c.args.that c.in-Ok.index (p.within, p.equal) c.self.invariant)

pub returns-in-Ok : goal.returns-in-Ok
returns-in-Ok g c =
    let p = rw c.as_slice.ensures at c.in-Ok.ensures in
    let put = λ (z : g.row.T.Denot). ap (λ l. element_at g.T.Ord.cmp l z) (written _ _ c.in-Ok.index c.args.that c.as_mut_slice.ensures.value)
    ∙ element_at-set g.T.Ord.cmp g.met.T.Ord.total _ c.args.that c.in-Ok.index (p.within, p.equal) c.self.invariant z
    ∙ ap (λ l. cond (eq_by_cmp g.T.Ord.cmp c.args.that z) (Some c.args.that) (element_at g.T.Ord.cmp l z)) c.self.view_is in
    record {
      answer = ap not (place-is_ok (λ y. g.T.Ord.cmp y c.args.that) c.as_slice.result.now (Ok c.in-Ok.index) c.in-Ok.ensures
          ∙ ap (λ l. member g.T.Ord.cmp l c.args.that) (c.as_slice.ensures ∙ c.self.view_is));
      members = members-put g.T.Ord.cmp g.met.T.Ord.total _ _ c.args.that put;
      kept = put;
      known = search rules;
      room = search rules;
      err = search rules;
    }

-- ---- a new element

pub invariant_of-self-in-Err : goal.invariant_of-self-in-Err
invariant_of-self-in-Err g c =
    let p = rw c.as_slice.ensures at c.in-Err.ensures in
    ascends-insert g.T.Ord.cmp g.met.T.Ord.total c.self.inside.elements.items c.insert_at.new.list.items c.args.that
    c.in-Err.index p c.self.invariant c.in_ok-insert_at-in-Err.ensures.ok

pub returns-in_ok-insert_at-in-Err : goal.returns-in_ok-insert_at-in-Err
returns-in_ok-insert_at-in-Err g c =
    let p = rw c.as_slice.ensures at c.in-Err.ensures in
    let put = λ (z : g.row.T.Denot). rw c.self.view_is at (element_at-insert g.T.Ord.cmp g.met.T.Ord.total c.self.inside.elements.items
    c.insert_at.new.list.items c.args.that c.in-Err.index p c.in_ok-insert_at-in-Err.ensures.ok z) in
    record {
      answer = rw c.self.view_is at (new-answer g.T.Ord.cmp g.met.T.Ord.total c.self.inside.elements.items c.args.that
          c.in-Err.index p);
      members = members-put g.T.Ord.cmp g.met.T.Ord.total _ _ c.args.that put;
      kept = put;
      known = search rules;
      room = search rules;
      err = search rules;
    }

pub returns-in_err-insert_at-in-Err-clause-room : goal.returns-in_err-insert_at-in-Err-clause-room
returns-in_err-insert_at-in-Err-clause-room g c =
    λ h.
    absurd (true≢false (sym (c.insert_at.ensures.few (omega (arith, ap length c.self.view_is))) ∙ ap is_ok (c.in_err-insert_at-in-Err.was {u = tt})))

pub returns-in_err-insert_at-in-Err-clause-known : goal.returns-in_err-insert_at-in-Err-clause-known
returns-in_err-insert_at-in-Err-clause-known g c =
    let p = rw c.as_slice.ensures at c.in-Err.ensures in
    let n = rw c.self.view_is at (new-answer g.T.Ord.cmp g.met.T.Ord.total c.self.inside.elements.items c.args.that
    c.in-Err.index p) in
    λ h. absurd (true≢false (n ∙ ap not h))
