-- The combine of two trees, once all events below the common front of their prefixes are done.
--     below-children        what is below is canonical children
--     front-asked, made-front        what holds of two trees, holds where their prefixes agree, and what is made there
--     combine-started        the state before the first event
--     values-asked        what may be asked of the values at the fronts
use Rattle.std.proofs.Common.{◌≡◌, ℕ, [], ◌∷◌, ◌++◌, List, Option, None, Some, sym, take, drop, arith}
use Rattle.std.proofs.lemmas.List.{take-append-drop}
use Rattle.std.specs.Cmp.{IsTotalOrder}
use Rattle.std.specs.Prelude.{IsTrue}
use Rattle.std.specs.declared.cmp.Ordering.{Ordering}
use Rattle.vc_tree_model.specs.Tree.{Tree, Forest}
use Rattle.vc_tree_model.specs.Map.{lookup, lookup_in}
use Rattle.vc_tree_model.specs.Canonical.{AreChildren, IsCanonical}
use Rattle.vc_tree_model.specs.Child.{Begins, BeginsWith, solid_child, value_at, children_at}
use Rattle.vc_tree_model.specs.Key.{same_key}
use Rattle.vc_tree_model.proofs.Joining.{within, opened-children, joined-child, trees-combined}
use Rattle.vc_tree_model.proofs.Joining.{asked-from}
use Rattle.vc_tree_model.specs.Look.{Look, values}
use Rattle.vc_tree_facing.specs.Facing.{shortened_in, Parts, IsOpened, IsFaced}
use Rattle.vc_tree_facing.specs.Made.{IsBothMadeBy}
use Rattle.vc_tree_facing.specs.Doing.{IsDoing}
use Rattle.vc_tree_facing.proofs.Next.{doing-start}

-- what stands below a place is canonical children
pub below-children : {K T V : Type 0} (cmp : K → K → Ordering) {tree : T → Tree K V} {t : Tree K V} {xs : List T} {i : ℕ} (n : ℕ)
    → IsCanonical cmp t → IsOpened tree t (drop n t.prefix) xs i → AreChildren cmp (shortened_in tree i xs)
below-children cmp {t = t} n c h =
    rw h.children (opened-children cmp t (take n t.prefix) (drop n t.prefix) (sym (take-append-drop n t.prefix)) c)

-- a node at the front where both prefixes agree begins as they do
pub front-begins : {K U : Type 0} {cmp : K → K → Ordering} (o : IsTotalOrder cmp) (n : ℕ) (p q : List K) (v : Option U)
    (f : Forest K U) (y : K) → Begins cmp y p → Begins cmp y q → Parts cmp (drop n p) (drop n q)
    → BeginsWith cmp y (solid_child (take n p) v f)
front-begins o n p q v f y a b w = grind arith

-- where the prefixes of two trees agree for n components
module _ {K V W O : Type 0} {cmp : K → K → Ordering} (o : IsTotalOrder cmp) (l : Look cmp W O) (t : Tree K V) (u : Tree K W)
    (n : ℕ) (same : IsTrue (same_key cmp (take n t.prefix) (take n u.prefix))) where
  -- what holds at each key of both, holds at each key of the nodes there
  pub front-asked : (P : Option V → O → Type 0) → ((k : List K) → P (lookup cmp t k) (l.of_tree u k)) → (k : List K)
      → P (within cmp (values cmp) (value_at t (drop n t.prefix)) (children_at t (drop n t.prefix)) (Some k))
      (within cmp l (value_at u (drop n u.prefix)) (children_at u (drop n u.prefix)) (Some k))
  front-asked P h k =
      asked-from cmp o l P t u (take n t.prefix) (drop n t.prefix) (take n u.prefix) (drop n u.prefix) k
      (sym (take-append-drop n t.prefix)) (sym (take-append-drop n u.prefix)) same (h (take n t.prefix ++ k))

  -- the node of a value and children that are made there is made of both
  pub made-front : {U : Type 0} (S : Option V → O → Option U → Type 0) → S None l.none None
      → Parts cmp (drop n t.prefix) (drop n u.prefix) → (v : Option U) (f : Forest K U) → AreChildren cmp f
      → S (value_at t (drop n t.prefix)) (l.at (value_at u (drop n u.prefix))) v
      → ((x : K) (q : List K) → S (lookup_in cmp (children_at t (drop n t.prefix)) (x ∷ q))
      (l.under (value_at u (drop n u.prefix)) (l.of_forest (children_at u (drop n u.prefix)) (x ∷ q))) (lookup_in cmp f (x ∷ q)))
      → IsBothMadeBy cmp l S t u (solid_child (take n t.prefix) v f)
  made-front S none parts v f c root below = record {
    child = joined-child cmp (take n t.prefix) v f c;
    begins = λ y a b. front-begins o n t.prefix u.prefix v f y a b parts;
    binds =
        trees-combined cmp o l S none t u (take n t.prefix) (drop n t.prefix) (take n u.prefix) (drop n u.prefix) v f
        (sym (take-append-drop n t.prefix)) (sym (take-append-drop n u.prefix)) same c root below;
  }

module _ {K V W A B : Type 0} {cmp : K → K → Ordering} {ta : A → Tree K V} {tb : B → Tree K W} {t : Tree K V} {u : Tree K W}
    {n : ℕ} {xs : List A} {i : ℕ} {ys : List B} {j : ℕ} (f : IsFaced cmp ta tb t u n xs i ys j) where
  module _ {O : Type 0} (o : IsTotalOrder cmp) (l : Look cmp W O) where
    -- what may be asked of the values at the fronts
    pub values-asked : (P : Option V → O → Type 0) → ((k : List K) → P (lookup cmp t k) (l.of_tree u k))
        → P (value_at t (drop n t.prefix)) (l.at (value_at u (drop n u.prefix)))
    values-asked P h = front-asked o l t u n f.same P h []

    -- the state before the first trees: what may be asked of both trees may be asked of what is below
    pub combine-started : {U : Type 0} (R : Option V → O → Option U → Type 0) (asks : Option V → O → Type 0) → asks None l.none
        → (P : Option V → O → Type 0)
        → ((v : Option V) (z : O) → P v (l.under (value_at u (drop n u.prefix)) z) → asks v z)
        → ((k : List K) → P (lookup cmp t k) (l.of_tree u k)) → IsCanonical cmp t → IsCanonical cmp u
        → {made : List (Tree K U)} → made ≡ [] → IsDoing cmp ta tb i j l R asks xs ys xs ys made
    combine-started R asks an P lead h ct cu =
        doing-start o an (below-children cmp n ct f.left) (below-children cmp n cu f.right)
        (rw (f.left.children, f.right.children) (λ x q. lead _ _ (front-asked o l t u n f.same P h (x ∷ q))))
