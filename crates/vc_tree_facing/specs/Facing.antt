-- Two trees side by side: what is below the common front of their prefixes. No public clause cites
-- these words.
use Rattle.std.specs.Prelude.{◌≡◌, ℕ, ◌+◌, ◌≤◌, List, [], ◌∷◌, map, length, take, drop, Option, Some}
use Rattle.std.specs.Prelude.{slice_get, IsTrue, IsFalse, ⊤}
use Rattle.std.specs.Cmp.{IsTotalOrder}
use Rattle.std.specs.List.{AllByRecursion}
use Rattle.std.specs.Ordering.{is_eq}
use Rattle.std.specs.declared.cmp.Ordering.{Ordering}
use Rattle.vc_tree_model.specs.Key.{same_key}
use Rattle.vc_tree_model.specs.Tree.{Tree, Forest, forest, shortened, nodes}
use Rattle.vc_tree_model.specs.Canonical.{IsCanonical}
use Rattle.vc_tree_model.specs.Child.{children_at}
use Rattle.vc_tree_nodes.specs.Parting.{Agree}

-- trees without the first n components of their prefixes, as a list of children
abbrev pub shortened_in : {T K V : Type 0} → (T → Tree K V) → ℕ → List T → Forest K V
shortened_in tree n xs = forest (map (λ x. shortened n (tree x)) xs)

-- one where nothing is left
abbrev pub ended : {K : Type 0} → List K → ℕ
ended [] = 1
ended (x ∷ rest) = 0

-- the component is the first one that is left, if some are
abbrev pub GoesOn : {K : Type 0} → List K → Option K → Type 0
GoesOn [] o = ⊤
GoesOn (x ∷ rest) o = o ≡ Some x

-- below the place where `rest` is left of the prefix of t are xs, without their first components:
-- the children of t where nothing is left, and otherwise the tree itself
pub record IsOpened {T K V : Type 0} (tree : T → Tree K V) (t : Tree K V) (rest : List K) (xs : List T) (from : ℕ) : Type 0 where
  pub children : shortened_in tree from xs ≡ children_at t rest
  pub smaller : AllByRecursion (λ x. nodes (tree x) + ended rest ≤ nodes t) xs
  pub first : AllByRecursion (λ x. GoesOn rest (slice_get (tree x).prefix from)) xs

-- the keys diverge at once: one has ended, or their first components differ
abbrev pub Parts : {K : Type 0} → (K → K → Ordering) → List K → List K → Type 0
Parts cmp [] q = ⊤
Parts cmp (x ∷ p) [] = ⊤
Parts cmp (x ∷ p) (y ∷ q) = IsFalse (is_eq (cmp x y))

-- the prefixes of t and u agree for n components and diverge there; and what is below
pub record IsFaced {K V W A B : Type 0} (cmp : K → K → Ordering) (ta : A → Tree K V) (tb : B → Tree K W) (t : Tree K V)
    (u : Tree K W) (n : ℕ) (xs : List A) (i : ℕ) (ys : List B) (j : ℕ) : Type 0 where
  pub left_within : n ≤ length t.prefix
  pub right_within : n ≤ length u.prefix
  pub same : IsTrue (same_key cmp (take n t.prefix) (take n u.prefix))
  pub parts : Parts cmp (drop n t.prefix) (drop n u.prefix)
  pub left : IsOpened ta t (drop n t.prefix) xs i
  pub right : IsOpened tb u (drop n u.prefix) ys j

-- the prefixes of two canonical trees, t without its first i components and u without its first j,
-- agree for n more and diverge there
pub record IsSplit {K V W : Type 0} (cmp : K → K → Ordering) (t : Tree K V) (i : ℕ) (u : Tree K W) (j n : ℕ) : Type 0 where
  pub total : IsTotalOrder cmp
  pub left : IsCanonical cmp t
  pub right : IsCanonical cmp u
  pub agree : Agree cmp (drop i t.prefix) (drop j u.prefix) n
  pub parts : Parts cmp (drop n (drop i t.prefix)) (drop n (drop j u.prefix))
