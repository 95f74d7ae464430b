-- What a merge builds, where each event adds to the list that is built what it gives.
use Rattle.std.specs.Prelude.{◌≡◌, ℕ, Bool, true, false, List, [], ◌∷◌, ◌++◌, take, IfOk, ◌⊎◌}
use Rattle.std.specs.declared.cmp.Ordering.{Ordering}
use Rattle.vc_merge.specs.Script.{Event, left_alone, right_alone, collision, IsScript}
use Rattle.vc_merge.specs.Chain.{Answer, Allows}

-- each of xs in turn gives some elements, and together these are zs
abbrev pub Gathers : {X Z : Type 0} → (X → List Z → Type 0) → List X → List Z → Type 0
Gathers gives [] zs = zs ≡ []
Gathers {X} {Z} gives (x ∷ xs) zs = (first : List Z) × (rest : List Z) × gives x first × Gathers gives xs rest × (zs ≡ first ++ rest)

-- one element is given if `taken`, one that `gives` allows, and none otherwise
abbrev pub GivesIf : {Z : Type 0} → Bool → (Z → Type 0) → List Z → Type 0
GivesIf {Z} true gives zs = (z : Z) × gives z × (zs ≡ z ∷ [])
GivesIf false gives zs = zs ≡ []

-- new has the elements of old, and then what xs give
pub record Appends {X Z : Type 0} (gives : X → List Z → Type 0) (xs : List X) (old new : List Z) : Type 0 where
  pub added : List Z
  pub gathered : Gathers gives xs added
  pub items : new ≡ old ++ added

-- what two lists make: new has the elements of old, and then what the events of their script give
pub record IsBuilt {A B Z : Type 0} (order : A ⊎ B → A ⊎ B → Ordering) (gives : Event A B → List Z → Type 0) (xs : List A) (ys : List B) (old new : List Z) : Type 0 where
  pub events : List (Event A B)
  pub script : IsScript order xs ys events
  pub appends : Appends gives events old new

-- a state builds the list `built`; its `name` is that of the reference through which it does, so the owner's list is known at the end
module _ {M Z N : Type 0} (built : M → List Z) (name : M → N) where
  -- a call that is not refused continues, and appends what xs give
  abbrev pub Adds : {X : Type 0} → (X → List Z → Type 0) → List X → M → Answer → M → Type 0
  Adds gives xs s answer t = IfOk answer (λ go_on. (go_on ≡ true) × (name t ≡ name s) × Appends gives xs (built s) (built t))

  -- an operation where each event, unless it is refused, continues and appends what it gives
  pub record IsBuilding {A B : Type 0} (op : Allows M A B) (gives : Event A B → List Z → Type 0) : Type 0 where
    pub from_a : (s t : M) (n : ℕ) (answer : Answer) → op.gives.from_a s n answer t
        → Adds (λ x. gives (left_alone x)) (take n (op.left s)) s answer t
    pub from_b : (s t : M) (n : ℕ) (answer : Answer) → op.gives.from_b s n answer t
        → Adds (λ y. gives (right_alone y)) (take n (op.right s)) s answer t
    pub collision : (s t : M) (answer : Answer) → op.gives.collision s answer t
        → (x : A) (y : B) (xs : List A) (ys : List B) → op.left s ≡ x ∷ xs → op.right s ≡ y ∷ ys
        → Adds gives (collision x y ∷ []) s answer t
