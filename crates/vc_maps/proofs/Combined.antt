-- Maps that take in all of another map: what each event adds, and what is at each key in the end.
use Rattle.std.proofs.Common.{◌≡◌, true, List, [], ◌∷◌, Option, Some, Ok, Err, IfOk, refl, arith}
use Rattle.std.specs.List.{AllZip}
use Rattle.std.specs.Option.{option_or}
use Rattle.std.specs.declared.cmp.Ordering.{Ordering}
use Rattle.vc_merge.specs.Building.{Extends, Skips}
use Rattle.vc_merge.specs.Chain.{Answer}
use Rattle.vc_merge.specs.Gathering.{Adds, Gathers, Appends}
use Rattle.vc_joins.specs.declared.question.OuterJoinArg.{OuterJoinArg}
use Rattle.vc_joins.specs.declared.question.OuterJoinArg.TheVariants.{Left, Right, Both}
use Rattle.vc_joins.specs.declared.question.JoinKind.TheVariants.{Outer}
use Rattle.vc_joins.specs.Entries.{value_at}
use Rattle.vc_joins.specs.Join.{IsJoin, MovedKey}
use Rattle.vc_joins.specs.Question.{left_spelling}
use Rattle.vc_joins.proofs.Functions.{joins-of_functions, value-entry}
use Rattle.vc_maps.specs.Combining.{CanCombine, Combines, IsCombinedBy}

module _ {M X Z N : Type 0} (built : M → List Z) (name : M → N) (gives : X → List Z → Type 0) where
  -- what was added before a call that only passes something
  pub adds-before : (xs : List X) (s m t : M) (answer : Answer) → Appends gives xs (built s) (built m) → name m ≡ name s
      → Skips built name m answer t → Adds built name gives xs s answer t
  adds-before xs s m t answer p e h = grind arith

module _ {M Z N : Type 0} (built : M → List Z) (name : M → N) (gives : Z → List Z → Type 0)
    (itself : (x : Z) → gives x (x ∷ [])) where
  gathered : (xs ys : List Z) → AllZip (λ x y. x ≡ y) xs ys → Gathers gives xs ys
  gathered [] [] p = refl
  gathered (x ∷ xs) (y ∷ ys) p = (y ∷ [], ys, rw p.0 (itself y), gathered xs ys p.1, refl)
  gathered xs ys p = absurd p

  -- what was moved, where each element gives itself
  pub adds-moved : (xs : List Z) (s t : M) (answer : Answer) → IfOk answer (λ go_on. (go_on ≡ true) × (name t ≡ name s)
      × Extends (λ x y. x ≡ y) xs (built s) (built t)) → Adds built name gives xs s answer t
  adds-moved xs s t (Ok b) h =
      (h.0, h.1, record { added = h.2.added; gathered = gathered xs h.2.added h.2.come; items = h.2.items })
  adds-moved xs s t (Err r) h = tt

module _ {K V : Type 0} where
  -- the closure may be called at a question that is asked
  pub can-combine : (can : V → V → Type 0) (a : OuterJoinArg K V V) → ((k : K) (v w : V) → a ≡ Both k v w → can v w)
      → CanCombine can a
  can-combine can a h = grind arith

-- ---- values

module _ {K V : Type 0} (g : V → V → V) where
  -- the one answer to each question
  abbrev answer_of : OuterJoinArg K V V → Option V
  answer_of (Left k v) = Some v
  answer_of (Right k w) = Some w
  answer_of (Both k v w) = Some (g v w)

  one-answer : (gives : V → V → V → Type 0) (a : OuterJoinArg K V V) (r : Option V)
      → ((k : K) (v w x : V) → a ≡ Both k v w → gives v w x → x ≡ g v w) → Combines gives a r → r ≡ answer_of a
  one-answer gives a r one m = grind arith

module _ {K V : Type 0} (cmp : K → K → Ordering) (xs ys zs : List (K × V)) where
  -- where the closure gives one answer to the two values of each key, that stands there
  pub combined-by : (gives : V → V → V → Type 0) → IsJoin cmp Outer left_spelling xs ys (Combines gives) MovedKey zs
      → (g : V → V → V) → IsCombinedBy cmp xs ys gives g zs
  combined-by gives j g one k =
      let here = joins-of_functions cmp (Combines gives) MovedKey Outer left_spelling xs ys zs j (answer_of g)
      (λ a r i m. one-answer g gives a r (λ l v w x e. one l v w x (rw e at i)) m) k in
      grind (arith, here, value-entry cmp xs k, value-entry cmp ys k)

  -- where the value of the right takes the place of the left one
  pub right-values : IsJoin cmp Outer left_spelling xs ys (Combines (λ v w x. x ≡ w)) MovedKey zs → (k : K)
      → value_at cmp zs k ≡ option_or (value_at cmp ys k) (value_at cmp xs k)
  right-values j k = grind (arith, combined-by (λ v w x. x ≡ w) j (λ v w. w) (λ l v w x i e. e) k)
