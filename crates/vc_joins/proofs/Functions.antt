-- At which keys a join asks, and joins of closures that give one answer to each question.
use Rattle.std.proofs.Common.{◌≡◌, ◌↔◌, Bool, List, [], ◌∷◌, Option, Some, IsSome, ◌⊎◌}
use Rattle.std.proofs.Common.{refl, arith}
use Rattle.std.specs.BTreeMap.{is_at}
use Rattle.std.specs.Map.{lookup, lookup_entry}
use Rattle.std.specs.Option.{option_map, option_and_then}
use Rattle.std.specs.declared.cmp.Ordering.{Ordering}
use Rattle.vc_joins.specs.declared.question.OuterJoinArg.{OuterJoinArg}
use Rattle.vc_joins.specs.declared.question.JoinKind.TheVariants.{Outer, Left, Right, Inner}
use Rattle.vc_joins.specs.Entries.{entry_at, value_at}
use Rattle.vc_joins.specs.Join.{IsAnswered}
use Rattle.vc_joins.specs.Laws.{KindsInWords, JoinsOfFunctions}
use Rattle.vc_joins.specs.Question.{asked}

module _ {K X : Type 0} where
  value-found : (test : K → Bool) (es : List (K × X)) → lookup test es ≡ option_map (λ p. p.1) (lookup_entry test es)
  value-found test [] = refl
  value-found test (e ∷ es) = grind (arith, value-found test es)

  -- the value at a key is that of the pair there
  pub value-entry : (cmp : K → K → Ordering) (es : List (K × X)) (k : K) → value_at cmp es k
      ≡ option_map (λ p. p.1) (entry_at cmp es k)
  value-entry cmp es k = value-found (is_at (cmp k)) es

module _ {K V W X : Type 0} (cmp : K → K → Ordering) where
  -- what stands at a key is the one answer to what is asked there
  answer-value : (May : OuterJoinArg K V W → Option X → Type 0) (Keeps : OuterJoinArg K V W → K → Type 0)
      (h : OuterJoinArg K V W → Option X) (a : Option (OuterJoinArg K V W)) (z : Option (K × X))
      → ((b : OuterJoinArg K V W) (r : Option X) → a ≡ Some b → May b r → r ≡ h b) → IsAnswered May Keeps a z
      → option_map (λ p. p.1) z ≡ option_and_then h a
  answer-value May Keeps h a z one s = grind arith

  pub joins-of_functions : (May : OuterJoinArg K V W → Option X → Type 0) (Keeps : OuterJoinArg K V W → K → Type 0)
      → JoinsOfFunctions K V W cmp May Keeps
  joins-of_functions May Keeps kind spelled xs ys zs j h one k = grind (arith, value-entry, answer-value)

module _ {K V W : Type 0} (cmp : K → K → Ordering) where
  outer-asks : (spelled : K → K → K) (p : Option (K × V)) (q : Option (K × W))
      → IsSome (asked Outer spelled p q) ↔ (IsSome (option_map (λ p. p.1) p) ⊎ IsSome (option_map (λ p. p.1) q))
  outer-asks spelled p q = grind arith

  left-asks : (spelled : K → K → K) (p : Option (K × V)) (q : Option (K × W))
      → IsSome (asked Left spelled p q) ↔ IsSome (option_map (λ p. p.1) p)
  left-asks spelled p q = grind arith

  right-asks : (spelled : K → K → K) (p : Option (K × V)) (q : Option (K × W))
      → IsSome (asked Right spelled p q) ↔ IsSome (option_map (λ p. p.1) q)
  right-asks spelled p q = grind arith

  inner-asks : (spelled : K → K → K) (p : Option (K × V)) (q : Option (K × W))
      → IsSome (asked Inner spelled p q) ↔ (IsSome (option_map (λ p. p.1) p) × IsSome (option_map (λ p. p.1) q))
  inner-asks spelled p q = grind arith

  pub kinds-are_as_named : KindsInWords K V W cmp
  kinds-are_as_named = grind (arith, value-entry, outer-asks, left-asks, right-asks, inner-asks)
