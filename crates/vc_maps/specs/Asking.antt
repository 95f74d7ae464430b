-- What a join may ask of what is left of two maps. No public clause cites these words.
use Rattle.std.specs.Prelude.{◌≡◌, ℕ, Bool, true, false, List, [], ◌∷◌, ⊤}
use Rattle.std.specs.List.{AllByRecursion}
use Rattle.std.specs.declared.cmp.Ordering.{Ordering}
use Rattle.std.specs.declared.cmp.Ordering.TheVariants.{Less, Equal, Greater}
use Rattle.vc_merge.specs.Chain.{Answer}
use Rattle.vc_merge.specs.Script.{Event, IsScript}
use Rattle.vc_joins.specs.declared.question.OuterJoinArg.{OuterJoinArg}
use Rattle.vc_joins.specs.declared.question.OuterJoinArg.TheVariants.{Left, Right, Both}
use Rattle.vc_joins.specs.declared.question.JoinKind.{JoinKind}
use Rattle.vc_joins.specs.Events.{by_key, question_of}
use Rattle.vc_joins.specs.Join.{IsAsked}
use Rattle.vc_joins.specs.Question.{asks, asks_left, asks_right, left_spelling}

-- both lists have a first element, and P holds of these
abbrev pub AtHeads : {X Y : Type 0} → (X → Y → Type 0) → List X → List Y → Type 0
AtHeads P [] ys = ⊥
AtHeads P (x ∷ xs) [] = ⊥
AtHeads P (x ∷ xs) (y ∷ ys) = P x y

-- the question at two first pairs whose keys compare as given
abbrev pub question_at : {K V W : Type 0} → Ordering → K × V → K × W → OuterJoinArg K V W
question_at Less p q = Left p.0 p.1
question_at Equal p q = Both p.0 p.1 q.1
question_at Greater p q = Right q.0 q.1

-- whether a join asks at two first pairs whose keys compare as given
abbrev pub asks_at : JoinKind → Ordering → Bool
asks_at kind Less = asks_left kind
asks_at kind Equal = true
asks_at kind Greater = asks_right kind

module _ {M : Type 0} (asks_a asks_b : M → ℕ → Answer → M → Type 0) (asks_both : M → Answer → M → Type 0) where
  -- one question is asked, at two first pairs whose keys compare as given
  abbrev pub AsksOne : Ordering → M → Answer → M → Type 0
  AsksOne Less s answer t = asks_a s 1 answer t
  AsksOne Equal s answer t = asks_both s answer t
  AsksOne Greater s answer t = asks_b s 1 answer t

-- the lesser one of two first pairs is passed, where nothing is asked
abbrev pub PassesOne : {M : Type 0} → (M → ℕ → Bool → Answer → M → Type 0) → (M → ℕ → Answer → M → Type 0) → Ordering
    → M → Answer → M → Type 0
PassesOne advances_a skips_b Less s answer t = advances_a s 1 false answer t
PassesOne advances_a skips_b Equal s answer t = ⊤
PassesOne advances_a skips_b Greater s answer t = skips_b s 1 answer t

module _ {K V W : Type 0} (cmp : K → K → Ordering) (kind : JoinKind) (Takes : OuterJoinArg K V W → Type 0) where
  -- each question that the join of two lists asks may be asked: one of its kind, at a key of theirs
  abbrev pub TakesEach : List (K × V) → List (K × W) → Type 0
  TakesEach xs ys = (a : OuterJoinArg K V W) → IsAsked cmp kind left_spelling xs ys a → asks kind a ≡ true → Takes a

  -- the question of an event may be asked, where the join asks it
  abbrev pub MayAsk : Event (K × V) (K × W) → Type 0
  MayAsk e = asks kind (question_of left_spelling e) ≡ true → Takes (question_of left_spelling e)

  -- each question of the script of two lists may be asked, where the join asks it
  pub record CanAsk (xs : List (K × V)) (ys : List (K × W)) : Type 0 where
    pub each : (es : List (Event (K × V) (K × W))) → IsScript (by_key cmp) xs ys es → AllByRecursion MayAsk es
