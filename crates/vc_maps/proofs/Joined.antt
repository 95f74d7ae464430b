-- A merge that asks at its events builds the join of its two maps.
use Rattle.std.proofs.Common.{◌≡◌, ℕ, ◌+◌, ◌<◌, length, get_or, arith, Bool, true, false, List}
use Rattle.std.proofs.Common.{[], ◌∷◌, ◌++◌, take, cond, append-nil, Option, Some, None, Result, Ok, IsOk, ◌⊎◌, refl, sym, ◌∙◌}
use Rattle.std.proofs.lemmas.List.{take_more}
use Rattle.std.specs.Bool.{MatchBool}
use Rattle.std.specs.Option.{MatchOption}
use Rattle.std.specs.Cmp.{IsTotalOrder, tied_itself}
use Rattle.std.specs.declared.alloc.AllocError.{AllocError}
use Rattle.std.specs.declared.cmp.Ordering.{Ordering}
use Rattle.std.specs.declared.cmp.Ordering.TheVariants.{Equal}
use Rattle.vc_merge.specs.Building.{Skips}
use Rattle.vc_merge.specs.Chain.{Answer, Allows, Finishes, Stops, IsMerged}
use Rattle.vc_merge.specs.Gathering.{Appends, Adds, IsBuilding}
use Rattle.vc_merge.proofs.Builds.{appends-append, appends-none, merged-builds, merged-is_ok}
use Rattle.vc_joins.specs.declared.question.OuterJoinArg.{OuterJoinArg}
use Rattle.vc_joins.specs.declared.question.OuterJoinArg.TheVariants.{Left, Right, Both}
use Rattle.vc_joins.specs.declared.question.JoinKind.{JoinKind}
use Rattle.vc_joins.specs.Events.{by_key, AnswerAdds, AnswersEvent}
use Rattle.vc_joins.specs.Join.{IsJoin}
use Rattle.vc_joins.specs.Question.{asks, asks_left, asks_right, left_spelling, shown_key}
use Rattle.vc_joins.proofs.Events.{join-built}
use Rattle.vc_maps.specs.Asking.{AtHeads}

module _ {K V W X : Type 0} (May : OuterJoinArg K V W → Option X → Type 0) (Keeps : OuterJoinArg K V W → K → Type 0)
    {P : Type 0} (question : P → OuterJoinArg K V W) where
  -- what one question adds
  pub asked-once : (x : P) (r : Option X) (old new : List (K × X)) → May (question x) r
      → MatchOption r (new ≡ old) (λ v. (k : K) × Keeps (question x) k × (new ≡ old ++ (k, v) ∷ []))
      → Appends (λ p. AnswerAdds May Keeps (Some (question p))) (x ∷ []) old new
  asked-once x None old new m e =
      record { added = []; gathered = ([], [], (None, m, refl), refl, refl); items = e ∙ sym (append-nil old) }
  asked-once x (Some v) old new m (k, s, e) = record {
    added = (k, v) ∷ [];
    gathered = ((k, v) ∷ [], [], (Some (k, v), (m, s), refl), refl, refl);
    items = e;
  }

  -- what one more question adds, asked at the element behind the first i
  pub asked-one : (all : List P) (i : ℕ) (x : P) (r : Option X) (old mid new : List (K × X)) → i < length all
      → x ≡ get_or all i x → Appends (λ p. AnswerAdds May Keeps (Some (question p))) (take i all) old mid → May (question x) r
      → MatchOption r (new ≡ mid) (λ v. (k : K) × Keeps (question x) k × (new ≡ mid ++ (k, v) ∷ []))
      → Appends (λ p. AnswerAdds May Keeps (Some (question p))) (take (i + 1) all) old new
  asked-one all i x r old mid new h is p m e =
      rw (take_more all i x h, ← is)
      (appends-append (λ p. AnswerAdds May Keeps (Some (question p))) (take i all) (x ∷ []) old mid new p
      (asked-once x r mid new m e))

-- what holds of the first elements of two lists, where both have one
pub at-heads : {X Y : Type 0} (P Q : X → Y → Type 0) (xs : List X) (ys : List Y) (x : X) (y : Y) → AtHeads Q xs ys
    → x ≡ get_or xs 0 x → y ≡ get_or ys 0 y → P x y → AtHeads P xs ys
at-heads P Q xs ys x y h e f p = grind arith

-- what follows of the first elements of two lists
pub heads-weaker : {X Y : Type 0} (P Q : X → Y → Type 0) (xs : List X) (ys : List Y)
    → ((x : X) (y : Y) → P x y → Q x y) → AtHeads P xs ys → AtHeads Q xs ys
heads-weaker P Q xs ys f p = grind arith

module _ {K V W X M N : Type 0} (May : OuterJoinArg K V W → Option X → Type 0) (Keeps : OuterJoinArg K V W → K → Type 0)
    (kind : JoinKind) (built : M → List (K × X)) (name : M → N) (op : Allows M (K × V) (K × W)) where
  -- what a state that asks answers at each event, where `Sure` holds of each answer
  pub record IsAsking (Sure : Answer → Type 0) : Type 0 where
    pub from_a : (s t : M) (n : ℕ) (answer : Answer) → op.gives.from_a s n answer t
        → MatchBool (asks_left kind) (Sure answer × Adds built name (λ p. AnswerAdds May Keeps (Some (Left p.0 p.1)))
        (take n (op.left s)) s answer t) (Sure answer × Skips built name s answer t)
    pub from_b : (s t : M) (n : ℕ) (answer : Answer) → op.gives.from_b s n answer t
        → MatchBool (asks_right kind) (Sure answer × Adds built name (λ q. AnswerAdds May Keeps (Some (Right q.0 q.1)))
        (take n (op.right s)) s answer t) (Sure answer × Skips built name s answer t)
    pub collision : (s t : M) (answer : Answer) → op.gives.collision s answer t
        → Sure answer × AtHeads (λ p q. Adds built name (λ a. AnswerAdds May Keeps (Some a))
        (Both p.0 p.1 q.1 ∷ []) s answer t) (op.left s) (op.right s)

  -- what is asked at each of some elements, or at none
  asked-add : {P : Type 0} (question : P → OuterJoinArg K V W) (S : Type 0) (b : Bool) (ps : List P) (s t : M) (answer : Answer)
      → MatchBool b (S × Adds built name (λ p. AnswerAdds May Keeps (Some (question p))) ps s answer t)
      (S × Skips built name s answer t)
      → Adds built name (λ p. AnswerAdds May Keeps (cond b (Some (question p)) None)) ps s answer t
  asked-add question S true ps s t answer h = h.1
  asked-add question S false ps s t answer h =
      grind (arith, appends-none (λ p. AnswerAdds May Keeps None) (λ p. (None, refl, refl)) ps (built s) (built t))

  module _ (Sure : Answer → Type 0) (is : IsAsking Sure) where
    asking-builds : IsBuilding built name op (AnswersEvent kind left_spelling May Keeps)
    asking-builds = record {
      from_a = λ s t n answer h. asked-add (λ p. Left p.0 p.1) _ (asks_left kind) _ s t answer (is.from_a s t n answer h);
      from_b = λ s t n answer h. asked-add (λ q. Right q.0 q.1) _ (asks_right kind) _ s t answer (is.from_b s t n answer h);
      collision = λ s t answer h x y xs ys e f. let adds = rw (e, f) at (is.collision s t answer h).1 in grind (arith, adds);
    }

    -- such a merge that is not refused leaves the join, where keys are kept in equal spellings
    pub merged-join : {cmp : K → K → Ordering} → IsTotalOrder cmp
        → ((a : OuterJoinArg K V W) (k : K) → asks kind a ≡ true → Keeps a k → cmp (shown_key a) k ≡ Equal)
        → (s t : M) (xs : List (K × V)) (ys : List (K × W)) (zs : List (K × X)) → op.left s ≡ xs → op.right s ≡ ys
        → built s ≡ [] → (name t ≡ name s → zs ≡ built t)
        → Finishes op (by_key cmp) s t ⊎ Stops op (by_key cmp) s (Ok false) t → IsJoin cmp kind left_spelling xs ys May Keeps zs
    merged-join {cmp} total kept s t xs ys zs l r e k m =
        let b = merged-builds built name op (AnswersEvent kind left_spelling May Keeps) asking-builds (by_key cmp) s t m in
        join-built total kind left_spelling (λ i j h. tied_itself total i) May Keeps kept xs ys zs
        (rw (k b.0) (rw (l, r, e) at b.1))

  -- nor is one of a state that is never refused
  pub always-join : {cmp : K → K → Ordering} → IsTotalOrder cmp
      → ((a : OuterJoinArg K V W) (k : K) → asks kind a ≡ true → Keeps a k → cmp (shown_key a) k ≡ Equal) → IsAsking IsOk
      → (s t : M) (xs : List (K × V)) (ys : List (K × W)) (zs : List (K × X)) → op.left s ≡ xs → op.right s ≡ ys
      → built s ≡ [] → (name t ≡ name s → zs ≡ built t)
      → (result : Result (Unit {0}) AllocError) → IsMerged op (by_key cmp) s result t
      → IsJoin cmp kind left_spelling xs ys May Keeps zs
  always-join {cmp} total kept is s t xs ys zs l r e k result m =
      merged-join IsOk is total kept s t xs ys zs l r e k (merged-is_ok op (by_key cmp) s t result m
      (λ s t n answer h. grind (arith, is.from_a s t n answer h))
      (λ s t n answer h. grind (arith, is.from_b s t n answer h)) (λ s t answer h. (is.collision s t answer h).0))
