-- Joins that are built key by key.
use Rattle.std.proofs.Common.{arith, ◌≡◌, true, false, List, [], ◌∷◌, Option, Some, None, is_some, refl, sym, ap, subst, ◌∙◌}
use Rattle.std.specs.Cmp.{IsTotalOrder, tied_itself}
use Rattle.std.specs.Ordering.{is_eq}
use Rattle.std.specs.Option.{option_copied}
use Rattle.std.specs.BTreeMap.{is_at}
use Rattle.std.specs.declared.cmp.Ordering.{Ordering}
use Rattle.vc_joins.specs.declared.question.OuterJoinArg.{OuterJoinArg}
use Rattle.vc_joins.specs.declared.question.OuterJoinArg.TheVariants.{Right}
use Rattle.vc_joins.specs.declared.question.JoinKind.{JoinKind}
use Rattle.vc_joins.specs.declared.question.JoinKind.TheVariants as kind
use Rattle.vc_joins.specs.Answers.{seen_left, seen_right}
use Rattle.vc_joins.specs.Entries.{entry_at, value_at}
use Rattle.vc_joins.specs.Join.{ClonedKey, IsAnswered, IsAsked, IsJoin, asked_at}
use Rattle.vc_joins.specs.Question.{asks, asked, asks_left, if_asked, shown_key, left_spelling, right_spelling}
use Rattle.vc_joins.proofs.Functions.{value-entry}
use Rattle.std.proofs.lemmas.Option.{cond_some}
use Rattle.vc_btree_maps.specs.Putting.{IsAskedAndPut}
use Rattle.vc_btree_maps.proofs.Entries.{none-by, equal-at, same-entry}
use Rattle.vc_btree_maps.proofs.Passing.{IsPassed, next, next-there, next-before, passed-all}
use denote.Ref.{Bor}

-- nothing stands at the key
abbrev pub Bare : {K X : Type 0} → K → Option (K × X) → Type 0
Bare k z = z ≡ None

-- what stands at the key k is what a join makes of the two maps there
pub record IsJoined {K V W X : Type 0} (May : OuterJoinArg K V W → Option X → Type 0) (is_clone : K → K → Type 0)
    (cmp : K → K → Ordering) (join : JoinKind) (spelled : K → K → K) (xs : List (K × V)) (ys : List (K × W)) (k : K)
    (z : Option (K × X)) : Type 0 where
  pub is : IsAnswered May (ClonedKey is_clone) (asked_at cmp join spelled xs ys k) z

module _ {K V W X : Type 0} {cmp : K → K → Ordering} {May : OuterJoinArg K V W → Option X → Type 0}
    {is_clone : K → K → Type 0} {join : JoinKind} {spelled : K → K → K} {xs : List (K × V)} {ys : List (K × W)} where
  module _ (total : IsTotalOrder cmp) {U : Type 0} {Before : K → Option (K × X) → Type 0} {all rest : List (K × U)} {p : K × U}
      {now : List (K × X)} (i : IsPassed cmp Before (IsJoined May is_clone cmp join spelled xs ys) all (p ∷ rest) now)
      {a : OuterJoinArg K V W}
      (asks_it : (k : K) → is_at (cmp k) p.0 ≡ true → entry_at cmp all k ≡ Some p
      → asked_at cmp join spelled xs ys k ≡ Some a) where
    -- the question at the next key is one of the join
    pub next-asks : IsAsked cmp join spelled xs ys a
    next-asks = record { key = p.0; asks = asks_it p.0 (ap is_eq (tied_itself total p.0)) (next-there total i) }

    -- it is asked, and its answer put
    pub next-asked : {new : List (K × X)} → shown_key a ≡ p.0 → IsAskedAndPut cmp is_clone May a now new
        → IsPassed cmp Before (IsJoined May is_clone cmp join spelled xs ys) all rest new
    next-asked {new} shows done =
        next total i done.put.ascends
        (λ k f. rw (shows, f) at (done.put.at k))
        (λ k t is before. record {
          is = rw (asks_it k t is) (grind (arith, shows, done.may, rw (shows, t) at (done.put.at k)));
        })

  -- what stands at each key makes the join
  pub all-joined : {U : Type 0} {Before : K → Option (K × X) → Type 0} {all left : List (K × U)} {now : List (K × X)}
      → IsPassed cmp Before (IsJoined May is_clone cmp join spelled xs ys) all left now → left ≡ []
      → IsJoin cmp join spelled xs ys May (ClonedKey is_clone) now
  all-joined i none = record { ascends = i.ascends; at = λ k. (passed-all i none k).is }

-- a left join makes what an outer one does, but at the keys of the right map alone
pub left-joined : {K V W X : Type 0} {May : OuterJoinArg K V W → Option X → Type 0} {is_clone : K → K → Type 0}
    {cmp : K → K → Ordering} {xs : List (K × V)} {ys : List (K × W)} {k : K} {z : Option (K × X)}
    → IsJoined May is_clone cmp kind.Left left_spelling xs ys k z
    → (is_some (entry_at cmp xs k) ≡ false → entry_at cmp ys k ≡ None)
    → IsJoined May is_clone cmp kind.Outer left_spelling xs ys k z
left-joined b h = record { is = grind (arith, b.is, h) }

module _ {K V W : Type 0} {cmp : K → K → Ordering} (total : IsTotalOrder cmp) (xs : List (K × V)) (ys : List (K × W)) where
  -- what a left join asks at a key of the left map
  pub left-asked : (key : Bor K) (value : Bor V) (other : Option (Bor W)) → option_copied other ≡ value_at cmp ys key.now
      → (k : K) → is_at (cmp k) key.now ≡ true → entry_at cmp xs k ≡ Some (key.now, value.now)
      → asked_at cmp kind.Left left_spelling xs ys k ≡ Some (seen_left key value other)
  left-asked key value other is k t e =
      grind (arith, same-entry total k key.now ys (equal-at total k key.now t), value-entry cmp ys key.now)

  module _ (key : Bor K) (value : Option (Bor V)) (other : Bor W) (is : option_copied value ≡ value_at cmp xs key.now) where
    -- what a join that shows keys as the right map has them asks at one of those
    pub right-asked : (join : JoinKind) (k : K) → is_at (cmp k) key.now ≡ true → entry_at cmp ys k ≡ Some (key.now, other.now)
        → asked_at cmp join right_spelling xs ys k ≡ if_asked join (seen_right key value other)
    right-asked join k t e =
        grind (arith, same-entry total k key.now xs (equal-at total k key.now t), value-entry cmp xs key.now)

    -- whether the left map has the key
    pub left-has : (k : K) → is_at (cmp k) key.now ≡ true → is_some (entry_at cmp xs k) ≡ is_some value
    left-has k t =
        grind (arith, same-entry total k key.now xs (equal-at total k key.now t), value-entry cmp xs key.now)

    -- an inner join asks nothing where the left map lacks the key
    pub inner-silent : is_some value ≡ false → (k : K) → is_at (cmp k) key.now ≡ true
        → asked_at cmp kind.Inner right_spelling xs ys k ≡ None
    inner-silent none k t = grind (arith, left-has k t)

    -- there an outer join asks of the right map alone
    pub alone-asked : is_some value ≡ false → (k : K) → is_at (cmp k) key.now ≡ true
        → entry_at cmp ys k ≡ Some (key.now, other.now)
        → asked_at cmp kind.Outer left_spelling xs ys k ≡ Some (Right key.now other.now)
    alone-asked none k t e = rw (none-by (entry_at cmp xs k) (left-has k t ∙ none), e) refl

    -- where the left join has put nothing
    pub alone-bare : is_some value ≡ false → {X : Type 0} {May : OuterJoinArg K V W → Option X → Type 0}
        {is_clone : K → K → Type 0} {After : K → Option (K × X) → Type 0} {rest : List (K × W)} {now : List (K × X)}
        → IsPassed cmp (IsJoined May is_clone cmp kind.Left left_spelling xs ys) After ys ((key.now, other.now) ∷ rest) now
        → entry_at cmp now key.now ≡ None
    alone-bare none i =
        let lacks = none-by (entry_at cmp xs key.now) (left-has key.now (ap is_eq (tied_itself total key.now)) ∙ none) in
        rw (lacks, next-there total i) at (next-before total i).is

    -- and at a key of both maps it makes what a left join does
    pub shared-joined : is_some value ≡ true → {X : Type 0} {May : OuterJoinArg K V W → Option X → Type 0}
        {is_clone : K → K → Type 0} {k : K} {z : Option (K × X)} → is_at (cmp k) key.now ≡ true
        → IsJoined May is_clone cmp kind.Left left_spelling xs ys k z
        → IsJoined May is_clone cmp kind.Outer left_spelling xs ys k z
    shared-joined some {k = k} t b = left-joined b (λ f. let h : true ≡ false = sym (left-has k t ∙ some) ∙ f in cc)

-- ---- which kind asks where, and which key it shows

module _ {K V W : Type 0} where
  pub left-shown : (key : Bor K) (value : Bor V) (other : Option (Bor W)) → shown_key (seen_left key value other) ≡ key.now
  left-shown key value other = grind arith

  pub right-shown : (key : Bor K) (value : Option (Bor V)) (other : Bor W) → shown_key (seen_right key value other) ≡ key.now
  right-shown key value other = grind arith

  -- no question is asked at a key of the right map alone
  pub left-silent : (q : Option (K × W)) → asked {V = V} kind.Left left_spelling None q ≡ None
  left-silent q = grind arith

  -- nor at a key of the left map alone
  pub right-silent : (join : JoinKind) → asks_left join ≡ false → (p : Option (K × V))
      → asked {W = W} join right_spelling p None ≡ None
  right-silent join e p = grind arith

  pub right-asks : (key : Bor K) (value : Option (Bor V)) (other : Bor W)
      → if_asked kind.Right (seen_right key value other) ≡ Some (seen_right key value other)
  right-asks key value other = grind arith

  pub inner-asks : (key : Bor K) (value : Option (Bor V)) (other : Bor W) → is_some value ≡ true
      → if_asked kind.Inner (seen_right key value other) ≡ Some (seen_right key value other)
  inner-asks key value other t = grind arith

-- ---- what is asked is asked by the kind

module _ {K V W : Type 0} (join : JoinKind) (spelled : K → K → K) where
  asked-if : (b a : OuterJoinArg K V W) → if_asked join b ≡ Some a → asks {V = V} {W = W} join a ≡ true
  asked-if b a h = let (t, same) = cond_some (asks join b) b a h in subst (λ q. asks {V = V} {W = W} join q ≡ true) same t

  asked-asks : (p : Option (K × V)) (q : Option (K × W)) (a : OuterJoinArg K V W) → asked join spelled p q ≡ Some a
      → asks {V = V} {W = W} join a ≡ true
  asked-asks p q a h = grind (arith, asked-if)

  -- a question that a join asks is one of its kind
  pub asked-by_kind : (cmp : K → K → Ordering) (xs : List (K × V)) (ys : List (K × W)) (a : OuterJoinArg K V W)
      → IsAsked cmp join spelled xs ys a → asks {V = V} {W = W} join a ≡ true
  asked-by_kind cmp xs ys a h = asked-asks (entry_at cmp xs h.key) (entry_at cmp ys h.key) a h.asks
