-- Joins in place: what is at each key when a value is decided, and after all of them.
use Rattle.std.proofs.Common.{arith, ◌≡◌, Bool, true, false, List, [], ◌∷◌, ◌++◌, Option, Some, None, is_some}
use Rattle.std.proofs.Common.{refl, sym, ap, ◌∙◌, cond, ℕ, ◌<◌, ◌+◌, length, get_or, drop, map, add-one, drop-cons}
use Rattle.std.specs.Cmp.{IsTotalOrder}
use Rattle.std.specs.List.Sorted.{IsStrictlySortedBy}
use Rattle.std.specs.Map.{set_value, remove_entry}
use Rattle.std.specs.Map.Iter.{deref_pair}
use Rattle.std.specs.Map.Calls.{RetainsPairs}
use Rattle.std.specs.Option.{MatchOption, option_map}
use Rattle.std.specs.BTreeMap.{is_at}
use Rattle.std.specs.declared.cmp.Ordering.{Ordering}
use Rattle.std.specs.declared.cmp.Ordering.TheVariants.{Equal}
use Rattle.vc_joins.specs.declared.question.OuterJoinArg.{OuterJoinArg}
use Rattle.vc_joins.specs.declared.question.OuterJoinArg.TheVariants.{Right, Both}
use Rattle.vc_joins.specs.declared.question.JoinKind.{JoinKind}
use Rattle.vc_joins.specs.declared.question.JoinKind.TheVariants as kind
use Rattle.vc_joins.specs.Entries.{AscendsByKey, entry_at, value_at}
use Rattle.vc_joins.specs.Join.{IsAnswered, IsAsked, IsJoin, MovedKey}
use Rattle.vc_joins.specs.Question.{asked, asks_right, left_spelling, right_spelling}
use Rattle.vc_joins.proofs.Functions.{value-entry}
use Rattle.vc_btree_maps.specs.Keeping.{at_pair, if_kept, OrStays, OrDropped, StayedKey}
use denote.Ref.{Bor}
use Rattle.vc_btree_maps.specs.Stages.{IsKeptAt, IsKept, IsKeptAlong}
use Rattle.vc_btree_maps.proofs.Entries.{chosen, none-by, equal-at, same-entry, own-key, at-own, none-above, found}
use Rattle.vc_btree_maps.proofs.Entries.{value-is_some}
use Rattle.vc_btree_maps.proofs.Entries.{standing, written, removed}
use Rattle.vc_btree_maps.proofs.Asking.{left-silent}
use Rattle.vc_btree_maps.proofs.Passing.{IsPassed, start, next, next-there, next-before, passed-all}

-- ---- one value is decided

module _ {K V W : Type 0} {cmp : K → K → Ordering} (total : IsTotalOrder cmp)
    (May : OuterJoinArg K V W → Option V → Type 0) (key : K) (w : W) where
  -- what stands at the key is what may stay of the pair there, and nothing else changes
  decided : {old new : List (K × V)} (p : K × V) (r : Option V) → AscendsByKey cmp new → entry_at cmp old key ≡ Some p
      → May (Both key p.1 w) r
      → ((k : K) → entry_at cmp new k ≡ cond (is_at (cmp k) key) (option_map (λ v. (p.0, v)) r) (entry_at cmp old k))
      → IsKept cmp May key w old new
  decided {old} {new} p r s here m is = record {
    ascends = s;
    at = λ k. chosen (is_at (cmp k) key)
        (λ t. rw (same-entry total k key old (equal-at total k key t), here) (r, m, rw t at (is k)))
        (λ f. rw f at (is k));
  }

  -- the value that was written stays
  pub kept-written : {old new : List (K × V)} {v left : V} → AscendsByKey cmp new → value_at cmp old key ≡ Some v
      → May (Both key v w) (Some left) → new ≡ set_value (is_at (cmp key)) old left
      → IsKept cmp May key w old new
  kept-written {old} {new} {v} {left} s e m is =
      let (p, here, same) = found total key old v e in
      decided p (Some left) s here (rw same m) (λ k. ap (λ l. entry_at cmp l k) is ∙ written total k key old p left here)

  -- or it is taken out
  pub kept-removed : {old mid new : List (K × V)} {v : V} (left : V) → AscendsByKey cmp mid → AscendsByKey cmp new
      → value_at cmp old key ≡ Some v → May (Both key v w) None
      → mid ≡ set_value (is_at (cmp key)) old left → new ≡ remove_entry (is_at (cmp key)) mid → IsKept cmp May key w old new
  kept-removed {old} {mid} {new} {v} left t s e m was is =
      let (p, here, same) = found total key old v e in
      decided p None s here (rw same m)
      (λ k. ap (λ l. entry_at cmp l k) is ∙ removed total k key mid t
      ∙ rw was (rw (written total k key old p left here) (grind arith)))

  -- there is no value
  pub kept-nothing : (old new : List (K × V)) → AscendsByKey cmp new → value_at cmp old key ≡ None → new ≡ old
      → IsKept cmp May key w old new
  kept-nothing old new s e is = record {
    ascends = s;
    at = λ k. grind (arith, equal-at total k key, same-entry total k key old, value-is_some total key old);
  }

-- ---- what `retain` leaves

module _ {K V : Type 0} {cmp : K → K → Ordering} (total : IsTotalOrder cmp) {F : Type 0}
    (T : F → K → V → Bool → V → F → Type 0) (f : F) (May : K → V → Option V → Type 0)
    (means : (k : K) (v : V) (b : Bool) (w : V) (g : F) → T f k v b w g → May k v (if_kept b w) × (g ≡ f)) where
  -- what stands at a key of which the map had a pair, and nothing else
  abbrev pub IsJudged : Option (K × V) → Option (K × V) → Type 0
  IsJudged old new = MatchOption old (new ≡ None) (λ e. (r : Option V) × May e.0 e.1 r × (new ≡ option_map (λ v. (e.0, v)) r))

  pub judged : (k : K) (es kept : List (K × V)) (h : F) → h ≡ f → AscendsByKey cmp es → RetainsPairs T h es kept
      → IsJudged (entry_at cmp es k) (entry_at cmp kept k)
  unfolding IsStrictlySortedBy
  judged k [] kept h q s r = ap (λ l. entry_at cmp l k) r
  judged k (e ∷ es) kept h q s (b, w, g, rest, t, more, is) =
      let u = means e.0 e.1 b w g (rw q at t) in
      let later = judged k es rest g u.1 s.1 more in
      grind (arith, later, u.0, equal-at total k e.0, none-above total k e.0 es)

module _ {K V W : Type 0} {cmp : K → K → Ordering} (total : IsTotalOrder cmp)
    (May : OuterJoinArg K V W → Option V → Type 0) (others : List (K × W)) where
  -- what the pair at a key is decided to
  abbrev DecidedAt : Option (K × V) → Option (K × V) → Type 0
  DecidedAt old new = MatchOption old (new ≡ None)
      (λ e. (r : Option V) × May (at_pair e.0 e.1 (value_at cmp others e.0)) r × (new ≡ option_map (λ v. (e.0, v)) r))

  -- is the answer to what a left join asks there
  answered : (k : K) (old new : Option (K × V)) → ((e : K × V) → old ≡ Some e → cmp k e.0 ≡ Equal) → DecidedAt old new
      → IsAnswered May MovedKey (asked kind.Left left_spelling old (entry_at cmp others k)) new
  answered k old new own j =
      grind (arith, left-silent {V = V} (entry_at cmp others k), value-entry cmp others, same-entry {V = W} total k)

  -- what each value is decided to makes the left join in place
  pub join-of_judged : (old new : List (K × V)) → AscendsByKey cmp new
      → ((k : K) → DecidedAt (entry_at cmp old k) (entry_at cmp new k))
      → IsJoin cmp kind.Left left_spelling old others May MovedKey new
  join-of_judged old new s j = record
      { ascends = s; at = λ k. answered k (entry_at cmp old k) (entry_at cmp new k) (λ e is. own-key total k old e is) (j k) }

  -- each pair of the map is asked at
  pub asked-in : (old before after : List (K × V)) (k : K) (v : V) → AscendsByKey cmp old → old ≡ before ++ (k, v) ∷ after
      → IsAsked cmp kind.Left left_spelling old others (at_pair k v (value_at cmp others k))
  asked-in old before after k v s is = record {
    key = k;
    asks = rw (is, standing total before (k, v) after (rw is at s), value-entry cmp others k) (grind arith);
  }

-- ---- values that are decided at the keys of a list of pairs

-- at the key k stands what the old list has there
pub record WasThere {K V : Type 0} (cmp : K → K → Ordering) (old : List (K × V)) (k : K) (z : Option (K × V)) : Type 0 where
  pub same : z ≡ entry_at cmp old k

-- there stands what may stay of it, if another list has the key
pub record IsDecided {K V W : Type 0} (cmp : K → K → Ordering) (May : OuterJoinArg K V W → Option V → Type 0)
    (others : List (K × W)) (old : List (K × V)) (k : K) (z : Option (K × V)) : Type 0 where
  pub is : MatchOption (entry_at cmp others k) (z ≡ entry_at cmp old k) (λ q. IsKeptAt cmp May q.0 q.1 (entry_at cmp old k) z)

module _ {K V W : Type 0} {cmp : K → K → Ordering} (total : IsTotalOrder cmp) {After : K → Option (K × V) → Type 0}
    {others rest : List (K × W)} {q : K × W} {old now : List (K × V)}
    (i : IsPassed cmp (WasThere cmp old) After others (q ∷ rest) now) where
  -- a key that is not there was not there before
  pub next-new : is_some (value_at cmp now q.0) ≡ false → entry_at cmp old q.0 ≡ None
  next-new e = sym (next-before total i).same ∙ none-by (entry_at cmp now q.0) (value-is_some total q.0 now ∙ e)

  -- what may be asked at each pair of both maps may be asked at the next one
  pub takes-shared : (Takes : OuterJoinArg K V W → Type 0) → ((k : K) (q : K × W) (p : K × V) → entry_at cmp others k ≡ Some q
      → entry_at cmp old k ≡ Some p → Takes (Both q.0 p.1 q.1)) → (v : V) → value_at cmp now q.0 ≡ Some v → Takes (Both q.0 v q.1)
  takes-shared Takes takes v e =
      let (p, here, same) = found total q.0 now v e in
      rw (sym same) (takes q.0 q p (next-there total i) (sym (next-before total i).same ∙ here))

  -- the question there
  pub asks-shared : (v : V) → value_at cmp now q.0 ≡ Some v → IsAsked cmp kind.Inner right_spelling old others (Both q.0 v q.1)
  asks-shared = takes-shared (IsAsked cmp kind.Inner right_spelling old others)
      (λ k q p f g. record { key = k; asks = rw (g, f) refl })

  -- the question at a key of the other map alone
  pub asks-alone : (join : JoinKind) → asks_right join ≡ true → is_some (value_at cmp now q.0) ≡ false
      → IsAsked {V = V} cmp join right_spelling old others (Right q.0 q.1)
  asks-alone join t e = record { key = q.0; asks = rw (next-new e, next-there total i, t) refl }

-- the references of a slice from an index on
pub dropped : {K W : Type 0} (xs : List (Bor K × Bor W)) (i : ℕ) (x : Bor K × Bor W) → i < length xs → x ≡ get_or xs i x
    → map deref_pair (drop i xs) ≡ deref_pair x ∷ map deref_pair (drop (i + 1) xs)
dropped xs i x h e = rw (add-one, drop-cons xs i x, sym e) refl

module _ {K V W : Type 0} {cmp : K → K → Ordering} (total : IsTotalOrder cmp) {May : OuterJoinArg K V W → Option V → Type 0}
    {others : List (K × W)} {old : List (K × V)} where
  -- nothing is decided yet
  pub none-decided : AscendsByKey cmp others → AscendsByKey cmp old
      → IsPassed cmp (WasThere cmp old) (IsDecided cmp May others old) others others old
  none-decided s t = start s t (λ k. record { same = refl }) (λ k e b. record { is = rw e b.same })

  -- one more value
  pub next-decided : {rest : List (K × W)} {q : K × W} {now new : List (K × V)}
      → IsPassed cmp (WasThere cmp old) (IsDecided cmp May others old) others (q ∷ rest) now → IsKept cmp May q.0 q.1 now new
      → IsPassed cmp (WasThere cmp old) (IsDecided cmp May others old) others rest new
  next-decided i step =
      next total i step.ascends (λ k f. rw f at (step.at k))
      (λ k t e was. record { is = rw e (rw was.same at (rw t at (step.at k))) })

  -- all values at the keys of the other list
  pub all-decided : {left : List (K × W)} {now : List (K × V)}
      → IsPassed cmp (WasThere cmp old) (IsDecided cmp May others old) others left now → left ≡ []
      → IsKeptAlong cmp May others old now
  all-decided i none = record { ascends = i.ascends; at = λ k. (passed-all i none k).is }

  -- they make a right join in place, in which what the other map lacks stays as it is
  pub right-of_along : {new : List (K × V)} → IsKeptAlong cmp May others old new
      → IsJoin cmp kind.Left right_spelling old others (OrStays May) (StayedKey cmp old) new
  right-of_along {new} j = record {
    ascends = j.ascends;
    at = λ k. grind (arith, at-own total k old, own-key total k others, same-entry {V = V} total k, j.at k);
  }

-- ---- a left join in place that drops what the other map lacks is an inner one

module _ {K V W : Type 0} (cmp : K → K → Ordering) (May : OuterJoinArg K V W → Option V → Type 0) where
  pub inner-of_left : (old new : List (K × V)) (others : List (K × W))
      → IsJoin cmp kind.Left left_spelling old others (OrDropped May) MovedKey new
      → IsJoin cmp kind.Inner left_spelling old others May MovedKey new
  inner-of_left old new others j = record { ascends = j.ascends; at = λ k. grind (arith, j.at k) }

  -- a shared key that a left join asks at is one that an inner join asks at
  pub inner-asks : (old : List (K × V)) (others : List (K × W)) (a : OuterJoinArg K V W) (k : K) (v : V) (w : W)
      → Both k v w ≡ a → IsAsked cmp kind.Left left_spelling old others a
      → IsAsked cmp kind.Inner left_spelling old others (Both k v w)
  inner-asks old others a k v w e h = record {
    key = h.key;
    asks = grind (arith, h.asks);
  }

  -- what stays at the keys of this map alone does so whatever a closure for shared keys would leave there
  pub right-of_shared : (old new : List (K × V)) (others : List (K × W))
      → IsJoin cmp kind.Left right_spelling old others (OrStays (OrDropped May)) (StayedKey cmp old) new
      → IsJoin cmp kind.Left right_spelling old others (OrStays May) (StayedKey cmp old) new
  right-of_shared old new others j = record {
    ascends = j.ascends;
    at = λ k. grind (arith, j.at k);
  }
