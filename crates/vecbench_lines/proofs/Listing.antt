-- Keys that are listed: from a walk, and of a tree that was changed.
--     keys-walked, walk-listed, none-listed        the keys of a walk are those that the map binds
--     keys-where        the same keys by a test that agrees
--     restricted-listed        the keys that rules leave of a tree
--     removed-keys, retained-keys, left-listed        the keys that stay by whether they are admitted
use Rattle.std.proofs.Common.{◌≡◌, ◌∙◌, ap, sym, refl, subst, ℕ, Bool, true, false, not, true≢false, ◌||◌, ◌&&◌, List}
use Rattle.std.proofs.Common.{[], ◌∷◌, Option, Some, None, inl, inr}
use Rattle.std.proofs.lemmas.Option.{none-some}
use Rattle.std.specs.List.{list_any}
use Rattle.std.specs.Map.{keys_of}
use Rattle.std.specs.Option.{is_some, unwrap_or}
use Rattle.std.specs.Ordering.{nat_cmp}
use Rattle.vec_collections.specs.Allowed.{is_allowed, IsPassed, IsRestricted}
use Rattle.vec_collections.specs.Cover.{cover, IsVerdict, StaysOrGoes, IsSifted, IsRemoved, IsRetained}
use Rattle.vec_collections.specs.Key.{same_key}
use Rattle.vec_collections.specs.Map.{lookup}
use Rattle.vec_collections.specs.Tree.{Tree}
use Rattle.vec_collections.specs.Walk.{Lists, IsWalk}
use Rattle.vecbench_lines.specs.declared.prefix_line.PrefixOperation.{PrefixOperation}
use Rattle.vecbench_lines.specs.declared.prefix_line.PrefixOperation.TheVariants.{Remove, Retain}
use Rattle.vecbench_lines.specs.Answers.{stays_by, KeysStay}
use Rattle.vecbench_lines.specs.KeyLists.{keys_text, AreKeys, ListsKeys}
use Rattle.vecbench_lines.proofs.Binding.{is_some-kept}
use Rattle.vecbench_lines.proofs.Replying.{or-true}

-- whether the list has an equal key
abbrev has_key : {V : Type 0} → List (List ℕ × V) → List ℕ → Bool
has_key l key = list_any (λ k. same_key nat_cmp k key) (keys_of l)

module _ {V : Type 0} where
  -- a key that is listed with a value is in the list
  listed-has : (l : List (List ℕ × V)) (key : List ℕ) (v : V) → Lists nat_cmp l key v → has_key l key ≡ true
  listed-has [] key v h = absurd h
  listed-has (b ∷ l) key v (inl h) = ap (λ same. same || has_key l key) h.0
  listed-has (b ∷ l) key v (inr h) = ap (λ has. same_key nat_cmp b.0 key || has) (listed-has l key v h)
      ∙ or-true (same_key nat_cmp b.0 key)

  -- a key of the list is listed with a value
  has-listed : (l : List (List ℕ × V)) (key : List ℕ) → has_key l key ≡ true → (v : V) × Lists nat_cmp l key v
  has-listed [] key h = absurd (true≢false (sym h))
  has-listed (b ∷ l) key h = by (same_key nat_cmp b.0 key) refl h (has-listed l key)
    where
      by : (same : Bool) → same_key nat_cmp b.0 key ≡ same → (same || has_key l key) ≡ true
          → (has_key l key ≡ true → (v : V) × Lists nat_cmp l key v) → (v : V) × Lists nat_cmp (b ∷ l) key v
      by true e h behind = (b.1, inl (e, refl))
      by false e h behind = let more = behind h in (more.0, inr more.1)

  -- the list has the keys that the map binds
  has-bound : (f : List ℕ → Option V) (l : List (List ℕ × V)) → IsWalk nat_cmp f l → (key : List ℕ) → has_key l key
      ≡ is_some (f key)
  has-bound f l walk key = by (f key) refl (has_key l key) refl
    where
      by : (o : Option V) → f key ≡ o → (has : Bool) → has_key l key ≡ has → has_key l key ≡ is_some (f key)
      by (Some v) e has h = listed-has l key v ((walk.lists key v).1 e) ∙ sym (ap is_some e)
      by None e false h = h ∙ sym (ap is_some e)
      by None e true h = let more = has-listed l key h in absurd (none-some more.0 (sym e ∙ (walk.lists key more.0).0 more.1))

  -- the keys of a walk are those that the map binds
  pub keys-walked : (f : List ℕ → Option V) (l : List (List ℕ × V)) → IsWalk nat_cmp f l
      → AreKeys (λ key. is_some (f key)) (keys_of l)
  keys-walked f l walk = record { ascend = walk.ascends; members = has-bound f l walk }

-- the keys of a walk are listed by their text
pub walk-listed : {V : Type 0} (f : List ℕ → Option V) (l : List (List ℕ × V)) → IsWalk nat_cmp f l
    → ListsKeys (λ key. is_some (f key)) (keys_text (keys_of l))
walk-listed f l walk = (keys_of l, keys-walked f l walk, refl)

-- where no pair is walked, none is listed
pub none-listed : {V : Type 0} (f : List ℕ → Option V) (l : List (List ℕ × V)) → IsWalk nat_cmp f l → l ≡ []
    → ListsKeys (λ key. is_some (f key)) (45 ∷ [])
none-listed f l walk none = ([], subst (λ m. AreKeys (λ key. is_some (f key)) (keys_of m)) none (keys-walked f l walk), refl)

-- the same keys pass a test that agrees
pub keys-where : (test other : List ℕ → Bool) (text : List ℕ) → ((key : List ℕ) → test key ≡ other key)
    → ListsKeys test text → ListsKeys other text
keys-where test other text same lists =
    (lists.0, record { ascend = lists.1.ascend; members = λ key. lists.1.members key ∙ same key }, lists.2)

-- what is left of a key that rules may deny
passed-is_some : {V : Type 0} (rules : Tree ℕ Bool) (keeps : V → V → Type 0) (allowed : Bool) (o p : Option V)
    → IsPassed nat_cmp rules keeps allowed o p → is_some p ≡ (is_some o && allowed)
passed-is_some rules keeps allowed None p h = ap is_some h
passed-is_some rules keeps true (Some v) p h = is_some-kept keeps (Some v) p h
passed-is_some rules keeps false (Some v) p h = ap is_some h

-- the keys that are left of a tree are those of it that the rules allow
pub restricted-listed : {V : Type 0} (rules : Tree ℕ Bool) (keeps : V → V → Type 0) (f g : List ℕ → Option V) (text : List ℕ)
    → IsRestricted nat_cmp rules keeps f g → ListsKeys (λ key. is_some (g key)) text
    → ListsKeys (λ key. is_some (f key) && is_allowed nat_cmp rules key) text
restricted-listed rules keeps f g text h lists =
    keys-where _ _ text (λ key. passed-is_some rules keeps (is_allowed nat_cmp rules key) (f key) (g key) (h key)) lists

-- a value that stays is there, and one that goes is not
stays-is_some : {V : Type 0} (keeps : V → V → Type 0) (stays : Bool) (v : V) (p : Option V)
    → StaysOrGoes keeps stays v p → is_some p ≡ stays
stays-is_some keeps true v p h = is_some-kept keeps (Some v) p h
stays-is_some keeps false v p h = ap is_some h

module _ {V : Type 0} (keeps : V → V → Type 0) (may : Bool → Bool → Type 0)
    (exact : (rule admitted : Bool) → may rule admitted → admitted ≡ rule) where
  -- the verdict on a key is that of its longest rule
  verdict-is : (c : Option Bool) (admitted : Bool) → IsVerdict may c admitted → admitted ≡ unwrap_or c false
  verdict-is None admitted h = h
  verdict-is (Some rule) admitted h = exact rule admitted h

  -- what is left of a key by its verdict
  sifted-is_some : (stays : Bool → Bool) (c : Option Bool) (o p : Option V) → IsSifted keeps may stays c o p
      → is_some p ≡ (is_some o && stays (unwrap_or c false))
  sifted-is_some stays c None p h = ap is_some h
  sifted-is_some stays c (Some v) p h = stays-is_some keeps (stays h.0) v p h.2 ∙ ap stays (verdict-is c h.0 h.1)

  -- the keys that are left where those that are admitted go
  pub removed-keys : (rules : Tree ℕ Bool) (f g : List ℕ → Option V) → IsRemoved keeps may (lookup nat_cmp rules) f g
      → KeysStay Remove (is_allowed nat_cmp rules) f g
  removed-keys rules f g h = λ key. sifted-is_some not (cover (lookup nat_cmp rules) key) (f key) (g key) (h key)

  -- and where they stay
  pub retained-keys : (rules : Tree ℕ Bool) (f g : List ℕ → Option V) → IsRetained keeps may (lookup nat_cmp rules) f g
      → KeysStay Retain (is_allowed nat_cmp rules) f g
  retained-keys rules f g h = λ key. sifted-is_some (λ admitted. admitted) (cover (lookup nat_cmp rules) key) (f key)
      (g key) (h key)

-- the keys that stay are listed by what lists the keys that are left
pub left-listed : {V : Type 0} (operation : PrefixOperation) (admitted : List ℕ → Bool) (f g : List ℕ → Option V) (text : List ℕ)
    → KeysStay operation admitted f g → ListsKeys (λ key. is_some (g key)) text
    → ListsKeys (λ key. is_some (f key) && stays_by operation (admitted key)) text
left-listed operation admitted f g text stay lists = keys-where _ _ text stay lists
