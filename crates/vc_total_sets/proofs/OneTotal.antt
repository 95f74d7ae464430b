-- The laws of the results of operations on two total sets.
use Rattle.std.proofs.Common.{◌≡◌, Bool, true, false, not, ◌||◌, ◌&&◌, List, [], ◌∷◌, MatchBool, refl, sym, ap, subst, ◌∙◌}
use Rattle.std.specs.Cmp.{IsTotalOrder, tied_itself}
use Rattle.std.specs.List.{AllZip}
use Rattle.std.specs.Ordering.{is_eq}
use Rattle.std.specs.declared.cmp.Ordering.{Ordering}
use Rattle.std.specs.declared.cmp.Ordering.TheVariants.{Equal}
use mathlib.Core.Bool.{true≢false}
use Rattle.vc_merge.specs.Ascending.{Ascends, member}
use Rattle.vc_merge.specs.Laws.{MembersTellTheList}
use Rattle.vc_sets.specs.SetOf.{and_not, exactly_one}
use Rattle.vc_total_sets.specs.TotalSet.{TotalSet, total, complement, has, IsEqualTotal}
use Rattle.vc_total_sets.specs.TotalOf.{IsTotalOf, IsPointwise, listed_by}
use Rattle.vc_total_sets.specs.Laws.{Operations, fresh_of, moved_of, OperationsArePointwise, OperationsMakeOne}
use Rattle.vc_total_sets.specs.Laws.{ComplementsTurnOperations, TotalTestsAreOfOperations}
use Rattle.vc_total_sets.proofs.Formulas.{none-left, had-by_second, none-shared, not-both, or-of_not, and-of_not}
use Rattle.vc_total_sets.proofs.Formulas.{or-turned, and-turned, and-swapped, or-swapped, has-listed}

module _ {X : Type 0} (cmp : X → X → Ordering) where
  -- what an operation makes, but for which of equal elements it has
  pub record HasListed (f : Bool → Bool → Bool) (a b c : TotalSet X) : Type 0 where
    pub negated : c.negated ≡ f a.negated b.negated
    pub ascends : Ascends cmp c.elements
    pub members : (x : X) → member cmp c.elements x
        ≡ listed_by f a.negated b.negated (member cmp a.elements x) (member cmp b.elements x)

  -- what is known of each of the four operations
  pub record AllListed (made : Operations X) : Type 0 where
    pub and : (a b c : TotalSet X) → made.and a b c → HasListed ◌&&◌ a b c
    pub or : (a b c : TotalSet X) → made.or a b c → HasListed ◌||◌ a b c
    pub xor : (a b c : TotalSet X) → made.xor a b c → HasListed exactly_one a b c
    pub minus : (a b c : TotalSet X) → made.minus a b c → HasListed and_not a b c

  -- ---- both ways

  listed : (from : X → X → Type 0) (f : Bool → Bool → Bool) (a b c : TotalSet X) → IsTotalOf cmp from f a b c → HasListed f a b c
  listed from f a b c s = record { negated = s.negated; ascends = s.elements.ascends; members = s.elements.members }

  -- it is no matter which set goes first, where the sides of the formula may be swapped
  listed-swapped : (f : Bool → Bool → Bool) → ((p q : Bool) → f p q ≡ f q p) → (a b c : TotalSet X)
      → HasListed f b a c → HasListed f a b c
  listed-swapped f swapped a b c s = record {
    negated = s.negated ∙ swapped b.negated a.negated;
    ascends = s.ascends;
    members = λ x. s.members x
        ∙ (λ i. exactly_one (swapped b.negated a.negated i)
        (swapped (exactly_one b.negated (member cmp b.elements x)) (exactly_one a.negated (member cmp a.elements x)) i));
  }

  listed-either : (from : X → X → Type 0) (f : Bool → Bool → Bool) → ((p q : Bool) → f p q ≡ f q p)
      → (a b c : TotalSet X) (both : Bool)
      → MatchBool both (IsTotalOf cmp from f b a c) (IsTotalOf cmp from f a b c) → HasListed f a b c
  listed-either from f swapped a b c true s = listed-swapped f swapped a b c (listed from f b a c s)
  listed-either from f swapped a b c false s = listed from f a b c s

  pub fresh-listed : (is_clone : X → X → Type 0) → AllListed (fresh_of cmp is_clone)
  fresh-listed is_clone = record {
    and = λ a b c. listed-either is_clone ◌&&◌ and-swapped a b c (a.negated && b.negated);
    or = λ a b c. listed-either is_clone ◌||◌ or-swapped a b c (a.negated && b.negated);
    xor = listed is_clone exactly_one;
    minus = listed is_clone and_not;
  }

  pub moved-listed : AllListed (moved_of cmp)
  moved-listed = record {
    and = listed (λ x y. x ≡ y) ◌&&◌;
    or = listed (λ x y. x ≡ y) ◌||◌;
    xor = listed (λ x y. x ≡ y) exactly_one;
    minus = listed (λ x y. x ≡ y) and_not;
  }

  -- ---- pointwise

  -- at each value a result has what the formula says
  pointwise : (f : Bool → Bool → Bool) (a b c : TotalSet X) → HasListed f a b c → (x : X) → has cmp c x
      ≡ f (has cmp a x) (has cmp b x)
  pointwise f a b c s x = rw (s.negated, s.members x) (has-listed (f a.negated b.negated) (f (has cmp a x) (has cmp b x)))

  listed-pointwise : (f : Bool → Bool → Bool) (a b c : TotalSet X) → HasListed f a b c → IsPointwise cmp f a b c
  listed-pointwise f a b c s = record { ascends = s.ascends; at = pointwise f a b c s; elsewhere = s.negated }

  pub all-pointwise : (made : Operations X) → AllListed made → OperationsArePointwise cmp made
  all-pointwise made all = record {
    and = λ a b c s. listed-pointwise ◌&&◌ a b c (all.and a b c s);
    or = λ a b c s. listed-pointwise ◌||◌ a b c (all.or a b c s);
    xor = λ a b c s. listed-pointwise exactly_one a b c (all.xor a b c s);
    minus = λ a b c s. listed-pointwise and_not a b c (all.minus a b c s);
  }

  -- ---- one set

  one-total : MembersTellTheList cmp → (f : Bool → Bool → Bool) (a b c d : TotalSet X) → HasListed f a b c
      → HasListed f a b d → IsEqualTotal cmp c d
  one-total told f a b c d s t = record {
    elements = told.members c.elements d.elements s.ascends t.ascends (λ x. s.members x ∙ sym (t.members x));
    negated = s.negated ∙ sym t.negated;
  }

  pub all-one : MembersTellTheList cmp → (made : Operations X) → AllListed made → OperationsMakeOne cmp made
  all-one told made all = record {
    and = λ a b c d s t. one-total told ◌&&◌ a b c d (all.and a b c s) (all.and a b d t);
    or = λ a b c d s t. one-total told ◌||◌ a b c d (all.or a b c s) (all.or a b d t);
    xor = λ a b c d s t. one-total told exactly_one a b c d (all.xor a b c s) (all.xor a b d t);
    minus = λ a b c d s t. one-total told and_not a b c d (all.minus a b c s) (all.minus a b d t);
  }

  module _ (total_order : IsTotalOrder cmp) where
    -- ---- complements

    -- lists that are equal place by place have the same members
    equal-members : (xs ys : List X) → AllZip (λ x y. cmp x y ≡ Equal) xs ys → (w : X) → member cmp xs w ≡ member cmp ys w
    equal-members [] [] h w = refl
    equal-members (x ∷ xs) (y ∷ ys) h w = ap (λ o. is_eq o || member cmp xs w) (total_order.congr x y w h.0)
        ∙ ap (λ b. is_eq (cmp y w) || b) (equal-members xs ys h.1 w)
    equal-members [] (y ∷ ys) h w = absurd h
    equal-members (x ∷ xs) [] h w = absurd h

    -- the complement of one result is another, where the formula of the one is that of the other on complements
    complement-is : MembersTellTheList cmp → (f h : Bool → Bool → Bool)
        → ((p q : Bool) → h (not p) (not q) ≡ not (f p q))
        → ((p q x y : Bool) → listed_by h (not p) (not q) x y ≡ listed_by f p q x y)
        → (a b not_a not_b c d : TotalSet X) → IsEqualTotal cmp not_a (complement a) → IsEqualTotal cmp not_b (complement b)
        → HasListed f a b c → HasListed h not_a not_b d → IsEqualTotal cmp (complement c) d
    complement-is told f h flags lists a b not_a not_b c d m n s t = record {
      elements = told.members c.elements d.elements s.ascends t.ascends (λ x.
          s.members x
          ∙ sym (lists a.negated b.negated (member cmp a.elements x) (member cmp b.elements x))
          ∙ (λ i. listed_by h (sym m.negated i) (sym n.negated i) (sym (equal-members _ _ m.elements x) i)
          (sym (equal-members _ _ n.elements x) i))
          ∙ sym (t.members x));
      negated = ap not s.negated ∙ sym (flags a.negated b.negated) ∙ (λ i. h (sym m.negated i) (sym n.negated i)) ∙ sym t.negated;
    }

    -- complements turn "and" into "or", and "or" into "and"
    pub complements-turn : MembersTellTheList cmp → (made : Operations X) → AllListed made → ComplementsTurnOperations cmp made
    complements-turn told made all = record {
      and = λ a b not_a not_b c d m n s t. complement-is told ◌&&◌ ◌||◌ or-of_not or-turned a b not_a not_b c d m n
          (all.and a b c s) (all.or not_a not_b d t);
      or = λ a b not_a not_b c d m n s t. complement-is told ◌||◌ ◌&&◌ and-of_not and-turned a b not_a not_b c d m n
          (all.or a b c s) (all.and not_a not_b d t);
    }

    -- ---- tests

    -- a list without members is empty
    no-members : (xs : List X) → ((x : X) → member cmp xs x ≡ false) → xs ≡ []
    no-members [] h = refl
    no-members (y ∷ ys) h = absurd (true≢false (sym (ap (λ o. is_eq o || member cmp ys y) (tied_itself total_order y)) ∙ h y))

    -- a set that has nothing, not at the flag either, is the empty list
    nothing-there : (c : TotalSet X) → c.negated ≡ false → ((x : X) → has cmp c x ≡ false) → c ≡ total [] false
    nothing-there c e h =
        let empty = no-members c.elements (λ x. subst (λ b. exactly_one b (member cmp c.elements x) ≡ false) e (h x)) in
        λ i. total (empty i) (e i)

    -- the tests are of operations
    pub tests-are_of : (made : Operations X) → AllListed made → TotalTestsAreOfOperations cmp made
    tests-are_of made all = record {
      subset = λ a b c m. let s = all.minus a b c m in (
        (λ h. nothing-there c (s.negated ∙ none-left a.negated b.negated h.elsewhere)
            (λ x. pointwise and_not a b c s x ∙ none-left (has cmp a x) (has cmp b x) (h.at x))),
        λ e. record {
          at = λ x. had-by_second (has cmp a x) (has cmp b x) (sym (pointwise and_not a b c s x) ∙ ap (λ t. has cmp t x) e);
          elsewhere = had-by_second a.negated b.negated (sym s.negated ∙ ap (λ t. t.negated) e);
        },
      );
      disjoint = λ a b c m. let s = all.and a b c m in (
        (λ h. nothing-there c (s.negated ∙ none-shared a.negated b.negated h.elsewhere)
            (λ x. pointwise ◌&&◌ a b c s x ∙ none-shared (has cmp a x) (has cmp b x) (h.at x))),
        λ e. record {
          at = λ x. not-both (has cmp a x) (has cmp b x) (sym (pointwise ◌&&◌ a b c s x) ∙ ap (λ t. has cmp t x) e);
          elsewhere = not-both a.negated b.negated (sym s.negated ∙ ap (λ t. t.negated) e);
        },
      );
    }
