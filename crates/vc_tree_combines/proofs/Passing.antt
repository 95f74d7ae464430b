-- A merge that passes the trees of only one list, and stops at two that begin alike or at one that is missed.
--     steps-parts        what steps take off the fronts of both lists
--     children-ascend        canonical children ascend by their first components
--     told-missed, told-meeting, told-end        what comes next of two lists
--     meets        two trees that begin alike
use Rattle.std.proofs.Common.{◌≡◌, ◌≤◌, [], ◌∷◌, ◌++◌, List, Option, None, Some, Bool, true, false, not, Result, Ok}
use Rattle.std.proofs.Common.{Err, ◌⊎◌, inl, inr, refl, sym, ◌∙◌, map, append_assoc}
use Rattle.std.proofs.Common.{append-nil, slice_get, arith}
use Rattle.std.proofs.lemmas.List.{append_cancel_left}
use Rattle.std.specs.Cmp.{IsTotalOrder, tied_itself}
use Rattle.std.specs.List.{AllByRecursion, cons_option}
use Rattle.std.specs.List.Sorted.{IsStrictlySortedBy}
use Rattle.std.specs.Option.{option_cmp}
use Rattle.std.specs.declared.alloc.AllocError.{AllocError}
use Rattle.std.specs.declared.cmp.Ordering.{Ordering}
use Rattle.std.specs.declared.cmp.Ordering.TheVariants.{Less, Equal}
use Rattle.vc_merge.specs.Ascending.{Ascends}
use Rattle.vc_merge.specs.Chain.{Answer, Allows, allows, Run, of_left, of_right, of_both, events}
use Rattle.vc_merge.specs.Chain.{IsAtFront, IsAllowed, Steps, Stops, IsMerged}
use Rattle.vc_merge.specs.Script.{Event, left_alone, right_alone, collision, lefts, rights, place, IsMatched, IsScript}
use Rattle.vc_tree_model.specs.Canonical.{AllAbove, AreChildren, IsSolid}
use Rattle.vc_tree_model.specs.Look.{values}
use Rattle.vc_tree_model.specs.Map.{lookup}
use Rattle.vc_tree_model.specs.Tree.{Tree, forest_nodes}
use Rattle.vc_tree_model.proofs.LookupLemmas.{tree-bound}
use Rattle.vc_tree_nodes.specs.Children.{seen}
use Rattle.vc_tree_facing.specs.Doing.{AreFirst, IsSaidIn, IsSaidOf}
use Rattle.vc_tree_facing.specs.Sides.{by_component, by_component_total, side_next}
use Rattle.vc_tree_facing.specs.declared.sides.EventSide.TheVariants.{Left, Right, Both}
use Rattle.vc_tree_facing.proofs.Components.{agree-first, children-first}
use Rattle.vc_tree_facing.proofs.Doing.{left-first, right-first, both-first, said-apart, said-joined}
use Rattle.vc_tree_combines.specs.Meeting.{IsMet, IsMissed, TellsKeysIn, AreTails, IsMeeting}
use Rattle.vc_tree_combines.proofs.Meeting.{met-alone}

-- nothing comes after a whole list
pub none-after : {X : Type 0} (xs ys : List X) → xs ≡ xs ++ ys → ys ≡ []
none-after xs ys e = append_cancel_left xs ys [] (sym e ∙ sym (append-nil xs))

-- what holds of each element that comes before others
all-before : {X Y : Type 0} (P : Y → Type 0) (f : X → Y) → ((x : X) → P (f x)) → (xs : List X) (ys : List Y) → AllByRecursion P ys
    → AllByRecursion P (map f xs ++ ys)
all-before P f h [] ys a = a
all-before P f h (x ∷ xs) ys a = (h x, all-before P f h xs ys a)

-- ---- what events take off the fronts of both lists

module _ {A B : Type 0} where
  events-append : (es fs : List (Event A B)) → (lefts (es ++ fs) ≡ lefts es ++ lefts fs)
      × (rights (es ++ fs) ≡ rights es ++ rights fs)
  events-append [] fs = (refl, refl)
  events-append (e ∷ es) fs = grind (arith, events-append es fs)

  of-lefts : (xs : List A) (es : List (Event A B)) → (lefts (map (λ x. left_alone x) xs ++ es) ≡ xs ++ lefts es)
      × (rights (map (λ x. left_alone x) xs ++ es) ≡ rights es)
  of-lefts [] es = (refl, refl)
  of-lefts (x ∷ xs) es = grind (arith, of-lefts xs es)

  of-rights : (ys : List B) (es : List (Event A B)) → (lefts (map (λ y. right_alone y) ys ++ es) ≡ lefts es)
      × (rights (map (λ y. right_alone y) ys ++ es) ≡ ys ++ rights es)
  of-rights [] es = (refl, refl)
  of-rights (y ∷ ys) es = grind (arith, of-rights ys es)

-- what steps take off the fronts of both lists
pub steps-parts : {M A B : Type 0} (op : Allows M A B) (s t : M) (runs : List (Run A B)) → Steps op s runs t
    → (op.left s ≡ lefts (events runs) ++ op.left t) × (op.right s ≡ rights (events runs) ++ op.right t)
steps-parts op s t [] e = grind arith
steps-parts op s t (of_left xs ∷ runs) p =
    grind (arith, p.1.front, steps-parts op p.0 t runs p.2, of-lefts xs (events runs), append_assoc)
steps-parts op s t (of_right ys ∷ runs) p =
    grind (arith, p.1.front, steps-parts op p.0 t runs p.2, of-rights ys (events runs), append_assoc)
steps-parts op s t (of_both x y ∷ runs) p = grind (arith, p.1.front, steps-parts op p.0 t runs p.2)

module _ {A B : Type 0} (shared : Bool) where
  -- an event of one side alone, of the left only where no key is to be shared
  abbrev pub IsPassed : Event A B → Type 0
  IsPassed (left_alone x) = shared ≡ false
  IsPassed (right_alone y) = Unit {0}
  IsPassed (collision x y) = ⊥

module _ {M A B : Type 0} (left : M → List A) (right : M → List B) (missed : M → Bool) (shared : Bool) where
  -- what the operation answers and leaves
  abbrev pub passes : Allows M A B
  passes = allows left right (record {
    from_a = λ s n answer t. (answer ≡ Ok (not shared)) × (missed t ≡ shared);
    from_b = λ s n answer t. (answer ≡ Ok true) × (missed t ≡ missed s);
    collision = λ s answer t. (answer ≡ Ok false) × (t ≡ s);
  })

  -- runs that were passed one after another
  steps-passed : (s t : M) (runs : List (Run A B)) → missed s ≡ false → Steps passes s runs t
      → AllByRecursion (IsPassed shared) (events runs) × (missed t ≡ false)
  steps-passed s t [] z e = grind arith
  steps-passed s t (of_left xs ∷ runs) z h =
      let e : shared ≡ false = grind (arith, h.1.allowed.0) in
      let r = steps-passed h.0 t runs (h.1.allowed.1 ∙ e) h.2 in
      (all-before (IsPassed shared) (λ x. left_alone x) (λ x. e) xs _ r.0, r.1)
  steps-passed s t (of_right ys ∷ runs) z h =
      let r = steps-passed h.0 t runs (h.1.allowed.1 ∙ z) h.2 in
      (all-before (IsPassed shared) (λ y. right_alone y) (λ y. tt) ys _ r.0, r.1)
  steps-passed s t (of_both x y ∷ runs) z h = let e : ◌≡◌ {A = Answer} (Ok true) (Ok false) = h.1.allowed.0 in absurd (cc)

-- ---- the side of the first event of a script

module _ {A B : Type 0} (order : A ⊎ B → A ⊎ B → Ordering) (o : IsTotalOrder order) where
  side-left : (x : A) (es : List (Event A B)) → AllByRecursion (λ e. order (inl x) (place e) ≡ Less) es
      → AllByRecursion (IsMatched order) es → side_next order (Some x) (slice_get (rights es) 0) ≡ Some Left
  side-left x (left_alone z ∷ es) a m = grind (arith, side-left x es a.1 m.1)
  side-left x es a m = grind arith

  side-right : (y : B) (es : List (Event A B)) → AllByRecursion (λ e. order (inr y) (place e) ≡ Less) es
      → side_next order (slice_get (lefts es) 0) (Some y) ≡ Some Right
  side-right y (right_alone z ∷ es) a = grind (arith, side-right y es a.1)
  side-right y es a = grind arith

  side-both : (x : A) (y : B) → order (inl x) (inr y) ≡ Equal → side_next order (Some x) (Some y) ≡ Some Both
  side-both x y e = grind arith

-- the events behind the first one are a script of their own
script-rest : {A B : Type 0} {order : A ⊎ B → A ⊎ B → Ordering} {xs : List A} {ys : List B} (e : Event A B)
    (es : List (Event A B)) → IsScript order xs ys (e ∷ es) → IsScript order (lefts es) (rights es) es
unfolding IsStrictlySortedBy
script-rest e es s = record { left = refl; right = refl; ascends = s.ascends.1; matched = s.matched.1 }

-- ---- what is told of both lists

module _ {K V W A B : Type 0} (cmp : K → K → Ordering) (o : IsTotalOrder cmp) (ta : A → Tree K V) (tb : B → Tree K W)
    (shared : Bool) {xs : List A} {ys : List B} where
  -- the next trees
  module _ (a : Option A) (b : Option B) {ls : List A} {rs : List B}
      (t : AreTails cmp ta tb shared xs ys (cons_option a ls) (cons_option b rs)) (f : AreFirst cmp ta tb 0 0 a b ls rs) where
    -- a key that is missed at them or behind them, is missed in both lists
    abbrev Told : Option V → Option W → Type 0
    Told v w = IsMissed shared v w → TellsKeysIn cmp shared (seen ta xs) (seen tb ys) false

    missed : IsSaidOf cmp ta tb 0 0 (values cmp) Told a b × IsSaidIn cmp ta tb 0 0 (values cmp) Told ls rs
    missed = said-apart o ta tb 0 0 (values cmp) Told (λ m. absurd m) a b f (λ x q m. t.tells false (x, q, m))

    -- where they are met, the others tell of all
    pub behind-met : IsSaidOf cmp ta tb 0 0 (values cmp) (IsMet shared) a b → AreTails cmp ta tb shared xs ys ls rs
    behind-met h = record {
      left = f.left.children;
      right = f.right.children;
      left_nodes = omega (arith, t.left_nodes, fewer ta a ls);
      right_nodes = omega (arith, t.right_nodes, fewer tb b rs);
      tells = by;
    }
      where
        fewer : {X T : Type 0} (tree : T → Tree K X) (a : Option T) (ls : List T)
            → forest_nodes (seen tree ls) ≤ forest_nodes (seen tree (cons_option a ls))
        fewer tree a ls = grind arith

        by : (answer : Bool) → TellsKeysIn cmp shared (seen ta ls) (seen tb rs) answer
            → TellsKeysIn cmp shared (seen ta xs) (seen tb ys) answer
        by true g = t.tells true (said-joined o ta tb 0 0 (values cmp) (IsMet shared) tt a b f h g)
        by false g = missed.1 g.0 g.1 g.2

  -- two trees meet
  pub meets : (x : A) (ls : List A) (y : B) (rs : List B) → AreTails cmp ta tb shared xs ys (x ∷ ls) (y ∷ rs)
      → side_next (by_component ta tb 0 0 cmp) (Some x) (Some y) ≡ Some Both → IsMeeting cmp ta tb shared xs ys x ls y rs
  meets x ls y rs t z =
      let f = both-first o ta tb 0 0 x ls y rs t.left t.right z in
      record {
        agree = agree-first cmp o (ta x).prefix (tb y).prefix f.place f.left.begins f.right.begins;
        left_nodes = omega (arith, t.left_nodes);
        right_nodes = omega (arith, t.right_nodes);
        here_missed = λ h. (missed (Some x) (Some y) t f).0 h.0 h.1;
        here_met = behind-met (Some x) (Some y) t f;
      }

  -- a tree of the left list is missed
  missed-told : (x : A) (ls : List A) (rs : List B) → AreTails cmp ta tb shared xs ys (x ∷ ls) rs
      → side_next (by_component ta tb 0 0 cmp) (Some x) (slice_get rs 0) ≡ Some Left → shared ≡ true
      → TellsKeysIn cmp shared (seen ta xs) (seen tb ys) false
  missed-told x ls rs t z e =
      let f = left-first o ta tb 0 0 x ls rs t.left t.right z in
      let c : IsSolid (ta x).value (ta x).children × AreChildren cmp (ta x).children = grind (arith, t.left) in
      let b = tree-bound cmp o (ta x).prefix (ta x).value (ta x).children c.0 c.1 in
      let here : IsMissed {V = V} {W = W} shared (lookup cmp (ta x) ((ta x).prefix ++ b.key)) None = grind (arith, b.is) in
      (missed (Some x) None t f).0 ((ta x).prefix ++ b.key) here

  -- what is passed is met
  passed-met : (es rest : List (Event A B)) {ls : List A} {rs : List B} → AllByRecursion (IsPassed shared) es
      → IsScript (by_component ta tb 0 0 cmp) ls rs (es ++ rest) → AreTails cmp ta tb shared xs ys ls rs
      → AreTails cmp ta tb shared xs ys (lefts rest) (rights rest)
      × IsScript (by_component ta tb 0 0 cmp) (lefts rest) (rights rest) rest
  unfolding IsStrictlySortedBy
  passed-met [] rest a s t = rw (s.left, s.right) (t, s)
  passed-met (left_alone x ∷ es) rest a s t =
      let z = side-left (by_component ta tb 0 0 cmp) (by_component_total ta tb 0 0 o) x (es ++ rest) s.ascends.0 s.matched.1 in
      let u = rw (← s.left, ← s.right) at t in
      let f = left-first o ta tb 0 0 x (lefts (es ++ rest)) (rights (es ++ rest)) u.left u.right z in
      passed-met es rest a.1 (script-rest (left_alone x) (es ++ rest) s)
      (behind-met (Some x) None u f (λ k. rw a.0 (met-alone W (lookup cmp (ta x) k))))
  passed-met (right_alone y ∷ es) rest a s t =
      let z = side-right (by_component ta tb 0 0 cmp) (by_component_total ta tb 0 0 o) y (es ++ rest) s.ascends.0 in
      let u = rw (← s.left, ← s.right) at t in
      let f = right-first o ta tb 0 0 (lefts (es ++ rest)) y (rights (es ++ rest)) u.left u.right z in
      passed-met es rest a.1 (script-rest (right_alone y) (es ++ rest) s) (behind-met None (Some y) u f (λ k. tt))
  passed-met (collision x y ∷ es) rest a s t = absurd a.0

module _ {K V W A B : Type 0} {cmp : K → K → Ordering} {ta : A → Tree K V} {tb : B → Tree K W} {shared : Bool} {xs : List A}
    {ys : List B} where
  -- none is passed yet
  pub tails-start : AreChildren cmp (seen ta xs) → AreChildren cmp (seen tb ys) → AreTails cmp ta tb shared xs ys xs ys
  tails-start ca cb = grind arith

-- ---- what comes next of two lists

-- canonical children ascend by their first components
module _ {K V T : Type 0} (cmp : K → K → Ordering) (tree : T → Tree K V) where
  above-all : (y : K) (xs : List T) → AllAbove cmp y (seen tree xs)
      → AllByRecursion (λ x. option_cmp cmp (Some y) (slice_get (tree x).prefix 0) ≡ Less) xs
  above-all y [] a = tt
  above-all y (x ∷ xs) a = grind (arith, above-all y xs)

  pub children-ascend : IsTotalOrder cmp → (xs : List T) → AreChildren cmp (seen tree xs)
      → Ascends (λ x z. option_cmp cmp (slice_get (tree x).prefix 0) (slice_get (tree z).prefix 0)) xs
  unfolding IsStrictlySortedBy
  children-ascend o [] a = tt
  children-ascend o (x ∷ xs) a =
      let f = children-first cmp o 0 (tree x).prefix a in
      let r = f.before f.place (tied_itself o f.place) in
      (rw f.at (above-all f.place xs r.above), children-ascend o xs r.children)

-- what a merge of s tells that left t
module _ {K V W A B M : Type 0} {cmp : K → K → Ordering} (o : IsTotalOrder cmp) (ta : A → Tree K V) (tb : B → Tree K W)
    (left : M → List A) (right : M → List B) (missed : M → Bool) (shared : Bool) (s t : M) (z : missed s ≡ false)
    (ca : AreChildren cmp (seen ta (left s))) (cb : AreChildren cmp (seen tb (right s))) where
  abbrev order : A ⊎ B → A ⊎ B → Ordering
  order = by_component ta tb 0 0 cmp

  -- all are met, a tree is missed whose keys are to be shared, or two meet
  abbrev IsTold : Type 0
  IsTold =
      ((missed t ≡ false) × (left t ≡ []) × TellsKeysIn cmp shared (seen ta (left s)) (seen tb (right s)) true)
      ⊎ (((missed t ≡ true) × TellsKeysIn cmp shared (seen ta (left s)) (seen tb (right s)) false)
      ⊎ ((x : A) × (ls : List A) × (y : B) × (rs : List B) × (missed t ≡ false) × (left t ≡ x ∷ ls) × (right t ≡ y ∷ rs)
      × IsMeeting cmp ta tb shared (left s) (right s) x ls y rs))

  stopped : (answer : Answer) (w : Stops (passes left right missed shared) order s answer t) (last : Run A B)
      → w.last ≡ last → IsAtFront (left w.before) (right w.before) last w.left_after w.right_after
      → IsAllowed (passes left right missed shared) w.before last answer t → IsTold
  unfolding IsStrictlySortedBy
  stopped answer w (of_left []) e f a = absurd (omega (arith, f.0))
  stopped answer w (of_left (x ∷ xs)) e f a =
      let is : shared ≡ true = grind (arith, a.0, w.not_true) in
      let passed = steps-passed left right missed shared s w.before w.runs z w.steps in
      let p = passed-met cmp o ta tb shared (events w.runs) _ passed.0
      (rw (e, append_assoc) at w.script) (tails-start ca cb) in
      let side = side-left order (by_component_total ta tb 0 0 o) x _ p.1.ascends.0 p.1.matched.1 in
      inr (inl (a.1 ∙ is, missed-told cmp o ta tb shared x _ _ p.0 side is))
  stopped answer w (of_right ys) e f a = absurd (w.not_true a.0)
  stopped answer w (of_both x y) e f a =
      let script = rw (e, append_assoc) at w.script in
      let passed = steps-passed left right missed shared s w.before w.runs z w.steps in
      let parts = steps-parts (passes left right missed shared) s w.before w.runs w.steps in
      let both = events-append (events w.runs) (collision x y ∷ w.rest) in
      let p = passed-met cmp o ta tb shared (events w.runs) _ passed.0 script (tails-start ca cb) in
      let met = meets cmp o ta tb shared x _ y _ p.0 (side-both order (by_component_total ta tb 0 0 o) x y p.1.matched.0) in
      rw a.1 (inr (inr (
        x,
        lefts w.rest,
        y,
        rights w.rest,
        passed.1,
        append_cancel_left (lefts (events w.runs)) _ _ (sym parts.0 ∙ sym script.left ∙ both.0),
        append_cancel_left (rights (events w.runs)) _ _ (sym parts.1 ∙ sym script.right ∙ both.1),
        met,
      )))

  told : (answer : Result (Unit {0}) AllocError) → IsMerged (passes left right missed shared) order s answer t → IsTold
  told (Ok u) (inl f) =
      let passed = steps-passed left right missed shared s t f.runs z f.steps in
      let parts = steps-parts (passes left right missed shared) s t f.runs f.steps in
      let p = passed-met cmp o ta tb shared (events f.runs) [] passed.0 (rw (append-nil (events f.runs)) f.script)
      (tails-start ca cb) in
      inl (passed.1, none-after _ _ (f.script.left ∙ parts.0), p.0.tells true (λ x q. tt))
  told (Ok u) (inr w) = stopped (Ok false) w w.last refl w.front w.allowed
  told (Err x) w = stopped (Err x) w w.last refl w.front w.allowed

  module _ (answer : Result (Unit {0}) AllocError) (w : IsMerged (passes left right missed shared) order s answer t) where
    -- it stopped at a tree that is missed
    pub told-missed : missed t ≡ true → TellsKeysIn cmp shared (seen ta (left s)) (seen tb (right s)) false
    told-missed m = grind (arith, told answer w)

    -- at two that meet
    pub told-meeting : (x : A) (ls : List A) (y : B) (rs : List B) → missed t ≡ false → left t ≡ x ∷ ls → right t ≡ y ∷ rs
        → IsMeeting cmp ta tb shared (left s) (right s) x ls y rs
    told-meeting x ls y rs m e f = grind (arith, told answer w)

    -- at the end
    pub told-end : missed t ≡ false → (left t ≡ []) ⊎ (right t ≡ [])
        → TellsKeysIn cmp shared (seen ta (left s)) (seen tb (right s)) true
    told-end m e = grind (arith, told answer w)
