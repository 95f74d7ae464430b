-- Values and trees that are copied, and calls of the closures of combines.
--     kept_copies, ok-copies        clones are copies
--     copy-added        a copy was added
--     shortened-binds        what a copy of a shortened tree binds
--     may-answer, may-answer_at        what a call answers
use Rattle.std.proofs.Common.{◌≡◌, ℕ, ◌<◌, ◌++◌, ◌∷◌, [], List, Option, Some, Result, Ok, Err, IfOk, refl, sym, arith}
use Rattle.std.proofs.Common.{take, drop, length, map}
use Rattle.std.specs.Prelude.{OnOk}
use Rattle.std.specs.Cmp.{IsTotalOrder}
use Rattle.std.specs.Option.{option_copied}
use Rattle.std.specs.declared.cmp.Ordering.{Ordering}
use denote.Ref.{Bor}
use denote.Param.Members.{Shared}
use Rattle.vc_tree_model.specs.Asking.{MayAnswer, MayAnswerAt}
use Rattle.vc_tree_model.specs.Tree.{Tree, node, shortened}
use Rattle.vc_tree_model.specs.Map.{node_lookup, lookup, lookup_in}
use Rattle.vc_tree_model.specs.Value.{IsKept, Copies, itself, cloned}
use Rattle.std.proofs.lemmas.List.{take-append-drop, map-append}
use Rattle.vc_tree_model.specs.Shortened.{IsShortened}
use Rattle.vc_tree_model.specs.Same.{IsAlike}
use Rattle.vc_tree_model.proofs.AlikeLemmas.{tree-alike_lookup}
use Rattle.vc_tree_model.proofs.KeyLemmas.{then_behind, behind-append, behind-itself}
use Rattle.vc_tree_model.specs.Canonical.{IsCanonical}
use Rattle.vc_tree_model.specs.Look.{values}
use Rattle.vc_tree_facing.specs.Made.{IsMade, IsMadeOf}
use Rattle.vc_tree_facing.proofs.Copied.{copied-by}
use Rattle.vc_tree_combines.specs.Making.{IsAdded}
use Rattle.vc_tree_combines.proofs.Runs.{on-ok}

-- a clone is a copy
pub kept_copies : {V : Type 0} (is_clone : V → V → Type 0) (v z : Option V) → IsKept is_clone v z → IsKept (Copies is_clone) v z
kept_copies is_clone (Some v) (Some z) h = cloned h itself
kept_copies is_clone v z h = grind arith

pub ok-copies : {V E : Type 0} (is_clone : V → V → Type 0) (v : Option V) (r : Result (Option V) E) → IfOk r (IsKept is_clone v)
    → IfOk r (IsKept (Copies is_clone) v)
ok-copies is_clone v r h = grind (arith, kept_copies)

-- a copy was added of what one side alone has
pub copy-added : {K V W X M E : Type 0} {cmp : K → K → Ordering} (is_clone : X → X → Type 0) (t : Tree K X) (i : ℕ)
    (tree : M → Tree K X) {R : Option V → Option W → Option X → Type 0} {a : Option (Tree K V)} {b : Option (Tree K W)}
    {S : Option X → Option X → Type 0} → ((v z : Option X) → IsKept is_clone v z → S v z)
    → ((o : Option (Tree K X)) → IsMade cmp S (shortened i t) o → IsMadeOf cmp (values cmp) R a b o) → IsCanonical cmp t
    → i < length t.prefix → (r : Result (Unit {0}) E) (old new : List M)
    → OnOk r ((copy : M) × (new ≡ old ++ copy ∷ []) × IsAlike is_clone (shortened i t) (tree copy))
    → OnOk r (IsAdded cmp R a b (map tree old) (map tree new))
copy-added {cmp = cmp} is_clone t i tree {S = S} kept made c within r old new h =
    on-ok r h
    (λ p. record {
      one = Some (tree p.0);
      made = made _ (copied-by cmp is_clone t (tree p.0) i c within p.2 S kept);
      is = rw p.1 (map-append tree old (p.0 ∷ []));
    })

-- what a tree binds behind the front of its prefix
lookup-front : {K V : Type 0} (cmp : K → K → Ordering) → IsTotalOrder cmp → (t : Tree K V) (p rest k : List K)
    → t.prefix ≡ p ++ rest → lookup cmp t (p ++ k) ≡ lookup cmp (node rest t.value t.children) k
lookup-front cmp o t p rest k e = grind (arith, node_lookup, lookup_in, behind-append, then_behind, behind-itself)

-- a copy of a shortened tree binds what is left of the keys
pub shortened-binds : {K V : Type 0} (cmp : K → K → Ordering) → IsTotalOrder cmp → (keeps : V → V → Type 0) (n : ℕ)
    (t u : Tree K V) → IsAlike keeps (shortened n t) u → IsShortened cmp keeps n t u
shortened-binds cmp o keeps n t u a k =
    rw (lookup-front cmp o t (take n t.prefix) (drop n t.prefix) k (sym (take-append-drop n t.prefix)))
    (tree-alike_lookup keeps cmp (shortened n t) u a k)

-- what a call answers
pub may-answer : {V W F E X : Type 0} (g : Shared F (Bor V × (Bor W × Unit {0})) (Result X E)) (f : F) (p : Bor V) (q : Bor W)
    (r : Result X E) → g.post f (p, (q, tt)) r → IfOk r (λ z. MayAnswer g f p.now q.now (Ok z))
may-answer g f p q (Ok z) h = record { left = p; right = q; shows = (refl, refl); answers = h }
may-answer g f p q (Err e) h = tt

-- and one of what the right tree binds, if anything
pub may-answer_at : {V W F E X : Type 0} (g : Shared F (Bor V × (Option (Bor W) × Unit {0})) (Result X E)) (f : F) (p : Bor V)
    (q : Option (Bor W)) (r : Result X E) → g.post f (p, (q, tt)) r → IfOk r (λ z. MayAnswerAt g f p.now (option_copied q) (Ok z))
may-answer_at g f p q (Ok z) h = record { left = p; right = q; shows = (refl, refl); answers = h }
may-answer_at g f p q (Err e) h = tt
