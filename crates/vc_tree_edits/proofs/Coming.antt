-- A list that is changed in place, into which trees of the right side come.
--     added-done        right trees that come in are done
--     coming-done        the trees before the next pair are done
use Rattle.std.proofs.Common.{◌≡◌, ℕ, ◌+◌, ◌≤◌, [], ◌∷◌, ◌++◌, List, Option, Some, true, refl}
use Rattle.std.proofs.Common.{map, take, drop, length, length-append, slice_get, append_assoc, append-nil, arith}
use Rattle.std.proofs.lemmas.List.{map-append, drop-drop, length-take-le}
use Rattle.std.specs.List.{AllByRecursion, cons_option}
use Rattle.std.specs.declared.cmp.Ordering.{Ordering}
use Rattle.vc_merge.specs.Chain.{Run, of_left, of_right, of_both, events}
use Rattle.vc_merge.specs.Script.{lefts}
use Rattle.vc_merge.proofs.ListLemmas.{each-weaker}
use Rattle.vc_tree_model.specs.Look.{Look}
use Rattle.vc_tree_model.specs.Tree.{Tree}
use Rattle.vc_tree_model.specs.Value.{IsKept}
use Rattle.vc_tree_facing.specs.Doing.{IsDoing}
use Rattle.vc_tree_facing.specs.Sides.{by_component, by_component_total, side_next}
use Rattle.vc_tree_facing.specs.declared.sides.EventSide.TheVariants.{Right}
use Rattle.vc_tree_facing.proofs.Next.{done, right-next, made-right}
use Rattle.vc_tree_edits.specs.Pairs.{ArePassed}
use Rattle.vc_tree_edits.specs.Woven.{comer, woven, ComesAs, AreAdded, AreNoted, AreWithin, IsNextNoted}
use Rattle.vc_tree_edits.specs.declared.comers.Comer.{Comer}
use Rattle.vc_tree_edits.proofs.Passing.{run-left, run-right}
use Rattle.vc_tree_edits.proofs.Sifted.{first-above, lefts-done, passed-front}
use Rattle.vc_tree_edits.proofs.Weaving.{within-more, within-comer, woven-run, woven-comer}

module _ {K V W O A B : Type 0} {cmp : K → K → Ordering} {ta : A → Tree K V} {tb : B → Tree K W} {i j : ℕ} {l : Look cmp W O}
    {R : Option V → O → Option V → Type 0} {asks : Option V → O → Type 0} {xs : List A} {ys : List B} where
  -- right trees that come in are done, by what is built of those that were added
  pub added-done : {X : Type 0} (put : A → X) (built : List X → List A) (P : List X → Type 0)
      → ((cs : List X) (t : A) → P cs → (built (cs ++ (put t ∷ [])) ≡ built cs ++ (t ∷ [])) × P (cs ++ (put t ∷ [])))
      → (zs : List B) (cs cs' : List X) {ls : List A} {rs : List B}
      → IsDoing cmp ta tb i j l R asks xs ys ls (zs ++ rs) (map ta (built cs))
      → AllByRecursion (λ y. side_next (by_component ta tb i j cmp) (slice_get ls 0) (Some y) ≡ Some Right) zs → P cs
      → AreAdded (ComesAs cmp l R ta tb j) put zs cs cs'
      → IsDoing cmp ta tb i j l R asks xs ys ls rs (map ta (built cs')) × P cs'
  added-done put built P adds [] cs cs' d s p a = rw a (d, p)
  added-done put built P adds (z ∷ zs) cs cs' d s p a =
      let more = adds cs a.0 p in
      let came =
      done (right-next d s.0 refl) {u = Some (ta a.0)} (rw more.0 (map-append ta (built cs) (a.0 ∷ []))) (made-right a.1) in
      added-done put built P adds zs (cs ++ (put a.0 ∷ [])) cs' came s.1 more.1 a.2

module _ {K V W O A B : Type 0} {cmp : K → K → Ordering} {ta : A → Tree K V} {tb : B → Tree K W} {j : ℕ} {l : Look cmp W O}
    {R : Option V → O → Option V → Type 0} {asks : Option V → O → Type 0} {xs : List A} {ys : List B}
    (keeps : V → V → Type 0) (itself : (v : V) → keeps v v)
    (alone : (v z : Option V) → IsKept keeps v z → R v l.none z) where
  noted-done : (runs : List (Run A B)) (ks : List A) (cs cs' : List (Comer A)) {ls ls' : List A} {rs rs' : List B}
      → IsDoing cmp ta tb 0 j l R asks xs ys ls rs (map ta (woven 0 ks cs)) → AreWithin (length ks) cs
      → ArePassed (by_component ta tb 0 j cmp) runs ls rs ls' rs' → AreNoted (ComesAs cmp l R ta tb j) (length ks) runs cs cs'
      → IsDoing cmp ta tb 0 j l R asks xs ys ls' rs' (map ta (woven 0 (ks ++ lefts (events runs)) cs'))
      × AreWithin (length (ks ++ lefts (events runs))) cs'
  noted-done [] ks cs cs' d w p a = rw (append-nil ks, a, ← p.0, ← p.1) (d, w)
  noted-done (of_left zs ∷ runs) ks cs cs' d w p a =
      let passed = lefts-done keeps itself true alone zs (rw p.1 at d) p.2 in
      let run = woven-run 0 ks zs cs (length ks) (omega arith) w in
      rw ((run-left zs (events runs)).0, ← append_assoc ks zs (lefts (events runs)))
      (noted-done runs (ks ++ zs) cs cs' (rw (run, map-append ta (woven 0 ks cs) zs) passed)
      (within-more _ _ cs (omega (arith, length-append ks zs)) w) p.3 (rw (length-append ks zs) a))
  noted-done (of_right zs ∷ runs) ks cs cs' {ls} d w p a =
      let came =
      added-done (comer (length ks)) (woven 0 ks) (AreWithin (length ks))
      (λ cs t w. (woven-comer 0 ks t cs (length ks) (omega arith) w, within-comer (length ks) t cs w)) zs cs a.0 (rw p.1 at d)
      (each-weaker _ _ (λ z q. first-above (by_component ta tb 0 j cmp) (by_component_total ta tb 0 j d.total) z ls q) zs p.2)
      w a.1 in
      rw ((run-right zs (events runs)).0) (noted-done runs ks a.0 cs' came.0 came.1 p.3 a.2)
  noted-done (of_both x y ∷ runs) ks cs cs' d w p a = absurd p

  -- the trees before the next pair are done
  pub coming-done : (ls : List A) (at kept : ℕ) (cs cs' : List (Comer A)) {rs : List B}
      → IsDoing cmp ta tb 0 j l R asks xs ys (drop at ls) rs (map ta (woven 0 (take kept ls) cs))
      → AreWithin (length (take kept ls)) cs → kept ≤ length ls → {n : ℕ} {found : Option B} {rest : List B}
      → (p : IsNextNoted (ComesAs cmp l R ta tb j) (by_component ta tb 0 j cmp) kept (drop at ls) rs n found rest cs cs')
      → (ls' : List A) (kept' : ℕ) → take kept' ls' ≡ take kept ls ++ take n (drop at ls) → drop (at + n) ls' ≡ drop (at + n) ls
      → IsDoing cmp ta tb 0 j l R asks xs ys (drop (at + n) ls') (cons_option found rest) (map ta (woven 0 (take kept' ls') cs'))
      × AreWithin (length (take kept' ls')) cs'
  coming-done ls at kept cs cs' d w h {n} p ls' kept' built same =
      rw (same, ← drop-drop n at ls, built, ← passed-front p.pair)
      (noted-done p.pair.runs (take kept ls) cs cs' d w p.pair.passed (rw (length-take-le kept ls h) p.noted))
