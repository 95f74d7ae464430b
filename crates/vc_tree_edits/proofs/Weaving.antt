-- A list into which comers are put at their places.
--     woven-run        more trees behind the last comer
--     woven-comer        a comer behind all trees
use Rattle.std.proofs.Common.{◌≡◌, ℕ, ◌+◌, ◌-◌, ◌≤◌, [], ◌∷◌, ◌++◌, List, refl, drop, length, append_assoc}
use Rattle.std.proofs.Common.{arith, length-drop}
use Rattle.std.proofs.lemmas.List.{take-append-le, drop-append-le, take_all}
use Rattle.std.proofs.Math.ListN.{drop_of_length-le}
use Rattle.vc_tree_edits.specs.declared.comers.Comer.{Comer}
use Rattle.vc_tree_edits.specs.Woven.{comer, woven, AreWithin}

module _ {T : Type 0} where
  pub within-more : (m n : ℕ) (cs : List (Comer T)) → m ≤ n → AreWithin m cs → AreWithin n cs
  within-more m n [] h a = tt
  within-more m n (c ∷ cs) h a = let k = a.0 in (omega (arith, k, h), within-more m n cs h a.1)

  pub within-comer : (m : ℕ) (t : T) (cs : List (Comer T)) → AreWithin m cs → AreWithin m (cs ++ (comer m t ∷ []))
  within-comer m t [] a = (omega arith, tt)
  within-comer m t (c ∷ cs) a = (a.0, within-comer m t cs a.1)

  -- more trees behind the last comer
  pub woven-run : (n : ℕ) (ks run : List T) (cs : List (Comer T)) (p : ℕ) → p ≡ n + length ks → AreWithin p cs
      → woven n (ks ++ run) cs ≡ woven n ks cs ++ run
  woven-run n ks run [] p e a = refl
  woven-run n ks run (c ∷ cs) p e a =
      let long = length-drop (c.place - n) ks in
      let more = woven-run (n + (c.place - n)) (drop (c.place - n) ks) run cs p (omega (arith, long, e, a.0)) a.1 in
      grind (arith, take-append-le (c.place - n) ks run, drop-append-le (c.place - n) ks run, more, append_assoc, a.0)

  -- a comer behind all trees
  pub woven-comer : (n : ℕ) (ks : List T) (t : T) (cs : List (Comer T)) (p : ℕ) → p ≡ n + length ks → AreWithin p cs
      → woven n ks (cs ++ (comer p t ∷ [])) ≡ woven n ks cs ++ (t ∷ [])
  woven-comer n ks t [] p e a = grind (arith, take_all, drop_of_length-le)
  woven-comer n ks t (c ∷ cs) p e a =
      let long = length-drop (c.place - n) ks in
      let more = woven-comer (n + (c.place - n)) (drop (c.place - n) ks) t cs p (omega (arith, long, e, a.0)) a.1 in
      grind (arith, more, append_assoc)
