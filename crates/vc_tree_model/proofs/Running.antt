-- The machine's steps and runs are functions of maps, up to copies of values.
--     run-is_function        two runs, where the same ones succeed, from maps whose values have one source lead to such maps
use Rattle.std.proofs.Common.{[], ◌∷◌, List, Option, None, Some, Bool, true, false, arith}
use Rattle.std.specs.declared.cmp.Ordering.{Ordering}
use Rattle.vc_tree_model.specs.Value.{IsKept, Copies, itself, copies_trans}
use Rattle.vc_tree_model.specs.Matches.{HaveOneSource}
use Rattle.vc_tree_model.specs.Map.{IsEqualMap}
use Rattle.vc_tree_model.specs.Machine.{Command}
use Rattle.vc_tree_model.specs.Machine.{after, refused, Step, Run}
use Rattle.vc_tree_model.specs.PrefixLaws.{RunIsFunction}
use Rattle.vc_tree_model.proofs.ValueLemmas.{kept-trans}

module _ {K V : Type 0} (cmp : K → K → Ordering) (matches : V → V → Type 0) (r : (v : V) → matches v v) where
  -- a command that was accepted
  after-equal : (c : Command K V) (m n : List K → Option V) → IsEqualMap matches m n
      → IsEqualMap matches (after cmp c m) (after cmp c n)
  after-equal c m n h k = grind arith

  -- a command that was refused
  refused-equal : (c : Command K V) (m n : List K → Option V) → IsEqualMap matches m n
      → IsEqualMap matches (refused cmp c m) (refused cmp c n)
  refused-equal c m n h k = grind arith

module _ {V : Type 0} (is_clone : V → V → Type 0) where
  -- a copy of a copy
  over : (a b c : Option V) → IsKept (Copies is_clone) a b → IsKept (Copies is_clone) b c → IsKept (Copies is_clone) a c
  over a b c h g = kept-trans (Copies is_clone) (λ u v w p q. copies_trans p q) a b c h g

  -- two copies have one source
  of-source : (a b c : Option V) → IsKept (Copies is_clone) a b → IsKept (Copies is_clone) a c
      → IsKept (HaveOneSource is_clone) b c
  of-source a b c h g = grind arith

  -- the source of two values, of which both are copies
  abbrev source : (a b : Option V) → IsKept (HaveOneSource is_clone) a b → Option V
  source None b h = None
  source (Some v) None h = None
  source (Some v) (Some w) h = Some h.0

  source-left : (a b : Option V) (h : IsKept (HaveOneSource is_clone) a b) → IsKept (Copies is_clone) (source a b h) a
  source-left a b h = grind arith

  source-right : (a b : Option V) (h : IsKept (HaveOneSource is_clone) a b) → IsKept (Copies is_clone) (source a b h) b
  source-right a b h = grind arith

module _ {K V : Type 0} (cmp : K → K → Ordering) (is_clone : V → V → Type 0) where
  -- the map after a command, as it was accepted or refused
  abbrev ended : Command K V → Bool → (List K → Option V) → List K → Option V
  ended c true m = after cmp c m
  ended c false m = refused cmp c m

  -- from copies of the values of s a step leads to copies of those to which it leads from s
  step-copied : (s m next : List K → Option V) (c : Command K V) (ok : Bool) → IsEqualMap (Copies is_clone) s m
      → Step cmp (Copies is_clone) m c ok next → IsEqualMap (Copies is_clone) (ended c ok s) next
  step-copied s m next c true h p k =
      over is_clone _ _ (next k) (after-equal cmp (Copies is_clone) (λ v. itself) c s m h k) (p k)
  step-copied s m next c false h p k =
      over is_clone _ _ (next k) (refused-equal cmp (Copies is_clone) (λ v. itself) c s m h k) (p k)

  -- so one step after another
  run-copied : (s m n : List K → Option V) (cs : List (Command K V)) (oks : List Bool) (m' n' : List K → Option V)
      → IsEqualMap (Copies is_clone) s m → IsEqualMap (Copies is_clone) s n → Run cmp (Copies is_clone) m cs oks m'
      → Run cmp (Copies is_clone) n cs oks n' → IsEqualMap (HaveOneSource is_clone) m' n'
  run-copied s m n [] [] m' n' f g p q k =
      of-source is_clone (s k) (m' k) (n' k) (over is_clone (s k) (m k) (m' k) (f k) (p k))
      (over is_clone (s k) (n k) (n' k) (g k) (q k))
  run-copied s m n (c ∷ cs) (ok ∷ oks) m' n' f g p q k =
      grind (arith, run-copied (ended c ok s) p.0 q.0 cs oks m' n', step-copied)
  run-copied s m n x y m' n' f g p q k = absurd p

  -- from maps whose values have one source a list of commands, accepted alike, leads to such maps
  pub run-is_function : RunIsFunction K V cmp is_clone
  run-is_function m n cs oks m' n' h p q =
      run-copied (λ k. source is_clone (m k) (n k) (h k)) m n cs oks m' n'
      (λ k. source-left is_clone (m k) (n k) (h k)) (λ k. source-right is_clone (m k) (n k) (h k)) p q
