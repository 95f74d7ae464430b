-- Walks that pass a value from pair to pair.
use Rattle.std.specs.Prelude.{◌≡◌, List, [], ◌∷◌, ◌++◌, map, Ok, Err, IfOk}
use Rattle.std.proofs.Common.{subst, sym}
use Rattle.std.specs.List.{fold, FoldsTo}
use Rattle.std.specs.declared.result.Result.{Result}
use denote.Ref.{Bor}
use denote.Param.Members.{Shared}
use Rattle.vc_tree_model.specs.Tree.{Tree}
use Rattle.vc_tree_model.specs.Walk.{prepended, walk_in}
use Rattle.vc_tree_nodes.specs.Children.{seen}

module _ {K V T : Type 0} (tree : T → Tree K V) where
  -- the pairs of some trees, with a key before theirs
  abbrev pub pairs_in : List K → List T → List (List K × V)
  pairs_in key list = map (prepended key) (walk_in (seen tree list))

module _ {F B K V E : Type 0} (g : Shared F (B × (Bor (List K) × (Bor V × Unit {0}))) (Result B E)) (f : F) where
  -- the closure may answer this value to that one and the pair
  pub record Turns (held : B) (pair : List K × V) (next : B) : Type 0 where
    pub key : Bor (List K)
    pub value : Bor V
    pub shows : (key.now, value.now) ≡ pair
    pub says : g.post f (held, (key, (value, tt))) (Ok next)

  -- the closure may be called at each pair of the list, with its answer at the pair before
  abbrev pub CanFold : B → List (List K × V) → Type 0
  CanFold init l = (before after : List (List K × V)) (held : B) (key : Bor (List K)) (value : Bor V)
      → l ≡ before ++ (key.now, value.now) ∷ after → FoldsTo Turns init before held → g.pre f (held, (key, (value, tt)))

  -- the closure may answer this error to that value and the pair
  pub record TurnFails (held : B) (pair : List K × V) (error : E) : Type 0 where
    pub key : Bor (List K)
    pub value : Bor V
    pub shows : (key.now, value.now) ≡ pair
    pub says : g.post f (held, (key, (value, tt))) (Err error)

  -- the closure answers this error at some pair of the list, called with its answer at the pair
  -- before
  pub record IsStopped (init : B) (l : List (List K × V)) (error : E) : Type 0 where
    pub before : List (List K × V)
    pub pair : List K × V
    pub after : List (List K × V)
    pub held : B
    pub parts : l ≡ before ++ pair ∷ after
    pub folded : FoldsTo Turns init before held
    pub fails : TurnFails held pair error

  -- where each answer is that of a function of the value and the pair, the last one is its fold
  -- over the list
  pub folds-as : (h : B → List K × V → B) → ((held : B) (pair : List K × V) (next : B) → Turns held pair next → next ≡ h held pair)
      → (l : List (List K × V)) (init : B) (r : Result B E) → IfOk r (FoldsTo Turns init l) → IfOk r (λ last. last ≡ fold h init l)
  folds-as h each l init (Err e) s = tt
  folds-as h each l init (Ok last) s = by l init s
    where
      by : (l : List (List K × V)) (init : B) → FoldsTo Turns init l last → last ≡ fold h init l
      by [] init s = sym s
      by (b ∷ l) init s = subst (λ next. last ≡ fold h next l) (each init b s.0 s.1) (by l s.0 s.2)

  -- the same over some list
  pub folds-some-as : (h : B → List K × V → B)
      → ((held : B) (pair : List K × V) (next : B) → Turns held pair next → next ≡ h held pair)
      → (W : List (List K × V) → Type 0) (init : B) (r : Result B E)
      → IfOk r (λ last. (l : List (List K × V)) × W l × FoldsTo Turns init l last)
      → IfOk r (λ last. (l : List (List K × V)) × W l × (last ≡ fold h init l))
  folds-some-as h each W init (Err e) s = tt
  folds-some-as h each W init (Ok last) s = (s.0, s.1, folds-as h each s.0 init (Ok last) s.2)

  -- where each answer is that of a function of the value and the pair, the error ends its fold over
  -- the pairs before
  pub stops-as : (h : B → List K × V → B)
      → ((held : B) (pair : List K × V) (next : B) → Turns held pair next → next ≡ h held pair)
      → (l : List (List K × V)) (init : B) (error : E) → IsStopped init l error
      → (before : List (List K × V)) × (pair : List K × V) × (after : List (List K × V)) × (l ≡ before ++ pair ∷ after)
      × TurnFails (fold h init before) pair error
  stops-as h each l init error s =
      let same = folds-as h each s.before init (Ok s.held) s.folded in
      (s.before, s.pair, s.after, s.parts, subst (λ held. TurnFails held s.pair error) same s.fails)
