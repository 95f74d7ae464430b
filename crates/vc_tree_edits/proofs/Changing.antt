-- A change of a tree that was taken apart.
--     faced-taken        the parts face the right tree as the tree did
--     asked-taken        what may be asked at each key of the tree, may be asked at each key of its parts
--     taken-nodes        the parts have as many nodes
--     made-taken        what is made of the parts is what the change says of the tree
use Rattle.std.proofs.Common.{◌≡◌, ◌+◌, ℕ, List, Option, arith, drop}
use Rattle.std.proofs.lemmas.List.{drop-drop}
use Rattle.std.specs.declared.cmp.Ordering.{Ordering}
use Rattle.vc_tree_model.specs.Value.{IsKept}
use Rattle.vc_tree_model.specs.Tree.{Tree, nodes, shortened}
use Rattle.vc_tree_model.specs.Map.{lookup}
use Rattle.vc_tree_model.proofs.AlikeLemmas.{alike-nodes, tree-alike_lookup}
use Rattle.vc_tree_model.specs.Look.{Look}
use Rattle.vc_tree_facing.specs.Facing.{IsFaced, IsOpened, IsSplit}
use Rattle.vc_tree_facing.specs.Made.{IsBothMadeBy}
use Rattle.vc_tree_edits.specs.Taken.{IsMet, IsTaken}

-- what is below a place of the right tree, by its whole prefix
pub met-right : {K V W B : Type 0} {cmp : K → K → Ordering} {tb : B → Tree K W} {t : Tree K V} {i : ℕ} (j : ℕ) (u : Tree K W)
    {n : ℕ} {zs : List B} {m : ℕ} → IsSplit cmp t i u j n → IsOpened tb u (drop (j + n) u.prefix) zs m
    → IsMet cmp tb (shortened i t) (shortened j u) n zs m
met-right j u {n} s h = record {
  agree = s.agree;
  parts = s.parts;
  right = rw (drop-drop n j u.prefix) (record { children = grind (arith, h.children); smaller = h.smaller; first = h.first });
}

-- the parts have as many nodes
pub taken-nodes : {K V T : Type 0} {tree : T → Tree K V} {keeps : V → V → Type 0} {t : Tree K V} {n : ℕ} {front : List K}
    {value : Option V} {list : List T} {from : ℕ} (h : IsTaken tree keeps t n front value list from) → nodes h.taken ≡ nodes t
taken-nodes h = grind (arith, alike-nodes)

module _ {K V W T B : Type 0} {cmp : K → K → Ordering} {tree : T → Tree K V} {tb : B → Tree K W} {keeps : V → V → Type 0}
    {t : Tree K V} {u : Tree K W} {n : ℕ} {ys : List B} {j : ℕ} {front : List K} {value : Option V} {list : List T} {from : ℕ}
    (h : IsTaken tree keeps t n front value list from) (m : IsMet cmp tb t u n ys j) where
  -- the parts stand beside the right tree as the tree did
  pub faced-taken : IsFaced cmp tree tb h.taken u n list from ys j
  faced-taken = grind arith

  module _ {O : Type 0} (l : Look cmp W O) where
    -- what may be asked at each key of the tree, may be asked at each key of its parts
    pub asked-taken : (asks : Option V → O → Type 0)
        → ((v w : Option V) (z : O) → IsKept keeps v w → asks v z → asks w z)
        → ((k : List K) → asks (lookup cmp t k) (l.of_tree u k)) → (k : List K) → asks (lookup cmp h.taken k) (l.of_tree u k)
    asked-taken asks kept a k = grind (arith, tree-alike_lookup)

    -- what is made of the parts is what the change says of the tree
    pub made-taken : {R : Option V → O → Option V → Type 0}
        → ((v w : Option V) (z : O) (y : Option V) → IsKept keeps v w → R w z y → R v z y) → {o : Option (Tree K V)}
        → IsBothMadeBy cmp l R h.taken u o → IsBothMadeBy cmp l R t u o
    made-taken kept m = grind (arith, tree-alike_lookup)
