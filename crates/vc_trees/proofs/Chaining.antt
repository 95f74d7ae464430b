-- A chain of steps, as it grows by one command after another.
--     Leads matches step m cs oks n        what a run does from n on, it does from m on after these commands
--     leads-turn, leads-through        one command more, and all of them
use Rattle.std.proofs.Common.{◌≡◌, ◌∙◌, ◌+◌, ◌<◌, ◌≤◌, ℕ, [], ◌∷◌, ◌++◌, List, Option, Bool, ap}
use Rattle.std.proofs.Common.{subst, sym, length, map, take, set, refl}
use Rattle.std.proofs.lemmas.Grind.{take-set_at}
use Rattle.std.proofs.lemmas.List.{append_assoc, append-nil, length_push, map-append, map-id, take_all}
use Rattle.std.specs.List.{enumerate_from}
use Rattle.vc_tree_model.specs.Machine.{Command, RunBy}
use Rattle.vc_tree_model.specs.Map.{IsEqualMap}

module _ {K V : Type 0} (matches : V → V → Type 0)
    (step : (List K → Option V) → Command K V → Bool → (List K → Option V) → Type 0) where
  -- what a run does from the map n on, it does from the map m on behind these commands
  abbrev pub Leads : (List K → Option V) → List (Command K V) → List Bool → (List K → Option V) → Type 0
  Leads m cs oks n =
      (more : List (Command K V)) (flags : List Bool) (end : List K → Option V) → RunBy matches step n more flags end
      → RunBy matches step m (cs ++ more) (oks ++ flags) end

  -- one command more
  leads-on : (m n next : List K → Option V) (cs : List (Command K V)) (oks : List Bool) (c : Command K V) (ok : Bool)
      → Leads m cs oks n → step n c ok next → Leads m (cs ++ c ∷ []) (oks ++ ok ∷ []) next
  leads-on m n next cs oks c ok h s more flags end r =
      subst (λ xs. RunBy matches step m xs ((oks ++ ok ∷ []) ++ flags) end) (sym (append_assoc cs (c ∷ []) more))
      (subst (λ xs. RunBy matches step m (cs ++ c ∷ more) xs end) (sym (append_assoc oks (ok ∷ []) flags))
      (h (c ∷ more) (ok ∷ flags) end (next, s, r)))

  module _ {X : Type 0} (f : X → Command K V) where
    -- the command at the next place, whose flag is set
    pub leads-turn : (m n next : List K → Option V) (done : List (ℕ × X)) (at : ℕ) (x : X) (flags : List Bool) (ok : Bool)
        → at ≡ length done → at < length flags → Leads m (map (λ p. f p.1) done) (take (length done) flags) n
        → step n (f x) ok next
        → Leads m (map (λ p. f p.1) (done ++ (at, x) ∷ [])) (take (length (done ++ (at, x) ∷ [])) (set flags at ok)) next
    leads-turn m n next done at x flags ok e within h s =
        let more = length_push done (at, x) ∙ ap (λ i. i + 1) (sym e) in
        let kept = take-set_at flags at (length (done ++ (at, x) ∷ [])) ok more within ∙ ap (λ i. take i flags ++ ok ∷ []) e in
        subst (λ cs. Leads m cs (take (length (done ++ (at, x) ∷ [])) (set flags at ok)) next)
        (sym (map-append (λ p. f p.1) done ((at, x) ∷ [])))
        (subst (λ oks. Leads m (map (λ p. f p.1) done ++ f x ∷ []) oks next) (sym kept)
        (leads-on m n next (map (λ p. f p.1) done) (take (length done) flags) (f x) ok h s))

    -- commands with their places are those commands
    unplaced : (i : ℕ) (xs : List X) → map (λ p. f p.1) (enumerate_from i xs) ≡ map f xs
    unplaced i [] = refl
    unplaced i (x ∷ xs) = ap (λ cs. f x ∷ cs) (unplaced (i + 1) xs)

    -- all commands are a run
    pub leads-through : (m n : List K → Option V) (xs : List X) (done : List (ℕ × X)) (flags : List Bool)
        → map (λ p. (p.0, p.1)) done ≡ enumerate_from 0 xs → length flags ≤ length done
        → Leads m (map (λ p. f p.1) done) (take (length done) flags) n → IsEqualMap matches n n
        → RunBy matches step m (map f xs) flags n
    leads-through m n xs done flags e all h same =
        let placed = ap (λ ps. map (λ p. f p.1) ps) (sym (map-id done) ∙ e) ∙ unplaced 0 xs in
        subst (λ cs. RunBy matches step m cs flags n) placed
        (subst (λ oks. RunBy matches step m (map (λ p. f p.1) done) oks n) (take_all (length done) flags all)
        (subst (λ cs. RunBy matches step m cs (take (length done) flags) n) (append-nil (map (λ p. f p.1) done))
        (subst (λ oks. RunBy matches step m (map (λ p. f p.1) done ++ []) oks n) (append-nil (take (length done) flags))
        (h [] [] n same))))
