use Rattle.std.proofs.Common.{rules, ◌≡◌, ◌∙◌, ap, sym, subst, ◌++◌, ◌∷◌, [], OnOk}
use Rattle.std.proofs.lemmas.List.{append-nil}
use Rattle.std.specs.Map.{keys_of}
use Rattle.std.specs.Ordering.{nat_cmp}
use Rattle.std.specs.String.{string_bytes}
use Rattle.vec_collections.specs.IterLeft.{pairs_left}
use Rattle.vec_collections.specs.Map.{lookup}
use Rattle.vec_collections.specs.Walk.{IsWalk, walk}
use Rattle.vecbench_lines.specs.KeyLists.{keys_text, others_text}
use Rattle.vecbench_lines.proofs.Listing.{walk-listed, none-listed}
use Rattle.vecbench_lines.proofs.Replying.{on_ok-map}
use Rattle.vecbench_lines.proofs.keys.put_keys.Goals as goal

pub returns-in_default : goal.returns-in_default
returns-in_default c =
    let none : walk c.args.tree.now ≡ [] = sym c.iter-pairs.ensures.all ∙ c.in_default.ensures.steps.0 in
    let dash : OnOk c.push.result (string_bytes c.push.new.self ≡ string_bytes c.args.text.now ++ 45 ∷ []) = search rules in
    let is_walk : IsWalk nat_cmp (lookup nat_cmp c.args.tree.now) (walk c.args.tree.now) =
    subst (λ l. IsWalk nat_cmp (lookup nat_cmp c.args.tree.now) l) c.iter-pairs.ensures.all c.iter-pairs.ensures.ascending in
    on_ok-map c.push.result (λ written. (45 ∷ [], none-listed _ _ is_walk none, written)) dash

pub returns : goal.returns
returns c =
    let text = string_bytes c.loop-pair.text in
    let is_walk : IsWalk nat_cmp (lookup nat_cmp c.args.tree.now) (walk c.args.tree.now) =
    subst (λ l. IsWalk nat_cmp (lookup nat_cmp c.args.tree.now) l) c.iter-pairs.ensures.all c.iter-pairs.ensures.ascending in
    let left : pairs_left (λ t. t) c.loop-pair.pair-iterator ≡ [] = c.in-None.ensures.steps.0 in
    let written : text ≡ string_bytes c.args.text.now ++ keys_text (keys_of (walk c.args.tree.now)) =
    sym (append-nil text) ∙ ap (λ l. text ++ others_text (keys_of l)) (sym left) ∙ c.loop-pair.invariant.2 in
    (keys_text (keys_of (walk c.args.tree.now)), walk-listed _ _ is_walk, written)
