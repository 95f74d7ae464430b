-- An error is that of a refusal, or the closure's at some port.
use Rattle.std.proofs.Common.{rules, ◌≡◌, ◌<◌, ◌≤◌, ◌∷◌, Contains, arith, length, refl, sym, subst}
use Rattle.std.proofs.Math.Logic.{⊎_map}
use Rattle.std.proofs.lemmas.List.Elements.{Contains-append_right}
use Rattle.std.proofs.lemmas.Result.{IfErr-weaker}
use Rattle.vec_collections.specs.Walk.{walk}
use Rattle.vec_collections_tests.specs.declared.walks.Uncounted.TheVariants.{Port}
use Rattle.vec_collections_tests.proofs.walks.count_ports_below.Goals as goal

pub returns : goal.returns
returns g c =
    let w = walk (g.T.RadixNode.tree c.args.ports.now) in
    record {
      above = IfErr-weaker c.fold.result _ _ (λ e. ⊎_map (λ m. m) (λ s.
          let shown = s.fails.shows in
          let said = s.fails.says in
          let first : 0 < length (s.pair ∷ s.after) = omega (arith) in
          let at : Contains w s.pair = subst (λ l. Contains l s.pair) (sym s.parts)
          (Contains-append_right s.before (s.pair ∷ s.after) s.pair (0, first, refl)) in
          let port : (c.args.limit ≤ s.pair.1) × (e ≡ Port s.pair.1) = search rules in
          (s.pair, at, port.0, port.1))) c.fold.ensures.err;
    }
