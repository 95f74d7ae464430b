-- `recount` says anew which parts lie in the places. Assumes `Logic`.
use Rattle.vc_builder.proofs.WalkNames.{group, refl, List, [], ◌∷◌, El, layouts, a_type, inst_fn, plain, Stays, stay_ref}
use Rattle.vc_builder.proofs.WalkNames.{Goes-ref, proved, mut_vals, mut_Tells, named, walk_of, ‵, owns}
use Rattle.vc_builder.proofs.WalkNames.{types_at, ◌$◌, !, keep, move, fsplit, fsplit3, enter}
use Rattle.vc_builder.proofs.WalkNames.{alloc_all, pass_all, opens, closes, rewrite, fjoin, sets, of_opd, unit_lit, returns}
use Rattle.vc_builder.proofs.WalkNames.{look_at, free_all, suffices, ends_at, says, join, frame, feq_i, fjoin3, nothing, done}
use Rattle.vc_builder.proofs.WalkNames.{vunit, Option, R, uint_vals, uint_Tells, w64}
use Rattle.circular_buffer.specs.Ownership.{cells_own}
use Rattle.vc_builder.proofs.PlacesMemory.{Row, number-goes}
use Rattle.vc_builder.proofs.WalkNames.{stay_dropped}
use Rattle.vc_builder.proofs.WalkNames.{yes}
use Rattle.vc_builder.proofs.PlacesMemory.{begun}
use Rattle.vc_builder.specs.contracts.inplace.places.Places.recount.{ended, clauses}
use Rattle.vc_builder.specs.contracts.inplace.places.Places.recount.Key.{name as #self}
use Rattle.vc_builder.proofs.inplace.places.Places.recount.Statement.{statement}
use Rattle.vc_builder.proofs.inplace.places.Places.recount.Code as code

pub recount_spec : {M : Type 1} → statement M
recount_spec 𝓤 𝓛 𝓜 𝓡 wired X L =
    let E : El = record { row = X; laws = L } in let Ends = ended X in
    let c = clauses X 𝓛 𝓜.mem 𝓡.returns in
    let inst = layouts (a_type ∷ []) (X, tt) in let fn = inst_fn inst code.function in let self = plain (λ _. Row E) in
    let hs : Stays Ends.signature.params Ends.kept = (stay_ref (0 ∷ []) tt self, (stay_dropped _ yes, tt)) in
    proved 𝓛 Ends hs c 𝓜 𝓡 (Goes-ref 𝓛 2 0 tt self, (number-goes 2 𝓛, tt)) (#self inst) fn (code.unfolded 𝓤 𝓛.H 𝓜 𝓡 wired (X, tt))
    (λ κs. (mut_vals, (uint_vals w64, tt))) (λ κs. (mut_Tells (named 0) κs.0 (Row E), (uint_Tells w64, tt)))
    (λ κs qs bounds a to are.
    let d : (Row E).Denot = a.0.now in let b = a.0.ref_ptr.0 in let o = a.0.ref_ptr.1 in
    let new : (Row E).Denot = record { mark = d.mark; at = d.at; parts = to.0; tail = to.1 } in
    let z : (walk_of 𝓛 Ends hs c).Ghost = ((κs, qs, bounds, a, _), to) in
    -- what is asked: the old parts and the new ones lie alike
    begun 𝓛 κs.0 κs.1.0 qs.0 qs.1.0 (owns (types_at Ends.signature.params κs) a z.0.4) (λ same.
    fsplit ! $ fsplit3 ! $ keep ! (1 ∷ 2 ∷ 4 ∷ 5 ∷ []) $
    -- [what self shows; its borrow; the token; the other tokens]
    enter ! _ _ _ _ _ $ alloc_all ! (λ l. pass_all ! refl ((tt, tt), ((tt, record { fits = are.1.0.1 }), tt)) $
    opens ! tt (Row E) {h = d} b o (λ vs. move ! (1 ∷ []) $ fsplit ! $
    rewrite ! 1 (λ (l : List (Option X.Denot)). ‵ (cells_own (R E) d.at l)) same refl $ fjoin ! $
    move ! (1 ∷ 0 ∷ []) $ closes ! tt (Row E) new vs b o $ sets ! (of_opd ! (unit_lit !)) refl (tt, tt) $
    returns ! (look_at ! 0 refl) $ free_all ! refl $ keep ! (0 ∷ 1 ∷ 2 ∷ 3 ∷ []) $
    suffices ! _ (ends_at 𝓛 Ends hs c z vunit tt (new, (tt, tt)) (tt, (tt, tt))) $ says ! (refl, refl, refl) $
    move ! (2 ∷ 3 ∷ []) $ join ! $ frame ! $ feq_i ! _ (mut_vals a.0) _ refl $ fjoin3 ! $ nothing ! $ nothing ! $
    move ! (2 ∷ []) $ group ! 3 $ frame ! $ feq_i ! _ (vunit ∷ []) _ refl $ done !))))
