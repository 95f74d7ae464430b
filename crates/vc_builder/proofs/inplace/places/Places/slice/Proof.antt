-- `slice` shows the values that are left. Assumes `Logic`.
use Rattle.vc_builder.proofs.WalkNames.{group, !, refl, ap, ◌∙◌, List, [], ◌∷◌, ℕ, ◌+◌, ◌*◌, ◌<◌, ◌^◌}
use Rattle.vc_builder.proofs.WalkNames.{arith, length, full_share, SProp}
use Rattle.vc_builder.proofs.WalkNames.{never, id⊢, Lft, Share, fat, w64, a_type, inst_fn, Val}
use Rattle.vc_builder.proofs.WalkNames.{‵, at_ret, ◌$◌, move, keep, drop, use1}
use Rattle.vc_builder.proofs.WalkNames.{join, rewrite, fsplit, fjoin, feq_i, flt_i, flt_l, suffices}
use Rattle.vc_builder.proofs.WalkNames.{frame, done, whole, sub, agg, stop, fld, bin, of_opd, and_then}
use Rattle.vc_builder.proofs.WalkNames.{no_more, first, blocks, exec, returns, enter, alloc_all, pass_all, free_all}
use Rattle.vc_builder.proofs.WalkNames.{look_at, get, get_in, sets, sets_last, env}
use Rattle.vc_builder.proofs.WalkNames.{tables, RefOf, yes, hide, unhide, layout, layouts, owns, Ptr}
use Rattle.vc_builder.proofs.WalkNames.{in_a_block, plain, types_at, slice_val, elements_shared, nothing, says}
use Rattle.vc_builder.proofs.WalkNames.{Stays, stay_dropped, walk_of, ends_at, Goes-dropped}
use Rattle.vc_builder.proofs.WalkNames.{tail, El, R, times_below, word, word-Good}
use Rattle.circular_buffer.specs.Ownership.{cells_lent}
use Rattle.vc_builder.proofs.WalkNames.{◌+◌}
use Rattle.vc_builder.proofs.PlacesLaid.{length-laid, rest-run}
use Rattle.vc_builder.proofs.PlacesMemory.{sized, all}
use Rattle.vc_builder.proofs.PlacesMemory.{Row, Start, bytes, base-goes}
use Rattle.vc_builder.proofs.PlacesMemory.{number-goes}
use Rattle.vc_builder.proofs.WalkNames.{named, proved, shr_vals, shr_Tells}
use Rattle.circular_buffer.proofs.Memory.{run_seen}
use Rattle.vc_builder.proofs.WalkNames.{uint_vals, uint_Tells}
use Rattle.vc_builder.proofs.PlacesMemory.{base_vals, base-tells}
use Rattle.vc_builder.proofs.WalkNames.{no}
use Rattle.vc_builder.proofs.PlacesMemory.{begun}
use Rattle.vc_builder.specs.contracts.inplace.places.Places.slice.{ended, clauses}
use Rattle.vc_builder.specs.contracts.inplace.places.Places.slice.Key.{name as #self}
use Rattle.vc_builder.proofs.inplace.places.Places.slice.Statement.{statement}
use Rattle.vc_builder.proofs.inplace.places.Places.slice.Code as code

pub slice_spec : {M : Type 1} → statement M
slice_spec 𝓤 𝓛 𝓜 𝓡 wired X L =
    let H = 𝓛.H in let 𝓣 = tables 𝓤 H 𝓜 𝓡 𝓡.env in let E : El = record { row = X; laws = L } in let Ends = ended X in
    let c = clauses X 𝓛 𝓜.mem 𝓡.returns in
    let inst = layouts (a_type ∷ []) (X, tt) in let fn = inst_fn inst code.function in
    let self = RefOf (0 ∷ []) tt (plain (λ _. Row E)) (λ _. tt) in
    let hs : Stays Ends.signature.params Ends.kept
    = (stay_dropped _ yes, (stay_dropped _ no, (stay_dropped _ yes, (stay_dropped _ yes, tt)))) in
    let lent-goes = Goes-dropped 𝓛 2 self yes (λ κs x f. refl) in
    proved 𝓛 Ends hs c 𝓜 𝓡 (lent-goes, (base-goes E 2 𝓛, (number-goes 2 𝓛, (number-goes 2 𝓛, tt))))
    (#self inst) fn (code.unfolded 𝓤 H 𝓜 𝓡 wired (X, tt))
    (λ κs. (shr_vals, (base_vals E, (uint_vals w64, (uint_vals w64, tt)))))
    (λ κs. (shr_Tells (named 0) κs.0 (Row E), (base-tells E, (uint_Tells w64, (uint_Tells w64, tt)))))
    (λ κs qs bounds a gh are.
    let d : (Row E).Denot = a.0.now in let row = all E d in let base : (Start E).Denot = a.1.0 in
    let from : ℕ = a.1.1.0 in let count : ℕ = a.1.1.1.0 in let small_count = are.1.1.1.0.1 in
    let κ : Lft = κs.0 in let q : Share = qs.0 in let s : ℕ = bytes E in let xs = d.parts.rest in
    let z : (walk_of 𝓛 Ends hs c).Ghost = ((κs, qs, bounds, a, _), gh) in
    let Post : Val → SProp 𝓤 = (walk_of 𝓛 Ends hs c).post z in
    -- what is asked: where the block lies, how many values are left, and from which place on
    begun 𝓛 κs.0 κs.1.0 qs.0 qs.1.0 (owns (types_at Ends.signature.params κs) a z.0.4) (λ asked.
    let long = length-laid d.parts d.tail in
    fsplit ! $ fsplit ! $ keep ! (1 ∷ 3 ∷ 4 ∷ []) $
    -- [the `&`; the token; the other tokens]
    enter ! _ _ _ _ _ $ alloc_all ! (λ l. pass_all ! refl
    ((tt, tt), (word-Good [] base.ptr, ((tt, record { fits = are.1.1.0.1 }), ((tt, record { fits = small_count }), tt)))) $
    unhide ! $ fsplit ! $ drop ! $
    in_a_block ! d.at (λ p. cells_lent (R E) p row κ) (id⊢ 𝓤 (never 𝓤)) (λ b o at. fsplit ! $ flt_l ! (λ fit.
    let far : from * s < 2 ^ 64 = omega (arith, times_below from (length row) s (2 ^ 63) (omega arith) fit) in
    let place : ℕ × ℕ = (b, from * s + o) in
    rewrite ! 13 (λ (p : Ptr). ‵ (fat full_share (layout (Start E)) (l 2) 0 (word p))) (asked.0 ∙ at) refl $ first ! $ blocks ! $
    sets ! (sized E ! (get ! refl) far) refl (tt, record { fits = far }) $
    sets ! (bin ! (get_in ! (fld ! refl (stop !)) (sub ! 0 refl (whole !))) (get ! refl) tt) refl (tt, tt) $
    use1 𝓛 (‵ (elements_shared (R E) xs b place.1 κ))
    (run_seen E 𝓛 b κ o row from (length xs) xs (omega arith) (rest-run d.parts d.tail from asked.2)) $ hide ! $
    sets_last ! (agg ! (and_then ! (get ! refl) (and_then ! (get ! refl) (no_more !)))) refl
    (tt, (tt, (record { fits = small_count }, tt))) $
    exec ! 𝓣.C 𝓣.Λ (env fn.locals l) (tail fn.body) (at_ret _ Post) $
    sets ! (of_opd ! (get ! refl)) refl (tt, (tt, (record { fits = small_count }, tt))) $
    flt_i ! (length xs * s) (2 ^ 63) (times_below (length xs) (length row) s (2 ^ 63) (omega arith) fit) $
    flt_i ! (length xs) (2 ^ 64) (omega arith) $ fjoin ! $
    feq_i ! (List Val) (slice_val place count ∷ []) (slice_val place (length xs) ∷ [])
    (ap (λ k. slice_val place k ∷ []) asked.1) $ fjoin ! $ fjoin ! $
    -- [the slice; the token; the other tokens]
    returns ! (look_at ! 0 refl) $ free_all ! refl $ keep ! (0 ∷ 1 ∷ 2 ∷ []) $
    suffices ! _ (ends_at 𝓛 Ends hs c z (slice_val place count) (record { ref_ptr = place; now = xs })
    (tt, (tt, (tt, (tt, tt)))) (tt, (tt, (tt, (tt, tt))))) $ says ! refl $
    move ! (1 ∷ 2 ∷ []) $ join ! $ frame ! $ nothing ! $ nothing ! $ nothing ! $ nothing ! $ nothing ! $
    group ! 5 $ done !)))))
