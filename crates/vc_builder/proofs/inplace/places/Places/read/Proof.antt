-- `read` moves a value out, and its place is empty. Assumes `Logic`.
use Rattle.vc_builder.proofs.WalkNames.{group, !, refl, subst, ◌∙◌, List, [], ◌∷◌, ℕ, ◌+◌, ◌*◌, ◌<◌, ◌^◌}
use Rattle.vc_builder.proofs.WalkNames.{arith, length, set, get_or, full_share, SProp}
use Rattle.vc_builder.proofs.WalkNames.{fat, froom, w64, a_type, inst_fn, Val}
use Rattle.vc_builder.proofs.WalkNames.{‵, some, given, pick, learn, at_ret, ◌⊛◌, ◌$◌, move}
use Rattle.vc_builder.proofs.WalkNames.{keep, use1, use2, split, join, rewrite, fsplit, fsplit3, fjoin3, feq_i}
use Rattle.vc_builder.proofs.WalkNames.{suffices, frame, done, whole, sub, look, load, stop, fld}
use Rattle.vc_builder.proofs.WalkNames.{bin, of_opd, first, blocks, exec, returns, enter, alloc_all}
use Rattle.vc_builder.proofs.WalkNames.{pass_all, free_all, look_at, get, get_in, through, sets}
use Rattle.vc_builder.proofs.WalkNames.{sets_last, env, tables, layout, layouts, owns, Ptr}
use Rattle.vc_builder.proofs.WalkNames.{plain, types_at, nothing, opens, closes, says, Stays}
use Rattle.vc_builder.proofs.WalkNames.{stay_ref, walk_of, ends_at, Goes-ref, Option}
use Rattle.vc_builder.proofs.WalkNames.{None, tail, El, R, elτ, Good, times_below, as_raw, word}
use Rattle.vc_builder.proofs.WalkNames.{word-Good}
use Rattle.vc_builder.specs.PlacesLend.{with_parts}
use Rattle.vc_builder.specs.Builder.{builder}
use Rattle.vc_builder.proofs.WalkNames.{◌+◌, drop_l}
use Rattle.vc_builder.proofs.PlacesLaid.{taken, turned, uncons}
use Rattle.vc_builder.proofs.PlacesMemory.{sized, all, opened, closed}
use Rattle.circular_buffer.specs.Ownership.{slot, slots}
use Rattle.vc_builder.proofs.PlacesMemory.{Row, Start, bytes, base_vals, base-tells, base-goes}
use Rattle.vc_builder.proofs.PlacesMemory.{number-goes}
use Rattle.vc_builder.proofs.WalkNames.{named, proved, mut_vals, mut_Tells, uint_vals, uint_Tells}
use Rattle.circular_buffer.proofs.Memory.{value_out, Besides, slot_out, slot_in}
use Rattle.vc_builder.proofs.WalkNames.{stay_dropped}
use Rattle.vc_builder.proofs.WalkNames.{yes, no}
use Rattle.vc_builder.proofs.PlacesMemory.{begun}
use Rattle.vc_builder.specs.contracts.inplace.places.Places.read.{ended, clauses}
use Rattle.vc_builder.specs.contracts.inplace.places.Places.read.Key.{name as #self}
use Rattle.vc_builder.proofs.inplace.places.Places.read.Statement.{statement}
use Rattle.vc_builder.proofs.inplace.places.Places.read.Code as code

pub read_spec : {M : Type 1} → statement M
read_spec 𝓤 𝓛 𝓜 𝓡 wired X L =
    let H = 𝓛.H in let 𝓣 = tables 𝓤 H 𝓜 𝓡 𝓡.env in let E : El = record { row = X; laws = L } in let Ends = ended X in
    let c = clauses X 𝓛 𝓜.mem 𝓡.returns in
    let inst = layouts (a_type ∷ []) (X, tt) in let fn = inst_fn inst code.function in let self = plain (λ _. Row E) in
    let hs : Stays Ends.signature.params Ends.kept = (stay_ref (0 ∷ []) tt self, (stay_dropped _ no, (stay_dropped _ yes, tt))) in
    proved 𝓛 Ends hs c 𝓜 𝓡 (Goes-ref 𝓛 2 0 tt self, (base-goes E 2 𝓛, (number-goes 2 𝓛, tt)))
    (#self inst) fn (code.unfolded 𝓤 H 𝓜 𝓡 wired (X, tt)) (λ κs. (mut_vals, (base_vals E, (uint_vals w64, tt))))
    (λ κs. (mut_Tells (named 0) κs.0 (Row E), (base-tells E, (uint_Tells w64, tt)))) (λ κs qs bounds a gh are.
    let rb : ℕ = a.0.ref_ptr.0 in let ro : ℕ = a.0.ref_ptr.1 in let d : (Row E).Denot = a.0.now in
    let base : (Start E).Denot = a.1.0 in let index : ℕ = a.1.1.0 in let s : ℕ = bytes E in
    let z : (walk_of 𝓛 Ends hs c).Ghost = ((κs, qs, bounds, a, _), gh) in
    let row = all E d in let Post : Val → SProp 𝓤 = (walk_of 𝓛 Ends hs c).post z in
    let new : (Row E).Denot = with_parts d (builder d.parts.built (drop_l 1 d.parts.rest) (d.parts.room + 1)) in
    -- what is asked: where the block lies, that a value is left, and at which place
    begun 𝓛 κs.0 κs.1.0 qs.0 qs.1.0 (owns (types_at Ends.signature.params κs) a z.0.4) (λ asked.
    let leading = uncons d.parts.rest asked.1 in let x : X.Denot = leading.0 in
    let place = turned (taken d.parts d.tail index x leading.1 asked.2) in
    fsplit ! $ fsplit3 ! $ keep ! (1 ∷ 2 ∷ 4 ∷ 5 ∷ []) $
    -- [what self shows; its borrow; the token; the other tokens]
    enter ! _ _ _ _ _ $ alloc_all !
    (λ l. pass_all ! refl ((tt, tt), (word-Good [] base.ptr, ((tt, record { fits = are.1.1.0.1 }), tt))) $
    opens ! tt (Row E) {h = d} rb ro (λ vs. move ! (1 ∷ []) $ opened E d ! vs (λ b o at fit.
    let far : index * s < 2 ^ 64 = omega (arith, times_below index (length row) s (2 ^ 63) (omega (arith, place.0)) fit) in
    rewrite ! 15 (λ (p : Ptr). ‵ (fat full_share (layout (Start E)) (l 2) 0 (word p))) (asked.0 ∙ at) refl $ first ! $ blocks ! $
    sets ! (sized E ! (get ! refl) far) refl (tt, record { fits = far }) $
    sets ! (bin ! (get_in ! (fld ! refl (stop !)) (sub ! 0 refl (whole !))) (get ! refl) tt) refl (tt, tt) $
    use1 𝓛 (‵ (slot (R E) b (index * s + o) (get_or row index None)) ⊛ ‵ (Besides E 𝓛 b o row index))
    (slot_out E 𝓛 b o row index place.0) $ split ! $
    rewrite ! 0 (λ (cell : Option X.Denot). ‵ (slot (R E) b (index * s + o) cell)) place.1 refl $
    use1 𝓛 (some (λ (v : Val). given (Good E v)
    (‵ (fat full_share (elτ E) b (index * s + o) v) ⊛ ‵ (E.row.own_val x (v ∷ [])))))
    (value_out 0 E.row E.laws 𝓛 x b (index * s + o)) $ pick ! (λ v. learn ! (λ good. split ! $
    sets_last ! (of_opd ! (load ! (through ! refl (stop !)) (look ! 0 refl))) refl good $
    exec ! 𝓣.C 𝓣.Λ (env fn.locals l) (tail fn.body) (at_ret _ Post) $ sets ! (of_opd ! (get ! refl)) refl good $
    use1 𝓛 (‵ (froom (elτ E) b (index * s + o))) (𝓛.laws.at_room (elτ E) b (index * s + o) v) $
    as_raw ! (elτ E) b (index * s + o) $ move ! (0 ∷ 2 ∷ 3 ∷ 4 ∷ 5 ∷ 6 ∷ 7 ∷ []) $
    -- [the room; the other places; the mark; its cell; the open borrow, in three; what the value owns; the other
    -- tokens]
    use2 𝓛 (‵ (slots (R E) b o (set row index None))) (slot_in E 𝓛 b o row index place.0 None) $
    rewrite ! 0 (λ (cs : List (Option X.Denot)). ‵ (slots (R E) b o cs)) place.2 refl $
    use2 𝓛 (‵ ((Row E).own_val new vs)) (closed E new 𝓛 vs b o at (subst (λ k. k * s < 2 ^ 63) place.3 fit)) $
    move ! (1 ∷ 0 ∷ []) $ closes ! tt (Row E) new vs rb ro $
    returns ! (look_at ! 0 refl) $ free_all ! refl $ keep ! (0 ∷ 1 ∷ 2 ∷ 3 ∷ 4 ∷ []) $
    suffices ! _ (ends_at 𝓛 Ends hs c z v x (new, (tt, (tt, tt))) (tt, (tt, (tt, tt)))) $ says ! (leading.1, refl, refl, refl) $
    move ! (2 ∷ 4 ∷ []) $ join ! $ frame ! $ feq_i ! (List Val) (mut_vals a.0) (mut_vals a.0) refl $ fjoin3 ! $
    nothing ! $ nothing ! $ nothing ! $ move ! (3 ∷ []) $ group ! 4 $ done !)))))))
