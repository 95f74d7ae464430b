-- `write` fills an empty place. Assumes `Logic`.
use Rattle.vc_builder.proofs.WalkNames.{group, refl, subst, ◌∙◌, List, [], ◌∷◌, ◌++◌, ℕ, ◌+◌, ◌*◌, ◌<◌, ◌^◌, arith}
use Rattle.vc_builder.proofs.WalkNames.{length, set, get_or, full_share, SProp}
use Rattle.vc_builder.proofs.WalkNames.{fat, a_type, w64, inst_fn, Val, vptr, vint, vunit}
use Rattle.vc_builder.proofs.WalkNames.{WpFn, ‵, ◌⊛◌, at_ret, ◌$◌, !, move, keep, use1, use2, split}
use Rattle.vc_builder.proofs.WalkNames.{join, rewrite, fsplit, fsplit3, fjoin3, feq_i}
use Rattle.vc_builder.proofs.WalkNames.{suffices, frame, done, whole, sub, init, stop, fld, bin, of_opd, unit_lit}
use Rattle.vc_builder.proofs.WalkNames.{assigns_last, first, blocks, exec, returns, enter, alloc_all}
use Rattle.vc_builder.proofs.WalkNames.{pass_all, free_all, take_at, give_at, look_at, get, get_in, through, sets}
use Rattle.vc_builder.proofs.WalkNames.{env, tables, no, layout, layouts, owns, Ptr}
use Rattle.vc_builder.proofs.WalkNames.{plain, types_at, nothing, opens, closes, says, Stays}
use Rattle.vc_builder.proofs.WalkNames.{stay_dropped, stay_ref, walk_of, ends_at, Goes-dropped, Goes-ref, Some, None}
use Rattle.vc_builder.proofs.WalkNames.{proved_at, tail, El, R, elτ, one, Good, lawful, times_below}
use Rattle.vc_builder.proofs.WalkNames.{as_written, word, word-Good}
use Rattle.circular_buffer.specs.Ownership.{slot, slots}
use Rattle.vc_builder.proofs.PlacesMemory.{sized, Row, Start, bytes, base-tells, base-goes, number-goes}
use Rattle.circular_buffer.proofs.Memory.{value_in, Besides, slot_out, slot_in}
use Rattle.vc_builder.specs.PlacesLend.{with_parts}
use Rattle.vc_builder.proofs.PlacesLaid.{turned}
use Rattle.vc_builder.proofs.PlacesMemory.{all, opened, closed}
use Rattle.vc_builder.proofs.WalkNames.{regoal, prop}
use Rattle.vc_builder.proofs.WalkNames.{yes}
use Rattle.vc_builder.proofs.PlacesMemory.{begun}
use Rattle.vc_builder.specs.contracts.inplace.places.Places.write.{ended, clauses}
use Rattle.vc_builder.specs.contracts.inplace.places.Places.write.Key.{name as #self}
use Rattle.vc_builder.proofs.inplace.places.Places.write.Statement.{statement}
use Rattle.vc_builder.proofs.inplace.places.Places.write.Code as code
use Rattle.std.specs.Prelude.{Option}

pub write_spec : {M : Type 1} → statement M
write_spec 𝓤 𝓛 𝓜 𝓡 wired X L =
    let H = 𝓛.H in let 𝓣 = tables 𝓤 H 𝓜 𝓡 𝓡.env in let E : El = record { row = X; laws = L } in let Ends = ended X in
    let c = clauses X 𝓛 𝓜.mem 𝓡.returns in
    let inst = layouts (a_type ∷ []) (X, tt) in let fn = inst_fn inst code.function in let self = plain (λ _. Row E) in
    let hs : Stays Ends.signature.params Ends.kept
    = (stay_ref (0 ∷ []) tt self, (stay_dropped _ no, (stay_dropped _ yes, (stay_dropped _ no, tt)))) in
    let value-goes = Goes-dropped 𝓛 2 (plain (λ _. R E)) no (λ κs x f. refl) in
    proved_at 𝓛 Ends hs c 𝓜 𝓡 (Goes-ref 𝓛 2 0 tt self, (base-goes E 2 𝓛, (number-goes 2 𝓛, (value-goes, tt))))
    (#self inst) fn (code.unfolded 𝓤 H 𝓜 𝓡 wired (X, tt)) (λ z are.
    let a = z.0.3 in let vss = z.0.4 in
    let rb : ℕ = a.0.ref_ptr.0 in let ro : ℕ = a.0.ref_ptr.1 in let d : (Row E).Denot = a.0.now in
    let base : (Start E).Denot = a.1.0 in let index : ℕ = a.1.1.0 in let x : X.Denot = a.1.1.1.0 in
    let row = all E d in let new : (Row E).Denot = with_parts d z.1 in
    let told = one E vss.1.1.1.0 ((lawful E 𝓛).typed x vss.1.1.1.0 are.1.1.1.0) in let v : Val = told.0 in
    let good : Good E v = told.2 in let s : ℕ = bytes E in
    let Post : Val → SProp 𝓤 = (walk_of 𝓛 Ends hs c).post z in
    -- what is asked: where the block lies, and how the row turns
    begun 𝓛 z.0.0.0 z.0.0.1.0 z.0.1.0 z.0.1.1.0 (owns (types_at Ends.signature.params z.0.0) a vss) (λ asked.
    let place = turned asked.1 in
    fsplit ! $ fsplit3 ! $ move ! (3 ∷ []) $ fsplit3 ! $ move ! (2 ∷ []) $ fsplit ! $ keep ! (5 ∷ 6 ∷ 7 ∷ 0 ∷ 8 ∷ []) $
    rewrite ! 3 (λ (ws : List Val). ‵ ((R E).own_val x ws)) told.1 refl $
    regoal ! (λ (ws : List Val). prop (WpFn 𝓤 H 𝓣.C 𝓣.Λ fn ws Post))
    (λ i. are.0.0 i ++ (base-tells E base vss.1.0 are.1.0 i ++ (are.1.1.0.0 i ++ (told.1 i ++ [])))) refl $
    -- [what self shows; its borrow; the token; what the value owns; the other tokens]
    enter ! 𝓣.C 𝓣.Λ fn (vptr rb ro ∷ word base.ptr ∷ vint w64 index ∷ v ∷ []) Post $ alloc_all !
    (λ l. pass_all ! refl ((tt, tt), (word-Good [] base.ptr, ((tt, record { fits = are.1.1.0.1 }), (good, tt)))) $
    opens ! tt (Row E) {h = d} rb ro (λ vs. move ! (1 ∷ []) $ opened E d ! vs (λ b o at fit.
    let far : index * s < 2 ^ 64 = omega (arith, times_below index (length row) s (2 ^ 63) (omega (arith, place.0)) fit) in
    take_at ! 2 $ rewrite ! 0 (λ (p : Ptr). ‵ (fat full_share (layout (Start E)) (l 2) 0 (word p))) (asked.0
    ∙ at) refl $ give_at ! 2 $ first ! $ blocks ! $
    sets ! (sized E ! (get ! refl) far) refl (tt, record { fits = far }) $
    sets ! (bin ! (get_in ! (fld ! refl (stop !)) (sub ! 0 refl (whole !))) (get ! refl) tt) refl (tt, tt) $
    use1 𝓛 (‵ (slot (R E) b (index * s + o) (get_or row index None)) ⊛ ‵ (Besides E 𝓛 b o row index))
    (slot_out E 𝓛 b o row index place.0) $ split ! $
    rewrite ! 0 (λ (cell : Option X.Denot). ‵ (slot (R E) b (index * s + o) cell)) place.1 refl $
    as_written ! (elτ E) b (index * s + o) $
    -- [the room; the other places; the mark; its cell; the open borrow, in three; what the value owns; the other
    -- tokens]
    sets ! (of_opd ! (get ! refl)) refl good $
    assigns_last ! (of_opd ! (get ! refl)) (through ! refl (stop !)) (init ! 0 refl good) $
    exec ! 𝓣.C 𝓣.Λ (env fn.locals l) (tail fn.body) (at_ret _ Post) $ sets ! (of_opd ! (unit_lit !)) refl (tt, tt) $
    move ! (0 ∷ 7 ∷ []) $ use2 𝓛 (‵ (slot (R E) b (index * s + o) (Some x)))
    (value_in 0 E.row E.laws 𝓛 x b (index * s + o) v) $
    use2 𝓛 (‵ (slots (R E) b o (set row index (Some x)))) (slot_in E 𝓛 b o row index place.0 (Some x)) $
    rewrite ! 0 (λ (cs : List (Option X.Denot)). ‵ (slots (R E) b o cs)) place.2 refl $
    use2 𝓛 (‵ ((Row E).own_val new vs)) (closed E new 𝓛 vs b o at (subst (λ k. k * s < 2 ^ 63) place.3 fit)) $
    move ! (1 ∷ 0 ∷ []) $ closes ! tt (Row E) new vs rb ro $
    returns ! (look_at ! 0 refl) $ free_all ! refl $ keep ! (0 ∷ 1 ∷ 2 ∷ 3 ∷ []) $
    suffices ! _ (ends_at 𝓛 Ends hs c z vunit tt (new, (tt, (tt, (tt, tt)))) (tt, (tt, (tt, (tt, tt))))) $
    says ! (refl, refl, refl) $
    move ! (2 ∷ 3 ∷ []) $ join ! $ frame ! $ feq_i ! _ vss.0 (vptr rb ro ∷ []) are.0.0 $ fjoin3 ! $ nothing ! $ nothing ! $
    nothing ! $ nothing ! $ move ! (4 ∷ []) $ group ! 5 $ frame ! $ feq_i ! _ (vunit ∷ []) _ refl $ done !)))))
