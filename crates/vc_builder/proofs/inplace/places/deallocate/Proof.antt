-- `deallocate` makes the block of its empty places, and gives it back. Assumes `Logic`.
use Rattle.vc_builder.proofs.WalkNames.{ !, [], ◌≡◌, refl, sym, ap, subst, ◌∙◌, List, ◌∷◌, ℕ, ◌*◌, ◌<◌, ◌^◌}
use Rattle.vc_builder.proofs.WalkNames.{arith, replicate, length-replicate, SProp, never, id⊢, Lft, Share, ftrue}
use Rattle.vc_builder.proofs.WalkNames.{froom, flft, Incl-trans, w64, ty_array, ty_unit, inst_fn, Val}
use Rattle.vc_builder.proofs.WalkNames.{vunit, has_ty, WT, Item, ‵, raw, given, later, await, learn}
use Rattle.vc_builder.proofs.WalkNames.{at_ret, ◌⊛◌, ◌$◌, ◌∵◌, qed, move, keep, use1, split, join, group, rewrite}
use Rattle.vc_builder.proofs.WalkNames.{fsplit, fsplit3, feq_i, flt_l, suffices, done, whole, sub, stop}
use Rattle.vc_builder.proofs.WalkNames.{fld, of_opd, unit_lit, align_word, and_then, no_more, first}
use Rattle.vc_builder.proofs.WalkNames.{blocks, exec, returns, enter, alloc_all, pass_all, free_all, look_at, get}
use Rattle.vc_builder.proofs.WalkNames.{get_in, sets, lands_last, is, env, fact, tables, ◌⊑◌, RefOf, yes, no}
use Rattle.vc_builder.proofs.WalkNames.{RattleType, owns, Ptr, ptr_val, in_a_block, plain, types_at, nothing, heard}
use Rattle.vc_builder.proofs.WalkNames.{Stays, stay_dropped, walk_of, ends_at, Goes-dropped, Option, None}
use Rattle.vc_builder.proofs.WalkNames.{tail, El, R, elτ, as_raw, word-Good}
use lib.Dec.{T}
use prog.Memory.{align, capped}
use prog.Capped.{capped_fits}
use denote.Triple.Call.{calls_at_last}
use denote.Triple.Table.{framed}
use Rattle.core.proofs.alloc.Calls.{Al, token, Gives, at_gives, Gives-goes, Gives-Gives, Goes-blank}
use Rattle.core.proofs.slots.Leases.{block_ty, block_size, block_align, args, P}
use Rattle.circular_buffer.specs.Ownership.{cells_own, deed_owns}
use Rattle.vc_builder.specs.Builder.{builder}
use Rattle.vc_builder.specs.Places.{laid}
use Rattle.vc_builder.proofs.WalkNames.{◌+◌}
use Rattle.vc_builder.proofs.PlacesLaid.{laid-empty}
use Rattle.vc_builder.proofs.PlacesMemory.{sized, Title, title-told, Row, Start, bytes, mark-told, base_vals, base-tells}
use Rattle.vc_builder.proofs.PlacesMemory.{base-goes, number-goes}
use Rattle.vc_builder.proofs.WalkNames.{named, proved, shr_vals, shr_Tells, uint_vals, uint_Tells}
use Rattle.circular_buffer.proofs.Memory.{mark, to_room}
use Rattle.vc_builder.specs.contracts.inplace.places.deallocate.{ended, clauses}
use Rattle.vc_builder.specs.contracts.inplace.places.deallocate.Key.{name as #self}
use Rattle.vc_builder.proofs.inplace.places.deallocate.Statement.{statement}
use Rattle.vc_builder.proofs.inplace.places.deallocate.Code as code

pub deallocate_spec : {M : Type 1} → statement M
deallocate_spec 𝓤 𝓛 𝓜 𝓡 wired X W LX LW g d dd met md =
    let H = 𝓛.H in let 𝓣 = tables 𝓤 H 𝓜 𝓡 𝓡.env in let E : El = record { row = X; laws = LX } in
    let Z : Al = record { row = W; laws = LW; g = g; d = d; drops = dd } in
    let Ends = ended X W g d dd in let c = clauses X W g d dd 𝓛 𝓜.mem 𝓡.returns in
    let fn = inst_fn (args E Z) code.function in let Deed : RattleType = Title E Z in
    let Request = Gives Z 𝓛 𝓜.mem 𝓡.returns in
    let hs : Stays Ends.signature.params Ends.kept
    = (stay_dropped _ yes, (stay_dropped _ no, (stay_dropped _ yes, (stay_dropped _ no, (stay_dropped _ no, tt))))) in
    let lender = RefOf (0 ∷ []) tt (plain (λ _. P E Z)) (λ _. tt) in
    proved 𝓛 Ends hs c 𝓜 𝓡 (
      Goes-dropped 𝓛 3 lender yes (λ κs x f. refl),
      (
        base-goes E 3 𝓛,
        (
          number-goes 3 𝓛,
          (Goes-blank 𝓛 3 (plain (λ _. Row E)) no (λ κs x f. tt), (Goes-blank 𝓛 3 (plain (λ _. Deed)) no (λ κs x f. tt), tt)),
        ),
      ),
    )
    (#self (args E Z)) fn (code.unfolded 𝓤 H 𝓜 𝓡 wired (X, (W, tt)) d dd)
    (λ κs. (shr_vals, (base_vals E, (uint_vals w64, ((λ _. mark ∷ []), ((λ _. mark ∷ []), tt))))))
    (λ κs. (shr_Tells (named 0) κs.0 (P E Z), (base-tells E, (uint_Tells w64, (mark-told E, (title-told E Z, tt))))))
    (λ κs qs bounds z gh are.
    let κ : Lft = κs.0 in let q : Share = qs.0 in let at₀ = z.0.ref_ptr in let a : W.Denot = z.0.now in
    let others : Item 𝓤 = ‵ (flft κs.1.0 qs.1.0) ⊛ ‵ (flft κs.1.1.0 qs.1.1.0) ⊛ ‵ ftrue in
    let base : (Start E).Denot = z.1.0 in let count : ℕ = z.1.1.0 in let row : (Row E).Denot = z.1.1.1.0 in
    let title : Deed.Denot = z.1.1.1.1.0 in let s : ℕ = bytes E in
    let y : (walk_of 𝓛 Ends hs c).Ghost = ((κs, qs, bounds, z, _), gh) in
    let Asked : Type 0 = (row.at ≡ base.ptr) × (row.parts ≡ builder [] [] row.parts.room)
    × (row.parts.room + row.tail ≡ count) × (title.at ≡ base.ptr) × (title.count ≡ count) × (title.alloc ≡ a) in
    let Post : Val → SProp 𝓤 = (walk_of 𝓛 Ends hs c).post y in
    qed 𝓛 (((‵ (flft κ q) ⊛ others) ⊛ ‵ (owns (types_at Ends.signature.params κs) z y.0.4)) ∷ raw (fact 𝓤 _) ∷ raw
    (fact 𝓤 (κs.1.1.0 ⊑ W.lives)) ∷ raw (fact 𝓤 Asked) ∷ []) ∵
    keep ! (2 ∷ 3 ∷ 0 ∷ []) $ heard ! (κs.1.1.0 ⊑ W.lives) (λ within. heard ! Asked (λ asked.
    split ! $ split ! $ move ! (2 ∷ []) $
    fsplit3 ! $ fsplit ! $ move ! (3 ∷ []) $ fsplit3 ! $ move ! (1 ∷ []) $ fsplit ! $ move ! (3 ∷ []) $ fsplit ! $ fsplit ! $
    keep ! (4 ∷ 1 ∷ 7 ∷ 9 ∷ 10 ∷ []) $
    -- [the places; the right to free them; the `&` to the allocator; the token; the other tokens]
    enter ! 𝓣.C 𝓣.Λ fn _ Post $ alloc_all ! (λ l. pass_all ! refl (
      (tt, tt),
      (word-Good [] base.ptr, ((tt, record { fits = are.1.1.0.1 }), ((tt, (tt, tt)), ((tt, (tt, tt)), tt)))),
    ) $
    let alignment : ℕ = capped (align (elτ E)) in
    rewrite ! 0 (λ (p : Ptr × List (Option X.Denot)). ‵ (cells_own (R E) p.0 p.1)) (λ i.
    (asked.0 i, (ap (λ p. laid p row.tail) asked.1 ∙ laid-empty row.parts.room row.tail count asked.2) i)) refl $
    in_a_block ! base.ptr (λ p. cells_own (R E) p (replicate count None)) (id⊢ 𝓤 (never 𝓤)) (λ b o at. fsplit ! $
    flt_l ! (λ few.
    let small : count * s < 2 ^ 63 = subst (λ k. k * s < 2 ^ 63) (length-replicate count None) few in
    let fit : count * s < 2 ^ 64 = omega arith in
    let req : Request.Ghost = at_gives Z 𝓛 𝓜.mem 𝓡.returns κ q at₀ a b o (count * s) alignment (block_ty E count) in
    rewrite ! 1 (λ (t : W.Denot × Ptr × ℕ). ‵ (deed_owns (R E) (token Z t.0) t.1 t.2))
    (λ i. (asked.5 i, (asked.3 ∙ at) i, asked.4 i)) refl $
    use1 𝓛 (‵ (froom (ty_array (elτ E) count) b o)) (to_room E 𝓛 b count o) $ as_raw ! (ty_array (elτ E) count) b o $
    first ! $ blocks ! $
    sets ! (is ! (of_opd ! (get_in ! (fld ! refl (stop !)) (sub ! 0 refl (whole !)))) (ap ptr_val at)) refl (tt, tt) $
    sets ! (sized E ! (get ! refl) fit) refl (tt, record { fits = fit }) $
    group ! 4 $ use1 𝓛 (raw (Request.pre req)) (Gives-goes Z 𝓛 𝓜.mem 𝓡.returns κ q at₀ a (Incl-trans bounds.0 within) b o
    (count * s) alignment (block_ty E count) (block_size E count fit) (block_align E count) fit (capped_fits (align (elτ E)))) $
    calls_at_last ! (framed 𝓤 H 𝓜 𝓣) Request (met.deallocate dd) req (and_then ! (get ! refl)
    (and_then ! (get ! refl) (and_then ! (get ! refl) (and_then ! (align_word !) (no_more !))))) (λ v.
    use1 𝓛 (later (given (v ≡ vunit) (‵ (flft κ q))))
    (Gives-Gives Z 𝓛 𝓜.mem 𝓡.returns κ q at₀ a b o (count * s) alignment (block_ty E count) v) $ await ! tt $
    learn ! (λ is_unit.
    lands_last ! refl (subst (λ (u : Val). T (has_ty ty_unit u) × WT u) (sym is_unit) (tt, tt)) $
    exec ! 𝓣.C 𝓣.Λ (env fn.locals l) (tail fn.body) (at_ret _ Post) $
    sets ! (of_opd ! (unit_lit !)) refl (tt, tt) $ returns ! (look_at ! 0 refl) $ free_all ! refl $
    keep ! (0 ∷ 1 ∷ []) $
    suffices ! _ (ends_at 𝓛 Ends hs c y vunit tt (tt, (tt, (tt, (tt, (tt, tt))))) (tt, (tt, (tt, (tt, (tt, tt)))))) $
    join ! $ feq_i ! _ (vunit ∷ []) _ refl $ nothing ! $ nothing ! $ nothing ! $ nothing ! $ nothing ! $ nothing ! $
    group ! 6 $ join ! $ move ! (1 ∷ 0 ∷ []) $ join ! $ nothing ! $ move ! (1 ∷ 0 ∷ []) $ done !))))))))
