-- `allocate` cuts a new block into empty places, and keeps the right to free it. Assumes `Logic`.
use Rattle.vc_builder.proofs.WalkNames.{group, !, [], ◌≡◌, refl, sym, ap, subst, true, false, ◌∷◌, ℕ, ◌*◌, ◌<◌}
use Rattle.vc_builder.proofs.WalkNames.{◌^◌, arith, lit<, length, replicate, length-replicate, SProp, Lft}
use Rattle.vc_builder.proofs.WalkNames.{Share, ftrue, flft, Incl-trans, w64, ty_array, inst_fn, Val}
use Rattle.vc_builder.proofs.WalkNames.{vstruct, vcons, vnil, Env, Item, ‵, raw, later, await, at_ret, ◌⊛◌}
use Rattle.vc_builder.proofs.WalkNames.{◌$◌, ◌∵◌, qed, move, keep, use0, use1, use2, use3, split, join, fsplit}
use Rattle.vc_builder.proofs.WalkNames.{fjoin, suffices, frame, done, whole, agg, lit}
use Rattle.vc_builder.proofs.WalkNames.{stop, fld, of_opd, align_word, and_then, no_more, first, exec}
use Rattle.vc_builder.proofs.WalkNames.{returns, enter, alloc_all, pass_all, free_all, look_at, get, get_in, get_tag}
use Rattle.vc_builder.proofs.WalkNames.{sets, sets_last, lands_as, env, fact, tables, ◌⊑◌, RefOf, yes, Is}
use Rattle.vc_builder.proofs.WalkNames.{layout, RattleType, owns, Ptr, block_ptr, plain, types_at, nothing, heard}
use Rattle.vc_builder.proofs.WalkNames.{says, Stays, stay_dropped, walk_of, ends_at, Goes-dropped, None}
use Rattle.vc_builder.proofs.WalkNames.{El, R, elτ, as_written, word, word-Good}
use mir.Syntax.{Body}
use prog.Memory.{align, capped}
use prog.Capped.{capped_fits}
use prog.Wp.{Wp, after_seq, at_return}
use types.Kit.{Post as After, any_q}
use types.Match.{live, vrt, in_variant}
use types.Run.{switches_on}
use denote.Steps.{owned}
use denote.Struct.Struct.{Struct, Struct-Makes}
use denote.Struct.Declared as Declared
use denote.Struct.Tuple.{Tuple}
use denote.Triple.Call.{calls_at}
use denote.Triple.Table.{framed}
use Rattle.std.specs.Prelude.{Ok, Err}
use Rattle.std.specs.Vec.Ownership.{FitsInBlock}
use Rattle.core.specs.contracts.result.Result as results
use Rattle.core.specs.contracts.alloc.AllocError as errors
use Rattle.core.proofs.alloc.Calls.{Al, Answer-typed, Takes, at_takes, Answered, Takes-goes, Takes-gives, answers}
use Rattle.core.proofs.slots.Leases.{block_ty, block_size, block_align, args, P}
use Rattle.std_alloc.proofs.VecSteps.Shapes.{after, head, arm_body}
use Rattle.std_alloc.proofs.ResultValues.{ok_of, err_of}
use Rattle.std_alloc.proofs.RcSteps.{first_Good, Good as Whole}
use Rattle.circular_buffer.specs.Ownership.{slots}
use Rattle.vc_builder.specs.Builder.{builder}
use Rattle.vc_builder.proofs.PlacesLaid.{laid-empty}
use Rattle.vc_builder.proofs.WalkNames.{List, Option, rewrite, ◌∙◌}
use Rattle.vc_builder.proofs.PlacesMemory.{sized, all, closed}
use Rattle.vc_builder.proofs.PlacesMemory.{Title, Row, Start, Mark, bytes, number-goes}
use Rattle.vc_builder.proofs.WalkNames.{named, proved, shr_vals, shr_Tells, uint_vals, uint_Tells}
use Rattle.circular_buffer.proofs.Memory.{mark, mark_made, word_made, three_val, three_of, of_room}
use Rattle.vc_builder.specs.contracts.inplace.places.allocate.{ended, clauses}
use Rattle.vc_builder.specs.contracts.inplace.places.allocate.Key.{name as #self}
use Rattle.vc_builder.proofs.inplace.places.allocate.Statement.{statement}
use Rattle.vc_builder.proofs.inplace.places.allocate.Code as code

pub allocate_spec : {M : Type 1} → statement M
allocate_spec 𝓤 𝓛 𝓜 𝓡 wired X W LX LW g d dd met md =
    let H = 𝓛.H in let 𝓣 = tables 𝓤 H 𝓜 𝓡 𝓡.env in let E : El = record { row = X; laws = LX } in
    let Z : Al = record { row = W; laws = LW; g = g; d = d; drops = dd } in
    let Ends = ended X W g d dd in let c = clauses X W g d dd 𝓛 𝓜.mem 𝓡.returns in
    let fn = inst_fn (args E Z) code.function in let Request = Takes Z 𝓛 𝓜.mem 𝓡.returns in
    let hs : Stays Ends.signature.params Ends.kept = (stay_dropped _ yes, (stay_dropped _ yes, tt)) in
    let Deed : RattleType = Title E Z in let Three : RattleType = Tuple (Start E ∷ Row E ∷ Deed ∷ []) in
    let Out : RattleType = results.the_row Three errors.the_row in
    let lender = RefOf (0 ∷ []) tt (plain (λ _. P E Z)) (λ _. tt) in
    proved 𝓛 Ends hs c 𝓜 𝓡 (Goes-dropped 𝓛 3 lender yes (λ κs x f. refl), (number-goes 3 𝓛, tt))
    (#self (args E Z)) fn (code.unfolded 𝓤 H 𝓜 𝓡 wired (X, (W, tt)) d dd) (λ κs. (shr_vals, (uint_vals w64, tt)))
    (λ κs. (shr_Tells (named 0) κs.0 (P E Z), (uint_Tells w64, tt))) (λ κs qs bounds x gh are.
    let κ : Lft = κs.0 in let q : Share = qs.0 in let at₀ = x.0.ref_ptr in let a : W.Denot = x.0.now in
    let others : Item 𝓤 = ‵ (flft κs.1.0 qs.1.0) ⊛ ‵ (flft κs.1.1.0 qs.1.1.0) ⊛ ‵ ftrue in
    let count : ℕ = x.1.0 in let s : ℕ = bytes E in let alignment : ℕ = capped (align (elτ E)) in
    let z : (walk_of 𝓛 Ends hs c).Ghost = ((κs, qs, bounds, x, _), gh) in
    let Post : Val → SProp 𝓤 = (walk_of 𝓛 Ends hs c).post z in
    qed 𝓛 (((‵ (flft κ q) ⊛ others) ⊛ ‵ (owns (types_at Ends.signature.params κs) x z.0.4)) ∷ raw (fact 𝓤 _) ∷ raw
    (fact 𝓤 (κs.1.1.0 ⊑ W.lives)) ∷ raw (fact 𝓤 (FitsInBlock (R E) count)) ∷ []) ∵
    keep ! (2 ∷ 3 ∷ 0 ∷ []) $ heard ! (κs.1.1.0 ⊑ W.lives) (λ within. heard ! _ (λ asked.
    let small : count * s < 2 ^ 63 = asked.0 in let fit : count * s < 2 ^ 64 = omega arith in
    split ! $ split ! $ move ! (2 ∷ []) $ fsplit ! $ fsplit ! $ keep ! (1 ∷ 3 ∷ 4 ∷ []) $
    -- [the `&` to the allocator; the token; the other tokens]
    enter ! 𝓣.C 𝓣.Λ fn _ Post $ alloc_all !
    (λ l. pass_all ! refl ((tt, tt), ((tt, record { fits = are.1.0.1 }), tt)) $
    let Ev : Env 𝓤 H = env fn.locals l in let both : Body = head (after 2 fn.body) in
    let Then : After 𝓤 H = any_q (after_seq 𝓤 H (Wp 𝓤 H 𝓣.C 𝓣.Λ Ev (after 3 fn.body) (at_return 𝓤 H Ev Post))
    (at_return 𝓤 H Ev Post)) in
    let y : Request.Ghost = at_takes Z 𝓛 𝓜.mem 𝓡.returns κ q at₀ a (count * s) alignment (block_ty E count) in
    sets ! (sized E ! (get ! refl) fit) refl (tt, record { fits = fit }) $
    use2 𝓛 (raw (Request.pre y)) (Takes-goes Z 𝓛 𝓜.mem 𝓡.returns κ q at₀ a (Incl-trans bounds.0 within)
    (count * s) alignment (block_ty E count) (block_size E count fit) (block_align E count) fit
    (capped_fits (align (elτ E)))) $
    calls_at ! (framed 𝓤 H 𝓜 𝓣) Request (met.allocate dd) y
    (and_then ! (get ! refl) (and_then ! (get ! refl) (and_then ! (align_word !) (no_more !)))) (λ v.
    use1 𝓛 (later (raw (Answered Z 𝓛 𝓜.mem 𝓡.returns a (block_ty E count) v) ⊛ ‵ (flft κ q)))
    (Takes-gives Z 𝓛 𝓜.mem 𝓡.returns κ q at₀ a (count * s) alignment (block_ty E count) v) $ await ! tt $ split ! $
    answers Z ! 𝓜.mem 𝓡.returns a (block_ty E count) v
    (λ b o is_block.
    let p : Ptr = block_ptr b o in let start : (Start E).Denot = record { ptr = p } in
    let row : (Row E).Denot = record { mark = record {}; at = p; parts = builder [] [] count; tail = 0 } in
    let empty : all E row ≡ replicate count None = laid-empty count 0 count (omega arith) in
    let title : Deed.Denot = record { mark = record {}; at = p; count = count; alloc = a } in
    let made : Val = three_val (word p) mark mark in
    let typed : Whole (layout Three) made = (tt, ((tt, tt), ((tt, tt), ((tt, tt), tt)))) in
    let ok = first_Good (layout Three) made typed in
    lands_as ! is_block refl (Answer-typed true b o) $ first ! $
    switches_on ! (get_tag ! (vrt ! refl (fld ! refl (stop !))) (whole !)) $ exec ! 𝓣.C 𝓣.Λ Ev (arm_body 0 both) Then $
    sets ! (of_opd ! (get_in ! (vrt ! refl (fld ! refl (stop !))) (in_variant ! 0 0 refl refl (whole !)))) refl
    (tt, tt) $ sets ! (of_opd ! (get ! refl)) refl (tt, tt) $
    sets ! (agg ! (and_then ! (get ! refl) (no_more !))) refl (word-Good [] p) $
    sets ! (agg ! (no_more !)) refl (tt, tt) $ sets ! (agg ! (and_then ! (get ! refl) (no_more !))) refl (tt, (tt, tt)) $
    sets ! (agg ! (no_more !)) refl (tt, tt) $ sets ! (agg ! (and_then ! (get ! refl) (no_more !))) refl (tt, (tt, tt)) $
    sets ! (agg ! (and_then ! (get ! refl) (and_then ! (get ! refl) (and_then ! (get ! refl) (no_more !))))) refl typed $
    sets_last ! (agg ! (and_then ! (lit ! tt) (and_then ! (get ! refl) (no_more !)))) refl ok $
    exec ! 𝓣.C 𝓣.Λ Ev (after 3 fn.body) (at_ret Ev Post) $ sets ! (of_opd ! (get ! refl)) refl ok $
    -- [the room; the right to free it; ..], and the three parts are made of them
    move ! (1 ∷ []) $ use0 𝓛 (‵ ((Mark E).own_val (tt, tt) (mark ∷ []))) (mark_made E 𝓛) $ fjoin ! $ move ! (1 ∷ []) $
    as_written ! (ty_array (elτ E) count) b o $ use1 𝓛 (‵ (slots (R E) b o (replicate count None))) (of_room E 𝓛 b count o) $
    rewrite ! 0 (λ (cs : List (Option X.Denot)). ‵ (slots (R E) b o cs)) (sym empty) refl $
    use0 𝓛 (‵ ((Mark E).own_val (tt, tt) (mark ∷ []))) (mark_made E 𝓛) $ move ! (1 ∷ 0 ∷ []) $
    use2 𝓛 (‵ ((Row E).own_val row (mark ∷ []))) (closed E row 𝓛 (mark ∷ []) b o refl
    (subst (λ k. k * s < 2 ^ 63) (sym (ap length empty ∙ length-replicate count None)) small)) $ word_made ! p $
    use3 𝓛 (‵ (Three.own_val (start, row, title) (made ∷ [])))
    (three_of 𝓛 (Start E) (Row E) Deed start row title (word p) mark mark) $
    use1 𝓛 (‵ (Out.own_val (Ok (start, row, title)) (live 0 (vcons made vnil) ∷ [])))
    (ok_of 𝓛 Three errors.the_row (start, row, title) made) $
    returns ! (look_at ! 0 refl) $ free_all ! refl $ keep ! (0 ∷ 1 ∷ 2 ∷ []) $
    suffices ! _ (ends_at 𝓛 Ends hs c z (live 0 (vcons made vnil)) (Ok (start, row, title)) (tt, (tt, tt)) (tt, (tt, tt))) $
    says ! (refl, refl, refl, refl, refl, refl) $ move ! (1 ∷ 2 ∷ []) $ join ! $ frame ! $
    nothing ! $ nothing ! $ nothing ! $ group ! 3 $ done !)
    (λ is_refused.
    let Refusal : RattleType = Struct (Declared.shape errors.the_type) in
    let none : Val = live 1 (vcons (vstruct vnil) vnil) in
    let typed : Whole (layout Out) none = (tt, (record { fits = lit< tt }, (tt, tt))) in
    lands_as ! is_refused refl (Answer-typed false 0 0) $ first ! $
    switches_on ! (get_tag ! (vrt ! refl (fld ! refl (stop !))) (whole !)) $ exec ! 𝓣.C 𝓣.Λ Ev (arm_body 1 both) Then $
    sets ! (of_opd ! (get_in ! (vrt ! refl (fld ! refl (stop !))) (in_variant ! 1 0 refl refl (whole !)))) refl
    (tt, tt) $
    sets_last ! (agg ! (and_then ! (lit ! tt) (and_then ! (get ! refl) (no_more !)))) refl typed $
    exec ! 𝓣.C 𝓣.Λ Ev (after 3 fn.body) (at_ret Ev Post) $ sets ! (of_opd ! (get ! refl)) refl typed $
    owned ! Refusal (Is Refusal) (Struct-Makes 𝓛 (Declared.shape errors.the_type) tt) tt (vstruct vnil ∷ [])
    (tt, (refl, tt)) $
    use1 𝓛 (‵ (Out.own_val (Err (record {})) (none ∷ []))) (err_of 𝓛 Three errors.the_row (record {}) (vstruct vnil)) $
    returns ! (look_at ! 0 refl) $ free_all ! refl $ keep ! (0 ∷ 1 ∷ 2 ∷ []) $
    suffices ! _ (ends_at 𝓛 Ends hs c z none (Err (record {})) (tt, (tt, tt)) (tt, (tt, tt))) $ says ! tt $
    move ! (1 ∷ 2 ∷ []) $ join ! $ frame ! $
    nothing ! $ nothing ! $ nothing ! $ group ! 3 $ done !))))))
