-- `slice_mut` lends the values that are left, and the places follow it. Assumes `Logic`.
use Rattle.vc_builder.proofs.WalkNames.{ !, split3, ◌≡◌, refl, sym, ap, subst, ◌∙◌, List, [], ◌∷◌, map, ℕ, ◌+◌}
use Rattle.vc_builder.proofs.WalkNames.{◌*◌, ◌<◌, ◌^◌, arith, length, take, drop_l}
use Rattle.vc_builder.proofs.WalkNames.{take_front, Ura, full_share, SProp, ent, sep, Fml}
use Rattle.vc_builder.proofs.WalkNames.{Lft, GName, Share, fsep, fat, flft, named, w64, a_type, inst_fn, Val}
use Rattle.vc_builder.proofs.WalkNames.{Logic, sem, cells, ‵, some, later, await, pick}
use Rattle.vc_builder.proofs.WalkNames.{at_ret, ◌⊛◌, ◌$◌, ◌∵◌, qed, move, keep, use1, use2, split, join, group}
use Rattle.vc_builder.proofs.WalkNames.{rewrite, fsplit, fsplit3, fjoin, fjoin3, fpack, suffices}
use Rattle.vc_builder.proofs.WalkNames.{frame, done, whole, sub, agg, stop, fld, bin, of_opd, and_then}
use Rattle.vc_builder.proofs.WalkNames.{no_more, first, blocks, exec, returns, enter, alloc_all, pass_all, free_all}
use Rattle.vc_builder.proofs.WalkNames.{look_at, get, get_in, sets, sets_last, env}
use Rattle.vc_builder.proofs.WalkNames.{tables, Array, no, follows, mem, part_of, cell_at, layout}
use Rattle.vc_builder.proofs.WalkNames.{layouts, owns, Ptr, block_ptr, MutBor, plain}
use Rattle.vc_builder.proofs.WalkNames.{types_at, MutSlice, slice_val, nothing, opens, says, Stays}
use Rattle.vc_builder.proofs.WalkNames.{stay_dropped, walk_of, ends_at, Goes-spent_ref, Option, Some}
use Rattle.vc_builder.proofs.WalkNames.{length-map, tail, El, R, el_x, times_below, word}
use Rattle.vc_builder.proofs.WalkNames.{word-Good}
use denote.FollowSlice.{lends_Elements}
use Rattle.vc_builder.specs.PlacesLend.{with_parts}
use Rattle.vc_builder.specs.Builder.{builder, with_rest}
use Rattle.vc_builder.specs.Places.{laid}
use Rattle.circular_buffer.specs.Ownership.{slots}
use Rattle.vc_builder.proofs.PlacesLaid.{length-laid, rest-run, rest-written}
use Rattle.vc_builder.proofs.WalkNames.{◌++◌}
use Rattle.vc_builder.proofs.PlacesMemory.{sized, all, opened, closed}
use Rattle.vc_builder.proofs.PlacesMemory.{Row, Start, Mark, bytes}
use Rattle.vc_builder.proofs.PlacesMemory.{base-goes, number-goes}
use Rattle.vc_builder.proofs.WalkNames.{named, proved, mut_vals, mut_Tells}
use Rattle.circular_buffer.proofs.Memory.{Around, run_out, run_in, to_cells, of_cells}
use Rattle.vc_builder.proofs.WalkNames.{uint_vals, uint_Tells}
use Rattle.vc_builder.proofs.PlacesMemory.{base_vals, base-tells}
use Rattle.vc_builder.proofs.WalkNames.{yes}
use Rattle.vc_builder.proofs.PlacesMemory.{begun}
use Rattle.vc_builder.specs.contracts.inplace.places.Places.slice_mut.{ended, clauses}
use Rattle.vc_builder.specs.contracts.inplace.places.Places.slice_mut.Key.{name as #self}
use Rattle.vc_builder.proofs.inplace.places.Places.slice_mut.Statement.{statement}
use Rattle.vc_builder.proofs.inplace.places.Places.slice_mut.Code as code

module _ (E : El) (d : (Row E).Denot) {M : Type 1} {𝓤 : Ura M} (𝓛 : Logic 𝓤) (rb ro b o from : ℕ) (vs : List Val) where
  abbrev xs : List (el_x E)
  xs = d.parts.rest

  -- the places once the run was written over
  abbrev written : List (el_x E) → (Row E).Denot
  written ws = with_parts d (with_rest d.parts ws)

  -- all but the run
  abbrev Others : Fml
  Others = fsep (Around E 𝓛 b o (all E d) from (length xs))
      (fsep ((Mark E).own_val (tt, tt) vs) (cell_at full_share (Row E).mir vs rb ro))

  -- the run goes back into the places, whatever was written into it
  back : d.at ≡ block_ptr b o → length (all E d) * bytes E < 2 ^ 63 → from ≡ length d.parts.built + d.parts.room
      → (ws : List (el_x E)) → length ws ≡ length xs → ent 𝓤 (sep 𝓤 (sem 𝓛 (cells (mem (R E)) ws b (from * bytes E + o)))
      (sem 𝓛 Others)) (sem 𝓛 ((mem (Row E)).own_at (written ws) rb ro))
  unfolding part_of
  back at fit start ws same =
      let new = written ws in let full : new.parts.rest ≡ ws = take_front ws (drop_l (length ws) xs) (length xs) same in
      let long = length-laid d.parts d.tail in
      let size : length (all E d) ≡ length (all E new) = omega (arith, length-laid new.parts d.tail, ap length full) in
      let run = from * bytes E + o in qed 𝓛 (‵ (cells (mem (R E)) ws b run) ∷ ‵ Others ∷ []) ∵
      use1 𝓛 (‵ (slots (R E) b run (map Some ws))) (of_cells E 𝓛 b ws run) $ move ! (1 ∷ []) $ fsplit3 ! $
      move ! (3 ∷ 0 ∷ []) $
      use2 𝓛 (‵ (slots (R E) b o (take from (all E d) ++ (map Some ws ++ drop_l (from + length xs) (all E d)))))
      (run_in E 𝓛 b o (all E d) from (length xs) (omega arith) (map Some ws) (omega (arith, length-map ws Some))) $
      rewrite ! 0 (λ (cs : List (Option (el_x E))). ‵ (slots (R E) b o cs)) (rest-written d.parts d.tail from start ws
      ∙ ap (λ l. laid (builder d.parts.built l d.parts.room) d.tail) (sym full)) refl $
      use2 𝓛 (‵ ((Row E).own_val new vs)) (closed E new 𝓛 vs b o at (subst (λ k. k * bytes E < 2 ^ 63) size fit)) $
      move ! (1 ∷ 0 ∷ []) $ fjoin ! $
      fpack ! (List Val) (λ us. fsep (cell_at full_share (Row E).mir us rb ro) ((Row E).own_val new us)) vs $ done !

pub slice_mut_spec : {M : Type 1} → statement M
slice_mut_spec 𝓤 𝓛 𝓜 𝓡 wired X L =
    let H = 𝓛.H in let 𝓣 = tables 𝓤 H 𝓜 𝓡 𝓡.env in let E : El = record { row = X; laws = L } in let Ends = ended X in
    let c = clauses X 𝓛 𝓜.mem 𝓡.returns in
    let inst = layouts (a_type ∷ []) (X, tt) in let fn = inst_fn inst code.function in let self = plain (λ _. Row E) in
    let hs : Stays Ends.signature.params Ends.kept
    = (stay_dropped _ no, (stay_dropped _ no, (stay_dropped _ yes, (stay_dropped _ yes, tt)))) in
    proved 𝓛 Ends hs c 𝓜 𝓡 (Goes-spent_ref 𝓛 2 (0 ∷ []) tt self, (base-goes E 2 𝓛, (number-goes 2 𝓛, (number-goes 2 𝓛, tt))))
    (#self inst) fn (code.unfolded 𝓤 H 𝓜 𝓡 wired (X, tt))
    (λ κs. (mut_vals, (base_vals E, (uint_vals w64, (uint_vals w64, tt)))))
    (λ κs. (mut_Tells (named 0) κs.0 (Row E), (base-tells E, (uint_Tells w64, (uint_Tells w64, tt)))))
    (λ κs qs bounds a gh are.
    let rb : ℕ = a.0.ref_ptr.0 in let ro : ℕ = a.0.ref_ptr.1 in let γ : GName = a.0.ghost_name in
    let d : (Row E).Denot = a.0.now in let row = all E d in let base : (Start E).Denot = a.1.0 in
    let from : ℕ = a.1.1.0 in let count : ℕ = a.1.1.1.0 in let small_count = are.1.1.1.0.1 in
    let κ : Lft = κs.0 in let q : Share = qs.0 in let s : ℕ = bytes E in let xs = d.parts.rest in
    let z : (walk_of 𝓛 Ends hs c).Ghost = ((κs, qs, bounds, a, _), gh) in
    let Post : Val → SProp 𝓤 = (walk_of 𝓛 Ends hs c).post z in let shown = (Row E).coded.code d in
    -- what is asked: where the block lies, how many values are left, and from which place on
    begun 𝓛 κs.0 κs.1.0 qs.0 qs.1.0 (owns (types_at Ends.signature.params κs) a z.0.4) (λ asked.
    let long = length-laid d.parts d.tail in
    fsplit ! $ fsplit3 ! $ keep ! (1 ∷ 2 ∷ 4 ∷ 5 ∷ []) $
    -- [what self shows; its borrow; the token; the other tokens]
    enter ! 𝓣.C 𝓣.Λ fn _ Post $ alloc_all ! (λ l. pass_all ! refl
    ((tt, tt), (word-Good [] base.ptr, ((tt, record { fits = are.1.1.0.1 }), ((tt, record { fits = small_count }), tt)))) $
    opens ! tt (Row E) {h = d} rb ro (λ vs. move ! (1 ∷ []) $ opened E d ! vs (λ b o at fit.
    let far : from * s < 2 ^ 64 = omega (arith, times_below from (length row) s (2 ^ 63) (omega arith) fit) in
    rewrite ! 17 (λ (p : Ptr). ‵ (fat full_share (layout (Start E)) (l 2) 0 (word p))) (asked.0 ∙ at) refl $ first ! $ blocks ! $
    sets ! (sized E ! (get ! refl) far) refl (tt, record { fits = far }) $
    sets ! (bin ! (get_in ! (fld ! refl (stop !)) (sub ! 0 refl (whole !))) (get ! refl) tt) refl (tt, tt) $
    let run : ℕ = from * s + o in
    use1 𝓛 (‵ (slots (R E) b run (take (length xs) (drop_l from row))) ⊛ ‵ (Around E 𝓛 b o row from (length xs)))
    (run_out E 𝓛 b o row from (length xs) (omega arith)) $ split ! $
    rewrite ! 0 (λ (cs : List (Option X.Denot)). ‵ (slots (R E) b run cs)) (rest-run d.parts d.tail from asked.2) refl $
    use1 𝓛 (‵ (cells (mem (R E)) xs b run)) (to_cells E 𝓛 b xs run) $
    sets_last ! (agg ! (and_then ! (get ! refl) (and_then ! (get ! refl) (no_more !)))) refl
    (tt, (tt, (record { fits = small_count }, tt))) $
    exec ! 𝓣.C 𝓣.Λ (env fn.locals l) (tail fn.body) (at_ret _ Post) $
    sets ! (of_opd ! (get ! refl)) refl (tt, (tt, (record { fits = small_count }, tt))) $
    move ! (1 ∷ 2 ∷ 3 ∷ []) $ fjoin3 ! $ move ! (2 ∷ 3 ∷ 4 ∷ 1 ∷ 0 ∷ []) $ group ! 5 $
    use1 𝓛 (later (some (λ (δ : GName).
    ‵ ((MutSlice (named 0) κ (R E)).own_val (record { ref_ptr = (b, run); ghost_name = δ; now = xs })
    (slice_val (b, run) (length xs) ∷ [])) ⊛ ‵ (flft κ q) ⊛ ‵ (follows (Row E) (Array (R E) 0) γ δ
    (written E d 𝓛 rb ro b o from vs)))))
    (lends_Elements 𝓛 (Row E) (R E) (written E d 𝓛 rb ro b o from vs) (named 0) κ q rb ro b run γ xs
    (omega arith, times_below (length xs) (length row) s (2 ^ 63) (omega arith) fit)
    (sem 𝓛 (Others E d 𝓛 rb ro b o from vs)) (back E d 𝓛 rb ro b o from vs at fit asked.2) shown shown) $
    await ! tt $ pick ! (λ δ.
    let r : MutBor (List X.Denot) = record { ref_ptr = (b, run); ghost_name = δ; now = xs } in
    split3 ! $ rewrite ! 0 (λ (k : ℕ).
    ‵ ((MutSlice (named 0) κ (R E)).own_val r (slice_val (b, run) k ∷ []))) (sym asked.1) refl $
    -- [the slice; the token; what follows it; the other tokens]
    returns ! (look_at ! 0 refl) $ free_all ! refl $ keep ! (0 ∷ 1 ∷ 2 ∷ 3 ∷ []) $
    suffices ! _ (ends_at 𝓛 Ends hs c z (slice_val (b, run) count) r (tt, (tt, (tt, (tt, tt))))
    (tt, (tt, (tt, (tt, tt))))) $
    nothing ! $ nothing ! $ nothing ! $ nothing ! $ nothing ! $ group ! 5 $ join ! $
    move ! (1 ∷ 3 ∷ []) $ join ! $ join ! $ frame ! $ says ! refl $ done !))))))
