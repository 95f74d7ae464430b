-- What the proofs by hand over the places share: the types that they speak of, and what is passed in and dropped.
--   base-tells       the machine value of a base is the one word of its pointer
--   base-goes, number-goes       a base or a number that is dropped at the end owns nothing
--   mark-told, title-told       the machine value of the mark of `Places` and of a `Deed`, which take no bytes
--   begun       a walk begins with what the parameters own, the tokens and the precondition
--   sized       the bytes of a number of elements
--   opened       the owner of the places is split into the slots of its block and its mark
--   closed       the slots of its block and its mark make the owner of the places again
use Rattle.vc_builder.proofs.WalkNames.{◌≡◌, refl, ap, sym, ◌∙◌, List, [], ◌∷◌, ◌++◌, ℕ, Val, vstruct, of_list, Ura, Logic}
use Rattle.vc_builder.proofs.WalkNames.{yes, no, usize, ◌*◌, ◌<◌, ◌^◌, id⊢, never, sep, ent, sem, ‵, ◌$◌, ◌∵◌, !, qed, move}
use Rattle.vc_builder.proofs.WalkNames.{RattleType, type_size, El, R, Is, plain, Goes, stay_dropped, Goes-dropped, word}
use Rattle.vc_builder.proofs.WalkNames.{length, Option, el_x, Item, Goal, Seq, Ptr, block_ptr, in_a_block, fsplit, fjoin}
use Rattle.vc_builder.proofs.WalkNames.{flt_i, flt_l, rewrite, done}
use Rattle.vc_builder.proofs.WalkNames.{SProp, Lft, Share, Fml, Sq, ⋆, ftrue, flft, raw, prop, fact, ◌⊛◌, keep, heard, split}
use Rattle.vc_builder.proofs.WalkNames.{Env, subst, vint, w64, elτ, uncapped, is, bin, size_word}
use types.Run.{Opd, Rv}
use mir.Syntax.{Opd as Operand, op2, mul, unsigned, size_of}
use Rattle.circular_buffer.specs.Ownership.{slots, cells_own}
use Rattle.vc_builder.specs.Places.{laid}
use denote.Laws.{Tells}
use Rattle.circular_buffer.proofs.Memory.{mark}
use denote.Struct.Struct.{Struct}
use denote.Struct.Owning.{shape}
use Rattle.vc_builder.specs.contracts.inplace.places.Places as places
use Rattle.vc_builder.specs.contracts.inplace.places.Base as base
use Rattle.vc_builder.specs.contracts.inplace.places.Deed as deeds
use Rattle.core.proofs.alloc.Calls.{Al}
use Rattle.core.proofs.slots.Leases.{P}

module _ (E : El) where
  -- `Places` at elements of E
  abbrev pub Row : RattleType
  Row = places.the_row (R E)

  -- `Base` at elements of E
  abbrev pub Start : RattleType
  Start = base.the_row (R E)

  -- the one field of `Places`, which takes no bytes
  abbrev pub Mark : RattleType
  Mark = Struct (shape (places.the_type (R E)))

  pub mark-told : (d : Row.Denot) (vs : List Val) → Is Row d vs → vs ≡ mark ∷ []
  mark-told d vs is = is.0.1.0 ∙ ap (λ (ws : List Val). vstruct (of_list (ws ++ [])) ∷ []) is.0.1.1.0.1.0

  -- the bytes of an element
  abbrev pub bytes : ℕ
  bytes = type_size (R E)

  -- the machine value of a base
  abbrev pub base_vals : Start.Denot → List Val
  base_vals b = word b.ptr ∷ []

  pub base-tells : Tells Start (Is Start) base_vals
  base-tells b vs is = is.1.0 ∙ ap (λ (ws : List Val). vstruct (of_list (ws ++ [])) ∷ []) is.1.1.0

  pub base-goes : (n : ℕ) {M : Type 1} {𝓤 : Ura M} (𝓛 : Logic 𝓤) → Goes 𝓛 n (plain (λ _. Start)) no (stay_dropped _ no)
  base-goes n 𝓛 = Goes-dropped 𝓛 n (plain (λ _. Start)) no (λ κs x f. refl)

  module _ (d : Row.Denot) where
    -- the places
    abbrev pub all : List (Option (el_x E))
    all = laid d.parts d.tail

    pub opened : {M : Type 1} {𝓤 : Ura M} {𝓛 : Logic 𝓤} {K : Type 0} {Γ : List (Item 𝓤)} {G : Goal 𝓤 𝓛.H} → K → (vs : List Val)
        → ((b o : ℕ) → d.at ≡ block_ptr b o → length all * bytes < 2 ^ 63
        → Seq K 𝓛 (‵ (slots (R E) b o all) ∷ ‵ (Mark.own_val (tt, tt) vs) ∷ Γ) G) → Seq K 𝓛 (‵ (Row.own_val d vs) ∷ Γ) G
    opened {𝓤 = 𝓤} t vs k = fsplit t $ move t (1 ∷ []) $ in_a_block t d.at (λ p. cells_own (R E) p all) (id⊢ 𝓤 (never 𝓤))
        (λ b o at. fsplit t $ flt_l t (λ fit. k b o at fit))

    pub closed : {M : Type 1} {𝓤 : Ura M} (𝓛 : Logic 𝓤) (vs : List Val) (b o : ℕ) → d.at ≡ block_ptr b o
        → length all * bytes < 2 ^ 63
        → ent 𝓤 (sep 𝓤 (sem 𝓛 (slots (R E) b o all)) (sem 𝓛 (Mark.own_val (tt, tt) vs))) (sem 𝓛 (Row.own_val d vs))
    closed 𝓛 vs b o at fit = qed 𝓛 (‵ (slots (R E) b o all) ∷ ‵ (Mark.own_val (tt, tt) vs) ∷ []) ∵
        flt_i ! (length all * bytes) (2 ^ 63) fit $ fjoin ! $ rewrite ! 0 (λ (p : Ptr). ‵ (cells_own (R E) p all)) (sym at) refl $
        move ! (1 ∷ 0 ∷ []) $ fjoin ! $ done !

module _ (E : El) {M : Type 1} {𝓤 : Ura M} {𝓛 : Logic 𝓤} {K : Type 0} {Γ : List (Item 𝓤)} {Ev : Env 𝓤 𝓛.H} where
  -- the bytes of a number of elements, as the code multiplies them
  pub sized : K → {x : Operand} {n : ℕ} → Opd K 𝓛 Γ Ev x (vint w64 n) → n * bytes E < 2 ^ 64
      → Rv K 𝓛 Γ Ev (op2 (mul unsigned) x (size_of (elτ E))) (vint w64 (n * bytes E))
  sized t {n = n} p far = let same = uncapped n (bytes E) far in
      is t (bin t p (size_word t) (record { fits = subst (λ (k : ℕ). k < 2 ^ 64) (sym same) far })) (ap (vint w64) same)

-- `Deed` at elements of E and the allocator Z
module _ (E : El) (Z : Al) where
  abbrev pub Title : RattleType
  Title = deeds.the_row (R E) (P E Z) Z.g

  pub title-told : (d : Title.Denot) (vs : List Val) → Is Title d vs → vs ≡ mark ∷ []
  title-told d vs is = is.0.1.0 ∙ ap (λ (ws : List Val). vstruct (of_list (ws ++ [])) ∷ []) is.0.1.1.0.1.0

pub number-goes : (n : ℕ) {M : Type 1} {𝓤 : Ura M} (𝓛 : Logic 𝓤) → Goes 𝓛 n (plain (λ _. usize)) yes (stay_dropped _ yes)
number-goes n 𝓛 = Goes-dropped 𝓛 n (plain (λ _. usize)) yes (λ κs x f. refl)

module _ {M : Type 1} {𝓤 : Ura M} (𝓛 : Logic 𝓤) {A B : Type 0} {P : SProp 𝓤} (κ κ₁ : Lft) (q q₁ : Share) (F : Fml) where
  pub begun : (B → Sq 𝓛 (‵ F ∷ ‵ (flft κ q) ∷ (‵ (flft κ₁ q₁) ⊛ ‵ ftrue) ∷ []) (prop P))
      → ent 𝓤 (⋆ 𝓛 (((‵ (flft κ q) ⊛ ‵ (flft κ₁ q₁) ⊛ ‵ ftrue) ⊛ ‵ F) ∷ raw (fact 𝓤 A) ∷ raw (fact 𝓤 B) ∷ [])) P
  begun walk = qed 𝓛 (((‵ (flft κ q) ⊛ ‵ (flft κ₁ q₁) ⊛ ‵ ftrue) ⊛ ‵ F) ∷ raw (fact 𝓤 A) ∷ raw (fact 𝓤 B) ∷ []) ∵
      keep ! (2 ∷ 0 ∷ []) $ heard ! B (λ asked. split ! $ split ! $ move ! (2 ∷ []) $ walk asked)
