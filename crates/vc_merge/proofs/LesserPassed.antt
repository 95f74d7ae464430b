-- The lesser one of two first elements is taken in the places of one list.
use Rattle.std.proofs.Common.{◌≡◌, ◌+◌, ◌<◌, ◌≤◌, ◌||◌, Bool, true, length, refl, arith, drop-drop, Ok}
use Rattle.std.specs.Int.{from_bool}
use Rattle.std.specs.Ordering.{is_le, is_ge, is_ne}
use Rattle.std.specs.declared.cmp.Ordering.{Ordering}
use Rattle.std.specs.declared.cmp.Ordering.TheVariants.{Less, Equal, Greater}
use Rattle.vc_merge.specs.declared.parts.PartsState.{PartsState}
use Rattle.vc_merge.specs.Both.{TakesOne}
use Rattle.vc_merge.specs.Building.{Advances, Skips}
use Rattle.vc_merge.specs.Chain.{Answer}
use Rattle.vc_merge.specs.PartsViews.{list_name, built_items, left_items, right_items, hole_places, PassesLesser}
use Rattle.vc_merge.specs.Shifts.{Trades, lesser_place}
use Rattle.vc_merge.proofs.Extending.{extends-same}
use Rattle.vc_merge.proofs.Shifting.{part-at_most, passed, trade-left}
use Rattle.std.specs.Prelude.{IsOk}

module _ {X : Type 0} where
  -- by one trade with the first place of the hole
  module _ (s t : PartsState X) (some : 0 < length (left_items s)) (hole : 0 < hole_places s) (name : list_name t ≡ list_name s)
      (end : t.end ≡ s.end) where
    pub passes-lesser : (o : Ordering) (both : Bool) → t.built ≡ s.built + from_bool (is_ne o || both)
        → t.start ≡ s.start + from_bool (is_le o) → t.next ≡ s.next + from_bool (is_ge o)
        → Trades s.list.now s.built (lesser_place o s.start s.next) 1 t.list.now → PassesLesser o both s t
    passes-lesser Greater both b l r h =
        let apart : s.built + 1 ≤ s.start = omega (arith, hole) in
        let kept = trade-left s.list.now t.list.now s.built s.start s.end s.next s.hole s.left s.gap 1 apart h in
        grind (arith, kept, drop-drop 1 s.next s.list.now)
    passes-lesser Less both b l r h =
        let few = part-at_most s.list.now s.start s.end 1 some in
        grind (arith, passed s.list.now t.list.now s.built s.start s.end s.next (omega (arith, hole)) s.left s.gap few s.right h)
    passes-lesser Equal both b l r h =
        let few = part-at_most s.list.now s.start s.end 1 some in
        let kept = passed s.list.now t.list.now s.built s.start s.end s.next (omega (arith, hole)) s.left s.gap few s.right h in
        grind (arith, kept, drop-drop 1 s.next s.list.now, drop-drop 1 s.next t.list.now)

  -- ---- what the call of the state says

  abbrev Takes : Ordering → Bool → PartsState X → Answer → PartsState X → Type 0
  Takes heads both s answer t = TakesOne
      (λ s n take answer t. IsOk answer × Advances built_items list_name (λ x y. x ≡ y) left_items s n take answer t)
      (λ s n answer t. IsOk answer × Skips built_items list_name s answer t)
      (λ s n answer t. IsOk answer × Advances built_items list_name (λ x y. x ≡ y) right_items s n true answer t)
      heads both s answer t

  pub lesser-given : (s t : PartsState X) (o : Ordering) (both : Bool) → PassesLesser o both s t → Takes o both s (Ok true) t
  lesser-given s t Equal both h =
      record { between = t; answered = Ok true; first = grind (arith, extends-same); second = (refl, (refl, refl, refl)) }
  lesser-given s t heads both h = grind (arith, extends-same)
