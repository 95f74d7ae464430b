-- What a contract sees of a `PartsState`.
use Rattle.std.specs.Prelude.{◌≡◌, ℕ, ◌-◌, Bool, true, false, List, ◌++◌, take, drop, slice_range}
use Rattle.std.specs.declared.cmp.Ordering.{Ordering}
use Rattle.std.specs.declared.cmp.Ordering.TheVariants.{Less, Equal, Greater}
use Rattle.std.specs.Borrow.{MutBor}
use base.Fml.{GName}
use Rattle.vc_merge.specs.declared.parts.PartsState.{PartsState}
use Rattle.vc_merge.specs.declared.parts.Spans.{Spans}

module _ {X : Type 0} where
  -- the list that is merged, as it was borrowed
  abbrev pub lent_list : PartsState X → MutBor (List X)
  lent_list s = s.list

  -- which list that is
  abbrev pub list_name : PartsState X → GName
  list_name s = s.list.ghost_name

  -- what was built
  abbrev pub built_items : PartsState X → List X
  built_items s = take s.built s.list.now

  -- what is left of the left part
  abbrev pub left_items : PartsState X → List X
  left_items s = slice_range s.list.now s.start s.end

  -- what is left of the right part
  abbrev pub right_items : PartsState X → List X
  right_items s = drop s.next s.list.now

  -- how many places the hole has
  abbrev pub hole_places : PartsState X → ℕ
  hole_places s = s.start - s.built

  -- what was built in a list, by where its parts are
  abbrev pub built_at : Spans → List X → List X
  built_at p l = take p.built l

  -- what is left there of the left part
  abbrev pub left_at : Spans → List X → List X
  left_at p l = slice_range l p.start p.end

  -- what is left there of the right part
  abbrev pub right_at : Spans → List X → List X
  right_at p l = drop p.next l

  -- it builds in that list, has xs built, ys left of the left part and zs of the right one
  pub record Shows (list : GName) (xs ys zs : List X) (s : PartsState X) : Type 0 where
    pub name : list_name s ≡ list
    pub built : built_items s ≡ xs
    pub left : left_items s ≡ ys
    pub right : right_items s ≡ zs

  -- of the first elements of both parts, which compare as given, the lesser one was moved to the
  -- end of what is built; of two equal ones the left one was, if `both`, and both were passed
  abbrev pub PassesLesser : Ordering → Bool → PartsState X → PartsState X → Type 0
  PassesLesser Less both s t = Shows (list_name s) (built_items s ++ take 1 (left_items s)) (drop 1 (left_items s)) (right_items s) t
  PassesLesser Greater both s t = Shows (list_name s) (built_items s ++ take 1 (right_items s)) (left_items s) (drop 1 (right_items s)) t
  PassesLesser Equal true s t =
      Shows (list_name s) (built_items s ++ take 1 (left_items s)) (drop 1 (left_items s)) (drop 1 (right_items s)) t
  PassesLesser Equal false s t = Shows (list_name s) (built_items s) (drop 1 (left_items s)) (drop 1 (right_items s)) t
