use Rattle.std.proofs.Common.{◌≡◌, ℕ, zero, suc, ◌+◌, ◌-◌, ◌<◌, List, [], ◌∷◌, ◌++◌, length, length-append}
use Rattle.std.proofs.Common.{length-set, get_or, slice_set, ap, ◌∙◌, arith}
use Rattle.std.proofs.lemmas.List.{same_lists, get_or-set_same, get_or-set_other, get_or_append_left}
use Rattle.std.proofs.Math.Seq.{get_or-append_seam}
use Rattle.vc_merge.proofs.moving.last_to_first.Goals as goal

-- `ms` is `ls` with all but the last value moved up by one, and then the last one is put in front
module _ {X : Type 0} (xs ls ms : List X) (x y : X) (e : ls ≡ xs ++ x ∷ []) (last : y ≡ get_or ls (length xs) y)
    (long : length ms ≡ length ls)
    (moved : (k : ℕ) (d : X) → k < length xs → get_or ms (1 + k) d ≡ get_or ls k d) where
  at-each : (k : ℕ) (d : X) → k < length xs + 1 → get_or (slice_set ms 0 y) k d ≡ get_or (x ∷ xs) k d
  at-each zero d h = grind (arith, get_or-set_same ms 0 y d, get_or-append_seam xs x [] y, length-append xs (x ∷ []))
  at-each (suc k) d h = grind (arith, get_or-set_other ms 0 (suc k) y d, moved k d, get_or_append_left xs (x ∷ []) d k)

  turned : slice_set ms 0 y ≡ x ∷ xs
  turned =
      let l : length (slice_set ms 0 y) ≡ length xs + 1 = grind (arith, length-set ms 0 y, length-append xs (x ∷ [])) in
      same_lists _ _ (omega arith) (λ k d h. at-each k d (omega arith))

pub returns-clause-turned : goal.returns-clause-turned
returns-clause-turned g c xs x e =
    let row = c.args.row in
    let took = c.take-element.ensures in
    let moved = c.move_within.ensures in
    let len = c.len-last.ensures in
    let sizes = row.ok.0 in
    let after = c.move_within.new.self.ok.0 in
    let longer : length row.items ≡ length xs + 1 = ap length e ∙ length-append xs (x ∷ []) in
    let last : c.len-last.result - 1 ≡ length xs = omega arith in
    c.put.ensures.items ∙ turned xs row.items c.move_within.new.self.items x c.take-element.result e
    (rw last at took.value)
    (let p = moved.places.count in let q = took.places.count in omega arith)
    (λ k d h. grind (arith, moved.moved k d, took.items))
