-- A list with a gap after its elements, and others after the gap.
use Rattle.std.proofs.Common.{◌≡◌, ℕ, ◌≤◌, Result, is_err, OnOk, Bool, false, List, ◌++◌, length, take}
use Rattle.std.proofs.Common.{drop, refl, drop_at, arith}
use Rattle.std.proofs.lemmas.List.{take-append-le}
use Rattle.smallvec.specs.SmallVec.{SmallVec, with_items}
use Rattle.smallvec.proofs.SmallVecLemmas.{items-with_items}

pub not-refused : {A E : Type 0} (result : Result A E) (P : Type 0) (refused : Bool) → refused ≡ is_err result
    → refused ≡ false → OnOk result P → P
not-refused result P refused e f h = grind arith

-- what follows where a call was not refused
pub on-ok : {A E : Type 0} (result : Result A E) (P Q : Type 0) → (P → Q) → OnOk result P → OnOk result Q
on-ok A P result f h = grind arith

-- the elements are the first `end` ones, and the others stand from `next` on
pub record IsParted {X : Type 0} (old added all : List X) (end next : ℕ) : Type 0 where
  pub left : take end all ≡ old
  pub right : drop next all ≡ added

-- a list once a gap was put behind its elements, and others behind that
pub is-parted : {X : Type 0} {old : List X} (gapped : List X) {added pushed all : List X} {end next : ℕ} → end ≡ length old → next
    ≡ length gapped → take (length old) gapped ≡ old → length old ≤ length gapped
    → pushed ≡ gapped ++ added → all ≡ pushed → IsParted old added all end next
is-parted {old} gapped {added} ends nexts front gap items same =
    grind (arith, take-append-le (length old) gapped added, drop_at gapped added (length gapped) refl)

-- a list that was written through its slice, and cut off
pub cut-off : {X : Type 0} (v : SmallVec X) (lent written new : List X) (kept : ℕ) → lent ≡ v.items → length written ≡ length lent
    → new ≡ take kept (with_items v written).items → new ≡ take kept written
cut-off v lent written new kept e long cut = grind (arith, items-with_items)
