-- A `&` to the places reaches each value. Assumes `Logic`.
use mathlib.Core.List.{[], ◌++◌}
use base.Fml.{Incl-trans}
use contract.BorrowLft.{meet_⊑_left}
use denote.RattleType.{RattleType}
use denote.RawPtr.{RawPtr}
use denote.Param.Laws.{Laws}
use denote.Param.Shared.{copy_shared}
use denote.Struct.Laws.{field_copy}
use denote.Struct.Lending.{of_Lends}
use Rattle.core.specs.contracts.marker.PhantomData as marker
use Rattle.vc_builder.specs.contracts.inplace.places.Places as places
use Rattle.vc_builder.specs.Places.{laid}
use Rattle.circular_buffer.proofs.Sharing.{cells_lent_laws, Lends-cells}
use Rattle.vc_builder.proofs.inplace.places.Places.TheLaw.Statement.{statement}

pub shares : (R : RattleType) (laws : Laws R) → statement R laws
shares R laws =
    let lives = (places.the_row R).lives in
    of_Lends (places.struct R) (places.the_codes R.Denot R.coded (marker.the_row RawPtr).coded) (places.the_heap R)
    (places.the_lent R)
    (λ d p. cells_lent_laws R laws.shr_laws d.at (laid d.parts d.tail))
    (copy_shared (marker.the_field RawPtr) (field_copy (marker.the_type RawPtr) tt), tt)
    (λ M 𝓤 𝓛 d p. Lends-cells 𝓛 lives R laws
    (Incl-trans (meet_⊑_left (R.lives ++ []) _) (meet_⊑_left R.lives [])) d.at (laid d.parts d.tail))
