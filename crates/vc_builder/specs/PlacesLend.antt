-- What the places are, once a `&mut` into them has ended. No public clause cites these words.
use Rattle.std.specs.Prelude.{List}
use Rattle.std.specs.Borrow.{Fml, RattleType, MutBor, Array, Lends}
use Rattle.vc_builder.specs.Builder.{Builder, with_rest}
use Rattle.vc_builder.specs.declared.inplace.places.Places.{Places}
use Rattle.vc_builder.specs.contracts.inplace.places.Places.{the_row}

-- p with these parts instead of its own
abbrev pub with_parts : {X : Type 0} → Places X → Builder X → Places X
with_parts p s = record { mark = p.mark; at = p.at; parts = s; tail = p.tail }

-- those that are left are what was last written through the borrow, and nothing else changes
abbrev pub lends_left : (R : RattleType) → MutBor (Places R.Denot) → MutBor (List R.Denot) → Fml
lends_left R p r = Lends (the_row R) (Array R 0) p r (λ xs. with_parts p.now (with_rest p.now.parts xs))
