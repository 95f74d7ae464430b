use Rattle.std.proofs.Common.{◌+◌, ◌-◌, ◌^◌, length, arith}
use Rattle.std.proofs.Math.Nat.{add-div_right}
use Rattle.std.proofs.lemmas.Nat.{pow_pos}
use Rattle.vc_merge.specs.Place.{place_of}
use Rattle.vc_merge.proofs.Digits.{digits-least}
use Rattle.vc_merge.proofs.PlaceLemmas.{narrowed-past, narrowed-down, place-met, place-behind}
use Rattle.vc_merge.proofs.Strides.{stride-within}
use Rattle.vc_merge.proofs.search.search_near.Goals as goal

pub strides-preserved : goal.strides-preserved
strides-preserved g c =
    let start = c.strides.start in
    let power = c.power-stride.ensures in let some = pow_pos c.args.exponent in let fits = c.strides-test.true in
    let last = start + (c.power-stride.result - 1) in
    record {
      narrowed = narrowed-past _ _ c.requires.ordered _ _ c.strides.invariant.narrowed last (last + 1) _ c.index-list-last.result
          (omega arith) c.index-list-last.is c.in-Less.ensures.value (omega arith) (omega arith);
      counted = grind (arith, power, add-div_right start some, c.strides.invariant.counted, c.in-Less.ensures.ticks);
    }

pub returns-in-Equal : goal.returns-in-Equal
returns-in-Equal g c =
    let s = 2 ^ c.args.exponent in let start = c.strides.start in
    let power = c.power-stride.ensures in let some = pow_pos c.args.exponent in let fits = c.strides-test.true in
    let last = start + (c.power-stride.result - 1) in
    record {
      place = place-met _ _ last c.index-list-last.result c.requires.ordered (omega arith) c.index-list-last.is
          c.in-Equal.ensures.value;
      counted = omega (
        arith,
        add-div_right start some,
        stride-within (start + s) (length c.args.list.now) s some (omega arith),
        stride-within start last s some (omega arith),
        c.strides.invariant.counted,
        c.in-Equal.ensures.ticks,
      );
    }

pub search_part-requires-clause-narrowed : goal.search_part-requires-clause-narrowed
search_part-requires-clause-narrowed g c =
    let power = c.power-stride.ensures in let some = pow_pos c.args.exponent in let fits = c.strides-test.true in
    narrowed-down _ _ c.requires.ordered _ _ c.strides.invariant.narrowed (c.strides.start + (c.power-stride.result - 1)) _
    c.index-list-last.result (omega arith) c.index-list-last.is c.in-Greater.ensures.value (omega arith) (omega arith)

pub returns-in-Greater-clause-counted : goal.returns-in-Greater-clause-counted
returns-in-Greater-clause-counted g c =
    let s = 2 ^ c.args.exponent in let start = c.strides.start in
    let power = c.power-stride.ensures in let some = pow_pos c.args.exponent in let fits = c.strides-test.true in
    omega (
      arith,
      add-div_right start some,
      stride-within (start + s) (length c.args.list.now) s some (omega arith),
      stride-within start (place_of c.search_part.result) s some
          (place-behind _ _ _ _ c.search_part.result c.strides.invariant.narrowed c.search_part.ensures.place),
      digits-least (c.power-stride.result - 1) c.args.exponent (omega arith),
      c.strides.invariant.counted,
      c.in-Greater.ensures.ticks,
      c.search_part.ensures.counted,
    )

pub returns-clause-counted : goal.returns-clause-counted
returns-clause-counted g c =
    let s = 2 ^ c.args.exponent in let start = c.strides.start in let len = length c.args.list.now in
    let power = c.power-stride.ensures in let some = pow_pos c.args.exponent in let short = c.strides-test.false in
    omega (
      arith,
      stride-within start len s some (omega (arith, c.strides.invariant.narrowed.within)),
      stride-within start (place_of c.search_part-2.result) s some
          (place-behind _ _ _ _ c.search_part-2.result c.strides.invariant.narrowed c.search_part-2.ensures.place),
      digits-least (len - start) c.args.exponent (omega arith),
      c.strides.invariant.counted,
      c.search_part-2.ensures.counted,
    )
