use Rattle.std.proofs.Common.{rules, ◌≡◌, ℕ, ◌+◌, ◌^◌, ◌<◌, ◌≤◌, List, [], length, ap, arith}
use Rattle.std.proofs.lemmas.Grind.{common_steps}
use Rattle.st_tree.specs.declared.expr.StType.{StType}
use Rattle.st_tree.specs.WellTyped.{keys_of}
use Rattle.instruction_lowering.proofs.TemporaryNames.{later_number, one_more_temporary}
use Rattle.instruction_lowering.specs.inner.Temporaries.{number_after, temporaries}
use Rattle.instruction_lowering.proofs.locals.temporaries.Goals as goal

pub loop-ty-preserved : goal.loop-ty-preserved
loop-ty-preserved c =
    let keys = keys_of c.args.formals.now in
    let later : c.loop-ty.number < number_after keys c.loop-ty.number = later_number keys c.loop-ty.number in (
      one_more_temporary keys c.loop-ty.number c.in_ok-number.number c.loop-ty.locals c.push.new.self (temporaries keys 0 c.args.types.now)
          c.in_ok-name.name c.in-Some.ty.now c.loop-ty.rest.now c.in-Some.behind.now (first_of (search rules, grind (arith, common_steps)))
          (first_of (search rules, grind (arith, common_steps))) (first_of (search rules, grind (arith, common_steps)))
          (first_of (search rules, grind (arith, common_steps))) c.loop-ty.invariant.0,
      first_of (search rules, grind (arith, common_steps)),
      c.in_ok-number.ensures.few,
    )

-- where no type is left there are no more types than the last number
none_left : (rest types : List StType) (n : ℕ) → rest ≡ [] → length types ≤ length rest + n → n < 2 ^ 32 → length types < 2 ^ 32
none_left rest types n e many few = let none : length rest ≡ 0 = ap length e in omega arith

pub returns-clause-few : goal.returns-clause-few
returns-clause-few c =
    none_left c.loop-ty.rest.now c.args.types.now c.loop-ty.number (first_of (search rules, grind (arith, common_steps))) c.loop-ty.invariant.1
    c.loop-ty.invariant.2
