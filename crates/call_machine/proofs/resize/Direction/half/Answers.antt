use Rattle.std.proofs.Common.{◌≤◌, ◌^◌, ◌-◌}
use Rattle.std.proofs.Math.Pow.{pow_mono}
use native.Mathlib.Omega.{arith}
use Rattle.call_machine.proofs.SoundResize.{level_small}
use Rattle.call_machine.proofs.resize.Direction.half.Goals as goal

pub returns-in-Grow-clause-small : goal.returns-in-Grow-clause-small
returns-in-Grow-clause-small c =
    let small = level_small c.requires.level.0 c.args.self c.args.level c.requires.level.1 c.requires.level.2 in
    let most : 2 ^ c.args.level ≤ 2 ^ 20 = pow_mono small in
    omega (arith, most)

pub returns-in-Shrink-clause-small : goal.returns-in-Shrink-clause-small
returns-in-Shrink-clause-small c =
    let small = level_small c.requires.level.0 c.args.self c.args.level c.requires.level.1 c.requires.level.2 in
    let less : c.args.level - 1 ≤ 20 = omega (arith, small) in
    let most : 2 ^ (c.args.level - 1) ≤ 2 ^ 20 = pow_mono less in
    omega (arith, most)
