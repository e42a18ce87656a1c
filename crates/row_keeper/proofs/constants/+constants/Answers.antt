use Rattle.std.proofs.Common.{arith}
use Rattle.row_queries.proofs.Judging.{part_falls}
use Rattle.row_keeper.proofs.constants.+constants.Goals as goal

pub are_sound-is_sound-requires : goal.are_sound-is_sound-requires
are_sound-is_sound-requires t c = (let h = part_falls c.args.tests.now c.loop-test.test-index c.test-item.result c.loop-test-test.true c.test-item.is in omega (arith, h), tt)
