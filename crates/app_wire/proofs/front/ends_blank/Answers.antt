use Rattle.std.proofs.Common.{inl, inr, codes}
use Rattle.app_wire.proofs.Blanks.{end_is, second_end}
use Rattle.app_wire.proofs.front.ends_blank.Goals as goal

pub returns-then-ends_with : goal.returns-then-ends_with
returns-then-ends_with c = (
  λ yes. inl ((end_is (codes "\n\n") c.args.bytes.now c.ends_with.result c.ends_with.ensures.value).0 c.if-ends_with.true),
  λ blank. c.if-ends_with.true,
)

pub returns-else-ends_with : goal.returns-else-ends_with
returns-else-ends_with c = (
  λ yes. inr ((end_is (codes "\n\r\n") c.args.bytes.now c.ends_with-else-ends_with.result c.ends_with-else-ends_with.ensures.value).0 yes),
  second_end c.args.bytes.now c.ends_with.result c.ends_with-else-ends_with.result c.ends_with.ensures.value c.ends_with-else-ends_with.ensures.value c.if-ends_with.false,
)
