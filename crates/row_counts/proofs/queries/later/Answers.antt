use Rattle.std.proofs.Common.{cond, ap, ◌∙◌}
use Rattle.std.specs.Ordering.{is_le}
use Rattle.row_counts.proofs.queries.later.Goals as goal

pub returns-then-is_le : goal.returns-then-is_le
returns-then-is_le c = ap (λ b. cond b c.args.second.now c.args.first.now) (c.if-is_le.ensures ∙ ap is_le c.cmp.ensures)

pub returns-else-is_le : goal.returns-else-is_le
returns-else-is_le c = ap (λ b. cond b c.args.second.now c.args.first.now) (c.if-is_le.ensures ∙ ap is_le c.cmp.ensures)
