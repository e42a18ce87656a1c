use Rattle.std.proofs.Common.{ap, cond, ◌∙◌}
use Rattle.std.specs.Option.{option_map}
use Rattle.row_keeper.specs.Entries.{mark_at_end, is_entry, mark_at, while_entry}
use Rattle.row_keeper.proofs.EndLemmas.{at_both}
use Rattle.row_keeper.proofs.MarkLemmas.{two_steps}
use Rattle.row_keeper.proofs.index.end_at.Goals as goal

pub returns : goal.returns
returns c q =
    at_both (is_entry c.args.entry.now q) (option_map (mark_at_end c.args.with_changes)) while_entry (mark_at c.args.entries.now.entries q) (mark_at c.end_mark.new.entries.entries q) (mark_at c.drop_mark.new.entries.entries q) (c.end_mark.ensures q) (c.drop_mark.ensures q)
    ∙ ap (λ o. cond (is_entry c.args.entry.now q) o (mark_at c.args.entries.now.entries q)) (two_steps c.args.with_changes (mark_at c.args.entries.now.entries q))
