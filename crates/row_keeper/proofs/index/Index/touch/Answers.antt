use Rattle.std.proofs.Common.{ap, ◌∙◌, ◌++◌, ◌∷◌, []}
use Rattle.row_keeper.specs.Entries.{is_entry_among}
use Rattle.row_keeper.proofs.MarkLemmas.{noted_last}
use Rattle.row_keeper.proofs.index.Index.touch.Goals as goal

pub returns-clause-ok : goal.returns-clause-ok
returns-clause-ok c =
    ap (λ xs. is_entry_among xs c.args.entry.now) (c.in_ok-push.ensures.items ∙ ap (λ e. c.args.self.now.touched.items ++ e ∷ []) c.in_ok-copy_entry.ensures) ∙ noted_last c.args.self.now.touched.items c.args.entry.now
