use Rattle.std.proofs.Common.{◌∙◌, ◌+◌, ◌∷◌, [], ap, filter}
use Rattle.std.specs.List.{list_any}
use Rattle.fx_types.specs.ValueView.{view}
use Rattle.row_keeper.specs.Rules.{is_other_row}
use Rattle.row_keeper.specs.Sound.{lies_among}
use Rattle.row_keeper.proofs.RuleLemmas.{repeated_at}
use Rattle.row_keeper.proofs.rules.is_repeated.Goals as goal

pub returns : goal.returns
returns c =
    c.has_other.ensures
    ∙ ap (list_any (is_other_row c.args.id)) (c.as_slice.ensures.value ∙ c.in_ok-rows.ensures ∙ ap (λ rs. filter (lies_among (c.args.place + 1) rs) c.args.table.now.now.rows) (c.from_ref.ensures.value ∙ ap (λ r. r ∷ []) c.in_ok-range.ensures))
    ∙ repeated_at c.keys_order.ensures.order c.args.table.now.columns c.args.place (view c.args.cell.now) c.args.id c.requires.fit c.value_is_proper.ensures c.args.table.now.now.rows c.is_sound.ensures.now.rows
