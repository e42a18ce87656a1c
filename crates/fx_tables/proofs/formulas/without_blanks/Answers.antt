use Rattle.std.proofs.Common.{◌≡◌, ◌∙◌, ap, map, not, rules}
use Rattle.std.specs.List.{filter}
use Rattle.std.proofs.lemmas.Fn.{filter_same}
use Rattle.fx_types.specs.ValueView.{view}
use Rattle.fx_types.specs.declared.values.Value.{Value}
use Rattle.fx_tables.specs.RowCalls.{is_blank}
use Rattle.fx_tables.proofs.KeptRows.{blanks_seen}
use Rattle.fx_tables.proofs.formulas.without_blanks.Goals as goal

pub returns : goal.returns
returns c =
    let kept : c.retain.new.self.items ≡ filter (λ (v : Value). not (is_blank (view v))) c.args.values.items = filter_same _ _ _ (λ x b g k. search rules) _ _ c.retain.ensures.filtered in
    ap (map view) kept ∙ blanks_seen c.args.values.items
