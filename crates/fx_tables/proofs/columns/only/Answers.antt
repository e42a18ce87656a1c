use Rattle.std.proofs.Common.{◌≡◌, ◌∙◌, ap, subst, sym, ℕ, List, bytes_eq, rules}
use Rattle.std.specs.List.{filter, list_any}
use Rattle.std.proofs.lemmas.Fn.{filter_same}
use Rattle.fx_types.specs.Rising.{AreNamesRising}
use Rattle.fx_types.specs.ValueView.{view, fields_view}
use Rattle.fx_types.specs.declared.values.Value.{Value}
use Rattle.fx_types.proofs.Risings.{rising_filter}
use Rattle.fx_value.specs.Columns.{fields_only}
use Rattle.fx_tables.proofs.ColumnSteps.{seen_filter}
use Rattle.fx_tables.proofs.columns.only.Goals as goal

pub from_rising-requires : goal.from_rising-requires
from_rising-requires c =
    let ns = c.args.names.now in
    let xs = c.into_items-items.result.items in
    let kept : c.retain.new.self.items ≡ filter (λ (f : List ℕ × Value). list_any (bytes_eq f.0) ns) xs = filter_same _ _ _ (λ x b g k. search rules) _ _ c.retain.ensures.filtered in
    let seen : fields_view c.retain.new.self.items ≡ fields_only ns c.args.row = ap fields_view kept ∙ seen_filter (λ f. list_any (bytes_eq f.0) ns) xs ∙ ap (fields_only ns) c.into_items-items.ensures.fields in
    subst AreNamesRising (sym seen) (rising_filter (λ f. list_any (bytes_eq f.0) ns) c.args.row c.into_items-items.ensures.rising)

pub returns : goal.returns
returns c =
    let ns = c.args.names.now in
    let xs = c.into_items-items.result.items in
    let kept : c.retain.new.self.items ≡ filter (λ (f : List ℕ × Value). list_any (bytes_eq f.0) ns) xs = filter_same _ _ _ (λ x b g k. search rules) _ _ c.retain.ensures.filtered in
    c.from_rising.ensures ∙ ap fields_view kept ∙ seen_filter (λ f. list_any (bytes_eq f.0) ns) xs ∙ ap (fields_only ns) c.into_items-items.ensures.fields
