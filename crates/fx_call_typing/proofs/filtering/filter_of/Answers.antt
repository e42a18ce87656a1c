use Rattle.std.proofs.Common.{◌∷◌, map, ap, sym, ◌∙◌}
use Rattle.fx_types.specs.Types.{Shape}
use Rattle.fx_core.specs.declared.functions.Fun.TheVariants as fun
use Rattle.fx_typing.specs.Deeds.{filter_of}
use Rattle.fx_typing.specs.Parts.{pieces}
use Rattle.fx_typing.specs.TypedView.{typed, piece_view}
use Rattle.fx_resolve.specs.PartView.{judged_part}
use Rattle.fx_core.specs.Term.{Term}
use Rattle.fx_typing.specs.Local.{node_made, value}
use Rattle.fx_call_typing.specs.Changes.{changing_view}
use Rattle.fx_node_typing.proofs.Exits.{as_same}
use Rattle.fx_call_typing.proofs.filtering.filter_of.Goals as goal

pub returns : goal.returns
returns c =
    let qs = map judged_part c.args.conditions.items in
    as_same typed (filter_of (changing_view c.args.rows.now) c.args.alias qs) (node_made fun.Filter (map piece_view c.in_ok-pieces.pieces.items)) c.make.result
    (ap (node_made fun.Filter) (sym (c.in_ok-pieces.ensures ∙ ap (λ (x : Term × Shape). value c.args.alias x.0 x.1 ∷ pieces qs) c.in_ok-table.ensures))) c.make.ensures
