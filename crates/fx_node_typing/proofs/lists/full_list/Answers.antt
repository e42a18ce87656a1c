use Rattle.std.proofs.Common.{◌≡◌, List, [], ◌∷◌, ◌<◌, Some, Err, length, map, option_map, refl, sym, ap, ◌∙◌, arith}
use Rattle.std.proofs.lemmas.Result.{err_from_is_err_and}
use Rattle.fx_types.specs.Types.{blanks}
use Rattle.fx_types.specs.TypeView.{shape}
use Rattle.fx_typing.specs.Builds.{bounded, bounded_by, typed_list, list_as}
use Rattle.fx_typing.specs.declared.typed.Typed.{Typed}
use Rattle.fx_typing.specs.TypedView.{typed}
use Rattle.fx_typing.specs.Local.{join_all}
use Rattle.fx_node_typing.proofs.Exits.{as_same, first_stops, goes_on}
use Rattle.fx_node_typing.proofs.lists.full_list.Goals as goal

full : (xs : List Typed) → 0 < length xs → typed_list (map typed xs) ≡ bounded (list_as (join_all (Some blanks) (map typed xs)) (map typed xs))
full [] h = absurd (omega arith)
full (x ∷ xs) h = refl

pub returns-in_err-table : goal.returns-in_err-table
returns-in_err-table c =
    let p = err_from_is_err_and c.from_residual-in_err-table.result c.from_residual-in_err-table.ensures.1 in
    let xs = c.args.parts.items in
    let r = list_as (option_map shape c.in_ok-row.row) (map typed xs) in
    let e : option_map shape c.in_ok-row.row ≡ join_all (Some blanks) (map typed xs) =
    c.in_ok-row.ensures ∙ ap (λ (ys : List Typed). join_all (Some blanks) (map typed ys)) c.as_slice.ensures.value in
    rw (p.1, p.2)
    (as_same typed (typed_list (map typed xs)) (bounded r) (Err c.in_err-table.field-0.0)
    (full xs c.requires ∙ ap (λ o. bounded (list_as o (map typed xs))) (sym e)) (first_stops typed typed r bounded_by c.in_err-table.field-0.0 c.in_err-table.ensures))

pub returns : goal.returns
returns c =
    let xs = c.args.parts.items in
    let r = list_as (option_map shape c.in_ok-row.row) (map typed xs) in
    let e : option_map shape c.in_ok-row.row ≡ join_all (Some blanks) (map typed xs) =
    c.in_ok-row.ensures ∙ ap (λ (ys : List Typed). join_all (Some blanks) (map typed ys)) c.as_slice.ensures.value in
    as_same typed (typed_list (map typed xs)) (bounded r) c.check_limits.result
    (full xs c.requires ∙ ap (λ o. bounded (list_as o (map typed xs))) (sym e))
    (goes_on typed r (typed c.in_ok-table.table) bounded_by c.check_limits.result c.in_ok-table.ensures c.check_limits.ensures)
