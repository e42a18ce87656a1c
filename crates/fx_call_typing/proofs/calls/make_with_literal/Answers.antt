use Rattle.std.proofs.Common.{◌≡◌, ◌+◌, ◌∙◌, List, None, Some, ap, arith, drop, length, map, option_map, sym, take}
use Rattle.std.proofs.lemmas.List.{drop-map, length-map, take-map}
use Rattle.fx_core.specs.declared.rows.Row.{Row}
use Rattle.fx_core.specs.Rows.{row_of}
use Rattle.fx_typing.specs.Calls.{function_by, literal_in, made_if, made_literal}
use Rattle.fx_typing.specs.declared.typed.Piece.{Piece}
use Rattle.fx_typing.specs.TypedView.{piece_view, typed}
use Rattle.fx_typing.specs.Local.{node_made}
use Rattle.fx_node_typing.proofs.Exits.{as_same}
use Rattle.fx_call_typing.proofs.Literals.{behind_first, literal_one}
use Rattle.fx_call_typing.proofs.calls.make_with_literal.Goals as goal

pub returns-in_default : goal.returns-in_default
returns-in_default c =
    let f = c.args.fun in
    let xs = c.args.arguments.items in
    let ds = c.deref.result.now in
    let m = c.row_of-most.result.most in
    let h : length xs ≡ m + 1 = grind arith in
    let k : length (map piece_view xs) ≡ (row_of f).most + 1 = length-map xs piece_view ∙ h ∙ ap (λ (r : Row). r.most + 1) c.row_of-most.ensures in
    let e : option_map (λ w. w.now) c.literal_in.result ≡ literal_in (drop (row_of f).most (map piece_view xs)) =
    c.literal_in.ensures ∙ ap (λ (l : List Piece). literal_in (map piece_view l)) (behind_first ds m)
    ∙ ap (λ (l : List Piece). literal_in (map piece_view (drop m l))) c.deref.ensures.value
    ∙ ap (λ (r : Row). literal_in (map piece_view (drop r.most xs))) c.row_of-most.ensures
    ∙ ap literal_in (sym (drop-map piece_view (row_of f).most xs)) in
    let n : function_by f (literal_in (drop (row_of f).most (map piece_view xs))) ≡ None = ap (function_by f) (sym e) ∙ sym c.function_by.ensures ∙ c.in_default.is in
    literal_one f (map piece_view xs) k ∙ ap (λ o. made_if o (take (row_of f).most (map piece_view xs))) n

pub returns : goal.returns
returns c =
    let f = c.args.fun in
    let xs = c.args.arguments.items in
    let ds = c.deref.result.now in
    let m = c.row_of-most.result.most in
    let h : length xs ≡ m + 1 = grind arith in
    let k : length (map piece_view xs) ≡ (row_of f).most + 1 = length-map xs piece_view ∙ h ∙ ap (λ (r : Row). r.most + 1) c.row_of-most.ensures in
    let e : option_map (λ w. w.now) c.literal_in.result ≡ literal_in (drop (row_of f).most (map piece_view xs)) =
    c.literal_in.ensures ∙ ap (λ (l : List Piece). literal_in (map piece_view l)) (behind_first ds m)
    ∙ ap (λ (l : List Piece). literal_in (map piece_view (drop m l))) c.deref.ensures.value
    ∙ ap (λ (r : Row). literal_in (map piece_view (drop r.most xs))) c.row_of-most.ensures
    ∙ ap literal_in (sym (drop-map piece_view (row_of f).most xs)) in
    let s : function_by f (literal_in (drop (row_of f).most (map piece_view xs))) ≡ Some c.in-Some.chosen = ap (function_by f) (sym e) ∙ sym c.function_by.ensures ∙ c.in-Some.is in
    let left : take (row_of f).most (map piece_view xs) ≡ map piece_view c.truncate.new.self.items =
    take-map piece_view (row_of f).most xs ∙ ap (λ (r : Row). map piece_view (take r.most xs)) (sym c.row_of-most.ensures) ∙ ap (map piece_view) (sym c.truncate.ensures.items) in
    as_same typed (made_literal f (map piece_view xs)) (node_made c.in-Some.chosen (map piece_view c.truncate.new.self.items)) c.make-2.result
    (literal_one f (map piece_view xs) k ∙ ap (λ o. made_if o (take (row_of f).most (map piece_view xs))) s ∙ ap (node_made c.in-Some.chosen) left)
    c.make-2.ensures
