use Rattle.std.proofs.Common.{◌≡◌, ◌∷◌, map, rules, arith, ap, Vec, Global}
use Rattle.std.proofs.lemmas.List.{nil_from_length}
use Rattle.fx_types.specs.Types.{column_list}
use Rattle.fx_typing.specs.Deeds.{rows_named_by, row_typed}
use Rattle.fx_typing.specs.declared.typed.Typed.{Typed}
use Rattle.fx_typing.specs.TypedView.{typed}
use Rattle.fx_node_typing.proofs.Kept.{keeps_on, kept_all}
use Rattle.fx_call_typing.proofs.changing.identify_rows.Goals as goal

pub loop-one-preserved : goal.loop-one-preserved
loop-one-preserved c =
    let f = row_typed c.args.rows.now.target (column_list c.args.rows.now.columns) in
    let s : c.loop-one.one-iterator.rest.items ≡ c.in-Some.one ∷ c.next.new.self.rest.items = search rules in
    keeps_on f (λ (xs : Vec Typed Global). map typed xs.items) c.loop-one.found c.keep-found.result (typed c.in-Some.one) _ (map typed c.next.new.self.rest.items) _
    (ap (map typed) s) (λ p h. c.keep-found.ensures p (f (typed c.in-Some.one)) h c.identify_row.ensures) c.loop-one.invariant

pub returns : goal.returns
returns c =
    let t = c.args.rows.now.target in
    let cs = column_list c.args.rows.now.columns in
    let done = c.in-None.ensures.steps in
    let n = nil_from_length c.loop-one.one-iterator.rest.items (omega arith) in
    kept_all (row_typed t cs) (λ (xs : Vec Typed Global). map typed xs.items) c.loop-one.found (map typed c.loop-one.one-iterator.rest.items)
    (rows_named_by t cs (map typed c.args.named.items)) (ap (map typed) n) c.loop-one.invariant
