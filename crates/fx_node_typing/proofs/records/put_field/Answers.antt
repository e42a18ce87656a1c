use Rattle.std.proofs.Common.{◌≡◌, Ok, Err, map, ap, ◌∙◌, arith}
use Rattle.fx_node_typing.specs.Fields.{field_view, field_index}
use Rattle.fx_node_typing.proofs.Fields.{found, missing}
use Rattle.fx_node_typing.proofs.records.put_field.Goals as goal

pub index_mut-requires : goal.index_mut-requires
index_mut-requires c =
    let e : field_index c.args.name c.args.fields.now.items ≡ Ok c.in-Ok.place = cc in
    omega (arith, (found c.args.name c.args.part c.args.fields.now.items c.in-Ok.place e).0)

pub returns-in-Ok : goal.returns-in-Ok
returns-in-Ok c =
    let e : field_index c.args.name c.args.fields.now.items ≡ Ok c.in-Ok.place = cc in
    (found c.args.name c.args.part c.args.fields.now.items c.in-Ok.place e).1

pub insert-requires : goal.insert-requires
insert-requires c =
    let e : field_index c.args.name c.args.fields.now.items ≡ Err c.in-Err.place = cc in
    omega (arith, (missing c.args.name c.args.part c.args.fields.now.items c.in-Err.place e).0)

pub returns-in_ok-insert-in-Err : goal.returns-in_ok-insert-in-Err
returns-in_ok-insert-in-Err c =
    let e : field_index c.args.name c.args.fields.now.items ≡ Err c.in-Err.place = cc in
    ap (map field_view) c.in_ok-insert-in-Err.ensures.items ∙ (missing c.args.name c.args.part c.args.fields.now.items c.in-Err.place e).1
