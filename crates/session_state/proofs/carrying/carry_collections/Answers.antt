use Rattle.std.proofs.Common.{◌≡◌, ℕ, ◌+◌, Option, refl, sym, ◌∙◌, ap, arith, length, map}
use Rattle.fx_types.specs.Values.{tab, no_rows, row_list}
use Rattle.fx_types.specs.ValueView.{view}
use Rattle.fx_types.specs.declared.values.Value.TheVariants as value
use Rattle.fx_core.specs.declared.names.Collection.{Collection}
use Rattle.session_state.specs.Carrying.{carried_values, collection_was, place_of_collection, value_or}
use Rattle.session_state.proofs.Moving.{apart, left_more, moved_more}
use Rattle.session_state.proofs.carrying.carry_collections.Goals as goal

pub loop-place-init : goal.loop-place-init
loop-place-init c = record {
  done = ap (map view) c.requires.empty;
  left = λ k i d le e. refl;
  room = c.requires.room;
  few = c.args.to.now.ok.0 ∙ ap length c.requires.empty;
}

pub put-requires : goal.put-requires
put-requires c =
    let i = c.loop-place.invariant in
    record { room = omega (arith, i.few, i.room, c.loop-place-test.true, c.len-place-end.ensures) }

pub loop-place-preserved : goal.loop-place-preserved
loop-place-preserved c =
    let i = c.loop-place.invariant in
    let was : ℕ → Option ℕ = collection_was c.args.old.now c.args.new.now in
    let value_is = c.take.ensures.value ∙ ap (λ (o : Option ℕ). value_or (value.Tab c.new.result) c.loop-place.from.items o) c.collection_was.ensures in
    record {
      done = moved_more was c.loop-place.place (c.loop-place.place + 1) c.loop-place.from.items c.args.from.now.items c.loop-place.to.items c.put.new.values.items
          (value.Tab c.new.result) c.take.result (tab no_rows) refl (ap (λ rs. tab (row_list rs)) c.new.ensures) i.left value_is c.put.ensures.values i.done;
      left = left_more was c.loop-place.place (c.loop-place.place + 1) c.loop-place.from.items c.take.new.values.items c.args.from.now.items (value.Tab c.new.result) c.collection_was.result
          (apart (λ (x : Collection). x.ty) (place_of_collection c.args.old.now) (place_of_collection c.args.new.now) c.args.old.now.collections c.args.new.now.collections)
          refl (sym c.collection_was.ensures) c.take.ensures.left i.left;
      room = omega (arith, i.room, c.put.ensures.room);
      few = omega (arith, i.few, c.put.ensures.len);
    }

pub returns : goal.returns
returns c =
    let all : c.loop-place.place ≡ length c.args.new.now.collections = omega (arith, c.loop-place-test.false, c.loop-place.auto.place-end, c.len-place-end.ensures) in
    c.loop-place.invariant.done ∙ ap (λ (m : ℕ). carried_values (collection_was c.args.old.now c.args.new.now) (tab no_rows) (map view c.args.from.now.items) m) all
