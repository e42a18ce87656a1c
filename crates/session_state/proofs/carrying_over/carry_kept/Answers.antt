use Rattle.std.proofs.Common.{◌≡◌, ℕ, ◌+◌, Option, None, refl, sym, ◌∙◌, ap, arith, length}
use Rattle.session_state.specs.CarriedOver.{control_was}
use Rattle.session_state.specs.Carrying.{carried_values, value_or}
use Rattle.session_state.proofs.CarriedControls.{controls_apart}
use Rattle.session_state.proofs.Moving.{left_more, one_moved}
use Rattle.session_state.proofs.carrying_over.carry_kept.Goals as goal

pub loop-place-init : goal.loop-place-init
loop-place-init g c = record {
  done = c.requires.empty;
  left = λ k i d le e. refl;
  room = c.requires.room;
  few = c.args.to.now.ok.0 ∙ ap length c.requires.empty;
}

pub put-requires : goal.put-requires
put-requires g c =
    let i = c.loop-place.invariant in
    record { room = omega (arith, i.few, i.room, c.loop-place-test.true, c.len-place-end.ensures) }

pub loop-place-preserved : goal.loop-place-preserved
loop-place-preserved g c =
    let i = c.loop-place.invariant in
    let was : ℕ → Option ℕ = control_was c.args.old.now c.args.new.now in
    let value_is = c.take.ensures.value ∙ ap (λ (o : Option ℕ). value_or None c.loop-place.from.items o) c.control_was.ensures in
    record {
      done = one_moved was c.loop-place.place (c.loop-place.place + 1) c.loop-place.from.items c.args.from.now.items c.loop-place.to.items c.put.new.values.items
          c.take.result None refl i.left value_is c.put.ensures.values i.done;
      left = left_more was c.loop-place.place (c.loop-place.place + 1) c.loop-place.from.items c.take.new.values.items c.args.from.now.items None c.control_was.result
          (controls_apart c.args.old.now c.args.new.now) refl (sym c.control_was.ensures) c.take.ensures.left i.left;
      room = omega (arith, i.room, c.put.ensures.room);
      few = omega (arith, i.few, c.put.ensures.len);
    }

pub returns : goal.returns
returns g c =
    let all : c.loop-place.place ≡ length c.args.new.now = omega (arith, c.loop-place-test.false, c.loop-place.auto.place-end, c.len-place-end.ensures) in
    c.loop-place.invariant.done ∙ ap (λ (m : ℕ). carried_values (control_was c.args.old.now c.args.new.now) None c.args.from.now.items m) all
