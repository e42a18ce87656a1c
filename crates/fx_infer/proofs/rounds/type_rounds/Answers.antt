use Rattle.std.proofs.Common.{◌≢◌, map, sym, ◌∙◌, arith}
use Rattle.fx_typing.specs.Rounds.{AfterRounds, next_types, types_in}
use Rattle.fx_core.specs.declared.names.Names.{Names}
use Rattle.fx_infer.specs.CellView.{cell}
use Rattle.fx_infer.specs.TypesView.{types_view}
use Rattle.fx_infer.proofs.After.{after_next, first_fits, next_fits, below_last, is_final, types_differ, up_to}
use Rattle.fx_infer.proofs.Only.{final_settles}
use Rattle.fx_infer.proofs.Same.{lawful_same}
use Rattle.fx_infer.proofs.rounds.type_rounds.Goals as goal

pub with_types-requires : goal.with_types-requires
with_types-requires c = first_fits c.in_ok-blank.blank c.args.names c.in_ok-blank.ensures

pub loop-round-init : goal.loop-round-init
loop-round-init c = record {
  after = (c.in_ok-typed.ensures.same, c.in_ok-typed.ensures.types ∙ c.in_ok-blank.ensures);
  changed = λ k h. absurd (omega arith);
  lawful = lawful_same c.args.names c.in_ok-typed.typed c.in_ok-typed.ensures.same c.requires.lawful;
}

pub next_types-requires-clause-lawful : goal.next_types-requires-clause-lawful
next_types-requires-clause-lawful c = c.loop-round.invariant.lawful

pub returns-then-are_types_of-clause-types : goal.returns-then-are_types_of-clause-types
returns-then-are_types_of-clause-types c =
    is_final (map cell c.args.cells.now) c.args.names c.loop-round.typed c.in_ok-next.next c.loop-round.round
    (omega (arith, c.loop-round-test.true)) c.loop-round.invariant.after c.in_ok-next.ensures (sym c.are_types_of.ensures ∙ c.if-are_types_of.true)

pub returns-then-are_types_of-clause-settles : goal.returns-then-are_types_of-clause-settles
returns-then-are_types_of-clause-settles c =
    final_settles (map cell c.args.cells.now) c.args.names c.loop-round.typed
    (is_final (map cell c.args.cells.now) c.args.names c.loop-round.typed c.in_ok-next.next c.loop-round.round
    (omega (arith, c.loop-round-test.true)) c.loop-round.invariant.after c.in_ok-next.ensures (sym c.are_types_of.ensures ∙ c.if-are_types_of.true))

pub returns-then-are_types_of-clause-lawful : goal.returns-then-are_types_of-clause-lawful
returns-then-are_types_of-clause-lawful c = c.loop-round.invariant.lawful

pub with_types-requires-in-loop-round : goal.with_types-requires-in-loop-round
with_types-requires-in-loop-round c = next_fits c.in_ok-next.next (map cell c.args.cells.now) c.loop-round.typed c.in_ok-next.ensures

pub loop-round-preserved : goal.loop-round-preserved
loop-round-preserved c =
    let cs = map cell c.args.cells.now in
    let n = c.args.names in
    let t = c.loop-round.typed in
    let m = c.in_ok-typed-2.typed in
    let differs : next_types cs t ≢ types_in t = λ e.
    types_differ (types_view c.in_ok-next.next) (types_in t) (sym c.are_types_of.ensures ∙ c.if-are_types_of.false) (c.in_ok-next.ensures ∙ e) in
    record {
      after = after_next cs n t m c.loop-round.round c.loop-round.invariant.after c.in_ok-typed-2.ensures.same
          (c.in_ok-typed-2.ensures.types ∙ c.in_ok-next.ensures);
      changed = up_to (λ k. (x : Names) × AfterRounds cs n k x × (next_types cs x ≢ types_in x)) c.loop-round.round c.loop-round.invariant.changed
          (t, c.loop-round.invariant.after, differs);
      lawful = lawful_same t m c.in_ok-typed-2.ensures.same c.loop-round.invariant.lawful;
    }

pub returns-clause-broken : goal.returns-clause-broken
returns-clause-broken c = λ b e k h. c.loop-round.invariant.changed k (below_last k c.loop-round.round 256 h c.loop-round-test.false)
