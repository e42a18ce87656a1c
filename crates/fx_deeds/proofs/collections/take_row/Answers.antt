use Rattle.std.proofs.Common.{◌≡◌, ◌++◌, subst, List}
use Rattle.std.specs.Prelude.{MatchOption}
use Rattle.fx_value.specs.Columns.{Row}
use Rattle.fx_deeds.proofs.Adding.{gathers_rows, parted_fits}
use Rattle.fx_deeds.proofs.Gathering.{take_fails, take_takes}
use Rattle.fx_deeds.specs.Collections.{IsFirstRow, Lacks}
use Rattle.fx_deeds.proofs.Attempts.{look_attempts, look_then}
use Rattle.fx_deeds.proofs.collections.take_row.Goals as goal

pub change-requires : goal.change-requires
change-requires g c =
    let cs = c.requires.0 in
    let all = c.as_slice.result.now in
    let first = subst (λ o. MatchOption o (Lacks c.args.row all) (λ p. (before : List Row) × (after : List Row) × IsFirstRow c.args.row all before after × (p ≡ before ++ after))) c.in-Some.is c.in_ok-left.ensures in
    gathers_rows (g.W.Env.fixed c.args.world.now) (g.W.Env.fixed c.rows_held.new.world) (g.W.World.names c.rows_held.new.world) c.args.collection cs _ c.rows_held.ensures.look.passed.fixed (g.met.W.World.typed c.rows_held.new.world) c.requires.1
    (parted_fits cs c.in_ok-rows.rows all first.0 first.1 c.in-Some.left c.args.row c.as_slice.ensures first.2 first.3 (c.in_ok-rows.ensures.fits cs c.requires.1))

pub returns-then-branch-clause-done : goal.returns-then-branch-clause-done
returns-then-branch-clause-done g c =
    let all = c.as_slice.result.now in
    let first = subst (λ o. MatchOption o (Lacks c.args.row all) (λ p. (before : List Row) × (after : List Row) × IsFirstRow c.args.row all before after × (p ≡ before ++ after))) c.in-Some.is c.in_ok-left.ensures in
    take_takes (g.W.Env.marks c.args.world.now) (g.W.Env.marks c.rows_held.new.world) (g.W.Env.marks c.change.new.world) (g.W.World.state c.args.world.now) (g.W.World.state c.rows_held.new.world) (g.W.World.state c.change.new.world) c.args.collection c.args.row c.in_ok-rows.rows all first.0 first.1
    c.rows_held.ensures.look.passed.later c.change.ensures.attempt.passed.later c.as_slice.ensures first.2 c.in-Some.left _ first.3 c.if-branch.true c.in_ok-rows.ensures.held c.in_ok-change.ensures.done

pub returns-clause-done : goal.returns-clause-done
returns-clause-done g c =
    let all = c.as_slice.result.now in
    let first = subst (λ o. MatchOption o (Lacks c.args.row all) (λ p. (before : List Row) × (after : List Row) × IsFirstRow c.args.row all before after × (p ≡ before ++ after))) c.in-Some.is c.in_ok-left.ensures in
    take_fails (g.W.Env.marks c.args.world.now) (g.W.Env.marks c.rows_held.new.world) (g.W.Env.marks c.change.new.world) (g.W.World.state c.args.world.now) (g.W.World.state c.rows_held.new.world) (g.W.World.state c.change.new.world) c.args.collection c.args.row c.in_ok-rows.rows all first.0 first.1
    c.rows_held.ensures.look.passed.later c.change.ensures.attempt.passed.later c.as_slice.ensures first.2 c.in-Some.left _ c.in_ok-error-2.field-0 first.3 c.if-branch.false c.in_ok-error-2.ensures c.in_ok-rows.ensures.held c.in_ok-change.ensures.done

pub returns-in_err-rows-clause-attempt : goal.returns-in_err-rows-clause-attempt
returns-in_err-rows-clause-attempt g c = look_attempts _ _ _ c.rows_held.ensures.look

pub returns-in_err-left-clause-attempt : goal.returns-in_err-left-clause-attempt
returns-in_err-left-clause-attempt g c = look_attempts _ _ _ c.rows_held.ensures.look

pub returns-in_default-clause-attempt : goal.returns-in_default-clause-attempt
returns-in_default-clause-attempt g c = look_attempts _ _ _ c.rows_held.ensures.look

pub returns-in_err-error-clause-attempt : goal.returns-in_err-error-clause-attempt
returns-in_err-error-clause-attempt g c = look_attempts _ _ _ c.rows_held.ensures.look

pub returns-in_err-change-clause-attempt : goal.returns-in_err-change-clause-attempt
returns-in_err-change-clause-attempt g c = look_then _ _ _ _ c.rows_held.ensures.look c.change.ensures.attempt

pub returns-then-branch-clause-attempt : goal.returns-then-branch-clause-attempt
returns-then-branch-clause-attempt g c = look_then _ _ _ _ c.rows_held.ensures.look c.change.ensures.attempt

pub returns-clause-attempt : goal.returns-clause-attempt
returns-clause-attempt g c = look_then _ _ _ _ c.rows_held.ensures.look c.change.ensures.attempt

pub returns-in_err-error-2-clause-attempt : goal.returns-in_err-error-2-clause-attempt
returns-in_err-error-2-clause-attempt g c = look_then _ _ _ _ c.rows_held.ensures.look c.change.ensures.attempt
