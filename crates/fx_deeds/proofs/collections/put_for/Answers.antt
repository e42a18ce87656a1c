use Rattle.std.proofs.Common.{◌≡◌, ◌++◌, ◌∷◌, subst, List}
use Rattle.std.specs.Prelude.{MatchOption}
use Rattle.fx_types.specs.Types.{records}
use Rattle.fx_semantics.specs.Around.{record_of}
use Rattle.fx_value.specs.Columns.{Row}
use Rattle.fx_deeds.proofs.Adding.{gathers_rows, put_fits}
use Rattle.fx_deeds.proofs.CutUpdates.{held_cut}
use Rattle.fx_deeds.proofs.Holding.{held_then, puts_there}
use Rattle.fx_deeds.specs.Collections.{IsFirstRow, Lacks, PutsFor}
use Rattle.fx_deeds.proofs.Attempts.{look_attempts, look_then}
use Rattle.fx_deeds.proofs.collections.put_for.Goals as goal

pub make-requires : goal.make-requires
make-requires g c =
    let cs = c.requires.0 in
    let all = c.as_slice.result.now in
    let first = subst (λ o. MatchOption o (Lacks c.args.row all) (λ p. (before : List Row) × (after : List Row) × IsFirstRow c.args.row all before after × (p ≡ before ++ c.args.changed ∷ after))) c.in-Some.is c.in_ok-put.ensures in
    gathers_rows (g.W.Env.fixed c.args.world.now) (g.W.Env.fixed c.rows_held.new.world) (g.W.World.names c.rows_held.new.world) c.args.collection cs _ c.rows_held.ensures.look.passed.fixed (g.met.W.World.typed c.rows_held.new.world) c.requires.1
    (put_fits cs c.in_ok-rows.rows all first.0 first.1 c.in-Some.put c.args.row c.args.changed c.as_slice.ensures first.2 first.3 c.requires.2 (c.in_ok-rows.ensures.fits cs c.requires.1))

pub returns-clause-fits : goal.returns-clause-fits
returns-clause-fits g c = λ cs h. c.make.ensures.fits (records cs) h

pub returns-clause-done : goal.returns-clause-done
returns-clause-done g c =
    let all = c.as_slice.result.now in
    let first = subst (λ o. MatchOption o (Lacks c.args.row all) (λ p. (before : List Row) × (after : List Row) × IsFirstRow c.args.row all before after × (p ≡ before ++ c.args.changed ∷ after))) c.in-Some.is c.in_ok-put.ensures in
    held_then c.make.result (g.W.Env.marks c.args.world.now) (g.W.Env.marks c.rows_held.new.world) (g.W.Env.marks c.make.new.world) (g.W.World.state c.args.world.now) (g.W.World.state c.rows_held.new.world) (g.W.World.state c.make.new.world) c.args.collection c.in_ok-rows.rows c.in-Some.put (record_of c.args.changed) (PutsFor c.args.collection c.args.row c.args.changed) c.rows_held.ensures.look.passed.later c.make.ensures.attempt.passed.later
    (puts_there c.args.collection c.args.row c.args.changed c.in_ok-rows.rows all c.in-Some.put first.0 first.1 c.as_slice.ensures first.2 first.3) c.in_ok-rows.ensures.held c.make.ensures.done

pub returns-clause-cut : goal.returns-clause-cut
returns-clause-cut g c =
    let all = c.as_slice.result.now in
    let first = subst (λ o. MatchOption o (Lacks c.args.row all) (λ p. (before : List Row) × (after : List Row) × IsFirstRow c.args.row all before after × (p ≡ before ++ c.args.changed ∷ after))) c.in-Some.is c.in_ok-put.ensures in
    held_cut c.make.result (g.W.Env.marks c.args.world.now) (g.W.Env.marks c.rows_held.new.world) (g.W.Env.marks c.make.new.world) (g.W.World.state c.args.world.now) (g.W.World.state c.rows_held.new.world) (g.W.World.state c.make.new.world) c.args.collection c.in_ok-rows.rows c.in-Some.put (record_of c.args.changed) (PutsFor c.args.collection c.args.row c.args.changed) c.rows_held.ensures.look.passed.later c.make.ensures.attempt.passed.later
    (puts_there c.args.collection c.args.row c.args.changed c.in_ok-rows.rows all c.in-Some.put first.0 first.1 c.as_slice.ensures first.2 first.3) c.in_ok-rows.ensures.held c.make.ensures.cut

pub returns-in_err-rows-clause-attempt : goal.returns-in_err-rows-clause-attempt
returns-in_err-rows-clause-attempt g c = look_attempts _ _ _ c.rows_held.ensures.look

pub returns-in_err-put-clause-attempt : goal.returns-in_err-put-clause-attempt
returns-in_err-put-clause-attempt g c = look_attempts _ _ _ c.rows_held.ensures.look

pub returns-in_default-clause-attempt : goal.returns-in_default-clause-attempt
returns-in_default-clause-attempt g c = look_attempts _ _ _ c.rows_held.ensures.look

pub returns-in_err-error-clause-attempt : goal.returns-in_err-error-clause-attempt
returns-in_err-error-clause-attempt g c = look_attempts _ _ _ c.rows_held.ensures.look

pub returns-clause-attempt : goal.returns-clause-attempt
returns-clause-attempt g c = look_then _ _ _ _ c.rows_held.ensures.look c.make.ensures.attempt
