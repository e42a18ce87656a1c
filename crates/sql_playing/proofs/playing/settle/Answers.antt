use Rattle.std.proofs.Common.{arith}
use Rattle.sqlite.specs.Held.{state}
use Rattle.sqlite.specs.State.{HasCleanDisk}
use Rattle.sqlite.proofs.StateLemmas.{survives_then}
use Rattle.row_plan.specs.Shown.{all_shown}
use Rattle.sql_playing.specs.Played.{HoldsAfter}
use Rattle.sql_playing.proofs.RefusalLemmas.{opened_before, rests_again}
use Rattle.sql_playing.proofs.playing.settle.Goals as goal

pub returns-in-Err-clause-undone : goal.returns-in-Err-clause-undone
returns-in-Err-clause-undone g c = λ clean up ready no.
    let old = state g.S.Store c.args.conn.now in
    let mid = state g.S.Store c.commit_steps.new.conn in
    let new = state g.S.Store c.end_after.new.conn in
    let early : HasCleanDisk mid = omega (arith, clean, c.end_after.ensures.runs.survives.clean) in
    rests_again old mid new ready (λ opened. c.in-Err.ensures.undone early ready.idle opened) (c.end_after.ensures.mode (c.commit_steps.ensures.mode ready.idle)) (c.end_after.ensures.runs.left clean) up

pub returns-in-Err-clause-was_open : goal.returns-in-Err-clause-was_open
returns-in-Err-clause-was_open g c = λ clean up.
    let mid = state g.S.Store c.commit_steps.new.conn in
    let new = state g.S.Store c.end_after.new.conn in
    let early : HasCleanDisk mid = omega (arith, clean, c.end_after.ensures.runs.survives.clean) in
    c.commit_steps.ensures.was_open early (opened_before mid new (c.end_after.ensures.runs.left clean) up)

pub returns-in-Err-clause-survives : goal.returns-in-Err-clause-survives
returns-in-Err-clause-survives g c =
    let old = state g.S.Store c.args.conn.now in
    let mid = state g.S.Store c.commit_steps.new.conn in
    let new = state g.S.Store c.end_after.new.conn in
    let Written = HoldsAfter old (all_shown c.args.steps.now) in
    survives_then old mid new Written (λ _. ⊥) Written (λ _ db it. it) (λ _ db none. absurd none) c.commit_steps.ensures.survives c.end_after.ensures.runs.survives
