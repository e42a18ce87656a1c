use Rattle.std.proofs.Common.{refl, Some, None}
use Rattle.std.proofs.lemmas.Result.{on_ok_weaker}
use Rattle.fx_group.proofs.Steps.{opened, place_is, put, within}
use Rattle.fx_group.proofs.buckets.put_row.Goals as goal

pub put_behind-requires : goal.put_behind-requires
put_behind-requires c =
    let ns = c.args.keys.now in
    let b = c.args.buckets.now in
    let held = c.requires.held in
    within ns b held.0 _ c.in-Some.place held.1 (place_is ns b held.0 c.in_ok-key.key c.args.row (Some c.in-Some.place) held.1 c.in_ok-key.ensures.bytes c.in-Some.ensures)

pub returns-in-Some-clause-held : goal.returns-in-Some-clause-held
returns-in-Some-clause-held c = λ rows h.
    let ns = c.args.keys.now in
    let b = c.args.buckets.now in
    on_ok_weaker c.put_behind.result
    (put ns b _ rows c.args.row c.in-Some.place h (place_is ns b rows c.in_ok-key.key c.args.row (Some c.in-Some.place) h c.in_ok-key.ensures.bytes c.in-Some.ensures) refl refl)
    c.put_behind.ensures

pub returns-in-None-clause-held : goal.returns-in-None-clause-held
returns-in-None-clause-held c = λ rows h.
    let ns = c.args.keys.now in
    let b = c.args.buckets.now in
    on_ok_weaker c.open_group.result
    (opened ns b c.open_group.new.buckets rows c.args.row c.in_ok-key.key h c.in_ok-key.ensures.bytes (place_is ns b rows c.in_ok-key.key c.args.row None h c.in_ok-key.ensures.bytes c.in-None.ensures))
    c.open_group.ensures

pub returns-in-Some-clause-proper : goal.returns-in-Some-clause-proper
returns-in-Some-clause-proper c = on_ok_weaker c.put_behind.result (λ h. c.in_ok-key.ensures.proper) c.put_behind.ensures

pub returns-in-None-clause-proper : goal.returns-in-None-clause-proper
returns-in-None-clause-proper c = on_ok_weaker c.open_group.result (λ h. c.in_ok-key.ensures.proper) c.open_group.ensures
