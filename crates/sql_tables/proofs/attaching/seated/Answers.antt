use Rattle.std.proofs.Common.{◌≡◌, ◌∙◌, sym, false, arith}
use Rattle.sqlite_trees.specs.View.{IsClean}
use Rattle.sqlite.specs.Held.{state}
use Rattle.sql_meanings.proofs.SeatLemmas.{all_seated}
use Rattle.sql_tables.proofs.MadeLemmas.{open_if_unbroken}
use Rattle.sql_tables.proofs.attaching.seated.Goals as goal

pub returns-in-Ok-clause-ready : goal.returns-in-Ok-clause-ready
returns-in-Ok-clause-ready g c clean has =
    let store = c.into_store-store.result in
    let v = g.S.Store.view store in
    let early : IsClean v = omega (arith, c.in-Ok.ensures.clean) in
    let unbroken : v.is_broken ≡ false = sym (c.is_broken.ensures early) ∙ c.if-is_broken.false in
    let opens = c.in-Ok.ensures.opens clean in
    let sound = (opens.1 opens.0.is_open).0 in
    record {
      is_open = opens.0.is_open;
      idle = opens.0.autocommit;
      settled = opens.0.clean;
      schema = has;
      seated = all_seated v (state g.S.Store c.in-Ok.conn).now.schema (state g.S.Store c.in-Ok.conn).now.trees (g.met.S.Store.ordered store unbroken) (g.met.S.Alter.listed store unbroken) sound has (c.in-Ok.ensures.trees clean);
    }

pub returns-in-Ok-clause-same : goal.returns-in-Ok-clause-same
returns-in-Ok-clause-same g c clean =
    let store = c.into_store-store.result in
    let v = g.S.Store.view store in
    let early : IsClean v = omega (arith, c.in-Ok.ensures.clean) in
    let unbroken : v.is_broken ≡ false = sym (c.is_broken.ensures early) ∙ c.if-is_broken.false in
    c.in-Ok.ensures.trees clean ∙ (c.into_store-store.ensures.undone.undone (open_if_unbroken v unbroken (g.met.S.Store.broken_if_shut store))).0

pub returns-in-Ok-clause-later : goal.returns-in-Ok-clause-later
returns-in-Ok-clause-later g c =
    let before = c.into_store-store.ensures.quiet.clean in
    let behind = c.in-Ok.ensures.clean in
    omega (arith, before, behind)
