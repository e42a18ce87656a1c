use Rattle.std.proofs.Common.{◌≡◌, ◌++◌, ap, ◌∙◌}
use Rattle.fx_types.specs.ValueView.{view}
use Rattle.fx_semantics.specs.Rows.{rows_in}
use Rattle.fx_core.specs.declared.sources.Source.TheVariants as source
use Rattle.fx_deeds.proofs.Told.{held_there, rows_read_fit, state_holds, state_stays}
use Rattle.fx_deeds.specs.Collections.{rows_held}
use Rattle.fx_deeds.proofs.Attempts.{look}
use Rattle.fx_deeds.proofs.session.rows_held.Goals as goal

pub returns-clause-held : goal.returns-clause-held
returns-clause-held g c =
    let old = c.args.world.now in
    let new = c.read.new.self in
    let d = view c.in_ok-value.value in
    state_holds _ _ _ (λ s. c.in_ok-with_table.field-0 ≡ rows_held c.args.collection s)
    (state_stays _ (g.W.Env.told old) (g.W.Env.told new) _ _ (g.met.W.World.keeps old new) (g.met.W.World.lost old) (g.met.W.World.lost new) c.read.ensures.told)
    (λ s e.
    c.in_ok-with_table.ensures ∙ ap (λ z. z ++ rows_in d) c.new.ensures
    ∙ ap rows_in (held_there (g.W.Env.fixed old).types (g.W.World.state new) (g.W.Env.told new) c.args.collection d (g.met.W.World.lost new)
    (λ t f p q. g.met.W.World.collections new t f p q c.args.collection) c.in_ok-value.ensures.value s e))

pub returns-clause-fits : goal.returns-clause-fits
returns-clause-fits g c = λ cs h.
    rows_read_fit (g.W.Env.fixed c.args.world.now).types (source.Gathered c.args.collection) (view c.in_ok-value.value) cs _ _ c.in_ok-value.ensures.value.0 c.new.ensures c.in_ok-with_table.ensures h

pub returns-in_err-value-clause-look : goal.returns-in_err-value-clause-look
returns-in_err-value-clause-look g c =
    let old = c.args.world.now in
    let new = c.read.new.self in
    look _ _ c.read.ensures.fixed (state_stays _ (g.W.Env.told old) (g.W.Env.told new) _ _ (g.met.W.World.keeps old new) (g.met.W.World.lost old) (g.met.W.World.lost new) c.read.ensures.told)
    c.read.ensures.marks c.read.ensures.visited

pub returns-in_err-with_table-clause-look : goal.returns-in_err-with_table-clause-look
returns-in_err-with_table-clause-look g c =
    let old = c.args.world.now in
    let new = c.read.new.self in
    look _ _ c.read.ensures.fixed (state_stays _ (g.W.Env.told old) (g.W.Env.told new) _ _ (g.met.W.World.keeps old new) (g.met.W.World.lost old) (g.met.W.World.lost new) c.read.ensures.told)
    c.read.ensures.marks c.read.ensures.visited

pub returns-clause-look : goal.returns-clause-look
returns-clause-look g c =
    let old = c.args.world.now in
    let new = c.read.new.self in
    look _ _ c.read.ensures.fixed (state_stays _ (g.W.Env.told old) (g.W.Env.told new) _ _ (g.met.W.World.keeps old new) (g.met.W.World.lost old) (g.met.W.World.lost new) c.read.ensures.told)
    c.read.ensures.marks c.read.ensures.visited
