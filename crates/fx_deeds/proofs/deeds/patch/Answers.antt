use Rattle.fx_core.specs.declared.deeds.Target.TheVariants as target
use Rattle.std.proofs.Common.{◌≡◌, ◌∷◌, [], ◌∙◌, List, map, ap, subst, sym, true}
use Rattle.std.specs.Prelude.{IfOk, option_map}
use Rattle.fx_base.specs.Silence.{SilenceCause}
use Rattle.fx_types.specs.declared.values.Value.{Value}
use Rattle.fx_types.specs.ValueView.{view}
use Rattle.fx_core.specs.declared.deeds.Deed.TheVariants as deed
use Rattle.fx_value.specs.Fits.{fits_in}
use Rattle.fx_core.specs.declared.sources.Source.TheVariants as source
use Rattle.fx_deeds.proofs.Adding.{error_fits}
use Rattle.fx_deeds.proofs.Holding.{base_can}
use Rattle.fx_deeds.proofs.Targets.{can_patch, patched_fits}
use Rattle.fx_deeds.specs.Doable.{AnswersAs, CanDo}
use Rattle.fx_deeds.specs.RowValues.{rows_among, columns_of_rows}
use Rattle.fx_deeds.specs.Writable.{IsOneOf, DeedMayWrite}
use Rattle.fx_deeds.specs.State.{eval_frame}
use Rattle.std.specs.List.{find}
use Rattle.fx_tables.specs.Unions.{is_fault}
use Rattle.fx_deeds.proofs.CutRows.{cut_among, cut_as}
use Rattle.fx_deeds.proofs.Deeding.{no_error}
use Rattle.fx_deeds.specs.Collections.{IsPatchedIn}
use Rattle.fx_deeds.specs.Deeds.{IsPatched}
use Rattle.fx_deeds.proofs.Attempts.{attempt_none, attempt_wider}
use Rattle.fx_deeds.proofs.deeds.patch.Goals as goal

pub returns-in-Some-clause-fits : goal.returns-in-Some-clause-fits
returns-in-Some-clause-fits g c = λ u h. error_fits (map view c.args.values.now) (view c.in-Some.error) u (sym c.in_ok-error.ensures ∙ ap (option_map view) c.in-Some.is)

pub patch_table-requires : goal.patch_table-requires
patch_table-requires g c =
    let w = c.args.world.now in
    let types = (g.W.Env.fixed w).types in
    let can = subst (λ (z : List Value). CanDo types (deed.Patch c.args.target) (map view z)) c.in-Some-split_first.ensures.cases.0 c.requires in
    can_patch (g.W.Env.fixed w) (g.W.World.names w) c.in-Table.table (g.met.W.World.typed w) (g.met.W.World.shaped w) (view c.in-Some-split_first.base.now) (map view c.in-Some-split_first.changes.now)
    (subst (λ p. CanDo types (deed.Patch p) (view c.in-Some-split_first.base.now ∷ map view c.in-Some-split_first.changes.now)) c.in-Table.is can)

pub returns-in-Table-clause-fits : goal.returns-in-Table-clause-fits
returns-in-Table-clause-fits g c = λ u h.
    let w = c.args.world.now in
    patched_fits (g.W.Env.fixed w) (g.W.World.names w) c.in-Table.table (g.met.W.World.typed w) (g.met.W.World.shaped w) c.patch_table.result u
    (subst (λ p. AnswersAs (g.W.Env.fixed w).types (deed.Patch p) u) c.in-Table.is h) c.patch_table.ensures.fits

pub patch_equal-requires : goal.patch_equal-requires
patch_equal-requires g c =
    let types = (g.W.Env.fixed c.args.world.now).types in
    let all = subst (λ (z : List Value). CanDo types (deed.Patch c.args.target) (map view z)) c.in-Some-split_first.ensures.cases.0 c.requires in
    let can = subst (λ p. CanDo types (deed.Patch p) (view c.in-Some-split_first.base.now ∷ map view c.in-Some-split_first.changes.now)) c.in-Gathered.is all in
    (can.0, can.1, base_can can.0 (view c.in-Some-split_first.base.now) (rows_among (map view c.in-Some-split_first.changes.now)) can.2 can.3 can.4)

pub returns-in-Gathered-clause-fits : goal.returns-in-Gathered-clause-fits
returns-in-Gathered-clause-fits g c = λ u h.
    let k = subst (λ p. AnswersAs (g.W.Env.fixed c.args.world.now).types (deed.Patch p) u) c.in-Gathered.is h in
    subst (λ z. IfOk c.patch_equal.result (λ x. fits_in (view x) z ≡ true)) (sym k.2) (c.patch_equal.ensures.fits k.0 k.1)

pub returns-in_err-error-clause-attempt : goal.returns-in_err-error-clause-attempt
returns-in_err-error-clause-attempt g c = attempt_none _ _

pub returns-in-Some-clause-attempt : goal.returns-in-Some-clause-attempt
returns-in-Some-clause-attempt g c = attempt_none _ _

pub returns-in-Table-clause-attempt : goal.returns-in-Table-clause-attempt
returns-in-Table-clause-attempt g c = attempt_wider _ _ (IsOneOf (source.Table c.in-Table.table ∷ [])) (DeedMayWrite (deed.Patch c.args.target)) (λ x w. subst (λ p. DeedMayWrite (deed.Patch p) x) (sym c.in-Table.is) w) c.patch_table.ensures.attempt

pub returns-in-Gathered-clause-attempt : goal.returns-in-Gathered-clause-attempt
returns-in-Gathered-clause-attempt g c = attempt_wider _ _ (IsOneOf (source.Gathered c.in-Gathered.collection ∷ [])) (DeedMayWrite (deed.Patch c.args.target)) (λ x w. subst (λ p. DeedMayWrite (deed.Patch p) x) (sym c.in-Gathered.is) w) c.patch_equal.ensures.attempt

pub returns-in-Table-clause-cut : goal.returns-in-Table-clause-cut
returns-in-Table-clause-cut g c =
    let b = view c.in-Some-split_first.base.now in
    let ys = map view c.in-Some-split_first.changes.now in
    let none = ap (λ (z : List Value). find is_fault (map view z)) (sym c.in-Some-split_first.ensures.cases.0) ∙ no_error c.in_ok-error.field-0 _ c.in_ok-error.ensures c.in_default.not-Some in
    cut_as c.patch_table.result (SilenceCause (g.W.Env.marks c.args.world.now) (g.W.Env.marks c.patch_table.new.world)) (g.W.World.state c.args.world.now) (g.W.World.state c.patch_table.new.world) (eval_frame (g.W.Env.fixed c.args.world.now)) (deed.Patch c.args.target) (deed.Patch (target.Table c.in-Table.table)) c.args.values.now (c.in-Some-split_first.base.now ∷ c.in-Some-split_first.changes.now) (ap deed.Patch c.in-Table.is) c.in-Some-split_first.ensures.cases.0
    (cut_among c.patch_table.result (SilenceCause (g.W.Env.marks c.args.world.now) (g.W.Env.marks c.patch_table.new.world)) (g.W.World.state c.args.world.now) (g.W.World.state c.patch_table.new.world) (b ∷ ys) (λ s n x t. IsPatched (g.W.Env.fixed c.args.world.now).schema c.in-Table.table b ys s x t) none c.patch_table.ensures.cut)

pub returns-in-Gathered-clause-cut : goal.returns-in-Gathered-clause-cut
returns-in-Gathered-clause-cut g c =
    let b = view c.in-Some-split_first.base.now in
    let ys = map view c.in-Some-split_first.changes.now in
    let k = c.in-Gathered.collection in
    let none = ap (λ (z : List Value). find is_fault (map view z)) (sym c.in-Some-split_first.ensures.cases.0) ∙ no_error c.in_ok-error.field-0 _ c.in_ok-error.ensures c.in_default.not-Some in
    cut_as c.patch_equal.result (SilenceCause (g.W.Env.marks c.args.world.now) (g.W.Env.marks c.patch_equal.new.world)) (g.W.World.state c.args.world.now) (g.W.World.state c.patch_equal.new.world) (eval_frame (g.W.Env.fixed c.args.world.now)) (deed.Patch c.args.target) (deed.Patch (target.Gathered k)) c.args.values.now (c.in-Some-split_first.base.now ∷ c.in-Some-split_first.changes.now) (ap deed.Patch c.in-Gathered.is) c.in-Some-split_first.ensures.cases.0
    (cut_among c.patch_equal.result (SilenceCause (g.W.Env.marks c.args.world.now) (g.W.Env.marks c.patch_equal.new.world)) (g.W.World.state c.args.world.now) (g.W.World.state c.patch_equal.new.world) (b ∷ ys) (λ s n x t. IsPatchedIn (columns_of_rows ((g.W.Env.fixed c.args.world.now).types (source.Gathered k))) k b ys s x t) none c.patch_equal.ensures.cut)
