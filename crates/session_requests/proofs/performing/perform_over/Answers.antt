use Rattle.std.proofs.Common.{◌≡◌, List, [], length, arith, None, Err, ap, refl, rules, subst, sym, ◌∙◌}
use Rattle.std.specs.Prelude.{drop, option_map, take}
use Rattle.std.proofs.Math.Seq.{drop-length, take-length}
use Rattle.fx_base.specs.Faults.{Rose}
use Rattle.fx_base.specs.Silence.{MayFallSilent, IsLater, SilenceCause}
use Rattle.fx_behave.specs.Actable.{CanAct, IsActable}
use Rattle.fx_behave.specs.Writable.{MayWrite}
use Rattle.fx_types.specs.TypeView.{shape}
use Rattle.fx_types.specs.ValueView.{view}
use Rattle.fx_types.specs.declared.values.Value.{Value}
use Rattle.fx_env.specs.Scopes.{ScopeValues, scope_values}
use Rattle.fx_core.specs.SourceTypes.{sources}
use Rattle.fx_core.specs.declared.sources.Source.{Source}
use Rattle.recalc.proofs.Evaluated.{carried}
use Rattle.recalc.proofs.Leaving.{left_same}
use Rattle.recalc.specs.Changes.{StaysCleanExcept}
use Rattle.recalc.specs.Kept.{CacheState}
use Rattle.recalc.specs.app_cells.declared.app.App.{App}
use Rattle.row_keeper.specs.Tables.{Tables}
use Rattle.session_state.specs.Sessions.{SessionState}
use Rattle.session_requests.specs.WorldIdentity.{anchor}
use Rattle.session_requests.specs.WorldContext.{grounds}
use Rattle.session_requests.specs.Performing.{PerformsCell, ChangesOnlyWritten, outermost_scope}
use Rattle.session_requests.specs.Transactions.{GoesOn, IsUnderWay}
use Rattle.session_requests.specs.WrittenWhole.{FormulaWrites, IsInAll}
use Rattle.session_requests.specs.Writable.{AllSources}
use Rattle.session_requests.proofs.Anchoring.{count_same, lent_same}
use Rattle.session_requests.proofs.Cuts.{cut_from}
use Rattle.session_requests.proofs.Transactions.{carried_four, leaves_but, left_under_way}
use Rattle.session_requests.proofs.WorldEnding.{acts_from, began_goes, can_act, carried_all, carried_both, failed_by, later_from, leaves_from, no_error, only_from}
use Rattle.session_requests.proofs.performing.perform_over.Goals as goal

pub act-requires : goal.act-requires
act-requires g c =
    let core = c.args.info.now.core in
    let empty : scope_values c.new.result.items c.args.item None ≡ outermost_scope (option_map view c.args.item) = ap (λ (vs : List Value). scope_values vs c.args.item None) c.new.ensures.items in
    subst (λ (h : ScopeValues). CanAct (sources (g.A.SoundApp.app c.args.app.now).names) h core) (sym empty)
    (shape c.args.info.now.ty, can_act (g.A.SoundApp.app c.args.app.now) c.args.info.now (option_map view c.args.item) c.requires.acting c.requires.item)

pub invariant_of-world-clause-today : goal.invariant_of-world-clause-today
invariant_of-world-clause-today g c = ∣ c.requires.day ∣₁

pub invariant_of-world-clause-lawful : goal.invariant_of-world-clause-lawful
invariant_of-world-clause-lawful g c = c.is_sound.ensures.names.schema

pub invariant_of-world-clause-shaped : goal.invariant_of-world-clause-shaped
invariant_of-world-clause-shaped g c = c.requires.under_way.shaped

pub invariant_of-world-clause-begun : goal.invariant_of-world-clause-begun
invariant_of-world-clause-begun g c = c.requires.under_way.begun

pub invariant_of-world-clause-fits : goal.invariant_of-world-clause-fits
invariant_of-world-clause-fits g c = c.requires.under_way.fits

pub invariant_of-world-clause-but : goal.invariant_of-world-clause-but
invariant_of-world-clause-but g c = c.requires.under_way.but

pub invariant_of-world-clause-sound : goal.invariant_of-world-clause-sound
invariant_of-world-clause-sound g c = c.requires.under_way.rows

pub invariant_of-world-clause-order : goal.invariant_of-world-clause-order
invariant_of-world-clause-order g c = c.requires.under_way.cached.order

pub invariant_of-world-clause-right : goal.invariant_of-world-clause-right
invariant_of-world-clause-right g c = c.requires.under_way.cached.right

pub invariant_of-world-clause-dated : goal.invariant_of-world-clause-dated
invariant_of-world-clause-dated g c = ∣ c.requires.under_way.cached.day ∣₁

pub invariant_of-world-clause-listed : goal.invariant_of-world-clause-listed
invariant_of-world-clause-listed g c = c.requires.under_way.sources

pub invariant_of-world-clause-counted : goal.invariant_of-world-clause-counted
invariant_of-world-clause-counted g c = omega (arith, c.requires.earlier)

pub invariant_of-world-clause-left : goal.invariant_of-world-clause-left
invariant_of-world-clause-left g c =
    subst (λ (z : CacheState). StaysCleanExcept (g.A.SoundApp.app c.args.app.now) c.args.wrote.now.items z c.args.cache.now) (sym c.requires.start) (left_same (g.A.SoundApp.app c.args.app.now) c.args.wrote.now.items c.args.cache.now)

pub returns-in-Ok-clause-acted : goal.returns-in-Ok-clause-acted
returns-in-Ok-clause-acted g c =
    let w = c.act.new.world in
    let old = c.args.keeper.now in
    let now = w.keeper.now in
    let f = lent_same (anchor (g.A.SoundApp.app w.app.now) w.moment w.before.now (take w.earlier w.wrote.now.items)) (anchor (g.A.SoundApp.app c.args.app.now) c.args.moment c.args.before.now (take c.args.earlier c.args.wrote.now.items)) _ _ _ _ _ _ _ _ _ _ _ _ c.act.ensures.attempt.passed.fixed in
    let front : take c.args.earlier c.args.wrote.now.items ≡ c.args.wrote.now.items = ap (λ n. take n c.args.wrote.now.items) c.requires.earlier ∙ take-length c.args.wrote.now.items in
    let count : w.earlier ≡ length c.args.wrote.now.items = count_same w.earlier w.wrote.now.items c.args.wrote.now.items w.counted (f.one.earlier ∙ front) in
    let none : drop c.args.earlier c.args.wrote.now.items ≡ [] = ap (λ n. drop n c.args.wrote.now.items) c.requires.earlier ∙ drop-length c.args.wrote.now.items in
    let empty : scope_values c.new.result.items c.args.item None ≡ outermost_scope (option_map view c.args.item) = ap (λ (vs : List Value). scope_values vs c.args.item None) c.new.ensures.items in
    carried_all (λ (k : g.row.K.Denot) (r : SessionState) (zs : List Source). MayFallSilent (SilenceCause (g.K.Keeper.marks old) (g.K.Keeper.marks k)) (λ t u. PerformsCell (g.A.SoundApp.app c.args.app.now) c.args.moment c.args.info.now (option_map view c.args.item) t c.args.session.now (view c.in-Ok.value) u r (drop (length c.args.wrote.now.items) zs)) (g.K.Keeper.told old) (g.K.Keeper.told k))
    now _ w.session.now _ w.wrote.now.items _ (search (rules, f.keeper)) (search (rules, f.session)) (search (rules, f.wrote))
    (subst (λ n. MayFallSilent (SilenceCause (g.K.Keeper.marks old) (g.K.Keeper.marks now)) (λ t u. PerformsCell (g.A.SoundApp.app c.args.app.now) c.args.moment c.args.info.now (option_map view c.args.item) t c.args.session.now (view c.in-Ok.value) u w.session.now (drop n w.wrote.now.items)) (g.K.Keeper.told old) (g.K.Keeper.told now)) count
    (acts_from (SilenceCause (g.K.Keeper.marks old) (g.K.Keeper.marks now)) (g.A.SoundApp.app c.args.app.now) (g.A.SoundApp.app c.args.app.now) c.args.moment c.args.info.now (option_map view c.args.item) (scope_values c.new.result.items c.args.item None) (view c.in-Ok.value) (g.K.Keeper.began old) (view c.args.day.now) (view w.day.now) (grounds (g.A.SoundApp.app w.app.now) w.moment (g.K.Keeper.began now)) c.args.session.now w.session.now c.args.cache.now.values.cells w.cache.now.values.cells (drop c.args.earlier c.args.wrote.now.items) (drop w.earlier w.wrote.now.items) (g.K.Keeper.told old) (g.K.Keeper.told now)
    refl none empty c.act.ensures.attempt.passed.state c.in-Ok.ensures.done))

pub returns-in-Ok-clause-value : goal.returns-in-Ok-clause-value
returns-in-Ok-clause-value g c =
    let core = c.args.info.now.core in
    let empty : scope_values c.new.result.items c.args.item None ≡ outermost_scope (option_map view c.args.item) = ap (λ (vs : List Value). scope_values vs c.args.item None) c.new.ensures.items in
    c.in-Ok.ensures.fits (shape c.args.info.now.ty)
    (subst (λ (h : ScopeValues). IsActable (sources (g.A.SoundApp.app c.args.app.now).names) h core (shape c.args.info.now.ty)) (sym empty)
    (can_act (g.A.SoundApp.app c.args.app.now) c.args.info.now (option_map view c.args.item) c.requires.acting c.requires.item))

pub returns-clause-cut : goal.returns-clause-cut
returns-clause-cut g c =
    let w = c.act.new.world in
    let told = g.K.Keeper.told in
    let marks = g.K.Keeper.marks in
    let old = c.args.keeper.now in
    let now = w.keeper.now in
    let a = g.A.SoundApp.app c.args.app.now in
    let item = option_map view c.args.item in
    let f = lent_same (anchor (g.A.SoundApp.app w.app.now) w.moment w.before.now (take w.earlier w.wrote.now.items)) (anchor (g.A.SoundApp.app c.args.app.now) c.args.moment c.args.before.now (take c.args.earlier c.args.wrote.now.items)) _ _ _ _ _ _ _ _ _ _ _ _ c.act.ensures.attempt.passed.fixed in
    let front : take c.args.earlier c.args.wrote.now.items ≡ c.args.wrote.now.items = ap (λ n. take n c.args.wrote.now.items) c.requires.earlier ∙ take-length c.args.wrote.now.items in
    let count : w.earlier ≡ length c.args.wrote.now.items = count_same w.earlier w.wrote.now.items c.args.wrote.now.items w.counted (f.one.earlier ∙ front) in
    let none : drop c.args.earlier c.args.wrote.now.items ≡ [] = ap (λ n. drop n c.args.wrote.now.items) c.requires.earlier ∙ drop-length c.args.wrote.now.items in
    let empty : scope_values c.new.result.items c.args.item None ≡ outermost_scope item = ap (λ (vs : List Value). scope_values vs c.args.item None) c.new.ensures.items in
    carried_both (λ (k : g.row.K.Denot) (zs : List Source). MayFallSilent (SilenceCause (marks old) (marks k)) (λ (t u : Tables). AllSources (IsInAll (FormulaWrites a c.args.moment c.args.info.now item t c.args.session.now)) (drop (length c.args.wrote.now.items) zs)) (told old) (told k))
    now _ w.wrote.now.items _ (search (rules, f.keeper)) (search (rules, f.wrote))
    (subst (λ n. MayFallSilent (SilenceCause (marks old) (marks now)) (λ (t u : Tables). AllSources (IsInAll (FormulaWrites a c.args.moment c.args.info.now item t c.args.session.now)) (drop n w.wrote.now.items)) (told old) (told now)) count
    (cut_from c.cuts_go_on.ensures c.one_source_value.ensures (SilenceCause (marks old) (marks now)) a c.args.moment c.args.info.now item (scope_values c.new.result.items c.args.item None) (g.K.Keeper.began old) (view c.args.day.now) (view w.day.now) (grounds (g.A.SoundApp.app w.app.now) w.moment (g.K.Keeper.began now))
    c.args.session.now w.session.now c.args.cache.now.values.cells w.cache.now.values.cells (drop c.args.earlier c.args.wrote.now.items) (drop w.earlier w.wrote.now.items) (told old) (told now)
    none empty c.act.ensures.attempt.passed.state c.in-Err.ensures.cut))

pub returns-in-Ok-clause-only : goal.returns-in-Ok-clause-only
returns-in-Ok-clause-only g c =
    let w = c.act.new.world in
    let told = g.K.Keeper.told in
    let marks = g.K.Keeper.marks in
    let old = c.args.keeper.now in
    let now = w.keeper.now in
    let may = MayWrite c.args.info.now.core in
    let f = lent_same (anchor (g.A.SoundApp.app w.app.now) w.moment w.before.now (take w.earlier w.wrote.now.items)) (anchor (g.A.SoundApp.app c.args.app.now) c.args.moment c.args.before.now (take c.args.earlier c.args.wrote.now.items)) _ _ _ _ _ _ _ _ _ _ _ _ c.act.ensures.attempt.passed.fixed in
    let front : take c.args.earlier c.args.wrote.now.items ≡ c.args.wrote.now.items = ap (λ n. take n c.args.wrote.now.items) c.requires.earlier ∙ take-length c.args.wrote.now.items in
    let count : w.earlier ≡ length c.args.wrote.now.items = count_same w.earlier w.wrote.now.items c.args.wrote.now.items w.counted (f.one.earlier ∙ front) in
    let none : drop c.args.earlier c.args.wrote.now.items ≡ [] = ap (λ n. drop n c.args.wrote.now.items) c.requires.earlier ∙ drop-length c.args.wrote.now.items in
    carried_both (λ (k : g.row.K.Denot) (zs : List Source). MayFallSilent (SilenceCause (marks old) (marks k)) (λ (t u : Tables). AllSources may (drop (length c.args.wrote.now.items) zs)) (told old) (told k)) now _ w.wrote.now.items _ (search (rules, f.keeper)) (search (rules, f.wrote))
    (subst (λ n. MayFallSilent (SilenceCause (marks old) (marks now)) (λ (t u : Tables). AllSources may (drop n w.wrote.now.items)) (told old) (told now)) count
    (only_from (SilenceCause (marks old) (marks now)) may (view c.args.day.now) (view w.day.now) (grounds (g.A.SoundApp.app c.args.app.now) c.args.moment (g.K.Keeper.began old)) (grounds (g.A.SoundApp.app w.app.now) w.moment (g.K.Keeper.began now)) c.args.session.now w.session.now
    c.args.cache.now.values.cells w.cache.now.values.cells (drop c.args.earlier c.args.wrote.now.items) (drop w.earlier w.wrote.now.items) (told old) (told now) none c.act.ensures.attempt.only))

pub returns-clause-only : goal.returns-clause-only
returns-clause-only g c =
    let w = c.act.new.world in
    let told = g.K.Keeper.told in
    let marks = g.K.Keeper.marks in
    let old = c.args.keeper.now in
    let now = w.keeper.now in
    let may = MayWrite c.args.info.now.core in
    let f = lent_same (anchor (g.A.SoundApp.app w.app.now) w.moment w.before.now (take w.earlier w.wrote.now.items)) (anchor (g.A.SoundApp.app c.args.app.now) c.args.moment c.args.before.now (take c.args.earlier c.args.wrote.now.items)) _ _ _ _ _ _ _ _ _ _ _ _ c.act.ensures.attempt.passed.fixed in
    let front : take c.args.earlier c.args.wrote.now.items ≡ c.args.wrote.now.items = ap (λ n. take n c.args.wrote.now.items) c.requires.earlier ∙ take-length c.args.wrote.now.items in
    let count : w.earlier ≡ length c.args.wrote.now.items = count_same w.earlier w.wrote.now.items c.args.wrote.now.items w.counted (f.one.earlier ∙ front) in
    let none : drop c.args.earlier c.args.wrote.now.items ≡ [] = ap (λ n. drop n c.args.wrote.now.items) c.requires.earlier ∙ drop-length c.args.wrote.now.items in
    carried_both (λ (k : g.row.K.Denot) (zs : List Source). MayFallSilent (SilenceCause (marks old) (marks k)) (λ (t u : Tables). AllSources may (drop (length c.args.wrote.now.items) zs)) (told old) (told k)) now _ w.wrote.now.items _ (search (rules, f.keeper)) (search (rules, f.wrote))
    (subst (λ n. MayFallSilent (SilenceCause (marks old) (marks now)) (λ (t u : Tables). AllSources may (drop n w.wrote.now.items)) (told old) (told now)) count
    (only_from (SilenceCause (marks old) (marks now)) may (view c.args.day.now) (view w.day.now) (grounds (g.A.SoundApp.app c.args.app.now) c.args.moment (g.K.Keeper.began old)) (grounds (g.A.SoundApp.app w.app.now) w.moment (g.K.Keeper.began now)) c.args.session.now w.session.now
    c.args.cache.now.values.cells w.cache.now.values.cells (drop c.args.earlier c.args.wrote.now.items) (drop w.earlier w.wrote.now.items) (told old) (told now) none c.act.ensures.attempt.only))

pub returns-in-Ok-clause-leaves : goal.returns-in-Ok-clause-leaves
returns-in-Ok-clause-leaves g c =
    let w = c.act.new.world in
    let old = c.args.keeper.now in
    let now = w.keeper.now in
    let f = lent_same (anchor (g.A.SoundApp.app w.app.now) w.moment w.before.now (take w.earlier w.wrote.now.items)) (anchor (g.A.SoundApp.app c.args.app.now) c.args.moment c.args.before.now (take c.args.earlier c.args.wrote.now.items)) _ _ _ _ _ _ _ _ _ _ _ _ c.act.ensures.attempt.passed.fixed in
    let none : drop c.args.earlier c.args.wrote.now.items ≡ [] = ap (λ n. drop n c.args.wrote.now.items) c.requires.earlier ∙ drop-length c.args.wrote.now.items in
    carried_both (λ (k : g.row.K.Denot) (r : SessionState). MayFallSilent (SilenceCause (g.K.Keeper.marks old) (g.K.Keeper.marks k)) (λ t u. ChangesOnlyWritten (g.A.SoundApp.app c.args.app.now) c.args.moment t c.args.session.now u r) (g.K.Keeper.told old) (g.K.Keeper.told k))
    now _ w.session.now _ (search (rules, f.keeper)) (search (rules, f.session))
    (leaves_from (SilenceCause (g.K.Keeper.marks old) (g.K.Keeper.marks now)) (g.A.SoundApp.app c.args.app.now) (g.A.SoundApp.app c.args.app.now) c.args.moment (g.K.Keeper.began old) (view c.args.day.now) (view w.day.now) (grounds (g.A.SoundApp.app w.app.now) w.moment (g.K.Keeper.began now)) c.args.session.now w.session.now c.args.cache.now.values.cells w.cache.now.values.cells (drop c.args.earlier c.args.wrote.now.items) (drop w.earlier w.wrote.now.items) (g.K.Keeper.told old) (g.K.Keeper.told now)
    refl none c.act.ensures.attempt.passed.state)

pub returns-clause-leaves : goal.returns-clause-leaves
returns-clause-leaves g c =
    let w = c.act.new.world in
    let old = c.args.keeper.now in
    let now = w.keeper.now in
    let f = lent_same (anchor (g.A.SoundApp.app w.app.now) w.moment w.before.now (take w.earlier w.wrote.now.items)) (anchor (g.A.SoundApp.app c.args.app.now) c.args.moment c.args.before.now (take c.args.earlier c.args.wrote.now.items)) _ _ _ _ _ _ _ _ _ _ _ _ c.act.ensures.attempt.passed.fixed in
    let none : drop c.args.earlier c.args.wrote.now.items ≡ [] = ap (λ n. drop n c.args.wrote.now.items) c.requires.earlier ∙ drop-length c.args.wrote.now.items in
    carried_both (λ (k : g.row.K.Denot) (r : SessionState). MayFallSilent (SilenceCause (g.K.Keeper.marks old) (g.K.Keeper.marks k)) (λ t u. ChangesOnlyWritten (g.A.SoundApp.app c.args.app.now) c.args.moment t c.args.session.now u r) (g.K.Keeper.told old) (g.K.Keeper.told k))
    now _ w.session.now _ (search (rules, f.keeper)) (search (rules, f.session))
    (leaves_from (SilenceCause (g.K.Keeper.marks old) (g.K.Keeper.marks now)) (g.A.SoundApp.app c.args.app.now) (g.A.SoundApp.app c.args.app.now) c.args.moment (g.K.Keeper.began old) (view c.args.day.now) (view w.day.now) (grounds (g.A.SoundApp.app w.app.now) w.moment (g.K.Keeper.began now)) c.args.session.now w.session.now c.args.cache.now.values.cells w.cache.now.values.cells (drop c.args.earlier c.args.wrote.now.items) (drop w.earlier w.wrote.now.items) (g.K.Keeper.told old) (g.K.Keeper.told now)
    refl none c.act.ensures.attempt.passed.state)

pub returns-in-Ok-clause-under_way : goal.returns-in-Ok-clause-under_way
returns-in-Ok-clause-under_way g c =
    let w = c.act.new.world in
    let a = g.A.SoundApp.app c.args.app.now in
    let old = c.args.keeper.now in
    let now = w.keeper.now in
    let f = lent_same (anchor (g.A.SoundApp.app w.app.now) w.moment w.before.now (take w.earlier w.wrote.now.items)) (anchor (g.A.SoundApp.app c.args.app.now) c.args.moment c.args.before.now (take c.args.earlier c.args.wrote.now.items)) _ _ _ _ _ _ _ _ _ _ _ _ c.act.ensures.attempt.passed.fixed in
    let front : take c.args.earlier c.args.wrote.now.items ≡ c.args.wrote.now.items = ap (λ n. take n c.args.wrote.now.items) c.requires.earlier ∙ take-length c.args.wrote.now.items in
    let count : w.earlier ≡ length c.args.wrote.now.items = count_same w.earlier w.wrote.now.items c.args.wrote.now.items w.counted (f.one.earlier ∙ front) in
    let none : drop c.args.earlier c.args.wrote.now.items ≡ [] = ap (λ n. drop n c.args.wrote.now.items) c.requires.earlier ∙ drop-length c.args.wrote.now.items in
    let later = later_from (SilenceCause (g.K.Keeper.marks old) (g.K.Keeper.marks now)) (view c.args.day.now) (view w.day.now) (grounds a c.args.moment (g.K.Keeper.began old)) (grounds (g.A.SoundApp.app w.app.now) w.moment (g.K.Keeper.began now)) c.args.session.now w.session.now c.args.cache.now.values.cells w.cache.now.values.cells c.args.wrote.now.items w.wrote.now.items (drop c.args.earlier c.args.wrote.now.items) w.earlier (g.K.Keeper.told old) (g.K.Keeper.told now)
    count (f.one.earlier ∙ front) none c.act.ensures.attempt.passed.state c.requires.under_way.later in
    carried_four (λ (s : SessionState) (z : CacheState) (k : g.row.K.Denot) (zs : List Source). IsUnderWay g.K.Keeper a c.args.moment c.args.before.now s z k zs) w.session.now w.cache.now now w.wrote.now.items _ _ _ _
    (search (rules, f.session)) (search (rules, f.cache)) (search (rules, f.keeper)) (search (rules, f.wrote))
    (left_under_way g.K.Keeper a (g.A.SoundApp.app w.app.now) c.args.moment w.moment c.args.before.now w.before.now w.session.now w.cache.now now w.wrote.now.items f.one.app f.one.moment f.one.before
    w.fits w.shaped w.sound w.begun w.order w.right w.dated w.but w.listed later)

pub returns-clause-under_way : goal.returns-clause-under_way
returns-clause-under_way g c =
    let w = c.act.new.world in
    let a = g.A.SoundApp.app c.args.app.now in
    let old = c.args.keeper.now in
    let now = w.keeper.now in
    let f = lent_same (anchor (g.A.SoundApp.app w.app.now) w.moment w.before.now (take w.earlier w.wrote.now.items)) (anchor (g.A.SoundApp.app c.args.app.now) c.args.moment c.args.before.now (take c.args.earlier c.args.wrote.now.items)) _ _ _ _ _ _ _ _ _ _ _ _ c.act.ensures.attempt.passed.fixed in
    let front : take c.args.earlier c.args.wrote.now.items ≡ c.args.wrote.now.items = ap (λ n. take n c.args.wrote.now.items) c.requires.earlier ∙ take-length c.args.wrote.now.items in
    let count : w.earlier ≡ length c.args.wrote.now.items = count_same w.earlier w.wrote.now.items c.args.wrote.now.items w.counted (f.one.earlier ∙ front) in
    let none : drop c.args.earlier c.args.wrote.now.items ≡ [] = ap (λ n. drop n c.args.wrote.now.items) c.requires.earlier ∙ drop-length c.args.wrote.now.items in
    let later = later_from (SilenceCause (g.K.Keeper.marks old) (g.K.Keeper.marks now)) (view c.args.day.now) (view w.day.now) (grounds a c.args.moment (g.K.Keeper.began old)) (grounds (g.A.SoundApp.app w.app.now) w.moment (g.K.Keeper.began now)) c.args.session.now w.session.now c.args.cache.now.values.cells w.cache.now.values.cells c.args.wrote.now.items w.wrote.now.items (drop c.args.earlier c.args.wrote.now.items) w.earlier (g.K.Keeper.told old) (g.K.Keeper.told now)
    count (f.one.earlier ∙ front) none c.act.ensures.attempt.passed.state c.requires.under_way.later in
    carried_four (λ (s : SessionState) (z : CacheState) (k : g.row.K.Denot) (zs : List Source). IsUnderWay g.K.Keeper a c.args.moment c.args.before.now s z k zs) w.session.now w.cache.now now w.wrote.now.items _ _ _ _
    (search (rules, f.session)) (search (rules, f.cache)) (search (rules, f.keeper)) (search (rules, f.wrote))
    (left_under_way g.K.Keeper a (g.A.SoundApp.app w.app.now) c.args.moment w.moment c.args.before.now w.before.now w.session.now w.cache.now now w.wrote.now.items f.one.app f.one.moment f.one.before
    w.fits w.shaped w.sound w.begun w.order w.right w.dated w.but w.listed later)

pub returns-in-Ok-clause-goes_on : goal.returns-in-Ok-clause-goes_on
returns-in-Ok-clause-goes_on g c =
    let w = c.act.new.world in
    let a = g.A.SoundApp.app c.args.app.now in
    let old = c.args.keeper.now in
    let now = w.keeper.now in
    let f = lent_same (anchor (g.A.SoundApp.app w.app.now) w.moment w.before.now (take w.earlier w.wrote.now.items)) (anchor (g.A.SoundApp.app c.args.app.now) c.args.moment c.args.before.now (take c.args.earlier c.args.wrote.now.items)) _ _ _ _ _ _ _ _ _ _ _ _ c.act.ensures.attempt.passed.fixed in
    let front : take c.args.earlier c.args.wrote.now.items ≡ c.args.wrote.now.items = ap (λ n. take n c.args.wrote.now.items) c.requires.earlier ∙ take-length c.args.wrote.now.items in
    let count : w.earlier ≡ length c.args.wrote.now.items = count_same w.earlier w.wrote.now.items c.args.wrote.now.items w.counted (f.one.earlier ∙ front) in
    let prefix : take (length c.args.wrote.now.items) w.wrote.now.items ≡ c.args.wrote.now.items = ap (λ n. take n w.wrote.now.items) (sym count) ∙ f.one.earlier ∙ front in
    carried_all (λ (k : g.row.K.Denot) (z : CacheState) (zs : List Source). GoesOn g.K.Keeper a c.args.cache.now z old k c.args.wrote.now.items zs) now _ w.cache.now _ w.wrote.now.items _
    (search (rules, f.keeper)) (search (rules, f.cache)) (search (rules, f.wrote))
    (record {
      prefix = prefix;
      began = began_goes (SilenceCause (g.K.Keeper.marks old) (g.K.Keeper.marks now)) (view c.args.day.now) (view w.day.now) (grounds a c.args.moment (g.K.Keeper.began old)) (grounds (g.A.SoundApp.app w.app.now) w.moment (g.K.Keeper.began now)) c.args.session.now w.session.now c.args.cache.now.values.cells w.cache.now.values.cells (drop c.args.earlier c.args.wrote.now.items) (drop w.earlier w.wrote.now.items)
          (g.K.Keeper.told old) (g.K.Keeper.told now) (λ e. (g.met.K.Keeper.quiet old e).0) (λ e. (g.met.K.Keeper.quiet now e).0) c.act.ensures.attempt.passed.state;
      loan = f.loan;
      visited = c.act.ensures.attempt.passed.visited;
      clean = leaves_but a c.args.wrote.now.items w.wrote.now.items c.args.cache.now w.cache.now prefix
          (subst (λ (z : CacheState). StaysCleanExcept a w.wrote.now.items z w.cache.now) c.requires.start (subst (λ (z : App). StaysCleanExcept z w.wrote.now.items g.S.Start.start w.cache.now) f.one.app w.left));
    })

pub returns-clause-goes_on : goal.returns-clause-goes_on
returns-clause-goes_on g c =
    let w = c.act.new.world in
    let a = g.A.SoundApp.app c.args.app.now in
    let old = c.args.keeper.now in
    let now = w.keeper.now in
    let f = lent_same (anchor (g.A.SoundApp.app w.app.now) w.moment w.before.now (take w.earlier w.wrote.now.items)) (anchor (g.A.SoundApp.app c.args.app.now) c.args.moment c.args.before.now (take c.args.earlier c.args.wrote.now.items)) _ _ _ _ _ _ _ _ _ _ _ _ c.act.ensures.attempt.passed.fixed in
    let front : take c.args.earlier c.args.wrote.now.items ≡ c.args.wrote.now.items = ap (λ n. take n c.args.wrote.now.items) c.requires.earlier ∙ take-length c.args.wrote.now.items in
    let count : w.earlier ≡ length c.args.wrote.now.items = count_same w.earlier w.wrote.now.items c.args.wrote.now.items w.counted (f.one.earlier ∙ front) in
    let prefix : take (length c.args.wrote.now.items) w.wrote.now.items ≡ c.args.wrote.now.items = ap (λ n. take n w.wrote.now.items) (sym count) ∙ f.one.earlier ∙ front in
    carried_all (λ (k : g.row.K.Denot) (z : CacheState) (zs : List Source). GoesOn g.K.Keeper a c.args.cache.now z old k c.args.wrote.now.items zs) now _ w.cache.now _ w.wrote.now.items _
    (search (rules, f.keeper)) (search (rules, f.cache)) (search (rules, f.wrote))
    (record {
      prefix = prefix;
      began = began_goes (SilenceCause (g.K.Keeper.marks old) (g.K.Keeper.marks now)) (view c.args.day.now) (view w.day.now) (grounds a c.args.moment (g.K.Keeper.began old)) (grounds (g.A.SoundApp.app w.app.now) w.moment (g.K.Keeper.began now)) c.args.session.now w.session.now c.args.cache.now.values.cells w.cache.now.values.cells (drop c.args.earlier c.args.wrote.now.items) (drop w.earlier w.wrote.now.items)
          (g.K.Keeper.told old) (g.K.Keeper.told now) (λ e. (g.met.K.Keeper.quiet old e).0) (λ e. (g.met.K.Keeper.quiet now e).0) c.act.ensures.attempt.passed.state;
      loan = f.loan;
      visited = c.act.ensures.attempt.passed.visited;
      clean = leaves_but a c.args.wrote.now.items w.wrote.now.items c.args.cache.now w.cache.now prefix
          (subst (λ (z : CacheState). StaysCleanExcept a w.wrote.now.items z w.cache.now) c.requires.start (subst (λ (z : App). StaysCleanExcept z w.wrote.now.items g.S.Start.start w.cache.now) f.one.app w.left));
    })

pub returns-in-Ok-clause-cause : goal.returns-in-Ok-clause-cause
returns-in-Ok-clause-cause g c =
    let w = c.act.new.world in
    let old = c.args.keeper.now in
    let now = w.keeper.now in
    let f = lent_same (anchor (g.A.SoundApp.app w.app.now) w.moment w.before.now (take w.earlier w.wrote.now.items)) (anchor (g.A.SoundApp.app c.args.app.now) c.args.moment c.args.before.now (take c.args.earlier c.args.wrote.now.items)) _ _ _ _ _ _ _ _ _ _ _ _ c.act.ensures.attempt.passed.fixed in
    record {
      later = carried (λ (k : g.row.K.Denot). IsLater (g.K.Keeper.marks old) (g.K.Keeper.marks k)) now _ (search (rules, f.keeper)) c.act.ensures.attempt.passed.later;
      failed = λ e. absurd (no_error _ _ e);
    }

pub returns-clause-cause : goal.returns-clause-cause
returns-clause-cause g c =
    let w = c.act.new.world in
    let old = c.args.keeper.now in
    let now = w.keeper.now in
    let f = lent_same (anchor (g.A.SoundApp.app w.app.now) w.moment w.before.now (take w.earlier w.wrote.now.items)) (anchor (g.A.SoundApp.app c.args.app.now) c.args.moment c.args.before.now (take c.args.earlier c.args.wrote.now.items)) _ _ _ _ _ _ _ _ _ _ _ _ c.act.ensures.attempt.passed.fixed in
    record {
      later = carried (λ (k : g.row.K.Denot). IsLater (g.K.Keeper.marks old) (g.K.Keeper.marks k)) now _ (search (rules, f.keeper)) c.act.ensures.attempt.passed.later;
      failed = λ e. carried (λ (k : g.row.K.Denot). Rose (g.K.Keeper.marks old).faults (g.K.Keeper.marks k).faults) now _ (search (rules, f.keeper)) (c.in-Err.ensures.keeper (ap Err (failed_by c.in-Err.stop _ (ap Err c.end_of.ensures) e)));
    }
