use Rattle.std.proofs.Common.{◌≡◌, ◌∙◌, true, Option, None, Some, ap, refl, subst, sym}
use Rattle.std.specs.Prelude.{IfNone, IfSome, IsSome}
use Rattle.fx_base.specs.Silence.{MayFallSilent, SilenceCause}
use Rattle.fx_base.specs.Telling.{Stays}
use Rattle.fx_base.proofs.Silences.{goes_weaker, later_then}
use Rattle.fx_core.specs.declared.schema.Schema.{Schema}
use Rattle.row_keeper.specs.Changes.{Shapes}
use Rattle.row_keeper.specs.Shaped.{Shaped, by}
use Rattle.row_keeper.specs.Tables.{AreStatesOf, Tables}
use Rattle.row_books.specs.Numbers.{tables_now, tables_then}
use Rattle.row_counts.specs.Right.{AreCounted}
use Rattle.row_counts.proofs.Telling.{stays_on}
use Rattle.row_totals.specs.Kept.{shaped_if}
use Rattle.row_totals.proofs.After.{then_attached, then_lasting, then_told}
use Rattle.row_totals.proofs.Keeping.{tallied_filled, tallied_idle}
use Rattle.row_totals.proofs.Unvisited.{ok_cause}
use Rattle.row_totals.proofs.tallied.TalliedKeeper.shape.Goals as goal

pub fill-requires-clause-shaped : goal.fill-requires-clause-shaped
fill-requires-clause-shaped g c =
    ap (λ (s : Shaped). s.now) (subst (λ (o : Option Schema). IfNone o (g.K.Keeper.shaped c.shape.new.self ≡ by c.args.schema.now)) c.in-Ok-None.field-0-is c.in-Ok-None.ensures.shaped)

pub returns-in_ok-books-in-Ok-None-clause-tables : goal.returns-in_ok-books-in-Ok-None-clause-tables
returns-in_ok-books-in-Ok-None-clause-tables g c =
    let k = g.K.Keeper in
    let old = c.args.self.now.keeper in
    let mid = c.shape.new.self in
    let new = c.fill.new.keeper in
    let looked = c.fill.ensures.looked in
    let later = c.shape.ensures.cause.later in
    let s = c.args.schema.now in
    let lost = SilenceCause (k.marks old) (k.marks mid) in
    then_told k (Shapes s None) old mid new later (subst (λ (o : Option Schema). MayFallSilent lost (Shapes s o) (k.told old) (k.told mid)) c.in-Ok-None.field-0-is c.in-Ok-None.ensures.tables) looked

pub returns-in_ok-books-in-Ok-None-clause-sound : goal.returns-in_ok-books-in-Ok-None-clause-sound
returns-in_ok-books-in-Ok-None-clause-sound g c =
    let k = g.K.Keeper in
    let old = c.args.self.now.keeper in
    let mid = c.shape.new.self in
    let new = c.fill.new.keeper in
    let looked = c.fill.ensures.looked in
    let later = c.shape.ensures.cause.later in
    let Q : Tables → Type 0 = λ t. AreStatesOf c.args.schema.now.tables t.states in
    stays_on (SilenceCause (k.marks mid) (k.marks new)) Q (k.told mid) (k.told new) looked.told (subst (λ (o : Option Schema). IfNone o (IfSome (k.told mid) Q)) c.in-Ok-None.field-0-is c.in-Ok-None.ensures.sound)

pub returns-in_ok-books-in-Ok-None-clause-shaped : goal.returns-in_ok-books-in-Ok-None-clause-shaped
returns-in_ok-books-in-Ok-None-clause-shaped g c =
    let k = g.K.Keeper in
    let old = c.args.self.now.keeper in
    let mid = c.shape.new.self in
    let new = c.fill.new.keeper in
    let looked = c.fill.ensures.looked in
    let later = c.shape.ensures.cause.later in
    let shaped = subst (λ (o : Option Schema). IfNone o (k.shaped mid ≡ by c.args.schema.now)) c.in-Ok-None.field-0-is c.in-Ok-None.ensures.shaped in
    ap (λ (s : Shaped). shaped_if true true s) (looked.shaped ∙ shaped)

pub returns-in_ok-books-in-Ok-None-clause-lasting : goal.returns-in_ok-books-in-Ok-None-clause-lasting
returns-in_ok-books-in-Ok-None-clause-lasting g c =
    let k = g.K.Keeper in
    let old = c.args.self.now.keeper in
    let mid = c.shape.new.self in
    let new = c.fill.new.keeper in
    let looked = c.fill.ensures.looked in
    let later = c.shape.ensures.cause.later in
    then_lasting k mid new (λ e. (g.met.K.Keeper.quiet new e).1) looked c.in-Ok-None.ensures.lasting

pub returns-in_ok-books-in-Ok-None-clause-attached : goal.returns-in_ok-books-in-Ok-None-clause-attached
returns-in_ok-books-in-Ok-None-clause-attached g c =
    let k = g.K.Keeper in
    let old = c.args.self.now.keeper in
    let mid = c.shape.new.self in
    let new = c.fill.new.keeper in
    let looked = c.fill.ensures.looked in
    let later = c.shape.ensures.cause.later in
    then_attached k old mid new later c.shape.ensures.attached looked

pub returns-in_ok-books-in-Ok-None-clause-cause : goal.returns-in_ok-books-in-Ok-None-clause-cause
returns-in_ok-books-in-Ok-None-clause-cause g c =
    let k = g.K.Keeper in
    let old = c.args.self.now.keeper in
    let mid = c.shape.new.self in
    let new = c.fill.new.keeper in
    ok_cause (k.marks old) (k.marks new) _ (later_then (k.marks old) (k.marks mid) (k.marks new) c.shape.ensures.cause.later c.fill.ensures.looked.later)

pub invariant_of-self : goal.invariant_of-self
invariant_of-self g c =
    let k = g.K.Keeper in
    let me = c.args.self.now in
    let new = c.shape.new.self in
    let s = c.args.schema.now in
    let other = c.in-Ok-Some.other in
    let lost = SilenceCause (k.marks me.keeper) (k.marks new) in
    let tables = subst (λ (o : Option Schema). MayFallSilent lost (Shapes s o) (k.told me.keeper) (k.told new)) c.in-Ok-Some.field-0-is c.in-Ok-Some.ensures.tables in
    let unshaped = subst (λ (o : Option Schema). IsSome o → k.shaped new ≡ k.shaped me.keeper) c.in-Ok-Some.field-0-is c.in-Ok-Some.ensures.unshaped in
    record { kept = tallied_idle lost (tables_now me.books) (tables_then me.books) (k.shaped new) (k.in_transaction new) (k.told new) (k.began new) me.kept c.requires.idle c.shape.ensures.idle refl refl (unshaped refl) (goes_weaker lost (Shapes s (Some other)) Stays (λ a b h. h.2) (k.told me.keeper) (k.told new) tables) }

pub invariant_of-self-in-Ok-None : goal.invariant_of-self-in-Ok-None
invariant_of-self-in-Ok-None g c =
    let k = g.K.Keeper in
    let mid = c.shape.new.self in
    let new = c.fill.new.keeper in
    let looked = c.fill.ensures.looked in
    let s = c.args.schema.now in
    let books = c.fill-in-Ok-None.new.self in
    let now = c.fill-in-Ok-None.ensures.now in
    let shaped = subst (λ (o : Option Schema). IfNone o (k.shaped mid ≡ by s)) c.in-Ok-None.field-0-is c.in-Ok-None.ensures.shaped in
    let named = ap (λ (x : Shaped). x.now) (looked.shaped ∙ shaped) in
    let counted = subst (λ (o : Option Schema). AreCounted o (tables_now books) (k.told new)) (sym named) (subst (λ l. AreCounted (Some s) l (k.told new)) (sym now) c.in_ok-books-in-Ok-None.ensures.counted) in
    record { kept = tallied_filled (tables_now books) (tables_then books) (k.shaped new) (k.in_transaction new) (k.told new) (k.began new) (looked.passes.mode ∙ c.shape.ensures.idle) counted (c.fill-in-Ok-None.ensures.then ∙ sym now) }
