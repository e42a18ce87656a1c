-- The value of a formula stays what it is where the sources that it names give no less.
use Rattle.std.proofs.Common.{◌≡◌, ℕ, List, length, Bool, true, false, Option, Some, None, refl}
use Rattle.std.specs.List.{slice_get}
use Rattle.fx_types.specs.TypeView.{shape}
use Rattle.fx_types.specs.Types.{Shape}
use Rattle.fx_types.specs.Values.{Data}
use Rattle.fx_semantics.proofs.Wider.{stays_read}
use Rattle.fx_core.specs.Reads.{IsAmong}
use Rattle.fx_core.specs.SourceTypes.{sources}
use Rattle.fx_core.specs.declared.sources.Source.{Source}
use Rattle.fx_core.specs.declared.sources.Source.TheVariants as source
use Rattle.fx_value.specs.Fits.{fits_in}
use Rattle.recalc.proofs.of_app_semantics.Ordered.{by_order, leaning_edge}
use Rattle.recalc.proofs.of_app_semantics.Taken.{limited_reads}
use Rattle.recalc.proofs.of_app_semantics.Typings.{typed_read}
use Rattle.recalc.specs.Asking.{ToldRows}
use Rattle.recalc.specs.app_cells.Leaning.{LeansOn, edges_of}
use Rattle.recalc.specs.app_cells.declared.app.App.{App}
use Rattle.recalc.specs.app_cells.declared.app.CellInfo.{CellInfo}
use Rattle.fx_plan.specs.Limited.{limited}
use Rattle.recalc.specs.app_semantics.Fresh.{CanRead, IsByItself, IsCellValue, IsValueOf, IsWhere, is_told, formula_context}
use Rattle.recalc.specs.app_semantics.Present.{SourceGives, present}
use Rattle.recalc.specs.app_semantics.Sound.{IsSoundApp, IsSoundCell, context_at}
use Rattle.session_state.specs.Sessions.{SessionState}
use Rattle.std.proofs.lemmas.Option.{slice_get_within}
use Rattle.recalc.specs.Changes.{AreSameBut, WereTold}
use Rattle.recalc.specs.Kept.{IsRight, CacheState, cached_value}

-- what is told now was told before
told_before : (before after : ToldRows) (reads : List Source) → WereTold before after → is_told after reads ≡ true → is_told before reads ≡ true
told_before (Some rows) after reads w e = refl
told_before None None reads w e = e
told_before None (Some rows) reads w e = let was = w rows refl in let no : None ≡ Some was.0 = was.1 in absurd cc

where_is : {P Q : Type 0} (b : Bool) → (b ≡ true → P) → Q → IsWhere b P Q
where_is true p q = p refl
where_is false p q = q

where_got : {P : Type 0} (Q : Type 0) (b : Bool) → b ≡ true → IsWhere b P Q → P
where_got Q true e h = h
where_got Q false e h = absurd cc

pub value_stays : (a : App) (s r : SessionState) (tables later : ToldRows) (m n : ℕ) (values others : ℕ → Data) (i : CellInfo) (v : Data) → IsSoundCell a.names i → WereTold tables later → fits_in v (shape i.ty) ≡ true →
    ((x : Source) (d : Data) → IsAmong x i.reads → SourceGives (present a s tables m) values x d → SourceGives (present a r later n) others x d) →
    IsCellValue (present a s tables m) values i v → IsCellValue (present a r later n) others i v
value_stays a s r tables later m n values others i v sound told fit gives h = by i.cell.acts i.cell.item h
  where
    by : (b : Bool) (o : Option ℕ) → IsByItself b o (IsValueOf (present a s tables m) values None i v) v → IsByItself b o (IsValueOf (present a r later n) others None i v) v
    by false None x =
        where_is (is_told later i.reads)
        (λ e. stays_read (λ y d. CanRead i.reads y × SourceGives (present a r later n) others y d) (limited a.names.schema.tables a.limit 0 false i.core) (formula_context (present a s tables m) values i.reads None) v
        (λ y d among g. (g.0, gives y d ((sound.reads y).1 (limited_reads a.names.schema.tables a.limit 0 false i.core y among)) g.1))
        (where_got _ (is_told tables i.reads) (told_before tables later i.reads told e) x))
        fit
    by false (Some g) x = x
    by true o x = x

-- what cells give doesn't hang on session, tables or moment
given_same : (a : App) (s r : SessionState) (tables later : ToldRows) (m n : ℕ) (xs : List Source) (values : ℕ → Data) (x : Source) (t : Shape) (d : Data) → sources a.names x ≡ Some t → AreSameBut xs (present a s tables m) (present a r later n) → (IsAmong x xs → ⊥) →
    SourceGives (present a s tables m) values x d → SourceGives (present a r later n) values x d
given_same a s r tables later m n xs values (source.Cell k) t d typed same far g = g
given_same a s r tables later m n xs values (source.Global k) t d typed same far g = same.gives (source.Global k) t values d typed far refl g
given_same a s r tables later m n xs values (source.Context k) t d typed same far g = same.gives (source.Context k) t values d typed far refl g
given_same a s r tables later m n xs values (source.Gathered k) t d typed same far g = same.gives (source.Gathered k) t values d typed far refl g
given_same a s r tables later m n xs values (source.Input k) t d typed same far g = same.gives (source.Input k) t values d typed far refl g
given_same a s r tables later m n xs values (source.Chosen k) t d typed same far g = same.gives (source.Chosen k) t values d typed far refl g
given_same a s r tables later m n xs values (source.Table k) t d typed same far g = same.gives (source.Table k) t values d typed far refl g
given_same a s r tables later m n xs values source.Today t d typed same far g = same.gives source.Today t values d typed far refl g

-- SOMETHING CHANGED: what is kept is right where that is still to be told
pub changed : (a : App) (s r : SessionState) (tables later : ToldRows) (m n : ℕ) (xs ys : List Source) (c : CacheState) → IsSoundApp a → ((x : Source) → IsAmong x xs → IsAmong x ys) → AreSameBut ys (present a s tables m) (present a r later n) →
    IsRight (present a s tables m) xs c → IsRight (present a r later n) ys c
changed a s r tables later m n xs ys c sound sub same right = record {
  order = right.order;
  valid = λ k e i at there none unmoved.
      value_stays a s r tables later m n (cached_value c) (cached_value c) i (cached_value c k) (sound.cells k i there) same.told (right.order.fits k i there)
      (λ x d named g. let typed = typed_read i.core (context_at a.names i.cell.item) (shape i.ty) x (sound.cells k i there).typed (((sound.cells k i there).reads x).0 named) in given_same a s r tables later m n ys (cached_value c) x typed.0 d typed.1 same (λ l. none x l named) g)
      (right.valid k e i at there (λ x l named. none x (sub x l) named) unmoved);
}

-- no formula leans on itself
pub not_itself : (a : App) (k : ℕ) (i : CellInfo) → IsSoundApp a → slice_get a.cells k ≡ Some i → LeansOn a.names i k → ⊥
not_itself a k i sound there leans =
    by_order (length a.cells) (edges_of a.names a.cells) a.order sound.order (λ j. (e : CellInfo) → slice_get a.cells j ≡ Some e → LeansOn a.names e j → ⊥)
    (λ j lt before e at on. before j (leaning_edge a.names a.cells j e j at on) e at on)
    k (slice_get_within a.cells k i there) i there leans
