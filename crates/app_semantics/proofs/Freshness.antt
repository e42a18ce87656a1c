-- Fresh values fit, and each cell has one.
use Rattle.std.proofs.Common.{◌≡◌, ℕ, zero, suc, ◌<◌, List, [], ◌∷◌, length, Bool, true, false, Option, Some, None, Result, Ok, Err, refl, sym, subst, ap, ◌∙◌, arith, pos, ◌/◌}
use Rattle.std.proofs.Math.Path.{fun_ext}
use Rattle.std.proofs.lemmas.Option.{slice_get_within}
use Rattle.std.specs.List.{slice_get}
use Rattle.std.specs.Prelude.{nat_le, option_map, ℤ}
use Rattle.app_cells.specs.Leaning.{cell_behind, edges_of}
use Rattle.app_cells.specs.declared.app.App.{App}
use Rattle.app_cells.specs.declared.app.CellInfo.{CellInfo}
use Rattle.app_semantics.proofs.Given.{LedFit, given_fits, told_agrees}
use Rattle.app_semantics.proofs.Ordered.{by_order, leaning_edge}
use Rattle.app_semantics.proofs.Typings.{typed_read}
use Rattle.app_semantics.specs.Fresh.{CanRead, IsByItself, IsCellValue, IsValueOf, IsWhere, is_told, formula_context}
use Rattle.app_semantics.specs.Laws.{FreshFits, OneFresh}
use Rattle.app_semantics.specs.Present.{SourceGives, GivesTable, Present}
use Rattle.app_semantics.specs.Sound.{IsCalm, IsSoundApp, IsSoundCell, context_at}
use Rattle.app_semantics.specs.Telling.{table_told, told_on}
use Rattle.fx_primitives.specs.Dates.{IsDayOrInvalid}
use Rattle.fx_types.specs.Days.{IsDay}
use Rattle.fx_types.specs.TypeView.{shape}
use Rattle.fx_types.specs.Types.{Shape, tables}
use Rattle.fx_types.specs.Values.{Data}
use Rattle.fx_types.specs.declared.faults.Kind.{Kind}
use Rattle.fx_types.specs.declared.faults.Kind.TheVariants.{InvalidArgument}
use Rattle.fx_semantics.proofs.Wider.{stays}
use Rattle.fx_scalar.proofs.Single.{AtMostOne, day_one}
use Rattle.fx_scalar.specs.Answers.{date_answer}
use Rattle.fx_scalar.specs.ScalarFunctions.{IsToday}
use Rattle.fx_semantics.proofs.Lawful.{typings_lawful}
use Rattle.fx_semantics.proofs.Whole.{all_sound}
use Rattle.fx_semantics.specs.Sound.{IsItemFit, IsLawfulTyping}
use Rattle.fx_semantics.specs.Sources.{FitsIn, Gives as GivesTold}
use Rattle.fx_semantics.specs.Unique.{OneValue}
use Rattle.fx_core.specs.Reads.{IsAmong}
use Rattle.fx_core.specs.SourceTypes.{columns_of, sources}
use Rattle.fx_core.specs.declared.names.Names.{Names}
use Rattle.fx_core.specs.declared.sources.Source.TheVariants as source
use Rattle.fx_core.specs.declared.sources.Source.{Source}
use Rattle.fx_typing.specs.Typing.{item_context}
use Rattle.fx_typing.specs.WellTyped.{Context}
use Rattle.fx_value.specs.Fits.{fits_in}
use Rattle.app_semantics.specs.Holding.{HoldRows, HoldsFitting}
use Rattle.fx_core.specs.declared.schema.TableShape.{TableShape}
use Rattle.fx_core.specs.Term.{Term}
use Rattle.fx_plan.proofs.Retyped.{types_limited}
use Rattle.fx_plan.specs.Constants.{ReadsTables}
use Rattle.fx_plan.specs.Limited.{limited}
use Rattle.row_queries.specs.declared.rows.Row.{Row}
use Rattle.fx_semantics.specs.Fresh.{IsValue}

-- ---- the day
today_one : (moment : ℕ) → AtMostOne (IsToday moment)
today_one moment v w h k = h.2 ∙ ap date_answer (day_one (pos (moment / 86400)) h.0 k.0 h.1 k.1) ∙ sym k.2

day_is : (n : ℕ) → (q : Result ℤ Kind) × IsDayOrInvalid (pos n) q
day_is n = by (nat_le n 2932896) refl
  where
    by : (b : Bool) → nat_le n 2932896 ≡ b → (q : Result ℤ Kind) × IsDayOrInvalid (pos n) q
    by true e = let early : IsDay (pos n) = grind (arith, e) in (Ok (pos n), (refl, early))
    by false e = let late : IsDay (pos n) → ⊥ = λ h. grind (arith, e, h) in (Err InvalidArgument, (refl, late))

pub today_is : (moment : ℕ) → (d : Data) × IsToday moment d
today_is moment = let q = day_is (moment / 86400) in (date_answer q.0, (q.0, q.1, refl))

-- ---- what is told is given
pub given_told : (p : Present) (values : ℕ → Data) (day : Data) (x : Source) (v : Data) → IsToday p.moment day → SourceGives p values x v → v ≡ told_on day p.app.names p.session p.tables values x
given_told p values day (source.Cell k) v t h = h
given_told p values day (source.Global k) v t h = h
given_told p values day (source.Context k) v t h = h
given_told p values day (source.Gathered k) v t h = h
given_told p values day (source.Input k) v t h = h
given_told p values day (source.Chosen k) v t h = h
given_told p values day (source.Table k) v t h = by (slice_get p.app.names.schema.tables k) p.tables h
  where
    by : (o : Option TableShape) (rs : Option (List (List Row))) → GivesTable o rs k v → v ≡ table_told o rs k
    by (Some x) (Some ts) g = g
    by (Some x) None g = absurd g
    by None (Some ts) g = absurd g
    by None None g = absurd g
given_told p values day source.Today v t h = today_one p.moment v day h t

abbrev pub IsNoTable : Source → Type 0
IsNoTable x = (k : ℕ) → ¬ (x ≡ source.Table k)

pub told_given : (p : Present) (values : ℕ → Data) (day : Data) (x : Source) → IsToday p.moment day → IsNoTable x → SourceGives p values x (told_on day p.app.names p.session p.tables values x)
told_given p values day (source.Cell k) t n = refl
told_given p values day (source.Global k) t n = refl
told_given p values day (source.Context k) t n = refl
told_given p values day (source.Gathered k) t n = refl
told_given p values day (source.Input k) t n = refl
told_given p values day (source.Chosen k) t n = refl
told_given p values day (source.Table k) t n = absurd (n k refl)
told_given p values day source.Today t n = t

-- ---- values of formulas
-- the cells to which the sources of a formula lead have values that fit
abbrev pub AllFit : App → (ℕ → Data) → List Source → Type 0
AllFit a values reads = (x : Source) → IsAmong x reads → LedFit a values x

-- what may be read of other sources is among those of the formula
pub read_behind : (n : Names) (reads : List Source) (x : Source) (d : ℕ) → CanRead reads x → cell_behind n x ≡ Some d → IsAmong x reads
read_behind n reads (source.Cell k) d r e = r
read_behind n reads (source.Global k) d r e = r
read_behind n reads (source.Context k) d r e = r
read_behind n reads (source.Gathered k) d r e = r
read_behind n reads (source.Input k) d r e = r
read_behind n reads (source.Chosen k) d r e = r
read_behind n reads (source.Table k) d r e = absurd cc
read_behind n reads source.Today d r e = r

led_read : (a : App) (values : ℕ → Data) (reads : List Source) (x : Source) → AllFit a values reads → CanRead reads x → LedFit a values x
led_read a values reads x led r d c behind there = led x (read_behind a.names reads x d r behind) d c behind there

-- a source that may be read and gives something has a type
typed_given : (p : Present) (values : ℕ → Data) (c : CellInfo) (x : Source) (d : Data) → IsSoundCell p.app.names c → CanRead c.reads x → SourceGives p values x d → (t : Shape) × (sources p.app.names x ≡ Some t)
typed_given p values c (source.Table k) d w r h = by (slice_get p.app.names.schema.tables k) p.tables h
  where
    by : (o : Option TableShape) (rs : Option (List (List Row))) → GivesTable o rs k d → (t : Shape) × (option_map (λ (x : TableShape). tables (columns_of x)) o ≡ Some t)
    by (Some x) (Some ts) g = (tables (columns_of x), refl)
    by (Some x) None g = absurd g
    by None (Some ts) g = absurd g
    by None None g = absurd g
typed_given p values c (source.Cell k) d w r h = typed_read c.core (context_at p.app.names c.cell.item) (shape c.ty) (source.Cell k) w.typed ((w.reads (source.Cell k)).0 r)
typed_given p values c (source.Global k) d w r h = typed_read c.core (context_at p.app.names c.cell.item) (shape c.ty) (source.Global k) w.typed ((w.reads (source.Global k)).0 r)
typed_given p values c (source.Context k) d w r h = typed_read c.core (context_at p.app.names c.cell.item) (shape c.ty) (source.Context k) w.typed ((w.reads (source.Context k)).0 r)
typed_given p values c (source.Gathered k) d w r h = typed_read c.core (context_at p.app.names c.cell.item) (shape c.ty) (source.Gathered k) w.typed ((w.reads (source.Gathered k)).0 r)
typed_given p values c (source.Input k) d w r h = typed_read c.core (context_at p.app.names c.cell.item) (shape c.ty) (source.Input k) w.typed ((w.reads (source.Input k)).0 r)
typed_given p values c (source.Chosen k) d w r h = typed_read c.core (context_at p.app.names c.cell.item) (shape c.ty) (source.Chosen k) w.typed ((w.reads (source.Chosen k)).0 r)
typed_given p values c source.Today d w r h = typed_read c.core (context_at p.app.names c.cell.item) (shape c.ty) source.Today w.typed ((w.reads source.Today).0 r)

-- what is given of the sources of a formula fits their types
pub given_in : (p : Present) (values : ℕ → Data) (c : CellInfo) (x : Source) (d : Data) → IsSoundApp p.app → HoldsFitting p.app.names p.session → HoldRows p.app.names.schema p.tables → IsSoundCell p.app.names c →
    AllFit p.app values c.reads → CanRead c.reads x → SourceGives p values x d → FitsIn (sources p.app.names x) d
given_in p values c x d s n r w led can gives =
    let ty = typed_given p values c x d w can gives in
    subst (λ o. FitsIn o d) (sym ty.1) (given_fits p values x ty.0 d s n r (led_read p.app values c.reads x led can) ty.1 gives)

-- the tree that is evaluated
abbrev pub taken : Present → CellInfo → Term
taken p c = limited p.app.names.schema.tables p.app.limit 0 false c.core

-- what holds where it is told and where it isn't
pub where_either : {P Q R : Type 0} (b : Bool) → (P → R) → (Q → R) → IsWhere b P Q → R
where_either true f g h = f h
where_either false f g h = g h

pub where_told : {P : Type 0} (Q : Type 0) (b : Bool) → b ≡ true → IsWhere b P Q → P
where_told Q true e h = h
where_told Q false e h = absurd cc

-- the value of the tree that is evaluated fits
pub taken_fits : (p : Present) (values : ℕ → Data) (c : CellInfo) (item : Option Data) (v : Data) → IsSoundApp p.app → HoldsFitting p.app.names p.session → HoldRows p.app.names.schema p.tables → IsSoundCell p.app.names c → c.cell.acts ≡ false →
    AllFit p.app values c.reads → IsItemFit item (item_context p.app.names c.cell.item) → IsValue (formula_context p values c.reads item) (taken p c) v → fits_in v (shape c.ty) ≡ true
taken_fits p values c item v s n r w quiet led fit h =
    let calm : IsCalm p.app.names c = w.calm quiet in
    let context : Context = context_at p.app.names c.cell.item in
    let lawful : IsLawfulTyping context c.core (shape c.ty) w.typed = typings_lawful context c.core (shape c.ty) w.typed calm.context calm.lawful in
    let reads : ReadsTables p.app.names.schema.tables context = λ k t e. ap (λ (o : Option TableShape). option_map (λ (x : TableShape). tables (columns_of x)) o) e in
    let typed = types_limited p.app.names.schema.tables p.app.limit context false c.core (shape c.ty) reads (w.typed, lawful) calm.quiet in
    all_sound context None [] item None (taken p c) (shape c.ty) typed.0.0 v tt fit typed.0.1
    (stays (GivesTold (sources p.app.names) None) (taken p c) (formula_context p values c.reads item) v (λ x d g. (given_in p values c x d s n r w led g.0 g.1, tt)) h)

-- A VALUE OF A FORMULA FITS ITS TYPE
pub value_fits : (p : Present) (values : ℕ → Data) (c : CellInfo) (item : Option Data) (v : Data) → IsSoundApp p.app → HoldsFitting p.app.names p.session → HoldRows p.app.names.schema p.tables → IsSoundCell p.app.names c → c.cell.acts ≡ false →
    AllFit p.app values c.reads → IsItemFit item (item_context p.app.names c.cell.item) → IsValueOf p values item c v → fits_in v (shape c.ty) ≡ true
value_fits p values c item v s n r w quiet led fit h =
    where_either (is_told p.tables c.reads) (λ x. taken_fits p values c item v s n r w quiet led fit x) (λ x. x) h

-- ---- fresh values fit
pub by_itself_fits : (p : Present) (values : ℕ → Data) (c : CellInfo) (v : Data) → IsSoundApp p.app → HoldsFitting p.app.names p.session → HoldRows p.app.names.schema p.tables → IsSoundCell p.app.names c →
    AllFit p.app values c.reads → IsCellValue p values c v → fits_in v (shape c.ty) ≡ true
by_itself_fits p values c v s n k w led h = by c.cell.acts c.cell.item refl refl h
  where
    by : (b : Bool) (o : Option ℕ) → c.cell.acts ≡ b → c.cell.item ≡ o → IsByItself b o (IsValueOf p values None c v) v → fits_in v (shape c.ty) ≡ true
    by false None q r x =
        let fit : IsItemFit None (item_context p.app.names c.cell.item) = subst (λ g. IsItemFit None (item_context p.app.names g)) (sym r) tt in
        value_fits p values c None v s n k w q led fit x
    by false (Some g) q r x = subst (λ d. fits_in d (shape c.ty) ≡ true) (sym x) refl
    by true o q r x = subst (λ d. fits_in d (shape c.ty) ≡ true) (sym x) refl

pub fresh_fits : FreshFits
fresh_fits p values s n r fresh k c there =
    by_order (length p.app.cells) (edges_of p.app.names p.app.cells) p.app.order s.order
    (λ i. (e : CellInfo) → slice_get p.app.cells i ≡ Some e → fits_in (values i) (shape e.ty) ≡ true)
    (λ i lt before e at. by_itself_fits p values e (values i) s n r (s.cells i e at)
    (λ x among d f behind found. before d (leaning_edge p.app.names p.app.cells i e d at (x, among, behind)) f found) (fresh.cells i e at))
    k (slice_get_within p.app.cells k c there) c there

-- ---- one fresh value
all_fit : (p : Present) (values : ℕ → Data) (reads : List Source) → ((k : ℕ) (c : CellInfo) → slice_get p.app.cells k ≡ Some c → fits_in (values k) (shape c.ty) ≡ true) → AllFit p.app values reads
all_fit p values reads h x among d c behind there = h d c there

pub one_by_itself : OneValue → (p : Present) (values others : ℕ → Data) (c : CellInfo) (v w : Data) → IsSoundApp p.app → HoldsFitting p.app.names p.session → HoldRows p.app.names.schema p.tables → IsSoundCell p.app.names c →
    AllFit p.app values c.reads → AllFit p.app others c.reads → is_told p.tables c.reads ≡ true → ((x : Source) (d : ℕ) → IsAmong x c.reads → cell_behind p.app.names x ≡ Some d → values d ≡ others d) →
    IsCellValue p values c v → IsCellValue p others c w → v ≡ w
one_by_itself one p values others c v w s n r k led also told same h j = by c.cell.acts c.cell.item h j
  where
    by : (b : Bool) (o : Option ℕ) → IsByItself b o (IsValueOf p values None c v) v → IsByItself b o (IsValueOf p others None c w) w → v ≡ w
    by false None x y =
        let day = today_is p.moment in
        let T : Source → Data = told_on day.0 p.app.names p.session p.tables others in
        one (sources p.app.names) T [] None None (taken p c) v w
        (stays (GivesTold (sources p.app.names) (Some T)) (taken p c) (formula_context p values c.reads None) v
        (λ z d g. (given_in p values c z d s n r k led g.0 g.1, given_told p values day.0 z d day.1 g.1 ∙ told_agrees day.0 p.app.names p.session p.tables values others z (λ e q. same z e (read_behind p.app.names c.reads z e g.0 q) q))) (where_told _ (is_told p.tables c.reads) told x))
        (stays (GivesTold (sources p.app.names) (Some T)) (taken p c) (formula_context p others c.reads None) w
        (λ z d g. (given_in p others c z d s n r k also g.0 g.1, given_told p others day.0 z d day.1 g.1)) (where_told _ (is_told p.tables c.reads) told y))
    by false (Some g) x y = x ∙ sym y
    by true o x y = x ∙ sym y

pub got : {A : Type 0} (xs : List A) (i : ℕ) → i < length xs → (x : A) × (slice_get xs i ≡ Some x)
got [] i h = absurd (omega (arith, h))
got (x ∷ xs) zero h = (x, refl)
got (x ∷ xs) (suc i) h = got xs i (omega (arith, h))

pub one_fresh : OneValue → OneFresh
one_fresh one p values others s n known fresh also = fun_ext (λ k. by k (slice_get p.app.cells k) refl)
  where
    fits : (k : ℕ) (c : CellInfo) → slice_get p.app.cells k ≡ Some c → fits_in (values k) (shape c.ty) ≡ true
    fits = fresh_fits p values s n known.fit fresh

    fit : (k : ℕ) (c : CellInfo) → slice_get p.app.cells k ≡ Some c → fits_in (others k) (shape c.ty) ≡ true
    fit = fresh_fits p others s n known.fit also

    here : (k : ℕ) → k < length p.app.cells → values k ≡ others k
    here = by_order (length p.app.cells) (edges_of p.app.names p.app.cells) p.app.order s.order (λ i. values i ≡ others i) (λ i h before.
        let c = got p.app.cells i h in
        one_by_itself one p values others c.0 (values i) (others i) s n known.fit (s.cells i c.0 c.1) (all_fit p values (c.0).reads fits) (all_fit p others (c.0).reads fit) (known.told i c.0 c.1)
        (λ x d among behind. before d (leaning_edge p.app.names p.app.cells i c.0 d c.1 (x, among, behind))) (fresh.cells i c.0 c.1) (also.cells i c.0 c.1))

    by : (k : ℕ) (o : Option CellInfo) → slice_get p.app.cells k ≡ o → values k ≡ others k
    by k (Some c) e = here k (slice_get_within p.app.cells k c e)
    by k None e = fresh.beyond k e ∙ sym (also.beyond k e)
