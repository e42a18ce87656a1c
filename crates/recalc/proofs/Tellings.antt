-- What a formula reads, as an environment tells it.
use Rattle.std.proofs.Common.{◌≡◌, ℕ, List, [], ◌∷◌, Bool, true, false, Option, Some, None, refl, sym, subst, ap, ◌∙◌, ◌<◌, arith, inl, inr, length}
use Rattle.std.specs.List.{slice_get}
use Rattle.std.specs.Prelude.{IsSome, ◌&&◌, ◌||◌, nat_eq, not, option_map}
use Rattle.std.proofs.lemmas.Bool.{and_parts}
use Rattle.app_semantics.specs.app_cells.declared.app.CellInfo.{CellInfo}
use Rattle.app_semantics.proofs.CellTypes.{equal}
use Rattle.app_semantics.proofs.Freshness.{IsNoTable, told_given}
use Rattle.app_semantics.proofs.Given.{given_fits}
use Rattle.app_semantics.proofs.Taken.{limited_lawful, limited_reads}
use Rattle.app_semantics.proofs.Typings.{Keeps, typed_over}
use Rattle.app_semantics.specs.Fresh.{CanRead, IsValueOf, IsWhere, is_table, is_told, reads_table, formula_context}
use Rattle.app_semantics.specs.app_cells.declared.app.App.{App}
use Rattle.app_semantics.specs.Holding.{HoldRows, HoldsFitting}
use Rattle.app_semantics.specs.Present.{SourceGives, GivesTable, Present, present}
use Rattle.app_semantics.specs.Sound.{IsCalm, IsSoundApp, IsSoundCell, context_at}
use Rattle.app_semantics.specs.Telling.{table_told, told_on}
use Rattle.fx_types.specs.TypeView.{shape}
use Rattle.fx_types.specs.Types.{Shape, tables}
use Rattle.fx_types.specs.Values.{Data}
use Rattle.fx_semantics.proofs.Wider.{stays}
use Rattle.fx_env.specs.Scopes.{ScopeValues, IsTypedHere, around, fitted}
use Rattle.fx_env.specs.Telling.{IsHeard}
use Rattle.fx_scalar.specs.ScalarFunctions.{IsToday}
use Rattle.fx_semantics.proofs.Lawful.{typings_lawful}
use Rattle.fx_semantics.specs.Fresh.{IsValue}
use Rattle.fx_semantics.specs.Sound.{IsItemFit, IsLawfulContext, IsLawfulTyping}
use Rattle.fx_semantics.specs.Sources.{FitsIn, Gives as GivesTold}
use Rattle.fx_core.specs.Reads.{IsAmong, source_number, source_rank}
use Rattle.fx_core.specs.SourceTypes.{columns_of, sources}
use Rattle.fx_core.specs.Term.{Term}
use Rattle.fx_core.specs.declared.schema.TableShape.{TableShape}
use Rattle.fx_core.specs.declared.names.Names.{Names}
use Rattle.fx_core.specs.declared.sources.Source.TheVariants as source
use Rattle.fx_core.specs.declared.sources.Source.{Source}
use Rattle.fx_typing.specs.Typing.{item_context}
use Rattle.fx_typing.specs.WellTyped.{Context, IsTyped}
use Rattle.fx_value.specs.Fits.{fits_in}
use Rattle.fx_core.proofs.Ordered.{source_is}
use Rattle.fx_eval.proofs.of_fx_plan.Retyped.{types_limited}
use Rattle.fx_eval.specs.fx_plan.Constants.{ReadsTables}
use Rattle.fx_eval.specs.fx_plan.Limited.{IsTakenValue, limited}
use Rattle.recalc.specs.Reading.{is_source_among, is_source, type_by, types_on, types_over}
use Rattle.row_queries.specs.declared.rows.Row.{Row}
use Rattle.recalc.specs.Values.{CellsFit}
use Rattle.session_state.specs.Changes.{IsOwn}
use Rattle.session_state.specs.Sessions.{Holds, SessionState}

-- ---- sources by their kind and number
same_source : (x y : Source) → is_source x y ≡ true → y ≡ x
same_source x y e =
    let parts = and_parts (nat_eq (source_rank x) (source_rank y)) (nat_eq (source_number x) (source_number y)) e in
    let rank : source_rank x ≡ source_rank y = equal (source_rank x) (source_rank y) parts.0 in
    let number : source_number x ≡ source_number y = equal (source_number x) (source_number y) parts.1 in
    source_is y x (sym rank) (sym number)

itself : (k : ℕ) → nat_eq k k ≡ true
itself k = grind arith

is_itself : (x : Source) → is_source x x ≡ true
is_itself x = ap (λ b. b && nat_eq (source_number x) (source_number x)) (itself (source_rank x)) ∙ itself (source_number x)

pub among_true : (x : Source) (rs : List Source) → IsAmong x rs → is_source_among x rs ≡ true
among_true x [] a = absurd a
among_true x (r ∷ rs) (inl e) = ap (λ b. b || is_source_among x rs) (subst (λ y. is_source x y ≡ true) (sym e) (is_itself x))
among_true x (r ∷ rs) (inr a) = by (is_source x r) (among_true x rs a)
  where
    by : (b : Bool) → is_source_among x rs ≡ true → (b || is_source_among x rs) ≡ true
    by true e = refl
    by false e = e

pub among_is : (x : Source) (rs : List Source) → is_source_among x rs ≡ true → IsAmong x rs
among_is x [] e = absurd cc
among_is x (r ∷ rs) e = by (is_source x r) refl (among_is x rs) e
  where
    by : (b : Bool) → is_source x r ≡ b → (is_source_among x rs ≡ true → IsAmong x rs) → (b || is_source_among x rs) ≡ true → IsAmong x (r ∷ rs)
    by true q later h = inl (same_source x r q)
    by false q later h = inr (later h)

-- ---- types
type_fits : (b : Bool) (o : Option Shape) (d : Data) → IsSome (type_by b o d) → FitsIn (type_by b o d) d
type_fits true (Some t) d h = by (fits_in d t) refl h
  where
    by : (q : Bool) → fits_in d t ≡ q → IsSome (fitted q t) → FitsIn (fitted q t) d
    by true e s = e
    by false e s = absurd cc
type_fits true None d h = absurd cc
type_fits false o d h = absurd cc

pub typed_fits : (n : Names) (reads : List Source) (told : Source → Data) (x : Source) → IsSome (types_on n reads told x) → FitsIn (types_on n reads told x) (told x)
typed_fits n reads told (source.Cell k) h = type_fits (is_source_among (source.Cell k) reads) (sources n (source.Cell k)) (told (source.Cell k)) h
typed_fits n reads told (source.Global k) h = type_fits (is_source_among (source.Global k) reads) (sources n (source.Global k)) (told (source.Global k)) h
typed_fits n reads told (source.Context k) h = type_fits (is_source_among (source.Context k) reads) (sources n (source.Context k)) (told (source.Context k)) h
typed_fits n reads told (source.Gathered k) h = type_fits (is_source_among (source.Gathered k) reads) (sources n (source.Gathered k)) (told (source.Gathered k)) h
typed_fits n reads told (source.Input k) h = type_fits (is_source_among (source.Input k) reads) (sources n (source.Input k)) (told (source.Input k)) h
typed_fits n reads told (source.Chosen k) h = type_fits (is_source_among (source.Chosen k) reads) (sources n (source.Chosen k)) (told (source.Chosen k)) h
typed_fits n reads told (source.Table k) h = absurd cc
typed_fits n reads told source.Today h = type_fits (is_source_among source.Today reads) (sources n source.Today) (told source.Today) h

-- what is told of a source that has a type is what it gives
pub given_typed : (n : Names) (reads : List Source) (told : Source → Data) (x : Source) (v : Data) → IsSome (types_on n reads told x) → v ≡ told x → GivesTold (types_on n reads told) (Some told) x v
given_typed n reads told x v h e = (subst (FitsIn (types_on n reads told x)) (sym e) (typed_fits n reads told x h), e)

some_type : (b : Bool) (o : Option Shape) (d : Data) → IsSome (type_by b o d) → (t : Shape) × (o ≡ Some t)
some_type true (Some t) d h = (t, refl)
some_type true None d h = absurd cc
some_type false o d h = absurd cc

-- a source of a session's own that has a type is held
pub is_held : (n : Names) (s : SessionState) (reads : List Source) (told : Source → Data) (x : Source) → HoldsFitting n s → IsSome (types_on n reads told x) → IsOwn x → Holds s x
is_held n s reads told (source.Global k) f h o = let t = some_type (is_source_among (source.Global k) reads) (sources n (source.Global k)) (told (source.Global k)) h in f.sources_held (source.Global k) t.0 tt t.1
is_held n s reads told (source.Context k) f h o = let t = some_type (is_source_among (source.Context k) reads) (sources n (source.Context k)) (told (source.Context k)) h in f.sources_held (source.Context k) t.0 tt t.1
is_held n s reads told (source.Gathered k) f h o = let t = some_type (is_source_among (source.Gathered k) reads) (sources n (source.Gathered k)) (told (source.Gathered k)) h in f.sources_held (source.Gathered k) t.0 tt t.1
is_held n s reads told (source.Input k) f h o = let t = some_type (is_source_among (source.Input k) reads) (sources n (source.Input k)) (told (source.Input k)) h in f.sources_held (source.Input k) t.0 tt t.1
is_held n s reads told (source.Cell k) f h o = absurd o
is_held n s reads told (source.Chosen k) f h o = absurd o
is_held n s reads told (source.Table k) f h o = absurd o
is_held n s reads told source.Today f h o = absurd o

pub own_held : (s : SessionState) (x y : Source) → (IsOwn x → Holds s x) → x ≡ y → IsOwn y → Holds s x
own_held s x y h e o = h (subst IsOwn (sym e) o)

pub own_input : (s : SessionState) (x : Source) (k : ℕ) → (IsOwn x → Holds s x) → x ≡ source.Input k → k < length s.inputs
own_input s x k h e = subst (Holds s) e (own_held s x (source.Input k) h e tt)

-- a source that has a type is no table
pub not_typed : (n : Names) (reads : List Source) (told : Source → Data) (x : Source) (k : ℕ) → IsSome (types_on n reads told x) → x ≡ source.Table k → ⊥
not_typed n reads told x k h e = let none : IsSome (types_on n reads told (source.Table k)) = subst (λ y. IsSome (types_on n reads told y)) e h in absurd cc

type_known : (b : Bool) (o : Option Shape) (d : Data) (t : Shape) → b ≡ true → o ≡ Some t → fits_in d t ≡ true → type_by b o d ≡ Some t
type_known b o d t e f h =
    subst (λ c. type_by c o d ≡ Some t) (sym e) (subst (λ p. type_by true p d ≡ Some t) (sym f) (ap (λ q. fitted q t) h))

known : (n : Names) (reads : List Source) (told : Source → Data) (x : Source) (t : Shape) → IsNoTable x → IsAmong x reads → sources n x ≡ Some t → fits_in (told x) t ≡ true →
    types_on n reads told x ≡ Some t
known n reads told (source.Cell k) t u a e h = type_known _ _ _ t (among_true (source.Cell k) reads a) e h
known n reads told (source.Global k) t u a e h = type_known _ _ _ t (among_true (source.Global k) reads a) e h
known n reads told (source.Context k) t u a e h = type_known _ _ _ t (among_true (source.Context k) reads a) e h
known n reads told (source.Gathered k) t u a e h = type_known _ _ _ t (among_true (source.Gathered k) reads a) e h
known n reads told (source.Input k) t u a e h = type_known _ _ _ t (among_true (source.Input k) reads a) e h
known n reads told (source.Chosen k) t u a e h = type_known _ _ _ t (among_true (source.Chosen k) reads a) e h
known n reads told (source.Table k) t u a e h = absurd (u k refl)
known n reads told source.Today t u a e h = type_known _ _ _ t (among_true source.Today reads a) e h

type_is : (b : Bool) (o : Option Shape) (d : Data) (t : Shape) → type_by b o d ≡ Some t → (b ≡ true) × (o ≡ Some t)
type_is true (Some u) d t e = (refl, by (fits_in d u) e)
  where
    by : (q : Bool) → fitted q u ≡ Some t → Some u ≡ Some t
    by true h = h
    by false h = absurd cc
type_is true None d t e = absurd cc
type_is false o d t e = absurd cc

type_here : (n : Names) (reads : List Source) (told : Source → Data) (x : Source) (t : Shape) → types_on n reads told x ≡ Some t → sources n x ≡ Some t
type_here n reads told (source.Cell k) t e = (type_is (is_source_among (source.Cell k) reads) (sources n (source.Cell k)) (told (source.Cell k)) t e).1
type_here n reads told (source.Global k) t e = (type_is (is_source_among (source.Global k) reads) (sources n (source.Global k)) (told (source.Global k)) t e).1
type_here n reads told (source.Context k) t e = (type_is (is_source_among (source.Context k) reads) (sources n (source.Context k)) (told (source.Context k)) t e).1
type_here n reads told (source.Gathered k) t e = (type_is (is_source_among (source.Gathered k) reads) (sources n (source.Gathered k)) (told (source.Gathered k)) t e).1
type_here n reads told (source.Input k) t e = (type_is (is_source_among (source.Input k) reads) (sources n (source.Input k)) (told (source.Input k)) t e).1
type_here n reads told (source.Chosen k) t e = (type_is (is_source_among (source.Chosen k) reads) (sources n (source.Chosen k)) (told (source.Chosen k)) t e).1
type_here n reads told (source.Table k) t e = absurd cc
type_here n reads told source.Today t e = (type_is (is_source_among source.Today reads) (sources n source.Today) (told source.Today) t e).1

-- ---- sources that are no tables
some_table : (x : Source) (reads : List Source) → is_table x ≡ true → IsAmong x reads → reads_table reads ≡ true
some_table x [] e a = absurd a
some_table x (r ∷ rs) e (inl q) = ap (λ b. b || reads_table rs) (ap is_table q ∙ e)
some_table x (r ∷ rs) e (inr a) = by (is_table r) (some_table x rs e a)
  where
    by : (b : Bool) → reads_table rs ≡ true → (b || reads_table rs) ≡ true
    by true h = refl
    by false h = h

no_table : (reads : List Source) → reads_table reads ≡ false → (x : Source) → IsAmong x reads → IsNoTable x
no_table reads e x a k q = let both : true ≡ false = sym (some_table x reads (ap is_table q) a) ∙ e in cc

-- ---- types over tables
over_is : (n : Names) (reads : List Source) (told : Source → Data) (x : Source) (t : Shape) → IsNoTable x → types_on n reads told x ≡ Some t → types_over n reads told x ≡ Some t
over_is n reads told (source.Cell k) t u e = e
over_is n reads told (source.Global k) t u e = e
over_is n reads told (source.Context k) t u e = e
over_is n reads told (source.Gathered k) t u e = e
over_is n reads told (source.Input k) t u e = e
over_is n reads told (source.Chosen k) t u e = e
over_is n reads told (source.Table k) t u e = absurd (u k refl)
over_is n reads told source.Today t u e = e

over_here : (n : Names) (reads : List Source) (told : Source → Data) (x : Source) (t : Shape) → types_over n reads told x ≡ Some t → sources n x ≡ Some t
over_here n reads told (source.Cell k) t e = type_here n reads told (source.Cell k) t e
over_here n reads told (source.Global k) t e = type_here n reads told (source.Global k) t e
over_here n reads told (source.Context k) t e = type_here n reads told (source.Context k) t e
over_here n reads told (source.Gathered k) t e = type_here n reads told (source.Gathered k) t e
over_here n reads told (source.Input k) t e = type_here n reads told (source.Input k) t e
over_here n reads told (source.Chosen k) t e = type_here n reads told (source.Chosen k) t e
over_here n reads told (source.Table k) t e = e
over_here n reads told source.Today t e = type_here n reads told source.Today t e

-- ---- what a formula may be evaluated in
-- no scope is around, and perhaps the item of a gallery
abbrev pub outermost : Option Data → ScopeValues
outermost item = record { rows = []; item = item; caught = None }

-- the tree that is evaluated is ready, where types of sources are those of names, and what is read has its type
ready_by : (a : App) (c : CellInfo) (item : Option Data) (S : Source → Option Shape) → IsSoundCell a.names c → c.cell.acts ≡ false → IsItemFit item (item_context a.names c.cell.item) →
    Keeps (sources a.names) S c.reads → ((x : Source) (t : Shape) → S x ≡ Some t → sources a.names x ≡ Some t) →
    IsTypedHere S (outermost item) (limited a.names.schema.tables a.limit 0 false c.core) (shape c.ty)
ready_by a c item S w quiet fit keeps here =
    let ts = a.names.schema.tables in
    let calm : IsCalm a.names c = w.calm quiet in
    let whole : Context = context_at a.names c.cell.item in
    let reads : ReadsTables ts whole = λ k t e. ap (λ (o : Option TableShape). option_map (λ (x : TableShape). tables (columns_of x)) o) e in
    let lawful : IsLawfulTyping whole c.core (shape c.ty) w.typed = typings_lawful whole c.core (shape c.ty) w.typed calm.context calm.lawful in
    let tree : Term = limited ts a.limit 0 false c.core in
    let of_tree = types_limited ts a.limit whole false c.core (shape c.ty) reads (w.typed, lawful) calm.quiet in
    let typed : IsTyped (record whole { sources = S }) tree (shape c.ty) =
    typed_over S tree whole (shape c.ty) of_tree.1 calm.context.of_sources (λ x t among e. keeps x t ((w.reads x).1 (limited_reads ts a.limit 0 false c.core x among)) e) of_tree.0.0 in
    let around : IsLawfulContext (record whole { sources = S }) = record {
      of_sources = λ x t e. calm.context.of_sources x t (here x t e);
      of_scopes = tt;
      of_item = calm.context.of_item;
      of_functions = λ k us t e. absurd cc;
    } in
    record {
      context = record whole { sources = S };
      suits = record { sources = refl; rows = tt; item = fit; caught = λ e. absurd cc; functions = refl };
      typed = typed;
      lawful = typings_lawful (record whole { sources = S }) tree (shape c.ty) typed around (limited_lawful ts a.limit 0 false c.core calm.lawful);
      quiet = of_tree.1;
    }

-- what is read but for tables has its type
keeps_others : (p : Present) (values : ℕ → Data) (day : Data) (c : CellInfo) (x : Source) (t : Shape) → IsToday p.moment day → IsSoundApp p.app → HoldsFitting p.app.names p.session → p.tables ≡ None →
    CellsFit p.app values → IsNoTable x → IsAmong x c.reads → sources p.app.names x ≡ Some t → types_on p.app.names c.reads (told_on day p.app.names p.session p.tables values) x ≡ Some t
keeps_others p values day c x t today s n none fits apart a e =
    known p.app.names c.reads (told_on day p.app.names p.session p.tables values) x t apart a e
    (given_fits p values x t (told_on day p.app.names p.session p.tables values x) s n (subst (HoldRows p.app.names.schema) (sym none) tt) (λ d f behind there. fits d f there) e (told_given p values day x today apart))

-- where it reads no table
pub is_ready : (a : App) (s : SessionState) (moment : ℕ) (values : ℕ → Data) (day : Data) (c : CellInfo) (item : Option Data) → IsToday moment day → IsSoundApp a → HoldsFitting a.names s → IsSoundCell a.names c →
    c.cell.acts ≡ false → reads_table c.reads ≡ false → CellsFit a values → IsItemFit item (item_context a.names c.cell.item) →
    IsTypedHere (types_on a.names c.reads (told_on day a.names s None values)) (outermost item) (limited a.names.schema.tables a.limit 0 false c.core) (shape c.ty)
is_ready a s moment values day c item today sound n w quiet none fits fit =
    ready_by a c item (types_on a.names c.reads (told_on day a.names s None values)) w quiet fit
    (λ x t among e. keeps_others (present a s None moment) values day c x t today sound n refl fits (no_table c.reads none x among) among e)
    (λ x t e. type_here a.names c.reads (told_on day a.names s None values) x t e)

is_no_table : (x : Source) → is_table x ≡ false → IsNoTable x
is_no_table x e k q = let both : true ≡ false = ap is_table (sym q) ∙ e in cc

-- and where it may
pub is_ready_over : (a : App) (s : SessionState) (moment : ℕ) (values : ℕ → Data) (day : Data) (c : CellInfo) (item : Option Data) → IsToday moment day → IsSoundApp a → HoldsFitting a.names s → IsSoundCell a.names c →
    c.cell.acts ≡ false → CellsFit a values → IsItemFit item (item_context a.names c.cell.item) →
    IsTypedHere (types_over a.names c.reads (told_on day a.names s None values)) (outermost item) (limited a.names.schema.tables a.limit 0 false c.core) (shape c.ty)
is_ready_over a s moment values day c item today sound n w quiet fits fit =
    ready_by a c item (types_over a.names c.reads (told_on day a.names s None values)) w quiet fit (λ x t among e. keeps x t among e (is_table x) refl)
    (λ x t e. over_here a.names c.reads (told_on day a.names s None values) x t e)
  where
    table_kept : (x : Source) (t : Shape) → is_table x ≡ true → sources a.names x ≡ Some t → types_over a.names c.reads (told_on day a.names s None values) x ≡ Some t
    table_kept (source.Table k) t q e = e
    table_kept (source.Cell k) t q e = absurd cc
    table_kept (source.Global k) t q e = absurd cc
    table_kept (source.Context k) t q e = absurd cc
    table_kept (source.Gathered k) t q e = absurd cc
    table_kept (source.Input k) t q e = absurd cc
    table_kept (source.Chosen k) t q e = absurd cc
    table_kept source.Today t q e = absurd cc

    keeps : (x : Source) (t : Shape) → IsAmong x c.reads → sources a.names x ≡ Some t → (b : Bool) → is_table x ≡ b → types_over a.names c.reads (told_on day a.names s None values) x ≡ Some t
    keeps x t among e true q = table_kept x t q e
    keeps x t among e false q =
        over_is a.names c.reads (told_on day a.names s None values) x t (is_no_table x q)
        (keeps_others (present a s None moment) values day c x t today sound n refl fits (is_no_table x q) among e)

-- ---- what it is worth
told_gives : (p : Present) (values : ℕ → Data) (day : Data) (reads : List Source) (told : Source → Data) (x : Source) (v : Data) → IsToday p.moment day →
    FitsIn (types_on p.app.names reads told x) v → v ≡ told_on day p.app.names p.session None values x → SourceGives p values x v
told_gives p values day reads told (source.Cell k) v t f e = e
told_gives p values day reads told (source.Global k) v t f e = e
told_gives p values day reads told (source.Context k) v t f e = e
told_gives p values day reads told (source.Gathered k) v t f e = e
told_gives p values day reads told (source.Input k) v t f e = e
told_gives p values day reads told (source.Chosen k) v t f e = e
told_gives p values day reads told (source.Table k) v t f e = absurd f
told_gives p values day reads told source.Today v t f e = subst (IsToday p.moment) (sym e) t

type_read : (b : Bool) (o : Option Shape) (d v : Data) → FitsIn (type_by b o d) v → b ≡ true
type_read true o d v f = refl
type_read false o d v f = absurd f

-- what has a type and isn't a table is read
is_read : (n : Names) (reads : List Source) (told : Source → Data) (x : Source) (v : Data) → FitsIn (types_on n reads told x) v → CanRead reads x
is_read n reads told (source.Cell k) v f = among_is (source.Cell k) reads (type_read (is_source_among (source.Cell k) reads) (sources n (source.Cell k)) (told (source.Cell k)) v f)
is_read n reads told (source.Global k) v f = among_is (source.Global k) reads (type_read (is_source_among (source.Global k) reads) (sources n (source.Global k)) (told (source.Global k)) v f)
is_read n reads told (source.Context k) v f = among_is (source.Context k) reads (type_read (is_source_among (source.Context k) reads) (sources n (source.Context k)) (told (source.Context k)) v f)
is_read n reads told (source.Gathered k) v f = among_is (source.Gathered k) reads (type_read (is_source_among (source.Gathered k) reads) (sources n (source.Gathered k)) (told (source.Gathered k)) v f)
is_read n reads told (source.Input k) v f = among_is (source.Input k) reads (type_read (is_source_among (source.Input k) reads) (sources n (source.Input k)) (told (source.Input k)) v f)
is_read n reads told (source.Chosen k) v f = among_is (source.Chosen k) reads (type_read (is_source_among (source.Chosen k) reads) (sources n (source.Chosen k)) (told (source.Chosen k)) v f)
is_read n reads told (source.Table k) v f = absurd f
is_read n reads told source.Today v f = among_is source.Today reads (type_read (is_source_among source.Today reads) (sources n source.Today) (told source.Today) v f)

is_told_of : (o : Option (List (List Row))) (reads : List Source) → reads_table reads ≡ false → is_told o reads ≡ true
is_told_of None reads e = ap not e
is_told_of (Some ts) reads e = refl

told_where : {P : Type 0} (Q : Type 0) (b : Bool) → b ≡ true → P → IsWhere b P Q
told_where Q true e h = h
told_where Q false e h = absurd cc

-- where it reads no table, a value over what is told is the formula's value
pub is_value : (p : Present) (values : ℕ → Data) (day : Data) (c : CellInfo) (item : Option Data) (v : Data) → IsToday p.moment day → reads_table c.reads ≡ false →
    IsValue (around (types_on p.app.names c.reads (told_on day p.app.names p.session None values)) (Some (told_on day p.app.names p.session None values)) (outermost item))
    (limited p.app.names.schema.tables p.app.limit 0 false c.core) v → IsValueOf p values item c v
is_value p values day c item v today none h =
    let told : Source → Data = told_on day p.app.names p.session None values in
    told_where _ (is_told p.tables c.reads) (is_told_of p.tables c.reads none)
    (stays (λ x d. CanRead c.reads x × SourceGives p values x d) (limited p.app.names.schema.tables p.app.limit 0 false c.core) (around (types_on p.app.names c.reads told) (Some told) (outermost item)) v
    (λ x d g. (is_read p.app.names c.reads told x d g.0, told_gives p values day c.reads told x d today g.0 g.1)) h)

-- the same over tables
pub over_gives : (a : App) (s : SessionState) (ts : List (List Row)) (moment : ℕ) (values : ℕ → Data) (day : Data) (reads : List Source) (x : Source) (v : Data) → IsToday moment day →
    FitsIn (types_over a.names reads (told_on day a.names s None values) x) v → v ≡ told_on day a.names s (Some ts) values x →
    CanRead reads x × SourceGives (present a s (Some ts) moment) values x v
over_gives a s ts moment values day reads (source.Cell k) v t f e = (is_read a.names reads (told_on day a.names s None values) (source.Cell k) v f, e)
over_gives a s ts moment values day reads (source.Global k) v t f e = (is_read a.names reads (told_on day a.names s None values) (source.Global k) v f, e)
over_gives a s ts moment values day reads (source.Context k) v t f e = (is_read a.names reads (told_on day a.names s None values) (source.Context k) v f, e)
over_gives a s ts moment values day reads (source.Gathered k) v t f e = (is_read a.names reads (told_on day a.names s None values) (source.Gathered k) v f, e)
over_gives a s ts moment values day reads (source.Input k) v t f e = (is_read a.names reads (told_on day a.names s None values) (source.Input k) v f, e)
over_gives a s ts moment values day reads (source.Chosen k) v t f e = (is_read a.names reads (told_on day a.names s None values) (source.Chosen k) v f, e)
over_gives a s ts moment values day reads (source.Table k) v t f e = (tt, by (slice_get a.names.schema.tables k) f e)
  where
    by : (o : Option TableShape) → FitsIn (option_map (λ (x : TableShape). tables (columns_of x)) o) v → v ≡ table_told o (Some ts) k → GivesTable o (Some ts) k v
    by (Some x) f e = e
    by None f e = absurd f
over_gives a s ts moment values day reads source.Today v t f e = (is_read a.names reads (told_on day a.names s None values) source.Today v f, subst (IsToday moment) (sym e) t)

-- a value over tables is the formula's value: that over the told rows where rows are heard of, and else one that fits
pub is_value_over : (a : App) (s : SessionState) (told : Option (List (List Row))) (heard : Option (List (List Row))) (moment : ℕ) (values : ℕ → Data) (day : Data) (c : CellInfo) (item : Option Data) (v : Data) →
    IsToday moment day → reads_table c.reads ≡ true → IsHeard told heard → fits_in v (shape c.ty) ≡ true →
    IsValue (around (types_over a.names c.reads (told_on day a.names s None values)) (option_map (λ (rows : List (List Row)). told_on day a.names s (Some rows) values) told) (outermost item))
    (limited a.names.schema.tables a.limit 0 false c.core) v → IsValueOf (present a s heard moment) values item c v
is_value_over a s told None moment values day c item v today reads heard fits h = subst (λ b. IsWhere (not b) (IsTakenValue a.names.schema.tables a.limit (formula_context (present a s None moment) values c.reads item) c.core v) (fits_in v (shape c.ty) ≡ true)) (sym reads) fits
is_value_over a s told (Some ts) moment values day c item v today reads heard fits h =
    let types : Source → Option Shape = types_over a.names c.reads (told_on day a.names s None values) in
    let given : Source → Data = told_on day a.names s (Some ts) values in
    let tree : Term = limited a.names.schema.tables a.limit 0 false c.core in
    stays (λ x d. CanRead c.reads x × SourceGives (present a s (Some ts) moment) values x d) tree (around types (Some given) (outermost item)) v
    (λ x d g. over_gives a s ts moment values day c.reads x d today g.0 g.1)
    (subst (λ (o : Option (List (List Row))). IsValue (around types (option_map (λ (rows : List (List Row)). told_on day a.names s (Some rows) values) o) (outermost item)) tree v) heard h)
