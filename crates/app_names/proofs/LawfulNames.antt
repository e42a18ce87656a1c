-- The names of an app of which nothing is broken are lawful.
use Rattle.std.proofs.lemmas.Bool.{cases_lt, lt-ltb, or_parts}
use Rattle.std.proofs.lemmas.Slice.Eq.{bytes_eq-Decides}
use Rattle.std.proofs.lemmas.List.Elements.{All-nil, All-cons, All-head, All-tail, All-append}
use Rattle.std.proofs.lemmas.List.Folds.{list_any-append}
use Rattle.std.proofs.Common.{IfOk, Result, Ok, Err, inl, inr, ◌≡◌, ◌≢◌, ℕ, suc, ◌+◌, ◌<◌, ◌≤◌, ◌^◌, Bool, true, false, List, [], ◌∷◌, ◌++◌, Option, Some, None, option_map, map, flat_map, length, get_or, slice_get, codes, bytes_eq, refl, ap, sym, subst, ◌∙◌, arith, All, if◌then◌else◌}
use Rattle.fx_types.specs.declared.types.Ty.TheVariants as ty
use Rattle.fx_core.specs.Lawful.{AreDistinct, DiffersFromAll, Has, IsColumnType, IsLawful, IsLawfulControl, IsLawfulFunction, IsLawfulGallery, IsLawfulProperty, IsLawfulSchema, IsLawfulScreen, IsLawfulTable, id_name}
use Rattle.fx_core.specs.declared.broken.Broken.{Broken}
use Rattle.fx_core.specs.declared.names.ControlName.{ControlName}
use Rattle.fx_core.specs.declared.names.FormulaName.{FormulaName}
use Rattle.fx_core.specs.declared.names.FunctionName.{FunctionName}
use Rattle.fx_core.specs.declared.names.Names.{Names}
use Rattle.fx_core.specs.declared.names.Property.{Property}
use Rattle.fx_core.specs.declared.names.Variable.{Variable}
use Rattle.fx_core.specs.declared.rule.Rule.TheVariants as rule
use Rattle.fx_core.specs.declared.schema.Column.{Column}
use Rattle.fx_core.specs.declared.schema.Schema.{Schema}
use Rattle.fx_core.specs.declared.schema.TableShape.{TableShape}
use Rattle.fx_core.specs.declared.signatures.Signature.{Signature}
use Rattle.fx_typing.specs.Meaning.{or_else}
use Rattle.app_cells.specs.declared.cell.Cell.{Cell}
use Rattle.app_cells.specs.declared.cell.Spot.{Spot}
use Rattle.app_cells.specs.declared.cell.Spot.TheVariants as spot
use Rattle.app_cells.specs.declared.frame.Frame.{Frame}
use Rattle.app_cells.specs.Spots.{IsControl, IsFrame, IsPlaced, IsSpot, IsTableInLimits}
use Rattle.app_names.specs.declared.declarations.Declared.{Declared}
use Rattle.app_names.specs.declared.declarations.Thing.{Thing}
use Rattle.app_names.specs.declared.declarations.Thing.TheVariants as thing
use Rattle.app_names.specs.AppNames.{AreNamesOf, as_collection, as_formula, as_property, as_variable, collections_among, formulas_from, properties_from, variables_among}
use Rattle.app_names.specs.Declarations.{given_names, is_name_among, frame_table_names, things_of}
use Rattle.app_names.specs.NameRules.{app_break, app_limit, breaks_behind, column_twice, word_with_number, first_twice, frame_twice, in_app, is_reserved, is_taken, most_cells, most_variables, name_breaks, passed_limit, put_break, screen_twice, table_twice}
use Rattle.app_names.proofs.Screens.{Fits, IsScreen, IsThing, all_fit}

-- nothing is broken: nothing is said of the whole app
none_put : (o : Option Broken) (bs : List Broken) → put_break o bs ≡ [] → o ≡ None
none_put None bs e = refl
none_put (Some b) bs e = absurd cc

none_mapped : {A B : Type 0} (f : A → B) (o : Option A) → option_map f o ≡ None → o ≡ None
none_mapped f None e = refl
none_mapped f (Some a) e = absurd cc

none_both : {A : Type 0} (a b : Option A) → or_else a b ≡ None → (a ≡ None) × (b ≡ None)
none_both None b e = (refl, e)
none_both (Some x) b e = absurd cc

within : (most count : ℕ) (limit : List ℕ) → passed_limit most count limit ≡ None → count ≤ most
within most count limit e = elim (cases_lt most count) [
  | inl l ↦ let past : None ≡ Some (word_with_number limit count) = sym e ∙ ap (λ b. if b then Some (word_with_number limit count) else None) (lt-ltb most count l) in absurd cc
  | inr l ↦ l
]

-- no name is taken, and no limit is passed
pub unbroken : (fs : List Signature) (f : Frame) (cs : List Cell) → name_breaks fs f cs ≡ [] → (frame_twice f cs ≡ None) × ((length cs ≤ 2000) × (length (things_of fs f cs) ≤ 1000))
unbroken fs f cs e =
    let n = length (things_of fs f cs) in
    let none = none_put (app_break f cs n) (breaks_behind fs (is_name_among (given_names f cs)) (frame_table_names f) [] cs) e in
    let both = none_both (option_map (in_app rule.NameTwice) (frame_twice f cs)) (option_map (in_app rule.LimitPassed) (app_limit (length cs) n)) none in
    let limits = none_both (passed_limit most_cells (length cs) (codes "cells")) (passed_limit most_variables n (codes "variables")) (none_mapped (in_app rule.LimitPassed) (app_limit (length cs) n) both.1) in
    (none_mapped (in_app rule.NameTwice) (frame_twice f cs) both.0, (within most_cells (length cs) (codes "cells") limits.0, within most_variables n (codes "variables") limits.1))

not_taken : (b : Bool) (x : List ℕ) (o : Option (List ℕ)) → (if b then Some x else o) ≡ None → (b ≡ false) × (o ≡ None)
not_taken true x o e = absurd cc
not_taken false x o e = (refl, e)

abbrev NoneAmong : List (List ℕ) → List (List ℕ) → Type 0
NoneAmong before [] = Unit {0}
NoneAmong before (x ∷ xs) = (is_name_among before x ≡ false) × NoneAmong before xs

unlike : (x y : List ℕ) → bytes_eq x y ≡ false → x ≢ y
unlike x y e same = let h : true ≡ false = sym ((bytes_eq-Decides x y).1 same) ∙ e in absurd cc

behind : (before : List (List ℕ)) (x y : List ℕ) → is_name_among (before ++ x ∷ []) y ≡ false → (is_name_among before y ≡ false) × (x ≢ y)
behind before x y e =
    let both = or_parts (is_name_among before y) (is_name_among (x ∷ []) y) (sym (list_any-append (λ z. bytes_eq z y) before (x ∷ [])) ∙ e) in
    (both.0, unlike x y (or_parts (bytes_eq x y) false both.1).0)

apart : (before : List (List ℕ)) (x : List ℕ) (ys : List (List ℕ)) → NoneAmong (before ++ x ∷ []) ys → NoneAmong before ys × DiffersFromAll x ys
apart before x [] h = (tt, tt)
apart before x (y ∷ ys) h = let k = behind before x y h.0 in let r = apart before x ys h.1 in ((k.0, r.0), (k.1, r.1))

free : (before xs : List (List ℕ)) → first_twice before xs ≡ None → NoneAmong before xs × AreDistinct xs
free before [] e = (tt, tt)
free before (x ∷ xs) e =
    let k = not_taken (is_taken before x) x (first_twice (before ++ x ∷ []) xs) e in
    let new = or_parts (is_reserved x) (is_name_among before x) k.0 in
    let r = free (before ++ x ∷ []) xs k.1 in
    let s = apart before x xs r.0 in
    ((new.1, s.0), (s.1, r.1))

abbrev names_in : List TableShape → List (List ℕ)
names_in ts = map (λ (t : TableShape). t.name) ts

columns_free : (t : TableShape) → column_twice t ≡ None → AreDistinct (id_name ∷ map (λ (c : Column). c.name) t.columns)
columns_free t e =
    let names = map (λ (c : Column). c.name) t.columns in
    let r = free (id_name ∷ []) names e in
    ((apart [] id_name names r.0).1, r.1)

abbrev IsFree : TableShape → Type 0
IsFree t = column_twice t ≡ None

tables_free : (before : List (List ℕ)) (ts : List TableShape) → table_twice before ts ≡ None → NoneAmong before (names_in ts) × (AreDistinct (names_in ts) × All IsFree ts)
tables_free before [] e = (tt, (tt, All-nil IsFree))
tables_free before (t ∷ ts) e =
    let k = not_taken (is_taken before t.name) t.name (or_else (column_twice t) (table_twice (before ++ t.name ∷ []) ts)) e in
    let new = or_parts (is_reserved t.name) (is_name_among before t.name) k.0 in
    let both = none_both (column_twice t) (table_twice (before ++ t.name ∷ []) ts) k.1 in
    let r = tables_free (before ++ t.name ∷ []) ts both.1 in
    let s = apart before t.name (names_in ts) r.0 in
    ((new.1, s.0), ((s.1, r.1.0), All-cons IsFree t ts both.0 r.1.1))

lawful_schema : (f : Frame) (cs : List Cell) → IsFrame f → frame_twice f cs ≡ None → IsLawfulSchema f.schema
lawful_schema f cs h e =
    let both = none_both (table_twice [] f.schema.tables) (screen_twice f cs) e in
    let r = tables_free [] f.schema.tables both.0 in
    (h.few_tables, r.1.0, λ k d l. let t = h.tables k d l in (t.0, t.1, columns_free (get_or f.schema.tables k d) (r.1.1 k d l)))

-- numbers of cells differ
abbrev formula_cells : List FormulaName → List ℕ
formula_cells fs = map (λ (f : FormulaName). f.cell) fs

abbrev property_cells : List Property → List ℕ
property_cells ps = map (λ (p : Property). p.cell) ps

above_formulas : (k m : ℕ) (cs : List Cell) → m < k → DiffersFromAll m (formula_cells (formulas_from k cs))
above_formulas k m [] l = tt
above_formulas k m (c ∷ cs) l = by c.spot (above_formulas (suc k) m cs (omega (arith, l)))
  where
    by : (s : Spot) → DiffersFromAll m (formula_cells (formulas_from (suc k) cs)) → DiffersFromAll m (formula_cells (as_formula k s ++ formulas_from (suc k) cs))
    by (spot.Formula x) h = ((λ e. absurd (omega (arith, e, l))), h)
    by spot.OnStart h = h
    by (spot.OnVisible s) h = h
    by (spot.Property j p) h = h

above_properties : (k m : ℕ) (cs : List Cell) → m < k → DiffersFromAll m (property_cells (properties_from k cs))
above_properties k m [] l = tt
above_properties k m (c ∷ cs) l = by c.spot (above_properties (suc k) m cs (omega (arith, l)))
  where
    by : (s : Spot) → DiffersFromAll m (property_cells (properties_from (suc k) cs)) → DiffersFromAll m (property_cells (as_property k s ++ properties_from (suc k) cs))
    by (spot.Property j p) h = ((λ e. absurd (omega (arith, e, l))), h)
    by (spot.Formula x) h = h
    by spot.OnStart h = h
    by (spot.OnVisible s) h = h

both_differ : (x : ℕ) (xs ys : List ℕ) → DiffersFromAll x xs → DiffersFromAll x ys → DiffersFromAll x (xs ++ ys)
both_differ x [] ys h k = k
both_differ x (z ∷ xs) ys h k = (h.0, both_differ x xs ys h.1 k)

differs_in : (a x : ℕ) (xs ys : List ℕ) → a ≢ x → DiffersFromAll a (xs ++ ys) → DiffersFromAll a (xs ++ x ∷ ys)
differs_in a x [] ys n h = (n, h)
differs_in a x (z ∷ xs) ys n h = (h.0, differs_in a x xs ys n h.1)

put_in : (x : ℕ) (xs ys : List ℕ) → DiffersFromAll x xs → DiffersFromAll x ys → AreDistinct (xs ++ ys) → AreDistinct (xs ++ x ∷ ys)
put_in x [] ys h k d = (k, d)
put_in x (z ∷ xs) ys h k d = (differs_in z x xs ys (λ e. h.0 (sym e)) d.0, put_in x xs ys h.1 k d.1)

distinct_cells : (k : ℕ) (cs : List Cell) → AreDistinct (formula_cells (formulas_from k cs) ++ property_cells (properties_from k cs))
distinct_cells k [] = tt
distinct_cells k (c ∷ cs) = by c.spot (distinct_cells (suc k) cs)
  where
    by : (s : Spot) → AreDistinct (formula_cells (formulas_from (suc k) cs) ++ property_cells (properties_from (suc k) cs)) → AreDistinct (formula_cells (as_formula k s ++ formulas_from (suc k) cs) ++ property_cells (as_property k s ++ properties_from (suc k) cs))
    by (spot.Formula x) h = (both_differ k (formula_cells (formulas_from (suc k) cs)) (property_cells (properties_from (suc k) cs)) (above_formulas (suc k) k cs (omega arith)) (above_properties (suc k) k cs (omega arith)), h)
    by spot.OnStart h = h
    by (spot.OnVisible s) h = h
    by (spot.Property j p) h = put_in k (formula_cells (formulas_from (suc k) cs)) (property_cells (properties_from (suc k) cs)) (above_formulas (suc k) k cs (omega arith)) (above_properties (suc k) k cs (omega arith)) h

-- there are no more of them than cells
few_formulas : (k : ℕ) (cs : List Cell) → length (formulas_from k cs) ≤ length cs
few_formulas k [] = omega arith
few_formulas k (c ∷ cs) = by c.spot (few_formulas (suc k) cs)
  where
    by : (s : Spot) → length (formulas_from (suc k) cs) ≤ length cs → length (as_formula k s ++ formulas_from (suc k) cs) ≤ suc (length cs)
    by (spot.Formula x) l = omega (arith, l)
    by spot.OnStart l = omega (arith, l)
    by (spot.OnVisible s) l = omega (arith, l)
    by (spot.Property j p) l = omega (arith, l)

few_properties : (k : ℕ) (cs : List Cell) → length (properties_from k cs) ≤ length cs
few_properties k [] = omega arith
few_properties k (c ∷ cs) = by c.spot (few_properties (suc k) cs)
  where
    by : (s : Spot) → length (properties_from (suc k) cs) ≤ length cs → length (as_property k s ++ properties_from (suc k) cs) ≤ suc (length cs)
    by (spot.Formula x) l = omega (arith, l)
    by spot.OnStart l = omega (arith, l)
    by (spot.OnVisible s) l = omega (arith, l)
    by (spot.Property j p) l = omega (arith, l)

few_variables : (ds : List Declared) → length (variables_among ds) ≤ length ds
few_variables [] = omega arith
few_variables (d ∷ ds) = by d.thing (few_variables ds)
  where
    by : (t : Thing) → length (variables_among ds) ≤ length ds → length (as_variable d t ++ variables_among ds) ≤ suc (length ds)
    by (thing.Variable s) l = omega (arith, l)
    by thing.Collection l = omega (arith, l)

few_collections : (ds : List Declared) → length (collections_among ds) ≤ length ds
few_collections [] = omega arith
few_collections (d ∷ ds) = by d.thing (few_collections ds)
  where
    by : (t : Thing) → length (collections_among ds) ≤ length ds → length (as_collection d t ++ collections_among ds) ≤ suc (length ds)
    by (thing.Variable s) l = omega (arith, l)
    by thing.Collection l = omega (arith, l)

-- each number of a cell is a place among the cells
pub formulas_below : (m k : ℕ) (cs : List Cell) → k + length cs ≤ m → All (λ (f : FormulaName). f.cell < m) (formulas_from k cs)
formulas_below m k [] l = All-nil (λ (f : FormulaName). f.cell < m)
formulas_below m k (c ∷ cs) l = by c.spot (formulas_below m (suc k) cs (omega (arith, l)))
  where
    by : (s : Spot) → All (λ (f : FormulaName). f.cell < m) (formulas_from (suc k) cs) → All (λ (f : FormulaName). f.cell < m) (as_formula k s ++ formulas_from (suc k) cs)
    by (spot.Formula x) h = All-cons (λ (f : FormulaName). f.cell < m) (record { name = x; cell = k; ty = ty.Blank }) (formulas_from (suc k) cs) (omega (arith, l)) h
    by spot.OnStart h = h
    by (spot.OnVisible s) h = h
    by (spot.Property j p) h = h

pub properties_below : (m k : ℕ) (cs : List Cell) → k + length cs ≤ m → All (λ (p : Property). p.cell < m) (properties_from k cs)
properties_below m k [] l = All-nil (λ (p : Property). p.cell < m)
properties_below m k (c ∷ cs) l = by c.spot (properties_below m (suc k) cs (omega (arith, l)))
  where
    by : (s : Spot) → All (λ (p : Property). p.cell < m) (properties_from (suc k) cs) → All (λ (p : Property). p.cell < m) (as_property k s ++ properties_from (suc k) cs)
    by (spot.Property j p) h = All-cons (λ (q : Property). q.cell < m) (record { control = j; name = p; cell = k }) (properties_from (suc k) cs) (omega (arith, l)) h
    by (spot.Formula x) h = h
    by spot.OnStart h = h
    by (spot.OnVisible s) h = h

-- properties are of their controls' kinds
abbrev HasIt : List ControlName → Property → Type 0
HasIt cs p = Has p.name (slice_get cs p.control)

properties_fit : (f : Frame) (k : ℕ) (cs : List Cell) → All (IsPlaced f) cs → All (HasIt f.controls) (properties_from k cs)
properties_fit f k [] h = All-nil (HasIt f.controls)
properties_fit f k (c ∷ cs) h = by c.spot (All-head (IsPlaced f) c cs h).spot (properties_fit f (suc k) cs (All-tail (IsPlaced f) c cs h))
  where
    by : (s : Spot) → IsSpot f s → All (HasIt f.controls) (properties_from (suc k) cs) → All (HasIt f.controls) (as_property k s ++ properties_from (suc k) cs)
    by (spot.Property j p) here l = All-cons (HasIt f.controls) (record { control = j; name = p; cell = k }) (properties_from (suc k) cs) here l
    by (spot.Formula x) here l = l
    by spot.OnStart here l = l
    by (spot.OnVisible s) here l = l

-- the screens of variables are screens
abbrev IsNumber : List (List ℕ) → Option ℕ → Type 0
IsNumber ss (Some s) = s < length ss
IsNumber ss None = Unit {0}

abbrev IsOn : List (List ℕ) → Variable → Type 0
IsOn ss v = IsNumber ss v.screen

number_fits : (f : Frame) (s : Option ℕ) → IsScreen f s → IsNumber f.screens s
number_fits f (Some s) h = h
number_fits f None h = tt

variables_fit : (f : Frame) (ds : List Declared) → All (Fits f) ds → All (IsOn f.screens) (variables_among ds)
variables_fit f [] h = All-nil (IsOn f.screens)
variables_fit f (d ∷ ds) h = by d.thing (All-head (Fits f) d ds h) (variables_fit f ds (All-tail (Fits f) d ds h))
  where
    by : (t : Thing) → IsThing f t → All (IsOn f.screens) (variables_among ds) → All (IsOn f.screens) (as_variable d t ++ variables_among ds)
    by (thing.Variable s) here l = All-cons (IsOn f.screens) (record { name = d.name; screen = s; ty = ty.Blank }) (variables_among ds) (number_fits f s here) l
    by thing.Collection here l = l

screen_lawful : (n : Names) (s : Option ℕ) → IsNumber n.screens s → IsLawfulScreen n s
screen_lawful n (Some s) h = h
screen_lawful n None h = tt

-- controls, by the lists of screens and controls that they stand among
abbrev StandsAmong : List (List ℕ) → List ControlName → ControlName → Type 0
StandsAmong ss cs c = (c.screen < length ss) × IsLawfulGallery cs c.gallery

-- WHAT NAMES ARE LAWFUL: those of an app that has a frame, whose formulas stand in it, and of which nothing is broken
pub lawful_names : (fs : List Signature) (f : Frame) (cs : List Cell) (n : Names) → IsFrame f → All (IsPlaced f) cs → AreNamesOf f cs n → n.signatures.now ≡ fs → name_breaks fs f cs ≡ [] → IsLawful n
lawful_names fs f cs n h placed names same none =
    let u = unbroken fs f cs none in
    let things = things_of fs f cs in
    let variables : n.variables ≡ variables_among things = names.variables ∙ ap (λ gs. variables_among (things_of gs f cs)) same in
    let collections : n.collections ≡ collections_among things = names.collections ∙ ap (λ gs. collections_among (things_of gs f cs)) same in
    record {
      schema = subst IsLawfulSchema (sym names.schema) (lawful_schema f cs h u.0);
      screens = let e = ap length names.screens in let l = h.few_screens in omega (arith, e, l);
      controls = let e = ap length names.controls in let l = h.few_controls in (
        omega (arith, e, l),
        subst (λ ss. All (StandsAmong ss n.controls) n.controls) (sym names.screens) (subst (λ ds. All (StandsAmong f.screens ds) ds) (sym names.controls) h.controls),
      );
      properties = let e = ap length names.properties in let l = few_properties 0 cs in (
        omega (arith, e, l, u.1.0),
        subst (λ ds. All (HasIt ds) n.properties) (sym names.controls) (subst (All (HasIt f.controls)) (sym names.properties) (properties_fit f 0 cs placed)),
      );
      formulas = let e = ap length names.formulas in let l = few_formulas 0 cs in omega (arith, e, l, u.1.0);
      functions = subst (λ (fs : List FunctionName). (length fs < 2 ^ 32) × AreDistinct (map (λ (f : FunctionName). f.name) fs) × All IsLawfulFunction fs) (sym names.functions)
          (omega arith, tt, All-nil IsLawfulFunction);
      variables = let e = ap length variables in let l = few_variables things in (
        omega (arith, e, l, u.1.1),
        λ k d m. screen_lawful n (get_or n.variables k d).screen (subst (λ ss. All (IsOn ss) n.variables) (sym names.screens) (subst (All (IsOn f.screens)) (sym variables) (variables_fit f things (all_fit f fs cs h placed))) k d m),
      );
      collections = let e = ap length collections in let l = few_collections things in omega (arith, e, l, u.1.1);
      cells = subst (λ ps. AreDistinct (formula_cells n.formulas ++ property_cells ps)) (sym names.properties) (subst (λ gs. AreDistinct (formula_cells gs ++ property_cells (properties_from 0 cs))) (sym names.formulas) (distinct_cells 0 cs));
    }

pub both_ok : {T E : Type 0} (r : Result T E) (P Q : T → Type 0) → IfOk r P → IfOk r Q → IfOk r (λ x. P x × Q x)
both_ok (Ok x) P Q h k = (h, k)
both_ok (Err e) P Q h k = tt
