-- What the parts of a well typed call give is what the function takes.
use Rattle.std.proofs.Common.{◌≡◌, ◌≤◌, ℕ, ℤ, suc, ◌%◌, List, [], ◌∷◌, ◌++◌, length, map, Bool, true, false, Option, Some, None, Result, Ok, Err, refl, ap, sym, subst, ◌∙◌, is_some, arith}
use Rattle.std.specs.Prelude.{if◌then◌else◌}
use Rattle.std.specs.List.{All, find}
use Rattle.std.proofs.lemmas.List.Elements.{All-nil, All-cons}
use Rattle.fx_types.specs.declared.faults.Fault.{Fault}
use Rattle.fx_types.proofs.Utf8Order.{and_second, and_first}
use Rattle.fx_types.specs.Lookup.{item_named}
use Rattle.fx_types.specs.Types.{Shape, blanks, numbers, texts, booleans, dates, records, tables, ColumnList, no_columns, column}
use Rattle.fx_types.specs.Values.{Data, blank, number, text, boolean, date, rec, tab, fault, FieldList, RowList, field_list}
use Rattle.fx_semantics.proofs.Columns.{SoMany, free_ok, label_ok, lacks, ok_is, rises_without, there_ok, with_column_fit, all_lack}
use Rattle.fx_semantics.proofs.Fields.{name_fits, rest_fits}
use Rattle.fx_semantics.proofs.Groups.{value_fits, without_fits}
use Rattle.fx_semantics.proofs.Over.{table_ok}
use Rattle.fx_semantics.proofs.Parts.{Giving, stands, Suits, Holds, AllHold}
use Rattle.fx_semantics.proofs.Tables.{AllFit, RowsFit, each_fits, fit_table, rows_in_fit, table_fits}
use Rattle.fx_semantics.specs.Around.{Around, Meaning}
use Rattle.fx_semantics.specs.Fresh.{meaning, meanings}
use Rattle.fx_core.specs.Rows.{row_of, takes_count}
use Rattle.fx_core.specs.declared.functions.Fun.{Fun}
use Rattle.fx_core.specs.declared.functions.Fun.TheVariants as fun
use Rattle.fx_core.specs.declared.rows.Takes.{Takes}
use Rattle.fx_core.specs.SourceTypes.{put_column}
use Rattle.fx_tables.proofs.FitColumns.{all_renamed_fit, rises_put}
use Rattle.fx_tables.proofs.FitRows.{RowFits}
use Rattle.fx_tables.specs.ColumnCalls.{CanAddColumns, CanRename, in_turn}
use Rattle.fx_tables.specs.RowCalls.{AreKeysOrErrors}
use Rattle.fx_value.specs.Order.{AreOfOneType, IsScalar}
use Rattle.fx_eval.specs.Given.{ArgumentValues, once, each, AreGiven, PartGives, new_columns, column_names_in, pairs_in, values_in}
use Rattle.fx_eval.specs.TableCalls.{AreNewColumns, AreFor, AreFormulas, AreColumnNames, AreNamePairs, CanMake, IsOneOrNone, IsOneFormula, IsJoining, IsConditionAndFormula}
use Rattle.fx_eval.proofs.Parts.{AreOf, are_of, each_many, is_of}
use Rattle.fx_eval.proofs.Places.{ArePaired, at_least, at_most, formula_behind, inner_behind, name_at, paired_by, whole}
use Rattle.fx_value.specs.Columns.{Row, field_renamed, rows_with_column, fields_without as row_without}
use Rattle.fx_tables.specs.TableRows.{rows_in}
use Rattle.fx_tables.specs.Unions.{is_fault}
use Rattle.fx_tables.specs.Groups.{CanGroup, CanUngroup, IsApart, last_name, value_of}
use Rattle.fx_core.specs.Term.{Term, Terms, of, nil, cons, const, Top, over}
use Rattle.fx_typing.specs.Columns.{added, are_keys, dropped, first_shared, grouped, grouped_by, is_key, label_of, last_label, may_be_key, names_there, out_of, columns_shown, ungrouped, with_group}
use Rattle.fx_core.specs.Rules as rules
use Rattle.fx_core.specs.ColumnLists.{and_then, before_last, field_in, if_free, if_there, joined_columns, with_new, with_renamed}
use Rattle.fx_typing.specs.Columns as columns
use Rattle.fx_core.specs.ColumnLists as lists
use Rattle.fx_typing.specs.Ways.{is_scalar}
use Rattle.fx_typing.specs.WellTyped.{AllStand, Context, PartScope, answered_type, context_for, head_of, inside, typed_pairs, plain, standing_at, standing_of}
use Rattle.fx_typing.proofs.Operators.{then_ok}
use Rattle.fx_value.proofs.Unions.{Rises}
use Rattle.fx_value.specs.Fits.{fits_in}

-- ---- how parts are given

formula_for : (P : Meaning) (a : Around) (rows : List Row) (g : ArgumentValues) → PartGives inside P a rows g → AreFor (length rows) g
formula_for P a rows (each ds) h = each_many P a rows ds h
formula_for P a rows (once d) h = absurd h

-- all parts behind the table stand in the scope of a row
formulas : (h : Top) (n : ℕ) → ((i : ℕ) → standing_at h n (suc i) ≡ inside) → (i : ℕ) (Ps : List Meaning) (a : Around) (rows : List Row) (gs : List ArgumentValues) →
    AreGiven h n (suc i) Ps a rows gs → AreFormulas (length rows) gs
formulas h n p i [] a rows [] k = tt
formulas h n p i (P ∷ Ps) a rows (g ∷ gs) k =
    let Q : PartScope → Type 0 = λ s. PartGives s P a rows g in
    (formula_for P a rows g (subst Q (p i) k.0), formulas h n p (suc i) Ps a rows gs k.1)
formulas h n p i [] a rows (g ∷ gs) k = absurd k
formulas h n p i (P ∷ Ps) a rows [] k = absurd k

abbrev AreOnce : List ArgumentValues → Type 0
AreOnce [] = Unit {0}
AreOnce (once d ∷ gs) = AreOnce gs
AreOnce gs = ⊥

-- all of them stand where the whole stands
singles : (h : Top) (n : ℕ) → ((i : ℕ) → standing_at h n (suc i) ≡ plain) → (i : ℕ) (Ps : List Meaning) (a : Around) (rows : List Row) (gs : List ArgumentValues) →
    AreGiven h n (suc i) Ps a rows gs → AreOnce gs
singles h n p i [] a rows [] k = tt
singles h n p i (P ∷ Ps) a rows (once d ∷ gs) k = singles h n p (suc i) Ps a rows gs k.1
singles h n p i (P ∷ Ps) a rows (each ds ∷ gs) k =
    let Q : PartScope → Type 0 = λ s. PartGives s P a rows (each ds) in
    absurd (subst Q (p i) k.0)
singles h n p i [] a rows (g ∷ gs) k = absurd k
singles h n p i (P ∷ Ps) a rows [] k = absurd k

-- there is something given for each part
so_many : (h : Top) (n i : ℕ) (ts : Terms) (us : List Shape) (a : Around) (rows : List Row) (gs : List ArgumentValues) → SoMany ts us → AreGiven h n i (meanings ts) a rows gs →
    length us ≡ length gs
so_many h n i nil [] a rows [] m k = refl
so_many h n i (cons t ts) (u ∷ us) a rows (g ∷ gs) m k = ap suc (so_many h n (suc i) ts us a rows gs m k.1)
so_many h n i nil [] a rows (g ∷ gs) m k = absurd k
so_many h n i nil (u ∷ us) a rows gs m k = absurd m
so_many h n i (cons t ts) [] a rows gs m k = absurd m
so_many h n i (cons t ts) (u ∷ us) a rows [] m k = absurd k

-- ---- by their number

one_formula : (n : ℕ) (gs : List ArgumentValues) → AreFormulas n gs → 2 ≤ suc (length gs) → suc (length gs) ≤ 2 → IsOneFormula gs × (length (values_in gs) ≡ n)
one_formula n [] f l m = absurd (omega arith)
one_formula n (each ds ∷ []) f l m = (tt, f.0)
one_formula n (once d ∷ gs) f l m = absurd f.0
one_formula n (each ds ∷ g ∷ gs) f l m = absurd (omega arith)

search_of : (n : ℕ) (gs : List ArgumentValues) → AreFormulas n gs → 2 ≤ suc (length gs) → suc (length gs) ≤ 3 → IsConditionAndFormula n gs
search_of n [] f l m = absurd (omega arith)
search_of n (g ∷ []) f l m = f.0
search_of n (g ∷ h ∷ []) f l m = (f.0, f.1.0)
search_of n (g ∷ h ∷ j ∷ gs) f l m = absurd (omega arith)

count_of : (gs : List ArgumentValues) → AreOnce gs → suc (length gs) ≤ 2 → IsOneOrNone gs
count_of [] f m = tt
count_of (once d ∷ []) f m = tt
count_of (each ds ∷ gs) f m = absurd f
count_of (once d ∷ g ∷ gs) f m = absurd (omega arith)

joining_of : (n : ℕ) (Ps : List Meaning) (a : Around) (rows : List Row) (gs : List ArgumentValues) → AreGiven (over fun.Concat) n 1 Ps a rows gs → 2 ≤ suc (length gs) → suc (length gs) ≤ 3 →
    IsJoining gs
joining_of n [] a rows [] k l m = absurd (omega arith)
joining_of n (P ∷ []) a rows (each ds ∷ []) k l m = tt
joining_of n (P ∷ Q ∷ []) a rows (each ds ∷ once d ∷ []) k l m = tt
joining_of n [] a rows (g ∷ gs) k l m = absurd k
joining_of n (P ∷ Ps) a rows [] k l m = absurd k
joining_of n (P ∷ Ps) a rows (once d ∷ gs) k l m = absurd k.0
joining_of n (P ∷ Q ∷ Ps) a rows (each ds ∷ []) k l m = absurd k.1
joining_of n (P ∷ []) a rows (each ds ∷ g ∷ gs) k l m = absurd k.1
joining_of n (P ∷ Q ∷ Ps) a rows (each ds ∷ each es ∷ gs) k l m = absurd k.1.0
joining_of n (P ∷ Q ∷ R ∷ Ps) a rows (each ds ∷ once d ∷ []) k l m = absurd k.1.1
joining_of n (P ∷ Q ∷ Ps) a rows (each ds ∷ once d ∷ g ∷ gs) k l m = absurd (omega arith)

-- ---- names of columns

-- a name that stands as a text has that value
text_is : (t : Term) (a : Around) (x : List ℕ) (d : Data) → label_of t ≡ Some x → meaning t a d → d ≡ text x
text_is (of (const (text y)) nil) a x d e h = let q : y ≡ x = cc in h ∙ ap text q
text_is t a x d e h = cc

named : (x : List ℕ) (d : Data) (gs : List ArgumentValues) → d ≡ text x → AreColumnNames gs → AreColumnNames (once d ∷ gs)
named x d gs e h = let P : Data → Type 0 = λ z. AreColumnNames (once z ∷ gs) in subst P (sym e) h

there_names : (a : Around) (rows : List Row) (ts : Terms) (us : List Shape) (cs : ColumnList) (ns : List (List ℕ)) (gs : List ArgumentValues) → SoMany ts us → names_there (typed_pairs ts us) cs ≡ Ok ns →
    AreOnce gs → AreOf (meanings ts) a rows gs → AreColumnNames gs
there_names a rows nil [] cs ns [] m e f k = tt
there_names a rows (cons t ts) (u ∷ us) cs ns (once d ∷ gs) m e f k =
    let x = label_ok (label_of t) _ ns e in
    let y = then_ok (if_there (field_in x.0 cs)) _ ns x.2 in
    let z = then_ok (names_there (typed_pairs ts us) cs) _ ns y.2 in
    named x.0 d gs (text_is t a x.0 d x.1 k.0) (there_names a rows ts us cs z.0 gs m z.1 f k.1)
there_names a rows (cons t ts) (u ∷ us) cs ns (each ds ∷ gs) m e f k = absurd f
there_names a rows nil [] cs ns (g ∷ gs) m e f k = absurd k
there_names a rows (cons t ts) (u ∷ us) cs ns [] m e f k = absurd k
there_names a rows nil (u ∷ us) cs ns gs m e f k = absurd m
there_names a rows (cons t ts) [] cs ns gs m e f k = absurd m

-- ---- rows that lack a column

-- ---- new names of columns

pairs_named : (x y : List ℕ) (d e : Data) (gs : List ArgumentValues) (rows : List Row) → d ≡ text x → e ≡ text y → AreNamePairs gs × CanRename ((x, y) ∷ pairs_in gs) rows →
    AreNamePairs (once d ∷ once e ∷ gs) × CanRename (pairs_in (once d ∷ once e ∷ gs)) rows
pairs_named x y d e gs rows p q h =
    let P : Data → Type 0 = λ z. AreNamePairs (once z ∷ once e ∷ gs) × CanRename (pairs_in (once z ∷ once e ∷ gs)) rows in
    let Q : Data → Type 0 = λ z. AreNamePairs (once (text x) ∷ once z ∷ gs) × CanRename (pairs_in (once (text x) ∷ once z ∷ gs)) rows in
    subst P (sym p) (subst Q (sym q) h)

renamed_names : (a : Around) (given : List Row) (ts : Terms) (us : List Shape) (cs es : ColumnList) (rows : List Row) (gs : List ArgumentValues) → SoMany ts us → ArePaired us → Rises cs →
    columns.columns_renamed (typed_pairs ts us) cs ≡ Ok es → RowsFit cs rows → AreOnce gs → AreOf (meanings ts) a given gs → AreNamePairs gs × CanRename (pairs_in gs) rows
renamed_names a given nil [] cs es rows [] m w rising e h f k = (tt, tt)
renamed_names a given (cons t (cons t' ts)) (u ∷ u' ∷ us) cs es rows (once d ∷ once d' ∷ gs) m w rising e h f k =
    let x = label_ok (label_of t) _ es e in
    let x' = label_ok (label_of t') _ es x.2 in
    let y = then_ok (with_renamed x.0 x'.0 cs) _ es x'.2 in
    let z = then_ok (if_there (field_in x.0 cs)) _ y.0 y.1 in
    let v = free_ok (field_in x'.0 cs) _ y.0 z.2 in
    let step : List ℕ × List ℕ → ColumnList → Result ColumnList ℕ = λ q ds. with_renamed q.0 q.1 ds in
    let go : ColumnList → Result ColumnList ℕ = λ ds. in_turn step [] ds in
    let free = all_lack x'.0 rows cs h v.0 in
    let made = all_renamed_fit ((x.0, x'.0) ∷ []) rows cs y.0 rising (free, tt) (table_fits cs rows h) (ap (λ (r : Result ColumnList ℕ). and_then r go) y.1) in
    let more = renamed_names a given ts us y.0 es (map (field_renamed x.0 x'.0) rows) gs m w
    (subst Rises v.1 (rises_put x'.0 z.0 (lists.columns_without x.0 cs) (rises_without x.0 cs rising))) y.2
    (fit_table y.0 (map (field_renamed x.0 x'.0) rows) made) f k.1.1 in
    pairs_named x.0 x'.0 d d' gs rows (text_is t a x.0 d x.1 k.0) (text_is t' a x'.0 d' x'.1 k.1.0) (more.0, (free, more.1))
renamed_names a given nil [] cs es rows (g ∷ gs) m w rising e h f k = absurd k
renamed_names a given nil (u ∷ us) cs es rows gs m w rising e h f k = absurd m
renamed_names a given (cons t ts) [] cs es rows gs m w rising e h f k = absurd m
renamed_names a given (cons t ts) (u ∷ []) cs es rows gs m w rising e h f k = absurd w
renamed_names a given (cons t nil) (u ∷ u' ∷ us) cs es rows gs m w rising e h f k = absurd m
renamed_names a given (cons t (cons t' ts)) (u ∷ u' ∷ us) cs es rows [] m w rising e h f k = absurd k
renamed_names a given (cons t (cons t' ts)) (u ∷ u' ∷ us) cs es rows (each ds ∷ gs) m w rising e h f k = absurd f
renamed_names a given (cons t (cons t' ts)) (u ∷ u' ∷ us) cs es rows (once d ∷ []) m w rising e h f k = absurd k.1
renamed_names a given (cons t (cons t' ts)) (u ∷ u' ∷ us) cs es rows (once d ∷ each ds ∷ gs) m w rising e h f k = absurd f

-- ---- new columns

wide_many : (n : List ℕ) (rows : List Row) (ds : List Data) → length ds ≡ length rows → length (rows_with_column n rows ds) ≡ length rows
wide_many n [] [] e = refl
wide_many n (r ∷ rows) (d ∷ ds) e = let q : length ds ≡ length rows = omega arith in ap suc (wide_many n rows ds q)
wide_many n [] (d ∷ ds) e = absurd cc
wide_many n (r ∷ rows) [] e = absurd cc

column_named : (x : List ℕ) (d : Data) (ds : List Data) (gs : List ArgumentValues) (rows : List Row) → d ≡ text x → AreNewColumns gs × CanAddColumns ((x, ds) ∷ new_columns gs) rows →
    AreNewColumns (once d ∷ each ds ∷ gs) × CanAddColumns (new_columns (once d ∷ each ds ∷ gs)) rows
column_named x d ds gs rows p h =
    let P : Data → Type 0 = λ z. AreNewColumns (once z ∷ each ds ∷ gs) × CanAddColumns (new_columns (once z ∷ each ds ∷ gs)) rows in
    subst P (sym p) h

abbrev Adding : Top
Adding = over fun.AddColumns

formula_there : (n i : ℕ) → i % 2 ≡ 1 → standing_at Adding n (suc i) ≡ inside
formula_there n i e = ap standing_of (formula_behind (row_of fun.AddColumns) i e)

name_there : (n i : ℕ) → i % 2 ≡ 1 → standing_at Adding n i ≡ plain
name_there n i e = ap standing_of (name_at (row_of fun.AddColumns) i e refl)

one_more : (xs : List Shape) (x : Shape) → length (xs ++ x ∷ []) ≡ suc (length xs)
one_more [] x = refl
one_more (y ∷ xs) x = ap suc (one_more xs x)

two_more : (xs : List Shape) (x y : Shape) → length xs % 2 ≡ 1 → length ((xs ++ x ∷ []) ++ y ∷ []) % 2 ≡ 1
two_more xs x y p =
    let l : length ((xs ++ x ∷ []) ++ y ∷ []) ≡ suc (suc (length xs)) = one_more (xs ++ x ∷ []) y ∙ ap suc (one_more xs x) in
    omega (arith, l, p)

odd_again : (i : ℕ) → i % 2 ≡ 1 → suc (suc i) % 2 ≡ 1
odd_again i e = omega (arith, e)

new_names : (g : Giving) (c : Context) (rows : List Data) (item : Option Data) (caught : Option Fault) → Suits g c rows item →
    (bs : ColumnList) (given : List Row) → RowsFit bs given → (n m i : ℕ) (more : List Shape) (ts : Terms) (us : List Shape) (cs es : ColumnList) (trs : List Row) (gs : List ArgumentValues) →
    ArePaired us → length (tables bs ∷ more) % 2 ≡ 1 → i % 2 ≡ 1 → AllHold g c Adding n (tables bs ∷ more) (meanings ts) us → added (typed_pairs ts us) cs ≡ Ok es →
    RowsFit cs trs → length trs ≡ length given → AreGiven Adding m i (meanings ts) (stands g rows item caught) given gs → AreNewColumns gs × CanAddColumns (new_columns gs) trs
new_names g c rows item caught s bs given b n m i more nil [] cs es trs [] w o p k e h l q = (tt, tt)
new_names g c rows item caught s bs given b n m i more (cons t (cons f ts)) (u ∷ v ∷ us) cs es trs (once d ∷ each ds ∷ gs) w o p k e h l q =
    let a = stands g rows item caught in
    let x = label_ok (label_of t) _ es e in
    let y = then_ok (with_new x.0 v cs) _ es x.2 in
    let z = free_ok (field_in x.0 cs) (put_column x.0 v cs) y.0 y.1 in
    let place : standing_at Adding n (length ((tables bs ∷ more) ++ u ∷ [])) ≡ inside =
    ap (standing_at Adding n) (one_more (tables bs ∷ more) u) ∙ formula_there n (length (tables bs ∷ more)) o in
    let H : PartScope → Type 0 = λ st. Holds g (context_for st c ((tables bs ∷ more) ++ u ∷ [])) (meaning f) v in
    let values = is_of (standing_at Adding m (suc i)) (meaning f) a given (each ds) q.1.0 in
    let fit = each_fits g c rows item caught s bs (meaning f) v (subst H place k.1.0) given ds b values in
    let many : length ds ≡ length trs = each_many (meaning f) a given ds values ∙ sym l in
    let R : ColumnList → Type 0 = λ j. RowsFit j (rows_with_column x.0 trs ds) in
    let rest = new_names g c rows item caught s bs given b n m (suc (suc i)) ((more ++ u ∷ []) ++ v ∷ []) ts us y.0 es (rows_with_column x.0 trs ds) gs
    w (two_more (tables bs ∷ more) u v o) (odd_again i p) k.1.1 y.2
    (subst R z.1 (with_column_fit x.0 v cs z.0 trs ds h fit)) (wide_many x.0 trs ds many ∙ l) q.1.1 in
    column_named x.0 d ds gs trs (text_is t a x.0 d x.1 (is_of (standing_at Adding m i) (meaning t) a given (once d) q.0))
    (rest.0, (all_lack x.0 trs cs h z.0, many, rest.1))
new_names g c rows item caught s bs given b n m i more nil [] cs es trs (x ∷ gs) w o p k e h l q = absurd q
new_names g c rows item caught s bs given b n m i more nil (u ∷ us) cs es trs gs w o p k e h l q = absurd k
new_names g c rows item caught s bs given b n m i more (cons t ts) [] cs es trs gs w o p k e h l q = absurd k
new_names g c rows item caught s bs given b n m i more (cons t ts) (u ∷ []) cs es trs gs w o p k e h l q = absurd w
new_names g c rows item caught s bs given b n m i more (cons t nil) (u ∷ v ∷ us) cs es trs gs w o p k e h l q = absurd k.1
new_names g c rows item caught s bs given b n m i more (cons t (cons f ts)) (u ∷ v ∷ us) cs es trs [] w o p k e h l q = absurd q
new_names g c rows item caught s bs given b n m i more (cons t (cons f ts)) (u ∷ v ∷ us) cs es trs (once d ∷ []) w o p k e h l q = absurd q.1
new_names g c rows item caught s bs given b n m i more (cons t (cons f ts)) (u ∷ v ∷ us) cs es trs (each ds ∷ gs) w o p k e h l q =
    let Q : PartScope → Type 0 = λ st. PartGives st (meaning t) (stands g rows item caught) given (each ds) in
    absurd (subst Q (name_there m i p) q.0)
new_names g c rows item caught s bs given b n m i more (cons t (cons f ts)) (u ∷ v ∷ us) cs es trs (once d ∷ once x ∷ gs) w o p k e h l q =
    let Q : PartScope → Type 0 = λ st. PartGives st (meaning f) (stands g rows item caught) given (once x) in
    absurd (subst Q (formula_there m i p) q.1.0)

-- ---- keys

no_record : (u : Shape) (d : FieldList) → is_scalar u ≡ true → fits_in (rec d) u ≡ true → ⊥
no_record (records cs) d s f = absurd cc
no_record u d s f = absurd cc

no_table : (u : Shape) (d : RowList) → is_scalar u ≡ true → fits_in (tab d) u ≡ true → ⊥
no_table (tables cs) d s f = absurd cc
no_table u d s f = absurd cc

scalar_value : (u : Shape) (d : Data) → is_scalar u ≡ true → fits_in d u ≡ true → is_fault d ≡ false → IsScalar d
scalar_value u blank s f e = tt
scalar_value u (number z) s f e = tt
scalar_value u (text x) s f e = tt
scalar_value u (boolean b) s f e = tt
scalar_value u (date z) s f e = tt
scalar_value u (fault k m) s f e = absurd cc
scalar_value u (rec fs) s f e = absurd (no_record u fs s f)
scalar_value u (tab rs) s f e = absurd (no_table u rs s f)

number_against : (u : Shape) (z : ℤ) (b : Data) → fits_in (number z) u ≡ true → fits_in b u ≡ true → is_fault b ≡ false → AreOfOneType (number z) b
number_against numbers z (number w) f h k = tt
number_against u z blank f h k = tt
number_against u z b f h k = absurd cc

text_against : (u : Shape) (x : List ℕ) (b : Data) → fits_in (text x) u ≡ true → fits_in b u ≡ true → is_fault b ≡ false → AreOfOneType (text x) b
text_against texts x (text y) f h k = tt
text_against u x blank f h k = tt
text_against u x b f h k = absurd cc

boolean_against : (u : Shape) (x : Bool) (b : Data) → fits_in (boolean x) u ≡ true → fits_in b u ≡ true → is_fault b ≡ false → AreOfOneType (boolean x) b
boolean_against booleans x (boolean y) f h k = tt
boolean_against u x blank f h k = tt
boolean_against u x b f h k = absurd cc

date_against : (u : Shape) (z : ℤ) (b : Data) → fits_in (date z) u ≡ true → fits_in b u ≡ true → is_fault b ≡ false → AreOfOneType (date z) b
date_against dates z (date w) f h k = tt
date_against u z blank f h k = tt
date_against u z b f h k = absurd cc

-- a value of a type is of one type with each other one
against : (u : Shape) (a b : Data) → is_scalar u ≡ true → fits_in a u ≡ true → fits_in b u ≡ true → is_fault a ≡ false → is_fault b ≡ false → AreOfOneType a b
against u blank b s f h e k = scalar_value u b s h k
against u (number z) b s f h e k = number_against u z b f h k
against u (text x) b s f h e k = text_against u x b f h k
against u (boolean x) b s f h e k = boolean_against u x b f h k
against u (date z) b s f h e k = date_against u z b f h k
against u (fault j m) b s f h e k = absurd cc
against u (rec fs) b s f h e k = absurd (no_record u fs s f)
against u (tab rs) b s f h e k = absurd (no_table u rs s f)

no_fault : (d : Data) (ds : List Data) → find is_fault (d ∷ ds) ≡ None → (is_fault d ≡ false) × (find is_fault ds ≡ None)
no_fault (fault j m) ds e = absurd cc
no_fault blank ds e = (refl, e)
no_fault (number z) ds e = (refl, e)
no_fault (text x) ds e = (refl, e)
no_fault (boolean b) ds e = (refl, e)
no_fault (date z) ds e = (refl, e)
no_fault (rec fs) ds e = (refl, e)
no_fault (tab rs) ds e = (refl, e)

against_all : (u : Shape) (a : Data) → is_scalar u ≡ true → fits_in a u ≡ true → is_fault a ≡ false → (ds : List Data) → AllFit u ds → find is_fault ds ≡ None → All (AreOfOneType a) ds
against_all u a s f e [] h k = All-nil (AreOfOneType a)
against_all u a s f e (d ∷ ds) h k =
    let n = no_fault d ds k in
    All-cons (AreOfOneType a) d ds (against u a d s f h.0 e n.0) (against_all u a s f e ds h.1 n.1)

each_against : (u : Shape) → is_scalar u ≡ true → (all : List Data) → AllFit u all → find is_fault all ≡ None → (ds : List Data) → AllFit u ds → find is_fault ds ≡ None → All (λ a. All (AreOfOneType a) all) ds
each_against u s all p q [] h k = All-nil (λ a. All (AreOfOneType a) all)
each_against u s all p q (d ∷ ds) h k =
    let n = no_fault d ds k in
    All-cons (λ a. All (AreOfOneType a) all) d ds (against_all u d s h.0 n.0 all p q) (each_against u s all p q ds h.1 n.1)

keys_fit : (u : Shape) → is_scalar u ≡ true → (ds : List Data) → AllFit u ds → AreKeysOrErrors ds
keys_fit u s ds h k = each_against u s ds h k ds h k

keys_ready : (g : Giving) (c : Context) (rows : List Data) (item : Option Data) (caught : Option Fault) → Suits g c rows item → (cs : ColumnList) (trs : List Row) → RowsFit cs trs →
    (n m : ℕ) (ts : Terms) (us : List Shape) (common : Shape) (gs : List ArgumentValues) → AllHold g c (over fun.Distinct) n (tables cs ∷ []) (meanings ts) us → AllStand (row_of fun.Distinct) (suc (length us)) 1 (tables cs) common us →
    AreGiven (over fun.Distinct) m 1 (meanings ts) (stands g rows item caught) trs gs → AreKeysOrErrors (values_in gs)
keys_ready g c rows item caught s cs trs rf n m (cons t ts) (u ∷ us) common (each ds ∷ gs) k w q =
    keys_fit u w.0 ds (each_fits g c rows item caught s cs (meaning t) u k.0 trs ds rf q.0)
keys_ready g c rows item caught s cs trs rf n m ts us common [] k w q = keys_fit blanks refl [] tt
keys_ready g c rows item caught s cs trs rf n m ts us common (once d ∷ gs) k w q = keys_fit blanks refl [] tt
keys_ready g c rows item caught s cs trs rf n m nil us common (each ds ∷ gs) k w q = absurd q
keys_ready g c rows item caught s cs trs rf n m (cons t ts) [] common (each ds ∷ gs) k w q = absurd k

-- ---- groups

-- a name before other names
names_behind : (x : List ℕ) (g : ArgumentValues) (gs : List ArgumentValues) → AreColumnNames (g ∷ gs) →
    (before_last (x ∷ column_names_in (g ∷ gs)) ≡ x ∷ before_last (column_names_in (g ∷ gs))) × (last_name (x ∷ column_names_in (g ∷ gs)) ≡ last_name (column_names_in (g ∷ gs)))
names_behind x (once (text n)) gs h = (refl, refl)
names_behind x (once blank) gs h = absurd h
names_behind x (once (number z)) gs h = absurd h
names_behind x (once (boolean b)) gs h = absurd h
names_behind x (once (date z)) gs h = absurd h
names_behind x (once (rec fs)) gs h = absurd h
names_behind x (once (tab rs)) gs h = absurd h
names_behind x (once (fault j m)) gs h = absurd h
names_behind x (each ds) gs h = absurd h

-- the names of keys, and behind them the name of the groups
group_names : (a : Around) (rows : List Row) (ts : Terms) (us : List Shape) (cs : ColumnList) (ns : List (List ℕ)) (x : List ℕ) (gs : List ArgumentValues) → SoMany ts us →
    last_label (typed_pairs ts us) ≡ Some x → names_there (before_last (typed_pairs ts us)) cs ≡ Ok ns → AreOnce gs → AreOf (meanings ts) a rows gs →
    AreColumnNames gs × ((before_last (column_names_in gs) ≡ ns) × (last_name (column_names_in gs) ≡ x))
group_names a rows (cons t nil) (u ∷ []) cs ns x (once d ∷ []) m l e f k =
    let P : Data → Type 0 = λ z. AreColumnNames (once z ∷ []) × ((before_last (column_names_in (once z ∷ [])) ≡ ns) × (last_name (column_names_in (once z ∷ [])) ≡ x)) in
    subst P (sym (text_is t a x d l k.0)) (tt, (ok_is [] ns e, refl))
group_names a rows (cons t (cons t' ts)) (u ∷ u' ∷ us) cs ns x (once d ∷ g ∷ gs) m l e f k =
    let y = label_ok (label_of t) _ ns e in
    let w = then_ok (if_there (field_in y.0 cs)) _ ns y.2 in
    let z = then_ok (names_there (before_last (typed_pairs (cons t' ts) (u' ∷ us))) cs) _ ns w.2 in
    let rest = group_names a rows (cons t' ts) (u' ∷ us) cs z.0 x (g ∷ gs) m l z.1 f k.1 in
    let b = names_behind y.0 g gs rest.0 in
    let P : Data → Type 0 = λ v. AreColumnNames (once v ∷ g ∷ gs) × ((before_last (column_names_in (once v ∷ g ∷ gs)) ≡ ns) × (last_name (column_names_in (once v ∷ g ∷ gs)) ≡ x)) in
    subst P (sym (text_is t a y.0 d y.1 k.0)) (rest.0, (b.0 ∙ ap (λ q. y.0 ∷ q) rest.1.0 ∙ ok_is (y.0 ∷ z.0) ns z.2, b.1 ∙ rest.1.1))
group_names a rows nil [] cs ns x gs m l e f k = absurd cc
group_names a rows (cons t nil) (u ∷ []) cs ns x [] m l e f k = absurd k
group_names a rows (cons t nil) (u ∷ []) cs ns x (once d ∷ g ∷ gs) m l e f k = absurd k.1
group_names a rows (cons t nil) (u ∷ []) cs ns x (each ds ∷ gs) m l e f k = absurd f
group_names a rows (cons t (cons t' ts)) (u ∷ u' ∷ us) cs ns x [] m l e f k = absurd k
group_names a rows (cons t (cons t' ts)) (u ∷ u' ∷ us) cs ns x (once d ∷ []) m l e f k = absurd k.1
group_names a rows (cons t (cons t' ts)) (u ∷ u' ∷ us) cs ns x (each ds ∷ gs) m l e f k = absurd f
group_names a rows nil (u ∷ us) cs ns x gs m l e f k = absurd m
group_names a rows (cons t ts) [] cs ns x gs m l e f k = absurd m
group_names a rows (cons t nil) (u ∷ u' ∷ us) cs ns x gs m l e f k = absurd m
group_names a rows (cons t (cons t' ts)) (u ∷ []) cs ns x gs m l e f k = absurd m

values_fit : (n : List ℕ) (t : Shape) (cs : ColumnList) (trs : List Row) → RowsFit cs trs → field_in n cs ≡ Some t → AllFit t (map (value_of n) trs)
values_fit n t cs [] h e = tt
values_fit n t cs (r ∷ trs) h e = (value_fits n r cs t h.0 e, values_fit n t cs trs h.1 e)

all_keys : (cs : ColumnList) (trs : List Row) → RowsFit cs trs → (xs : List (Term × Shape)) (ns : List (List ℕ)) → names_there xs cs ≡ Ok ns → are_keys xs cs ≡ true →
    All (λ n. AreKeysOrErrors (map (value_of n) trs)) ns
all_keys cs trs h [] ns e k =
    let P : List ℕ → Type 0 = λ n. AreKeysOrErrors (map (value_of n) trs) in
    subst (All P) (ok_is [] ns e) (All-nil P)
all_keys cs trs h (x ∷ xs) ns e k =
    let P : List ℕ → Type 0 = λ n. AreKeysOrErrors (map (value_of n) trs) in
    let y = label_ok (label_of x.0) _ ns e in
    let w = then_ok (if_there (field_in y.0 cs)) _ ns y.2 in
    let z = then_ok (names_there xs cs) _ ns w.2 in
    let found = there_ok (field_in y.0 cs) w.0 w.1 in
    let K : Option (List ℕ) → Type 0 = λ o. is_key o cs ≡ true in
    let M : Option Shape → Type 0 = λ o. may_be_key o ≡ true in
    let scalar : is_scalar w.0 ≡ true = subst M found (subst K y.1 (and_first (is_key (label_of x.0) cs) (are_keys xs cs) k)) in
    subst (All P) (ok_is (y.0 ∷ z.0) ns z.2)
    (All-cons P y.0 z.0 (keys_fit w.0 scalar (map (value_of y.0) trs) (values_fit y.0 w.0 cs trs h found)) (all_keys cs trs h xs z.0 z.1 (and_second (is_key (label_of x.0) cs) (are_keys xs cs) k)))

can_group : (a : Around) (given : List Row) (ts : Terms) (us : List Shape) (cs es : ColumnList) (trs : List Row) (gs : List ArgumentValues) → SoMany ts us → RowsFit cs trs → grouped (typed_pairs ts us) cs ≡ Ok es →
    AreOnce gs → AreOf (meanings ts) a given gs → AreColumnNames gs × CanGroup (before_last (column_names_in gs)) (last_name (column_names_in gs)) trs
can_group a given ts us cs es trs gs m h e f k =
    let g = label_ok (last_label (typed_pairs ts us)) _ es e in
    let y = then_ok (if_free (field_in g.0 cs) cs) (λ ds. grouped_by g.0 (before_last (typed_pairs ts us)) ds) es g.2 in
    let z = free_ok (field_in g.0 cs) cs y.0 y.1 in
    by_test (are_keys (before_last (typed_pairs ts us)) y.0) g.0 y.0 refl g.1 (subst (λ ds. field_in g.0 ds ≡ None) z.1 z.0) (subst (λ ds. RowsFit ds trs) z.1 h) y.2
  where
    by_test : (b : Bool) (g : List ℕ) (ds : ColumnList) → are_keys (before_last (typed_pairs ts us)) ds ≡ b → last_label (typed_pairs ts us) ≡ Some g → field_in g ds ≡ None → RowsFit ds trs →
        (if b then and_then (names_there (before_last (typed_pairs ts us)) ds) (λ ms. Ok (with_group g ms ds)) else Err 6) ≡ Ok es →
        AreColumnNames gs × CanGroup (before_last (column_names_in gs)) (last_name (column_names_in gs)) trs
    by_test true g ds c l free fit q =
        let n = then_ok (names_there (before_last (typed_pairs ts us)) ds) (λ ms. Ok (with_group g ms ds)) es q in
        let s = group_names a given ts us ds n.0 g gs m l n.1 f k in
        let can : CanGroup n.0 g trs = record { new = all_lack g trs ds fit free; keys = all_keys ds trs fit (before_last (typed_pairs ts us)) n.0 n.1 c } in
        let P : List (List ℕ) → Type 0 = λ ms. CanGroup ms (last_name (column_names_in gs)) trs in
        let Q : List ℕ → Type 0 = λ x. CanGroup n.0 x trs in
        (s.0, subst P (sym s.1.0) (subst Q (sym s.1.1) can))
    by_test false g ds c l free fit q = absurd cc

-- ---- rows out of their groups

-- a row lacks what columns that aren't among its own name
apart : (s r : Row) (ds cs : ColumnList) → first_shared ds cs ≡ None → RowFits ds s → RowFits cs r → All (λ (x : List ℕ × Data). item_named x.0 r ≡ None) s
apart [] r ds cs e h f = All-nil (λ (x : List ℕ × Data). item_named x.0 r ≡ None)
apart (x ∷ s) r no_columns cs e h f = absurd cc
apart (x ∷ s) r (column n t ds) cs e h f = by (λ q. apart s r ds cs q (rest_fits x.0 n x.1 t (field_list s) ds h) f) (field_in n cs) refl e
  where
    by : (first_shared ds cs ≡ None → All (λ (y : List ℕ × Data). item_named y.0 r ≡ None) s) → (o : Option Shape) → field_in n cs ≡ o → (if is_some o then Some n else first_shared ds cs) ≡ None →
        All (λ (y : List ℕ × Data). item_named y.0 r ≡ None) (x ∷ s)
    by more (Some w) i q = absurd cc
    by more None i q =
        let P : List ℕ → Type 0 = λ z. item_named z r ≡ None in
        All-cons (λ (y : List ℕ × Data). item_named y.0 r ≡ None) x s (subst P (sym (name_fits x.0 n x.1 t (field_list s) ds h)) (lacks n r cs f i)) (more q)

each_apart : (g : List ℕ) (r : Row) (ss : List Row) (ds cs : ColumnList) → first_shared ds cs ≡ None → RowsFit ds ss → RowFits cs (row_without g r) → All (IsApart (row_without g r)) ss
each_apart g r [] ds cs e h f = All-nil (IsApart (row_without g r))
each_apart g r (s ∷ ss) ds cs e h f = All-cons (IsApart (row_without g r)) s ss (apart s (row_without g r) ds cs e h.0 f) (each_apart g r ss ds cs e h.1 f)

all_apart : (g : List ℕ) (ds cs : ColumnList) (trs : List Row) → Rises cs → field_in g cs ≡ Some (tables ds) → first_shared ds (lists.columns_without g cs) ≡ None → RowsFit cs trs → CanUngroup g trs
all_apart g ds cs [] rising i e h = All-nil (λ r. All (IsApart (row_without g r)) (rows_in (value_of g r)))
all_apart g ds cs (r ∷ trs) rising i e h =
    let fit = value_fits g r cs (tables ds) h.0 i in
    All-cons (λ z. All (IsApart (row_without g z)) (rows_in (value_of g z))) r trs
    (each_apart g r (rows_in (value_of g r)) ds (lists.columns_without g cs) e (rows_in_fit (value_of g r) ds fit) (without_fits g cs r rising h.0))
    (all_apart g ds cs trs rising i e h.1)

can_ungroup : (a : Around) (given : List Row) (ts : Terms) (us : List Shape) (cs es : ColumnList) (trs : List Row) (gs : List ArgumentValues) → SoMany ts us → Rises cs → RowsFit cs trs →
    ungrouped (typed_pairs ts us) cs ≡ Ok es → AreOnce gs → AreOf (meanings ts) a given gs → AreColumnNames gs × CanUngroup (last_name (column_names_in gs)) trs
can_ungroup a given (cons t nil) (u ∷ []) cs es trs (once d ∷ []) m rising h e f k =
    let g = label_ok (label_of t) _ es e in
    let w = then_ok (if_there (field_in g.0 cs)) _ es g.2 in
    let P : Data → Type 0 = λ z. AreColumnNames (once z ∷ []) × CanUngroup (last_name (column_names_in (once z ∷ []))) trs in
    subst P (sym (text_is t a g.0 d g.1 k.0)) (tt, by_type g.0 w.0 (there_ok (field_in g.0 cs) w.0 w.1) w.2)
  where
    by_shared : (g : List ℕ) (ds : ColumnList) (o : Option (List ℕ)) → field_in g cs ≡ Some (tables ds) → first_shared ds (lists.columns_without g cs) ≡ o →
        (if is_some o then Err rules.name_twice else Ok (joined_columns ds (lists.columns_without g cs))) ≡ Ok es → CanUngroup g trs
    by_shared g ds (Some x) i j q = absurd cc
    by_shared g ds None i j q = all_apart g ds cs trs rising i j h

    by_type : (g : List ℕ) (s : Shape) → field_in g cs ≡ Some s → out_of s (lists.columns_without g cs) ≡ Ok es → CanUngroup g trs
    by_type g (tables ds) i q = by_shared g ds (first_shared ds (lists.columns_without g cs)) i refl q
    by_type g s i q = absurd cc
can_ungroup a given (cons t nil) (u ∷ []) cs es trs [] m rising h e f k = absurd k
can_ungroup a given (cons t nil) (u ∷ []) cs es trs (once d ∷ g ∷ gs) m rising h e f k = absurd k.1
can_ungroup a given (cons t nil) (u ∷ []) cs es trs (each ds ∷ gs) m rising h e f k = absurd f
can_ungroup a given nil [] cs es trs gs m rising h e f k = absurd cc
can_ungroup a given nil (u ∷ us) cs es trs gs m rising h e f k = absurd m
can_ungroup a given (cons t ts) [] cs es trs gs m rising h e f k = absurd m
can_ungroup a given (cons t nil) (u ∷ u' ∷ us) cs es trs gs m rising h e f k = absurd m
can_ungroup a given (cons t (cons t' ts)) (u ∷ []) cs es trs gs m rising h e f k = absurd m
can_ungroup a given (cons t (cons t' ts)) (u ∷ u' ∷ us) cs es trs gs m rising h e f k = absurd cc

-- ---- the table

abbrev IsInner : Takes → Type 0
IsInner k = standing_of k ≡ inside

abbrev IsOuter : Takes → Type 0
IsOuter k = standing_of k ≡ plain

hold_many : (g : Giving) (c : Context) (h : Top) (n : ℕ) (done : List Shape) (ts : Terms) (us : List Shape) → AllHold g c h n done (meanings ts) us → SoMany ts us
hold_many g c h n done nil [] k = tt
hold_many g c h n done (cons t ts) (u ∷ us) k = hold_many g c h n (done ++ u ∷ []) ts us k.1
hold_many g c h n done nil (u ∷ us) k = absurd k
hold_many g c h n done (cons t ts) [] k = absurd k

-- one formula behind the table
one_ready : (f : Fun) (m : ℕ) → ((i : ℕ) → standing_at (over f) m (suc i) ≡ inside) → (ts : Terms) (us : List Shape) (a : Around) (trs : List Row) (gs : List ArgumentValues) → SoMany ts us →
    2 ≤ suc (length us) → suc (length us) ≤ 2 → AreGiven (over f) m 1 (meanings ts) a trs gs → IsOneFormula gs × (length (values_in gs) ≡ length trs)
one_ready f m p ts us a trs gs so l j q =
    let many = so_many (over f) m 1 ts us a trs gs so q in
    one_formula (length trs) gs (formulas (over f) m p 0 (meanings ts) a trs gs q) (omega (arith, many, l)) (omega (arith, many, j))

pub can_make : (g : Giving) (c : Context) (rows : List Data) (item : Option Data) (caught : Option Fault) → Suits g c rows item → (cs : ColumnList) → Rises cs → (trs : List Row) → RowsFit cs trs →
    (f : Fun) (n m : ℕ) (t0 : Term) (ts : Terms) (us : List Shape) (common t : Shape) (gs : List ArgumentValues) →
    AllHold g c (over f) n (tables cs ∷ []) (meanings ts) us → takes_count (row_of f) (suc (length us)) ≡ true → AllStand (row_of f) (suc (length us)) 1 (tables cs) common us →
    answered_type (row_of f).answer common (typed_pairs (cons t0 ts) (tables cs ∷ us)) ≡ Ok t → head_of f ≡ over f →
    AreGiven (over f) m 1 (meanings ts) (stands g rows item caught) trs gs → CanMake f trs gs
can_make g c rows item caught s cs rising trs rf fun.Filter n m t0 ts us common t gs k l w e h q =
    formulas (over fun.Filter) m (λ i. inner_behind IsInner (row_of fun.Filter) i refl refl refl) 0 (meanings ts) (stands g rows item caught) trs gs q
can_make g c rows item caught s cs rising trs rf fun.LookUp n m t0 ts us common t gs k l w e h q =
    let so = hold_many g c (over fun.LookUp) n (tables cs ∷ []) ts us k in
    let many = so_many (over fun.LookUp) m 1 ts us (stands g rows item caught) trs gs so q in
    let least : 2 ≤ suc (length us) = at_least (row_of fun.LookUp) (suc (length us)) l in
    let most : suc (length us) ≤ 3 = at_most (row_of fun.LookUp) (suc (length us)) refl l in
    search_of (length trs) gs
    (formulas (over fun.LookUp) m (λ i. inner_behind IsInner (row_of fun.LookUp) i refl refl refl) 0 (meanings ts) (stands g rows item caught) trs gs q)
    (omega (arith, many, least)) (omega (arith, many, most))
can_make g c rows item caught s cs rising trs rf (fun.Sort o) n m t0 ts us common t gs k l w e h q =
    one_ready (fun.Sort o) m (λ i. inner_behind IsInner (row_of (fun.Sort o)) i refl refl refl) ts us (stands g rows item caught) trs gs (hold_many g c (over (fun.Sort o)) n (tables cs ∷ []) ts us k)
    (at_least (row_of (fun.Sort o)) (suc (length us)) l) (at_most (row_of (fun.Sort o)) (suc (length us)) refl l) q
can_make g c rows item caught s cs rising trs rf fun.First n m t0 ts us common t gs k l w e h q = tt
can_make g c rows item caught s cs rising trs rf fun.Last n m t0 ts us common t gs k l w e h q = tt
can_make g c rows item caught s cs rising trs rf fun.FirstN n m t0 ts us common t gs k l w e h q =
    let so = hold_many g c (over fun.FirstN) n (tables cs ∷ []) ts us k in
    let many = so_many (over fun.FirstN) m 1 ts us (stands g rows item caught) trs gs so q in
    let most : suc (length us) ≤ 2 = at_most (row_of fun.FirstN) (suc (length us)) refl l in
    count_of gs (singles (over fun.FirstN) m (λ i. inner_behind IsOuter (row_of fun.FirstN) i refl refl refl) 0 (meanings ts) (stands g rows item caught) trs gs q) (omega (arith, many, most))
can_make g c rows item caught s cs rising trs rf fun.LastN n m t0 ts us common t gs k l w e h q =
    let so = hold_many g c (over fun.LastN) n (tables cs ∷ []) ts us k in
    let many = so_many (over fun.LastN) m 1 ts us (stands g rows item caught) trs gs so q in
    let most : suc (length us) ≤ 2 = at_most (row_of fun.LastN) (suc (length us)) refl l in
    count_of gs (singles (over fun.LastN) m (λ i. inner_behind IsOuter (row_of fun.LastN) i refl refl refl) 0 (meanings ts) (stands g rows item caught) trs gs q) (omega (arith, many, most))
can_make g c rows item caught s cs rising trs rf fun.CountRows n m t0 ts us common t gs k l w e h q = tt
can_make g c rows item caught s cs rising trs rf fun.CountIf n m t0 ts us common t gs k l w e h q =
    formulas (over fun.CountIf) m (λ i. inner_behind IsInner (row_of fun.CountIf) i refl refl refl) 0 (meanings ts) (stands g rows item caught) trs gs q
can_make g c rows item caught s cs rising trs rf fun.IsEmpty n m t0 ts us common t gs k l w e h q = tt
can_make g c rows item caught s cs rising trs rf fun.SumRows n m t0 ts us common t gs k l w e h q =
    (one_ready fun.SumRows m (λ i. inner_behind IsInner (row_of fun.SumRows) i refl refl refl) ts us (stands g rows item caught) trs gs (hold_many g c (over fun.SumRows) n (tables cs ∷ []) ts us k)
    (at_least (row_of fun.SumRows) (suc (length us)) l) (at_most (row_of fun.SumRows) (suc (length us)) refl l) q).0
can_make g c rows item caught s cs rising trs rf fun.MinRows n m t0 ts us common t gs k l w e h q =
    (one_ready fun.MinRows m (λ i. inner_behind IsInner (row_of fun.MinRows) i refl refl refl) ts us (stands g rows item caught) trs gs (hold_many g c (over fun.MinRows) n (tables cs ∷ []) ts us k)
    (at_least (row_of fun.MinRows) (suc (length us)) l) (at_most (row_of fun.MinRows) (suc (length us)) refl l) q).0
can_make g c rows item caught s cs rising trs rf fun.MaxRows n m t0 ts us common t gs k l w e h q =
    (one_ready fun.MaxRows m (λ i. inner_behind IsInner (row_of fun.MaxRows) i refl refl refl) ts us (stands g rows item caught) trs gs (hold_many g c (over fun.MaxRows) n (tables cs ∷ []) ts us k)
    (at_least (row_of fun.MaxRows) (suc (length us)) l) (at_most (row_of fun.MaxRows) (suc (length us)) refl l) q).0
can_make g c rows item caught s cs rising trs rf fun.AverageRows n m t0 ts us common t gs k l w e h q =
    (one_ready fun.AverageRows m (λ i. inner_behind IsInner (row_of fun.AverageRows) i refl refl refl) ts us (stands g rows item caught) trs gs (hold_many g c (over fun.AverageRows) n (tables cs ∷ []) ts us k)
    (at_least (row_of fun.AverageRows) (suc (length us)) l) (at_most (row_of fun.AverageRows) (suc (length us)) refl l) q).0
can_make g c rows item caught s cs rising trs rf fun.AddColumns n m t0 ts us common t gs k l w e h q =
    let r = table_ok (added (typed_pairs ts us) cs) t e in
    let odd : suc (length us) % 2 ≡ 1 = whole (row_of fun.AddColumns) (suc (length us)) refl l in
    new_names g c rows item caught s cs trs rf n m 1 [] ts us cs r.0 trs gs (paired_by us (omega (arith, odd))) refl refl k r.1 rf refl q
can_make g c rows item caught s cs rising trs rf fun.DropColumns n m t0 ts us common t gs k l w e h q =
    let r = table_ok (dropped (typed_pairs ts us) cs) t e in
    let x = then_ok (names_there (typed_pairs ts us) cs) _ r.0 r.1 in
    let single = singles (over fun.DropColumns) m (λ i. inner_behind IsOuter (row_of fun.DropColumns) i refl refl refl) 0 (meanings ts) (stands g rows item caught) trs gs q in
    there_names (stands g rows item caught) trs ts us cs x.0 gs (hold_many g c (over fun.DropColumns) n (tables cs ∷ []) ts us k) x.1 single
    (are_of (over fun.DropColumns) m 1 (meanings ts) (stands g rows item caught) trs gs q)
can_make g c rows item caught s cs rising trs rf fun.ShowColumns n m t0 ts us common t gs k l w e h q =
    let r = table_ok (columns_shown (typed_pairs ts us) cs) t e in
    let x = then_ok (names_there (typed_pairs ts us) cs) _ r.0 r.1 in
    let single = singles (over fun.ShowColumns) m (λ i. inner_behind IsOuter (row_of fun.ShowColumns) i refl refl refl) 0 (meanings ts) (stands g rows item caught) trs gs q in
    there_names (stands g rows item caught) trs ts us cs x.0 gs (hold_many g c (over fun.ShowColumns) n (tables cs ∷ []) ts us k) x.1 single
    (are_of (over fun.ShowColumns) m 1 (meanings ts) (stands g rows item caught) trs gs q)
can_make g c rows item caught s cs rising trs rf fun.RenameColumns n m t0 ts us common t gs k l w e h q =
    let r = table_ok (columns.columns_renamed (typed_pairs ts us) cs) t e in
    let odd : suc (length us) % 2 ≡ 1 = whole (row_of fun.RenameColumns) (suc (length us)) refl l in
    let single = singles (over fun.RenameColumns) m (λ i. inner_behind IsOuter (row_of fun.RenameColumns) i refl refl refl) 0 (meanings ts) (stands g rows item caught) trs gs q in
    renamed_names (stands g rows item caught) trs ts us cs r.0 trs gs (hold_many g c (over fun.RenameColumns) n (tables cs ∷ []) ts us k) (paired_by us (omega (arith, odd))) rising r.1 rf single
    (are_of (over fun.RenameColumns) m 1 (meanings ts) (stands g rows item caught) trs gs q)
can_make g c rows item caught s cs rising trs rf fun.GroupBy n m t0 ts us common t gs k l w e h q =
    let r = table_ok (grouped (typed_pairs ts us) cs) t e in
    let single = singles (over fun.GroupBy) m (λ i. inner_behind IsOuter (row_of fun.GroupBy) i refl refl refl) 0 (meanings ts) (stands g rows item caught) trs gs q in
    can_group (stands g rows item caught) trs ts us cs r.0 trs gs (hold_many g c (over fun.GroupBy) n (tables cs ∷ []) ts us k) rf r.1 single
    (are_of (over fun.GroupBy) m 1 (meanings ts) (stands g rows item caught) trs gs q)
can_make g c rows item caught s cs rising trs rf fun.Ungroup n m t0 ts us common t gs k l w e h q =
    let r = table_ok (ungrouped (typed_pairs ts us) cs) t e in
    let single = singles (over fun.Ungroup) m (λ i. inner_behind IsOuter (row_of fun.Ungroup) i refl refl refl) 0 (meanings ts) (stands g rows item caught) trs gs q in
    can_ungroup (stands g rows item caught) trs ts us cs r.0 trs gs (hold_many g c (over fun.Ungroup) n (tables cs ∷ []) ts us k) rising rf r.1 single
    (are_of (over fun.Ungroup) m 1 (meanings ts) (stands g rows item caught) trs gs q)
can_make g c rows item caught s cs rising trs rf fun.Distinct n m t0 ts us common t gs k l w e h q = (
  (one_ready fun.Distinct m (λ i. inner_behind IsInner (row_of fun.Distinct) i refl refl refl) ts us (stands g rows item caught) trs gs (hold_many g c (over fun.Distinct) n (tables cs ∷ []) ts us k)
      (at_least (row_of fun.Distinct) (suc (length us)) l) (at_most (row_of fun.Distinct) (suc (length us)) refl l) q).0,
  keys_ready g c rows item caught s cs trs rf n m ts us common gs k w q,
)
can_make g c rows item caught s cs rising trs rf fun.ForAll n m t0 ts us common t gs k l w e h q =
    (one_ready fun.ForAll m (λ i. inner_behind IsInner (row_of fun.ForAll) i refl refl refl) ts us (stands g rows item caught) trs gs (hold_many g c (over fun.ForAll) n (tables cs ∷ []) ts us k)
    (at_least (row_of fun.ForAll) (suc (length us)) l) (at_most (row_of fun.ForAll) (suc (length us)) refl l) q).0
can_make g c rows item caught s cs rising trs rf fun.Concat n m t0 ts us common t gs k l w e h q =
    let so = hold_many g c (over fun.Concat) n (tables cs ∷ []) ts us k in
    let many = so_many (over fun.Concat) m 1 ts us (stands g rows item caught) trs gs so q in
    let least : 2 ≤ suc (length us) = at_least (row_of fun.Concat) (suc (length us)) l in
    let most : suc (length us) ≤ 3 = at_most (row_of fun.Concat) (suc (length us)) refl l in
    joining_of m (meanings ts) (stands g rows item caught) trs gs q (omega (arith, many, least)) (omega (arith, many, most))
can_make g c rows item caught s cs rising trs rf f n m t0 ts us common t gs k l w e h q = absurd cc
