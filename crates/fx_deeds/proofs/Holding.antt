-- Rows of a collection that were read, and then rows that it is given.
use Rattle.std.proofs.Common.{◌≡◌, ℕ, List, [], ◌∷◌, ◌++◌, true, false, Option, None, Result, Ok, Err, refl, ap, sym, subst, ◌∙◌, inl}
use Rattle.std.specs.Prelude.{IfOk}
use Rattle.std.specs.List.{find}
use Rattle.std.proofs.lemmas.Bool.{and_from}
use Rattle.fx_base.proofs.Silences.{goes_two, goes_weaker}
use Rattle.fx_base.specs.Silence.{MayFallSilent, IsLater, SilenceCause, Marks}
use Rattle.fx_types.specs.declared.values.Value.{Value}
use Rattle.fx_types.specs.declared.values.Value.TheVariants.{Tab}
use Rattle.fx_types.specs.Types.{ColumnList, no_columns, column, records, tables}
use Rattle.fx_types.specs.Values.{Data, blank, number, text, boolean, date, rec, tab, fault, FieldList, no_fields, field, field_list}
use Rattle.fx_types.specs.ValueView.{view}
use Rattle.fx_semantics.proofs.Tables.{RowsFit, fit_table}
use Rattle.fx_semantics.specs.Around.{record_of}
use Rattle.fx_semantics.specs.Rows.{fields_of, rows_in, table_of}
use Rattle.fx_value.specs.Columns.{Row}
use Rattle.fx_tables.specs.Unions.{is_fault}
use Rattle.fx_core.specs.declared.sources.Source.TheVariants as source
use Rattle.fx_value.proofs.Widenings.{own_name}
use Rattle.fx_value.specs.Fits.{fields_fit, fits_in}
use Rattle.session_state.specs.declared.change.Change.TheVariants as change
use Rattle.fx_typing.specs.LawfulTypes.{AreLawfulColumns}
use Rattle.fx_deeds.proofs.Deeding.{by_none}
use Rattle.fx_deeds.proofs.Gathering.{HeldRows}
use Rattle.fx_deeds.proofs.Joins.{can_change}
use Rattle.fx_deeds.specs.Collections.{RemainAfterFilter, AreTakenIf, AreUpdatedIn, AreWith, IsFirstRow, IsPatchedIn, PatchesGathered, PutsFor, rows_held}
use Rattle.fx_deeds.specs.Deeds.{Makes, OrError}
use Rattle.fx_deeds.specs.Fitting.{AreOfSome, CanChange, CanChangeAll, IsOfColumns, SourceTypes}
use Rattle.fx_deeds.specs.RowValues.{blank_row, changed_row, columns_of_rows, record_row, rows_among, values_among}
use Rattle.fx_deeds.specs.State.{WorldState}

-- ---- a call of the world after the rows were read

pub held_then : {A E : Type 0} (r : Result Value E) (k l m : Marks) (x y z : Option (WorldState A)) (n : ℕ) (rows made : List Row) (taken : Data) (R : WorldState A → Data → WorldState A → Type 0) → IsLater k l → IsLater l m →
    ((s : WorldState A) (v : Data) (t : WorldState A) → rows ≡ rows_held n s → Makes (change.Gather n (Tab made)) taken s v t → R s v t) →
    MayFallSilent (SilenceCause k l) (HeldRows n rows) x y → IfOk r (λ v. MayFallSilent (SilenceCause l m) (λ s t. Makes (change.Gather n (Tab made)) taken s (view v) t) y z) → IfOk r (λ v. MayFallSilent (SilenceCause k m) (λ s t. R s (view v) t) x z)
held_then (Ok v) k l m x y z n rows made taken R a b f h j =
    goes_two (HeldRows n rows) (λ s t. Makes (change.Gather n (Tab made)) taken s (view v) t) (λ s t. R s (view v) t)
    (λ s c t p q. f s (view v) t p.1 (subst (λ w. Makes (change.Gather n (Tab made)) taken w (view v) t) p.0 q)) k l m a b x y z h j
held_then (Err e) k l m x y z n rows made taken R a b f h j = tt

pub no_fault : {A : Type 0} (d : Data) (P : Type 0) (s : WorldState A) (x : Data) (t : WorldState A) → is_fault d ≡ false → P → OrError d P s x t
no_fault blank P s x t e h = h
no_fault (number z) P s x t e h = h
no_fault (text cs) P s x t e h = h
no_fault (boolean b) P s x t e h = h
no_fault (date z) P s x t e h = h
no_fault (rec fs) P s x t e h = h
no_fault (tab rs) P s x t e h = h
no_fault (fault k cs) P s x t e h = absurd cc

-- `RemoveIf`
pub takes_if : {A : Type 0} (n : ℕ) (rows left kept : List Row) (d : Data) → is_fault d ≡ false → kept ≡ rows_in d → RemainAfterFilter rows kept left → (s : WorldState A) (x : Data) (t : WorldState A) → rows ≡ rows_held n s →
    Makes (change.Gather n (Tab left)) (boolean true) s x t → OrError d (AreTakenIf n (rows_in d) s x t) s x t
takes_if n rows left kept d e f h s x t p q = no_fault d _ s x t e (left, subst (λ w. RemainAfterFilter w (rows_in d) left) p (subst (λ w. RemainAfterFilter rows w left) f h), (Tab left, refl, q))

pub taken_if : {A E : Type 0} (r : Result Value E) (k l m : Marks) (x y z : Option (WorldState A)) (n : ℕ) (rows left kept : List Row) (d : Data) → IsLater k l → IsLater l m → is_fault d ≡ false → kept ≡ rows_in d → RemainAfterFilter rows kept left →
    MayFallSilent (SilenceCause k l) (HeldRows n rows) x y → IfOk r (λ v. MayFallSilent (SilenceCause l m) (λ s t. Makes (change.Gather n (Tab left)) (boolean true) s (view v) t) y z) →
    IfOk r (λ v. MayFallSilent (SilenceCause k m) (λ s t. OrError d (AreTakenIf n (rows_in d) s (view v) t) s (view v) t) x z)
taken_if r k l m x y z n rows left kept d a b e f h =
    held_then r k l m x y z n rows left (boolean true) (λ s v t. OrError d (AreTakenIf n (rows_in d) s v t) s v t) a b (takes_if n rows left kept d e f h)

-- a row in the place of another
pub puts_there : {A : Type 0} (n : ℕ) (r q : Row) (rows all put before after : List Row) → all ≡ rows → IsFirstRow r all before after → put ≡ before ++ q ∷ after → (s : WorldState A) (x : Data) (t : WorldState A) → rows ≡ rows_held n s →
    Makes (change.Gather n (Tab put)) (record_of q) s x t → PutsFor n r q s x t
puts_there n r q rows all put before after p f e s x t h j = inl (before, after, subst (λ zs. IsFirstRow r zs before after) (p ∙ h) f, (Tab put, ap table_of e, j))

-- `UpdateIf`
pub updates_in : {A : Type 0} (n : ℕ) (types : SourceTypes) (cs : ColumnList) (rows made kept again : List Row) (ds : List Data) → IsOfColumns types n cs → again ≡ kept → AreWith cs rows again ds made → (s : WorldState A) (x : Data) (t : WorldState A) →
    rows ≡ rows_held n s → Makes (change.Gather n (Tab made)) (boolean true) s x t → AreUpdatedIn (columns_of_rows (types (source.Gathered n))) n kept ds s x t
updates_in n types cs rows made kept again ds c e h s x t p q = (
  made,
  subst (λ w. AreWith (columns_of_rows (types (source.Gathered n))) w kept ds made) p
      (subst (λ w. AreWith w rows kept ds made) (sym (ap columns_of_rows c)) (subst (λ w. AreWith cs rows w ds made) e h)),
  (Tab made, refl, q),
)

pub updated_in : {A E : Type 0} (r : Result Value E) (k l m : Marks) (x y z : Option (WorldState A)) (n : ℕ) (types : SourceTypes) (cs : ColumnList) (rows made kept again : List Row) (ds : List Data) → IsLater k l → IsLater l m → IsOfColumns types n cs →
    again ≡ kept → AreWith cs rows again ds made → MayFallSilent (SilenceCause k l) (HeldRows n rows) x y → IfOk r (λ v. MayFallSilent (SilenceCause l m) (λ s t. Makes (change.Gather n (Tab made)) (boolean true) s (view v) t) y z) →
    IfOk r (λ v. MayFallSilent (SilenceCause k m) (λ s t. AreUpdatedIn (columns_of_rows (types (source.Gathered n))) n kept ds s (view v) t) x z)
updated_in r k l m x y z n types cs rows made kept again ds a b c e h =
    held_then r k l m x y z n rows made (boolean true) (λ s v t. AreUpdatedIn (columns_of_rows (types (source.Gathered n))) n kept ds s v t) a b (updates_in n types cs rows made kept again ds c e h)

-- `Patch`
pub patches_in : {A : Type 0} (n : ℕ) (types : SourceTypes) (cs : ColumnList) (b : Data) (ys : List Data) (start rows : List Row) (row changed : Row) → IsOfColumns types n cs → start ≡ [] → rows ≡ start ++ rows_among ys →
    find is_fault (values_among rows) ≡ None → row ≡ record_row cs b → changed ≡ changed_row cs rows row → (s : WorldState A) (x : Data) (t : WorldState A) → PatchesGathered n row changed s x t → IsPatchedIn (columns_of_rows (types (source.Gathered n))) n b ys s x t
patches_in n types cs b ys start rows row changed c begin q none f g s x t k =
    let all : rows ≡ rows_among ys = q ∙ ap (λ w. w ++ rows_among ys) begin in
    subst (λ w. IsPatchedIn w n b ys s x t) (sym (ap columns_of_rows c))
    (by_none (values_among (rows_among ys)) _ s x t (subst (λ w. find is_fault (values_among w) ≡ None) all none)
    (subst (λ w. PatchesGathered n (record_row cs b) (changed_row cs w (record_row cs b)) s x t) all
    (subst (λ w. PatchesGathered n w (changed_row cs rows w) s x t) f (subst (λ w. PatchesGathered n row w s x t) g k))))

pub patched_in : {A E : Type 0} (r : Result Value E) (lost : Type 0) (y z : Option (WorldState A)) (n : ℕ) (types : SourceTypes) (cs : ColumnList) (b : Data) (ys : List Data) (start rows : List Row) (row changed : Row) → IsOfColumns types n cs → start ≡ [] →
    rows ≡ start ++ rows_among ys → find is_fault (values_among rows) ≡ None → row ≡ record_row cs b → changed ≡ changed_row cs rows row → IfOk r (λ v. MayFallSilent lost (λ s t. PatchesGathered n row changed s (view v) t) y z) →
    IfOk r (λ v. MayFallSilent lost (λ s t. IsPatchedIn (columns_of_rows (types (source.Gathered n))) n b ys s (view v) t) y z)
patched_in (Err e) lost y z n types cs b ys start rows row changed c e1 q none f g h = tt
patched_in (Ok v) lost y z n types cs b ys start rows row changed c begin q none f g h =
    goes_weaker lost (λ s t. PatchesGathered n row changed s (view v) t) (λ s t. IsPatchedIn (columns_of_rows (types (source.Gathered n))) n b ys s (view v) t)
    (λ s t k. patches_in n types cs b ys start rows row changed c begin q none f g s (view v) t k) y z h

-- ---- what can be changed

blank_fits : (cs : ColumnList) → fields_fit (field_list (blank_row cs)) cs ≡ true
blank_fits no_columns = refl
blank_fits (column n t cs) = and_from _ _ (own_name n) (and_from true _ refl (blank_fits cs))

fields_again : (fs : FieldList) → field_list (fields_of fs) ≡ fs
fields_again no_fields = refl
fields_again (field n d fs) = ap (field n d) (fields_again fs)

named_fits : (cs : ColumnList) (b : Data) → fits_in b (records cs) ≡ true → fields_fit (field_list (record_row cs b)) cs ≡ true
named_fits cs (rec fs) h = subst (λ z. fields_fit z cs ≡ true) (sym (fields_again fs)) h
named_fits cs blank h = blank_fits cs
named_fits cs (fault k m) h = blank_fits cs
named_fits cs (number z) h = blank_fits cs
named_fits cs (text x) h = blank_fits cs
named_fits cs (boolean x) h = blank_fits cs
named_fits cs (date z) h = blank_fits cs
named_fits cs (tab rs) h = blank_fits cs

-- the base of `Patch`
pub base_can : (cs : ColumnList) (b : Data) (changes : List Row) → AreLawfulColumns cs → fits_in b (records cs) ≡ true → AreOfSome cs changes → CanChange cs changes (record_row cs b)
base_can cs b changes l f h = can_change cs l changes h (record_row cs b) (named_fits cs b f)

pub some_first : (cs : ColumnList) (xs ys : List Row) → AreOfSome cs (xs ++ ys) → AreOfSome cs xs × AreOfSome cs ys
some_first cs [] ys h = (tt, h)
some_first cs (x ∷ xs) ys h = let k = some_first cs xs ys h.1 in ((h.0, k.0), k.1)

rows_can : (cs : ColumnList) (rows : List Row) (ds : List Data) → AreLawfulColumns cs → RowsFit cs rows → AreOfSome cs (rows_among ds) → CanChangeAll cs rows ds
rows_can cs [] ds l f h = tt
rows_can cs (r ∷ rows) [] l f h = tt
rows_can cs (r ∷ rows) (d ∷ ds) l f h =
    let k = some_first cs (rows_in d) (rows_among ds) h in
    (can_change cs l (rows_in d) k.0 r f.0, rows_can cs rows ds l f.1 k.1)

-- the rows of `UpdateIf`
pub all_can : (cs : ColumnList) (rows : List Row) (ds : List Data) → AreLawfulColumns cs → fits_in (table_of rows) (tables cs) ≡ true → AreOfSome cs (rows_among ds) → CanChangeAll cs rows ds
all_can cs rows ds l f h = rows_can cs rows ds l (fit_table cs rows f) h

-- a collection has one list of columns
pub same_columns : (types : SourceTypes) (k : ℕ) (cs ds : ColumnList) → IsOfColumns types k cs → IsOfColumns types k ds → cs ≡ ds
same_columns types k cs ds h j = ap columns_of_rows (sym h ∙ j)
