-- Rows of tables that changes leave.
use Rattle.std.proofs.Common.{◌≡◌, ℕ, List, [], ◌∷◌, true, map, Option, Some, None, Result, Ok, Err, refl, ap, sym, subst, ◌∙◌, inl, inr}
use Rattle.std.specs.Prelude.{◌⊎◌, MatchOption, MatchResult}
use Rattle.std.specs.List.{find}
use Rattle.std.specs.Option.{option_or}
use Rattle.std.proofs.lemmas.List.Folds.{find-append}
use Rattle.fx_base.proofs.Silences.{goes_two, goes_weaker}
use Rattle.fx_base.specs.Silence.{MayFallSilent, IsLater, SilenceCause, Marks}
use Rattle.fx_types.specs.declared.values.Value.{Value}
use Rattle.fx_types.specs.Values.{Data, blank, number, text, boolean, date, rec, tab, fault}
use Rattle.fx_types.specs.ValueView.{view}
use Rattle.fx_semantics.specs.Around.{record_of}
use Rattle.fx_semantics.specs.Rows.{rows_in}
use Rattle.fx_value.specs.Columns.{Row}
use Rattle.fx_tables.specs.Unions.{is_fault}
use Rattle.fx_core.specs.declared.schema.TableShape.{TableShape}
use Rattle.fx_core.specs.SourceTypes.{columns_of}
use Rattle.fx_typing.specs.LawfulTypes.{AreLawfulColumns}
use Rattle.row_keeper.specs.declared.rows.Put.{Put}
use Rattle.row_keeper.specs.declared.rows.Put.TheVariants.{Id, NoRow, Refused}
use Rattle.row_queries.specs.declared.rows.Row.{Row as KeptRow}
use Rattle.fx_deeds.proofs.Steps.{Whole, none_is}
use Rattle.fx_deeds.specs.Changed.{IsRowChanged}
use Rattle.fx_deeds.specs.Deeds.{AnswersOnly, AreUpdated, ByPut, ChangesRow, PatchesById, PatchesRow, Updates, row_id_value, named_id, row_numbered}
use Rattle.fx_deeds.specs.Done.{errors_in, errors_of}
use Rattle.fx_deeds.specs.Fitting.{AreOfSome}
use Rattle.fx_deeds.specs.Finding.{CanChangeEach, IsRowPatched, IsRowStopped, IsUpdatedRow}
use Rattle.fx_deeds.specs.RemainingRows.{RestDecides}
use Rattle.fx_deeds.specs.RowValues.{changed_cells, not_found, put_answer, rows_among, values_among}
use Rattle.fx_deeds.specs.State.{WorldState}
use Rattle.fx_deeds.proofs.Holding.{some_first}

-- ---- one row

-- what is answered for a row that was to be changed
pub patched_row : {A : Type 0} (p : TableShape) (k : ℕ) (changes : List Row) (id : ℕ) (cells : List Data) (put : Put) (s t : WorldState A) (x : Data) → x ≡ put_answer p cells put → IsRowPatched p k changes id cells put s t → PatchesRow p k changes id s x t
patched_row p k changes id cells put s t x e h = by (row_numbered k id s) h
  where
    by : (o : Option KeptRow) → MatchOption o ((put ≡ NoRow) × (t ≡ s)) (λ (r : KeptRow). (cells ≡ changed_cells p.columns changes r.cells) × IsRowChanged p.columns k id cells put s t) →
        MatchOption o (AnswersOnly not_found s x t) (λ r. ChangesRow p k id (changed_cells p.columns changes r.cells) s x t)
    by None j = (e ∙ ap (put_answer p cells) j.0, j.1)
    by (Some r) j = (put, subst (λ z. IsRowChanged p.columns k id z put s t) j.0 j.1, e ∙ ap (λ z. put_answer p z put) j.0)

-- by a number that isn't blank
pub by_number : {A : Type 0} (p : TableShape) (k : ℕ) (changes : List Row) (d : Data) (s : WorldState A) (x : Data) (t : WorldState A) → (d ≡ blank → ⊥) →
    MatchResult (named_id d) (λ id. PatchesRow p k changes id s x t) (λ e. AnswersOnly e s x t) → PatchesById p k changes d s x t
by_number p k changes blank s x t n h = absurd (n refl)
by_number p k changes (number z) s x t n h = h
by_number p k changes (text cs) s x t n h = h
by_number p k changes (boolean b) s x t n h = h
by_number p k changes (date z) s x t n h = h
by_number p k changes (rec fs) s x t n h = h
by_number p k changes (tab rs) s x t n h = h
by_number p k changes (fault e cs) s x t n h = h

-- ---- rows, one after another

abbrev pub updating : {A : Type 0} → TableShape → ℕ → List Row → List Value → Whole A
updating p k rs vs = AreUpdated p k rs (map view vs)

pub goes_on : {A : Type 0} (p : TableShape) (k : ℕ) (changes : List Row) (id n : ℕ) (cells : List Data) (s m : WorldState A) (P : WorldState A → Type 0) (x : Data) (t : WorldState A) → IsRowPatched p k changes id cells (Id n) s m → P m → Updates p k changes id s P x t
goes_on {A} p k changes id n cells s m P x t h q = by (row_numbered k id s) h
  where
    by : (o : Option KeptRow) → MatchOption o ((Id n ≡ NoRow) × (m ≡ s)) (λ (r : KeptRow). (cells ≡ changed_cells p.columns changes r.cells) × IsRowChanged p.columns k id cells (Id n) s m) →
        MatchOption o (AnswersOnly not_found s x t) (λ (r : KeptRow). (put : Put) × (u : WorldState A) × IsRowChanged p.columns k id (changed_cells p.columns changes r.cells) put s u × ByPut p put (P u) u x t)
    by None j = absurd (let wrong = j.0 in cc)
    by (Some r) j = (Id n, m, subst (λ z. IsRowChanged p.columns k id z (Id n) s m) j.0 j.1, q)

stopped : {A : Type 0} (p : TableShape) (put : Put) (P : Type 0) (x : Data) (t : WorldState A) → IsRowStopped p put x → ByPut p put P t x t
stopped p (Id n) P x t h = absurd h
stopped p NoRow P x t h = (h, refl)
stopped p (Refused r) P x t h = (h, refl)

none_there : (p : TableShape) (put : Put) (x : Data) → put ≡ NoRow → IsRowStopped p put x → x ≡ not_found
none_there p put x e h = subst (λ z. IsRowStopped p z x) e h

pub stops_there : {A : Type 0} (p : TableShape) (k : ℕ) (changes : List Row) (id : ℕ) (cells : List Data) (put : Put) (s : WorldState A) (P : WorldState A → Type 0) (x : Data) (t : WorldState A) → IsRowPatched p k changes id cells put s t → IsRowStopped p put x →
    Updates p k changes id s P x t
stops_there {A} p k changes id cells put s P x t h q = by (row_numbered k id s) h
  where
    by : (o : Option KeptRow) → MatchOption o ((put ≡ NoRow) × (t ≡ s)) (λ (r : KeptRow). (cells ≡ changed_cells p.columns changes r.cells) × IsRowChanged p.columns k id cells put s t) →
        MatchOption o (AnswersOnly not_found s x t) (λ (r : KeptRow). (made : Put) × (u : WorldState A) × IsRowChanged p.columns k id (changed_cells p.columns changes r.cells) made s u × ByPut p made (P u) u x t)
    by None j = (none_there p put x j.0 q, j.1)
    by (Some r) j = (put, t, subst (λ z. IsRowChanged p.columns k id z put s t) j.0 j.1, stopped p put (P t) x t q)

updated_first : {A : Type 0} (p : TableShape) (k : ℕ) (r : Row) (rs rest : List Row) (v : Value) (vs left : List Value) (s m : WorldState A) (x : Data) (t : WorldState A) → rest ≡ r ∷ rs → left ≡ v ∷ vs → IsUpdatedRow p k r (view v) None s m →
    updating p k rs vs m x t → updating p k rest left s x t
updated_first p k r rs rest v vs left s m x t e f h q =
    subst (λ z. AreUpdated p k z (map view left) s x t) (sym e)
    (subst (λ z. AreUpdated p k (r ∷ rs) (map view z) s x t) (sym f)
    (subst (λ o. MatchResult o (λ id. Updates p k (rows_in (view v)) id s (λ u. updating p k rs vs u x t) x t) (λ g. AnswersOnly g s x t)) (sym h.3)
    (goes_on p k (rows_in (view v)) h.0 h.1 h.2 s m (λ u. updating p k rs vs u x t) x t h.4 q)))

updated_stops : {A : Type 0} (p : TableShape) (k : ℕ) (r : Row) (rs rest : List Row) (v e : Value) (vs left : List Value) (s t : WorldState A) → rest ≡ r ∷ rs → left ≡ v ∷ vs → IsUpdatedRow p k r (view v) (Some e) s t → updating p k rest left s (view e) t
updated_stops p k r rs rest v e vs left s t q f h =
    subst (λ z. AreUpdated p k z (map view left) s (view e) t) (sym q) (subst (λ z. AreUpdated p k (r ∷ rs) (map view z) s (view e) t) (sym f) (by (named_id (row_id_value (record_of r))) h))
  where
    by : (o : Result ℕ Data) → MatchResult o (λ id. (cells : List Data) × (put : Put) × IsRowPatched p k (rows_in (view v)) id cells put s t × IsRowStopped p put (view e)) (λ g. AnswersOnly g s (view e) t) →
        MatchResult o (λ id. Updates p k (rows_in (view v)) id s (λ u. updating p k rs vs u (view e) t) (view e) t) (λ g. AnswersOnly g s (view e) t)
    by (Ok id) j = stops_there p k (rows_in (view v)) id j.0 j.1 s (λ u. updating p k rs vs u (view e) t) (view e) t j.2 j.3
    by (Err g) j = j

pub update_stops : {A : Type 0} (k l m : Marks) (x y z : Option (WorldState A)) (W : Whole A) (p : TableShape) (n : ℕ) (r : Row) (rs rest : List Row) (v e : Value) (o : Option Value) (vs left : List Value) → IsLater k l → IsLater l m →
    rest ≡ r ∷ rs → left ≡ v ∷ vs → o ≡ Some e → MayFallSilent (SilenceCause k l) (RestDecides (updating p n rest left) W) x y → MayFallSilent (SilenceCause l m) (IsUpdatedRow p n r (view v) o) y z → MayFallSilent (SilenceCause k m) (λ s t. W s (view e) t) x z
update_stops k l m x y z W p n r rs rest v e o vs left before later q f is =
    goes_two (RestDecides (updating p n rest left) W) (IsUpdatedRow p n r (view v) o) (λ s t. W s (view e) t)
    (λ s b t h j. h (view e) t (updated_stops p n r rs rest v e vs left b t q f (subst (λ i. IsUpdatedRow p n r (view v) i b t) is j))) k l m before later x y z

pub update_goes : {A : Type 0} (k l m : Marks) (x y z : Option (WorldState A)) (W : Whole A) (p : TableShape) (n : ℕ) (r : Row) (rs rest : List Row) (v : Value) (o : Option Value) (vs left : List Value) → IsLater k l → IsLater l m →
    rest ≡ r ∷ rs → left ≡ v ∷ vs → ((e : Value) → o ≡ Some e → ⊥) → MayFallSilent (SilenceCause k l) (RestDecides (updating p n rest left) W) x y → MayFallSilent (SilenceCause l m) (IsUpdatedRow p n r (view v) o) y z → MayFallSilent (SilenceCause k m) (RestDecides (updating p n rs vs) W) x z
update_goes k l m x y z W p n r rs rest v o vs left before later q f none =
    goes_two (RestDecides (updating p n rest left) W) (IsUpdatedRow p n r (view v) o) (RestDecides (updating p n rs vs) W)
    (λ s b t h j w u i. h w u (updated_first p n r rs rest v vs left b t w u q f (subst (λ c. IsUpdatedRow p n r (view v) c b t) (none_is o none) j) i)) k l m before later x y z

-- where no row or no change is left
no_row : {A : Type 0} (p : TableShape) (k : ℕ) (rest : List Row) (left : List Value) (s : WorldState A) → rest ≡ [] → updating p k rest left s (boolean true) s
no_row p k rest left s e = subst (λ z. AreUpdated p k z (map view left) s (boolean true) s) (sym e) (refl, refl)

no_change : {A : Type 0} (p : TableShape) (k : ℕ) (rest : List Row) (s : WorldState A) → AreUpdated p k rest [] s (boolean true) s
no_change p k [] s = (refl, refl)
no_change p k (r ∷ rest) s = (refl, refl)

none_left : {A : Type 0} (p : TableShape) (k : ℕ) (rest : List Row) (left : List Value) (s : WorldState A) → (rest ≡ []) ⊎ (left ≡ []) → updating p k rest left s (boolean true) s
none_left p k rest left s (inl e) = no_row p k rest left s e
none_left p k rest left s (inr e) = subst (λ z. AreUpdated p k rest (map view z) s (boolean true) s) (sym e) (no_change p k rest s)

pub update_ends : {A : Type 0} (lost : Type 0) (x y : Option (WorldState A)) (W : Whole A) (p : TableShape) (k : ℕ) (rest : List Row) (left : List Value) → (rest ≡ []) ⊎ (left ≡ []) →
    MayFallSilent lost (RestDecides (updating p k rest left) W) x y → MayFallSilent lost (λ s t. W s (boolean true) t) x y
update_ends lost x y W p k rest left e h =
    goes_weaker lost (RestDecides (updating p k rest left) W) (λ s t. W s (boolean true) t) (λ s t f. f (boolean true) t (none_left p k rest left t e)) x y h

-- ---- changes

-- changes without errors can be made one by one
both_none : {X : Type 0} (a b : Option X) → option_or a b ≡ None → (a ≡ None) × (b ≡ None)
both_none None b h = (refl, h)
both_none (Some x) b h = absurd cc

no_error : (d : Data) → find is_fault (errors_of d) ≡ None → find is_fault (values_among (rows_in d)) ≡ None
no_error (fault k cs) h = refl
no_error blank h = h
no_error (number z) h = h
no_error (text cs) h = h
no_error (boolean b) h = h
no_error (date z) h = h
no_error (rec fs) h = h
no_error (tab rs) h = h

pub can_each : (p : TableShape) → AreLawfulColumns (columns_of p) → (ds : List Data) → AreOfSome (columns_of p) (rows_among ds) → find is_fault (errors_in ds) ≡ None → CanChangeEach p ds
can_each p l [] h n = tt
can_each p l (d ∷ ds) h n =
    let parts = some_first (columns_of p) (rows_in d) (rows_among ds) h in
    let errors = both_none (find is_fault (errors_of d)) (find is_fault (errors_in ds)) (sym (find-append is_fault (errors_of d) (errors_in ds)) ∙ n) in
    (((l, parts.0), no_error d errors.0), can_each p l ds parts.1 errors.1)
