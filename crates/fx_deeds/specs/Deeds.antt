-- What the deeds of a formula do, from the values of their parts. P is what is done where nothing
-- is in its way, x is the answer, and s becomes t.
use Rattle.std.specs.Prelude.{◌≡◌, ℕ, List, [], ◌∷◌, Bool, true, false, Option, Some, None, Result}
use Rattle.std.specs.Prelude.{Ok, Err, IsSomeAnd, MatchOption, MatchResult, slice_get}
use Rattle.std.specs.List.{find}
use Rattle.fx_types.specs.declared.values.Value.{Value}
use Rattle.fx_types.specs.ValueView.{view}
use Rattle.fx_types.specs.Values.{Data, blank, number, text, boolean, rec, fault}
use Rattle.fx_value.specs.Coercion.{field_or_blank}
use Rattle.fx_core.specs.Lawful.{id_name}
use Rattle.fx_core.specs.declared.schema.Schema.{Schema}
use Rattle.fx_core.specs.declared.schema.TableShape.{TableShape}
use Rattle.fx_core.specs.declared.sources.Source.{Source}
use Rattle.fx_core.specs.declared.sources.Source.TheVariants as source
use Rattle.fx_value.specs.Columns.{Row}
use Rattle.fx_tables.specs.Unions.{is_fault}
use Rattle.fx_semantics.specs.Around.{record_of}
use Rattle.fx_semantics.specs.Fresh.{field_of}
use Rattle.fx_semantics.specs.Rows.{rows_in}
use Rattle.row_queries.specs.declared.rows.Row.{Row as KeptRow}
use Rattle.session_state.specs.declared.change.Change.{Change}
use Rattle.session_state.specs.declared.change.Change.TheVariants as change
use Rattle.row_keeper.specs.Tables.{has_id, state_at}
use Rattle.row_keeper.specs.declared.rows.Put.{Put}
use Rattle.row_keeper.specs.declared.rows.Put.TheVariants.{Id, NoRow, Refused}
use Rattle.fx_deeds.specs.Changed.{IsChanged, IsRowChanged, IsRowMade, IsRowRemoved}
use Rattle.fx_deeds.specs.RowValues.{blank_cells, changed_cells, id_in, not_found, put_answer}
use Rattle.fx_deeds.specs.RowValues.{rows_among, rule_error, value_if_taken, too_much, values_among}
use Rattle.fx_deeds.specs.State.{WorldState}

-- this is answered, and nothing is done
abbrev pub AnswersOnly : {A : Type 0} → Data → WorldState A → Data → WorldState A → Type 0
AnswersOnly d s x t = (x ≡ d) × (t ≡ s)

-- an error is the answer
abbrev pub OrError : {A : Type 0} → Data → Type 0 → WorldState A → Data → WorldState A → Type 0
OrError (fault k cs) P s x t = AnswersOnly (fault k cs) s x t
OrError w P s x t = P

-- the first error among values is the answer
abbrev pub OrErrorAmong : {A : Type 0} → List Data → Type 0 → WorldState A → Data → WorldState A
    → Type 0
OrErrorAmong ys P s x t = MatchOption (find is_fault ys) P (λ e. AnswersOnly e s x t)

-- ---- the session

-- a change of the session, with this answer where it is made
abbrev pub Makes : {A : Type 0} → Change → Data → WorldState A → Data → WorldState A → Type 0
Makes c taken s x t = (done : Bool) × IsChanged c done s t × (x ≡ value_if_taken done taken)

-- something is given a value
abbrev pub IsValueGiven : {A : Type 0} → (Value → Change) → Data → Bool → WorldState A
    → WorldState A → Type 0
IsValueGiven change d done s t = (v : Value) × (view v ≡ d) × IsChanged (change v) done s t

-- a value is given, and this is the answer where it is taken
abbrev pub ChangeGives : {A : Type 0} → (Value → Change) → Data → Data → WorldState A → Data
    → WorldState A → Type 0
ChangeGives change d taken s x t = (v : Value) × (view v ≡ d) × Makes (change v) taken s x t

-- P where the change was made, and else it is answered that it weighs too much
abbrev pub ByDone : {A : Type 0} → Bool → Type 0 → WorldState A → Data → WorldState A → Type 0
ByDone true P s x t = P
ByDone false P s x t = AnswersOnly too_much s x t

-- `UpdateContext`: variables of the screen from left to right, up to the first that is refused
abbrev pub UpdatesContext : {A : Type 0} → List Source → List Data → WorldState A → Data
    → WorldState A → Type 0
UpdatesContext [] [] s x t = AnswersOnly (boolean true) s x t
UpdatesContext {A} (source.Context k ∷ ks) (y ∷ ys) s x t =
    (done : Bool) × (m : WorldState A) × IsValueGiven (change.Context k) y done s m
    × ByDone done (UpdatesContext ks ys m x t) m x t
UpdatesContext ks ys s x t = ⊥

-- a text, which a blank one has none of
abbrev pub text_or_none : Data → List ℕ
text_or_none (text cs) = cs
text_or_none d = []

-- ---- rows of tables

-- the table of this number
abbrev pub OfTable : Schema → ℕ → (TableShape → Type 0) → Type 0
OfTable schema k P = IsSomeAnd (slice_get schema.tables k) P

-- the number of a record's row as a value, blank where it has none
abbrev pub row_id_value : Data → Data
row_id_value d = field_of id_name d

-- the number that such a value is, or the error that it is or that no row is found
abbrev pub found_or : Option ℕ → Result ℕ Data
found_or None = Err not_found
found_or (Some id) = Ok id

abbrev pub named_id : Data → Result ℕ Data
named_id (fault k cs) = Err (fault k cs)
named_id (number z) = found_or (id_in z)
named_id d = Err not_found

-- a new row
abbrev pub MakesRow : {A : Type 0} → TableShape → ℕ → List Data → WorldState A → Data → WorldState A
    → Type 0
MakesRow p k cells s x t = (put : Put) × IsRowMade p.columns k cells put s t
    × (x ≡ put_answer p cells put)

-- other cells in a row
abbrev pub ChangesRow : {A : Type 0} → TableShape → ℕ → ℕ → List Data → WorldState A → Data
    → WorldState A → Type 0
ChangesRow p k id cells s x t = (put : Put) × IsRowChanged p.columns k id cells put s t
    × (x ≡ put_answer p cells put)

-- the row of a number, if there is one
abbrev pub row_numbered : {A : Type 0} → ℕ → ℕ → WorldState A → Option KeptRow
row_numbered k id s = find (has_id id) (state_at s.tables.states k).rows

-- a row that is there is changed
abbrev pub PatchesRow : {A : Type 0} → TableShape → ℕ → List Row → ℕ → WorldState A → Data
    → WorldState A → Type 0
PatchesRow p k changes id s x t =
    MatchOption (row_numbered k id s) (AnswersOnly not_found s x t)
    (λ r. ChangesRow p k id (changed_cells p.columns changes r.cells) s x t)

-- by the number of a record: where it is blank a row is made
abbrev pub PatchesById : {A : Type 0} → TableShape → ℕ → List Row → Data → WorldState A → Data
    → WorldState A → Type 0
PatchesById p k changes blank s x t = MakesRow p k
    (changed_cells p.columns changes (blank_cells p.columns)) s x t
PatchesById p k changes d s x t = MatchResult (named_id d) (λ id. PatchesRow p k changes id s x t)
    (λ e. AnswersOnly e s x t)

-- a blank record is not found
abbrev pub PatchesBase : {A : Type 0} → TableShape → ℕ → List Row → Data → WorldState A → Data
    → WorldState A → Type 0
PatchesBase p k changes (rec fs) s x t = PatchesById p k changes (field_or_blank id_name fs) s x t
PatchesBase p k changes d s x t = AnswersOnly not_found s x t

-- `Patch` on a table, where base and changes are no errors: an error of the base's number or of a
-- changed field is the answer
abbrev pub IsPatched : {A : Type 0} → Schema → ℕ → Data → List Data → WorldState A → Data
    → WorldState A → Type 0
IsPatched schema k b ys s x t =
    OrErrorAmong (row_id_value b ∷ values_among (rows_among ys))
    (OfTable schema k (λ p. PatchesBase p k (rows_among ys) b s x t)) s x t

-- P where the row was there, and else it is answered that it isn't
abbrev pub ByFound : {A : Type 0} → Bool → Type 0 → WorldState A → Data → WorldState A → Type 0
ByFound true P s x t = P
ByFound false P s x t = AnswersOnly not_found s x t

-- the row of this number is taken out, and then P
abbrev pub RemovesThen : {A : Type 0} → ℕ → ℕ → WorldState A → (WorldState A → Type 0) → Data
    → WorldState A → Type 0
RemovesThen {A} k id s P x t = (found : Bool) × (m : WorldState A) × IsRowRemoved k id found s m
    × ByFound found (P m) m x t

-- `Remove` on a table: rows are taken out by their numbers, up to the first that is missing
abbrev pub AreRemoved : {A : Type 0} → ℕ → List Data → WorldState A → Data → WorldState A → Type 0
AreRemoved k [] s x t = AnswersOnly (boolean true) s x t
AreRemoved k (y ∷ ys) s x t = MatchResult (named_id (row_id_value y))
    (λ id. RemovesThen k id s (λ m. AreRemoved k ys m x t) x t) (λ e. AnswersOnly e s x t)

-- P where the row was changed, and else why it wasn't
abbrev pub ByPut : {A : Type 0} → TableShape → Put → Type 0 → WorldState A → Data → WorldState A
    → Type 0
ByPut p (Id id) P s x t = P
ByPut p NoRow P s x t = AnswersOnly not_found s x t
ByPut p (Refused r) P s x t = AnswersOnly (rule_error p.columns r) s x t

-- the row of this number is changed, where it is there, and then P
abbrev pub Updates : {A : Type 0} → TableShape → ℕ → List Row → ℕ → WorldState A
    → (WorldState A → Type 0) → Data → WorldState A → Type 0
Updates {A} p k changes id s P x t =
    MatchOption (row_numbered k id s) (AnswersOnly not_found s x t)
    (λ r. (put : Put) × (m : WorldState A) × IsRowChanged p.columns k id
    (changed_cells p.columns changes r.cells) put s m × ByPut p put (P m) m x t)

-- `UpdateIf` on a table: the rows that these records number are changed, each by its change, up to
-- the first that a rule refuses
abbrev pub AreUpdated : {A : Type 0} → TableShape → ℕ → List Row → List Data → WorldState A → Data
    → WorldState A → Type 0
AreUpdated p k (r ∷ rs) (c ∷ cs) s x t =
    MatchResult (named_id (row_id_value (record_of r)))
    (λ id. Updates p k (rows_in c) id s (λ m. AreUpdated p k rs cs m x t) x t)
    (λ e. AnswersOnly e s x t)
AreUpdated p k rs cs s x t = AnswersOnly (boolean true) s x t
