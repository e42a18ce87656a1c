-- What deeds do to collections.
use Rattle.std.specs.Prelude.{◌≡◌, ◌≢◌, ◌⊎◌, ℕ, ◌++◌, List, [], ◌∷◌, Bool, true}
use Rattle.fx_types.specs.Types.{ColumnList}
use Rattle.fx_types.specs.Values.{Data, blank, boolean}
use Rattle.fx_core.specs.declared.sources.Source.TheVariants as source
use Rattle.fx_value.specs.Columns.{Row}
use Rattle.fx_semantics.specs.Around.{record_of}
use Rattle.fx_semantics.specs.Rows.{rows_in, table_of}
use Rattle.session_state.specs.declared.change.Change.TheVariants as change
use Rattle.session_state.specs.Sessions.{stored_value}
use Rattle.fx_deeds.specs.Deeds.{AnswersOnly, ByDone, ChangeGives, IsValueGiven, OrErrorAmong}
use Rattle.fx_deeds.specs.RowValues.{changed_row, not_found, record_row, rows_among, values_among}
use Rattle.fx_deeds.specs.State.{WorldState}

-- the rows of a collection
abbrev pub rows_held : {A : Type 0} → ℕ → WorldState A → List Row
rows_held k s = rows_in (stored_value s.session (source.Gathered k))

-- a collection gets these rows, and this is the answer where they are taken
abbrev pub GathersRows : {A : Type 0} → ℕ → List Row → Data → WorldState A → Data → WorldState A
    → Type 0
GathersRows k rows taken s x t = ChangeGives (change.Gather k) (table_of rows) taken s x t

-- a collection gets this row behind its others, which is the answer
abbrev pub Appends : {A : Type 0} → ℕ → Row → WorldState A → Data → WorldState A → Type 0
Appends k r s x t = GathersRows k (rows_held k s ++ r ∷ []) (record_of r) s x t

-- this row isn't among these
abbrev pub Lacks : Row → List Row → Type 0
Lacks r [] = Unit {0}
Lacks r (q ∷ qs) = (q ≢ r) × Lacks r qs

-- the first row that is this one stands between these
pub record IsFirstRow (r : Row) (rows before after : List Row) : Type 0 where
  pub parted : rows ≡ before ++ r ∷ after
  pub first : Lacks r before

-- all fields of a row are blank
abbrev pub AreBlank : Row → Type 0
AreBlank [] = Unit {0}
AreBlank (f ∷ fs) = (f.1 ≡ blank) × AreBlank fs

-- a collection gets this row in the place of the first one that is the other, or that one is not
-- found
abbrev pub PutsFor : {A : Type 0} → ℕ → Row → Row → WorldState A → Data → WorldState A → Type 0
PutsFor k r q s x t =
    ((before after : List Row) × IsFirstRow r (rows_held k s) before after
    × GathersRows k (before ++ q ∷ after) (record_of q) s x t)
    ⊎ (Lacks r (rows_held k s) × AnswersOnly not_found s x t)

-- a row with what is to be there after changes
abbrev pub PatchesGathered : {A : Type 0} → ℕ → Row → Row → WorldState A → Data → WorldState A
    → Type 0
PatchesGathered k r q s x t = (AreBlank r × Appends k q s x t)
    ⊎ ((AreBlank r → ⊥) × PutsFor k r q s x t)

-- `Patch` on a collection, where base and changes are no errors: an error of a changed field is the
-- answer, a blank base and one with blank fields alone append
abbrev pub IsPatchedIn : {A : Type 0} → ColumnList → ℕ → Data → List Data → WorldState A → Data
    → WorldState A → Type 0
IsPatchedIn cs k b ys s x t =
    OrErrorAmong (values_among (rows_among ys))
    (PatchesGathered k (record_row cs b) (changed_row cs (rows_among ys) (record_row cs b)) s x
    t) s x t

-- `Remove` on a collection: each time the first equal row is taken out, up to the first that is
-- missing
abbrev pub AreTaken : {A : Type 0} → ColumnList → ℕ → List Data → WorldState A → Data → WorldState A
    → Type 0
AreTaken cs k [] s x t = AnswersOnly (boolean true) s x t
AreTaken {A} cs k (y ∷ ys) s x t =
    ((before after : List Row) × (done : Bool) × (m : WorldState A)
    × IsFirstRow (record_row cs y) (rows_held k s) before after
    × IsValueGiven (change.Gather k) (table_of (before ++ after)) done s m
    × ByDone done (AreTaken cs k ys m x t) m x t)
    ⊎ (Lacks (record_row cs y) (rows_held k s) × AnswersOnly not_found s x t)

-- rows without those that a filter kept, which stand among them in order
abbrev pub RemainAfterFilter : List Row → List Row → List Row → Type 0
RemainAfterFilter [] kept left = left ≡ []
RemainAfterFilter (r ∷ rs) [] left = left ≡ r ∷ rs
RemainAfterFilter (r ∷ rs) (q ∷ qs) left =
    ((q ≡ r) × RemainAfterFilter rs qs left) ⊎ ((q ≢ r) × (more : List Row) × (left ≡ r ∷ more)
    × RemainAfterFilter rs (q ∷ qs) more)

-- `RemoveIf` on a collection
abbrev pub AreTakenIf : {A : Type 0} → ℕ → List Row → WorldState A → Data → WorldState A → Type 0
AreTakenIf k kept s x t = (left : List Row) × RemainAfterFilter (rows_held k s) kept left
    × GathersRows k left (boolean true) s x t

-- rows in which those that a filter kept, which stand among them in order, are changed, each by its
-- change
abbrev pub AreWith : ColumnList → List Row → List Row → List Data → List Row → Type 0
AreWith cs (r ∷ rs) (q ∷ qs) (d ∷ ds) made =
    ((q ≡ r) × (more : List Row) × (made ≡ changed_row cs (rows_in d) r ∷ more)
    × AreWith cs rs qs ds more)
    ⊎ ((q ≢ r) × (more : List Row) × (made ≡ r ∷ more) × AreWith cs rs (q ∷ qs) (d ∷ ds) more)
AreWith cs rows kept changes made = made ≡ rows

-- `UpdateIf` on a collection
abbrev pub AreUpdatedIn : {A : Type 0} → ColumnList → ℕ → List Row → List Data → WorldState A → Data
    → WorldState A → Type 0
AreUpdatedIn cs k kept changes s x t = (made : List Row)
    × AreWith cs (rows_held k s) kept changes made × GathersRows k made (boolean true) s x t
