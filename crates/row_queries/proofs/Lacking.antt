-- Fields and columns among which none has one of some columns' names.
use Rattle.std.proofs.Common.{◌≢◌, ℕ, List, [], ◌∷◌, map, Bool, true, false, sym, if◌then◌else◌}
use Rattle.std.specs.Cmp.Lexicographic.{slice_cmp}
use Rattle.std.specs.Ordering.{is_lt, match_ordering, nat_cmp}
use Rattle.std.specs.declared.cmp.Ordering.{Ordering}
use Rattle.std.specs.declared.cmp.Ordering.TheVariants.{Less, Equal, Greater}
use Rattle.fx_types.specs.Types.{Shape, ColumnList, no_columns, column}
use Rattle.fx_types.specs.Values.{Data}
use Rattle.fx_core.specs.declared.schema.Column.{Column}
use Rattle.fx_core.specs.Lawful.{DiffersFromAll}
use Rattle.fx_core.specs.SourceTypes.{put_column}
use Rattle.fx_value.specs.Columns.{with_field}
use Rattle.fx_value.specs.Columns.{Row as Fields}

abbrev pub names_of : List Column → List (List ℕ)
names_of = map (λ (c : Column). c.name)

-- ---- the fields of a record
-- no field of this name
abbrev pub Lacks : List ℕ → Fields → Type 0
Lacks m [] = Unit {0}
Lacks m (f ∷ fs) = (m ≢ f.0) × Lacks m fs

-- no field of the name of one of these
abbrev pub AllLack : List Column → Fields → Type 0
AllLack [] fs = Unit {0}
AllLack (c ∷ cs) fs = Lacks c.name fs × AllLack cs fs

lacks_put : (n m : List ℕ) (d : Data) (fs : Fields) → n ≢ m → Lacks n fs → Lacks n (with_field m d fs)
lacks_put n m d [] a l = (a, tt)
lacks_put n m d (f ∷ fs) a l = by (is_lt (slice_cmp nat_cmp m f.0)) (lacks_put n m d fs a l.1)
  where
    by : (b : Bool) → Lacks n (with_field m d fs) → Lacks n (if b then (m, d) ∷ f ∷ fs else f ∷ with_field m d fs)
    by true k = (a, l)
    by false k = (l.0, k)

pub all_lack_put : (m : List ℕ) (d : Data) (cs : List Column) (fs : Fields) → DiffersFromAll m (names_of cs) → AllLack cs fs → AllLack cs (with_field m d fs)
all_lack_put m d [] fs a l = tt
all_lack_put m d (c ∷ cs) fs a l = (lacks_put c.name m d fs (λ e. a.0 (sym e)) l.0, all_lack_put m d cs fs a.1 l.1)

pub all_lack_one : (m : List ℕ) (d : Data) (cs : List Column) → DiffersFromAll m (names_of cs) → AllLack cs ((m, d) ∷ [])
all_lack_one m d [] a = tt
all_lack_one m d (c ∷ cs) a = ((λ e. a.0 (sym e), tt), all_lack_one m d cs a.1)

-- ---- the columns of a type
-- no column of this name
abbrev pub LacksType : List ℕ → ColumnList → Type 0
LacksType n no_columns = Unit {0}
LacksType n (column m t ks) = (n ≢ m) × LacksType n ks

-- no column of the name of one of these
abbrev pub AllLackTypes : List Column → ColumnList → Type 0
AllLackTypes [] ks = Unit {0}
AllLackTypes (c ∷ cs) ks = LacksType c.name ks × AllLackTypes cs ks

lacks_type_put : (n m : List ℕ) (u : Shape) (ks : ColumnList) → n ≢ m → LacksType n ks → LacksType n (put_column m u ks)
lacks_type_put n m u no_columns a l = (a, tt)
lacks_type_put n m u (column k t ks) a l = by (slice_cmp nat_cmp m k) (lacks_type_put n m u ks a l.1)
  where
    by : (o : Ordering) → LacksType n (put_column m u ks) → LacksType n (match_ordering o (column m u (column k t ks)) (column k u ks) (column k t (put_column m u ks)))
    by Less more = (a, l)
    by Equal more = l
    by Greater more = (l.0, more)

pub all_lack_types : (m : List ℕ) (u : Shape) (cs : List Column) (ks : ColumnList) → DiffersFromAll m (names_of cs) → AllLackTypes cs ks → AllLackTypes cs (put_column m u ks)
all_lack_types m u [] ks a l = tt
all_lack_types m u (c ∷ cs) ks a l = (lacks_type_put c.name m u ks (λ e. a.0 (sym e)) l.0, all_lack_types m u cs ks a.1 l.1)

pub all_lack_id : (m : List ℕ) (u : Shape) (cs : List Column) → DiffersFromAll m (names_of cs) → AllLackTypes cs (column m u no_columns)
all_lack_id m u [] a = tt
all_lack_id m u (c ∷ cs) a = ((λ e. a.0 (sym e), tt), all_lack_id m u cs a.1)
