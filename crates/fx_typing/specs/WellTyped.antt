-- Which typed trees are well typed: one rule for each head, over the types of its parts.
use Rattle.std.specs.Prelude.{◌≡◌, ℕ, zero, suc, ◌<◌, ◌++◌, List, [], ◌∷◌, ◌⊎◌, Bool, true, map}
use Rattle.std.specs.Prelude.{length, Option, Some, None, Result, Ok, Err, slice_get, codes, IsSome}
use Rattle.fx_types.specs.Rising.{IsBelow}
use Rattle.fx_types.specs.Types.{Shape, blanks, numbers, texts, booleans, records, tables}
use Rattle.fx_types.specs.Types.{ColumnList, no_columns, column}
use Rattle.fx_value.specs.Fits.{fits_in}
use Rattle.fx_value.specs.Join.{join_of}
use Rattle.fx_core.specs.declared.deeds.Deed.{Deed}
use Rattle.fx_core.specs.declared.deeds.Deed.TheVariants as deed
use Rattle.fx_core.specs.declared.deeds.Target.{Target}
use Rattle.fx_core.specs.declared.deeds.Target.TheVariants as target
use Rattle.fx_core.specs.declared.functions.Fun.{Fun}
use Rattle.fx_core.specs.declared.functions.Fun.TheVariants as fun
use Rattle.fx_core.specs.declared.rows.Answer.{Answer}
use Rattle.fx_core.specs.declared.rows.Answer.TheVariants as answer
use Rattle.fx_core.specs.declared.rows.Row.{Row}
use Rattle.fx_core.specs.declared.rows.Takes.{Takes}
use Rattle.fx_core.specs.declared.rows.Takes.TheVariants as takes
use Rattle.fx_core.specs.declared.sources.Source.{Source}
use Rattle.fx_core.specs.declared.sources.Source.TheVariants as source
use Rattle.fx_core.specs.Rows.{shape_of, row_of, form_row, takes_at, takes_count}
use Rattle.fx_core.specs.Term.{Term, Terms, of, nil, cons, Top, const, read, row, item, caught, dot}
use Rattle.fx_core.specs.Term.{call, over, user, form, within, rec, list, coerce, chain, act}
use Rattle.fx_core.specs.Rules as rules
use Rattle.fx_typing.specs.Ways.{way, changed, is_scalar, is_comparable}
use Rattle.fx_typing.specs.LawfulTypes.{IsLawfulType}
use Rattle.fx_typing.specs.Columns.{field_shape, added, dropped, columns_shown, columns_renamed}
use Rattle.fx_typing.specs.Columns.{grouped, ungrouped, fault_type, tells_error}
use Rattle.fx_core.specs.ColumnLists.{field_in, value_column, row_columns}

-- what a tree stands in: the types of the sources, how many screens there are, the types of the
-- scopes from the outside, that of the gallery's item if there is one, whether an error is caught
-- around, and of each function of the app's own the types of its parameters, and that of its result
pub record Context : Type 0 where
  pub sources : Source → Option Shape
  pub screens : ℕ
  pub rows : List Shape
  pub item : Option Shape
  pub caught : Bool
  pub functions : List (List Shape × Shape)

-- the head of a call: a function whose first argument is a table is called over it
abbrev pub head_by : Takes → Fun → Top
head_by takes.Table f = over f
head_by k f = call f

abbrev pub head_of : Fun → Top
head_of f = head_by (row_of f).first f

-- what a part stands in: in the scope of a row of the first part, in that of the first part itself,
-- where an error is caught, or where the whole stands
pub data PartScope : Type 0 where
  plain : PartScope
  inside : PartScope
  bound : PartScope
  catching : PartScope

abbrev pub standing_of : Takes → PartScope
standing_of (takes.Formula s) = inside
standing_of takes.ScalarFormula = inside
standing_of takes.AnyFormula = inside
standing_of takes.RowFormula = inside
standing_of takes.Fallback = catching
standing_of k = plain

-- how the part at a place of so many stands
abbrev pub standing_behind : ℕ → PartScope → PartScope
standing_behind zero s = plain
standing_behind (suc i) s = s

abbrev pub standing_at : Top → ℕ → ℕ → PartScope
standing_at (call f) n i = standing_of (takes_at (row_of f) n i)
standing_at (over f) n i = standing_of (takes_at (row_of f) n i)
standing_at (form f) n i = standing_of (takes_at (form_row f) n i)
standing_at within n i = standing_behind i bound
standing_at (act (deed.UpdateIf t)) n i = standing_behind i inside
standing_at h n i = plain

-- a row of a table
abbrev pub row_type : Shape → Shape
row_type (tables cs) = records cs
row_type t = records no_columns

abbrev pub context_for : PartScope → Context → List Shape → Context
context_for inside c (t ∷ ts) = record c { rows = c.rows ++ row_type t ∷ [] }
context_for bound c (t ∷ ts) = record c { rows = c.rows ++ t ∷ [] }
context_for catching c ts = record c { caught = true }
context_for s c ts = c

-- the first type, and Blank where there is none
abbrev pub first_type : List Shape → Shape
first_type [] = blanks
first_type (t ∷ ts) = t

-- the type that stands at a place, where the first argument and the branches have these types
abbrev pub Stands : Takes → Shape → Shape → Shape → Type 0
Stands (takes.Scalar s) first common t = t ≡ shape_of s
Stands (takes.Exact s) first common t = t ≡ shape_of s
Stands (takes.Formula s) first common t = t ≡ shape_of s
Stands takes.Any first common t = Unit {0}
Stands takes.AnyFormula first common t = Unit {0}
Stands takes.ErrorRecord first common t = (cs : ColumnList) × (t ≡ records cs)
    × (tells_error cs ≡ true)
Stands takes.Table first common t = (cs : ColumnList) × (t ≡ tables cs)
Stands takes.ScalarFormula first common t = is_scalar t ≡ true
Stands takes.RowFormula first common (tables cs) = ⊥
Stands takes.RowFormula first common t = Unit {0}
Stands takes.Choice first common t = t ≡ common
Stands takes.Branch first common t = t ≡ common
Stands takes.Fallback first common t = t ≡ common
Stands takes.Compared first common t = is_scalar t ≡ true
Stands takes.Match first common t = is_comparable first t ≡ true
Stands takes.Column first common t = t ≡ texts
Stands takes.NewColumn first common t = t ≡ texts

-- the types from a place on stand there
abbrev pub AllStand : Row → ℕ → ℕ → Shape → Shape → List Shape → Type 0
AllStand r n i first common [] = Unit {0}
AllStand r n i first common (t ∷ ts) = Stands (takes_at r n i) first common t
    × AllStand r n (suc i) first common ts

-- trees with their types
abbrev pub typed_pairs : Terms → List Shape → List (Term × Shape)
typed_pairs (cons c cs) (t ∷ ts) = (c, t) ∷ typed_pairs cs ts
typed_pairs _ _ = []

abbrev pub as_table : Result ColumnList ℕ → Result Shape ℕ
as_table (Ok cs) = Ok (tables cs)
as_table (Err e) = Err e

-- the type that a call answers, from its arguments as they stand, or the rule that is broken; the
-- common type of branches is settled before
abbrev pub answered_type : Answer → Shape → List (Term × Shape) → Result Shape ℕ
answered_type (answer.Scalar s) common xs = Ok (shape_of s)
answered_type answer.Same common (x ∷ xs) = Ok x.1
answered_type answer.Row common (x ∷ xs) = Ok (row_type x.1)
answered_type answer.Found common (x ∷ y ∷ z ∷ xs) = Ok z.1
answered_type answer.Found common (x ∷ xs) = Ok (row_type x.1)
answered_type answer.Common common xs = Ok common
answered_type answer.Added common ((c, tables cs) ∷ xs) = as_table (added xs cs)
answered_type answer.Dropped common ((c, tables cs) ∷ xs) = as_table (dropped xs cs)
answered_type answer.Shown common ((c, tables cs) ∷ xs) = as_table (columns_shown xs cs)
answered_type answer.Renamed common ((c, tables cs) ∷ xs) = as_table (columns_renamed xs cs)
answered_type answer.Grouped common ((c, tables cs) ∷ xs) = as_table (grouped xs cs)
answered_type answer.Ungrouped common ((c, tables cs) ∷ xs) = as_table (ungrouped xs cs)
answered_type answer.Values common (x ∷ y ∷ xs) = Ok (tables (value_column y.1))
answered_type answer.Each common (x ∷ y ∷ xs) = Ok (tables (row_columns y.1))
answered_type a common xs = Err rules.wrong_type

-- a call with this row, of parts of these types, has the type, whatever common type its branches
-- have
abbrev pub IsByRow : Row → Terms → List Shape → Shape → Type 0
IsByRow r cs us t =
    (takes_count r (length us) ≡ true)
    × (common : Shape) × AllStand r (length us) 0 (first_type us) common us
    × (answered_type r.answer common (typed_pairs cs us) ≡ Ok t)

-- names that rise, so each stands once
abbrev pub IsBelowNames : List ℕ → List (List ℕ) → Type 0
IsBelowNames n [] = Unit {0}
IsBelowNames n (m ∷ ms) = IsBelow n m × IsBelowNames n ms

abbrev pub NamesRise : List (List ℕ) → Type 0
NamesRise [] = Unit {0}
NamesRise (n ∷ ns) = IsBelowNames n ns × NamesRise ns

-- the columns of a record of these names
abbrev pub columns_by : List (List ℕ) → List Shape → ColumnList
columns_by (n ∷ ns) (t ∷ ts) = column n t (columns_by ns ts)
columns_by _ _ = no_columns

abbrev pub AreAllOfShape : Shape → List Shape → Type 0
AreAllOfShape t [] = Unit {0}
AreAllOfShape t (u ∷ us) = (u ≡ t) × AreAllOfShape t us

-- the last of these types
abbrev pub last_type : List Shape → Option Shape
last_type [] = None
last_type (t ∷ []) = Some t
last_type (t ∷ u ∷ us) = last_type (u ∷ us)

-- the source that acting parts change
abbrev pub target_source : Target → Source
target_source (target.Table k) = source.Table k
target_source (target.Gathered k) = source.Gathered k

-- the columns of rows that are told by their ID: a Number, or of type Blank
abbrev pub IsNumbered : Option Shape → Type 0
IsNumbered (Some numbers) = Unit {0}
IsNumbered (Some blanks) = Unit {0}
IsNumbered t = ⊥

-- a row that is named for a change: on a table by its ID, in a collection by all that it has
abbrev pub IsNamedRow : Target → ColumnList → Shape → Type 0
IsNamedRow (target.Table k) cs (records ds) = IsNumbered (field_in (codes "ID") ds)
IsNamedRow (target.Gathered k) cs (records ds) = ds ≡ cs
IsNamedRow t cs u = ⊥

abbrev pub AreNamedRows : Target → ColumnList → List Shape → Type 0
AreNamedRows t cs [] = Unit {0}
AreNamedRows t cs (u ∷ us) = IsNamedRow t cs u × AreNamedRows t cs us

-- a change stands as a table of one row, whose columns are some of the target's, ID aside on a
-- table
abbrev pub LeavesId : Target → ColumnList → Type 0
LeavesId (target.Table k) ds = field_in (codes "ID") ds ≡ None
LeavesId (target.Gathered k) ds = Unit {0}

abbrev pub IsChange : Target → ColumnList → Shape → Type 0
IsChange t cs (tables ds) = (join_of (records cs) (records ds) ≡ Some (records cs)) × LeavesId t ds
IsChange t cs u = ⊥

abbrev pub AreChanges : Target → ColumnList → List Shape → Type 0
AreChanges t cs [] = Unit {0}
AreChanges t cs (u ∷ us) = IsChange t cs u × AreChanges t cs us

-- the rows that are filtered for a change are the target's
abbrev pub IsFilterOf : Target → Term → Type 0
IsFilterOf t (of (over f) (cons (of (read s) nil) conditions))
    = (f ≡ fun.Filter) × (s ≡ target_source t)
IsFilterOf t c = ⊥

abbrev pub HasColumns : Context → Target → ColumnList → Type 0
HasColumns c t cs = c.sources (target_source t) ≡ Some (tables cs)

-- the rule of an acting part
abbrev pub DeedHasType : Context → Deed → Terms → List Shape → Shape → Type 0
DeedHasType c (deed.Set k) cs (u ∷ []) t = (c.sources (source.Global k) ≡ Some u) × (t ≡ booleans)
DeedHasType c (deed.UpdateContext ss) cs us t = (map c.sources ss ≡ map Some us) × (t ≡ booleans)
DeedHasType c (deed.Collect k) cs us t = (ds : ColumnList) × HasColumns c (target.Gathered k) ds
    × AreAllOfShape (tables ds) us × (t ≡ booleans)
DeedHasType c (deed.Clear k) cs [] t = (ds : ColumnList) × HasColumns c (target.Gathered k) ds
    × (t ≡ booleans)
DeedHasType c (deed.ClearCollect k) cs us t = (ds : ColumnList)
    × HasColumns c (target.Gathered k) ds × AreAllOfShape (tables ds) us × (t ≡ booleans)
DeedHasType c (deed.Patch p) cs (base ∷ us) t =
    (ds : ColumnList) × HasColumns c p ds × IsNamedRow p ds base × AreChanges p ds us
    × (t ≡ records ds)
DeedHasType c (deed.Remove p) cs us t = (ds : ColumnList) × HasColumns c p ds × AreNamedRows p ds us
    × (t ≡ booleans)
DeedHasType c (deed.RemoveIf p) (cons f nil) us t = IsFilterOf p f × (t ≡ booleans)
DeedHasType c (deed.UpdateIf p) (cons f (cons change nil)) (w ∷ u ∷ []) t =
    (ds : ColumnList) × IsFilterOf p f × HasColumns c p ds × IsChange p ds u × (t ≡ booleans)
DeedHasType c (deed.Navigate s) cs [] t = (s < c.screens) × (t ≡ booleans)
DeedHasType c deed.Notify cs (texts ∷ []) t = t ≡ booleans
DeedHasType c (deed.Reset k) cs [] t = IsSome (c.sources (source.Input k)) × (t ≡ booleans)
DeedHasType c d cs us t = ⊥

-- a type of constants: a lawful one, or that of a row of a table or a collection
abbrev pub IsConstantType : Context → Shape → Type 0
IsConstantType c t = IsLawfulType t ⊎ ((k : Target) × (cs : ColumnList) × HasColumns c k cs
    × (t ≡ records cs))

-- the rule of a head, over its parts and their types
abbrev pub IsRuled : Context → Top → Terms → List Shape → Shape → Type 0
IsRuled c (const v) cs us t = (fits_in v t ≡ true) × IsConstantType c t
IsRuled c (read s) cs us t = c.sources s ≡ Some t
IsRuled c (row k) cs us t = slice_get c.rows k ≡ Some t
IsRuled c item cs us t = c.item ≡ Some t
IsRuled c caught cs us t = (c.caught ≡ true) × (t ≡ fault_type)
IsRuled c (dot x) cs (u ∷ []) t = field_shape x u ≡ Some t
IsRuled c (call f) cs us t = (head_of f ≡ call f) × IsByRow (row_of f) cs us t
IsRuled c (over f) cs us t = (head_of f ≡ over f) × IsByRow (row_of f) cs us t
IsRuled c (user f) cs us t = slice_get c.functions f ≡ Some (us, t)
IsRuled c (form f) cs us t = IsByRow (form_row f) cs us t
IsRuled c within cs (records ds ∷ u ∷ []) t = t ≡ u
IsRuled c (rec ns) cs us t = (length ns ≡ length us) × NamesRise ns
    × (t ≡ records (columns_by ns us))
IsRuled c (list (tables ds)) cs us t = ⊥
IsRuled c (list r) cs us t = AreAllOfShape r us × (t ≡ tables (row_columns r))
IsRuled c (coerce blanks) cs (u ∷ []) t = t ≡ blanks
IsRuled c (coerce to) cs (u ∷ []) t = (way u to ≡ changed) × (t ≡ to)
IsRuled c chain cs us t = last_type us ≡ Some t
IsRuled c (act d) cs us t = DeedHasType c d cs us t
IsRuled c h cs us t = ⊥

-- how many parts there are
abbrev pub parts_count : Terms → ℕ
parts_count nil = 0
parts_count (cons c cs) = suc (parts_count cs)

abbrev mutual
  -- the tree has the type where it stands
  pub IsTyped : Context → Term → Shape → Type 0
  IsTyped c (of h ts) t = (us : List Shape) × AreTyped c h (parts_count ts) [] ts us
      × IsRuled c h ts us t

  -- the parts of a head, of which there are so many, have these types behind those of the parts
  -- before
  pub AreTyped : Context → Top → ℕ → List Shape → Terms → List Shape → Type 0
  AreTyped c h n done nil us = us ≡ []
  AreTyped c h n done (cons k ks) us =
      (u : Shape) × (vs : List Shape) × (us ≡ u ∷ vs)
      × IsTyped (context_for (standing_at h n (length done)) c done) k u
      × AreTyped c h n (done ++ u ∷ []) ks vs
