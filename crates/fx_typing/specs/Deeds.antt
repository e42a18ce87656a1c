-- Which acting calls are admitted.
use Rattle.std.specs.Prelude.{ℕ, List, [], ◌∷◌, Bool, true, false, ◌&&◌, not, nat_eq, codes, Option}
use Rattle.std.specs.Prelude.{Some, None, is_some, Result, Ok, Err, if◌then◌else◌}
use Rattle.fx_types.specs.TypeView.{shape}
use Rattle.fx_types.specs.Types.{Shape, blanks, numbers, texts, booleans, records, tables}
use Rattle.fx_types.specs.Types.{ColumnList, no_columns, column}
use Rattle.fx_types.specs.Values.{rec, no_fields}
use Rattle.fx_value.specs.Join.{join_of}
use Rattle.fx_core.specs.declared.deeds.Deed.{Deed}
use Rattle.fx_core.specs.declared.deeds.Deed.TheVariants as deed
use Rattle.fx_core.specs.declared.deeds.Target.{Target}
use Rattle.fx_core.specs.declared.deeds.Target.TheVariants as rows
use Rattle.fx_core.specs.declared.functions.Acting.{Acting}
use Rattle.fx_core.specs.declared.functions.Acting.TheVariants as acts
use Rattle.fx_core.specs.declared.functions.Fun.TheVariants as fun
use Rattle.fx_core.specs.declared.sources.Source.{Source}
use Rattle.fx_core.specs.declared.sources.Source.TheVariants as source
use Rattle.fx_core.specs.Controls.{input_type}
use Rattle.fx_core.specs.declared.names.Collection.{Collection}
use Rattle.fx_core.specs.declared.names.ControlName.{ControlName}
use Rattle.fx_core.specs.declared.names.Names.{Names}
use Rattle.fx_core.specs.declared.names.Variable.{Variable}
use Rattle.fx_core.specs.Term.{Term, of, nil, cons, all, const, read, list, chain, act}
use Rattle.fx_core.specs.Rules as rules
use Rattle.fx_core.specs.ColumnLists.{and_then, field_in, columns_without, row_columns}
use Rattle.fx_typing.specs.Local.{value, coerced, by_way, firsts, put_first, node_made}
use Rattle.fx_typing.specs.WellTyped.{target_source}
use Rattle.fx_typing.specs.Ways.{way, same_shape}
use Rattle.fx_typing.specs.Parts.{JudgedPart, target, assigned, pieces, values, lowest}
use Rattle.fx_typing.specs.Parts.{all_or_lowest}
use Rattle.fx_typing.specs.Targets.{global_variable, screen_variable, collection_named}
use Rattle.fx_typing.specs.Targets.{screen_named, control_named, rows_named}

-- a deed, which answers true
abbrev pub done_by : Deed → List Term → Term × Shape
done_by d cs = (of (act d) (all cs), booleans)

-- a deed that changes nothing
abbrev pub nothing_done : Term × Shape
nothing_done = done_by (deed.UpdateContext []) []

-- what a call answers whose rows are none: for a row one without columns
abbrev pub nothing_as : Shape → Term × Shape
nothing_as (records ds) = (
  of chain (cons nothing_done.0
      (cons (of (const (rec no_fields)) nil) nil)),
  records no_columns,
)
nothing_as t = nothing_done

abbrev pub as_rows : Bool → Term × Shape → Term × Shape
as_rows true y = nothing_as y.1
as_rows false y = y

-- whether a type joins to exactly another
abbrev pub is_type : Option Shape → Shape → Bool
is_type (Some u) t = same_shape u t
is_type None t = false

abbrev pub joins_to : Shape → Shape → Bool
joins_to t u = is_type (join_of t u) t

-- a value that is given to a variable of a type
abbrev pub given_variable : Shape → Term × Shape → Result (Term × Shape) ℕ
given_variable t x = if joins_to t x.1 then by_way (way x.1 t) x.0 t else Err rules.variable_types

-- the first name of a call, without a name of its rows
abbrev pub by_first_name : List JudgedPart → (List ℕ → List JudgedPart → Result (Term × Shape) ℕ)
    → Result (Term × Shape) ℕ
by_first_name (target None x ∷ qs) go = go x qs
by_first_name (target (Some a) x ∷ qs) go = Err rules.wrong_type
by_first_name qs go = Err rules.not_a_variable

abbrev pub if_known : {A : Type 0} → Option A → (A → Result (Term × Shape) ℕ)
    → Result (Term × Shape) ℕ
if_known (Some a) go = go a
if_known None go = Err rules.not_a_variable

-- goes on with rows of a table or a collection; a collection of type Blank is a table without
-- columns, where nothing changes
abbrev pub by_rows : Option (Target × Shape) → (Target × ColumnList → Result (Term × Shape) ℕ)
    → Result (Term × Shape) ℕ
by_rows (Some (t, tables cs)) go = go (t, cs)
by_rows (Some (t, blanks)) go = and_then (go (t, no_columns)) (λ y. Ok (as_rows true y))
by_rows (Some r) go = Err rules.wrong_type
by_rows None go = Err rules.not_a_variable

-- goes on with their columns
abbrev pub by_columns : Option (Target × Shape) → (ColumnList → Result (Term × Shape) ℕ)
    → Result (Term × Shape) ℕ
by_columns (Some (t, tables cs)) go = go cs
by_columns (Some (t, blanks)) go = go no_columns
by_columns (Some r) go = Err rules.wrong_type
by_columns None go = Err rules.not_a_variable

-- `Set`
abbrev pub set_to : ℕ × Variable → List (Term × Shape) → Result (Term × Shape) ℕ
set_to v (x ∷ []) = and_then (given_variable (shape v.1.ty) x)
    (λ y. Ok (done_by (deed.Set v.0) (y.0 ∷ [])))
set_to v xs = Err rules.wrong_count

abbrev pub set_of : Names → List ℕ → List JudgedPart → Result (Term × Shape) ℕ
set_of n x qs = and_then (values qs) (λ xs. if_known (global_variable n x) (λ v. set_to v xs))

-- `UpdateContext`: the variables of the formula's screen, in the order in which they are written
abbrev pub give_one : Option (ℕ × Variable) → Term × Shape → Result (Source × Term) ℕ
give_one (Some v) x = and_then (given_variable (shape v.1.ty) x) (λ y. Ok (source.Context v.0, y.0))
give_one None x = Err rules.not_a_variable

abbrev pub give_all : Names → Option ℕ → List (List ℕ) → List (Term × Shape)
    → Result (List (Source × Term)) ℕ
give_all n s (m ∷ ms) (x ∷ xs) = lowest (λ g gs. g ∷ gs) (give_one (screen_variable n s m) x)
    (give_all n s ms xs)
give_all n s _ _ = Ok []

abbrev pub given_sources : List (Source × Term) → List Source
given_sources [] = []
given_sources (g ∷ gs) = g.0 ∷ given_sources gs

abbrev pub given_terms : List (Source × Term) → List Term
given_terms [] = []
given_terms (g ∷ gs) = g.1 ∷ given_terms gs

abbrev pub update_of : Names → Option ℕ → List JudgedPart → Result (Term × Shape) ℕ
update_of n (Some s) (assigned ms xs ∷ []) =
    and_then (give_all n (Some s) ms xs) (λ gs. Ok
    (done_by (deed.UpdateContext (given_sources gs)) (given_terms gs)))
update_of n s qs = Err rules.not_a_variable

-- collected values as rows: those of a table, a record, or a value without parts as Value
abbrev pub rows_collected : Term × Shape → Term × Shape
rows_collected (c, tables cs) = (c, tables cs)
rows_collected (c, t) = (of (list t) (cons c nil), tables (row_columns t))

abbrev pub rows_given : Shape → List (Term × Shape) → Result (List (Term × Shape)) ℕ
rows_given t [] = Ok []
rows_given t (x ∷ xs) = and_then (given_variable t (rows_collected x))
    (λ y. put_first y (rows_given t xs))

-- `Collect`, `ClearCollect`, `Clear`
abbrev pub collect_to : (ℕ → Deed) → ℕ × Collection → List (Term × Shape) → Result (Term × Shape) ℕ
collect_to d c [] = Err rules.wrong_count
collect_to d c (x ∷ xs) = and_then (rows_given (shape c.1.ty) (x ∷ xs))
    (λ ys. Ok (done_by (d c.0) (firsts ys)))

abbrev pub collect_of : (ℕ → Deed) → Names → List ℕ → List JudgedPart → Result (Term × Shape) ℕ
collect_of d n x qs = and_then (values qs) (λ xs. if_known (collection_named n x)
    (λ (c : ℕ × Collection). collect_to d c xs))

abbrev pub clear_by : ℕ → Shape → Result (Term × Shape) ℕ
clear_by k (tables cs) = Ok (done_by (deed.Clear k) [])
clear_by k blanks = Ok nothing_done
clear_by k t = Err rules.wrong_type

abbrev pub clear_of : Names → List ℕ → List JudgedPart → Result (Term × Shape) ℕ
clear_of n x qs = if_known (collection_named n x)
    (λ (c : ℕ × Collection). clear_by c.0 (shape c.1.ty))

-- whether the fields that are columns join to their types: if so, a record that doesn't join has
-- another
abbrev pub joins_column : Option Shape → Shape → Bool
joins_column (Some t) u = joins_to t u
joins_column None u = true

abbrev pub fields_join : ColumnList → ColumnList → Bool
fields_join cs no_columns = true
fields_join cs (column n u ds) = joins_column (field_in n cs) u && fields_join cs ds

-- the rule of a record that isn't one of some of the columns: one column more, or one of another
-- type
abbrev pub misfit : ColumnList → ColumnList → ℕ
misfit cs ds = if fields_join cs ds then rules.unknown_column else rules.wrong_type

abbrev pub when_columns : ColumnList → ColumnList → Result (Term × Shape) ℕ
    → Result (Term × Shape) ℕ
when_columns cs ds r = if joins_to (records cs) (records ds) then r else Err (misfit cs ds)

-- a row that is named for a change: on a table by its ID, in a collection by all that it has. One
-- of type Blank is a blank record.
abbrev pub by_id : Term → ColumnList → Option Shape → Result (Term × Shape) ℕ
by_id c ds (Some numbers) = Ok (c, records ds)
by_id c ds (Some blanks) = Ok (c, records ds)
by_id c ds (Some t) = Err rules.wrong_type
by_id c ds None = Err rules.unknown_column

abbrev pub row_typed : Target → ColumnList → Term × Shape → Result (Term × Shape) ℕ
row_typed (rows.Table k) cs (c, records ds) = by_id c ds (field_in (codes "ID") ds)
row_typed (rows.Table k) cs (c, blanks) =
    Ok (
      coerced c (records (column (codes "ID") numbers no_columns)),
      records (column (codes "ID") numbers no_columns),
    )
row_typed (rows.Gathered k) cs (c, records ds) =
    when_columns cs ds (by_way (way (records ds) (records cs)) c (records cs))
row_typed (rows.Gathered k) cs (c, blanks) = Ok (coerced c (records cs), records cs)
row_typed t cs x = Err rules.wrong_type

abbrev pub rows_named_by : Target → ColumnList → List (Term × Shape)
    → Result (List (Term × Shape)) ℕ
rows_named_by t cs xs = all_or_lowest (row_typed t cs) xs

-- the columns that a change may set: of a table all but its ID
abbrev pub settable : Target → ColumnList → ColumnList
settable (rows.Table k) cs = columns_without (codes "ID") cs
settable (rows.Gathered k) cs = cs

-- a change: a record of some of these, as a table of one row. One of type Blank has no fields.
abbrev pub leaves_id : Target → ColumnList → Bool
leaves_id (rows.Table k) ds = not (is_some (field_in (codes "ID") ds))
leaves_id (rows.Gathered k) ds = true

abbrev pub row_of_one : Term → ColumnList → Term × Shape
row_of_one c ds = (of (list (records ds)) (cons c nil), tables ds)

abbrev pub change_of : Target → ColumnList → Term × Shape → Result (Term × Shape) ℕ
change_of t cs (c, records ds) =
    if joins_to (records cs) (records ds) && leaves_id t ds then Ok (row_of_one c ds) else Err
    (misfit (settable t cs) ds)
change_of t cs (c, blanks) = Ok (row_of_one (coerced c (records no_columns)) no_columns)
change_of t cs x = Err rules.wrong_type

abbrev pub changes_of : Target → ColumnList → List (Term × Shape) → Result (List (Term × Shape)) ℕ
changes_of t cs xs = all_or_lowest (change_of t cs) xs

-- `Patch`, which answers the whole row, and `Remove`
abbrev pub patch_to : Target × ColumnList → List (Term × Shape) → Result (Term × Shape) ℕ
patch_to r (base ∷ changes) =
    lowest (λ b ys. (of (act (deed.Patch r.0)) (cons b.0 (all (firsts ys))), records r.1))
    (row_typed r.0 r.1 base) (changes_of r.0 r.1 changes)
patch_to r xs = Err rules.wrong_count

abbrev pub patch_of : Names → List ℕ → List JudgedPart → Result (Term × Shape) ℕ
patch_of n x qs = and_then (values qs) (λ xs. by_rows (rows_named n x) (λ r. patch_to r xs))

abbrev pub remove_of : Names → List ℕ → List JudgedPart → Result (Term × Shape) ℕ
remove_of n x qs =
    and_then (values qs) (λ xs. by_rows (rows_named n x)
    (λ r. and_then (rows_named_by r.0 r.1 xs) (λ ys. Ok (done_by (deed.Remove r.0) (firsts ys)))))

-- the rows that are filtered for a change
abbrev pub filter_of : Target × ColumnList → Option (List ℕ) → List JudgedPart
    → Result (Term × Shape) ℕ
filter_of r a qs = node_made fun.Filter (value a (of (read (target_source r.0)) nil) (tables r.1)
    ∷ pieces qs)

-- `RemoveIf`, `UpdateIf`: the table may have a name for its rows
abbrev pub remove_if : Names → List JudgedPart → Result (Term × Shape) ℕ
remove_if n (target a x ∷ qs) =
    by_rows (rows_named n x) (λ r. and_then (filter_of r a qs)
    (λ f. Ok (done_by (deed.RemoveIf r.0) (f.0 ∷ []))))
remove_if n qs = Err rules.not_a_variable

abbrev pub update_to : Target × ColumnList → Option (List ℕ) → JudgedPart → List (Term × Shape)
    → Result (Term × Shape) ℕ
update_to r a q (x ∷ []) =
    and_then (filter_of r a (q ∷ [])) (λ f. and_then (change_of r.0 r.1 x)
    (λ y. Ok (done_by (deed.UpdateIf r.0) (f.0 ∷ y.0 ∷ []))))
update_to r a q xs = Err rules.wrong_count

abbrev pub update_if : Names → List JudgedPart → Result (Term × Shape) ℕ
update_if n (target a x ∷ q ∷ qs) = and_then (values qs)
    (λ xs. by_rows (rows_named n x) (λ r. update_to r a q xs))
update_if n qs = Err rules.not_a_variable

-- `Navigate`, `Notify`, `Reset`: a screen, a text, a control. Of one that takes no input nothing is
-- reset.
abbrev pub navigate_of : Names → List ℕ → List JudgedPart → Result (Term × Shape) ℕ
navigate_of n x qs = if_known (screen_named n x)
    (λ (s : ℕ × List ℕ). Ok (done_by (deed.Navigate s.0) []))

abbrev pub notify_of : List (Term × Shape) → Result (Term × Shape) ℕ
notify_of (x ∷ []) = and_then (by_way (way x.1 texts) x.0 texts)
    (λ y. Ok (done_by deed.Notify (y.0 ∷ [])))
notify_of xs = Err rules.wrong_count

abbrev pub reset_by : ℕ → Option Shape → Result (Term × Shape) ℕ
reset_by k (Some t) = Ok (done_by (deed.Reset k) [])
reset_by k None = Ok nothing_done

abbrev pub reset_of : Names → List ℕ → List JudgedPart → Result (Term × Shape) ℕ
reset_of n x qs = if_known (control_named n x)
    (λ (c : ℕ × ControlName). reset_by c.0 (input_type c.1.kind))

-- an acting call, whose parts are as many as it takes
abbrev pub acted : Names → Option ℕ → Acting → List JudgedPart → Result (Term × Shape) ℕ
acted n s acts.Set qs = by_first_name qs (set_of n)
acted n s acts.UpdateContext qs = update_of n s qs
acted n s acts.Collect qs = by_first_name qs (collect_of deed.Collect n)
acted n s acts.Clear qs = by_first_name qs (clear_of n)
acted n s acts.ClearCollect qs = by_first_name qs (collect_of deed.ClearCollect n)
acted n s acts.Patch qs = by_first_name qs (patch_of n)
acted n s acts.Remove qs = by_first_name qs (remove_of n)
acted n s acts.RemoveIf qs = remove_if n qs
acted n s acts.UpdateIf qs = update_if n qs
acted n s acts.Navigate qs = by_first_name qs (navigate_of n)
acted n s acts.Notify qs = and_then (values qs) notify_of
acted n s acts.Reset qs = by_first_name qs (reset_of n)

-- until the types of variables and collections are settled, no value is of a wrong type for one: a
-- call that gives it is done, and changes nothing
abbrev pub until_settled : Bool → Result (Term × Shape) ℕ → Result (Term × Shape) ℕ
until_settled b (Ok x) = Ok x
until_settled b (Err e) = if not b && nat_eq e rules.variable_types then Ok nothing_done else Err e
