-- That what holds of a keeper with kept totals is a fact.
use Rattle.std.specs.Prelude.{List, [], ◌∷◌, ℤ, Bool, Option, Some, None, IfSome}
use Rattle.std.specs.List.{AllByRecursion}
use Rattle.std.proofs.Math.Bool.{Bool-set}
use Rattle.std.proofs.Props.{props}
use Rattle.fx_types.specs.Values.{Data, blank, number, text, boolean, date, rec, tab, fault}
use Rattle.fx_core.specs.declared.schema.Schema.{Schema}
use Rattle.fx_core.specs.declared.schema.TableShape.{TableShape}
use Rattle.fx_value.specs.Keys.{IsProper}
use Rattle.number_bags.specs.Rising.{AreSame}
use Rattle.row_queries.specs.declared.rows.Row.{Row}
use Rattle.row_keeper.specs.Shaped.{Shaped}
use Rattle.row_keeper.specs.Tables.{Tables}
use Rattle.row_counts.specs.Right.{AreComplete, AreCounted, AreInRanges, AreOf, AreRight}
use Rattle.row_counts.specs.Right.{AreRowNumbers, CountRows, HaveProperRows, IsRowNumber}
use Rattle.row_totals.specs.Kept.{IsTallied}

proper_prop : (d : Data) → IsProp (IsProper d)
proper_prop blank = hlevel props
proper_prop (number z) = hlevel props
proper_prop (text x) = hlevel (Bool-set, props)
proper_prop (boolean b) = hlevel props
proper_prop (date z) = hlevel props
proper_prop (rec fs) = hlevel props
proper_prop (tab rs) = hlevel props
proper_prop (fault k m) = hlevel props

cells_prop : (ds : List Data) → IsProp (AllByRecursion IsProper ds)
cells_prop [] = hlevel props
cells_prop (d ∷ ds) = hlevel (proper_prop d, cells_prop ds, props)

ranges_prop : (rows : List Row) → IsProp (AreInRanges rows)
ranges_prop [] = hlevel props
ranges_prop (r ∷ rows) = hlevel (cells_prop r.cells, ranges_prop rows, props)

proper_rows_prop : (shapes : List TableShape) (t : Tables) → IsProp (HaveProperRows shapes t)
proper_rows_prop shapes t = hlevel (ranges_prop, props)

number_prop : (z : ℤ) → IsProp (IsRowNumber z)
number_prop z = hlevel props

numbers_prop : (zs : List ℤ) → IsProp (AreRowNumbers zs)
numbers_prop zs = hlevel (number_prop, props)

same_prop : (o : Option (List ℤ)) (xs : List ℤ) → IsProp (IfSome o (λ zs. AreSame zs xs))
same_prop None xs = hlevel props
same_prop (Some zs) xs = hlevel props

of_prop : (counted : List (List (List ℤ))) (t : Tables) → IsProp (AreOf counted t)
of_prop counted t = hlevel (same_prop, props)

right_prop : (counted : List (List (List ℤ))) (told : Option Tables)
    → IsProp (AreRight counted told)
right_prop counted None = hlevel props
right_prop counted (Some t) = of_prop counted t

some_numbers_prop : (o : Option (List ℤ)) → IsProp (IfSome o AreRowNumbers)
some_numbers_prop None = hlevel props
some_numbers_prop (Some zs) = numbers_prop zs

rows_prop : (counted : List (List (List ℤ))) → IsProp (CountRows counted)
rows_prop counted = hlevel (some_numbers_prop, props)

complete_prop : (shapes : List TableShape) (counted : List (List (List ℤ)))
    → IsProp (AreComplete shapes counted)
complete_prop shapes counted = hlevel (Bool-set, props)

told_prop : (shapes : List TableShape) (told : Option Tables)
    → IsProp (IfSome told (HaveProperRows shapes))
told_prop shapes None = hlevel props
told_prop shapes (Some t) = proper_rows_prop shapes t

counted_prop : (schema : Option Schema) (counted : List (List (List ℤ))) (told : Option Tables)
    → IsProp (AreCounted schema counted told)
counted_prop schema counted told = hlevel (right_prop, rows_prop, complete_prop, told_prop, props)

pub tallied_prop : {is_filled was_filled : Bool} {now then : List (List (List ℤ))}
    {shaped : Shaped} {is_begun : Bool} {told began : Option Tables}
    → IsProp (IsTallied is_filled was_filled now then shaped is_begun told began)
tallied_prop = hlevel (counted_prop, Bool-set, props)
