-- What a deed does with the values of its parts, over what stays.
use Rattle.std.specs.Prelude.{◌++◌, List, [], ◌∷◌, true, map, None}
use Rattle.fx_types.specs.Values.{Data, boolean, fault}
use Rattle.fx_semantics.specs.Around.{record_of}
use Rattle.fx_semantics.specs.Rows.{rows_in}
use Rattle.fx_value.specs.Columns.{Row}
use Rattle.fx_core.specs.declared.deeds.Deed.{Deed}
use Rattle.fx_core.specs.declared.deeds.Deed.TheVariants as deed
use Rattle.fx_core.specs.declared.deeds.Target.{Target}
use Rattle.fx_core.specs.declared.deeds.Target.TheVariants as target
use Rattle.fx_core.specs.declared.sources.Source.TheVariants as source
use Rattle.session_state.specs.declared.change.Change.TheVariants as change
use Rattle.fx_deeds.specs.Collections.{AreTaken, AreTakenIf, AreUpdatedIn, GathersRows, IsPatchedIn}
use Rattle.fx_deeds.specs.Collections.{rows_held}
use Rattle.fx_deeds.specs.Deeds.{AreRemoved, UpdatesContext, AreUpdated, ChangeGives, IsPatched}
use Rattle.fx_deeds.specs.Deeds.{Makes, OfTable, OrError, OrErrorAmong, text_or_none}
use Rattle.fx_deeds.specs.RowValues.{columns_of_rows, rows_among, values_among}
use Rattle.fx_deeds.specs.State.{EvalFrame, WorldState}

-- `Set` and `UpdateContext` take errors, and of the others the first error among the values is the
-- answer
abbrev pub IsDeed : {A : Type 0} → EvalFrame → Deed → List Data → WorldState A → Data → WorldState A
    → Type 0
IsDeed f (deed.Set k) (y ∷ []) s x t = ChangeGives (change.Global k) y (boolean true) s x t
IsDeed f (deed.UpdateContext ks) ys s x t = UpdatesContext ks ys s x t
IsDeed f (deed.Collect k) ys s x t = OrErrorAmong ys
    (GathersRows k (rows_held k s ++ rows_among ys) (boolean true) s x t) s x t
IsDeed f (deed.Clear k) [] s x t = Makes (change.Empty k) (boolean true) s x t
IsDeed f (deed.ClearCollect k) ys s x t = OrErrorAmong ys
    (GathersRows k (rows_among ys) (boolean true) s x t) s x t
IsDeed f (deed.Patch (target.Table k)) (b ∷ ys) s x t
    = OrErrorAmong (b ∷ ys) (IsPatched f.schema k b ys s x t) s x t
IsDeed f (deed.Patch (target.Gathered k)) (b ∷ ys) s x t =
    OrErrorAmong (b ∷ ys) (IsPatchedIn (columns_of_rows (f.types (source.Gathered k))) k b ys s x t)
    s x t
IsDeed f (deed.Remove (target.Table k)) ys s x t = OrErrorAmong ys (AreRemoved k ys s x t) s x t
IsDeed f (deed.Remove (target.Gathered k)) ys s x t =
    OrErrorAmong ys (AreTaken (columns_of_rows (f.types (source.Gathered k))) k ys s x t) s x t
IsDeed f (deed.RemoveIf (target.Table k)) (y ∷ []) s x t
    = OrError y (AreRemoved k (map record_of (rows_in y)) s x t) s x t
IsDeed f (deed.RemoveIf (target.Gathered k)) (y ∷ []) s x t
    = OrError y (AreTakenIf k (rows_in y) s x t) s x t
IsDeed f (deed.Navigate k) [] s x t = Makes (change.Screen k) (boolean true) s x t
IsDeed f deed.Notify (y ∷ []) s x t = OrError y
    (Makes (change.Notice (text_or_none y)) (boolean true) s x t) s x t
IsDeed f (deed.Reset k) [] s x t = Makes (change.Input k None) (boolean true) s x t
IsDeed f d ys s x t = ⊥

-- what may be an error in a change: it itself, or the values in its fields
abbrev pub errors_of : Data → List Data
errors_of (fault k cs) = fault k cs ∷ []
errors_of d = values_among (rows_in d)

-- the same of changes, one after another
abbrev pub errors_in : List Data → List Data
errors_in [] = []
errors_in (d ∷ ds) = errors_of d ++ errors_in ds

-- `UpdateIf`, from the rows of its filter and the change of each: the first error among the changes
-- is the answer
abbrev pub IsUpdate : {A : Type 0} → EvalFrame → Target → List Row → List Data → WorldState A → Data
    → WorldState A → Type 0
IsUpdate f (target.Table k) rows changes s x t =
    OrErrorAmong (errors_in changes) (OfTable f.schema k (λ p. AreUpdated p k rows changes s x t)) s
    x t
IsUpdate f (target.Gathered k) rows changes s x t =
    OrErrorAmong (errors_in changes) (AreUpdatedIn (columns_of_rows (f.types (source.Gathered k))) k
    rows changes s x t) s x t
