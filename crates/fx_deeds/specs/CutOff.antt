-- What a deed has done that was cut off on the way.
use Rattle.std.specs.Prelude.{◌≡◌, ◌⊎◌, ℕ, List, [], ◌∷◌, map, take}
use Rattle.fx_types.specs.Values.{Data}
use Rattle.fx_semantics.specs.Around.{record_of}
use Rattle.fx_semantics.specs.Rows.{rows_in}
use Rattle.fx_value.specs.Columns.{Row}
use Rattle.fx_core.specs.declared.deeds.Deed.{Deed}
use Rattle.fx_core.specs.declared.deeds.Deed.TheVariants as deed
use Rattle.fx_core.specs.declared.deeds.Target.{Target}
use Rattle.fx_core.specs.declared.deeds.Target.TheVariants as target
use Rattle.fx_core.specs.declared.sources.Source.TheVariants as source
use Rattle.fx_deeds.specs.Collections.{AreTaken}
use Rattle.fx_deeds.specs.Deeds.{AreRemoved, UpdatesContext, AreUpdated, OfTable, OrError}
use Rattle.fx_deeds.specs.Deeds.{OrErrorAmong}
use Rattle.fx_deeds.specs.Done.{IsDeed, IsUpdate, errors_in}
use Rattle.fx_deeds.specs.RowValues.{columns_of_rows}
use Rattle.fx_deeds.specs.State.{EvalFrame, WorldState}

-- what was cut off has done nothing yet, or what P does with the first so many of its values
abbrev pub UpTo : {A : Type 0} → (WorldState A → ℕ → Data → WorldState A → Type 0) → WorldState A
    → WorldState A → Type 0
UpTo P s u = (u ≡ s) ⊎ ((n : ℕ) × (x : Data) × P s n x u)

-- what a deed does with the first n of its variables or rows; one that makes a single change makes
-- it
abbrev pub IsBegun : {A : Type 0} → EvalFrame → Deed → List Data → WorldState A → ℕ → Data
    → WorldState A → Type 0
IsBegun f (deed.UpdateContext ks) ys s n x t = UpdatesContext (take n ks) (take n ys) s x t
IsBegun f (deed.Remove (target.Table k)) ys s n x t
    = OrErrorAmong ys (AreRemoved k (take n ys) s x t) s x t
IsBegun f (deed.Remove (target.Gathered k)) ys s n x t =
    OrErrorAmong ys (AreTaken (columns_of_rows (f.types (source.Gathered k))) k (take n ys) s x t) s
    x t
IsBegun f (deed.RemoveIf (target.Table k)) (y ∷ []) s n x t =
    OrError y (AreRemoved k (map record_of (take n (rows_in y))) s x t) s x t
IsBegun f d ys s n x t = IsDeed f d ys s x t

-- the same of `UpdateIf`
abbrev pub IsUpdateBegun : {A : Type 0} → EvalFrame → Target → List Row → List Data → WorldState A
    → ℕ → Data → WorldState A → Type 0
IsUpdateBegun f (target.Table k) rows changes s n x t =
    OrErrorAmong (errors_in changes) (OfTable f.schema k
    (λ p. AreUpdated p k (take n rows) changes s x t)) s x t
IsUpdateBegun f p rows changes s n x t = IsUpdate f p rows changes s x t

-- WHAT A DEED HAS DONE THAT WAS CUT OFF, from the values of its parts
abbrev pub CutDeed : {A : Type 0} → EvalFrame → Deed → List Data → WorldState A → WorldState A
    → Type 0
CutDeed f d ys s u = UpTo (IsBegun f d ys) s u

-- the same of `UpdateIf`, from the rows of its filter and the change of each
abbrev pub CutUpdate : {A : Type 0} → EvalFrame → Target → List Row → List Data → WorldState A
    → WorldState A → Type 0
CutUpdate f p rows changes s u = UpTo (IsUpdateBegun f p rows changes) s u
