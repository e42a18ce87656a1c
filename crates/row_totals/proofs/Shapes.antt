-- A keeper that is shaped is filled, and shaped by its inner one.
use Rattle.std.proofs.Common.{◌≡◌, ℕ, Bool, true, false, Option, Some, None, refl}
use Rattle.std.specs.Prelude.{IsSome, IsSomeAnd, slice_get}
use Rattle.fx_core.specs.declared.schema.Schema.{Schema}
use Rattle.fx_core.specs.declared.schema.TableShape.{TableShape}
use Rattle.row_keeper.specs.Tables.{columns_at, shapes_of}
use Rattle.row_totals.specs.Kept.{shape_if}

pub fit_inside : (is : Bool) (inner : Option Schema) (table : ℕ) (P : TableShape → Type 0) → IsSomeAnd (slice_get (shapes_of (shape_if is inner)) table) P → IsSomeAnd (slice_get (shapes_of inner) table) P
fit_inside true inner table P h = h
fit_inside false inner table P h = absurd h

pub some_of : {A : Type 0} (o : Option A) (P : A → Type 0) → IsSomeAnd o P → IsSome o
some_of None P h = absurd h
some_of (Some x) P h = refl

pub some_inside : (is : Bool) (inner : Option Schema) (table : ℕ) → IsSome (slice_get (shapes_of (shape_if is inner)) table) → IsSome (slice_get (shapes_of inner) table)
some_inside true inner table h = h
some_inside false inner table h = absurd cc

pub columns_inside : (is : Bool) (inner : Option Schema) (table : ℕ) (P : TableShape → Type 0) → IsSomeAnd (slice_get (shapes_of (shape_if is inner)) table) P → columns_at (shapes_of inner) table ≡ columns_at (shapes_of (shape_if is inner)) table
columns_inside true inner table P h = refl
columns_inside false inner table P h = absurd h
