-- What holds of a keeper with kept totals at any time.
use Rattle.std.specs.Prelude.{◌≡◌, Bool, true, false, cond, List, ℤ, Option, None}
use Rattle.fx_core.specs.declared.schema.Schema.{Schema}
use Rattle.row_keeper.specs.Shaped.{Shaped}
use Rattle.row_keeper.specs.Tables.{Tables}
use Rattle.row_counts.specs.Right.{AreCounted}

-- the schema that a keeper is shaped by, where its rows are counted
abbrev pub shape_if : Bool → Option Schema → Option Schema
shape_if is_filled schema = cond is_filled schema None

abbrev pub shaped_if : Bool → Bool → Shaped → Shaped
shaped_if is_filled was_filled s = record {
  now = shape_if is_filled s.now;
  then = shape_if was_filled s.then;
}

-- what holds of a keeper with kept totals: where it is filled its books are right, now and as the
-- transaction began; and between two transactions nothing has changed since
pub record IsTallied (is_filled was_filled : Bool) (now then : List (List (List ℤ)))
    (shaped : Shaped) (is_begun : Bool) (told began : Option Tables) : Type 0 where
  pub now_counted : is_filled ≡ true → AreCounted shaped.now now told
  pub then_counted : was_filled ≡ true → is_begun ≡ true → AreCounted shaped.then then began
  pub still : is_begun ≡ false → then ≡ now
  pub still_filled : is_begun ≡ false → was_filled ≡ is_filled
