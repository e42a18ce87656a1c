-- What is counted of the rows of a table as they are read, page by page.
use Rattle.std.specs.Prelude.{◌≡◌, ℕ, suc, ◌<◌, ◌^◌, List, [], ◌∷◌, ◌++◌, length, filter, nat_lt, ℤ}
use Rattle.std.specs.Prelude.{Option, Some, None, IfSome, IsSomeAnd, slice_get}
use Rattle.std.specs.List.{All}
use Rattle.fx_core.specs.declared.schema.TableShape.{TableShape}
use Rattle.fx_value.specs.Keys.{key_bytes}
use Rattle.number_bags.specs.Rising.{AreSame}
use Rattle.row_queries.specs.Conditions.{always}
use Rattle.row_queries.specs.TableRows.{AreInIdOrder, id_value}
use Rattle.row_queries.specs.declared.queries.Query.{Query}
use Rattle.row_queries.specs.declared.ranges.KeyRange.{KeyRange}
use Rattle.row_queries.specs.declared.rows.Row.{Row}
use Rattle.row_keeper.specs.Tables.{Tables, state_at}
use Rattle.row_counts.specs.Columns.{column_of}
use Rattle.row_books.specs.Numbers.{now_of, then_of}
use Rattle.row_counts.specs.Right.{AreInRanges, AreRowNumbers}
use Rattle.row_books.specs.declared.book.Book.{Book}

-- the first bytes after a key, and the range of the keys after one
abbrev pub after_key : List ℕ → List ℕ
after_key key = key ++ 0 ∷ []

abbrev pub beyond : List ℕ → KeyRange
beyond key = record { from = after_key key; upto = None }

-- the first thousand rows of greater numbers
abbrev pub page_after : ℕ → ℕ → Query
page_after table after = record {
  table = table;
  column = 0;
  ranges = beyond (key_bytes (id_value after)) ∷ [];
  test = always;
  order = None;
  take = Some 1000;
}

-- the rows of numbers greater than this one
abbrev pub past : ℕ → List Row → List Row
past after rows = filter (λ r. nat_lt after r.id) rows

-- this is the number of the last of the rows
pub record IsLastOf (rows : List Row) (last : ℕ) : Type 0 where
  pub before : ℕ
  pub row : Row
  pub is_last : suc before ≡ length rows
  pub is_there : slice_get rows before ≡ Some row
  pub numbered : row.id ≡ last

-- what is counted are the numbers of these rows, in each column
abbrev pub CountsThese : List Row → List (List ℤ) → Type 0
CountsThese rows counted = (column : ℕ) → IfSome (slice_get counted column)
    (λ zs. AreSame zs (column_of rows column))

-- Rows more are counted, behind others, where all stand by rising numbers. What is counted of `ID`
-- stays numbers of rows, also where they don't.
pub record CountsMore (rows : List Row) (old new : List (List ℤ)) : Type 0 where
  pub these : (seen : List Row) → AreInIdOrder (seen ++ rows) → CountsThese seen old
      → CountsThese (seen ++ rows) new
  pub numbers : IfSome (slice_get old 0) AreRowNumbers → IfSome (slice_get new 0) AreRowNumbers
  pub columns : length new ≡ length old

-- of rows these are counted, and all others have greater numbers
pub record IsReadTo (after : ℕ) (rows : List Row) (counted : List (List ℤ)) : Type 0 where
  pub seen : List Row
  pub split : rows ≡ seen ++ past after rows
  pub counts : CountsThese seen counted

-- rows of 32-bit numbers that rise are counted up to this one
pub record IsReading (after : ℕ) (rows : List Row) (counted : List (List ℤ)) : Type 0 where
  pub rising : AreInIdOrder rows
  pub few : All (λ (r : Row). r.id < 2 ^ 32) rows
  pub read : IsReadTo after rows counted

-- they are counted up to the last number of a page, or all are where there is no page behind it
abbrev pub IsReadOn : Option ℕ → List Row → List (List ℤ) → Type 0
IsReadOn None rows counted = CountsThese rows counted
IsReadOn (Some last) rows counted = IsReading last rows counted

-- a page more of a table is counted, and this is its last number, unless no page is behind it
pub record CountsPage (told : Option Tables) (table after : ℕ) (last : Option ℕ)
    (old new : List (List ℤ)) : Type 0 where
  pub reads : IfSome told (λ t. IsReading after (state_at t.states table).rows old
      → IsReadOn last (state_at t.states table).rows new)
  pub proper : IfSome told (λ t. AreInRanges (state_at t.states table).rows)
  pub numbers : IfSome (slice_get old 0) AreRowNumbers → IfSome (slice_get new 0) AreRowNumbers
  pub columns : length new ≡ length old

-- what is counted of a table is right, as the transaction began too
pub record IsFilled (many : ℕ) (told : Option Tables) (table : ℕ) (b : Book) : Type 0 where
  pub right : IfSome told (λ t. CountsThese (state_at t.states table).rows (now_of b))
  pub proper : IfSome told (λ t. AreInRanges (state_at t.states table).rows)
  pub numbers : IfSome (slice_get (now_of b) 0) AreRowNumbers
  pub columns : length (now_of b) ≡ suc many
  pub still : then_of b ≡ now_of b

-- the same of the first tables
pub record AreFilled (shapes : List TableShape) (told : Option Tables) (upto : ℕ)
    (books : List Book) : Type 0 where
  pub count : length books ≡ upto
  pub each : (k : ℕ) (t : TableShape) → k < upto → slice_get shapes k ≡ Some t
      → IsSomeAnd (slice_get books k) (IsFilled (length t.columns) told k)
