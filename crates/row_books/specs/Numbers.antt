-- The numbers in the columns of tables, and what a change of a row does to them.
use Rattle.std.specs.Prelude.{◌≡◌, ◌*◌, ◌==◌, ◌<◌, ◌^◌, ℕ, IfSome, IsSomeAnd, cond, length, List}
use Rattle.std.specs.Prelude.{[], ◌∷◌, map, ℤ, pos, Option, Some, None}
use Rattle.std.specs.Prelude.{option_map, set, slice_get, unwrap_or}
use Rattle.fx_types.specs.Values.{Data}
use Rattle.fx_types.specs.declared.aggregates.Totals.{Totals}
use Rattle.fx_value.specs.Aggregates.{SumsUp, number_if_one}
use Rattle.number_bags.specs.Kept.{AreInRange}
use Rattle.number_bags.specs.Bags.{IsReady, now_in, then_in}
use Rattle.number_bags.specs.Rising.{IsRising, times, with_option, without_option}
use Rattle.number_bags.specs.declared.bags.NumberBag.{NumberBag}
use Rattle.row_books.specs.declared.book.Book.{Book}
use Rattle.row_books.specs.declared.books.Books.{Books}
use Rattle.row_books.specs.declared.numbers.Numbers.{Numbers}

-- ---- of rows

-- the number of a row, as one of the column `ID`
abbrev pub row_number : ℕ → ℤ
row_number id = pos (id * 10000)

-- the number in each of some values, if it is one
abbrev pub numbers_of : List Data → List (Option ℤ)
numbers_of values = map number_if_one values

-- the number of a place, if there is one
abbrev pub number_at : List (Option ℤ) → ℕ → Option ℤ
number_at numbers place = unwrap_or (slice_get numbers place) None

-- the numbers of a row, by columns
abbrev pub by_columns : Numbers → List (Option ℤ)
by_columns n = n.id ∷ n.cells.items

-- ---- what is counted

-- the numbers that are counted of a table, by columns, now and as the transaction began
abbrev pub now_of : Book → List (List ℤ)
now_of b = now_in b.ids ∷ map now_in b.columns.items

abbrev pub then_of : Book → List (List ℤ)
then_of b = then_in b.ids ∷ map then_in b.columns.items

-- the books as the transaction began: those that were put aside, or those that are there
abbrev pub books_then : List Book → Option (List Book) → List Book
books_then tables None = tables
books_then tables (Some aside) = aside

-- the same of all tables
abbrev pub tables_now : Books → List (List (List ℤ))
tables_now b = map now_of b.tables.items

abbrev pub tables_then : Books → List (List (List ℤ))
tables_then b = map then_of (books_then b.tables.items (option_map (λ a. a.items) b.aside))

-- what is counted of a column of a table
abbrev pub column_in : List (List (List ℤ)) → ℕ → ℕ → Option (List ℤ)
column_in tables table column = slice_get (unwrap_or (slice_get tables table) []) column

-- ---- changes

-- a number goes, where it is counted, and one comes
abbrev pub changed : Option ℤ → Option ℤ → List ℤ → List ℤ
changed out put zs = with_option put (without_option out zs)

-- the same in each column
abbrev pub IsChanged : List (Option ℤ) → List (Option ℤ) → List (List ℤ) → List (List ℤ) → Type 0
IsChanged out put old new = (k : ℕ) → slice_get new k
    ≡ option_map (changed (number_at out k) (number_at put k)) (slice_get old k)

-- the same in each column of a table
abbrev pub IsChangedAt : ℕ → List (Option ℤ) → List (Option ℤ) → List (List (List ℤ))
    → List (List (List ℤ)) → Type 0
IsChangedAt table out put old new = (t k : ℕ) → column_in new t k ≡ cond (t == table)
    (option_map (changed (number_at out k) (number_at put k)) (column_in old t k))
    (column_in old t k)

-- it was made ready that a number goes out of each bag, and that another comes
abbrev pub AreReady : List (Option ℤ) → List NumberBag → Type 0
AreReady out bags = (k : ℕ) (b : NumberBag) → slice_get bags k ≡ Some b
    → IsReady b (number_at out k)

-- the same for the numbers of a row
pub record IsReadyBook (b : Book) (out : Numbers) : Type 0 where
  pub ids : IsReady b.ids out.id
  pub columns : AreReady out.cells.items b.columns.items

-- the same in a table, where it is there
abbrev pub IsReadyAt : ℕ → Books → Numbers → Type 0
IsReadyAt table books out = (b : Book) → slice_get books.tables.items table ≡ Some b
    → IsReadyBook b out

-- no numbers in any column
abbrev pub AreEmpty : List (List ℤ) → Type 0
AreEmpty columns = (k : ℕ) → IfSome (slice_get columns k) (λ zs. zs ≡ [])

-- what the numbers of a column come to, which are such as a program can hold, where it is there
pub record IsTotal (zs : List ℤ) (totals : Totals) : Type 0 where
  pub sums : SumsUp zs totals
  pub in_range : AreInRange zs
  pub rising : IsRising zs
  pub few : length zs < 2 ^ 32

abbrev pub IsTotalOf : Option (List ℤ) → Option Totals → Type 0
IsTotalOf None totals = totals ≡ None
IsTotalOf (Some zs) totals = IsSomeAnd totals (IsTotal zs)

-- how many numbers there are, where the column is there
abbrev pub IsCountOf : Option (List ℤ) → Option ℕ → Type 0
IsCountOf None n = n ≡ None
IsCountOf (Some zs) n = IsSomeAnd n (λ k. (k ≡ length zs) × (k < 2 ^ 32))

-- a number that comes, unless it is counted
abbrev pub fresh : ℤ → List ℤ → Option ℤ
fresh z zs = cond (times z zs == 0) (Some z) None

-- what stands at a place goes so, and the rest stays
pub record ChangesAt {X : Type 0} (place : ℕ) (P : X → X → Type 0) (old new : List X) : Type 0 where
  pub before : X
  pub after : X
  pub is_there : slice_get old place ≡ Some before
  pub goes : P before after
  pub stands : new ≡ set old place after

-- the same numbers stand in a bag
abbrev pub Stands : NumberBag → NumberBag → Type 0
Stands b c = (now_in c ≡ now_in b) × (then_in c ≡ then_in b)

-- and it is ready that a number goes
abbrev pub IsPrepared : Option ℤ → NumberBag → NumberBag → Type 0
IsPrepared out b c = (now_in c ≡ now_in b) × (then_in c ≡ then_in b) × IsReady c out

-- a number went, where it was there, and one came
abbrev pub IsCarried : Option ℤ → Option ℤ → NumberBag → NumberBag → Type 0
IsCarried out put b c = (now_in c ≡ changed out put (now_in b)) × (then_in c ≡ then_in b)

-- the same of the numbers of a row, in the book of its table
abbrev pub StandsBook : Book → Book → Type 0
StandsBook b c = (now_of c ≡ now_of b) × (then_of c ≡ then_of b)

abbrev pub IsPreparedBook : Numbers → Book → Book → Type 0
IsPreparedBook out b c = (now_of c ≡ now_of b) × (then_of c ≡ then_of b) × IsReadyBook c out

abbrev pub IsCarriedBook : Numbers → Numbers → Book → Book → Type 0
IsCarriedBook out put b c = IsChanged (by_columns out) (by_columns put) (now_of b) (now_of c)
    × (then_of c ≡ then_of b)

-- a number that comes into a table, unless it is counted there
abbrev pub fresh_among : ℤ → Option (List ℤ) → Option ℤ
fresh_among z None = None
fresh_among z (Some zs) = fresh z zs

abbrev pub fresh_in : List (List (List ℤ)) → ℕ → ℕ → Option ℤ
fresh_in tables table id = fresh_among (row_number id) (column_in tables table 0)
