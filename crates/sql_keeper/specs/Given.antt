-- What queries give of rows.
use Rattle.std.specs.Prelude.{◌≡◌, List}
use Rattle.row_queries.specs.Queries.{AreAsked, given_of}
use Rattle.row_queries.specs.declared.queries.Query.{Query}
use Rattle.row_queries.specs.declared.rows.Row.{Row}

-- these are the rows that a query gives, of some rows that it may ask
abbrev pub IsGivenOf : Query → List Row → List Row → Type 0
IsGivenOf q rows given = (asked : List Row) × AreAsked q rows asked × (given ≡ given_of q asked)
