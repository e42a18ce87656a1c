-- The queries of the statements: the tests of their rows, what they show and in which order.
use Rattle.std.specs.Prelude.{ℕ, pos, negsuc, false, List, [], ◌∷◌, None}
use Rattle.sqlite.specs.declared.types.Value.TheVariants.{Null, Int}
use Rattle.sqlite.specs.Collation.TheVariants.{Binary}
use Rattle.sqlite.specs.Term.{Term, lit, col, op1, op2}
use Rattle.sqlite.specs.Query.{Query, inner, end}
use Rattle.sqlite_value.specs.declared.keys.Key.{Key}
use Rattle.sqlite_sql.specs.declared.ops.UnaryOp.TheVariants.{ToNumeric}
use Rattle.sqlite_sql.specs.declared.ops.BinaryOp.TheVariants.{Compare}
use Rattle.sqlite_sql.specs.declared.ops.CompareOp.{CompareOp}
use Rattle.sqlite_sql.specs.declared.ops.CompareOp.TheVariants.{Eq, Ge, Le, Lt}

-- SELECT .. FROM t WHERE .. ORDER BY ..
abbrev pub ordered : ℕ → List Term → List Term → List (Term × Key) → Query
ordered tree tests shown order = record {
  from = inner tree end;
  filter = tests;
  group = None;
  project = shown;
  distinct = false;
  collations = [];
  order = order;
  limit = lit (Int (negsuc 0));
  offset = lit (Int (pos 0));
}

abbrev pub plainly : ℕ → List Term → List Term → Query
plainly tree tests shown = ordered tree tests shown []

-- a column of whole numbers beside a parameter
abbrev pub number_test : CompareOp → ℕ → ℕ → Term
number_test op at param = op2 (Compare op Binary) (col 1 at) (op1 ToNumeric (col 0 param))

-- a column of bytes, or the rowid, beside a parameter
abbrev pub value_test : CompareOp → ℕ → ℕ → Term
value_test op at param = op2 (Compare op Binary) (col 1 at) (col 0 param)

abbrev pub rising : Key
rising = record { collation = Binary; descending = false }

abbrev pub is_first : List Term
is_first = op2 (Compare Eq Binary) (col 1 0) (lit (Int (pos 1))) ∷ []

abbrev pub body_query : Query
body_query = plainly 0 is_first (col 1 2 ∷ [])

abbrev pub lasts_query : Query
lasts_query = ordered 1 [] (col 1 0 ∷ col 1 2 ∷ []) ((col 1 0, rising) ∷ [])

abbrev pub line_tests : List Term
line_tests = number_test Eq 1 0 ∷ number_test Ge 2 1 ∷ number_test Le 2 2 ∷ []

abbrev pub lines_query : Query
lines_query = ordered 2 line_tests (col 1 2 ∷ col 1 3 ∷ []) ((col 1 2, rising) ∷ [])

abbrev pub mark_tests : List Term
mark_tests = number_test Eq 1 0 ∷ number_test Eq 2 1 ∷ value_test Ge 3 2 ∷ value_test Lt 3 3 ∷ []

abbrev pub marks_query : Query
marks_query = ordered 4 mark_tests (col 1 3 ∷ col 1 4 ∷ [])
    ((col 1 3, rising) ∷ (col 1 4, rising) ∷ [])

-- which rows are changed or deleted
abbrev pub is_last : List Term
is_last = value_test Eq 0 1 ∷ []

abbrev pub is_set_line : List Term
is_set_line = number_test Eq 1 1 ∷ number_test Eq 2 2 ∷ []

abbrev pub is_line : List Term
is_line = number_test Eq 1 0 ∷ number_test Eq 2 1 ∷ []

abbrev pub is_mark : List Term
is_mark = number_test Eq 1 0 ∷ number_test Eq 2 1 ∷ value_test Eq 3 2 ∷ number_test Eq 4 3 ∷ []

-- what the columns of a changed row become, behind its rowid
abbrev pub set_last : List Term
set_last = col 1 0 ∷ lit Null ∷ col 0 0 ∷ []

abbrev pub set_line : List Term
set_line = col 1 0 ∷ col 1 1 ∷ col 1 2 ∷ col 0 0 ∷ []

-- the columns of a new row, its rowid first
abbrev pub new_body : List Term
new_body = lit (Int (pos 1)) ∷ lit Null ∷ col 0 0 ∷ []

abbrev pub new_last : List Term
new_last = col 0 0 ∷ lit Null ∷ col 0 1 ∷ []

abbrev pub new_line : List Term
new_line = lit Null ∷ col 0 0 ∷ col 0 1 ∷ col 0 2 ∷ []

abbrev pub new_mark : List Term
new_mark = lit Null ∷ col 0 0 ∷ col 0 1 ∷ col 0 2 ∷ col 0 3 ∷ []
