-- Types that are one.
use Rattle.std.proofs.Common.{◌≡◌, ℕ, List, Bool, true, false, ◌&&◌, refl, ap, bytes_eq, if◌then◌else◌}
use Rattle.std.specs.Prelude.{Option, Some, None}
use Rattle.std.proofs.lemmas.Slice.Eq.{bytes_eq-Decides}
use Rattle.std.proofs.lemmas.Bool.{and_parts}
use Rattle.fx_types.specs.Types.{Shape, blanks, numbers, texts, booleans, dates, records, tables, ColumnList, no_columns, column}
use Rattle.fx_value.specs.Join.{join_of}
use Rattle.fx_typing.specs.Ways.{same_shape, same_columns, same, changed, refused, joined_way, widening, way, is_scalar, is_comparable}
use Rattle.fx_typing.specs.Local.{exact_way, branch_way}

pub bytes_same : (xs ys : List ℕ) → bytes_eq xs ys ≡ true → xs ≡ ys
bytes_same xs ys e = (bytes_eq-Decides xs ys).0 e

mutual
  pub shape_same : (s t : Shape) → same_shape s t ≡ true → s ≡ t
  shape_same blanks blanks e = refl
  shape_same numbers numbers e = refl
  shape_same texts texts e = refl
  shape_same booleans booleans e = refl
  shape_same dates dates e = refl
  shape_same (records cs) (records ds) e = ap records (columns_same cs ds e)
  shape_same (tables cs) (tables ds) e = ap tables (columns_same cs ds e)
  shape_same s t e = absurd cc

  pub columns_same : (cs ds : ColumnList) → same_columns cs ds ≡ true → cs ≡ ds
  columns_same no_columns no_columns e = refl
  columns_same (column n t cs) (column m u ds) e =
      let p = and_parts (bytes_eq n m) (same_shape t u && same_columns cs ds) e in
      let q = and_parts (same_shape t u) (same_columns cs ds) p.1 in
      λ i. column (bytes_same n m p.0 i) (shape_same t u q.0 i) (columns_same cs ds q.1 i)
  columns_same cs ds e = absurd cc

joined_never_same : (o : Option Shape) (t : Shape) → joined_way o t ≡ same → ⊥
joined_never_same None t e = absurd cc
joined_never_same (Some u) t e = by_test (same_shape u t) e
  where
    by_test : (b : Bool) → (if b then changed else refused) ≡ same → ⊥
    by_test true e = absurd cc
    by_test false e = absurd cc

widening_same : (s t : Shape) → widening s t ≡ same → s ≡ t
widening_same s t e = by_test (same_shape s t) refl e
  where
    by_test : (b : Bool) → same_shape s t ≡ b → (if b then same else joined_way (join_of s t) t) ≡ same → s ≡ t
    by_test true i e = shape_same s t i
    by_test false i e = absurd (joined_never_same (join_of s t) t e)

-- what stands as it is has the type
pub way_same : (s t : Shape) → way s t ≡ same → s ≡ t
way_same blanks blanks e = refl
way_same numbers numbers e = refl
way_same booleans booleans e = refl
way_same dates dates e = refl
way_same texts texts e = refl
way_same (records cs) (records ds) e = widening_same (records cs) (records ds) e
way_same (tables cs) (tables ds) e = widening_same (tables cs) (tables ds) e
way_same s t e = absurd cc

exact_by : (b : Bool) (s t : Shape) → same_shape s t ≡ b → (if b then same else refused) ≡ same → s ≡ t
exact_by true s t i e = shape_same s t i
exact_by false s t i e = absurd cc

exact_never_changed : (b : Bool) → (if b then same else refused) ≡ changed → ⊥
exact_never_changed true e = absurd cc
exact_never_changed false e = absurd cc

pub exact_same : (s t : Shape) → exact_way s t ≡ same → s ≡ t
exact_same blanks blanks e = refl
exact_same blanks numbers e = absurd cc
exact_same blanks texts e = absurd cc
exact_same blanks booleans e = absurd cc
exact_same blanks dates e = absurd cc
exact_same blanks (records cs) e = absurd cc
exact_same blanks (tables cs) e = absurd cc
exact_same numbers t e = exact_by (same_shape numbers t) numbers t refl e
exact_same texts t e = exact_by (same_shape texts t) texts t refl e
exact_same booleans t e = exact_by (same_shape booleans t) booleans t refl e
exact_same dates t e = exact_by (same_shape dates t) dates t refl e
exact_same (records cs) t e = exact_by (same_shape (records cs) t) (records cs) t refl e
exact_same (tables cs) t e = exact_by (same_shape (tables cs) t) (tables cs) t refl e

-- only Blank is coerced to just a type
pub exact_changed : (s t : Shape) → exact_way s t ≡ changed → way s t ≡ changed
exact_changed blanks blanks e = absurd cc
exact_changed blanks numbers e = refl
exact_changed blanks texts e = refl
exact_changed blanks booleans e = refl
exact_changed blanks dates e = refl
exact_changed blanks (records cs) e = refl
exact_changed blanks (tables cs) e = refl
exact_changed numbers t e = absurd (exact_never_changed (same_shape numbers t) e)
exact_changed texts t e = absurd (exact_never_changed (same_shape texts t) e)
exact_changed booleans t e = absurd (exact_never_changed (same_shape booleans t) e)
exact_changed dates t e = absurd (exact_never_changed (same_shape dates t) e)
exact_changed (records cs) t e = absurd (exact_never_changed (same_shape (records cs) t) e)
exact_changed (tables cs) t e = absurd (exact_never_changed (same_shape (tables cs) t) e)

pub branch_same : (s t : Shape) → branch_way s t ≡ same → s ≡ t
branch_same blanks blanks e = refl
branch_same numbers blanks e = absurd cc
branch_same texts blanks e = absurd cc
branch_same booleans blanks e = absurd cc
branch_same dates blanks e = absurd cc
branch_same (records cs) blanks e = absurd cc
branch_same (tables cs) blanks e = absurd cc
branch_same s numbers e = way_same s numbers e
branch_same s texts e = way_same s texts e
branch_same s booleans e = way_same s booleans e
branch_same s dates e = way_same s dates e
branch_same s (records ds) e = way_same s (records ds) e
branch_same s (tables ds) e = way_same s (tables ds) e

-- what has no parts compares with itself
pub comparable_itself : (t : Shape) → is_scalar t ≡ true → is_comparable t t ≡ true
comparable_itself blanks e = refl
comparable_itself numbers e = refl
comparable_itself texts e = refl
comparable_itself booleans e = refl
comparable_itself dates e = refl
comparable_itself (records cs) e = absurd cc
comparable_itself (tables cs) e = absurd cc
