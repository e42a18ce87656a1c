-- Row tests without their constants, as plain data: each constant is a place in a list.
use Rattle.std.specs.Prelude.{ℕ, suc, ◌+◌, ◌<◌, List, [], ◌∷◌, slice_get, unwrap_or}
use Rattle.fx_types.specs.declared.comparisons.Cmp.{Cmp}
use Rattle.fx_types.specs.Values.{Data, blank}
use Rattle.row_queries.specs.Conditions.{Condition, ConditionList, no_conditions, also}
use Rattle.row_queries.specs.Conditions as test

mutual
  -- columns and constants go by number
  pub data Outline : Type 0 where
    always : Outline
    flag : ℕ → Outline
    constant : ℕ → Outline
    compares : Cmp → ℕ → ℕ → Outline
    is_blank : ℕ → Outline
    starts : ℕ → ℕ → Outline
    contains : ℕ → ℕ → Outline
    all_of : OutlineList → Outline
    any_of : OutlineList → Outline
    opposite : Outline → Outline

  pub data OutlineList : Type 0 where
    no_outlines : OutlineList
    with : Outline → OutlineList → OutlineList

-- outlines, one after another
abbrev pub outline_list : List Outline → OutlineList
outline_list [] = no_outlines
outline_list (o ∷ os) = with o (outline_list os)

-- how many outlines are in one, and among several
abbrev mutual
  pub outline_size : Outline → ℕ
  outline_size always = 0
  outline_size (flag k) = 0
  outline_size (constant i) = 0
  outline_size (compares op k i) = 0
  outline_size (is_blank k) = 0
  outline_size (starts k i) = 0
  outline_size (contains k i) = 0
  outline_size (all_of os) = suc (list_size os)
  outline_size (any_of os) = suc (list_size os)
  outline_size (opposite o) = suc (outline_size o)

  pub list_size : OutlineList → ℕ
  list_size no_outlines = 0
  list_size (with o os) = suc (outline_size o) + list_size os

abbrev pub outlines_size : List Outline → ℕ
outlines_size os = list_size (outline_list os)

-- the constant at a place
abbrev pub constant_at : List Data → ℕ → Data
constant_at ds i = unwrap_or (slice_get ds i) blank

-- a test with these constants in their places
abbrev mutual
  pub filled : List Data → Outline → Condition
  filled ds always = test.always
  filled ds (flag k) = test.flag k
  filled ds (constant i) = test.constant (constant_at ds i)
  filled ds (compares op k i) = test.compares op k (constant_at ds i)
  filled ds (is_blank k) = test.is_blank k
  filled ds (starts k i) = test.starts k (constant_at ds i)
  filled ds (contains k i) = test.contains k (constant_at ds i)
  filled ds (all_of os) = test.all_of (all_filled ds os)
  filled ds (any_of os) = test.any_of (all_filled ds os)
  filled ds (opposite o) = test.opposite (filled ds o)

  pub all_filled : List Data → OutlineList → ConditionList
  all_filled ds no_outlines = no_conditions
  all_filled ds (with o os) = also (filled ds o) (all_filled ds os)

-- the places are below so many
abbrev mutual
  pub IsWithin : ℕ → Outline → Type 0
  IsWithin n (constant i) = i < n
  IsWithin n (compares op k i) = i < n
  IsWithin n (starts k i) = i < n
  IsWithin n (contains k i) = i < n
  IsWithin n (all_of os) = AreWithin n os
  IsWithin n (any_of os) = AreWithin n os
  IsWithin n (opposite o) = IsWithin n o
  IsWithin n o = Unit {0}

  pub AreWithin : ℕ → OutlineList → Type 0
  AreWithin n no_outlines = Unit {0}
  AreWithin n (with o os) = IsWithin n o × AreWithin n os
