-- Row tests as plain data.
use Rattle.std.specs.Prelude.{ℕ, suc, ◌+◌, List, [], ◌∷◌}
use Rattle.fx_types.specs.declared.comparisons.Cmp.{Cmp}
use Rattle.fx_types.specs.Values.{Data}

mutual
  -- what a row must meet: columns go by number, and values are constants
  pub data Condition : Type 0 where
    always : Condition
    flag : ℕ → Condition
    constant : Data → Condition
    compares : Cmp → ℕ → Data → Condition
    is_blank : ℕ → Condition
    starts : ℕ → Data → Condition
    contains : ℕ → Data → Condition
    all_of : ConditionList → Condition
    any_of : ConditionList → Condition
    opposite : Condition → Condition

  pub data ConditionList : Type 0 where
    no_conditions : ConditionList
    also : Condition → ConditionList → ConditionList

-- conditions, one after another
abbrev pub condition_list : List Condition → ConditionList
condition_list [] = no_conditions
condition_list (c ∷ cs) = also c (condition_list cs)

-- how many conditions are in one, and among several
abbrev mutual
  pub condition_size : Condition → ℕ
  condition_size always = 0
  condition_size (flag k) = 0
  condition_size (constant d) = 0
  condition_size (compares op k d) = 0
  condition_size (is_blank k) = 0
  condition_size (starts k d) = 0
  condition_size (contains k d) = 0
  condition_size (all_of cs) = suc (list_size cs)
  condition_size (any_of cs) = suc (list_size cs)
  condition_size (opposite c) = suc (condition_size c)

  pub list_size : ConditionList → ℕ
  list_size no_conditions = 0
  list_size (also c cs) = suc (condition_size c) + list_size cs

abbrev pub conditions_size : List Condition → ℕ
conditions_size cs = list_size (condition_list cs)
