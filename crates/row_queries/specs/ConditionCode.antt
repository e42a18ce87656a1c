-- A code of row tests, by which proofs tell them apart.
use Rattle.std.specs.Prelude.{◌≡◌, refl, ℕ, List}
use Rattle.std.proofs.Common.{ap}
use Rattle.std.specs.Coded.{Coded, coded_list}
use base.Stored.{Gv, gnil, gnum, gcons}
use Rattle.fx_types.specs.contracts.comparisons.Cmp.{the_row as cmp_row}
use Rattle.fx_types.specs.ValueCode.{data_code}
use Rattle.row_queries.specs.Conditions.{Condition, ConditionList, always, flag, constant, compares}
use Rattle.row_queries.specs.Conditions.{is_blank, starts, contains, all_of, any_of, opposite}
use Rattle.row_queries.specs.Conditions.{no_conditions, also}
use Rattle.fx_core.specs.TermCode.{front, back}

abbrev pub gv_count : Gv → ℕ
gv_count (gnum n) = n
gv_count g = 0

abbrev mutual
  of_condition : Condition → Gv
  of_condition always = gcons (gnum 0) gnil
  of_condition (flag k) = gcons (gnum 1) (gnum k)
  of_condition (constant d) = gcons (gnum 2) (data_code.code d)
  of_condition (compares op k d) = gcons (gnum 3)
      (gcons (cmp_row.coded.code op) (gcons (gnum k) (data_code.code d)))
  of_condition (is_blank k) = gcons (gnum 4) (gnum k)
  of_condition (starts k d) = gcons (gnum 5) (gcons (gnum k) (data_code.code d))
  of_condition (contains k d) = gcons (gnum 6) (gcons (gnum k) (data_code.code d))
  of_condition (all_of cs) = gcons (gnum 7) (of_conditions cs)
  of_condition (any_of cs) = gcons (gnum 8) (of_conditions cs)
  of_condition (opposite c) = gcons (gnum 9) (of_condition c)

  of_conditions : ConditionList → Gv
  of_conditions no_conditions = gnil
  of_conditions (also c cs) = gcons (of_condition c) (of_conditions cs)

mutual
  pub same : (a b : Condition) → of_condition a ≡ of_condition b → a ≡ b
  same always always p = refl
  same (flag k) (flag m) p = λ i. flag (gv_count (back (p i)))
  same (constant d) (constant e) p = ap constant (data_code.inj d e (ap back p))
  same (compares f k d) (compares g m e) p =
      λ i. compares (cmp_row.coded.inj f g (λ j. front (back (p j))) i)
      (gv_count (front (back (back (p i)))))
      (data_code.inj d e (λ j. back (back (back (p j)))) i)
  same (is_blank k) (is_blank m) p = λ i. is_blank (gv_count (back (p i)))
  same (starts k d) (starts m e) p = λ i. starts (gv_count (front (back (p i))))
      (data_code.inj d e (λ j. back (back (p j))) i)
  same (contains k d) (contains m e) p = λ i. contains (gv_count (front (back (p i))))
      (data_code.inj d e (λ j. back (back (p j))) i)
  same (all_of cs) (all_of ds) p = ap all_of (same_list cs ds (ap back p))
  same (any_of cs) (any_of ds) p = ap any_of (same_list cs ds (ap back p))
  same (opposite c) (opposite d) p = ap opposite (same c d (ap back p))
  same a b p = cc

  pub same_list : (cs ds : ConditionList) → of_conditions cs ≡ of_conditions ds → cs ≡ ds
  same_list no_conditions no_conditions p = refl
  same_list (also c cs) (also d ds) p = λ i. also (same c d (ap front p) i)
      (same_list cs ds (ap back p) i)
  same_list cs ds p = cc

abbrev pub condition_code : Coded Condition
condition_code = record { code = of_condition; inj = same }

abbrev pub conditions_code : Coded (List Condition)
conditions_code = coded_list condition_code
