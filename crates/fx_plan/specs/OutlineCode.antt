-- A code of outlines, by which proofs tell them apart.
use Rattle.std.specs.Prelude.{◌≡◌, refl, List}
use Rattle.std.proofs.Common.{ap}
use Rattle.std.specs.Coded.{Coded, coded_list}
use base.Stored.{Gv, gnil, gnum, gcons}
use Rattle.fx_types.specs.contracts.comparisons.Cmp.{the_row as cmp_row}
use Rattle.fx_plan.specs.Outlines.{Outline, OutlineList, always, flag, constant, compares, is_blank}
use Rattle.fx_plan.specs.Outlines.{starts, contains, all_of, any_of, opposite, no_outlines, with}
use Rattle.fx_core.specs.TermCode.{front, back}
use Rattle.row_queries.specs.ConditionCode.{gv_count}

abbrev mutual
  of_outline : Outline → Gv
  of_outline always = gcons (gnum 0) gnil
  of_outline (flag k) = gcons (gnum 1) (gnum k)
  of_outline (constant k) = gcons (gnum 2) (gnum k)
  of_outline (compares op k d) = gcons (gnum 3)
      (gcons (cmp_row.coded.code op) (gcons (gnum k) (gnum d)))
  of_outline (is_blank k) = gcons (gnum 4) (gnum k)
  of_outline (starts k d) = gcons (gnum 5) (gcons (gnum k) (gnum d))
  of_outline (contains k d) = gcons (gnum 6) (gcons (gnum k) (gnum d))
  of_outline (all_of cs) = gcons (gnum 7) (of_outlines cs)
  of_outline (any_of cs) = gcons (gnum 8) (of_outlines cs)
  of_outline (opposite c) = gcons (gnum 9) (of_outline c)

  of_outlines : OutlineList → Gv
  of_outlines no_outlines = gnil
  of_outlines (with c cs) = gcons (of_outline c) (of_outlines cs)

mutual
  pub same : (a b : Outline) → of_outline a ≡ of_outline b → a ≡ b
  same always always p = refl
  same (flag k) (flag m) p = λ i. flag (gv_count (back (p i)))
  same (constant k) (constant m) p = λ i. constant (gv_count (back (p i)))
  same (compares f k d) (compares g m e) p =
      λ i. compares (cmp_row.coded.inj f g (λ j. front (back (p j))) i)
      (gv_count (front (back (back (p i))))) (gv_count (back (back (back (p i)))))
  same (is_blank k) (is_blank m) p = λ i. is_blank (gv_count (back (p i)))
  same (starts k d) (starts m e) p = λ i. starts (gv_count (front (back (p i))))
      (gv_count (back (back (p i))))
  same (contains k d) (contains m e) p = λ i. contains (gv_count (front (back (p i))))
      (gv_count (back (back (p i))))
  same (all_of cs) (all_of ds) p = ap all_of (same_list cs ds (ap back p))
  same (any_of cs) (any_of ds) p = ap any_of (same_list cs ds (ap back p))
  same (opposite c) (opposite d) p = ap opposite (same c d (ap back p))
  same a b p = cc

  pub same_list : (cs ds : OutlineList) → of_outlines cs ≡ of_outlines ds → cs ≡ ds
  same_list no_outlines no_outlines p = refl
  same_list (with c cs) (with d ds) p = λ i. with (same c d (ap front p) i)
      (same_list cs ds (ap back p) i)
  same_list cs ds p = cc

abbrev pub outline_code : Coded Outline
outline_code = record { code = of_outline; inj = same }

abbrev pub outlines_code : Coded (List Outline)
outlines_code = coded_list outline_code
