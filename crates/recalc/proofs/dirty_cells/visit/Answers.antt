use Rattle.std.proofs.Common.{◌≡◌, ◌∙◌, Some, ap, inl, inr, subst, sym}
use Rattle.fx_core.specs.Reads.{IsAmong}
use Rattle.recalc.specs.app_cells.declared.app.CellInfo.{CellInfo}
use Rattle.recalc.proofs.dirty_cells.visit.Goals as goal

one_info : (x y : CellInfo) → Some x ≡ Some y → x ≡ y
one_info x y e = cc

pub returns-in-Some : goal.returns-in-Some
returns-in-Some c =
    let info : CellInfo = c.in-Some.info.now in
    let reads : c.as_slice.result.now ≡ info.reads = c.as_slice.ensures in
    record {
      long = c.mark_leaned.ensures.long;
      still = c.mark_leaned.ensures.still;
      marked = λ d mark unclean leans.
          let same : leans.0 ≡ info = one_info leans.0 info (sym leans.1 ∙ c.in-Some.ensures) in
          let among : IsAmong leans.2.0 c.as_slice.result.now = subst (IsAmong leans.2.0) (ap (λ (i : CellInfo). i.reads) same ∙ sym reads) leans.2.1 in
          c.mark_leaned.ensures.there leans.2.0 d among leans.2.2 leans.3;
      only = λ d h. elim (c.mark_leaned.ensures.only d h) [
        | inl was ↦ inl was
        | inr p ↦ inr ((c.is_due.ensures.yes c.if-not-is_due.false).0, (info, c.in-Some.ensures, (p.0, subst (IsAmong p.0) reads p.1, p.2), p.3))
      ];
    }
