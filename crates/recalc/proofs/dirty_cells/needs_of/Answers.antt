use Rattle.std.proofs.Common.{◌≡◌, ◌∙◌, ℕ, Bool, List, arith, false, inl, inr, length, replicate, rules, subst, sym, true}
use Rattle.std.specs.List.{Contains}
use Rattle.recalc.proofs.Marking.{are_marked, none_marked, whole}
use Rattle.recalc.proofs.Turns.{cell_below}
use Rattle.recalc.specs.Needing.{AreMarked, is_marked}
use Rattle.recalc.proofs.dirty_cells.needs_of.Goals as goal

pub mark_all-requires : goal.mark_all-requires
mark_all-requires c = λ k there.
    let below = cell_below c.args.app.now k (c.requires.roots k there) in
    omega (arith, below, c.deref_mut.ensures.len, c.in_ok-marks.ensures.len, c.len.ensures)

pub mark_needed-requires-clause-long : goal.mark_needed-requires-clause-long
mark_needed-requires-clause-long c = omega (arith, c.deref_mut-2.ensures.len, c.in_ok-marks.ensures.len, c.len.ensures)

pub returns : goal.returns
returns c =
    let blank : c.in_ok-marks.marks.items ≡ replicate c.len.result false = search rules in
    let long : length c.mark_all.new.marks ≡ c.in_ok-marks.marks.len = omega (arith, c.mark_all.ensures.long, c.deref_mut.ensures.len) in
    let old : List Bool = c.deref_mut-2.result.now in
    let is_old : old ≡ c.mark_all.new.marks = c.deref_mut-2.ensures.value ∙ whole c.in_ok-marks.marks.len c.mark_all.new.marks c.in_ok-marks.marks.items long in
    let count : length old ≡ length c.args.app.now.cells = omega (arith, c.deref_mut-2.ensures.len, c.in_ok-marks.ensures.len, c.len.ensures) in
    let far : length c.mark_needed.new.marks ≡ c.in_ok-marks.marks.len = omega (arith, c.mark_needed.ensures.long, c.deref_mut-2.ensures.len) in
    let only : (k : ℕ) → is_marked old k ≡ true → Contains c.args.roots.now k =
    λ k h. elim (c.mark_all.ensures.only k (subst (λ bs. is_marked bs k ≡ true) is_old h)) [
      | inl was ↦ absurd (none_marked c.len.result k (subst (λ bs. is_marked bs k ≡ true) (c.deref_mut.ensures.value ∙ blank) was))
      | inr is ↦ is
    ] in
    let there : (k : ℕ) → Contains c.args.roots.now k → is_marked old k ≡ true = λ k r. subst (λ bs. is_marked bs k ≡ true) (sym is_old) (c.mark_all.ensures.there k r) in
    subst (AreMarked c.args.app.now c.args.cache.now c.args.roots.now) (sym (whole c.in_ok-marks.marks.len c.mark_needed.new.marks _ far))
    (are_marked c.args.app.now c.args.roots.now old only c.requires.roots c.args.cache.now c.mark_needed.new.marks count there c.mark_needed.ensures)
