-- Formulas as inference takes them.
use Rattle.std.proofs.Common.{◌≡◌, ℕ, ◌+◌, ◌<◌, ◌≤◌, ◌++◌, List, [], ◌∷◌, length, get_or, map, take, option_map, Err, ap, sym, subst, ◌∙◌}
use Rattle.std.proofs.lemmas.List.{map_push, take_more}
use Rattle.fx_types.specs.TypeView.{shape}
use Rattle.fx_infer.specs.Below.{tree_depth}
use Rattle.fx_infer.specs.CellView.{cell}
use Rattle.fx_infer.specs.Written.{formula_may_act, formula_place}
use Rattle.fx_infer.specs.declared.elaboration.Written.{Written}
use Rattle.fx_core.specs.declared.broken.Broken.{Broken}
use Rattle.fx_core.specs.declared.names.Names.{Names}
use Rattle.fx_core.specs.Rules.{rule_number}
use Rattle.fx_typing.specs.Details.{IsToldBrokenWhole}
use Rattle.fx_typing.specs.Rounds as rounds
use Rattle.fx_typing.specs.Typing.{judge_whole}
use Rattle.app_cells.specs.declared.cell.Cell.{Cell}
use Rattle.app_loader.specs.Admitted.{Breaks, in_cell}
use Rattle.app_loader.specs.Cells.{AreShallow, round_cell, judged_cell}
use Rattle.app_loader.specs.Written.{IsWritten}

-- one more
pub cells_more : (cs : List Cell) (i : ℕ) (c : Cell) (all : List Written) (w : Written) → i < length cs → c ≡ get_or cs i c → map cell all ≡ map round_cell (take i cs) → IsWritten c w →
    map cell (all ++ w ∷ []) ≡ map round_cell (take (i + 1) cs)
cells_more cs i c all w l e k h =
    map_push cell all w ∙ ap (λ ds. ds ++ cell w ∷ []) k ∙ ap (λ d. map round_cell (take i cs) ++ d ∷ []) h.seen
    ∙ sym (map_push round_cell (take i cs) c) ∙ ap (map round_cell) (sym (take_more cs i c l ∙ ap (λ x. take i cs ++ x ∷ []) (sym e)))

pub shallow_at : (cs : List Cell) (i : ℕ) (c : Cell) → AreShallow cs → i < length cs → c ≡ get_or cs i c → tree_depth c.expr ≤ 256
shallow_at cs i c h l e = subst (λ (k : Cell). tree_depth k.expr ≤ 256) (sym e) (h i c l)

pub shallow_written : (c : Cell) (w : Written) → IsWritten c w → tree_depth c.expr ≤ 256 → tree_depth w.expr ≤ 256
shallow_written c w h l = subst (λ (z : rounds.Cell). tree_depth z.formula ≤ 256) (sym h.seen) l

-- a formula as it is taken is judged as it stands
pub same_judged : (m : Names) (c : Cell) (w : Written) → IsWritten c w → judge_whole (formula_place m w) (formula_may_act w.place) (option_map shape w.wanted) w.expr ≡ judged_cell m c
same_judged m c w h = ap (λ (z : rounds.Cell). judge_whole (rounds.place_in_round m z) z.acts z.wanted z.formula) h.seen

-- what is broken of it as it is taken
pub told : (m : Names) (c : Cell) (w : Written) (b d : Broken) → IsWritten c w → judge_whole (formula_place m w) (formula_may_act w.place) (option_map shape w.wanted) w.expr ≡ Err (b.at, rule_number b.rule) →
    IsToldBrokenWhole (formula_place m w) (formula_may_act w.place) (option_map shape w.wanted) w.expr b.at (rule_number b.rule) b.detail → b.cell ≡ w.cell → d ≡ record (in_cell c b.rule b.at b.detail) { cell = b.cell } → Breaks m c d
told m c w b d h e t own is = (
  b.rule,
  b.at,
  b.detail,
  sym (same_judged m c w h) ∙ e,
  subst (λ (z : rounds.Cell). IsToldBrokenWhole (rounds.place_in_round m z) z.acts z.wanted z.formula b.at (rule_number b.rule) b.detail) h.seen t,
  is ∙ ap (λ x. record (in_cell c b.rule b.at b.detail) { cell = x }) (own ∙ h.name),
)
