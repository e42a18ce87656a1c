-- One part of a test after another.
use Rattle.std.proofs.Common.{◌≡◌, ℕ, zero, suc, ◌<◌, List, [], ◌∷◌, length, get_or, sym, subst, arith}
use Rattle.fx_types.specs.Values.{Data}
use Rattle.row_queries.specs.Conditions.{Condition, condition_list, condition_size, list_size}
use Rattle.row_queries.specs.RowTests.{CanAsk, CanAskAll}

-- each part can be asked
pub part_asked : (row : List Data) (cs : List Condition) (i : ℕ) (c : Condition) → i < length cs → c ≡ get_or cs i c → CanAskAll row (condition_list cs) → CanAsk row c
part_asked row [] i c l e h = absurd (omega (arith, l))
part_asked row (d ∷ cs) zero c l e h = subst (CanAsk row) (sym e) h.0
part_asked row (d ∷ cs) (suc i) c l e h = part_asked row cs i c (omega (arith, l)) e h.1

-- and is smaller than all
pub part_falls : (cs : List Condition) (i : ℕ) (c : Condition) → i < length cs → c ≡ get_or cs i c → condition_size c < list_size (condition_list cs)
part_falls [] i c l e = absurd (omega (arith, l))
part_falls (d ∷ cs) zero c l e = let P : Condition → Type 0 = λ x. condition_size x < list_size (condition_list (d ∷ cs)) in subst P (sym e) (omega arith)
part_falls (d ∷ cs) (suc i) c l e = let h = part_falls cs i c (omega (arith, l)) e in omega (arith, h)
