-- Cells, one after another.
use Rattle.std.proofs.Common.{◌≡◌, ℕ, zero, suc, ◌+◌, ◌^◌, ◌<◌, ◌≤◌, List, [], ◌∷◌, ◌++◌, map, take, length, get_or, refl, ap, sym, ◌∙◌, arith}
use Rattle.std.specs.Prelude.{unwrap_or}
use Rattle.std.proofs.lemmas.List.{take_more}
use Rattle.fx_types.specs.ValueView.{view}
use Rattle.fx_types.specs.Values.{Data}
use Rattle.fx_types.specs.declared.values.Value.{Value}
use Rattle.fx_core.specs.declared.schema.Column.{Column}
use Rattle.row_queries.specs.TableRows.{AreCellsOf}
use Rattle.row_imports.specs.Imports.{given_for, with_given}
use Rattle.row_imports.proofs.Acting.{cells_length, given_more}

mapped_push : (vs : List Value) (v : Value) → map view (vs ++ v ∷ []) ≡ map view vs ++ view v ∷ []
mapped_push [] v = refl
mapped_push (x ∷ vs) v = ap (λ l. view x ∷ l) (mapped_push vs v)

length_taken : (vs : List Value) (i : ℕ) → i ≤ length vs → length (map view (take i vs)) ≡ i
length_taken [] zero h = refl
length_taken [] (suc i) h = absurd (omega (arith, h))
length_taken (v ∷ vs) zero h = refl
length_taken (v ∷ vs) (suc i) h = ap suc (length_taken vs i (omega (arith, h)))

pub given_step : (numbers : List ℕ) (line : List Data) (vs : List Value) (i number : ℕ) (v : Value) → i < length vs → v ≡ get_or vs i v → number ≡ i
    → with_given numbers line 1 (map view (take (i + 1) vs)) ≡ with_given numbers line 1 (map view (take i vs)) ++ unwrap_or (given_for numbers line (number + 1)) (view v) ∷ []
given_step numbers line vs i number v below is e =
    let so_many = length_taken vs i (omega (arith, below)) in
    let place : 1 + length (map view (take i vs)) ≡ number + 1 = omega (arith, so_many, e) in
    ap (λ l. with_given numbers line 1 (map view l)) (take_more vs i v below ∙ ap (λ y. take i vs ++ y ∷ []) (sym is))
    ∙ ap (with_given numbers line 1) (mapped_push (take i vs) v)
    ∙ given_more numbers line 1 (map view (take i vs)) (view v)
    ∙ ap (λ n. with_given numbers line 1 (map view (take i vs)) ++ unwrap_or (given_for numbers line n) (view v) ∷ []) place

mapped_length : (vs : List Value) → length (map view vs) ≡ length vs
mapped_length [] = refl
mapped_length (v ∷ vs) = ap suc (mapped_length vs)

-- a row has few cells
pub few_cells : (columns : List Column) (cells : List Data) (vs : List Value) → length columns ≤ 63 → AreCellsOf columns cells → map view vs ≡ cells → length vs < 2 ^ 16
few_cells columns cells vs narrow fit e = let n = cells_length columns cells fit in omega (arith, narrow, n, ap length e, mapped_length vs)
