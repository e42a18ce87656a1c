-- Tables one after another as their transaction ends.
use Rattle.std.specs.Prelude.{◌≡◌, ℕ, zero, suc, ⊤, Bool, List, [], ◌∷◌}
use Rattle.row_changes.specs.declared.table.TableChanges.{TableChanges}
use Rattle.store_model.specs.Laws.{IsEnded}

-- the transaction has ended in the first so many
abbrev pub AreEndedTo : Bool → ℕ → List TableChanges → List TableChanges → Type 0
AreEndedTo b zero cs ds = ds ≡ cs
AreEndedTo b (suc i) [] [] = ⊤
AreEndedTo b (suc i) (c ∷ cs) (d ∷ ds) = IsEnded b c d × AreEndedTo b i cs ds
AreEndedTo b (suc i) [] (d ∷ ds) = ⊥
AreEndedTo b (suc i) (c ∷ cs) [] = ⊥
