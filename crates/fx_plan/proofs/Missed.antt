-- A row that meets a test meets each comparison among its conjuncts.
use Rattle.std.proofs.Common.{◌≡◌, ℕ, ◌==◌, List, [], ◌∷◌, Bool, true, false, cond, ◌&&◌, refl, ap₂, subst, ◌∙◌}
use Rattle.std.proofs.lemmas.Bool.{eqb-true}
use Rattle.std.proofs.lemmas.List.Folds.{list_all-append}
use Rattle.fx_types.specs.Values.{Data, blank, number, text, boolean, date, rec, tab, fault}
use Rattle.fx_value.specs.Operators.{holds_of}
use Rattle.fx_plan.specs.Ranges.{NoRowIsMissed, all_comparisons, comparisons, meets_all, serves}
use Rattle.row_queries.specs.Conditions.{Condition, ConditionList, always, flag, constant, compares, is_blank, starts, contains, all_of, any_of, opposite, no_conditions, also}
use Rattle.row_queries.specs.RowTests.{Outcome, met, unmet, failed, all_outcome, and_outcome, decided, outcome, unless_fault}
use Rattle.row_queries.specs.TableRows.{value_at}

first_met : (o p : Outcome) → and_outcome o p ≡ met → o ≡ met
first_met met p h = refl
first_met unmet p h = h
first_met (failed k cs) p h = h

second_met : (o p : Outcome) → and_outcome o p ≡ met → p ≡ met
second_met met p h = h
second_met unmet p h = absurd cc
second_met (failed k cs) p h = absurd cc

decided_met : (b : Bool) → decided b ≡ met → b ≡ true
decided_met true h = refl
decided_met false h = absurd cc

-- a comparison that is met holds
holds_there : (d : Data) (b : Bool) → unless_fault d (decided b) ≡ met → b ≡ true
holds_there (fault k cs) b h = absurd cc
holds_there blank b h = decided_met b h
holds_there (number z) b h = decided_met b h
holds_there (text cs) b h = decided_met b h
holds_there (boolean c) b h = decided_met b h
holds_there (date z) b h = decided_met b h
holds_there (rec fs) b h = decided_met b h
holds_there (tab rs) b h = decided_met b h

mutual
  pub all_meet : (k : ℕ) (test : Condition) (row : List Data) → outcome row test ≡ met → meets_all (comparisons k test) (value_at row k) ≡ true
  all_meet k (compares op at d) row h = go (at == k) refl (serves op)
    where
      it : holds_of op (value_at row at) d ≡ true
      it = holds_there d (holds_of op (value_at row at) d) h

      go : (t : Bool) → (at == k) ≡ t → (r : Bool) → meets_all (cond (t && r) ((op, d) ∷ []) []) (value_at row k) ≡ true
      go true e true =
          let same : at ≡ k = eqb-true at k e in
          let here : holds_of op (value_at row k) d ≡ true = subst (λ n. holds_of op (value_at row n) d ≡ true) same it in
          rw here refl
      go true e false = refl
      go false e r = refl
  all_meet k (all_of cs) row h = each_meets k cs row h
  all_meet k always row h = refl
  all_meet k (flag at) row h = refl
  all_meet k (constant d) row h = refl
  all_meet k (is_blank at) row h = refl
  all_meet k (starts at d) row h = refl
  all_meet k (contains at d) row h = refl
  all_meet k (any_of cs) row h = refl
  all_meet k (opposite c) row h = refl

  each_meets : (k : ℕ) (cs : ConditionList) (row : List Data) → all_outcome row cs ≡ met → meets_all (all_comparisons k cs) (value_at row k) ≡ true
  each_meets k no_conditions row h = refl
  each_meets k (also c cs) row h =
      list_all-append (λ p. holds_of p.0 (value_at row k) p.1) (comparisons k c) (all_comparisons k cs)
      ∙ ap₂ (λ x y. x && y) (all_meet k c row (first_met (outcome row c) (all_outcome row cs) h)) (each_meets k cs row (second_met (outcome row c) (all_outcome row cs) h))

pub no_row_is_missed : NoRowIsMissed
no_row_is_missed t k test row h = rw (all_meet k test row h) refl
