-- Rows that change, one step after another.
use Rattle.std.proofs.Common.{◌≡◌, ℕ, Bool, false, List, ◌∷◌, Option, Some, None, Result, Ok, Err, refl, ap, ◌∙◌}
use Rattle.fx_types.specs.Types.{Shape, blanks, numbers, texts, booleans, dates, records, tables, ColumnList}
use Rattle.fx_core.specs.declared.deeds.Deed.TheVariants as deed
use Rattle.fx_core.specs.declared.deeds.Target.{Target}
use Rattle.fx_core.specs.Term.{Term, of, all, act}
use Rattle.fx_core.specs.ColumnLists.{and_then}
use Rattle.fx_typing.specs.Local.{firsts}
use Rattle.fx_typing.specs.Deeds.{by_columns, by_rows, row_typed, changes_of, patch_to}
use Rattle.fx_typing.specs.Parts.{lowest}
use Rattle.fx_typing.specs.Answers.{IsAnswerOf, Wrong}
use Rattle.fx_core.specs.Rules.{rule_number}
use Rattle.fx_core.specs.declared.rule.Rule.{Rule}
use Rattle.fx_call_typing.specs.Changes.{rows_with_columns, settled, unless_broken, patched}
use Rattle.fx_node_typing.proofs.Exits.{first_stops, goes_on, as_same}

same_settled : (r : Result (Term × Shape) ℕ) → r ≡ settled false r
same_settled (Ok y) = refl
same_settled (Err e) = refl

by_rows_is : (o : Option (Target × Shape)) (go : Target × ColumnList → Result (Term × Shape) ℕ) → by_rows o go ≡ and_then (rows_with_columns o) (λ r. settled r.1 (go r.0))
by_rows_is None go = refl
by_rows_is (Some (t, blanks)) go = refl
by_rows_is (Some (t, numbers)) go = refl
by_rows_is (Some (t, texts)) go = refl
by_rows_is (Some (t, booleans)) go = refl
by_rows_is (Some (t, dates)) go = refl
by_rows_is (Some (t, records cs)) go = refl
by_rows_is (Some (t, tables cs)) go = same_settled (go (t, cs))

by_columns_is : (o : Option (Target × Shape)) (go : ColumnList → Result (Term × Shape) ℕ) → by_columns o go ≡ and_then (rows_with_columns o) (λ r. go r.0.1)
by_columns_is None go = refl
by_columns_is (Some (t, blanks)) go = refl
by_columns_is (Some (t, numbers)) go = refl
by_columns_is (Some (t, texts)) go = refl
by_columns_is (Some (t, booleans)) go = refl
by_columns_is (Some (t, dates)) go = refl
by_columns_is (Some (t, records cs)) go = refl
by_columns_is (Some (t, tables cs)) go = refl

-- rows that are not there, or are none
pub rows_stop : {A C : Type 0} (f : A → (Target × ColumnList) × Bool) (g : C → Term × Shape) (o : Option (Target × Shape)) (go : Target × ColumnList → Result (Term × Shape) ℕ) (e : Wrong) → IsAnswerOf f (rows_with_columns o) (Err e) → IsAnswerOf g (by_rows o go) (Err e)
rows_stop f g o go e h = as_same g (by_rows o go) (and_then (rows_with_columns o) (λ r. settled r.1 (go r.0))) (Err e) (by_rows_is o go) (first_stops f g (rows_with_columns o) (λ r. settled r.1 (go r.0)) e h)

pub columns_stop : {A C : Type 0} (f : A → (Target × ColumnList) × Bool) (g : C → Term × Shape) (o : Option (Target × Shape)) (go : ColumnList → Result (Term × Shape) ℕ) (e : Wrong) → IsAnswerOf f (rows_with_columns o) (Err e) → IsAnswerOf g (by_columns o go) (Err e)
columns_stop f g o go e h = as_same g (by_columns o go) (and_then (rows_with_columns o) (λ r. go r.0.1)) (Err e) (by_columns_is o go) (first_stops f g (rows_with_columns o) (λ r. go r.0.1) e h)

-- rows that are there
pub rows_go : {C : Type 0} (g : C → Term × Shape) (o : Option (Target × Shape)) (r : (Target × ColumnList) × Bool) (go : Target × ColumnList → Result (Term × Shape) ℕ) (res : Result C Wrong) → rows_with_columns o ≡ Ok r → IsAnswerOf g (settled r.1 (go r.0)) res → IsAnswerOf g (by_rows o go) res
rows_go g o r go res e h = as_same g (by_rows o go) (and_then (rows_with_columns o) (λ r. settled r.1 (go r.0))) res (by_rows_is o go) (goes_on g (rows_with_columns o) r (λ r. settled r.1 (go r.0)) res e h)

pub columns_go : {C : Type 0} (g : C → Term × Shape) (o : Option (Target × Shape)) (r : (Target × ColumnList) × Bool) (go : ColumnList → Result (Term × Shape) ℕ) (res : Result C Wrong) → rows_with_columns o ≡ Ok r → IsAnswerOf g (go r.0.1) res → IsAnswerOf g (by_columns o go) res
columns_go g o r go res e h = as_same g (by_columns o go) (and_then (rows_with_columns o) (λ r. go r.0.1)) res (by_columns_is o go) (goes_on g (rows_with_columns o) r (λ r. go r.0.1) res e h)

-- a test that finds no rule broken, and one that finds one
pub kept : {C : Type 0} (g : C → Term × Shape) (f : Result (Term × Shape) ℕ → Result (Term × Shape) ℕ) (o : Option Rule) (r : Result (Term × Shape) ℕ) (res : Result C Wrong) → ((q : Result (Term × Shape) ℕ) → f q ≡ unless_broken o q) → o ≡ None → IsAnswerOf g r res → IsAnswerOf g (f r) res
kept g f o r res h n k = as_same g (f r) r res (h r ∙ ap (λ p. unless_broken p r) n) k

pub broken : (f : Result (Term × Shape) ℕ → Result (Term × Shape) ℕ) (o : Option Rule) (r : Result (Term × Shape) ℕ) (rule : Rule) → ((q : Result (Term × Shape) ℕ) → f q ≡ unless_broken o q) → o ≡ Some rule → f r ≡ Err (rule_number rule)
broken f o r rule h s = h r ∙ ap (λ p. unless_broken p r) s

-- `Patch` of a row
abbrev pub patching : Target × ColumnList → List Term → Result (Term × Shape) ℕ
patching r ts = Ok (of (act (deed.Patch r.0)) (all ts), records r.1)

pub patch_is : (r : Target × ColumnList) (base : Term × Shape) (changes : List (Term × Shape)) → patch_to r (base ∷ changes) ≡ and_then (patched r base changes) (patching r)
patch_is r base changes = by (row_typed r.0 r.1 base) (changes_of r.0 r.1 changes)
  where
    by : (b : Result (Term × Shape) ℕ) (ys : Result (List (Term × Shape)) ℕ) →
        lowest (λ (b : Term × Shape) ys. (of (act (deed.Patch r.0)) (all (b.0 ∷ firsts ys)), records r.1)) b ys
        ≡ and_then (lowest (λ (b : Term × Shape) ys. b.0 ∷ firsts ys) b ys) (patching r)
    by (Ok b) (Ok ys) = refl
    by (Ok b) (Err e) = refl
    by (Err e) (Ok ys) = refl
    by (Err e) (Err k) = refl
