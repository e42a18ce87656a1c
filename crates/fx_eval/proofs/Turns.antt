-- One more part, condition or column in its turn.
use Rattle.std.proofs.Common.{◌≡◌, ℕ, suc, List, [], ◌∷◌, length, map, Bool, true, false, Option, Some, None, refl, sym, ap, subst, ◌∙◌, arith}
use Rattle.std.specs.Prelude.{unwrap_or}
use Rattle.std.specs.List.{find}
use Rattle.std.proofs.lemmas.List.{length-map}
use Rattle.fx_types.specs.Values.{Data, boolean}
use Rattle.fx_types.specs.ValueView.{view}
use Rattle.fx_types.specs.declared.values.Value.{Value}
use Rattle.fx_types.specs.declared.values.Value.TheVariants.{Boolean}
use Rattle.fx_tables.proofs.FirstErrors.{found_passes}
use Rattle.fx_eval.specs.Given.{ArgumentValues, each, argument_values}
use Rattle.fx_eval.specs.TableCalls.{AreFor, AreFormulas, verdicts_behind, with_condition}
use Rattle.fx_eval.specs.declared.answers.Answers.{Answers}
use Rattle.fx_value.specs.Columns.{Row}
use Rattle.fx_tables.specs.Unions.{fault_or, is_fault}
use Rattle.fx_value.proofs.JoinSteps.{left}

-- ---- names
some_is : (g h : ArgumentValues) → Some g ≡ Some h → g ≡ h
some_is g h e = cc

-- ---- conditions
pub truths_seen : (rows : List Row) → map view (map (λ (r : Row). Boolean true) rows) ≡ map (λ (r : Row). boolean true) rows
truths_seen [] = refl
truths_seen (r ∷ rows) = ap (λ ds. boolean true ∷ ds) (truths_seen rows)

pub condition_many : (vs cs : List Data) → length cs ≡ length vs → length (with_condition vs cs) ≡ length vs
condition_many [] [] e = refl
condition_many (v ∷ vs) (c ∷ cs) e = let q : length cs ≡ length vs = omega arith in ap suc (condition_many vs cs q)
condition_many [] (c ∷ cs) e = absurd cc
condition_many (v ∷ vs) [] e = absurd cc

pub next_formula : (n : ℕ) (left rest : List Answers) (x : Answers) → left ≡ x ∷ rest → AreFormulas n (map argument_values left) → AreFormulas n (argument_values x ∷ map argument_values rest)
next_formula n left rest x e h = let P : List Answers → Type 0 = λ zs. AreFormulas n (map argument_values zs) in subst P e h

pub for_many : (n : ℕ) (g : ArgumentValues) (vs : List Value) → Some g ≡ Some (each (map view vs)) → AreFor n g → length vs ≡ n
for_many n g vs e h =
    let P : ArgumentValues → Type 0 = λ z. AreFor n z in
    sym (length-map vs view) ∙ subst P (some_is g (each (map view vs)) e) h

pub verdict_step : (all vs : List Data) (left rest : List Answers) (x : Answers) (ds ws : List Data) → left ≡ x ∷ rest → Some (argument_values x) ≡ Some (each ds) → ws ≡ with_condition vs ds →
    verdicts_behind vs (map argument_values left) ≡ all → verdicts_behind ws (map argument_values rest) ≡ all
verdict_step all vs left rest x ds ws e g m h =
    let P : List Answers → Type 0 = λ zs. verdicts_behind vs (map argument_values zs) ≡ all in
    let Q : ArgumentValues → Type 0 = λ z. verdicts_behind vs (z ∷ map argument_values rest) ≡ all in
    let R : List Data → Type 0 = λ z. verdicts_behind z (map argument_values rest) ≡ all in
    subst R (sym m) (subst Q (some_is (argument_values x) (each ds) g) (subst P e h))

-- ---- what is found
pub no_error_found : (ds : List Data) (b : Bool) (v d : Data) → v ≡ fault_or ds (boolean b) → is_fault v ≡ false → d ≡ fault_or ds d
no_error_found ds b v d e f = by (find is_fault ds) (λ w q. found_passes ds w q) e
  where
    by : (o : Option Data) → ((w : Data) → o ≡ Some w → is_fault w ≡ true) → v ≡ unwrap_or o (boolean b) → d ≡ unwrap_or o d
    by None p q = refl
    by (Some w) p q = let k : is_fault v ≡ true = ap is_fault q ∙ p w refl in absurd cc
