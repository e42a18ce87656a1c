-- `ForAll`: its table, and its formula in the scope of each row.
use Rattle.std.proofs.Common.{◌≡◌, List, [], ◌∷◌, true, ap, sym, subst, ◌∙◌}
use Rattle.fx_types.specs.Types.{Shape, tables}
use Rattle.fx_types.specs.Values.{Data}
use Rattle.fx_env.specs.Scopes.{ScopeValues}
use Rattle.fx_semantics.proofs.Tables.{AllFit, for_all_fits, rows_in_fit}
use Rattle.fx_semantics.specs.Rows.{rows_in}
use Rattle.fx_tables.specs.RowCalls.{for_all_of}
use Rattle.fx_core.specs.declared.functions.Fun.TheVariants as fun
use Rattle.fx_core.specs.Term.{Term, of, nil, cons, all, over}
use Rattle.fx_core.specs.ColumnLists.{row_columns}
use Rattle.fx_value.specs.Columns.{Row}
use Rattle.fx_value.specs.Fits.{fits_in}
use Rattle.fx_deeds.specs.Fitting.{AreOf, SourceTypes}
use Rattle.fx_behave.proofs.Actables.{each_of, formula_inside, one_formula, table_actable}
use Rattle.fx_behave.specs.Actable.{CanAct, IsActable, IsActableInside}

all_fit : (u : Shape) (ds : List Data) → AreOf u ds → AllFit u ds
all_fit u [] h = tt
all_fit u (d ∷ ds) h = (h.0, all_fit u ds h.1)

one_is : (ts : List Term) (f k : Term) (others : List Term) → ts ≡ f ∷ [] → ts ≡ k ∷ others → ts ≡ k ∷ []
one_is ts f k others e q = let same : k ∷ others ≡ f ∷ [] = sym q ∙ e in let none : others ≡ [] = cc in q ∙ ap (λ z. k ∷ z) none

module _ (types : SourceTypes) (s : ScopeValues) (t : Term) (ts : List Term) (u : Shape) (r : IsActable types s (of (over fun.ForAll) (cons t (all ts))) u) where
  pub formula_is : (f : Term) (others : List Term) → ts ≡ f ∷ others → ts ≡ f ∷ []
  formula_is f others e = let k = one_formula types s t ts u r in one_is ts k.0 f others k.1 e

  pub formula_there : ts ≡ [] → ⊥
  formula_there e = let k = one_formula types s t ts u r in let some : ts ≡ k.0 ∷ [] = k.1 in let none : ts ≡ [] = e in absurd cc

  with_one : (f : Term) → ts ≡ f ∷ [] → IsActable types s (of (over fun.ForAll) (cons t (cons f nil))) u
  with_one f e = subst (λ (z : List Term). IsActable types s (of (over fun.ForAll) (cons t (all z))) u) e r

  -- the table
  pub table_can : (f : Term) (others : List Term) → ts ≡ f ∷ others → CanAct types s t
  table_can f others e = let k = with_one f (formula_is f others e) in (k.typed.1.0, table_actable types s t f u k)

  -- its rows, in whose scopes the formula stands, and what the whole fits
  pub record IsGone (f : Term) (taken : List Row) : Type 0 where
    pub type : Shape
    pub inside : IsActableInside types s type f taken
    pub fits : (ds : List Data) (v : Data) → AreOf type ds → v ≡ for_all_of ds → fits_in v u ≡ true

  pub gone : (f : Term) (others : List Term) → ts ≡ f ∷ others → (d : Data) → ((q : Shape) → IsActable types s t q → fits_in d q ≡ true) → (rows taken : List Row) → rows ≡ rows_in d → taken ≡ rows → IsGone f taken
  gone f others e d fits rows taken a b =
      let k = with_one f (formula_is f others e) in
      let j = each_of types s t f u k in
      let g : fits_in d (tables j.columns) ≡ true = subst (λ z. fits_in d z ≡ true) j.table (fits k.typed.1.0 (table_actable types s t f u k)) in
      record {
        type = k.typed.1.4.0;
        inside = subst (λ z. IsActableInside types s k.typed.1.4.0 f z) (sym (b ∙ a)) (formula_inside types s t f u k j.columns j.table (rows_in d) (rows_in_fit d j.columns g));
        fits = λ ds v h q. subst (λ z. fits_in v z ≡ true) (sym j.whole) (subst (λ z. fits_in z (tables (row_columns k.typed.1.4.0)) ≡ true) (sym q) (for_all_fits k.typed.1.4.0 ds j.rows (all_fit k.typed.1.4.0 ds h)));
      }
