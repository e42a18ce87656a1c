-- The law that trees have one value at most: node by node, and by recursion on the tree.
use Rattle.std.proofs.Common.{◌≡◌, ◌∙◌, List, [], ◌∷◌, ◌++◌, Option, Some, None, ap, sym}
use Rattle.std.specs.Prelude.{slice_get}
use Rattle.fx_types.specs.declared.faults.Fault.{Fault}
use Rattle.fx_types.specs.Types.{Shape, blanks, numbers, texts, booleans, dates, records, tables}
use Rattle.fx_types.specs.Values.{Data, blank, text, rec, fault}
use Rattle.fx_core.specs.declared.functions.Fun.{Fun}
use Rattle.fx_core.specs.declared.functions.Fun.TheVariants as fun
use Rattle.fx_core.specs.declared.sources.Source.{Source}
use Rattle.fx_core.specs.declared.sources.Source.TheVariants as source
use Rattle.fx_scalar.proofs.OneAnswer.{one_answer}
use Rattle.fx_scalar.specs.Errors.{fault_record}
use Rattle.fx_scalar.specs.LazyForms.{ErrorOr}
use Rattle.fx_scalar.specs.ScalarFunctions.{IsAnswer}
use Rattle.fx_scalar.proofs.Single.{AtMostOne}
use Rattle.fx_tables.specs.Unions.{union_of}
use Rattle.fx_core.specs.Term.{Term, Terms, of, nil, cons, Top}
use Rattle.fx_core.specs.Term as top
use Rattle.fx_core.specs.ColumnLists.{row_columns}
use Rattle.fx_value.specs.Coercion.{IsCoerced}
use Rattle.fx_semantics.specs.Around.{Around, Meaning, AreValues, inside}
use Rattle.fx_semantics.specs.Errors.{IsCaught}
use Rattle.fx_semantics.specs.Fresh.{IsCalled, IsNode, IsWithin, OfAll, OfOne, field_of, fields_by, meaning, meanings}
use Rattle.fx_semantics.specs.Sources.{Gives}
use Rattle.fx_semantics.specs.Unique.{OneValue}
use Rattle.fx_semantics.proofs.Parts.{Giving, stands}
use Rattle.fx_semantics.proofs.Single.{AllSingle, Single, coalesced_one, equal_one, error_or_one, formed_one, some_one, then_one, values_one}
use Rattle.fx_semantics.proofs.SingleRows.{Once, over_one}

-- a coerced value; a text is read as the function Value reads it
pub coerced_one : (d : Data) (t : Shape) → AtMostOne (IsCoerced d t)
coerced_one blank t = λ v w h k. h ∙ sym k
coerced_one (fault x cs) t = λ v w h k. h ∙ sym k
coerced_one (text cs) numbers = one_answer fun.Value (text cs ∷ [])
coerced_one d blanks = λ v w h k. h ∙ sym k
coerced_one d numbers = λ v w h k. h ∙ sym k
coerced_one d texts = λ v w h k. h ∙ sym k
coerced_one d booleans = λ v w h k. h ∙ sym k
coerced_one d dates = λ v w h k. h ∙ sym k
coerced_one d (records cs) = λ v w h k. h ∙ sym k
coerced_one d (tables cs) = λ v w h k. h ∙ sym k

caught_one : (o : Option Fault) → AtMostOne (IsCaught o)
caught_one (Some e) = equal_one (fault_record e.kind e.message)
caught_one None = λ v w h k. absurd h

module _ (g : Giving) (rows : List Data) (item : Option Data) (caught : Option Fault) where
  abbrev here : Around
  here = stands g rows item caught

  of_one : (Ps : List Meaning) → AllSingle g Ps → (R : Data → Data → Type 0) → ((d : Data) → AtMostOne (R d)) → AtMostOne (λ v. OfOne Ps here (λ d. R d v))
  of_one [] s R r = λ v w h k. absurd h
  of_one (P ∷ []) s R r = then_one (P here) R (s.0 rows item caught) r
  of_one (P ∷ Q ∷ Ps) s R r = λ v w h k. absurd h

  of_all : (Ps : List Meaning) → AllSingle g Ps → (R : List Data → Data → Type 0) → ((ds : List Data) → AtMostOne (R ds)) → AtMostOne (λ v. OfAll Ps here (λ ds. R ds v))
  of_all Ps s R r = then_one (AreValues Ps here) R (values_one g Ps s rows item caught) r

  called_one : (f : Fun) (Ps : List Meaning) → AllSingle g Ps → AtMostOne (IsCalled f Ps here)
  called_one fun.Coalesce Ps s = coalesced_one g rows item caught Ps s
  called_one f Ps s = of_all Ps s (IsAnswer f) (one_answer f)

  within_one : (Ps : List Meaning) → AllSingle g Ps → AtMostOne (IsWithin Ps here)
  within_one [] s = λ v w h k. absurd h
  within_one (P ∷ []) s = λ v w h k. absurd h
  within_one (P ∷ F ∷ []) s =
      then_one (P here) (λ x v. ErrorOr x (F (inside here x) v) v) (s.0 rows item caught)
      (λ x. error_or_one x (F (inside here x)) (s.1.0 (rows ++ x ∷ []) item caught))
  within_one (P ∷ F ∷ Q ∷ Ps) s = λ v w h k. absurd h

  node_one : Once → ((s : Source) → AtMostOne (g s)) → (h : Top) (Ps : List Meaning) → AllSingle g Ps → AtMostOne (IsNode h Ps here)
  node_one o e (top.const d) Ps s = equal_one d
  node_one o e (top.read x) Ps s = e x
  node_one o e (top.row i) Ps s = some_one (slice_get rows i)
  node_one o e top.item Ps s = some_one item
  node_one o e top.caught Ps s = caught_one caught
  node_one o e (top.dot n) Ps s = of_one Ps s (λ d v. v ≡ field_of n d) (λ d. equal_one (field_of n d))
  node_one o e (top.call f) Ps s = called_one f Ps s
  node_one o e (top.over f) Ps s = over_one g rows item caught o f Ps s
  node_one o e (top.user f) Ps s = λ v w h k. absurd h
  node_one o e (top.form f) Ps s = formed_one g rows item caught f Ps s
  node_one o e top.within Ps s = within_one Ps s
  node_one o e (top.rec ns) Ps s = of_all Ps s (λ ds v. v ≡ rec (fields_by ns ds)) (λ ds. equal_one (rec (fields_by ns ds)))
  node_one o e (top.list t) Ps s = of_all Ps s (λ ds v. v ≡ union_of (tables (row_columns t)) ds) (λ ds. equal_one (union_of (tables (row_columns t)) ds))
  node_one o e (top.coerce t) Ps s = of_one Ps s (λ d v. IsCoerced d t v) (λ d. coerced_one d t)
  node_one o e top.chain Ps s = λ v w h k. absurd h
  node_one o e (top.act d) Ps s = λ v w h k. absurd h

-- ---- whole trees
mutual
  pub single : (g : Giving) → Once → ((s : Source) → AtMostOne (g s)) → (t : Term) → Single g (meaning t)
  single g o e (of h ts) = λ rows item caught. node_one g rows item caught o e h (meanings ts) (singles g o e ts)

  singles : (g : Giving) → Once → ((s : Source) → AtMostOne (g s)) → (ts : Terms) → AllSingle g (meanings ts)
  singles g o e nil = tt
  singles g o e (cons t ts) = (single g o e t, singles g o e ts)

pub one_value : Once → OneValue
one_value o types values rows item caught t v w =
    single (Gives types (Some values)) o (λ s x y h k. h.1 ∙ sym k.1) t rows item caught v w
