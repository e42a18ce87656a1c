-- The types after so many rounds are one.
use Rattle.std.proofs.Common.{◌≡◌, ℕ, zero, suc, List, [], ◌∷◌, map, refl, ap, sym, subst, ◌∙◌}
use Rattle.fx_types.specs.TypeView.{shape}
use Rattle.fx_types.specs.Types.{Shape, column_list}
use Rattle.fx_types.specs.declared.types.Ty.{Ty}
use Rattle.fx_types.specs.declared.types.Ty.TheVariants as ty
use Rattle.fx_typing.specs.Rounds as rounds
use Rattle.fx_typing.specs.Rounds.{AllSame, AfterRounds, Cell, AreFinalTypes, SameNames, SameVariable, SameFormula, SameCollection, SameControl, StillChanges, next_types, types_in}
use Rattle.fx_core.specs.declared.names.Collection.{Collection}
use Rattle.fx_core.specs.declared.names.ControlName.{ControlName}
use Rattle.fx_core.specs.declared.names.FormulaName.{FormulaName}
use Rattle.fx_core.specs.declared.names.Names.{Names}
use Rattle.fx_core.specs.declared.names.Variable.{Variable}

-- types that are seen as one are one
pub columns_one : (cs ds : List (List ℕ × Shape)) → column_list cs ≡ column_list ds → cs ≡ ds
columns_one [] [] e = refl
columns_one [] (d ∷ ds) e = absurd cc
columns_one (c ∷ cs) [] e = absurd cc
columns_one (c ∷ cs) (d ∷ ds) e =
    let n : c.0 ≡ d.0 = cc in
    let t : c.1 ≡ d.1 = cc in
    let rest : column_list cs ≡ column_list ds = cc in
    λ i. (n i, t i) ∷ columns_one cs ds rest i

pub ty_one : (s t : Ty) → shape s ≡ shape t → s ≡ t
ty_one ty.Blank ty.Blank e = refl
ty_one ty.Number ty.Number e = refl
ty_one ty.Text ty.Text e = refl
ty_one ty.Boolean ty.Boolean e = refl
ty_one ty.Date ty.Date e = refl
ty_one (ty.Rec cs) (ty.Rec ds) e = let k : column_list cs ≡ column_list ds = cc in ap ty.Rec (columns_one cs ds k)
ty_one (ty.Tab cs) (ty.Tab ds) e = let k : column_list cs ≡ column_list ds = cc in ap ty.Tab (columns_one cs ds k)
ty_one s t e = absurd cc

-- things of one name that have one type are one
pub all_one : {A : Type 0} (R : A → A → Type 0) (f : A → Shape) → ((n a b : A) → R n a → R n b → f a ≡ f b → a ≡ b) →
    (ns xs ys : List A) → AllSame R ns xs → AllSame R ns ys → map f xs ≡ map f ys → xs ≡ ys
all_one R f go [] [] [] h k e = refl
all_one R f go [] [] (y ∷ ys) h k e = absurd k
all_one R f go [] (x ∷ xs) ys h k e = absurd h
all_one R f go (n ∷ ns) [] ys h k e = absurd h
all_one R f go (n ∷ ns) (x ∷ xs) [] h k e = absurd k
all_one R f go (n ∷ ns) (x ∷ xs) (y ∷ ys) h k e =
    let t : f x ≡ f y = cc in
    let rest : map f xs ≡ map f ys = cc in
    λ i. go n x y h.0 k.0 t i ∷ all_one R f go ns xs ys h.1 k.1 rest i

pub variable_one : (n a b : Variable) → SameVariable n a → SameVariable n b → shape a.ty ≡ shape b.ty → a ≡ b
variable_one n a b h k e = λ i. record { name = (sym h.0 ∙ k.0) i; screen = (sym h.1 ∙ k.1) i; ty = ty_one a.ty b.ty e i }

pub formula_one : (n a b : FormulaName) → SameFormula n a → SameFormula n b → shape a.ty ≡ shape b.ty → a ≡ b
formula_one n a b h k e = λ i. record { name = (sym h.0 ∙ k.0) i; cell = (sym h.1 ∙ k.1) i; ty = ty_one a.ty b.ty e i }

pub collection_one : (n a b : Collection) → SameCollection n a → SameCollection n b → shape a.ty ≡ shape b.ty → a ≡ b
collection_one n a b h k e = λ i. record { name = (sym h ∙ k) i; ty = ty_one a.ty b.ty e i }

pub control_one : (n a b : ControlName) → SameControl n a → SameControl n b → shape a.items ≡ shape b.items → a ≡ b
control_one n a b h k e = λ i. record {
  name = (sym h.0 ∙ k.0) i;
  kind = (sym h.1 ∙ k.1) i;
  screen = (sym h.2 ∙ k.2) i;
  gallery = (sym h.3 ∙ k.3) i;
  items = ty_one a.items b.items e i;
}

pub names_one : (n a b : Names) → SameNames n a → SameNames n b → types_in a ≡ types_in b → a ≡ b
names_one n a b h k e = λ i. record {
  signatures = (sym h.signatures ∙ k.signatures) i;
  schema = (sym h.schema ∙ k.schema) i;
  screens = (sym h.screens ∙ k.screens) i;
  functions = (sym h.functions ∙ k.functions) i;
  controls = all_one SameControl (λ (c : ControlName). shape c.items) control_one n.controls a.controls b.controls h.controls k.controls (ap (λ (t : rounds.Types). t.items) e) i;
  properties = (sym h.properties ∙ k.properties) i;
  formulas = all_one SameFormula (λ (f : FormulaName). shape f.ty) formula_one n.formulas a.formulas b.formulas h.formulas k.formulas (ap (λ (t : rounds.Types). t.formulas) e) i;
  variables = all_one SameVariable (λ (v : Variable). shape v.ty) variable_one n.variables a.variables b.variables h.variables k.variables (ap (λ (t : rounds.Types). t.variables) e) i;
  collections = all_one SameCollection (λ (c : Collection). shape c.ty) collection_one n.collections a.collections b.collections h.collections k.collections (ap (λ (t : rounds.Types). t.collections) e) i;
}

-- the names after so many rounds are one
pub after_one : (cs : List Cell) (n : Names) (k : ℕ) (a b : Names) → AfterRounds cs n k a → AfterRounds cs n k b → a ≡ b
after_one cs n zero a b x y = names_one n a b x.0 y.0 (x.1 ∙ sym y.1)
after_one cs n (suc k) a b x y = names_one n a b x.0 y.0 (x.3 ∙ ap (next_types cs) (after_one cs n k x.1 y.1 x.2 y.2) ∙ sym y.3)

-- where a round keeps all types, not each of them changes one
pub final_settles : (cs : List Cell) (n m : Names) → AreFinalTypes cs n m → StillChanges cs n → ⊥
final_settles cs n m f s =
    let c = s f.0 f.1 in
    c.2 (subst (λ (x : Names). next_types cs x ≡ types_in x) (after_one cs n f.0 m c.0 f.2 c.1) f.3)
