-- Names that are the same, whatever their types.
use Rattle.std.proofs.Common.{◌≡◌, ℕ, zero, suc, ◌<◌, ◌^◌, ◌++◌, List, [], ◌∷◌, All, length, map, Option, Some, None, slice_get, get_or, refl, ap, sym, subst, ◌∙◌, append-nil, arith}
use Rattle.std.proofs.lemmas.List.{nil_from_length}
use Rattle.fx_types.specs.TypeView.{shape}
use Rattle.fx_types.specs.declared.types.Ty.{Ty}
use Rattle.fx_typing.specs.Rounds.{AllSame, SameNames, SameVariable, SameFormula, SameCollection, SameControl}
use Rattle.fx_core.specs.Formulas.{retyped}
use Rattle.fx_core.specs.Lawful.{IsLawful, IsLawfulControl, IsLawfulProperty, IsLawfulScreen, IsLawfulGallery, IsGallery, Has, AreDistinct, IsLawfulFunction, IsLawfulSchema}
use Rattle.fx_core.specs.declared.names.Collection.{Collection}
use Rattle.fx_core.specs.declared.names.ControlName.{ControlName}
use Rattle.fx_core.specs.declared.names.FormulaName.{FormulaName}
use Rattle.fx_core.specs.declared.names.FunctionName.{FunctionName}
use Rattle.fx_core.specs.declared.names.Names.{Names}
use Rattle.fx_core.specs.declared.names.Property.{Property}
use Rattle.fx_core.specs.declared.names.Variable.{Variable}

-- lists of which each two are the same
pub same_through : {A : Type 0} (R : A → A → Type 0) → ((a b c : A) → R a b → R b c → R a c) →
    (xs ys zs : List A) → AllSame R xs ys → AllSame R ys zs → AllSame R xs zs
same_through R go [] [] [] h k = tt
same_through R go [] [] (z ∷ zs) h k = absurd k
same_through R go [] (y ∷ ys) zs h k = absurd h
same_through R go (x ∷ xs) [] zs h k = absurd h
same_through R go (x ∷ xs) (y ∷ ys) [] h k = absurd k
same_through R go (x ∷ xs) (y ∷ ys) (z ∷ zs) h k = (go x y z h.0 k.0, same_through R go xs ys zs h.1 k.1)

pub same_length : {A : Type 0} (R : A → A → Type 0) (xs ys : List A) → AllSame R xs ys → length xs ≡ length ys
same_length R [] [] h = refl
same_length R [] (y ∷ ys) h = absurd h
same_length R (x ∷ xs) [] h = absurd h
same_length R (x ∷ xs) (y ∷ ys) h = ap suc (same_length R xs ys h.1)

pub same_map : {A B : Type 0} (R : A → A → Type 0) (f : A → B) → ((a b : A) → R a b → f a ≡ f b) →
    (xs ys : List A) → AllSame R xs ys → map f xs ≡ map f ys
same_map R f e [] [] h = refl
same_map R f e [] (y ∷ ys) h = absurd h
same_map R f e (x ∷ xs) [] h = absurd h
same_map R f e (x ∷ xs) (y ∷ ys) h = ap (λ z. z ∷ map f xs) (e x y h.0) ∙ ap (λ zs. f y ∷ zs) (same_map R f e xs ys h.1)

pub same_get : {A : Type 0} (R : A → A → Type 0) (xs ys : List A) (k : ℕ) (d : A) → AllSame R xs ys → k < length xs →
    R (get_or xs k d) (get_or ys k d)
same_get R [] ys k d h l = absurd (omega arith)
same_get R (x ∷ xs) [] k d h l = absurd h
same_get R (x ∷ xs) (y ∷ ys) zero d h l = h.0
same_get R (x ∷ xs) (y ∷ ys) (suc k) d h l = same_get R xs ys k d h.1 (omega arith)

pub same_all : {A : Type 0} (R : A → A → Type 0) (P Q : A → Type 0) → ((a b : A) → R a b → P a → Q b) →
    (xs ys : List A) → AllSame R xs ys → All P xs → All Q ys
same_all R P Q go xs ys h p = λ k d l.
    let i : k < length xs = subst (λ (n : ℕ). k < n) (sym (same_length R xs ys h)) l in
    go (get_or xs k d) (get_or ys k d) (same_get R xs ys k d h i) (p k d i)

-- the same things at a place
pub same_at : {A : Type 0} (R : A → A → Type 0) (P : Option A → Type 0) → ((a b : A) → R a b → P (Some a) → P (Some b)) →
    (xs ys : List A) (i : ℕ) → AllSame R xs ys → P (slice_get xs i) → P (slice_get ys i)
same_at R P go [] [] i h p = p
same_at R P go [] (y ∷ ys) i h p = absurd h
same_at R P go (x ∷ xs) [] i h p = absurd h
same_at R P go (x ∷ xs) (y ∷ ys) zero h p = go x y h.0 p
same_at R P go (x ∷ xs) (y ∷ ys) (suc i) h p = same_at R P go xs ys i h.1 p

-- names through others
variable_through : (a b c : Variable) → SameVariable a b → SameVariable b c → SameVariable a c
variable_through a b c h k = (h.0 ∙ k.0, h.1 ∙ k.1)

formula_through : (a b c : FormulaName) → SameFormula a b → SameFormula b c → SameFormula a c
formula_through a b c h k = (h.0 ∙ k.0, h.1 ∙ k.1)

collection_through : (a b c : Collection) → SameCollection a b → SameCollection b c → SameCollection a c
collection_through a b c h k = h ∙ k

control_through : (a b c : ControlName) → SameControl a b → SameControl b c → SameControl a c
control_through a b c h k = (h.0 ∙ k.0, h.1 ∙ k.1, h.2 ∙ k.2, h.3 ∙ k.3)

pub names_through : (a b c : Names) → SameNames a b → SameNames b c → SameNames a c
names_through a b c h k = record {
  signatures = h.signatures ∙ k.signatures;
  schema = h.schema ∙ k.schema;
  screens = h.screens ∙ k.screens;
  functions = h.functions ∙ k.functions;
  properties = h.properties ∙ k.properties;
  controls = same_through SameControl control_through a.controls b.controls c.controls h.controls k.controls;
  formulas = same_through SameFormula formula_through a.formulas b.formulas c.formulas h.formulas k.formulas;
  variables = same_through SameVariable variable_through a.variables b.variables c.variables h.variables k.variables;
  collections = same_through SameCollection collection_through a.collections b.collections c.collections h.collections k.collections;
}

-- what is lawful stays so
gallery_same : (n m : Names) → SameNames n m → (g : Option ℕ) → IsLawfulGallery n.controls g → IsLawfulGallery m.controls g
gallery_same n m h None l = tt
gallery_same n m h (Some g) l = same_at SameControl IsGallery (λ a b s e. sym s.1 ∙ e) n.controls m.controls g h.controls l

control_lawful : (n m : Names) → SameNames n m → (a b : ControlName) → SameControl a b → IsLawfulControl n a → IsLawfulControl m b
control_lawful n m h a b s l = (
  subst (λ (k : ℕ). k < length m.screens) s.2 (subst (λ (xs : List (List ℕ)). a.screen < length xs) h.screens l.0),
  subst (IsLawfulGallery m.controls) s.3 (gallery_same n m h a.gallery l.1),
)

has_same : (x : List ℕ) (a b : ControlName) → SameControl a b → Has x (Some a) → Has x (Some b)
has_same x a b s e = subst (λ k. Has x (Some (record b { kind = k }))) s.1 e

property_lawful : (n m : Names) → SameNames n m → (p : Property) → IsLawfulProperty n p → IsLawfulProperty m p
property_lawful n m h p l = same_at SameControl (Has p.name) (has_same p.name) n.controls m.controls p.control h.controls l

all_lawful : (n m : Names) → SameNames n m → (ps : List Property) → All (IsLawfulProperty n) ps → All (IsLawfulProperty m) ps
all_lawful n m h ps l = λ k d i. property_lawful n m h (get_or ps k d) (l k d i)

screen_lawful : (n m : Names) → SameNames n m → (s : Option ℕ) → IsLawfulScreen n s → IsLawfulScreen m s
screen_lawful n m h None l = tt
screen_lawful n m h (Some s) l = subst (λ (xs : List (List ℕ)). s < length xs) h.screens l

variable_lawful : (n m : Names) → SameNames n m → (a b : Variable) → SameVariable a b → IsLawfulScreen n a.screen → IsLawfulScreen m b.screen
variable_lawful n m h a b s l = subst (IsLawfulScreen m) s.1 (screen_lawful n m h a.screen l)

pub lawful_same : (n m : Names) → SameNames n m → IsLawful n → IsLawful m
lawful_same n m h l = record {
  schema = subst IsLawfulSchema h.schema l.schema;
  screens = subst (λ (xs : List (List ℕ)). length xs < 2 ^ 32) h.screens l.screens;
  controls = (
    subst (λ (k : ℕ). k < 2 ^ 32) (same_length SameControl n.controls m.controls h.controls) l.controls.0,
    same_all SameControl (IsLawfulControl n) (IsLawfulControl m) (control_lawful n m h) n.controls m.controls h.controls l.controls.1,
  );
  properties = subst (λ (ps : List Property). (length ps < 2 ^ 32) × All (IsLawfulProperty m) ps) h.properties (l.properties.0, all_lawful n m h n.properties l.properties.1);
  formulas = subst (λ (k : ℕ). k < 2 ^ 32) (same_length SameFormula n.formulas m.formulas h.formulas) l.formulas;
  functions = subst (λ (fs : List FunctionName). (length fs < 2 ^ 32) × AreDistinct (map (λ (f : FunctionName). f.name) fs) × All IsLawfulFunction fs) h.functions l.functions;
  variables = (
    subst (λ (k : ℕ). k < 2 ^ 32) (same_length SameVariable n.variables m.variables h.variables) l.variables.0,
    same_all SameVariable (λ (v : Variable). IsLawfulScreen n v.screen) (λ (v : Variable). IsLawfulScreen m v.screen) (variable_lawful n m h) n.variables m.variables h.variables l.variables.1,
  );
  collections = subst (λ (k : ℕ). k < 2 ^ 32) (same_length SameCollection n.collections m.collections h.collections) l.collections;
  cells = subst AreDistinct (ap (λ ks. ks ++ map (λ (p : Property). p.cell) n.properties) (same_map SameFormula (λ (f : FormulaName). f.cell) (λ a b s. s.1) n.formulas m.formulas h.formulas)
      ∙ ap (λ (ps : List Property). map (λ (f : FormulaName). f.cell) m.formulas ++ map (λ (p : Property). p.cell) ps) h.properties) l.cells;
}

pub done_same : {A : Type 0} (R : A → A → Type 0) (xs ys rest : List A) → length rest ≡ 0 →
    ((more : List A) → AllSame R rest more → AllSame R xs (ys ++ more)) → AllSame R xs ys
done_same R xs ys rest e go = subst (AllSame R xs) (append-nil ys) (go [] (subst (λ r. AllSame R r []) (sym (nil_from_length rest e)) tt))

-- formulas with other types are the same
pub formulas_same : (fs : List FormulaName) (ts : List Ty) → length ts ≡ length fs → AllSame SameFormula fs (retyped fs ts)
formulas_same [] ts e = tt
formulas_same (f ∷ fs) [] e = absurd (omega arith)
formulas_same (f ∷ fs) (t ∷ ts) e = ((refl, refl), formulas_same fs ts (omega arith))

pub formulas_typed : (fs : List FormulaName) (ts : List Ty) → length ts ≡ length fs → map (λ (f : FormulaName). shape f.ty) (retyped fs ts) ≡ map shape ts
formulas_typed [] [] e = refl
formulas_typed [] (t ∷ ts) e = absurd (omega arith)
formulas_typed (f ∷ fs) [] e = absurd (omega arith)
formulas_typed (f ∷ fs) (t ∷ ts) e = ap (λ us. shape t ∷ us) (formulas_typed fs ts (omega arith))
