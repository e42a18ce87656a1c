-- What nodes do by their parts, and what their values fit.
use Rattle.std.proofs.Common.{◌≡◌, ℕ, ◌+◌, ◌≤◌, List, [], ◌∷◌, true, false, Option, refl, ap, sym, subst, ◌∙◌}
use Rattle.fx_base.specs.Silence.{MayFallSilent}
use Rattle.fx_base.proofs.Silences.{goes_weaker}
use Rattle.fx_types.specs.Types.{Shape, tables}
use Rattle.fx_types.specs.Values.{Data}
use Rattle.fx_eval.proofs.Sizes.{table_falls}
use Rattle.fx_env.specs.Scopes.{ScopeValues}
use Rattle.fx_semantics.proofs.Coerced.{all_of_one, list_fits}
use Rattle.fx_semantics.proofs.Fields.{dot_fits}
use Rattle.fx_semantics.proofs.Whole.{lawful_here}
use Rattle.fx_semantics.specs.Fresh.{field_of}
use Rattle.fx_semantics.specs.Sound.{AreFit}
use Rattle.fx_tables.specs.Unions.{union_of}
use Rattle.fx_core.specs.declared.functions.Fun.{Fun}
use Rattle.fx_core.specs.declared.functions.Fun.TheVariants as fun
use Rattle.fx_core.specs.Term.{Term, Terms, of, nil, cons, all, Top, term_size, terms_size}
use Rattle.fx_core.specs.Term as top
use Rattle.fx_typing.specs.Acts.{acts}
use Rattle.fx_core.specs.ColumnLists.{row_columns}
use Rattle.fx_typing.specs.LawfulTypes.{IsLawfulType}
use Rattle.fx_value.specs.Coercion.{IsCoerced}
use Rattle.fx_value.specs.Fits.{fits_in}
use Rattle.fx_deeds.specs.Fitting.{SourceTypes}
use Rattle.fx_deeds.specs.State.{Ground, WorldState}
use Rattle.fx_semantics.specs.Places.{is_for_all, part_may_act}
use Rattle.fx_behave.proofs.Heads.{coerce_to, dot_type, found_at, list_there, row_lawful}
use Rattle.fx_behave.proofs.Sequences.{acts_as}
use Rattle.fx_behave.specs.Actable.{AreActable, CanAct, IsActable}
use Rattle.fx_behave.specs.Perform.{ArePerformed, PerformsNode, Performs, performings}

-- ---- two parts

pub two_are : (k : Top) (x y t f w : Term) → of k (cons x (cons y nil)) ≡ w → t ≡ x → f ≡ y → of k (cons t (cons f nil)) ≡ w
two_are k x y t f w e p q = subst (λ z. of k (cons z (cons f nil)) ≡ w) (sym p) (subst (λ z. of k (cons x (cons z nil)) ≡ w) (sym q) e)

pub two_fall : (k : Top) (x y t f w : Term) → of k (cons x (cons y nil)) ≡ w → t ≡ x → f ≡ y → term_size t + terms_size (all (f ∷ [])) + 2 ≤ term_size w
two_fall k x y t f w e p q = table_falls w k x (y ∷ []) t (f ∷ []) e p (ap (λ z. z ∷ []) q)

-- ---- a call over a table that acts

over_all : (f : Fun) → is_for_all f ≡ true → f ≡ fun.ForAll
over_all fun.ForAll e = refl
over_all f e = absurd cc

pub over_is : (types : SourceTypes) (s : ScopeValues) (f : Fun) (x t : Term) (xs ts : List Term) (w : Term) → of (top.over f) (cons x (all xs)) ≡ w → t ≡ x → ts ≡ xs → CanAct types s w → acts w ≡ true →
    of (top.over fun.ForAll) (cons t (all ts)) ≡ w
over_is types s f x t xs ts w e p q r a =
    let here = found_at types s (of (top.over f) (cons x (all xs))) w e r in
    let same : f ≡ fun.ForAll = over_all f (here.1.placed.0 (ap acts e ∙ a)) in
    subst (λ (z : Fun). of (top.over z) (cons t (all ts)) ≡ w) same
    (subst (λ z. of (top.over f) (cons z (all ts)) ≡ w) (sym p) (subst (λ (z : List Term). of (top.over f) (cons x (all z)) ≡ w) (sym q) e))

-- no other node acts, nor does a part of it
pub no_place : (types : SourceTypes) (s : ScopeValues) (k : Top) (ts : Terms) (w : Term) → of k ts ≡ w → part_may_act k ≡ false → CanAct types s w → acts w ≡ true → ⊥
no_place types s k ts w e n r a =
    let p : part_may_act k ≡ true = (found_at types s (of k ts) w e r).1.placed.0 (ap acts e ∙ a) in
    let wrong : true ≡ false = sym p ∙ n in absurd cc

-- ---- the one part, of whose value the answer is made

module _ {A : Type 0} (lost : Type 0) (g : Ground A) (h : ScopeValues) (d v : Data) (a b : Option (WorldState A)) where
  one_done : (k : Top) (x t w : Term) → of k (cons x nil) ≡ w → t ≡ x → acts w ≡ true → ((s u : WorldState A) → Performs g x h d s u → PerformsNode g k (performings g (cons x nil)) h s v u) →
      MayFallSilent lost (Performs g t h d) a b → MayFallSilent lost (Performs g w h v) a b
  one_done k x t w e p q f =
      goes_weaker lost (Performs g t h d) (Performs g w h v)
      (λ s u r. acts_as g k (cons x nil) w h v s u e q (f s u (subst (λ z. Performs g z h d s u) p r))) a b

  pub dot_done : (n : List ℕ) (x t w : Term) → of (top.dot n) (cons x nil) ≡ w → t ≡ x → acts w ≡ true → v ≡ field_of n d → MayFallSilent lost (Performs g t h d) a b → MayFallSilent lost (Performs g w h v) a b
  dot_done n x t w e p q r = one_done (top.dot n) x t w e p q (λ s u k. (d, k, r))

  pub coerce_done : (to : Shape) (x t w : Term) → of (top.coerce to) (cons x nil) ≡ w → t ≡ x → acts w ≡ true → IsCoerced d to v → MayFallSilent lost (Performs g t h d) a b → MayFallSilent lost (Performs g w h v) a b
  coerce_done to x t w e p q r = one_done (top.coerce to) x t w e p q (λ s u k. (d, k, r))

-- values as the rows of a table
pub list_done : {A : Type 0} (lost : Type 0) (g : Ground A) (h : ScopeValues) (ds : List Data) (v : Data) (a b : Option (WorldState A)) (q : Shape) (ts xs : List Term) (w : Term) → of (top.list q) (all ts) ≡ w → xs ≡ ts → acts w ≡ true →
    v ≡ union_of (tables (row_columns q)) ds → MayFallSilent lost (λ s u. ArePerformed (performings g (all xs)) h s ds u) a b → MayFallSilent lost (Performs g w h v) a b
list_done lost g h ds v a b q ts xs w e p act r =
    goes_weaker lost (λ s u. ArePerformed (performings g (all xs)) h s ds u) (Performs g w h v)
    (λ s u k. acts_as g (top.list q) (all ts) w h v s u e act (ds, subst (λ (ys : List Term). ArePerformed (performings g (all ys)) h s ds u) p k, r)) a b

-- ---- what the values fit

module _ (types : SourceTypes) (s : ScopeValues) (w : Term) (u : Shape) (r : IsActable types s w u) where
  pub dot_fit : (n : List ℕ) (x t : Term) → of (top.dot n) (cons x nil) ≡ w → t ≡ x → (d v : Data) → ((q : Shape) → IsActable types s t q → fits_in d q ≡ true) → v ≡ field_of n d → fits_in v u ≡ true
  dot_fit n x t e p d v fits f = let k = dot_type types s n x t w e p u r in subst (λ z. fits_in z u ≡ true) (sym f) (dot_fits n k.0 u d k.2 (fits k.0 k.1))

  pub coerce_fit : (to : Shape) (x t : Term) → of (top.coerce to) (cons x nil) ≡ w → t ≡ x → (v : Data) → fits_in v to ≡ true → fits_in v u ≡ true
  coerce_fit to x t e p v f = subst (λ z. fits_in v z ≡ true) (sym (coerce_to types s to x t w e p u r)) f

  pub list_fit : (q : Shape) (ts xs : List Term) → of (top.list q) (all ts) ≡ w → xs ≡ ts → (ds : List Data) (v : Data) → ((us : List Shape) → AreActable types s us xs → AreFit ds us) →
      v ≡ union_of (tables (row_columns q)) ds → fits_in v u ≡ true
  list_fit q ts xs e p ds v fits f =
      let k = list_there types s q ts xs w e p u r in
      let lawful : IsLawfulType (tables (row_columns q)) = subst IsLawfulType k.whole (lawful_here r.context w u r.typed r.lawful) in
      subst (λ z. fits_in v z ≡ true) (sym k.whole)
      (subst (λ z. fits_in z (tables (row_columns q)) ≡ true) (sym f) (list_fits q (row_lawful q k.rows lawful) k.rows ds (all_of_one q ds k.types_of k.same (fits k.types_of k.parts))))
