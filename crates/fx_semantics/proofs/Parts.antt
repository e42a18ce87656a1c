-- What the parts of a well typed tree give: values that fit, wherever what stands around fits.
use Rattle.std.proofs.Common.{◌≡◌, ℕ, List, [], ◌∷◌, ◌++◌, length, true, Option, Some, subst}
use Rattle.fx_types.specs.declared.faults.Fault.{Fault}
use Rattle.fx_types.specs.Types.{Shape}
use Rattle.fx_types.specs.Values.{Data}
use Rattle.fx_core.specs.declared.sources.Source.{Source}
use Rattle.fx_core.specs.Term.{Top}
use Rattle.fx_typing.specs.WellTyped.{Context, PartScope, plain, standing_at, context_for}
use Rattle.fx_value.specs.Fits.{fits_in}
use Rattle.fx_semantics.specs.Around.{Around, Meaning, AreValues}
use Rattle.fx_semantics.specs.Sound.{AreFit, IsItemFit}

-- what sources may give
abbrev pub Giving : Type 1
Giving = Source → Data → Type 0

-- where a formula stands, by its parts
abbrev pub stands : Giving → List Data → Option Data → Option Fault → Around
stands g rows item caught = record { gives = g; rows = rows; item = item; caught = caught }

-- what stands around fits the context
pub record Suits (g : Giving) (c : Context) (rows : List Data) (item : Option Data) : Type 0 where
  pub of_sources : (s : Source) (t : Shape) (v : Data) → c.sources s ≡ Some t → g s v → fits_in v t ≡ true
  pub of_scopes : AreFit rows c.rows
  pub of_item : IsItemFit item c.item

-- each value of a formula fits the type
abbrev pub Holds : Giving → Context → Meaning → Shape → Type 0
Holds g c P t =
    (rows : List Data) (item : Option Data) (caught : Option Fault) (v : Data) → Suits g c rows item →
    P (stands g rows item caught) v → fits_in v t ≡ true

-- parts, each in its context behind the types of those before
abbrev pub AllHold : Giving → Context → Top → ℕ → List Shape → List Meaning → List Shape → Type 0
AllHold g c h n done [] [] = Unit {0}
AllHold g c h n done (P ∷ Ps) (u ∷ us) =
    Holds g (context_for (standing_at h n (length done)) c done) P u × AllHold g c h n (done ++ u ∷ []) Ps us
AllHold g c h n done Ps us = ⊥

-- parts that stand where the whole stands
abbrev pub AllPlain : Giving → Context → List Meaning → List Shape → Type 0
AllPlain g c [] [] = Unit {0}
AllPlain g c (P ∷ Ps) (u ∷ us) = Holds g c P u × AllPlain g c Ps us
AllPlain g c Ps us = ⊥

pub all_plain : (g : Giving) (c : Context) (h : Top) (n : ℕ) → ((i : ℕ) → standing_at h n i ≡ plain) →
    (done : List Shape) (Ps : List Meaning) (us : List Shape) → AllHold g c h n done Ps us → AllPlain g c Ps us
all_plain g c h n p done [] [] k = tt
all_plain g c h n p done (P ∷ Ps) (u ∷ us) k =
    (subst (λ (s : PartScope). Holds g (context_for s c done) P u) (p (length done)) k.0, all_plain g c h n p (done ++ u ∷ []) Ps us k.1)
all_plain g c h n p done [] (u ∷ us) k = absurd k
all_plain g c h n p done (P ∷ Ps) [] k = absurd k

-- their values fit
pub values_fit : (g : Giving) (c : Context) (Ps : List Meaning) (us : List Shape) → AllPlain g c Ps us →
    (rows : List Data) (item : Option Data) (caught : Option Fault) → Suits g c rows item →
    (ds : List Data) → AreValues Ps (stands g rows item caught) ds → AreFit ds us
values_fit g c [] [] k rows item caught s [] v = tt
values_fit g c (P ∷ Ps) (u ∷ us) k rows item caught s (d ∷ ds) v =
    (k.0 rows item caught d s v.0, values_fit g c Ps us k.1 rows item caught s ds v.1)
values_fit g c [] [] k rows item caught s (d ∷ ds) v = absurd v
values_fit g c (P ∷ Ps) (u ∷ us) k rows item caught s [] v = absurd v
values_fit g c [] (u ∷ us) k rows item caught s ds v = absurd k
values_fit g c (P ∷ Ps) [] k rows item caught s ds v = absurd k

-- one more scope
pub rows_more : (rows : List Data) (ts : List Shape) (d : Data) (t : Shape) → AreFit rows ts → fits_in d t ≡ true → AreFit (rows ++ d ∷ []) (ts ++ t ∷ [])
rows_more [] [] d t k f = (f, tt)
rows_more (r ∷ rows) (u ∷ ts) d t k f = (k.0, rows_more rows ts d t k.1 f)
rows_more [] (u ∷ ts) d t k f = absurd k
rows_more (r ∷ rows) [] d t k f = absurd k

pub inside_suits : (g : Giving) (c : Context) (rows : List Data) (item : Option Data) (d : Data) (t : Shape) → Suits g c rows item →
    fits_in d t ≡ true → Suits g (record c { rows = c.rows ++ t ∷ [] }) (rows ++ d ∷ []) item
inside_suits g c rows item d t s f = record { of_sources = s.of_sources; of_scopes = rows_more rows c.rows d t s.of_scopes f; of_item = s.of_item }

-- a caught error makes no difference
pub catching_suits : (g : Giving) (c : Context) (rows : List Data) (item : Option Data) → Suits g c rows item → Suits g (record c { caught = true }) rows item
catching_suits g c rows item s = record { of_sources = s.of_sources; of_scopes = s.of_scopes; of_item = s.of_item }
