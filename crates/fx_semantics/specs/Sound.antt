-- What the value of a well typed tree fits.
use Rattle.std.specs.Prelude.{◌≡◌, ℕ, true, List, [], ◌∷◌, ◌++◌, length, Option, Some, None}
use Rattle.std.specs.Prelude.{slice_get}
use Rattle.fx_types.specs.declared.faults.Fault.{Fault}
use Rattle.fx_types.specs.Types.{Shape}
use Rattle.fx_types.specs.Values.{Data}
use Rattle.fx_core.specs.declared.sources.Source.{Source}
use Rattle.fx_core.specs.Term.{Term, Terms, of, nil, cons, Top, list, coerce, chain, act}
pub use Rattle.fx_typing.specs.LawfulTypes.{AreLawfulColumns, IsLawfulType, IsBelowColumns}
use Rattle.fx_typing.specs.WellTyped.{Context, IsTyped, AreTyped, context_for, parts_count}
use Rattle.fx_typing.specs.WellTyped.{standing_at}
use Rattle.fx_value.specs.Fits.{fits_in}
use Rattle.fx_semantics.specs.Fresh.{IsValue}
use Rattle.fx_semantics.specs.Sources.{Gives}

abbrev mutual
  -- the types of a tree and of all its parts are lawful, as a typing has them
  pub IsLawfulTyping : (c : Context) (t : Term) (s : Shape) → IsTyped c t s → Type 0
  IsLawfulTyping c (of h ts) s w = IsLawfulType s
      × AreLawfulTypings c h (parts_count ts) [] ts w.0 w.1

  pub AreLawfulTypings : (c : Context) (h : Top) (n : ℕ) (done : List Shape) (ts : Terms)
      (us : List Shape) → AreTyped c h n done ts us → Type 0
  AreLawfulTypings c h n done nil us w = Unit {0}
  AreLawfulTypings c h n done (cons k ks) us w =
      IsLawfulTyping (context_for (standing_at h n (length done)) c done) k w.0 w.3
      × AreLawfulTypings c h n (done ++ w.0 ∷ []) ks w.1 w.4

abbrev pub AreLawfulTypes : List Shape → Type 0
AreLawfulTypes [] = Unit {0}
AreLawfulTypes (t ∷ ts) = IsLawfulType t × AreLawfulTypes ts

-- so are the types around
pub record IsLawfulContext (c : Context) : Type 0 where
  pub of_sources : (s : Source) (t : Shape) → c.sources s ≡ Some t → IsLawfulType t
  pub of_scopes : AreLawfulTypes c.rows
  pub of_item : (t : Shape) → c.item ≡ Some t → IsLawfulType t
  pub of_functions : (k : ℕ) (us : List Shape) (t : Shape) → slice_get c.functions k ≡ Some (us, t)
      → IsLawfulType t

-- a tree that doesn't act, and whose named types are lawful
abbrev pub NamesLawful : Top → Type 0
NamesLawful (list t) = IsLawfulType t
NamesLawful (coerce t) = IsLawfulType t
NamesLawful chain = ⊥
NamesLawful (act d) = ⊥
NamesLawful h = Unit {0}

abbrev mutual
  pub IsLawfulTree : Term → Type 0
  IsLawfulTree (of h ts) = NamesLawful h × AreLawfulTrees ts

  pub AreLawfulTrees : Terms → Type 0
  AreLawfulTrees nil = Unit {0}
  AreLawfulTrees (cons t ts) = IsLawfulTree t × AreLawfulTrees ts

-- all types of such a tree are lawful where those around are
abbrev pub TypingsLawful : Type 0
TypingsLawful = (c : Context) (t : Term) (s : Shape) (w : IsTyped c t s) → IsLawfulContext c
    → IsLawfulTree t → IsLawfulTyping c t s w

-- each value fits the type at its place
abbrev pub AreFit : List Data → List Shape → Type 0
AreFit [] [] = Unit {0}
AreFit (d ∷ ds) (t ∷ ts) = (fits_in d t ≡ true) × AreFit ds ts
AreFit ds ts = ⊥

-- the item fits its type, where there is one
abbrev pub IsItemFit : Option Data → Option Shape → Type 0
IsItemFit (Some d) (Some t) = fits_in d t ≡ true
IsItemFit None (Some t) = ⊥
IsItemFit d None = Unit {0}

-- THE law: over sources that give what fits their types, with rows and an item that fit theirs,
-- each value of a tree fits the type that a typing gives it, where the columns of all its types
-- rise
abbrev pub ValuesFit : Type 0
ValuesFit =
    (c : Context) (told : Option (Source → Data)) (rows : List Data) (item : Option Data)
    (caught : Option Fault)
    (t : Term) (s : Shape) (w : IsTyped c t s) (v : Data) →
    AreFit rows c.rows → IsItemFit item c.item → IsLawfulTyping c t s w →
    IsValue (record { gives = Gives c.sources told; rows = rows; item = item; caught = caught }) t v
    →
    fits_in v s ≡ true
