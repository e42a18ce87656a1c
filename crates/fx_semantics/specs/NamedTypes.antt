-- The types that a tree names.
use Rattle.fx_semantics.specs.Sound.{IsLawfulType}
use Rattle.fx_core.specs.Term.{Term, Terms, of, nil, cons, Top, list, coerce}

-- the type that a head names, if it names one, has rising columns at every depth
abbrev pub NamesLawfulType : Top → Type 0
NamesLawfulType (list t) = IsLawfulType t
NamesLawfulType (coerce t) = IsLawfulType t
NamesLawfulType h = Unit {0}

abbrev mutual
  -- so do all types that a tree names, whether or not it acts
  pub HasLawfulTypes : Term → Type 0
  HasLawfulTypes (of h ts) = NamesLawfulType h × HaveLawfulTypes ts

  pub HaveLawfulTypes : Terms → Type 0
  HaveLawfulTypes nil = Unit {0}
  HaveLawfulTypes (cons t ts) = HasLawfulTypes t × HaveLawfulTypes ts
