-- The sources that a typed tree names.
use Rattle.std.specs.Prelude.{◌≡◌, ℕ, ◌++◌, List, [], ◌∷◌, ◌⊎◌}
use Rattle.std.specs.Ordering.{nat_cmp, ordering_then}
use Rattle.std.specs.declared.cmp.Ordering.{Ordering}
use Rattle.std.specs.declared.cmp.Ordering.TheVariants.{Less}
use Rattle.fx_core.specs.declared.sources.Source.{Source}
use Rattle.fx_core.specs.declared.sources.Source.TheVariants as source
use Rattle.fx_core.specs.Term.{Term, Terms, of, nil, cons, Top, read}

-- the order of sources: kind after kind, and by number
abbrev pub source_rank : Source → ℕ
source_rank (source.Cell n) = 0
source_rank (source.Global n) = 1
source_rank (source.Context n) = 2
source_rank (source.Gathered n) = 3
source_rank (source.Input n) = 4
source_rank (source.Chosen n) = 5
source_rank (source.Table n) = 6
source_rank source.Today = 7

abbrev pub source_number : Source → ℕ
source_number (source.Cell n) = n
source_number (source.Global n) = n
source_number (source.Context n) = n
source_number (source.Gathered n) = n
source_number (source.Input n) = n
source_number (source.Chosen n) = n
source_number (source.Table n) = n
source_number source.Today = 0

abbrev pub source_order : Source → Source → Ordering
source_order s t = ordering_then (nat_cmp (source_rank s) (source_rank t))
    (nat_cmp (source_number s) (source_number t))

-- the source is below each of these
abbrev pub IsSourceBelowAll : Source → List Source → Type 0
IsSourceBelowAll s [] = Unit {0}
IsSourceBelowAll s (t ∷ ts) = (source_order s t ≡ Less) × IsSourceBelowAll s ts

-- each source is below all later ones, so each stands once
abbrev pub AreSourcesRising : List Source → Type 0
AreSourcesRising [] = Unit {0}
AreSourcesRising (s ∷ ss) = IsSourceBelowAll s ss × AreSourcesRising ss

-- the source is one of these
abbrev pub IsAmong : Source → List Source → Type 0
IsAmong s [] = ⊥
IsAmong s (t ∷ ts) = (t ≡ s) ⊎ IsAmong s ts

-- the source that a head reads
abbrev pub read_by : Top → List Source
read_by (read s) = s ∷ []
read_by h = []

-- the sources that a tree names, as they stand in it
abbrev mutual
  pub sources_in : Term → List Source
  sources_in (of h ts) = read_by h ++ sources_among ts

  pub sources_among : Terms → List Source
  sources_among nil = []
  sources_among (cons t ts) = sources_in t ++ sources_among ts
