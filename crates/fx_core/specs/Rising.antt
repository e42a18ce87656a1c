-- Sources put in order.
use Rattle.std.specs.Prelude.{List, [], ◌∷◌}
use Rattle.std.specs.Ordering.{match_ordering}
use Rattle.fx_core.specs.declared.sources.Source.{Source}
use Rattle.fx_core.specs.Reads.{source_order}

-- the sources with one more at its place, unless it is among them
abbrev pub put : Source → List Source → List Source
put s [] = s ∷ []
put s (t ∷ ts) = match_ordering (source_order s t) (s ∷ t ∷ ts) (t ∷ ts) (t ∷ put s ts)

-- these sources, one after another, put to others
abbrev pub put_all : List Source → List Source → List Source
put_all [] ts = ts
put_all (s ∷ ss) ts = put_all ss (put s ts)
