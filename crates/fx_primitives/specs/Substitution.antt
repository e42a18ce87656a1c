-- A text with an old text replaced in it.
use Rattle.std.specs.Prelude.{◌≡◌, ℕ, suc, ℤ, pos, ◌+◌, ◌≤◌, List, [], ◌∷◌, length, slice_get}
use Rattle.std.specs.Prelude.{Option, Some, None, Result, Ok, Err}
use Rattle.fx_types.specs.declared.faults.Kind.{Kind}
use Rattle.fx_types.specs.declared.faults.Kind.TheVariants.{InvalidArgument}
use Rattle.fx_primitives.specs.Search.{IsFirstPlace, StandsNowhere}
use Rattle.fx_primitives.specs.Texts.{text_or_quota, spliced}

-- the places of the separate occurrences from a place on: the first one, and then those behind its
-- end
abbrev pub AreOccurrences : List ℕ → List ℕ → ℕ → List ℕ → Type 0
AreOccurrences old text from [] = StandsNowhere old text from
AreOccurrences old text from (p ∷ ps) = IsFirstPlace old text from p
    × AreOccurrences old text (p + length old) ps

-- those in the whole text; an empty text has none
abbrev pub AreAllOccurrences : List ℕ → List ℕ → List ℕ → Type 0
AreAllOccurrences [] text ps = ps ≡ []
AreAllOccurrences (c ∷ cs) text ps = AreOccurrences (c ∷ cs) text 0 ps

-- the text with so many scalar values at each of these places replaced, from the last place to the
-- first
abbrev pub replaced_at : ℕ → List ℕ → List ℕ → List ℕ → List ℕ
replaced_at count new text [] = text
replaced_at count new text (p ∷ ps) = spliced (replaced_at count new text ps) p count new

-- the same at the place that there is, if there is one
abbrev pub replaced_if : ℕ → List ℕ → List ℕ → Option ℕ → List ℕ
replaced_if count new text None = text
replaced_if count new text (Some p) = spliced text p count new

-- the text with all occurrences at these places replaced, or the one of a number counted from 1
abbrev pub substitute_of : ℕ → List ℕ → List ℕ → List ℕ → Option ℤ → Result (List ℕ) Kind
substitute_of count new text ps None = text_or_quota (replaced_at count new text ps)
substitute_of count new text ps (Some (pos (suc n)))
    = text_or_quota (replaced_if count new text (slice_get ps n))
substitute_of count new text ps number = Err InvalidArgument

-- stretches of so many characters at these places lie behind one another, from a place on and
-- before an end
abbrev pub AreSeparate : ℕ → ℕ → ℕ → List ℕ → Type 0
AreSeparate count end from [] = from ≤ end
AreSeparate count end from (p ∷ ps) = (from ≤ p) × AreSeparate count end (p + count) ps

-- the answer where an old text is replaced by a new one
abbrev pub IsSubstituted : List ℕ → List ℕ → List ℕ → Option ℤ → Result (List ℕ) Kind → Type 0
IsSubstituted text old new number r = (ps : List ℕ) × AreAllOccurrences old text ps
    × (r ≡ substitute_of (length old) new text ps number)

-- a text has one list of separate occurrences
abbrev pub OneListOfOccurrences : Type 0
OneListOfOccurrences = (old text ps qs : List ℕ) → AreAllOccurrences old text ps
    → AreAllOccurrences old text qs → ps ≡ qs
