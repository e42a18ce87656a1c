-- What parts give, wherever they stand.
use Rattle.std.proofs.Common.{◌≡◌, ℕ, suc, List, [], ◌∷◌, length, refl, ap}
use Rattle.fx_types.specs.Values.{Data}
use Rattle.fx_semantics.specs.Around.{Around, Meaning, AreEach}
use Rattle.fx_eval.specs.Given.{ArgumentValues, once, each, PartGives, AreGiven}
use Rattle.fx_value.specs.Columns.{Row}
use Rattle.fx_core.specs.Term.{Top}
use Rattle.fx_typing.specs.WellTyped.{PartScope, plain, inside, bound, catching, standing_at}

-- a part has this value, or these values for the rows
abbrev pub IsOf : Meaning → Around → List Row → ArgumentValues → Type 0
IsOf P a rows (once d) = P a d
IsOf P a rows (each ds) = AreEach P a rows ds

abbrev pub AreOf : List Meaning → Around → List Row → List ArgumentValues → Type 0
AreOf [] a rows [] = Unit {0}
AreOf (P ∷ Ps) a rows (g ∷ gs) = IsOf P a rows g × AreOf Ps a rows gs
AreOf Ps a rows gs = ⊥

pub is_of : (s : PartScope) (P : Meaning) (a : Around) (rows : List Row) (g : ArgumentValues) → PartGives s P a rows g → IsOf P a rows g
is_of inside P a rows (each ds) h = h
is_of plain P a rows (once d) h = h
is_of inside P a rows (once d) h = absurd h
is_of plain P a rows (each ds) h = absurd h
is_of bound P a rows g h = absurd h
is_of catching P a rows g h = absurd h

pub are_of : (h : Top) (n i : ℕ) (Ps : List Meaning) (a : Around) (rows : List Row) (gs : List ArgumentValues) → AreGiven h n i Ps a rows gs → AreOf Ps a rows gs
are_of h n i [] a rows [] k = tt
are_of h n i (P ∷ Ps) a rows (g ∷ gs) k = (is_of (standing_at h n i) P a rows g k.0, are_of h n (suc i) Ps a rows gs k.1)
are_of h n i [] a rows (g ∷ gs) k = absurd k
are_of h n i (P ∷ Ps) a rows [] k = absurd k

-- there is a value for each row
pub each_many : (P : Meaning) (a : Around) (rows : List Row) (ds : List Data) → AreEach P a rows ds → length ds ≡ length rows
each_many P a [] [] h = refl
each_many P a (r ∷ rows) (d ∷ ds) h = ap suc (each_many P a rows ds h.1)
each_many P a [] (d ∷ ds) h = absurd h
each_many P a (r ∷ rows) [] h = absurd h
