-- One more part, and one more row.
use Rattle.std.proofs.Common.{◌≡◌, ℕ, ◌+◌, suc, List, [], ◌∷◌, ◌++◌, length, subst, arith}
use Rattle.fx_types.specs.Values.{Data}
use Rattle.fx_semantics.specs.Around.{Around, Meaning, AreEach, inside, record_of}
use Rattle.fx_semantics.specs.Fresh.{meaning, meanings}
use Rattle.fx_eval.specs.Given.{ArgumentValues, PartGives, AreGiven}
use Rattle.fx_value.specs.Columns.{Row}
use Rattle.fx_core.specs.Term.{Term, Top, all}
use Rattle.fx_typing.specs.WellTyped.{standing_at}

pub given_more : (h : Top) (n i j : ℕ) (ts : List Term) (t : Term) (a : Around) (rows : List Row) (gs : List ArgumentValues) (g : ArgumentValues) → j ≡ i + length ts →
    AreGiven h n i (meanings (all ts)) a rows gs → PartGives (standing_at h n j) (meaning t) a rows g → AreGiven h n i (meanings (all (ts ++ t ∷ []))) a rows (gs ++ g ∷ [])
given_more h n i j [] t a rows [] g e k x =
    let same : j ≡ i = omega arith in
    let P : ℕ → Type 0 = λ z. PartGives (standing_at h n z) (meaning t) a rows g in
    (subst P same x, tt)
given_more h n i j (u ∷ ts) t a rows (f ∷ gs) g e k x = (k.0, given_more h n (suc i) j ts t a rows gs g (omega arith) k.1 x)
given_more h n i j [] t a rows (f ∷ gs) g e k x = absurd k
given_more h n i j (u ∷ ts) t a rows [] g e k x = absurd k

pub each_more : (P : Meaning) (a : Around) (rs : List Row) (r : Row) (ds : List Data) (d : Data) → AreEach P a rs ds → P (inside a (record_of r)) d → AreEach P a (rs ++ r ∷ []) (ds ++ d ∷ [])
each_more P a [] r [] d h x = (x, tt)
each_more P a (s ∷ rs) r (e ∷ ds) d h x = (h.0, each_more P a rs r ds d h.1 x)
each_more P a [] r (e ∷ ds) d h x = absurd h
each_more P a (s ∷ rs) r [] d h x = absurd h
