-- Conditions that are joined one after another come to the verdict of all.
use Rattle.std.proofs.Common.{◌≡◌, ℕ, List, [], ◌∷◌, map, true, false, refl, sym, ap, ◌∙◌}
use Rattle.fx_types.specs.Values.{Data, boolean, fault}
use Rattle.fx_semantics.specs.Around.{Around, Meaning, AreEach, AreValues, inside, record_of}
use Rattle.fx_semantics.specs.Rows.{IsConjunction}
use Rattle.fx_tables.specs.RowCalls.{verdict_of}
use Rattle.fx_eval.specs.Given.{ArgumentValues, once, each}
use Rattle.fx_eval.specs.TableCalls.{AreFormulas, verdicts, verdicts_behind, with_condition}
use Rattle.fx_eval.proofs.Parts.{AreOf}
use Rattle.fx_value.specs.Columns.{Row}

-- two conditions as one before the others
pub verdict_twice : (q d : Data) (ds : List Data) → verdict_of (verdict_of (q ∷ d ∷ []) ∷ ds) ≡ verdict_of (q ∷ d ∷ ds)
verdict_twice (fault k m) d ds = refl
verdict_twice q (fault k m) ds = refl
verdict_twice (boolean true) (boolean true) ds = refl
verdict_twice (boolean true) (boolean false) ds = refl
verdict_twice (boolean true) d ds = refl
verdict_twice (boolean false) d ds = refl
verdict_twice q d ds = refl

abbrev Both : Meaning → Meaning → Meaning
Both Q C a v = (q : Data) × (d : Data) × Q a q × C a d × (v ≡ verdict_of (q ∷ d ∷ []))

abbrev AllJoined : Meaning → List Meaning → Meaning
AllJoined Q [] = Q
AllJoined Q (C ∷ Cs) = AllJoined (Both Q C) Cs

both_are : (Q C : Meaning) (a : Around) (rows : List Row) (vs ds : List Data) → AreEach Q a rows vs → AreEach C a rows ds → AreEach (Both Q C) a rows (with_condition vs ds)
both_are Q C a [] [] [] h k = tt
both_are Q C a (r ∷ rows) (v ∷ vs) (d ∷ ds) h k = ((v, d, h.0, k.0, refl), both_are Q C a rows vs ds h.1 k.1)
both_are Q C a [] (v ∷ vs) ds h k = absurd h
both_are Q C a [] [] (d ∷ ds) h k = absurd k
both_are Q C a (r ∷ rows) [] ds h k = absurd h
both_are Q C a (r ∷ rows) (v ∷ vs) [] h k = absurd k

all_are : (n : ℕ) (Q : Meaning) (Cs : List Meaning) (a : Around) (rows : List Row) (vs : List Data) (gs : List ArgumentValues) → AreEach Q a rows vs → AreOf Cs a rows gs → AreFormulas n gs →
    AreEach (AllJoined Q Cs) a rows (verdicts_behind vs gs)
all_are n Q [] a rows vs [] h k f = h
all_are n Q (C ∷ Cs) a rows vs (each ds ∷ gs) h k f = all_are n (Both Q C) Cs a rows (with_condition vs ds) gs (both_are Q C a rows vs ds h k.0) k.1 f.1
all_are n Q (C ∷ Cs) a rows vs (once d ∷ gs) h k f = absurd f.0
all_are n Q [] a rows vs (g ∷ gs) h k f = absurd k
all_are n Q (C ∷ Cs) a rows vs [] h k f = absurd k

-- the value of each condition, before a first one that is a verdict
joined : (Q : Meaning) (Cs : List Meaning) (a : Around) (v : Data) → ((q : Data) → Q a q → verdict_of (q ∷ []) ≡ q) → AllJoined Q Cs a v →
    (q : Data) × Q a q × (ds : List Data) × AreValues Cs a ds × (v ≡ verdict_of (q ∷ ds))
joined Q [] a v s h = (v, h, [], tt, sym (s v h))
joined Q (C ∷ Cs) a v s h =
    let k = joined (Both Q C) Cs a v (λ q p. ap (λ z. verdict_of (z ∷ [])) p.4 ∙ verdict_twice p.0 p.1 [] ∙ sym p.4) h in
    let p = k.1 in
    (p.0, p.2, p.1 ∷ k.2, (p.3, k.3), k.4 ∙ ap (λ z. verdict_of (z ∷ k.2)) p.4 ∙ verdict_twice p.0 p.1 k.2)

abbrev IsTruth : Meaning
IsTruth a v = v ≡ boolean true

truths_are : (a : Around) (rows : List Row) → AreEach IsTruth a rows (map (λ (r : Row). boolean true) rows)
truths_are a [] = tt
truths_are a (r ∷ rows) = (refl, truths_are a rows)

one_verdict : (Cs : List Meaning) (a : Around) (v : Data) → AllJoined IsTruth Cs a v → IsConjunction Cs a v
one_verdict Cs a v h =
    let k = joined IsTruth Cs a v (λ q p. ap (λ z. verdict_of (z ∷ [])) p ∙ sym p) h in
    (k.2, k.3, k.4 ∙ ap (λ z. verdict_of (z ∷ k.2)) k.1)

each_verdict : (Cs : List Meaning) (a : Around) (rows : List Row) (vs : List Data) → AreEach (AllJoined IsTruth Cs) a rows vs → AreEach (IsConjunction Cs) a rows vs
each_verdict Cs a [] [] h = tt
each_verdict Cs a (r ∷ rows) (v ∷ vs) h = (one_verdict Cs (inside a (record_of r)) v h.0, each_verdict Cs a rows vs h.1)
each_verdict Cs a [] (v ∷ vs) h = absurd h
each_verdict Cs a (r ∷ rows) [] h = absurd h

pub verdicts_are : (n : ℕ) (Cs : List Meaning) (a : Around) (rows : List Row) (gs : List ArgumentValues) → AreOf Cs a rows gs → AreFormulas n gs → AreEach (IsConjunction Cs) a rows (verdicts rows gs)
verdicts_are n Cs a rows gs k f =
    each_verdict Cs a rows (verdicts rows gs) (all_are n IsTruth Cs a rows (map (λ (r : Row). boolean true) rows) gs (truths_are a rows) k f)
