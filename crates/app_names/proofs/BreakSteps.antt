-- Breaks, one after another.
use Rattle.std.proofs.Common.{arith, suc, ◌≡◌, ℕ, ◌+◌, ◌<◌, Bool, true, false, List, [], ◌∷◌, ◌++◌, Option, Some, None, get_or, take, drop, length, refl, ap, sym, ◌∙◌, add-one, if◌then◌else◌}
use Rattle.std.proofs.Math.Seq.{drop-cons}
use Rattle.std.proofs.lemmas.List.{take_more, append_assoc}
use Rattle.fx_core.specs.declared.signatures.Signature.{Signature}
use Rattle.app_cells.specs.declared.cell.Cell.{Cell}
use Rattle.fx_core.specs.declared.broken.Broken.{Broken}
use Rattle.app_names.specs.Declarations.{declared_of, is_name_among, new_behind, own_names}
use Rattle.app_names.specs.NameRules.{breaks_behind, first_taken, is_taken_thing, name_break, put_break}
use Rattle.app_names.specs.declared.declarations.Declared.{Declared}

pub put_apart : (o : Option Broken) (bs : List Broken) → put_break o [] ++ bs ≡ put_break o bs
put_apart (Some b) bs = refl
put_apart None bs = refl

-- the breaks of one more cell
pub breaks_step : (fs : List Signature) (f : List ℕ → Bool) (xs : List (List ℕ)) (cs : List Cell) (things new : List Declared) (i : ℕ) (c : Cell) (o : Option Broken) (given : List ℕ → Bool)
    → i < length cs → c ≡ get_or cs i c → given ≡ is_name_among xs → new ≡ new_behind things (declared_of fs f c) → o ≡ name_break given things new c
    → put_break o [] ++ breaks_behind fs f (xs ++ own_names c.spot) (things ++ new) (drop (i + 1) cs) ≡ breaks_behind fs f xs things (drop i cs)
breaks_step fs f xs cs things new i c o given below is names fresh broken =
    let rest = breaks_behind fs f (xs ++ own_names c.spot) (things ++ new) (drop (i + 1) cs) in
    put_apart o rest
    ∙ ap (λ q. put_break q rest) (broken ∙ ap (λ g. name_break g things new c) names)
    ∙ ap (λ ds. put_break (name_break (is_name_among xs) things ds c) (breaks_behind fs f (xs ++ own_names c.spot) (things ++ ds) (drop (i + 1) cs))) fresh
    ∙ rw (add-one, drop-cons cs i c below, ← is) refl

-- a list that grows by what a step adds
pub grown : (now next added more old all whole : List Broken) → next ≡ now ++ added → added ++ more ≡ whole → now ++ whole ≡ old ++ all → next ++ more ≡ old ++ all
grown now next added more old all whole is parts kept = ap (λ xs. xs ++ more) is ∙ append_assoc now added more ∙ ap (λ xs. now ++ xs) parts ∙ kept

abbrev pub taken_or : Bool → Declared → Option Declared → Option Declared
taken_or b d more = if b then Some d else more

taken_here : (before new : List Declared) (i : ℕ) (d : Declared) → i < length new → d ≡ get_or new i d
    → first_taken (before ++ take i new) (drop i new) ≡ taken_or (is_taken_thing (before ++ take i new) d) d (first_taken (before ++ take (i + 1) new) (drop (i + 1) new))
taken_here before new i d below is =
    let next : suc i ≡ i + 1 = omega arith in
    let rest : drop i new ≡ d ∷ drop (i + 1) new = drop-cons new i d below ∙ ap (λ x. x ∷ drop (suc i) new) (sym is) ∙ ap (λ k. d ∷ drop k new) next in
    let front : (before ++ take i new) ++ d ∷ [] ≡ before ++ take (i + 1) new =
    append_assoc before (take i new) (d ∷ []) ∙ ap (λ ds. before ++ ds) (sym (take_more new i d below ∙ ap (λ m. take i new ++ m ∷ []) (sym is))) in
    ap (first_taken (before ++ take i new)) rest
    ∙ ap (λ ds. taken_or (is_taken_thing (before ++ take i new) d) d (first_taken ds (drop (i + 1) new))) front

pub taken_found : (before new : List Declared) (i : ℕ) (d : Declared) → i < length new → d ≡ get_or new i d
    → is_taken_thing (before ++ take i new) d ≡ true → Some d ≡ first_taken (before ++ take i new) (drop i new)
taken_found before new i d below is e = sym (taken_here before new i d below is ∙ ap (λ b. taken_or b d (first_taken (before ++ take (i + 1) new) (drop (i + 1) new))) e)

pub taken_later : (before new : List Declared) (i : ℕ) (d : Declared) → i < length new → d ≡ get_or new i d
    → is_taken_thing (before ++ take i new) d ≡ false → first_taken (before ++ take (i + 1) new) (drop (i + 1) new) ≡ first_taken (before ++ take i new) (drop i new)
taken_later before new i d below is e = sym (taken_here before new i d below is ∙ ap (λ b. taken_or b d (first_taken (before ++ take (i + 1) new) (drop (i + 1) new))) e)
