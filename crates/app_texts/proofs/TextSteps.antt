-- Texts and controls, one after another.
use Rattle.std.proofs.Common.{◌≡◌, ℕ, suc, ◌+◌, ◌<◌, ◌≤◌, Bool, List, [], ◌∷◌, ◌++◌, get_or, drop, length, map, append_assoc, ap, sym, ◌∙◌, arith, refl, length-append}
use Rattle.std.specs.List.{filter}
use Rattle.std.proofs.Math.Seq.{drop-cons}
use Rattle.std.proofs.lemmas.List.{length-map}
use Rattle.std.proofs.lemmas.List.Elements.{filter-append}
use Rattle.app_file.specs.declared.file.ScreenShape.{ScreenShape}
use Rattle.app_texts.specs.Files.{control_of, controls_from}

-- what is chosen of a part is put behind, and more follows
pub more : {A : Type 0} (p : A → Bool) (now next old all a rest whole : List A) → next ≡ now ++ filter p a → whole ≡ a ++ rest → now ++ filter p whole ≡ old ++ all → next ++ filter p rest ≡ old ++ all
more p now next old all a rest whole is parts kept =
    ap (λ xs. xs ++ filter p rest) is ∙ append_assoc now (filter p a) (filter p rest) ∙ ap (λ xs. now ++ xs) (sym (filter-append p a rest))
    ∙ ap (λ xs. now ++ filter p xs) (sym parts) ∙ kept

-- how many controls screens have
abbrev pub count : List ScreenShape → ℕ
count [] = 0
count (s ∷ ss) = length s.controls + count ss

pub counts : (screen first : ℕ) (ss : List ScreenShape) → length (controls_from screen first ss) ≡ count ss
counts screen first [] = refl
counts screen first (s ∷ ss) =
    length-append (map (control_of screen first) s.controls) (controls_from (suc screen) (first + length s.controls) ss)
    ∙ ap (λ n. n + length (controls_from (suc screen) (first + length s.controls) ss)) (length-map s.controls (control_of screen first))
    ∙ ap (λ n. length s.controls + n) (counts (suc screen) (first + length s.controls) ss)

-- so many controls stand before those of a screen, and with it
pub within : (ss : List ScreenShape) (i first : ℕ) (s : ScreenShape) → i < length ss → s ≡ get_or ss i s → first + count (drop i ss) ≡ count ss → length (controls_from 0 0 ss) ≤ 500 → first + length s.controls ≤ 500
within ss i first s below is kept few =
    let e : drop i ss ≡ s ∷ drop (suc i) ss = drop-cons ss i s below ∙ ap (λ x. x ∷ drop (suc i) ss) (sym is) in
    let n : count (drop i ss) ≡ length s.controls + count (drop (suc i) ss) = ap count e in
    let m = counts 0 0 ss in
    omega (arith, n, m, kept, few)
