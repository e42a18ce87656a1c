-- Where the body of a reply begins.
use Rattle.std.proofs.Common.{◌≡◌, ℕ, zero, suc, ◌+◌, ◌<◌, ◌==◌, Bool, true, false, if◌then◌else◌, List, [], ◌∷◌, drop, take, ◌-◌, length, ap, sym, ◌∙◌, add-one, arith}
use Rattle.std.specs.Prelude.{codes}
use Rattle.std.specs.List.{starts_with}
use Rattle.std.proofs.Math.Seq.{take-length}
use Rattle.std.proofs.lemmas.List.{drop-drop, length-drop}
use Rattle.sample_app.specs.Summary.{reply_body}

-- an empty line stands here
abbrev pub is_here : List ℕ → Bool
is_here bs = starts_with (λ x y. x == y) bs (codes "\r\n\r\n")

past : (at : ℕ) (bs : List ℕ) → at < length bs → is_here (drop at bs) ≡ false → reply_body (drop at bs) ≡ reply_body (drop (suc at) bs)
past at [] h e = absurd (omega (arith, h))
past zero (b ∷ bs) h e = ap (λ t. if t then drop 4 (b ∷ bs) else reply_body bs) e
past (suc at) (b ∷ bs) h e = past at bs (omega (arith, h)) e

-- none does, so it stands further on
pub body_past : (at : ℕ) (bs : List ℕ) → at < length bs → is_here (drop at bs) ≡ false → reply_body (drop at bs) ≡ reply_body (drop (at + 1) bs)
body_past at bs h e = past at bs h e ∙ ap (λ n. reply_body (drop n bs)) (sym (add-one at))

here : (at : ℕ) (bs : List ℕ) → at < length bs → is_here (drop at bs) ≡ true → reply_body (drop at bs) ≡ drop 4 (drop at bs)
here at [] h e = absurd (omega (arith, h))
here zero (b ∷ bs) h e = ap (λ t. if t then drop 4 (b ∷ bs) else reply_body bs) e
here (suc at) (b ∷ bs) h e = here at bs (omega (arith, h)) e

-- one does, and the body stands behind it
pub body_here : (at : ℕ) (bs : List ℕ) → at < length bs → is_here (drop at bs) ≡ true → reply_body (drop at bs) ≡ drop (at + 4) bs
body_here at bs h e = here at bs h e ∙ drop-drop 4 at bs

-- all from a place on
pub rest : (at : ℕ) (bs : List ℕ) → take (length bs - at) (drop at bs) ≡ drop at bs
rest at bs = ap (λ n. take n (drop at bs)) (sym (length-drop at bs)) ∙ take-length (drop at bs)
