-- Words of ASCII characters.
use Rattle.std.proofs.Common.{◌≡◌, ℕ, List, Bool, true, false, bytes_eq, refl, ap, sym, ◌∙◌, encode_utf8_all}
use Rattle.std.specs.Str.{IsAscii, chars}
use Rattle.std.proofs.lemmas.Slice.Eq.{bytes_eq-Decides}
use Rattle.std.proofs.lemmas.Str.{chars-IsAscii, encodes-IsAscii}

pub same_truth : (a b : Bool) → (a ≡ true → b ≡ true) → (b ≡ true → a ≡ true) → a ≡ b
same_truth true b f g = sym (f refl)
same_truth false true f g = g refl
same_truth false false f g = refl

-- a text is an ASCII word where its bytes are
pub spells_word : (bs cs word : List ℕ) → bs ≡ encode_utf8_all cs → chars bs ≡ cs → IsAscii word → bytes_eq bs word ≡ bytes_eq cs word
spells_word bs cs word e d a =
    same_truth (bytes_eq bs word) (bytes_eq cs word)
    (λ h. (bytes_eq-Decides cs word).1 (sym d ∙ ap chars ((bytes_eq-Decides bs word).0 h) ∙ chars-IsAscii word a))
    (λ h. (bytes_eq-Decides bs word).1 (e ∙ ap encode_utf8_all ((bytes_eq-Decides cs word).0 h) ∙ encodes-IsAscii word a))
