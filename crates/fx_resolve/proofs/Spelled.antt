-- Words of ASCII characters.
use Rattle.std.proofs.Common.{◌≡◌, ℕ, List, bytes_eq, ap, sym, ◌∙◌, encode_utf8_all}
use Rattle.std.specs.Str.{IsAscii, chars}
use Rattle.std.proofs.lemmas.Str.{chars-IsAscii, encodes-IsAscii}
use Rattle.fx_value.proofs.Widenings.{own_name, same_name}
use Rattle.fx_core.proofs.Spelled.{same_truth}

-- a text is an ASCII word where its bytes are
pub spells_word : (bs cs word : List ℕ) → bs ≡ encode_utf8_all cs → chars bs ≡ cs → IsAscii word → bytes_eq bs word ≡ bytes_eq cs word
spells_word bs cs word e d a =
    same_truth (bytes_eq bs word) (bytes_eq cs word)
    (λ h. ap (λ xs. bytes_eq xs word) (sym d ∙ ap chars (same_name bs word h) ∙ chars-IsAscii word a) ∙ own_name word)
    (λ h. ap (λ xs. bytes_eq xs word) (e ∙ ap encode_utf8_all (same_name cs word h) ∙ encodes-IsAscii word a) ∙ own_name word)
