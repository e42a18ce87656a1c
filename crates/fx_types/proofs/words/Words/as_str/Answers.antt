use Rattle.std.proofs.Common.{◌≡◌, ◌∙◌, ap, subst, ℕ, List, true, encode_utf8_all}
use Rattle.std.specs.Str.{chars, all_scalars}
use Rattle.fx_types.proofs.Texts.{encodes_chars, chars_are_scalars}
use Rattle.fx_types.proofs.words.Words.as_str.Goals as goal

pub returns-clause-bytes : goal.returns-clause-bytes
returns-clause-bytes c =
    encodes_chars _ c.as_str.utf8 ∙ ap encode_utf8_all (ap chars c.as_str.ensures.value ∙ c.self.view_is)

pub returns-clause-characters : goal.returns-clause-characters
returns-clause-characters c =
    let P : List ℕ → Type 0 = λ cs. all_scalars cs ≡ true in
    subst P (ap chars c.as_str.ensures.value ∙ c.self.view_is) (chars_are_scalars _ c.as_str.utf8)
