use Rattle.std.proofs.Common.{◌≡◌, List, ℕ, true, subst, sym, ap, ◌∙◌}
use Rattle.std.specs.Str.{chars, all_scalars}
use Rattle.std.proofs.lemmas.Str.{scalars-chars}
use Rattle.fx_grammar.specs.Meant.{IsQuoted}
use Rattle.fx_grammar.specs.declared.marks.Marks.TheVariants.{Quote}
use Rattle.fx_grammar.proofs.Spoken.{as_text}
use Rattle.fx_grammar.proofs.itemize.text_words.Goals as goal

pub unquote-requires-clause-quotes : goal.unquote-requires-clause-quotes
unquote-requires-clause-quotes c = subst (λ (x : List ℕ). IsQuoted Quote x) (sym (c.as_slice.ensures.value ∙ c.in_ok-chars.ensures)) (as_text (chars c.args.text.now) c.requires)

pub unquote-requires-clause-scalars : goal.unquote-requires-clause-scalars
unquote-requires-clause-scalars c = subst (λ (x : List ℕ). all_scalars x ≡ true) (sym (c.as_slice.ensures.value ∙ c.in_ok-chars.ensures)) (scalars-chars c.args.text.now c.utf8.text)
