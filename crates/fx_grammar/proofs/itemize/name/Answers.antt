use Rattle.std.proofs.Common.{◌≡◌, List, ℕ, true, subst, sym, ap, ◌∙◌}
use Rattle.std.specs.Str.{chars, all_scalars}
use Rattle.std.proofs.lemmas.Str.{scalars-chars}
use Rattle.fx_lexer.specs.Spelling.{begins_with}
use Rattle.fx_grammar.specs.Meant.{IsQuoted}
use Rattle.fx_grammar.specs.declared.marks.Marks.TheVariants.{Apostrophe}
use Rattle.fx_grammar.proofs.Spoken.{as_name}
use Rattle.fx_grammar.proofs.itemize.name.Goals as goal

pub unquote-requires-clause-quotes : goal.unquote-requires-clause-quotes
unquote-requires-clause-quotes c =
    let e = c.if-is_quoted.ensures ∙ ap (begins_with 39) (c.as_slice.ensures.value ∙ c.in_ok-chars.ensures) in
    subst (λ (x : List ℕ). IsQuoted Apostrophe x) (sym (c.as_slice-then-is_quoted.ensures.value ∙ c.in_ok-chars.ensures)) (as_name (chars c.args.text.now) c.requires e)

pub unquote-requires-clause-scalars : goal.unquote-requires-clause-scalars
unquote-requires-clause-scalars c = subst (λ (x : List ℕ). all_scalars x ≡ true) (sym (c.as_slice-then-is_quoted.ensures.value ∙ c.in_ok-chars.ensures)) (scalars-chars c.args.text.now c.utf8.text)
