use Rattle.std.proofs.Common.{sym, ap, subst, ◌∙◌, arith}
use Rattle.std.specs.Str.{IsCharBoundary}
use Rattle.fx_lexer.specs.Lexed.{width}
use Rattle.fx_lexer.specs.Next.{IsNext}
use Rattle.fx_lexer.proofs.Fits.{fit}
use Rattle.fx_lexer.proofs.Judge.{front, none_found, out_of_range, found_within}
use Rattle.fx_lexer.proofs.Texts.{cut}
use Rattle.fx_lexer.proofs.lexer.next.Goals as goal

pub returns-in_err-element : goal.returns-in_err-element
returns-in_err-element c = subst (IsNext c.args.mode c.args.cs.now) (sym c.from_residual.ensures) (none_found c.args.mode c.args.cs.now (sym c.longest.ensures ∙ c.in_err-element.was))

pub split_at-requires : goal.split_at-requires
split_at-requires c = found_within c.args.mode c.args.cs.now c.in_ok-element.element c.in_ok-element.characters (sym c.longest.ensures ∙ c.in_ok-element.was)

pub width_of-bytes-requires : goal.width_of-bytes-requires
width_of-bytes-requires c =
    let k = cut c.args.text.now c.args.cs.now c.in_ok-element.characters c.utf8.text c.requires.same in
    let e = ap width c.split_at.ensures.front in
    omega (arith, k.within, c.requires.room)

pub split_at-requires-2 : goal.split_at-requires-2
split_at-requires-2 c =
    let k = cut c.args.text.now c.args.cs.now c.in_ok-element.characters c.utf8.text c.requires.same in
    subst (IsCharBoundary c.args.text.now) (sym (c.width_of-bytes.ensures ∙ ap width c.split_at.ensures.front)) k.boundary

pub returns-then-fits : goal.returns-then-fits
returns-then-fits c =
    let h = sym c.longest.ensures ∙ c.in_ok-element.was in
    let k = fit c.args.mode c.args.cs.now c.args.text.now _ _ _ _ _ c.utf8.text c.requires.same h c.split_at.ensures.front c.width_of-bytes.ensures c.split_at-2.ensures.front in
    front c.args.mode c.args.cs.now _ _ _ h (k.there (c.fits.ensures.0 c.if-fits.true)) (c.width_of-bytes.ensures ∙ ap width c.split_at.ensures.front)

pub returns-else-fits : goal.returns-else-fits
returns-else-fits c =
    let h = sym c.longest.ensures ∙ c.in_ok-element.was in
    let k = fit c.args.mode c.args.cs.now c.args.text.now _ _ _ _ _ c.utf8.text c.requires.same h c.split_at.ensures.front c.width_of-bytes.ensures c.split_at-2.ensures.front in
    out_of_range c.args.mode c.args.cs.now _ _ h (λ r. let t = c.fits.ensures.1 (k.back r) in let f = c.if-fits.false in cc)
