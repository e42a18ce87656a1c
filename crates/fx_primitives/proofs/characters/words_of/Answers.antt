use Rattle.std.proofs.Common.{arith, ap, sym, ◌∙◌, Ok}
use Rattle.fx_primitives.proofs.TextLemmas.{made-short, made-long, bytes_of-chars}
use Rattle.fx_primitives.proofs.characters.words_of.Goals as goal

pub returns-then-text-gt-LONGEST : goal.returns-then-text-gt-LONGEST
returns-then-text-gt-LONGEST c =
    sym (made-long _ (omega (arith, bytes_of-chars c.args.text.now c.utf8.text)))

pub returns : goal.returns
returns c =
    let e = c.in_ok-of.ensures in
    let m = made-short _ (omega (arith, bytes_of-chars c.args.text.now c.utf8.text)) in
    ap Ok e ∙ sym m
