use Rattle.std.proofs.Common.{ap, sym, ◌≤◌, ◌<◌, ◌∙◌, length, arith}
use Rattle.std.proofs.lemmas.Str.{length-le-encodes}
use Rattle.fx_primitives.proofs.TextLemmas.{made-long}
use Rattle.fx_primitives.specs.Texts.{longest, utf8_length}
use Rattle.fx_primitives.specs.Substitution.{replaced_at}
use Rattle.fx_primitives.proofs.substitution.replace_all.Goals as goal

pub returns-in-None : goal.returns-in-None
returns-in-None c =
    let all = replaced_at c.args.count c.args.new.now c.args.text.now c.args.places.now in
    let long : longest < length all = rw c.in-None.is at c.in_ok-made.ensures in
    let bytes : longest < utf8_length all = omega (arith, length-le-encodes all) in
    sym (made-long all bytes)
