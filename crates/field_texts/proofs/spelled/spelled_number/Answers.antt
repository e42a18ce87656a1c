use Rattle.fx_number.specs.Reading.{spelled}
use Rattle.field_texts.proofs.Numbers.{read_is}
use Rattle.field_texts.proofs.spelled.spelled_number.Goals as goal

pub returns : goal.returns
returns c =
    let law = c.spelling_laws.ensures.one_number c.args.text.now in
    read_is c.read.result (spelled c.args.text.now)
    (λ z. (λ e. let k = (c.read.ensures z).0 e in ((law z).0 k.0, k.1), λ k. (c.read.ensures z).1 ((law z).1 k.0, k.1)))
