use Rattle.fx_grammar.proofs.MeantSound.{means_it}
use Rattle.fx_grammar.proofs.itemize.item.Goals as goal

pub returns : goal.returns
returns c = means_it c.args.source.now c.range-text.result.now c.args.token c.in_ok-meaning.meaning c.range-text.utf8 c.range-text.ensures.value c.requires c.in_ok-meaning.ensures
