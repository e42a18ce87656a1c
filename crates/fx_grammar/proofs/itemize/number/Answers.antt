use Rattle.fx_grammar.proofs.Spoken.{read_some, read_value}
use Rattle.fx_grammar.proofs.itemize.number.Goals as goal

pub unwrap-requires : goal.unwrap-requires
unwrap-requires c = read_some c.args.text.now c.read.result c.utf8.text c.requires.spelt c.requires.value c.read.ensures

pub returns : goal.returns
returns c = read_value c.args.text.now c.read.result c.utf8.text c.requires.spelt c.read.ensures c.unwrap.result c.unwrap.ensures
