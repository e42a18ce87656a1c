use Rattle.fx_parser.proofs.Finish.{named_answer}
use Rattle.fx_parser.proofs.recognize.named_formulas.Goals as goal

pub returns : goal.returns
returns c = named_answer c.args.items.now c.recognize.result c.recognize.ensures
