use Rattle.fx_parser.proofs.Finish.{formula_answer}
use Rattle.fx_parser.proofs.recognize.formula.Goals as goal

pub returns : goal.returns
returns c = formula_answer c.args.items.now c.recognize.result c.recognize.ensures
