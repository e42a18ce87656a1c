use Rattle.field_texts.proofs.ReadBack.{back}
use Rattle.field_texts.proofs.laws.fields_read_back.Goals as goal

pub returns : goal.returns
returns c = back
