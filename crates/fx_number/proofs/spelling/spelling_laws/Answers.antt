use Rattle.fx_number.proofs.LeftToRight.{spelled-Spells, Spells-spelled}
use Rattle.fx_number.proofs.Written.{Spells-text_of, Spells-decimal}
use Rattle.fx_number.proofs.spelling.spelling_laws.Goals as goal

pub returns : goal.returns
returns c = record {
  one_number = λ text z. (spelled-Spells text z, Spells-spelled text z);
  read_back = λ z h. Spells-text_of z h;
  digits_alone = λ text whole fraction h. Spells-decimal text whole fraction h;
}
