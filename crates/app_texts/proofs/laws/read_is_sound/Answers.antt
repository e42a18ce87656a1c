use Rattle.app_texts.proofs.Sound.{read_is_sound}
use Rattle.app_texts.proofs.laws.read_is_sound.Goals as goal

pub returns : goal.returns
returns c = read_is_sound
