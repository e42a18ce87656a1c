use Rattle.app_loader.proofs.Loaded.{loaded_app}
use Rattle.app_loader.proofs.editing.loaded_app.Goals as goal

pub returns : goal.returns
returns c = loaded_app c.read_is_sound.ensures c.no_deeper.ensures.formula c.no_deeper.ensures.named
