use Rattle.app_loader.proofs.Loaded.{loaded_value}
use Rattle.app_loader.proofs.editing.loaded_value.Goals as goal

pub returns : goal.returns
returns c = loaded_value c.no_deeper.ensures.formula c.no_deeper.ensures.named
