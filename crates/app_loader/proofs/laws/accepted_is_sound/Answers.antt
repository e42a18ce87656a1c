use Rattle.app_loader.proofs.Soundness.{accepted_sound}
use Rattle.app_loader.proofs.laws.accepted_is_sound.Goals as goal

pub returns : goal.returns
returns c = accepted_sound c.admitted_is_typed.ensures.typed c.admitted_is_typed.ensures.wanted c.pure_is_quiet.ensures c.admitted_is_placed.ensures
