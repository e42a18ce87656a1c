use Rattle.std.specs.Str.{chars}
use Rattle.fx_deeds.proofs.Deeding.{no_text}
use Rattle.fx_deeds.proofs.session.words_of.Goals as goal

pub returns : goal.returns
unfolding chars
returns c = no_text c.args.text c.in_default.not-Text c.in_default.not-Fault _ c.in_ok-of-in_default.ensures
