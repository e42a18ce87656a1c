use Rattle.fx_types.proofs.Utf8Order.{slice_cmp-encodes}
use Rattle.fx_types.proofs.words.Words.compare.Goals as goal

pub returns : goal.returns
returns c = rw (← slice_cmp-encodes _ _ c.as_str.ensures.characters c.as_str-2.ensures.characters, ← c.as_str.ensures.bytes, ← c.as_str-2.ensures.bytes) c.cmp.ensures
