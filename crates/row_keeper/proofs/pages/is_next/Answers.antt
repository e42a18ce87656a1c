use Rattle.std.proofs.Common.{◌∙◌, sym}
use Rattle.row_keeper.proofs.PageLemmas.{next_bytes}
use Rattle.row_keeper.proofs.pages.is_next.Goals as goal

pub returns-then-last-eq0 : goal.returns-then-last-eq0
returns-then-last-eq0 c h = next_bytes c.args.bytes.now c.args.next.now c.in-len1-up.len_at_least (sym c.eq.ensures ∙ h) c.if-last-eq0.true
