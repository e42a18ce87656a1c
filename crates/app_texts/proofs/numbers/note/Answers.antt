use Rattle.std.proofs.Common.{arith}
use Rattle.std.proofs.lemmas.Grind.{common_steps}
use Rattle.app_texts.proofs.Numbered.{kept, noted}
use Rattle.app_texts.proofs.numbers.note.Goals as goal

pub returns-in_ok-insert : goal.returns-in_ok-insert
returns-in_ok-insert c = noted c.args.numbers.now c.insert.new.self c.args.place c.args.number (grind (arith, common_steps)) c.in_ok-insert.ensures.updates.0

pub returns-else-not-contains_key : goal.returns-else-not-contains_key
returns-else-not-contains_key c = kept c.args.numbers.now c.args.place c.args.number (λ none. grind (arith, common_steps, none))
