use Rattle.fx_lexer.specs.Slices.{lexemes}
use Rattle.fx_grammar.proofs.MeantSound.{nothing, sound_at, one_on, texts, whole}
use Rattle.fx_grammar.proofs.itemize.items.Goals as goal

pub loop-token-init : goal.loop-token-init
loop-token-init c = nothing c.args.source.now c.args.tokens.now c.new-found.result.items c.new-found.ensures.items

pub item-requires : goal.item-requires
item-requires c = sound_at c.args.source.now c.args.tokens.now c.loop-token.token-index _ c.utf8.source c.requires c.loop-token-test.true

pub loop-token-preserved : goal.loop-token-preserved
loop-token-preserved c = one_on c.args.source.now c.args.tokens.now c.loop-token.token-index _ c.loop-token.found.items c.push.new.self.items c.in_ok-item.field-0 c.loop-token.invariant c.loop-token-test.true c.in_ok-item.ensures c.in_ok-push.ensures.items

pub returns-clause-items : goal.returns-clause-items
returns-clause-items c = (
  lexemes c.args.source.now c.args.tokens.now,
  texts c.args.source.now c.args.tokens.now c.utf8.source c.requires,
  whole c.args.source.now c.args.tokens.now c.loop-token.token-index c.loop-token.found.items c.loop-token.invariant c.loop-token-test.false,
)
