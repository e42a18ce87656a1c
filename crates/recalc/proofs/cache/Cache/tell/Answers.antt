use Rattle.std.proofs.Common.{◌<◌, arith, subst, sym}
use Rattle.recalc.specs.Changes.{IsTouched}
use Rattle.recalc.specs.Kept.{CacheState, source_index}
use Rattle.recalc.proofs.Touching.{touched_is}
use Rattle.recalc.proofs.cache.Cache.tell.Goals as goal

pub raise-requires-clause-room : goal.raise-requires-clause-room
raise-requires-clause-room c = let room = c.make_numbers.ensures.room in omega (arith, room)

pub raise-requires-clause-place : goal.raise-requires-clause-place
raise-requires-clause-place c = subst (λ n. source_index c.args.source < n) (sym c.make_numbers.ensures.places) c.requires

pub returns : goal.returns
returns c = λ a plain.
    subst (λ (w : CacheState). IsTouched a c.args.source c.args.self.now w) (sym c.raise.ensures)
    (touched_is a c.args.source c.args.self.now c.make_numbers.new.self (subst (λ n. source_index c.args.source < n) (sym c.make_numbers.ensures.places) c.requires) plain (c.make_numbers.ensures.numbers a))
