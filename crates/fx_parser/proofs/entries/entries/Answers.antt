use Rattle.std.proofs.Common.{◌≡◌, length, arith}
use Rattle.std.proofs.lemmas.Bool.Decides.{nat_tests}
use Rattle.fx_parser.proofs.Firsts.{go_on, done}
use Rattle.fx_parser.proofs.entries.entries.Goals as goal

pub loop-rest-preserved : goal.loop-rest-preserved
loop-rest-preserved c = record {
  cuts = c.in_ok-named.ensures.cuts;
  so_far = go_on c.args.source.now c.args.tokens.now c.loop-rest.found.items c.push.new.self.items c.loop-rest.rest.now c.in_ok-named.others.now c.in_ok-named.named c.loop-rest.invariant.so_far c.in_ok-named.ensures.first c.in_ok-push.ensures.items;
}

pub returns-clause-these : goal.returns-clause-these
returns-clause-these c = done c.args.source.now c.args.tokens.now c.loop-rest.found.items c.loop-rest.rest.now c.loop-rest.invariant.so_far (grind (arith, nat_tests))
