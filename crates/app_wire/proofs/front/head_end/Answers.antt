use Rattle.std.proofs.Common.{◌≡◌, true, arith}
use Rattle.app_wire.proofs.Blanks.{none_within_none, one_more}
use Rattle.app_wire.proofs.front.head_end.Goals as goal

pub loop-k-init : goal.loop-k-init
loop-k-init c = none_within_none c.args.bytes.now

pub returns-then-ends_blank : goal.returns-then-ends_blank
returns-then-ends_blank c = record {
  within = omega arith;
  near = omega arith;
  blank = c.ends_blank.ensures.0 c.if-ends_blank.true;
  first = λ k below. c.loop-k.invariant k (omega arith);
}

pub loop-k-preserved : goal.loop-k-preserved
loop-k-preserved c = one_more c.args.bytes.now c.loop-k.k c.loop-k.invariant (λ blank. let yes : c.ends_blank.result ≡ true = c.ends_blank.ensures.1 blank in cc)

pub returns : goal.returns
returns c = λ k le. c.loop-k.invariant k (omega arith)
