use Rattle.std.proofs.Common.{◌≡◌, ◌+◌, ◌∙◌, arith, get_or, length, sym, subst}
use Rattle.fx_core.specs.declared.sources.Source.TheVariants.{Cell}
use Rattle.recalc.specs.Kept.{CacheState}
use Rattle.office.proofs.Rounds.{IsAt, at_among, at_end, at_other, at_start, at_table, plain_table}
use Rattle.office.proofs.keeping.touch.Goals.{then-is_table, else-is_table}
use Rattle.office.proofs.keeping.touch.Goals as goal

pub touched-requires : goal.touched-requires
touched-requires c = λ plain.
    let s = get_or c.args.wrote.now c.loop-source.source-index (Cell 0) in
    (c.loop-source.invariant.order c.requires.order).places s (c.requires.sources s (at_among c.args.wrote.now c.loop-source.source-index (Cell 0) c.loop-source-test.true))

pub loop-source-init : goal.loop-source-init
loop-source-init c = at_start c.args.app.now c.args.wrote.now c.args.cache.now

pub loop-source-preserved : goal.loop-source-preserved
loop-source-preserved c =
    let app = c.args.app.now in
    let wrote = c.args.wrote.now in
    let i = c.loop-source.source-index in
    let s = get_or wrote i (Cell 0) in
    elim c.if-is_table.branch [
      | then-is_table w ↦
          let table = sym c.is_table.ensures ∙ w.if-is_table.true in
          subst (λ (k : CacheState). IsAt app wrote (i + 1) c.args.cache.now k) (sym w.cache-is)
          (at_table app wrote i (Cell 0) c.args.cache.now c.loop-source.cache w.touched.new.self c.loop-source-test.true table c.loop-source.invariant (w.touched.ensures.told app (plain_table s table)))
      | else-is_table w ↦
          subst (λ (k : CacheState). IsAt app wrote (i + 1) c.args.cache.now k) (sym w.cache-is)
          (at_other app wrote i (Cell 0) c.args.cache.now c.loop-source.cache c.loop-source-test.true (sym c.is_table.ensures ∙ w.if-is_table.false) c.loop-source.invariant)
    ]

pub returns : goal.returns
returns c =
    let all : c.loop-source.source-index ≡ length c.args.wrote.now = omega (arith, c.loop-source-test.false, c.loop-source.auto.source-index-end) in
    at_end c.args.app.now c.args.wrote.now c.loop-source.source-index c.args.cache.now c.loop-source.cache all c.loop-source.invariant
