use Rattle.std.proofs.Common.{drop, get_or}
use Rattle.std.proofs.Math.ListN.{drop_of_length-le}
use Rattle.std.proofs.lemmas.Option.{slice_get-get_or}
use Rattle.recalc.proofs.Among.{at_among}
use Rattle.session_requests.proofs.Caches.{plain_of}
use Rattle.session_requests.proofs.Undone.{touched_all, touched_first, touched_step}
use Rattle.session_requests.proofs.transaction.touch_all.Goals as goal

pub touched-requires : goal.touched-requires
touched-requires c = λ plain.
    let xs = c.args.sources.now in
    let i = c.loop-source.source-index in
    let order = (c.loop-source.invariant c.requires.0 c.requires.2).order c.requires.1 in
    order.places (get_or xs i _) (c.requires.2 (get_or xs i _) (at_among (get_or xs i _) xs i (slice_get-get_or xs i _ c.loop-source-test.true)))

pub loop-source-init : goal.loop-source-init
loop-source-init c = λ a own. touched_first a c.args.sources.now c.args.cache.now

pub loop-source-preserved : goal.loop-source-preserved
loop-source-preserved c = λ a own.
    let xs = c.args.sources.now in
    let i = c.loop-source.source-index in
    touched_step a xs i _ c.args.cache.now c.loop-source.cache c.touched.new.self c.loop-source-test.true
    (c.touched.ensures.told a (plain_of a.names (get_or xs i _) (own (get_or xs i _) (at_among (get_or xs i _) xs i (slice_get-get_or xs i _ c.loop-source-test.true)))))
    (c.loop-source.invariant a own)

pub returns : goal.returns
returns c = λ a own. touched_all a c.args.sources.now (drop c.loop-source.source-index c.args.sources.now) c.args.cache.now c.loop-source.cache (drop_of_length-le c.args.sources.now c.loop-source-test.false) (c.loop-source.invariant a own)
