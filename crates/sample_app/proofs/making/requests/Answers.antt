use Rattle.std.proofs.Common.{ap, map, flat_map}
use Rattle.std.specs.List.{range_with_len}
use Rattle.app_wire.specs.Framing.{asked}
use Rattle.sample_app.specs.Sample.{adds as adds_of, open_request as opens_of, page as page_of, view_request as views_of, works as works_of}
use Rattle.sample_app.proofs.Pushed.{joined}
use Rattle.sample_app.proofs.making.requests.Goals as goal

pub returns : goal.returns
returns c =
    joined (map (adds_of c.args.n) (range_with_len 1 20)) (map opens_of (range_with_len 1 40)) (flat_map works_of (range_with_len 1 2000)) (map views_of (range_with_len 1 40)) (asked c.in_ok-request.request) page_of
    (map asked c.new-all.result.items) (map asked c.push_adds.new.all.items) (map asked c.push_opens.new.all.items) (map asked c.push_works.new.all.items) (map asked c.push_views.new.all.items) (map asked c.push.new.all.items)
    (ap (map asked) c.new-all.ensures.items) c.in_ok-push_adds.ensures c.in_ok-push_opens.ensures c.in_ok-push_works.ensures c.in_ok-push_views.ensures c.in_ok-push.ensures c.in_ok-request.ensures
