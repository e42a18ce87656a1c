use Rattle.std.proofs.Common.{codes, false, map}
use Rattle.serde_json.specs.View.{view}
use Rattle.app_file.specs.FormOfApp.{gallery_before, leaf}
use Rattle.app_file.proofs.Fine.{bad_here, bad_leaf}
use Rattle.app_file.proofs.screens.read_gallery.Goals as goal

pub returns-in-None-gallery_of-clause-bad : goal.returns-in-None-gallery_of-clause-bad
returns-in-None-gallery_of-clause-bad c =
    let f = gallery_before (map view c.args.before.now) c.args.kind in
    let x = view c.in-Some.member.now in
    bad_here false (codes "in") (leaf f) (view c.args.part.now) x c.in-Some.ensures (bad_leaf f x c.in-None-gallery_of.ensures) c.unread_member.result c.unread_member.ensures
