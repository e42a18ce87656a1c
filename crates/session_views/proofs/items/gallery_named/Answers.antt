use Rattle.std.proofs.Common.{sym}
use Rattle.session_views.proofs.Galleries.{gallery_there}
use Rattle.session_views.proofs.items.gallery_named.Goals as goal

pub returns-in-Some-clause-gallery : goal.returns-in-Some-clause-gallery
returns-in-Some-clause-gallery c = gallery_there c.args.names.now c.args.name.now c.in-Some.place (sym c.in-Some.ensures.place) c.in-Some.ensures.within
