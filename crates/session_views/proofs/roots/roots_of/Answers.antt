use Rattle.std.proofs.Common.{◌≡◌, true}
use Rattle.recalc.specs.app_semantics.Needed.{is_alone}
use Rattle.session_views.proofs.Gathering.{both_added}
use Rattle.session_views.specs.Looking.{IsOwnCell, IsThrough, IsLeanedOn, is_control_among}
use Rattle.session_views.proofs.roots.roots_of.Goals as goal

pub returns : goal.returns
returns c =
    both_added (IsThrough (IsOwnCell c.args.app.now.names (is_control_among c.args.app.now.names c.args.part)) c.args.app.now.names.properties) (IsThrough (IsLeanedOn c.args.app.now.names (is_control_among c.args.app.now.names c.args.part)) c.args.app.now.cells) (λ k. is_alone c.args.app.now.cells k ≡ true)
    c.new-roots.result.items c.add_all_own.new.roots.items c.add_all_under.new.roots.items c.new-roots.ensures.items c.in_ok-add_all_own.ensures c.in_ok-add_all_under.ensures
