use Rattle.app_loader.proofs.Arrows.{pushed}
use Rattle.std.specs.String.{string_bytes}
use Rattle.app_loader.proofs.cycles.push_name.Goals as goal

pub returns : goal.returns
returns c =
    pushed (string_bytes c.args.all.now) (string_bytes c.push_str.new.self) (string_bytes c.push_str-2.new.self) c.arrow.result.now c.args.name.now c.as_str.result.now c.args.place
    c.in_ok-push_str.ensures.bytes c.arrow.ensures c.in_ok-push_str-2.ensures.bytes c.as_str.ensures.bytes
