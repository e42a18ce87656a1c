use Rattle.std.proofs.Common.{◌≡◌, [], map, take}
use Rattle.serde_json.specs.View.{view}
use Rattle.app_file.specs.Contents.{all_behind}
use Rattle.app_file.proofs.Lists.{AreFineBelow}
use Rattle.app_file.proofs.parts.read_all.Given as goal

abbrev pub invariant-loop-place : goal.invariant-loop-place
invariant-loop-place g l = record {
  fine : AreFineBelow l.place g.T.Element.element_form (map view l.items);
  held : l.all ≡ all_behind g.T.Element.element_held [] (take l.place (map view l.items));
}
