use Rattle.std.proofs.Common.{◌≡◌, ◌++◌, drop, map}
use Rattle.std.specs.List.{filter_map}
use Rattle.serde_json.specs.View.{view}
use Rattle.app_file.specs.Contents.{property}
use Rattle.app_file.proofs.Properties.{AreTexts}
use Rattle.app_file.proofs.screens.read_properties.Given as goal

abbrev pub invariant-loop-key : goal.invariant-loop-key
invariant-loop-key l = record {
  fine : AreTexts (view l.part) (map (λ k. k.now) (drop l.key-index l.key-items)) → AreTexts (view l.part) (map (λ k. k.now) l.key-items);
  held : l.properties ++ filter_map (property (view l.part)) (map (λ k. k.now) (drop l.key-index l.key-items)) ≡ filter_map (property (view l.part)) (map (λ k. k.now) l.key-items);
}
