use Rattle.std.proofs.Common.{◌≡◌, map, take}
use Rattle.serde_json.specs.View.{view}
use Rattle.view_text.specs.ReplyText.{named_data}
use Rattle.view_text.proofs.replies.named_objects.Given as goal

abbrev pub invariant-loop-named : goal.invariant-loop-named
invariant-loop-named l = map view l.objects.items ≡ map named_data (take l.named-index l.rows)
