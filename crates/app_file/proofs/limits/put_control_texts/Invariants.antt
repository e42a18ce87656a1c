use Rattle.std.proofs.Common.{◌≡◌, ◌++◌, drop, map}
use Rattle.app_file.specs.declared.file.PropertyText.{PropertyText}
use Rattle.app_file.specs.Limits.{utf8_length}
use Rattle.app_file.proofs.limits.put_control_texts.Given as goal

abbrev pub invariant-loop-property : goal.invariant-loop-property
invariant-loop-property l =
    l.counts.items ++ map utf8_length (map (λ (p : PropertyText). p.text) (drop l.property-index l.property-items))
    ≡ l.fn.counts.items ++ map utf8_length (map (λ (p : PropertyText). p.text) l.property-items)
