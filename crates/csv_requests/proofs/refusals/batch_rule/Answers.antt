use Rattle.std.proofs.Common.{◌∙◌, ap, sym}
use Rattle.row_files.specs.declared.ends.ImportRule.TheVariants as rule
use Rattle.csv_requests.specs.Refusals.{batch_rule_name}
use Rattle.csv_requests.proofs.Names.{name_is}
use Rattle.csv_requests.proofs.refusals.batch_rule.Goals as goal

pub returns-in-Csv : goal.returns-in-Csv
returns-in-Csv c = name_is rule.Csv ∙ sym (ap batch_rule_name c.in-Csv.is)

pub returns-in-Header : goal.returns-in-Header
returns-in-Header c = name_is rule.Header ∙ sym (ap batch_rule_name c.in-Header.is)

pub returns-in-Long : goal.returns-in-Long
returns-in-Long c = name_is rule.Long ∙ sym (ap batch_rule_name c.in-Long.is)

pub returns-in-Kind : goal.returns-in-Kind
returns-in-Kind c = name_is rule.Kind ∙ sym (ap batch_rule_name c.in-Kind.is)

pub returns-in-Blank : goal.returns-in-Blank
returns-in-Blank c = name_is rule.Blank ∙ sym (ap batch_rule_name c.in-Blank.is)

pub returns-in-Twice : goal.returns-in-Twice
returns-in-Twice c = name_is rule.Twice ∙ sym (ap batch_rule_name c.in-Twice.is)
