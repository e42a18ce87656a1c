use Rattle.std.proofs.Common.{◌∙◌, ap, sym}
use Rattle.row_requests.specs.Changes.{rule_name}
use Rattle.row_requests.proofs.Names.{name_is}
use Rattle.row_requests.specs.declared.rule.Rule.TheVariants as rule
use Rattle.row_requests.proofs.rule.Rule.name.Goals as goal

pub returns-in-Column : goal.returns-in-Column
returns-in-Column c = name_is rule.Column ∙ sym (ap rule_name c.in-Column.is)

pub returns-in-ColumnType : goal.returns-in-ColumnType
returns-in-ColumnType c = name_is rule.ColumnType ∙ sym (ap rule_name c.in-ColumnType.is)

pub returns-in-Required : goal.returns-in-Required
returns-in-Required c = name_is rule.Required ∙ sym (ap rule_name c.in-Required.is)

pub returns-in-Unique : goal.returns-in-Unique
returns-in-Unique c = name_is rule.Unique ∙ sym (ap rule_name c.in-Unique.is)

pub returns-in-Size : goal.returns-in-Size
returns-in-Size c = name_is rule.Size ∙ sym (ap rule_name c.in-Size.is)

pub returns-in-Full : goal.returns-in-Full
returns-in-Full c = name_is rule.Full ∙ sym (ap rule_name c.in-Full.is)
