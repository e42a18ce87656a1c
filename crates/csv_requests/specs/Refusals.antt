-- Why an import is refused (28).
use Rattle.std.specs.Prelude.{ℕ, List, codes}
use Rattle.fx_core.specs.declared.schema.Column.{Column}
use Rattle.row_files.specs.declared.ends.ImportRule.{ImportRule}
use Rattle.row_files.specs.declared.ends.ImportRule.TheVariants as rule
use Rattle.row_imports.specs.declared.imports.BrokenLine.{BrokenLine}
use Rattle.view_text.specs.declared.refused.Detail.TheVariants as detail
use Rattle.view_text.specs.declared.refused.Refusal.{Refusal}
use Rattle.row_requests.specs.Changes.{column_name_at, kept_rule, rule_name}

-- a rule breaks in a record, in this column, which is "" where the rule is one of the whole record
abbrev pub import_refusal : ℕ → List ℕ → List ℕ → Refusal
import_refusal at column rule = record { code = 28; detail = detail.Row at column rule }

-- the key is no unique column of the table
abbrev pub key_refusal : List ℕ → Refusal
key_refusal key = import_refusal 0 key (codes "key")

abbrev pub batch_rule_name : ImportRule → List ℕ
batch_rule_name rule.Csv = codes "csv"
batch_rule_name rule.Header = codes "header"
batch_rule_name rule.Long = codes "long"
batch_rule_name rule.Kind = codes "type"
batch_rule_name rule.Blank = codes "blank"
batch_rule_name rule.Twice = codes "twice"

-- a text is no batch
abbrev pub batch_refusal : ℕ → List ℕ → ImportRule → Refusal
batch_refusal at column rule = import_refusal at column (batch_rule_name rule)

-- a rule of rows breaks as a line acts
abbrev pub line_refusal : List Column → BrokenLine → Refusal
line_refusal columns b = import_refusal b.at (column_name_at columns b.refusal.column)
    (rule_name (kept_rule b.refusal.rule))
