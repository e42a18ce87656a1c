-- A reply that was made, with a copy of it to keep, before anything is settled.
use Rattle.std.specs.Prelude.{◌≡◌, ℕ, List}
use Rattle.fx_core.specs.declared.schema.Column.{Column}
use Rattle.row_imports.specs.Lines.{IsImported}
use Rattle.numbered_requests.specs.Replies.{IsReply, said}
use Rattle.csv_requests.specs.Transactions.{outcome_reply}
use Rattle.csv_requests.specs.declared.transaction.Prepared.{Prepared}

pub record IsPrepared (seq : ℕ) (columns : List Column) (p : Prepared) : Type 0 where
  pub reply : said p.reply ≡ outcome_reply seq columns p.outcome
  pub whole : IsReply p.reply
  pub kept : p.kept.items ≡ outcome_reply seq columns p.outcome

-- so many lines came to what may come of them, and their reply is prepared
pub record IsMade (seq : ℕ) (columns : List Column) (lines : ℕ) (p : Prepared) : Type 0 where
  pub prepared : IsPrepared seq columns p
  pub may : IsImported columns lines p.outcome
