-- A reply that was made, with a copy of it to keep, before anything is settled.
use Rattle.std.specs.Prelude.{◌≡◌, ℕ, List}
use Rattle.fx_core.specs.declared.schema.TableShape.{TableShape}
use Rattle.row_requests.specs.AnyKeeper.{MayEnd}
use Rattle.row_requests.specs.DeskRows.{outcome_reply}
use Rattle.numbered_requests.specs.Replies.{IsReply, said}
use Rattle.row_requests.specs.declared.bodies.Posted.{Posted}
use Rattle.row_requests.specs.declared.transaction.Prepared.{Prepared}

pub record IsPrepared (seq : ℕ) (p : Prepared) : Type 0 where
  pub reply : said p.reply ≡ outcome_reply seq p.outcome
  pub whole : IsReply p.reply
  pub kept : p.kept.items ≡ outcome_reply seq p.outcome

-- posted changes came to what may come of them, and their reply is prepared
pub record IsMade (shapes : List TableShape) (posted : Posted) (p : Prepared) : Type 0 where
  pub prepared : IsPrepared posted.seq p
  pub may : MayEnd shapes 0 posted.changes p.outcome
