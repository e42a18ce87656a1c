use Rattle.std.proofs.Common.{ℕ, List, subst, sym}
use Rattle.std.specs.List.{All}
use Rattle.std.proofs.lemmas.List.Elements.{All-cons}
use Rattle.fx_tables.specs.Groups.{value_of}
use Rattle.fx_value.proofs.JoinSteps.{left}
use Rattle.fx_value.specs.Keys.{IsProper}
use Rattle.fx_value.specs.Order.{IsScalar}
use Rattle.fx_group.proofs.Steps.{bytes_more}
use Rattle.fx_group.proofs.buckets.bytes_of.Goals as goal

pub bytes_under-requires : goal.bytes_under-requires
bytes_under-requires c =
    subst (λ n. IsScalar (value_of n c.args.row.now)) (sym c.key-item.is) (c.requires c.loop-key.key-index c.key-item.result c.loop-key-test.true)

pub loop-key-preserved : goal.loop-key-preserved
loop-key-preserved c =
    let ns = c.args.keys.now in
    let i = c.loop-key.key-index in
    let n = c.key-item.result in
    let split = left ns i n c.loop-key-test.true c.key-item.is in
    let P = λ (m : List ℕ). IsProper (value_of m c.args.row.now) in
    record {
      bytes = bytes_more ns i n c.args.row.now c.loop-key.bytes.items c.in_ok-bytes_under.field-0 c.push.new.self.items _ split c.in_ok-bytes_under.ensures.bytes c.in_ok-push.ensures.items c.loop-key.invariant.bytes;
      proper = λ h. c.loop-key.invariant.proper (subst (All P) (sym split) (All-cons P n _ c.in_ok-bytes_under.ensures.proper h));
    }
