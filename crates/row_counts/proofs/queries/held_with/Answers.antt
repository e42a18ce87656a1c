use Rattle.std.proofs.Common.{cond, ap, sym, Some, ◌∙◌}
use Rattle.std.specs.Prelude.{option_map}
use Rattle.std.specs.Cmp.Lexicographic.{slice_cmp}
use Rattle.std.specs.Ordering.{is_le, nat_cmp}
use Rattle.row_counts.specs.Whole.{later_key}
use Rattle.row_counts.proofs.queries.held_with.Goals as goal

pub returns-in-None : goal.returns-in-None
returns-in-None c =
    let held = c.args.held.now in
    let range = c.args.range.now in
    let le = c.if-is_le.ensures ∙ ap is_le (c.cmp.ensures ∙ ap (λ from. slice_cmp nat_cmp from held) c.as_bytes.ensures) in
    ap (λ b. cond b (option_map (later_key held) range.upto) (Some held)) (sym le) ∙ ap (option_map (later_key held)) c.in-None.is

pub returns-in-Some : goal.returns-in-Some
returns-in-Some c =
    let held = c.args.held.now in
    let range = c.args.range.now in
    let le = c.if-is_le.ensures ∙ ap is_le (c.cmp.ensures ∙ ap (λ from. slice_cmp nat_cmp from held) c.as_bytes.ensures) in
    ap (λ b. cond b (option_map (later_key held) range.upto) (Some held)) (sym le) ∙ ap (option_map (later_key held)) c.in-Some.is
    ∙ ap (λ keys. Some (later_key held keys)) (sym c.as_bytes-in-Some.ensures) ∙ ap (λ keys. Some keys) (sym c.later.ensures)

pub returns-else-is_le : goal.returns-else-is_le
returns-else-is_le c =
    let held = c.args.held.now in
    let range = c.args.range.now in
    let le = c.if-is_le.ensures ∙ ap is_le (c.cmp.ensures ∙ ap (λ from. slice_cmp nat_cmp from held) c.as_bytes.ensures) in
    ap (λ b. cond b (option_map (later_key held) range.upto) (Some held)) (sym le)
