use Rattle.std.proofs.Common.{◌≡◌, None, ap, map, option_map, sym, ◌∙◌}
use Rattle.fx_typing.specs.Breaks.{name_taken_or}
use Rattle.fx_resolve.specs.PartView.{judged_part}
use Rattle.fx_call_typing.proofs.InTurn.{added_step}
use Rattle.fx_call_typing.proofs.taken.taken_added_name.Goals as goal

pub loop-more-preserved : goal.loop-more-preserved
loop-more-preserved c =
    let o = option_map (λ w. w.now) c.name_of-new.result in
    let ns = map (λ w. w.now) c.loop-more.names.items in
    let free : name_taken_or o ns None ≡ None =
    sym (c.find_name.ensures ∙ ap (λ ws. name_taken_or o (map (λ w. w.now) ws) None) c.as_slice.ensures.value) ∙ ap (option_map (λ w. w.now)) c.in_default-find_name.is in
    added_step judged_part c.loop-more.more.now c.new-item.result o ns (map (λ w. w.now) c.in_ok-names.names.items)
    c.in-len2-up.len_at_least c.new-item.is c.name_of-new.ensures free c.in_ok-names.ensures
    ∙ c.loop-more.invariant
