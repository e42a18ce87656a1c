use Rattle.std.proofs.Common.{◌≡◌, ℕ, suc, ◌+◌, ◌<◌, ◌≤◌, List, [], ◌∷◌, length, map, Ok, ap, sym, subst, ◌∙◌, arith, length-append}
use Rattle.std.proofs.lemmas.List.{length-map, map-append}
use Rattle.fx_core.specs.Tree.{more, tree_size, forest_size}
use Rattle.fx_typing.specs.Parts.{part_count}
use Rattle.fx_typing.specs.Plans.{setting_at}
use Rattle.fx_typing.specs.Typing as typing
use Rattle.fx_resolve.specs.MeaningView.{place_view}
use Rattle.fx_resolve.specs.PartView.{judged_part}
use Rattle.fx_resolve.specs.PlanView.{tree_head}
use Rattle.fx_resolve.specs.SettingView.{setting}
use Rattle.fx_resolve.specs.declared.parts.Part.{Part}
use Rattle.fx_infer.specs.Below.{forest_of, forest_from, tree_depth, forest_depth}
use Rattle.fx_infer.proofs.Goes.{GoesOn, goes_on}
use Rattle.fx_infer.proofs.Places.{part_smaller, part_shallow, part_within, size_is, depth_is}
use Rattle.fx_infer.proofs.judging.+judge.Goals as goal

pub judge_parts-judge_next-requires : goal.judge_parts-judge_next-requires
judge_parts-judge_next-requires t c =
    let ts = forest_of c.args.whole.now in
    let a : tree_size c.in-Some.next.now < forest_size ts = part_smaller ts _ _ _ c.in-Some.ensures in
    let b : tree_depth c.in-Some.next.now ≤ forest_depth ts = part_shallow ts _ _ _ c.in-Some.ensures in
    let e : length c.loop-next.scopes ≡ length c.args.scopes.now = ap length c.loop-next.invariant.scopes in (
      omega (arith, size_is c.args.whole.now),
      (c.requires.lawful, omega (arith, depth_is c.args.whole.now)),
    )

pub judge_parts-loop-next-smaller : goal.judge_parts-loop-next-smaller
judge_parts-loop-next-smaller t c =
    let ts = forest_of c.args.whole.now in
    let a = part_within ts _ _ _ c.in-Some.ensures in
    let b : length c.push.new.self.items ≡ length c.loop-next.done.items + 1 =
    ap length c.in_ok-push.ensures.items ∙ length-append c.loop-next.done.items (c.in_ok-part.part ∷ []) in
    omega (arith, a, b)

pub judge_parts-loop-next-preserved : goal.judge_parts-loop-next-preserved
judge_parts-loop-next-preserved t c =
    let ts = forest_of c.args.whole.now in
    let p = place_view c.args.at.now in
    let s = setting c.args.scopes.now c.args.stand in
    let h = tree_head c.args.whole.now in
    let done = map judged_part c.loop-next.done.items in
    let n : c.len.result ≡ length c.loop-next.done.items = grind arith in
    let i : c.len.result ≡ length done = n ∙ sym (length-map c.loop-next.done.items judged_part) in
    let at : forest_from (length done) ts ≡ more c.in-Some.next.now (forest_from (suc (length done)) ts) =
    subst (λ (k : ℕ). forest_from k ts ≡ more c.in-Some.next.now (forest_from (suc k) ts)) i c.in-Some.ensures in
    let ds = c.deref.result.now in
    let a : setting_at p.names (setting c.loop-next.scopes c.args.stand) h c.part_count-count.result (map judged_part ds) ≡ setting_at p.names s h (part_count ts) done =
    ap (λ ss. setting_at p.names (setting ss c.args.stand) h c.part_count-count.result (map judged_part ds)) c.loop-next.invariant.scopes
    ∙ ap (λ n. setting_at p.names s h n (map judged_part ds)) c.part_count-count.ensures
    ∙ ap (λ (ys : List Part). setting_at p.names s h (part_count ts) (map judged_part ys)) c.deref.ensures.value in
    let judged : typing.judge p (setting_at p.names s h (part_count ts) done) c.in-Some.next.now ≡ Ok (judged_part c.in_ok-part.part) =
    ap (λ t. typing.judge p t c.in-Some.next.now) (sym a) ∙ c.in_ok-part.ensures.judged in
    record {
      scopes = c.in_ok-part.ensures.scopes ∙ c.loop-next.invariant.scopes;
      goes = subst (GoesOn p s h (part_count ts) ts) (sym (ap (map judged_part) c.in_ok-push.ensures.items ∙ map-append judged_part c.loop-next.done.items (c.in_ok-part.part ∷ [])))
          (goes_on p s h (part_count ts) ts done c.in-Some.next.now (judged_part c.in_ok-part.part) c.loop-next.invariant.goes at judged);
    }
