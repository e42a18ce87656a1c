use Rattle.std.proofs.Common.{◌≡◌, ℕ, suc, ◌+◌, ◌<◌, ◌≤◌, ◌++◌, [], ◌∷◌, false, length, map, ap, sym, subst, ◌∙◌, append-nil, arith, rules, length-append}
use Rattle.std.proofs.lemmas.List.{length-map, map-append}
use Rattle.fx_core.specs.Tree.{none, more, tree_size, forest_size}
use Rattle.fx_typing.specs.Parts.{part_count}
use Rattle.fx_typing.specs.Rounds.{node_gives}
use Rattle.fx_resolve.specs.MeaningView.{place_view}
use Rattle.fx_resolve.specs.PartView.{judged_part}
use Rattle.fx_resolve.specs.PlanView.{tree_head}
use Rattle.fx_resolve.specs.SettingView.{setting}
use Rattle.fx_infer.specs.Below.{forest_of, forest_from, tree_depth, forest_depth}
use Rattle.fx_infer.proofs.Places.{part_smaller, part_shallow, part_within, size_is, depth_is}
use Rattle.fx_infer.specs.GivenView.{given_type_view}
use Rattle.fx_infer.proofs.NothingGiven.{gives_none}
use Rattle.fx_infer.proofs.Walked.{walked_next, walked_all}
use Rattle.fx_infer.proofs.assignments.+walk.Goals as goal

pub walk-walk_next-requires : goal.walk-walk_next-requires
walk-walk_next-requires t c =
    let ts = forest_of c.args.whole.now in
    let a : tree_size c.in-Some.next.now < forest_size ts = part_smaller ts _ _ _ c.in-Some.ensures in
    let b : tree_depth c.in-Some.next.now ≤ forest_depth ts = part_shallow ts _ _ _ c.in-Some.ensures in
    let e : length c.loop-next.scopes ≡ length c.args.scopes.now = ap length c.loop-next.invariant.scopes in (
      omega (arith, size_is c.args.whole.now),
      (c.requires.lawful, omega (arith, depth_is c.args.whole.now)),
    )

pub walk-loop-next-smaller : goal.walk-loop-next-smaller
walk-loop-next-smaller t c =
    let ts = forest_of c.args.whole.now in
    let a = part_within ts _ _ _ c.in-Some.ensures in
    let b : length c.push.new.self.items ≡ length c.loop-next.done.items + 1 =
    ap length c.in_ok-push.ensures.items ∙ length-append c.loop-next.done.items (c.in_ok-part.part ∷ []) in
    omega (arith, a, b)

pub walk-loop-next-preserved : goal.walk-loop-next-preserved
walk-loop-next-preserved t c =
    let ts = forest_of c.args.whole.now in
    let done = map judged_part c.loop-next.done.items in
    let l : c.len.result ≡ length c.loop-next.done.items = search rules in
    let i : c.len.result ≡ length done = l ∙ sym (length-map c.loop-next.done.items judged_part) in
    let at : forest_from (length done) ts ≡ more c.in-Some.next.now (forest_from (suc (length done)) ts) =
    subst (λ (k : ℕ). forest_from k ts ≡ more c.in-Some.next.now (forest_from (suc k) ts)) i c.in-Some.ensures in
    let here : c.deref.result.now ≡ c.loop-next.done.items = search rules in
    record {
      scopes = c.in_ok-part.ensures.scopes ∙ c.loop-next.invariant.scopes;
      walked = walked_next (place_view c.args.at.now) (setting c.args.scopes.now c.args.stand) (setting c.loop-next.scopes c.args.stand) (tree_head c.args.whole.now)
          (part_count ts) c.part_count-count.result ts done (map judged_part c.deref.result.now) _ (map given_type_view c.loop-next.below.items) _ c.in-Some.next.now (judged_part c.in_ok-part.part)
          (ap (λ ss. setting ss c.args.stand) c.loop-next.invariant.scopes) c.part_count-count.ensures (ap (map judged_part) here) c.loop-next.invariant.walked at
          c.in_ok-part.ensures.part c.in_ok-part.ensures.given
          (ap (map judged_part) c.in_ok-push.ensures.items ∙ map-append judged_part c.loop-next.done.items (c.in_ok-part.part ∷ []));
    }

pub walk-returns-clause-given : goal.walk-returns-clause-given
walk-returns-clause-given t c =
    let done = map judged_part c.loop-next.done.items in
    let l : c.len.result ≡ length c.loop-next.done.items = search rules in
    let i : c.len.result ≡ length done = l ∙ sym (length-map c.loop-next.done.items judged_part) in
    let z : forest_from c.len.result (forest_of c.args.whole.now) ≡ none = search rules in
    let here : c.deref-2.result.now ≡ c.loop-next.done.items = search rules in
    walked_all (place_view c.args.at.now) (setting c.args.scopes.now c.args.stand) c.args.whole.now done _ _ _ (map given_type_view c.loop-next.below.items)
    c.loop-next.invariant.walked (sym (ap (λ k. forest_from k (forest_of c.args.whole.now)) i) ∙ z)
    (c.in_ok-give.ensures c.args.scopes.now
    ∙ ap (λ xs. map given_type_view c.args.given.now.items ++ node_gives (place_view c.args.at.now) (setting c.args.scopes.now c.args.stand) (tree_head c.args.whole.now) (map judged_part xs)) here)
    c.in_ok-append.ensures

pub walk-returns-then-not-may_give-clause-given : goal.walk-returns-then-not-may_give-clause-given
walk-returns-then-not-may_give-clause-given t c =
    let never : c.may_give.result ≡ false = search rules in
    let none = gives_none (place_view c.args.at.now) (setting c.args.scopes.now c.args.stand) c.args.whole.now (sym c.may_give.ensures ∙ never) in
    let old = map given_type_view c.args.given.now.items in
    sym (ap (λ gs. old ++ gs) none ∙ append-nil old)
