use Rattle.std.proofs.Common.{◌∙◌, ap, map, not, refl, subst, sym}
use Rattle.fx_types.specs.Types.{numbers, texts, booleans}
use Rattle.fx_types.specs.Values.{number, text, boolean}
use Rattle.fx_core.specs.declared.functions.Form.TheVariants as form
use Rattle.fx_core.specs.declared.functions.Fun.TheVariants as fun
use Rattle.fx_typing.specs.Builds.{typed_list}
use Rattle.fx_typing.specs.Calls.{called}
use Rattle.fx_typing.specs.Parts.{may_act, pieces, unless_rule, values}
use Rattle.fx_typing.specs.Typing.{admit, chain_by, constant, dot_by, global_by, is_too_deep, name_by, paired_by, record_as, woven_by}
use Rattle.fx_typing.specs.Answers.{IsAnswerOf}
use Rattle.fx_typing.specs.TypedView.{typed}
use Rattle.fx_resolve.specs.MeaningView.{place_view}
use Rattle.fx_resolve.specs.PartView.{judged_part}
use Rattle.fx_resolve.specs.SettingView.{setting}
use Rattle.fx_core.specs.Tree.{tree_field_names}
use Rattle.fx_core.specs.Tree as tree
use Rattle.fx_core.specs.ColumnLists.{and_then}
use Rattle.fx_typing.specs.Local.{formed, node_made}
use Rattle.fx_typing.specs.Meaning.{in_globals, meaning_of}
use Rattle.fx_infer.proofs.Admits.{global_leaf, name_leaf, number_leaf, text_leaf, truth_leaf}
use Rattle.fx_infer.proofs.Goes.{headed}
use Rattle.fx_infer.proofs.admitting.admit.Goals as goal

pub returns-in-Num : goal.returns-in-Num
returns-in-Num c =
    let p = place_view c.args.at.now in
    let s = setting c.args.scopes.now c.args.stand in
    let qs = map judged_part c.args.all.items in
    let e = headed c.args.whole.now c.whole.inside.at c.whole.inside.node _ c.whole.view_is c.in-Num.is in
    subst (λ h. IsAnswerOf judged_part (admit p s h qs) c.leaf.result) (sym e) (subst (λ r. IsAnswerOf judged_part r c.leaf.result) (number_leaf p s c.in-Num.number qs) (c.leaf.ensures (constant (number c.in-Num.number) numbers) c.constant.ensures))

pub returns-in_ok-text-in-Text : goal.returns-in_ok-text-in-Text
returns-in_ok-text-in-Text c =
    let p = place_view c.args.at.now in
    let s = setting c.args.scopes.now c.args.stand in
    let qs = map judged_part c.args.all.items in
    let e = headed c.args.whole.now c.whole.inside.at c.whole.inside.node _ c.whole.view_is c.in-Text.is in
    let r = ap (λ x. constant (text x) texts) (sym c.in_ok-text-in-Text.ensures) ∙ c.constant-in-Text.ensures in
    subst (λ h. IsAnswerOf judged_part (admit p s h qs) c.leaf-in-Text.result) (sym e) (subst (λ r. IsAnswerOf judged_part r c.leaf-in-Text.result) (text_leaf p s c.in-Text.text qs) (c.leaf-in-Text.ensures (constant (text c.in-Text.text) texts) r))

pub returns-in-Truth : goal.returns-in-Truth
returns-in-Truth c =
    let p = place_view c.args.at.now in
    let s = setting c.args.scopes.now c.args.stand in
    let qs = map judged_part c.args.all.items in
    let e = headed c.args.whole.now c.whole.inside.at c.whole.inside.node _ c.whole.view_is c.in-Truth.is in
    subst (λ h. IsAnswerOf judged_part (admit p s h qs) c.leaf-in-Truth.result) (sym e) (subst (λ r. IsAnswerOf judged_part r c.leaf-in-Truth.result) (truth_leaf p s c.in-Truth.truth qs) (c.leaf-in-Truth.ensures (constant (boolean c.in-Truth.truth) booleans) c.constant-in-Truth.ensures))

pub returns-in_ok-meaning-in-Name : goal.returns-in_ok-meaning-in-Name
returns-in_ok-meaning-in-Name c =
    let p = place_view c.args.at.now in
    let s = setting c.args.scopes.now c.args.stand in
    let qs = map judged_part c.args.all.items in
    let e = headed c.args.whole.now c.whole.inside.at c.whole.inside.node _ c.whole.view_is c.in-Name.is in
    let x = c.in-Name.name in
    let r = subst (λ m. IsAnswerOf judged_part (name_by s.grant x m) c.name_by.result) c.in_ok-meaning-in-Name.ensures c.name_by.ensures in
    subst (λ h. IsAnswerOf judged_part (admit p s h qs) c.leaf-in-Name.result) (sym e) (subst (λ r. IsAnswerOf judged_part r c.leaf-in-Name.result) (name_leaf p s x qs) (c.leaf-in-Name.ensures (name_by s.grant x (meaning_of p s.scopes s.catches x)) r))

pub returns-in_ok-meaning-in-Global : goal.returns-in_ok-meaning-in-Global
returns-in_ok-meaning-in-Global c =
    let p = place_view c.args.at.now in
    let s = setting c.args.scopes.now c.args.stand in
    let qs = map judged_part c.args.all.items in
    let e = headed c.args.whole.now c.whole.inside.at c.whole.inside.node _ c.whole.view_is c.in-Global.is in
    let x = c.in-Global.name in
    let r = subst (λ m. IsAnswerOf judged_part (global_by s.grant x m) c.global_by.result) c.in_ok-meaning-in-Global.ensures c.global_by.ensures in
    subst (λ h. IsAnswerOf judged_part (admit p s h qs) c.leaf-in-Global.result) (sym e) (subst (λ r. IsAnswerOf judged_part r c.leaf-in-Global.result) (global_leaf p s x qs) (c.leaf-in-Global.ensures (global_by s.grant x (in_globals p.names x)) r))

pub returns-in-Dot : goal.returns-in-Dot
returns-in-Dot c =
    let p = place_view c.args.at.now in
    let s = setting c.args.scopes.now c.args.stand in
    let qs = map judged_part c.args.all.items in
    let e = headed c.args.whole.now c.whole.inside.at c.whole.inside.node _ c.whole.view_is c.in-Dot.is in
    subst (λ h. IsAnswerOf judged_part (admit p s h qs) c.as_part.result) (sym e) (c.as_part.ensures (dot_by p c.in-Dot.name qs) (c.dot_by.ensures p refl))

pub returns-in-Call : goal.returns-in-Call
returns-in-Call c =
    let p = place_view c.args.at.now in
    let s = setting c.args.scopes.now c.args.stand in
    let qs = map judged_part c.args.all.items in
    let e = headed c.args.whole.now c.whole.inside.at c.whole.inside.node _ c.whole.view_is c.in-Call.is in
    let x = c.in-Call.name in
    let r = subst (λ h. IsAnswerOf typed (unless_rule (is_too_deep p s h qs) 13 (called p s x qs)) c.call_by.result) e c.call_by.ensures in
    subst (λ h. IsAnswerOf judged_part (admit p s h qs) c.as_part-in-Call.result) (sym e) (c.as_part-in-Call.ensures (unless_rule (is_too_deep p s (tree.call x) qs) 13 (called p s x qs)) r)

pub returns-in-Neg : goal.returns-in-Neg
returns-in-Neg c =
    let p = place_view c.args.at.now in
    let s = setting c.args.scopes.now c.args.stand in
    let qs = map judged_part c.args.all.items in
    let e = headed c.args.whole.now c.whole.inside.at c.whole.inside.node _ c.whole.view_is c.in-Neg.is in
    subst (λ h. IsAnswerOf judged_part (admit p s h qs) c.as_part-in-Neg.result) (sym e) (c.as_part-in-Neg.ensures (node_made fun.Negate (pieces qs)) c.make_of.ensures)

pub returns-in-Not : goal.returns-in-Not
returns-in-Not c =
    let p = place_view c.args.at.now in
    let s = setting c.args.scopes.now c.args.stand in
    let qs = map judged_part c.args.all.items in
    let e = headed c.args.whole.now c.whole.inside.at c.whole.inside.node _ c.whole.view_is c.in-Not.is in
    subst (λ h. IsAnswerOf judged_part (admit p s h qs) c.as_part-in-Not.result) (sym e) (c.as_part-in-Not.ensures (node_made fun.Not (pieces qs)) c.make_of-in-Not.ensures)

pub returns-in-Percent : goal.returns-in-Percent
returns-in-Percent c =
    let p = place_view c.args.at.now in
    let s = setting c.args.scopes.now c.args.stand in
    let qs = map judged_part c.args.all.items in
    let e = headed c.args.whole.now c.whole.inside.at c.whole.inside.node _ c.whole.view_is c.in-Percent.is in
    subst (λ h. IsAnswerOf judged_part (admit p s h qs) c.as_part-in-Percent.result) (sym e) (c.as_part-in-Percent.ensures (node_made fun.Percent (pieces qs)) c.make_of-in-Percent.ensures)

pub returns-in-Pair : goal.returns-in-Pair
returns-in-Pair c =
    let p = place_view c.args.at.now in
    let s = setting c.args.scopes.now c.args.stand in
    let qs = map judged_part c.args.all.items in
    let e = headed c.args.whole.now c.whole.inside.at c.whole.inside.node _ c.whole.view_is c.in-Pair.is in
    subst (λ h. IsAnswerOf judged_part (admit p s h qs) c.as_part-in-Pair.result) (sym e) (c.as_part-in-Pair.ensures (and_then (values qs) (λ xs. paired_by c.in-Pair.op xs (pieces qs))) c.pair.ensures)

pub returns-in-Joined : goal.returns-in-Joined
returns-in-Joined c =
    let p = place_view c.args.at.now in
    let s = setting c.args.scopes.now c.args.stand in
    let qs = map judged_part c.args.all.items in
    let e = headed c.args.whole.now c.whole.inside.at c.whole.inside.node _ c.whole.view_is c.in-Joined.is in
    subst (λ h. IsAnswerOf judged_part (admit p s h qs) c.as_part-in-Joined.result) (sym e) (c.as_part-in-Joined.ensures (node_made fun.Concatenation (pieces qs)) c.make_of-in-Joined.ensures)

pub returns-in-And : goal.returns-in-And
returns-in-And c =
    let p = place_view c.args.at.now in
    let s = setting c.args.scopes.now c.args.stand in
    let qs = map judged_part c.args.all.items in
    let e = headed c.args.whole.now c.whole.inside.at c.whole.inside.node _ c.whole.view_is c.in-And.is in
    subst (λ h. IsAnswerOf judged_part (admit p s h qs) c.as_part-in-And.result) (sym e) (c.as_part-in-And.ensures (formed form.All (pieces qs)) c.make_form_of.ensures)

pub returns-in-Or : goal.returns-in-Or
returns-in-Or c =
    let p = place_view c.args.at.now in
    let s = setting c.args.scopes.now c.args.stand in
    let qs = map judged_part c.args.all.items in
    let e = headed c.args.whole.now c.whole.inside.at c.whole.inside.node _ c.whole.view_is c.in-Or.is in
    subst (λ h. IsAnswerOf judged_part (admit p s h qs) c.as_part-in-Or.result) (sym e) (c.as_part-in-Or.ensures (formed form.Any (pieces qs)) c.make_form_of-in-Or.ensures)

pub returns-in-Chain : goal.returns-in-Chain
returns-in-Chain c =
    let p = place_view c.args.at.now in
    let s = setting c.args.scopes.now c.args.stand in
    let qs = map judged_part c.args.all.items in
    let e = headed c.args.whole.now c.whole.inside.at c.whole.inside.node _ c.whole.view_is c.in-Chain.is in
    let chained = and_then (values qs) chain_by in
    let r = subst (λ b. IsAnswerOf typed (unless_rule (not b) 9 chained) c.unless.result) c.may_act-pure.ensures (c.unless.ensures chained c.chain.ensures) in
    subst (λ h. IsAnswerOf judged_part (admit p s h qs) c.as_part-in-Chain.result) (sym e) (c.as_part-in-Chain.ensures (unless_rule (not (may_act s.grant)) 9 chained) r)

pub returns-in-Alias : goal.returns-in-Alias
returns-in-Alias c =
    let p = place_view c.args.at.now in
    let s = setting c.args.scopes.now c.args.stand in
    let qs = map judged_part c.args.all.items in
    let e = headed c.args.whole.now c.whole.inside.at c.whole.inside.node _ c.whole.view_is c.in-Alias.is in
    subst (λ h. IsAnswerOf judged_part (admit p s h qs) c.alias_by.result) (sym e) (c.alias_by.ensures)

pub returns-in-Rec : goal.returns-in-Rec
returns-in-Rec c =
    let p = place_view c.args.at.now in
    let s = setting c.args.scopes.now c.args.stand in
    let qs = map judged_part c.args.all.items in
    let e = headed c.args.whole.now c.whole.inside.at c.whole.inside.node _ c.whole.view_is c.in-Rec.is in
    let r = subst (λ fs. IsAnswerOf judged_part (and_then (values qs) (record_as s.grant (tree_field_names fs))) c.record_by.result) c.as_slice.ensures c.record_by.ensures in
    subst (λ h. IsAnswerOf judged_part (admit p s h qs) c.record_by.result) (sym e) (r)

pub returns-in-List : goal.returns-in-List
returns-in-List c =
    let p = place_view c.args.at.now in
    let s = setting c.args.scopes.now c.args.stand in
    let qs = map judged_part c.args.all.items in
    let e = headed c.args.whole.now c.whole.inside.at c.whole.inside.node _ c.whole.view_is c.in-List.is in
    subst (λ h. IsAnswerOf judged_part (admit p s h qs) c.as_part-in-List.result) (sym e) (c.as_part-in-List.ensures (and_then (values qs) typed_list) c.list.ensures)

pub returns-in-Woven : goal.returns-in-Woven
returns-in-Woven c =
    let p = place_view c.args.at.now in
    let s = setting c.args.scopes.now c.args.stand in
    let qs = map judged_part c.args.all.items in
    let e = headed c.args.whole.now c.whole.inside.at c.whole.inside.node _ c.whole.view_is c.in-Woven.is in
    subst (λ h. IsAnswerOf judged_part (admit p s h qs) c.as_part-in-Woven.result) (sym e) (c.as_part-in-Woven.ensures (woven_by qs) c.weave.ensures)
