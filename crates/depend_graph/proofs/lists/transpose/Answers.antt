use Rattle.std.proofs.Common.{◌≡◌, ◌<◌, List, ℕ, length, get_or, subst, sym, ◌∙◌, Vec, vec_len, arith}
use Rattle.std.specs.declared.alloc.Global.{Global}
use Rattle.std.specs.List.{All}
use Rattle.std.proofs.lemmas.List.{length-map}
use Rattle.depend_graph.specs.Lists.{nth_list, lists_of, AddsEach}
use Rattle.depend_graph.proofs.Adding.{list_at, turned_none, turned_more, turned_all}
use Rattle.depend_graph.proofs.lists.transpose.Goals as goal

slice_is : (ls : List (Vec ℕ Global)) (i : ℕ) (v : Vec ℕ Global) (xs : List ℕ) → i < length ls → v ≡ get_or ls i v → xs ≡ v.items → xs ≡ nth_list (lists_of ls) i
slice_is ls i v xs lt read e = e ∙ sym (list_at ls i v lt read)

pub loop-number-init : goal.loop-number-init
loop-number-init c = (c.in_ok-lists.ensures.len, turned_none _ _ c.in_ok-lists.ensures.empty)

pub add_to_each-requires : goal.add_to_each-requires
add_to_each-requires c =
    let is : c.as_slice.result.now ≡ nth_list (lists_of c.args.readers.now) c.loop-number.number =
    slice_is c.args.readers.now c.loop-number.number _ _ (omega arith) c.index-readers-number.is c.as_slice.ensures.value in
    let P : List ℕ → Type 0 = λ xs. All (λ n. n < vec_len c.loop-number.lists) xs in
    subst P (sym is) (λ k d lt. let h : get_or (nth_list (lists_of c.args.readers.now) c.loop-number.number) k d < c.args.count = c.requires.below c.loop-number.number k d lt in omega arith)

pub loop-number-preserved : goal.loop-number-preserved
loop-number-preserved c =
    let is : c.as_slice.result.now ≡ nth_list (lists_of c.args.readers.now) c.loop-number.number =
    slice_is c.args.readers.now c.loop-number.number _ _ (omega arith) c.index-readers-number.is c.as_slice.ensures.value in
    let P : List ℕ → Type 0 = λ xs. AddsEach xs c.loop-number.number (lists_of c.loop-number.lists.items) (lists_of c.add_to_each.new.lists.items) in
    (omega arith, turned_more (lists_of c.args.readers.now) _ _ c.loop-number.number c.loop-number.invariant.1 (subst P is c.in_ok-add_to_each.ensures.ok))

pub returns-clause-turned : goal.returns-clause-turned
returns-clause-turned c =
    turned_all (lists_of c.args.readers.now) _ c.loop-number.number (omega (arith, length-map c.args.readers.now (λ (v : Vec ℕ Global). v.items))) c.loop-number.invariant.1
