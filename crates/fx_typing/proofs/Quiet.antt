-- What acts stands only where the place of a formula lets it act.
use Rattle.std.proofs.Common.{◌≡◌, ℕ, zero, suc, ◌++◌, List, [], ◌∷◌, Bool, true, false, not, nat_le, nat_lt, nat_eq, length, take, drop, encode_utf8_all, Option, Some, None, is_some, Result, Ok, Err, Ordering, Less, Equal, Greater, nat_cmp, refl, sym, subst, if◌then◌else◌}
use Rattle.std.specs.Cmp.Lexicographic.{slice_cmp}
use Rattle.std.specs.Ordering.{match_ordering}
use Rattle.fx_types.specs.Types.{Shape, blanks, numbers, texts, booleans, dates, records, tables, ColumnList, no_columns}
use Rattle.fx_core.specs.declared.deeds.Target.{Target}
use Rattle.fx_core.specs.declared.functions.Acting.{Acting}
use Rattle.fx_core.specs.declared.functions.Acting.TheVariants as acts
use Rattle.fx_core.specs.declared.functions.Form.TheVariants as form
use Rattle.fx_core.specs.declared.functions.Fun.{Fun}
use Rattle.fx_core.specs.declared.functions.Fun.TheVariants as fun
use Rattle.fx_core.specs.declared.rows.Takes.{Takes}
use Rattle.fx_core.specs.declared.rows.Takes.TheVariants as takes
use Rattle.fx_core.specs.declared.signatures.SigShape.{SigShape}
use Rattle.fx_core.specs.declared.signatures.SigShape.TheVariants as sig
use Rattle.fx_core.specs.declared.signatures.Signature.{Signature}
use Rattle.fx_core.specs.Rows.{row_of, form_row, takes_at, is_arity}
use Rattle.fx_core.specs.Signatures.{signature_in}
use Rattle.fx_core.specs.declared.names.Names.{Names}
use Rattle.fx_core.specs.declared.expr.Op.{Op}
use Rattle.fx_core.specs.Tree.{Tree, node, Forest, none, more, Head}
use Rattle.fx_core.specs.Tree as tree
use Rattle.fx_core.specs.Term.{Term, of, nil, cons, within}
use Rattle.fx_core.specs.Term as term
use Rattle.fx_typing.specs.Acts as deeds
use Rattle.fx_core.specs.ColumnLists.{and_then}
use Rattle.fx_typing.specs.Local.{value, by_way, join_all, put_first, node_made}
use Rattle.fx_typing.specs.Meaning.{Place, in_globals, meaning_of}
use Rattle.fx_typing.specs.Operators.{function_of}
use Rattle.fx_typing.specs.Ways.{way}
use Rattle.fx_typing.specs.WellTyped.{PartScope, plain}
use Rattle.fx_typing.specs.Builds.{bounded_by, bounded, is_bounded, put_field, put_fields, field_names, field_parts, are_names_distinct, record_by, typed_record, rows_to, list_by, list_as, typed_list, as_table_call, typed_table, as_record, with_of, blank_record}
use Rattle.fx_typing.specs.Breaks.{taken_at, mistells, could_act}
use Rattle.fx_typing.specs.Calls.{literal_in, function_by, made_literal, made_or_lowest, acted_by, defaults_of, called_by, called_with, called}
use Rattle.fx_typing.specs.Deeds.{by_first_name, by_columns}
use Rattle.fx_typing.specs.Parts.{Grant, nothing, acting, aliased_target, a_meaning, on_screen, JudgedPart, piece, target, assigned, Setting, may_act, pieces, values, unless_rule, part_count}
use Rattle.fx_typing.specs.Plans.{ArgumentRule, argument_rule, if_acting, grant_of, plan_by_row, pick, plan_either, plan_literal, plan_with, first_then, plan_act, plan_call, called_as, alias_grant, field_grant, plan_at, setting_at}
use Rattle.fx_typing.specs.Targets.{rows_named}
use Rattle.fx_typing.specs.Typing.{dot_by, assigned_of, record_as, paired_by, woven_by, chain_by, is_too_deep, admit, at_node, judge, judge_parts, outermost_setting, to_wanted, whole_argument, position, judge_whole}
use Rattle.fx_typing.proofs.Frame.{onward_ok, at_node_ok}
use Rattle.fx_typing.proofs.QuietParts.{AllQuiet, PartQuiet, EachQuiet, Made, TreeQuiet, then_quiet, unless_quiet, unless_refuses, if_quiet, as_part_quiet, tree_quiet, one_quiet, by_way_quiet, put_quiet, made_quiet, formed_quiet, made_if_quiet, pieces_quiet, values_quiet, take_quiet, in_globals_quiet, meaning_quiet, name_by_quiet, global_by_quiet, dot_by_quiet, alias_by_quiet}

-- whether a part may act where this is allowed
abbrev pub may_do : Grant → Bool
may_do acting = true
may_do (a_meaning b) = b
may_do (on_screen b) = b
may_do g = false

pub act_of : (g : Grant) → may_do g ≡ false → may_act g ≡ false
act_of acting e = absurd cc
act_of (a_meaning b) e = e
act_of g e = refl

-- types with limits
bounded_quiet : (r : Result (Term × Shape) ℕ) → Made TreeQuiet r → Made TreeQuiet (bounded r)
bounded_quiet r h = then_quiet TreeQuiet TreeQuiet r bounded_by h (λ x k. unless_quiet TreeQuiet (not (is_bounded x.1)) 13 (Ok x) k)

-- records and lists
abbrev pub Fields : Type 0
Fields = List (List ℕ × (Term × Shape))

put_field_quiet : (n : List ℕ) (x : Term × Shape) (fs : Fields) → TreeQuiet x → AllQuiet (field_parts fs) → AllQuiet (field_parts (put_field n x fs))
put_field_quiet n x [] h k = (h, tt)
put_field_quiet n x (f ∷ fs) h k = by_order (slice_cmp nat_cmp n f.0) (put_field_quiet n x fs h k.1)
  where
    by_order : (o : Ordering) → AllQuiet (field_parts (put_field n x fs)) →
        AllQuiet (field_parts (match_ordering o ((n, x) ∷ f ∷ fs) ((n, x) ∷ fs) (f ∷ put_field n x fs)))
    by_order Less rest = (h, k)
    by_order Equal rest = (h, k.1)
    by_order Greater rest = (k.0, rest)

fields_quiet : (ns : List (List ℕ)) (xs : List (Term × Shape)) → AllQuiet xs → AllQuiet (field_parts (put_fields ns xs))
fields_quiet [] xs h = tt
fields_quiet (n ∷ ns) [] h = tt
fields_quiet (n ∷ ns) (x ∷ xs) h = put_field_quiet n x (put_fields ns xs) h.0 (fields_quiet ns xs h.1)

record_quiet : (ns : List (List ℕ)) (xs : List (Term × Shape)) → AllQuiet xs → Made TreeQuiet (typed_record ns xs)
record_quiet ns xs h =
    let fs = put_fields ns xs in
    if_quiet TreeQuiet (are_names_distinct ns) (bounded (Ok (record_by fs))) (Err 5)
    (bounded_quiet (Ok (record_by fs)) (tree_quiet (term.rec (field_names fs)) (field_parts fs) refl (fields_quiet ns xs h))) tt

assigned_quiet : (ns : List (List ℕ)) (xs : List (Term × Shape)) → AllQuiet xs → Made PartQuiet (assigned_of ns xs)
assigned_quiet ns xs h =
    let bound = is_bounded (record_by (put_fields ns xs)).1 in
    if_quiet PartQuiet (are_names_distinct ns) (unless_rule (not bound) 13 (Ok (assigned ns xs))) (Err 5) (unless_quiet PartQuiet (not bound) 13 (Ok (assigned ns xs)) h) tt

record_as_quiet : (g : Grant) (ns : List (List ℕ)) (xs : List (Term × Shape)) → AllQuiet xs → Made PartQuiet (record_as g ns xs)
record_as_quiet (on_screen b) ns xs h = assigned_quiet ns xs h
record_as_quiet g ns xs h = as_part_quiet (typed_record ns xs) (record_quiet ns xs h)

rows_quiet : (t : Shape) (xs : List (Term × Shape)) → AllQuiet xs → Made AllQuiet (rows_to t xs)
rows_quiet t [] h = tt
rows_quiet t (x ∷ xs) h =
    then_quiet TreeQuiet AllQuiet (by_way (way x.1 t) x.0 t) (λ y. put_first y (rows_to t xs)) (by_way_quiet (way x.1 t) x.0 t h.0)
    (λ y k. put_quiet y (rows_to t xs) k (rows_quiet t xs h.1))

rows_made : (t : Shape) (xs : List (Term × Shape)) → AllQuiet xs → Made TreeQuiet (and_then (rows_to t xs) (λ ys. Ok (list_by t ys)))
rows_made t xs h =
    then_quiet AllQuiet TreeQuiet (rows_to t xs) (λ ys. Ok (list_by t ys)) (rows_quiet t xs h) (λ ys k. tree_quiet (term.list t) ys refl k)

list_as_quiet : (o : Option Shape) (xs : List (Term × Shape)) → AllQuiet xs → Made TreeQuiet (list_as o xs)
list_as_quiet None xs h = tt
list_as_quiet (Some (tables cs)) xs h = tt
list_as_quiet (Some blanks) xs h = rows_made blanks xs h
list_as_quiet (Some numbers) xs h = rows_made numbers xs h
list_as_quiet (Some texts) xs h = rows_made texts xs h
list_as_quiet (Some booleans) xs h = rows_made booleans xs h
list_as_quiet (Some dates) xs h = rows_made dates xs h
list_as_quiet (Some (records cs)) xs h = rows_made (records cs) xs h

list_quiet : (xs : List (Term × Shape)) → AllQuiet xs → Made TreeQuiet (typed_list xs)
list_quiet [] h = bounded_quiet (list_as (Some (records no_columns)) []) (list_as_quiet (Some (records no_columns)) [] h)
list_quiet (x ∷ xs) h =
    let joined = join_all (Some blanks) (x ∷ xs) in
    bounded_quiet (list_as joined (x ∷ xs)) (list_as_quiet joined (x ∷ xs) h)

pub table_quiet : (xs : List (Term × Shape)) → AllQuiet xs → Made TreeQuiet (typed_table xs)
table_quiet xs h =
    let joined = join_all (Some (records no_columns)) xs in
    then_quiet TreeQuiet TreeQuiet (list_as joined xs) (λ y. Ok (as_table_call y)) (list_as_quiet joined xs h)
    (λ y k. tree_quiet (term.call fun.Table) (y ∷ []) refl (k, tt))

-- calls
as_record_quiet : (c : Term) (t : Shape) → deeds.acts c ≡ false → Made (λ k. deeds.acts k ≡ false) (as_record (c, t))
as_record_quiet c (records cs) h = h
as_record_quiet c blanks h = one_quiet (term.coerce (records no_columns)) c refl h
as_record_quiet c t h = tt

with_quiet : (xs : List (Term × Shape)) → AllQuiet xs → Made TreeQuiet (with_of xs)
with_quiet (r ∷ f ∷ []) h =
    then_quiet (λ k. deeds.acts k ≡ false) TreeQuiet (as_record r) (λ c. Ok (of within (cons c (cons f.0 nil)), f.1)) (as_record_quiet r.0 r.1 h.0)
    (λ c k. tree_quiet within ((c, blanks) ∷ f ∷ []) refl (k, h.1))
with_quiet xs h = tt

made_literal_quiet : (f : Fun) (qs : List JudgedPart) → EachQuiet qs → Made TreeQuiet (made_literal f (pieces qs))
made_literal_quiet f qs h =
    if_quiet TreeQuiet (nat_le (length (pieces qs)) (row_of f).most) _ _ (made_quiet f (pieces qs) (pieces_quiet qs h))
    (if_quiet TreeQuiet (nat_eq (length (pieces qs)) (suc (row_of f).most)) _ _
    (made_if_quiet (function_by f (literal_in (drop (row_of f).most (pieces qs)))) (take (row_of f).most (pieces qs))
    (take_quiet (row_of f).most (pieces qs) (pieces_quiet qs h))) tt)

by_columns_quiet : (o : Option (Target × Shape)) (go : ColumnList → Result (Term × Shape) ℕ) → ((cs : ColumnList) → Made TreeQuiet (go cs)) → Made TreeQuiet (by_columns o go)
by_columns_quiet (Some r) go h = by_shape r.0 r.1
  where
    by_shape : (t : Target) (u : Shape) → Made TreeQuiet (by_columns (Some (t, u)) go)
    by_shape t (tables cs) = h cs
    by_shape t blanks = h no_columns
    by_shape t u = tt
by_columns_quiet None go h = tt

by_name_quiet : (qs : List JudgedPart) (go : List ℕ → List JudgedPart → Result (Term × Shape) ℕ) → ((x : List ℕ) (rs : List JudgedPart) → Made TreeQuiet (go x rs)) → Made TreeQuiet (by_first_name qs go)
by_name_quiet (target None x ∷ qs) go h = h x qs
by_name_quiet qs go h = tt

made_or_lowest_quiet : (f : Fun) (qs : List JudgedPart) → EachQuiet qs → Made TreeQuiet (made_or_lowest f qs)
made_or_lowest_quiet f qs h =
    let one = unless_quiet TreeQuiet (mistells f qs) 6 (node_made f (pieces qs)) (made_quiet f (pieces qs) (pieces_quiet qs h)) in
    unless_quiet TreeQuiet (is_some (taken_at f qs)) 5 (unless_rule (mistells f qs) 6 (node_made f (pieces qs))) one

called_by_quiet : (p : Place) (s : Setting) (k : SigShape) (qs : List JudgedPart) → may_act s.grant ≡ false → EachQuiet qs → Made TreeQuiet (called_by p s k qs)
called_by_quiet p s (sig.One f) qs e h = made_or_lowest_quiet f qs h
called_by_quiet p s (sig.Either f g) qs e h = made_quiet (pick f g qs) (pieces qs) (pieces_quiet qs h)
called_by_quiet p s (sig.Literal f) qs e h = made_literal_quiet f qs h
called_by_quiet p s (sig.Form f) qs e h = formed_quiet f (pieces qs) (pieces_quiet qs h)
called_by_quiet p s sig.With qs e h = then_quiet AllQuiet TreeQuiet (values qs) with_of (values_quiet qs h) (λ xs k. with_quiet xs k)
called_by_quiet p s sig.Table qs e h = then_quiet AllQuiet TreeQuiet (values qs) typed_table (values_quiet qs h) (λ xs k. table_quiet xs k)
called_by_quiet p s sig.Today qs e h = refl
called_by_quiet p s sig.Defaults qs e h = by_name_quiet qs (defaults_of p.names) (λ x rs. by_columns_quiet (rows_named p.names x) (λ cs. Ok (blank_record cs)) (λ cs. refl))
called_by_quiet p s (sig.Act a) qs e h = unless_refuses TreeQuiet (may_act s.grant) 9 (unless_rule (not (could_act a qs)) 6 (acted_by p a qs)) e

called_with_quiet : (p : Place) (s : Setting) (o : Option Signature) (qs : List JudgedPart) → may_act s.grant ≡ false → EachQuiet qs → Made TreeQuiet (called_with p s o qs)
called_with_quiet p s (Some f) qs e h =
    if_quiet TreeQuiet (is_arity f.least f.most (length qs)) (bounded (called_by p s f.shape qs)) (Err 7)
    (bounded_quiet (called_by p s f.shape qs) (called_by_quiet p s f.shape qs e h)) tt
called_with_quiet p s None qs e h = tt

paired_quiet : (o : Op) (xs : List (Term × Shape)) (qs : List JudgedPart) → EachQuiet qs → Made TreeQuiet (paired_by o xs (pieces qs))
paired_quiet o (x ∷ y ∷ []) qs h = made_if_quiet (function_of o x.1 y.1) (pieces qs) (pieces_quiet qs h)
paired_quiet o xs qs h = tt

woven_quiet : (qs : List JudgedPart) → EachQuiet qs → Made TreeQuiet (woven_by qs)
woven_quiet [] h = refl
woven_quiet (q ∷ qs) h = made_quiet fun.Concatenation (pieces (q ∷ qs)) (pieces_quiet (q ∷ qs) h)

-- the local rule
any_values : (qs : List JudgedPart) → EachQuiet qs → Made AllQuiet (values qs)
any_values qs h = values_quiet qs h

admit_quiet : (p : Place) (s : Setting) (h : Head) (qs : List JudgedPart) → may_do s.grant ≡ false → EachQuiet qs → Made PartQuiet (admit p s h qs)
admit_quiet p s (tree.num z) [] e k = refl
admit_quiet p s (tree.num z) (q ∷ qs) e k = tt
admit_quiet p s (tree.text cs) [] e k = refl
admit_quiet p s (tree.text cs) (q ∷ qs) e k = tt
admit_quiet p s (tree.truth b) [] e k = refl
admit_quiet p s (tree.truth b) (q ∷ qs) e k = tt
admit_quiet p s (tree.name x) [] e k = name_by_quiet s.grant x (meaning_of p s.scopes s.catches x) (meaning_quiet p s.scopes s.catches x)
admit_quiet p s (tree.name x) (q ∷ qs) e k = tt
admit_quiet p s (tree.global x) [] e k = global_by_quiet s.grant x (in_globals p.names x) (in_globals_quiet p.names x)
admit_quiet p s (tree.global x) (q ∷ qs) e k = tt
admit_quiet p s (tree.dot x) qs e k = as_part_quiet (dot_by p x qs) (dot_by_quiet p x qs k)
admit_quiet p s (tree.call x) qs e k =
    as_part_quiet (unless_rule (is_too_deep p s (tree.call x) qs) 13 (called p s x qs)) (
    unless_quiet TreeQuiet (is_too_deep p s (tree.call x) qs) 13 (called p s x qs)
    (called_with_quiet p s (signature_in p.names.signatures.now (encode_utf8_all x)) qs (act_of s.grant e) k)
    )
admit_quiet p s tree.neg qs e k = as_part_quiet _ (made_quiet fun.Negate (pieces qs) (pieces_quiet qs k))
admit_quiet p s tree.opposite qs e k = as_part_quiet _ (made_quiet fun.Not (pieces qs) (pieces_quiet qs k))
admit_quiet p s tree.percent qs e k = as_part_quiet _ (made_quiet fun.Percent (pieces qs) (pieces_quiet qs k))
admit_quiet p s (tree.pair o) qs e k =
    as_part_quiet _ (then_quiet AllQuiet TreeQuiet (values qs) (λ xs. paired_by o xs (pieces qs)) (any_values qs k) (λ xs m. paired_quiet o xs qs k))
admit_quiet p s tree.joined qs e k = as_part_quiet _ (made_quiet fun.Concatenation (pieces qs) (pieces_quiet qs k))
admit_quiet p s tree.all qs e k = as_part_quiet _ (formed_quiet form.All (pieces qs) (pieces_quiet qs k))
admit_quiet p s tree.any qs e k = as_part_quiet _ (formed_quiet form.Any (pieces qs) (pieces_quiet qs k))
admit_quiet p s tree.chain qs e k = as_part_quiet _ (unless_refuses TreeQuiet (may_act s.grant) 9 (and_then (values qs) chain_by) (act_of s.grant e))
admit_quiet p s (tree.alias x) qs e k = alias_by_quiet s.grant x qs k
admit_quiet p s (tree.rec ns ps) qs e k = then_quiet AllQuiet PartQuiet (values qs) (record_as s.grant ns) (any_values qs k) (λ xs m. record_as_quiet s.grant ns xs m)
admit_quiet p s tree.list qs e k = as_part_quiet _ (then_quiet AllQuiet TreeQuiet (values qs) typed_list (any_values qs k) (λ xs m. list_quiet xs m))
admit_quiet p s tree.woven qs e k = as_part_quiet (woven_by qs) (woven_quiet qs k)

-- the parts of a node that may not act may not act
abbrev pub Calm : ArgumentRule → Type 0
Calm l = may_do l.grant ≡ false

pub calm_takes : (k : Takes) → may_do (grant_of false k) ≡ false
calm_takes takes.Table = refl
calm_takes k = refl

pub calm_either : (f g : Fun) (n : ℕ) (done : List JudgedPart) → Calm (plan_either false f g n done)
calm_either f g n [] = refl
calm_either f g n (q ∷ qs) = calm_takes (takes_at (row_of (pick f g (q ∷ qs))) n (length (q ∷ qs)))

pub calm_literal : (f : Fun) (n i : ℕ) → Calm (plan_literal false f n i)
calm_literal f n i = by_test (nat_lt i (row_of f).most)
  where
    by_test : (b : Bool) → Calm (if b then plan_by_row false (row_of f) n i else argument_rule plain nothing)
    by_test true = calm_takes (takes_at (row_of f) n i)
    by_test false = refl

pub calm_with : (i : ℕ) → Calm (plan_with false i)
calm_with zero = refl
calm_with (suc i) = refl

pub calm_first : (g : Grant) (st : PartScope) (h : Grant) (i : ℕ) → may_do g ≡ false → may_do h ≡ false → Calm (first_then g st h i)
calm_first g st h zero e k = e
calm_first g st h (suc i) e k = k

pub calm_act : (a : Acting) (i : ℕ) → Calm (plan_act false a i)
calm_act acts.Set i = calm_first _ _ _ i refl refl
calm_act acts.UpdateContext i = calm_first _ _ _ i refl refl
calm_act acts.Collect i = calm_first _ _ _ i refl refl
calm_act acts.RemoveIf i = calm_first _ _ _ i refl refl
calm_act acts.UpdateIf i = calm_first _ _ _ i refl refl
calm_act acts.Notify i = refl
calm_act acts.Clear i = calm_first _ _ _ i refl refl
calm_act acts.ClearCollect i = calm_first _ _ _ i refl refl
calm_act acts.Patch i = calm_first _ _ _ i refl refl
calm_act acts.Remove i = calm_first _ _ _ i refl refl
calm_act acts.Navigate i = calm_first _ _ _ i refl refl
calm_act acts.Reset i = calm_first _ _ _ i refl refl

pub calm_call : (o : Option SigShape) (n : ℕ) (done : List JudgedPart) → Calm (plan_call false o n done)
calm_call (Some (sig.One f)) n done = calm_takes (takes_at (row_of f) n (length done))
calm_call (Some (sig.Either f g)) n done = calm_either f g n done
calm_call (Some (sig.Literal f)) n done = calm_literal f n (length done)
calm_call (Some (sig.Form f)) n done = calm_takes (takes_at (form_row f) n (length done))
calm_call (Some sig.With) n done = calm_with (length done)
calm_call (Some sig.Defaults) n done = calm_first _ _ _ (length done) refl refl
calm_call (Some (sig.Act a)) n done = calm_act a (length done)
calm_call (Some sig.Table) n done = refl
calm_call (Some sig.Today) n done = refl
calm_call None n done = refl

pub calm_alias : (g : Grant) → may_do (alias_grant g) ≡ false
calm_alias aliased_target = refl
calm_alias g = refl

pub calm_field : (g : Grant) → may_do g ≡ false → may_do (field_grant g) ≡ false
calm_field (on_screen true) e = absurd cc
calm_field (on_screen false) e = refl
calm_field g e = refl

pub calm_at : (m : Names) (g : Grant) (h : Head) (n : ℕ) (done : List JudgedPart) → may_do g ≡ false → Calm (plan_at m g h n done)
calm_at m g (tree.dot x) n done e = act_of g e
calm_at m g (tree.call x) n done e = subst (λ b. Calm (plan_call b (called_as m x) n done)) (sym (act_of g e)) (calm_call (called_as m x) n done)
calm_at m g tree.chain n done e = subst (λ b. may_do (if_acting b) ≡ false) (sym (act_of g e)) refl
calm_at m g (tree.alias x) n done e = calm_alias g
calm_at m g (tree.rec ns ps) n done e = calm_field g e
calm_at m g h n done e = refl

-- a formula that may not act doesn't
both_quiet : (done : List JudgedPart) (q : JudgedPart) → EachQuiet done → PartQuiet q → EachQuiet (done ++ q ∷ [])
both_quiet [] q h k = (k, tt)
both_quiet (d ∷ done) q h k = (h.0, both_quiet done q h.1 k)

mutual
  pub judged_quiet : (p : Place) (s : Setting) (e : Tree) (q : JudgedPart) → may_do s.grant ≡ false → judge p s e ≡ Ok q → PartQuiet q
  judged_quiet p s (node at h ts) q g e =
      let a = onward_ok (judge_parts p s h (part_count ts) [] ts) (λ qs. at_node at (admit p s h qs)) q e in
      let k = at_node_ok at (admit p s h a.0) q a.2 in
      subst (Made PartQuiet) k (admit_quiet p s h a.0 g (parts_quiet p s h (part_count ts) [] ts a.0 g tt a.1))

  pub parts_quiet : (p : Place) (s : Setting) (h : Head) (n : ℕ) (done : List JudgedPart) (ts : Forest) (qs : List JudgedPart) → may_do s.grant ≡ false → EachQuiet done →
      judge_parts p s h n done ts ≡ Ok qs → EachQuiet qs
  parts_quiet p s h n done none qs g d e = let k : done ≡ qs = cc in subst EachQuiet k d
  parts_quiet p s h n done (more t ts) qs g d e =
      let a = onward_ok (judge p (setting_at p.names s h n done) t) (λ q. judge_parts p s h n (done ++ q ∷ []) ts) qs e in
      let one = judged_quiet p (setting_at p.names s h n done) t a.0 (calm_at p.names s.grant h n done g) a.1 in
      parts_quiet p s h n (done ++ a.0 ∷ []) ts qs g (both_quiet done a.0 d one) a.2

wanted_quiet : (w : Option Shape) (c : Term) (t : Shape) → deeds.acts c ≡ false → Made TreeQuiet (to_wanted w (c, t))
wanted_quiet None c t h = h
wanted_quiet (Some (tables no_columns)) c (tables cs) h = h
wanted_quiet (Some u) c t h = by_way_quiet (way t u) c u h

whole_part_quiet : (w : Option Shape) (q : JudgedPart) → PartQuiet q → Made TreeQuiet (whole_argument w q)
whole_part_quiet w (piece (value a c t)) h = wanted_quiet w c t h
whole_part_quiet w q h = tt

-- THE law: a whole formula whose place doesn't act has no acting part
pub whole_quiet : (p : Place) (w : Option Shape) (e : Tree) (x : Term × Shape) → judge_whole p false w e ≡ Ok x → deeds.acts x.0 ≡ false
whole_quiet p w e x h =
    let a = onward_ok (judge p (outermost_setting false) e) (λ q. at_node (position e) (whole_argument w q)) x h in
    let k = at_node_ok (position e) (whole_argument w a.0) x a.2 in
    subst (Made TreeQuiet) k (whole_part_quiet w a.0 (judged_quiet p (outermost_setting false) e a.0 refl a.1))
