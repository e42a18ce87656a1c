-- A code of the trees, by which proofs tell them apart.
use Rattle.std.specs.Prelude.{◌≡◌, refl, ℕ, zero, suc, true, false, List, [], ◌∷◌}
use Rattle.std.proofs.Common.{ap}
use Rattle.std.specs.Coded.{Coded, code_by, coded_list, coded×, coded_ℕ}
use base.Stored.{Gv, gnil, gnum, gcons}
use denote.Struct.Codes.{itself}
use Rattle.fx_core.specs.Tree.{Tree, NamedTree, node, Forest, none, more, Head}
use Rattle.fx_core.specs.Tree as tree
use Rattle.fx_core.specs.declared.expr.FieldName.{FieldName}
use Rattle.fx_core.specs.declared.expr.Op.{Op}
use Rattle.fx_core.specs.declared.expr.Op.TheVariants as op
use Rattle.fx_types.specs.ValueCode.{text_back, to_int, of_text, int_back, to_text, of_int}

abbrev pub of_texts : List (List ℕ) → Gv
of_texts [] = gnil
of_texts (x ∷ xs) = gcons (of_text x) (of_texts xs)

abbrev pub to_texts : Gv → List (List ℕ)
to_texts (gcons x xs) = to_text x ∷ to_texts xs
to_texts _ = []

pub texts_back : (xs : List (List ℕ)) → to_texts (of_texts xs) ≡ xs
texts_back [] = refl
texts_back (x ∷ xs) = λ i. text_back x i ∷ texts_back xs i

abbrev pub of_op : Op → Gv
of_op op.Add = gnum 0
of_op op.Sub = gnum 1
of_op op.Mul = gnum 2
of_op op.Div = gnum 3
of_op op.Pow = gnum 4
of_op op.Eq = gcons gnil (gnum 0)
of_op op.Ne = gcons gnil (gnum 1)
of_op op.Lt = gcons gnil (gnum 2)
of_op op.Le = gcons gnil (gnum 3)
of_op op.Gt = gcons gnil (gnum 4)
of_op op.Ge = gcons gnil (gnum 5)
of_op op.In = gnil
of_op op.ExactIn = gcons gnil gnil

abbrev pub to_op : Gv → Op
to_op (gnum zero) = op.Add
to_op (gnum (suc zero)) = op.Sub
to_op (gnum (suc (suc zero))) = op.Mul
to_op (gnum (suc (suc (suc zero)))) = op.Div
to_op (gnum (suc (suc (suc (suc n))))) = op.Pow
to_op (gcons _ (gnum zero)) = op.Eq
to_op (gcons _ (gnum (suc zero))) = op.Ne
to_op (gcons _ (gnum (suc (suc zero)))) = op.Lt
to_op (gcons _ (gnum (suc (suc (suc zero))))) = op.Le
to_op (gcons _ (gnum (suc (suc (suc (suc zero)))))) = op.Gt
to_op (gcons _ (gnum (suc (suc (suc (suc (suc n))))))) = op.Ge
to_op (gcons _ gnil) = op.ExactIn
to_op _ = op.In

pub op_back : (o : Op) → to_op (of_op o) ≡ o
op_back op.Add = refl
op_back op.Sub = refl
op_back op.Mul = refl
op_back op.Div = refl
op_back op.Pow = refl
op_back op.Eq = refl
op_back op.Ne = refl
op_back op.Lt = refl
op_back op.Le = refl
op_back op.Gt = refl
op_back op.Ge = refl
op_back op.In = refl
op_back op.ExactIn = refl

-- heads without a text are numbers; the others are a number and what they hold
abbrev pub of_head : Head → Gv
of_head tree.neg = gnum 0
of_head tree.opposite = gnum 1
of_head tree.percent = gnum 2
of_head tree.joined = gnum 3
of_head tree.all = gnum 4
of_head tree.any = gnum 5
of_head tree.chain = gnum 6
of_head tree.list = gnum 7
of_head tree.woven = gnum 8
of_head (tree.truth true) = gnum 9
of_head (tree.truth false) = gnum 10
of_head (tree.num z) = gcons (gnum 0) (of_int z)
of_head (tree.text cs) = gcons (gnum 1) (of_text cs)
of_head (tree.name cs) = gcons (gnum 2) (of_text cs)
of_head (tree.global cs) = gcons (gnum 3) (of_text cs)
of_head (tree.dot cs) = gcons (gnum 4) (of_text cs)
of_head (tree.call cs) = gcons (gnum 5) (of_text cs)
of_head (tree.alias cs) = gcons (gnum 6) (of_text cs)
of_head (tree.rec xs ps) = gcons (gnum 7) (gcons (of_texts xs) (of_text ps))
of_head (tree.pair o) = gcons gnil (of_op o)

abbrev to_plain : ℕ → Head
to_plain zero = tree.neg
to_plain (suc zero) = tree.opposite
to_plain (suc (suc zero)) = tree.percent
to_plain (suc (suc (suc zero))) = tree.joined
to_plain (suc (suc (suc (suc zero)))) = tree.all
to_plain (suc (suc (suc (suc (suc zero))))) = tree.any
to_plain (suc (suc (suc (suc (suc (suc zero)))))) = tree.chain
to_plain (suc (suc (suc (suc (suc (suc (suc zero))))))) = tree.list
to_plain (suc (suc (suc (suc (suc (suc (suc (suc zero)))))))) = tree.woven
to_plain (suc (suc (suc (suc (suc (suc (suc (suc (suc zero))))))))) = tree.truth true
to_plain (suc (suc (suc (suc (suc (suc (suc (suc (suc (suc n)))))))))) = tree.truth false

abbrev to_record : Gv → Head
to_record (gcons xs ps) = tree.rec (to_texts xs) (to_text ps)
to_record _ = tree.list

abbrev to_holding : ℕ → Gv → Head
to_holding zero g = tree.num (to_int g)
to_holding (suc zero) g = tree.text (to_text g)
to_holding (suc (suc zero)) g = tree.name (to_text g)
to_holding (suc (suc (suc zero))) g = tree.global (to_text g)
to_holding (suc (suc (suc (suc zero)))) g = tree.dot (to_text g)
to_holding (suc (suc (suc (suc (suc zero))))) g = tree.call (to_text g)
to_holding (suc (suc (suc (suc (suc (suc zero)))))) g = tree.alias (to_text g)
to_holding (suc (suc (suc (suc (suc (suc (suc n))))))) g = to_record g

abbrev pub to_head : Gv → Head
to_head (gnum n) = to_plain n
to_head (gcons (gnum n) g) = to_holding n g
to_head (gcons _ g) = tree.pair (to_op g)
to_head _ = tree.list

pub head_back : (h : Head) → to_head (of_head h) ≡ h
head_back tree.neg = refl
head_back tree.opposite = refl
head_back tree.percent = refl
head_back tree.joined = refl
head_back tree.all = refl
head_back tree.any = refl
head_back tree.chain = refl
head_back tree.list = refl
head_back tree.woven = refl
head_back (tree.truth true) = refl
head_back (tree.truth false) = refl
head_back (tree.num z) = ap tree.num (int_back z)
head_back (tree.text cs) = ap tree.text (text_back cs)
head_back (tree.name cs) = ap tree.name (text_back cs)
head_back (tree.global cs) = ap tree.global (text_back cs)
head_back (tree.dot cs) = ap tree.dot (text_back cs)
head_back (tree.call cs) = ap tree.call (text_back cs)
head_back (tree.alias cs) = ap tree.alias (text_back cs)
head_back (tree.rec xs ps) = λ i. tree.rec (texts_back xs i) (text_back ps i)
head_back (tree.pair o) = ap tree.pair (op_back o)

abbrev mutual
  pub of_tree : Tree → Gv
  of_tree (node at h ts) = gcons (gnum at) (gcons (of_head h) (of_forest ts))

  pub of_forest : Forest → Gv
  of_forest none = gnil
  of_forest (more t ts) = gcons (of_tree t) (of_forest ts)

abbrev mutual
  pub to_tree : Gv → Tree
  to_tree (gcons (gnum at) (gcons h ts)) = node at (to_head h) (to_forest ts)
  to_tree _ = node 0 tree.list none

  pub to_forest : Gv → Forest
  to_forest (gcons t ts) = more (to_tree t) (to_forest ts)
  to_forest _ = none

mutual
  pub tree_back : (t : Tree) → to_tree (of_tree t) ≡ t
  tree_back (node at h ts) = λ i. node at (head_back h i) (forest_back ts i)

  pub forest_back : (ts : Forest) → to_forest (of_forest ts) ≡ ts
  forest_back none = refl
  forest_back (more t ts) = λ i. more (tree_back t i) (forest_back ts i)

abbrev pub tree_code : Coded Tree
tree_code = code_by Gv itself of_tree to_tree tree_back

abbrev pub trees_code : Coded (List Tree)
trees_code = coded_list tree_code

abbrev name_code : Coded FieldName
name_code = code_by (List ℕ × ℕ) (coded× (coded_list coded_ℕ) coded_ℕ) (λ f. (f.text, f.at))
    (λ p. record { text = p.0; at = p.1 }) (λ f. refl)

abbrev pub tree_fields_code : Coded (List NamedTree)
tree_fields_code = coded_list (coded× name_code tree_code)
