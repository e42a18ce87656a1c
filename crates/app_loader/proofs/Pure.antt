-- Formulas that don't act, by their typed trees.
use Rattle.std.proofs.Common.{◌≡◌, false}
use Rattle.std.proofs.lemmas.Bool.{or_parts}
use Rattle.fx_semantics.specs.Sound.{AreLawfulTrees, IsLawfulTree, NamesLawful}
use Rattle.fx_core.specs.Term.{Term, Terms, of, nil, cons, Top, list, coerce, chain, act}
use Rattle.fx_typing.specs.Acts.{acts, any_acts, is_acting}
use Rattle.fx_semantics.specs.NamedTypes.{HasLawfulTypes, HaveLawfulTypes, NamesLawfulType}

top_lawful : (h : Top) → NamesLawfulType h → is_acting h ≡ false → NamesLawful h
top_lawful (list u) t q = t
top_lawful (coerce u) t q = t
top_lawful chain t q = absurd cc
top_lawful (act d) t q = absurd cc
top_lawful h t q = tt

mutual
  -- a tree whose types are lawful and which doesn't act is lawful
  pub tree_lawful : (t : Term) → HasLawfulTypes t → acts t ≡ false → IsLawfulTree t
  tree_lawful (of h ts) t q =
      let quiet = or_parts (is_acting h) (any_acts ts) q in
      (top_lawful h t.0 quiet.0, trees_lawful ts t.1 quiet.1)

  trees_lawful : (ts : Terms) → HaveLawfulTypes ts → any_acts ts ≡ false → AreLawfulTrees ts
  trees_lawful nil t q = tt
  trees_lawful (cons k ks) t q =
      let quiet = or_parts (acts k) (any_acts ks) q in
      (tree_lawful k t.0 quiet.0, trees_lawful ks t.1 quiet.1)
