-- What stands at the front, in terms of the readings.
use Rattle.std.proofs.Common.{◌≡◌, ℕ, suc, ◌+◌, ◌<◌, ◌≤◌, length, add-one, subst, List, [], ◌∷◌, Option, Some, None, refl, ap, sym, ◌∙◌}
use Rattle.fx_core.specs.Tree.{Tree, Head, node, more, none}
use Rattle.fx_core.specs.Tree as tree
use Rattle.fx_grammar.specs.declared.item.Item.{Item}
use Rattle.fx_grammar.specs.declared.line.Mark.TheVariants as mark
use Rattle.fx_grammar.specs.Reading.{◌>>=◌, Parsed, tail_turn, after_mark, name_after, field_in_front, percent_at, alias_at}
use Rattle.fx_grammar.proofs.Turns.{Comes, tail_goes}

pub dot_found : (rest : List Item) (cs : List ℕ) (us : List Item) → Some (cs, us) ≡ name_after mark.Dot rest → field_in_front rest ≡ Some (tree.dot cs, us)
dot_found rest cs us e = ap (λ v. v >>= λ x. Some (tree.dot x.0, x.1)) (sym e)

pub dot_none : (rest : List Item) → None ≡ name_after mark.Dot rest → field_in_front rest ≡ None
dot_none rest e = ap (λ v. v >>= λ x. Some (tree.dot x.0, x.1)) (sym e)

pub percent_found : (rest us : List Item) → Some us ≡ after_mark mark.Percent rest → percent_at rest ≡ Some (tree.percent, us)
percent_found rest us e = ap (λ v. v >>= λ us. Some (tree.percent, us)) (sym e)

pub percent_none : (rest : List Item) → None ≡ after_mark mark.Percent rest → percent_at rest ≡ None
percent_none rest e = ap (λ v. v >>= λ us. Some (tree.percent, us)) (sym e)

pub dots_go : (n at : ℕ) (w : Option (Parsed Tree)) (t : Tree) (d : ℕ) (rest : List Item) (cs : List ℕ) (us : List Item) (u : Tree) (ds : List ℕ) → Comes (tail_turn n at field_in_front) w (t, d, rest) → Some (cs, us) ≡ name_after mark.Dot rest → length us < length rest → d < n
    → ds ≡ cs → u ≡ node at (tree.dot ds) (more t none) → Comes (tail_turn n at field_in_front) w (u, d + 1, us)
dots_go n at w t d rest cs us u ds c e i b f g =
    let v : u ≡ node at (tree.dot cs) (more t none) = g ∙ ap (λ x. node at (tree.dot x) (more t none)) f in
    subst (λ (s : Parsed Tree). Comes (tail_turn n at field_in_front) w s) (λ i. (sym v i, sym (add-one d) i, us)) (tail_goes n at field_in_front w t d rest (tree.dot cs) us c (dot_found rest cs us e) i b)
