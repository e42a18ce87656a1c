use Rattle.fx_grammar.proofs.Meanings.{one_list, one_items, one_tree_of}
use Rattle.fx_grammar.proofs.text_laws.one_tree_of_a_text.Goals as goal

pub returns : goal.returns
returns c = record {
  meanings = λ ls xs ys p q. one_list p ys q;
  items = λ cs xs ys p q. one_items cs xs ys p q;
  trees = λ cs n m t u p q. one_tree_of cs n m t u p q;
}
