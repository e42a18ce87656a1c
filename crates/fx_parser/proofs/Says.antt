-- The text of every tree that a parse gives is read as that tree, up to positions.
use Rattle.std.proofs.Common.{◌≡◌, ℕ, ◌+◌, ◌<◌, ◌≤◌, ℤ, pos, Bool, true, false, List, [], ◌∷◌, ◌++◌, cond, refl, sym, ◌∙◌, subst, Option, Some, arith, eqb, append-nil, append_assoc}
use Rattle.fx_lexer.specs.declared.token.Symbol.TheVariants as symbol
use Rattle.fx_lexer.specs.declared.token.Word.{Word}
use Rattle.fx_lexer.specs.declared.token.Word.TheVariants as word
use Rattle.fx_lexer.specs.declared.token.TokenKind.TheVariants as kind
use Rattle.fx_lexer.specs.declared.element.Element.TheVariants.{Token}
use Rattle.fx_lexer.specs.declared.element.Enclosing.{Enclosing}
use Rattle.fx_lexer.specs.declared.element.Enclosing.TheVariants as around
use Rattle.fx_lexer.specs.declared.element.Mode.TheVariants.{Formula}
use Rattle.fx_lexer.specs.Spelling.{word_spelling}
use Rattle.fx_lexer.specs.Lexed.{Lexeme, width, mode_in}
use Rattle.fx_core.specs.Tree.{Tree, node, Head, Forest, none, more, forest, tree_field_names, field_trees}
use Rattle.fx_core.specs.Tree as tree
use Rattle.fx_grammar.specs.declared.item.Item.{Item}
use Rattle.fx_grammar.specs.declared.item.Meaning.TheVariants as m
use Rattle.fx_grammar.specs.declared.line.Join.TheVariants as join
use Rattle.fx_grammar.specs.declared.line.Separator.{Separator}
use Rattle.fx_grammar.specs.declared.line.Separator.TheVariants.{Between, Comma}
use Rattle.fx_grammar.specs.declared.line.Left.TheVariants as left
use Rattle.fx_grammar.specs.declared.line.Line.{Line}
use Rattle.fx_grammar.specs.declared.line.Line.TheVariants.{Chain, Several, By, Prefix, Percent, Access}
use Rattle.fx_grammar.specs.Means.{between_quotes, item, TokenMeans, AllMean, no_more, one_more}
use Rattle.fx_grammar.specs.Means as means
use Rattle.fx_grammar.specs.Grammar.{part_of}
use Rattle.fx_parser.specs.Printing.{left_line, right_line, name_text, line_of, printed_within, is_text, and_text, or_text, cat_text, comma_text, chain_text, shown, shown_parts, shown_further, shown_fields, shown_further_fields, shown_strands}
use Rattle.std.proofs.lemmas.Fmt.{decimal_is_IsNumeral}
use Rattle.std.proofs.lemmas.Str.{digit_value_digit}
use Rattle.std.specs.Char.{digit_value}
use Rattle.std.specs.List.{list_all}
use Rattle.std.specs.Str.Parse.{AllDigits}
use Rattle.std.proofs.Common.{◌/◌, ◌%◌, decimal}
use Rattle.fx_number.specs.Decimal.{greatest}
use Rattle.fx_number.specs.Spelling.{IsDecimal, decimal_units, magnitude_text, without_end_zeros, four_digits}
use Rattle.fx_number.specs.Reading.{spelled}
use Rattle.fx_number.proofs.Decimals.{signed-in_range}
use Rattle.fx_number.proofs.Written.{Spells-text_of, Spells-decimal}
use Rattle.fx_number.proofs.LeftToRight.{spelled-Spells}
use Rattle.fx_lexer.proofs.Follows.{number_before}
use Rattle.fx_grammar.specs.Grammar.{bare}
use Rattle.fx_grammar.specs.Formulas.{HasTree}
use Rattle.fx_parser.specs.SameTree.{HasTreeLike}
use Rattle.fx_parser.specs.Fewest.{tokens_weight, AreTokensOf}
use Rattle.fx_parser.proofs.Ahead.{Rest, tok, at_end, token_then, in_formula, word_then, name_then, text_then, Safe, safe_end, safe_comma}
use Rattle.fx_parser.proofs.Weights.{between_count, weight, weight_parts, weight_further, weight_strands}
use Rattle.fx_parser.proofs.Steps.{Speaks, loosened, highest, within_is, leaf_is, pair_is, sign_is, percent_is, dot_is, alias_is, global_is}
use Rattle.fx_parser.proofs.Forms.{SpeaksOn, SpeaksArgs, SpeaksOnFields, SpeaksFields, Divides, commas, semicolons, ands, ors, cats, no_more_is, more_is, parts_is, several_is, no_args_is, some_args_is, call_is, list_is, no_more_fields_is, more_fields_is, no_fields_is, some_fields_is, record_is}
use Rattle.fx_parser.proofs.Weaves.{SpeaksStrands, no_strands_is, strand_of, strand_is, IsLeafText, woven_is}
use Rattle.fx_parser.proofs.Proper.{Proper, proper_number, proper_text, proper_truth, proper_name, proper_global, proper_dot, proper_call, proper_neg, proper_opposite, proper_percent, proper_pair, proper_joined, proper_no_all, proper_one_all, proper_all, proper_no_any, proper_one_any, proper_any, proper_chain, proper_alias, proper_record, proper_list, proper_woven, AllProper, proper_none, proper_more, ProperFields, proper_no_fields, proper_more_fields, all_good, formula_proper}

-- numbers
digit_written : (d : ℕ) → d < 10 → digit_value (48 + d) ≡ d
digit_written d h =
    let written = digit_value_digit (48 + d) (omega arith, omega arith) in
    omega (arith, written)

no_zeros_by : (d : ℕ) (ds : List ℕ) (b : Bool) → digit_value d < 10 → AllDigits 10 (without_end_zeros ds) → AllDigits 10 (cond b [] (d ∷ without_end_zeros ds))
no_zeros_by d ds true h k = tt
no_zeros_by d ds false h k = (h, k)

pub no_zeros : (ds : List ℕ) → AllDigits 10 ds → AllDigits 10 (without_end_zeros ds)
no_zeros [] h = tt
no_zeros (d ∷ ds) h = no_zeros_by d ds (list_all (λ c. eqb c 48) (d ∷ ds)) h.0 (no_zeros ds h.1)

four_are_digits : (f : ℕ) → f < 10000 → AllDigits 10 (four_digits f)
four_are_digits f h =
    rw (digit_written (f / 1000) (omega arith), digit_written (f / 100 % 10) (omega arith), digit_written (f / 10 % 10) (omega arith), digit_written (f % 10) (omega arith))
    (omega arith, (omega arith, (omega arith, (omega arith, tt))))

abbrev pub fraction_of : ℕ → List ℕ
fraction_of n = without_end_zeros (four_digits (n % 10000))

pub is_decimal : (n : ℕ) → n ≤ greatest → IsDecimal (magnitude_text n) (decimal (n / 10000)) (fraction_of n)
is_decimal n h = record { has_whole = (decimal_is_IsNumeral (n / 10000) (omega arith)).0; has_fraction = no_zeros (four_digits (n % 10000)) (four_are_digits (n % 10000) (omega arith)); is_text = refl }

units_are : (n : ℕ) → n ≤ greatest → decimal_units (decimal (n / 10000)) (fraction_of n) ≡ n
units_are n h =
    let u = decimal_units (decimal (n / 10000)) (fraction_of n) in
    let a : spelled (magnitude_text n) ≡ Some (pos u) = spelled-Spells (magnitude_text n) (pos u) (Spells-decimal (magnitude_text n) (decimal (n / 10000)) (fraction_of n) (is_decimal n h)) in
    let b : spelled (magnitude_text n) ≡ Some (pos n) = spelled-Spells (magnitude_text n) (pos n) (Spells-text_of (pos n) (signed-in_range false n h)) in
    let e : ◌≡◌ {A = Option ℤ} (Some (pos u)) (Some (pos n)) = sym a ∙ b in
    cc

number_then : (es : List Enclosing) (n : ℕ) (k : List ℕ) (i : ℕ → List Item) → n ≤ greatest → mode_in es ≡ Formula → Safe k → Rest es k i
    → Rest es (magnitude_text n ++ k) (λ at. tok kind.Number (magnitude_text n) (m.Number (pos n)) at ∷ i (at + width (magnitude_text n)))
number_then es n k i h e s r =
    let d = is_decimal n h in
    let u = units_are n h in
    token_then es es kind.Number (magnitude_text n) k (m.Number (pos n)) i
    (in_formula es (Token kind.Number) (magnitude_text n) k e (number_before (magnitude_text n) (decimal (n / 10000)) (fraction_of n) k d (pos n, Spells-text_of (pos n) (signed-in_range false n h), signed-in_range false n h) s.number))
    refl
    (λ at.
    let l : Lexeme = record { kind = kind.Number; at = at; text = magnitude_text n } in
    subst (λ x. TokenMeans l (item l (m.Number (pos x)))) u (means.number l (decimal (n / 10000)) (fraction_of n) refl d (subst (λ x. x ≤ greatest) (sym u) h)))
    r

-- what stands between parts may follow a formula
further_safe : (s : Separator) (between : List ℕ) (es : List Enclosing) → Divides s between es → (l : Line) (ts : Forest) (k : List ℕ) → Safe k → Safe (shown_further between l ts ++ k)
further_safe s b es d l none k h = h
further_safe s b es d l (more t ts) k h = subst Safe (sym (append_assoc b (printed_within l t (shown t) ++ shown_further b l ts) k)) (d.safe ((printed_within l t (shown t) ++ shown_further b l ts) ++ k))

fields_safe : {ns : List (List ℕ)} {ts : Forest} → ProperFields ns ts → (k : List ℕ) → Safe k → Safe (shown_further_fields ns ts ++ k)
fields_safe proper_no_fields k h = h
fields_safe (proper_more_fields cs ns t ts g p q) k h = safe_comma _

leaf_text : {t : Tree} → Proper t → IsLeafText t
leaf_text (proper_number a n h) = tt
leaf_text (proper_text a cs) = refl
leaf_text (proper_truth a b) = tt
leaf_text (proper_name a cs h) = tt
leaf_text (proper_global a cs h) = tt
leaf_text (proper_dot a cs t h p) = tt
leaf_text (proper_call a cs ts h p) = tt
leaf_text (proper_neg a t p) = tt
leaf_text (proper_opposite a t p) = tt
leaf_text (proper_percent a t p) = tt
leaf_text (proper_pair a o t u p q) = tt
leaf_text (proper_joined a t u us p q) = tt
leaf_text (proper_no_all a) = tt
leaf_text (proper_one_all a t p) = tt
leaf_text (proper_all a t u us p q) = tt
leaf_text (proper_no_any a) = tt
leaf_text (proper_one_any a t p) = tt
leaf_text (proper_any a t u us p q) = tt
leaf_text (proper_chain a t u us p q) = tt
leaf_text (proper_alias a cs t h p) = tt
leaf_text (proper_record a ns ps ts p) = tt
leaf_text (proper_list a ts p) = tt
leaf_text (proper_woven a ts p) = tt

abbrev called : List Enclosing → Word → List ℕ → Type 0
called es w cs = (n : ℕ → List Item) → Safe cs → Rest es cs n → Rest es (word_spelling w ++ cs) (λ at. tok (kind.Word w) (word_spelling w) (m.Word w) at ∷ n (at + width (word_spelling w)))

by_word : (w : Word) (es : List Enclosing) → mode_in es ≡ Formula → (cs : List ℕ) → called es w cs
by_word w es e cs n s r = word_then w es cs n e s.name r

mutual
  pub says : {t : Tree} → Proper t → (es : List Enclosing) → mode_in es ≡ Formula → Speaks (λ i j. weight i j t) (line_of t) es (shown t) t
  says (proper_number a n h) es e = λ k i s r. leaf_is es (magnitude_text n ++ k) a (tree.num (pos n)) kind.Number (magnitude_text n) (m.Number (pos n)) i refl (number_then es n k i h e s r)
  says (proper_text a cs) es e = λ k i s r. leaf_is es (between_quotes 34 cs ++ k) a (tree.text cs) kind.Text (between_quotes 34 cs) (m.Text cs) i refl (text_then es cs k i e s r)
  says (proper_truth a true) es e = λ k i s r. leaf_is es (word_spelling word.True ++ k) a (tree.truth true) (kind.Word word.True) (word_spelling word.True) (m.Word word.True) i refl (word_then word.True es k i e s.name r)
  says (proper_truth a false) es e = λ k i s r. leaf_is es (word_spelling word.False ++ k) a (tree.truth false) (kind.Word word.False) (word_spelling word.False) (m.Word word.False) i refl (word_then word.False es k i e s.name r)
  says (proper_name a [] h) es e = absurd h
  says (proper_name a (c ∷ cs) h) es e = λ k i s r. leaf_is es (name_text (c ∷ cs) ++ k) a (tree.name (c ∷ cs)) kind.Name (name_text (c ∷ cs)) (m.Name (c ∷ cs)) i refl (name_then es c cs k i e s r)
  says (proper_global a [] h) es e = absurd h
  says (proper_global a (c ∷ cs) h) es e = global_is es a c cs e
  says (proper_dot a [] t h p) es e = absurd h
  says (proper_dot a (c ∷ cs) t h p) es e = dot_is es a c cs (printed_within Access t (shown t)) t e (within_is Access es t e (says p es e))
  says (proper_call a [] ts h p) es e = absurd h
  says (proper_call a (c ∷ cs) ts h p) es e = call_is es a kind.Name (name_text (c ∷ cs)) (m.Name (c ∷ cs)) (tree.call (c ∷ cs)) (shown_parts comma_text Chain ts) ts e refl (λ k n s r. name_then es c cs k n e s r) (says_args p es e)
  says (proper_neg a t p) es e = sign_is symbol.Minus tree.neg es a (printed_within Prefix t (shown t)) t e refl refl (λ cs. tt) (within_is Prefix es t e (says p es e))
  says (proper_opposite a t p) es e = sign_is symbol.Bang tree.opposite es a (printed_within Prefix t (shown t)) t e refl refl (λ cs. tt) (within_is Prefix es t e (says p es e))
  says (proper_percent a t p) es e = percent_is es a (printed_within Percent t (shown t)) t e (within_is Percent es t e (says p es e))
  says (proper_pair a o t u p q) es e = pair_is o es a (printed_within (left_line o) t (shown t)) (printed_within (right_line o) u (shown u)) t u e (within_is (left_line o) es t e (says p es e)) (within_is (right_line o) es u e (says q es e))
  says (proper_joined a t u us p q) es e = several_is join.Cat es a (shown_parts cat_text (By left.Sum) (more t (more u us))) t u us (parts_is (Between join.Cat) es (printed_within (By left.Sum) t (shown t)) (shown_further cat_text (By left.Sum) (more u us)) t (more u us) (further_safe (Between join.Cat) cat_text es (cats es e) (By left.Sum) (more u us)) (within_is (By left.Sum) es t e (says p es e)) (says_on q (Between join.Cat) cat_text es e (cats es e)))
  says (proper_no_all a) es e = call_is es a (kind.Word word.And) (word_spelling word.And) (m.Word word.And) tree.all [] none e refl (by_word word.And es e) (no_args_is es)
  says (proper_one_all a t p) es e = call_is es a (kind.Word word.And) (word_spelling word.And) (m.Word word.And) tree.all (shown_parts comma_text Chain (more t none)) (more t none) e refl (by_word word.And es e) (says_args p es e)
  says (proper_all a t u us p q) es e = several_is join.And es a (shown_parts and_text (By left.Member) (more t (more u us))) t u us (parts_is (Between join.And) es (printed_within (By left.Member) t (shown t)) (shown_further and_text (By left.Member) (more u us)) t (more u us) (further_safe (Between join.And) and_text es (ands es e) (By left.Member) (more u us)) (within_is (By left.Member) es t e (says p es e)) (says_on q (Between join.And) and_text es e (ands es e)))
  says (proper_no_any a) es e = call_is es a (kind.Word word.Or) (word_spelling word.Or) (m.Word word.Or) tree.any [] none e refl (by_word word.Or es e) (no_args_is es)
  says (proper_one_any a t p) es e = call_is es a (kind.Word word.Or) (word_spelling word.Or) (m.Word word.Or) tree.any (shown_parts comma_text Chain (more t none)) (more t none) e refl (by_word word.Or es e) (says_args p es e)
  says (proper_any a t u us p q) es e = several_is join.Or es a (shown_parts or_text (Several join.And) (more t (more u us))) t u us (parts_is (Between join.Or) es (printed_within (Several join.And) t (shown t)) (shown_further or_text (Several join.And) (more u us)) t (more u us) (further_safe (Between join.Or) or_text es (ors es e) (Several join.And) (more u us)) (within_is (Several join.And) es t e (says p es e)) (says_on q (Between join.Or) or_text es e (ors es e)))
  says (proper_chain a t u us p q) es e = several_is join.Chain es a (shown_parts chain_text (Several join.Or) (more t (more u us))) t u us (parts_is (Between join.Chain) es (printed_within (Several join.Or) t (shown t)) (shown_further chain_text (Several join.Or) (more u us)) t (more u us) (further_safe (Between join.Chain) chain_text es (semicolons es e) (Several join.Or) (more u us)) (within_is (Several join.Or) es t e (says p es e)) (says_on q (Between join.Chain) chain_text es e (semicolons es e)))
  says (proper_alias a [] t h p) es e = absurd h
  says (proper_alias a (c ∷ cs) t h p) es e = alias_is es a c cs (printed_within Prefix t (shown t)) t e (within_is Prefix es t e (says p es e))
  says (proper_record a ns ps ts p) es e = record_is es a (shown_fields ns ts) ns ps ts e (says_fields p (around.Brace ∷ es) refl)
  says (proper_list a ts p) es e = list_is es a (shown_parts comma_text Chain ts) ts e (says_args p es e)
  says (proper_woven a ts p) es e = woven_is es a (shown_strands false ts) ts e (says_strands p false es)

  says_on : {ts : Forest} → AllProper ts → (s : Separator) (between : List ℕ) (es : List Enclosing) → mode_in es ≡ Formula → Divides s between es → SpeaksOn (λ i j. weight_further i j (between_count j s) (part_of s) ts) s es (shown_further between (part_of s) ts) ts
  says_on proper_none s b es e d = no_more_is s es
  says_on (proper_more t ts p q) s b es e d = more_is s b es (printed_within (part_of s) t (shown t)) (shown_further b (part_of s) ts) t ts d (further_safe s b es d (part_of s) ts) (within_is (part_of s) es t e (says p es e)) (says_on q s b es e d)

  says_args : {ts : Forest} → AllProper ts → (es : List Enclosing) → mode_in es ≡ Formula → SpeaksArgs (λ i j. weight_parts i j j Chain ts) es (shown_parts comma_text Chain ts) ts
  says_args proper_none es e = no_args_is es
  says_args (proper_more t ts p q) es e = some_args_is es (shown_parts comma_text Chain (more t ts)) (more t ts) (parts_is Comma es (printed_within Chain t (shown t)) (shown_further comma_text Chain ts) t ts (further_safe Comma comma_text es (commas es e) Chain ts) (within_is Chain es t e (says p es e)) (says_on q Comma comma_text es e (commas es e)))

  says_fields : {ns : List (List ℕ)} {ts : Forest} → ProperFields ns ts → (es : List Enclosing) → mode_in es ≡ Formula → SpeaksFields (λ i j. weight_parts i j j (Several join.Or) ts) es (shown_fields ns ts) ns ts
  says_fields proper_no_fields es e = no_fields_is es
  says_fields (proper_more_fields [] ns t ts g p q) es e = absurd g
  says_fields (proper_more_fields (c ∷ cs) ns t ts g p q) es e = some_fields_is es c cs (printed_within (Several join.Or) t (shown t)) (shown_further_fields ns ts) ns t ts e (fields_safe q) (within_is (Several join.Or) es t e (says p es e)) (says_on_fields q es e)

  says_on_fields : {ns : List (List ℕ)} {ts : Forest} → ProperFields ns ts → (es : List Enclosing) → mode_in es ≡ Formula → SpeaksOnFields (λ i j. weight_further i j j (Several join.Or) ts) es (shown_further_fields ns ts) ns ts
  says_on_fields proper_no_fields es e = no_more_fields_is es
  says_on_fields (proper_more_fields [] ns t ts g p q) es e = absurd g
  says_on_fields (proper_more_fields (c ∷ cs) ns t ts g p q) es e = more_fields_is es c cs (printed_within (Several join.Or) t (shown t)) (shown_further_fields ns ts) ns t ts e (fields_safe q) (within_is (Several join.Or) es t e (says p es e)) (says_on_fields q es e)

  says_strands : {ts : Forest} → AllProper ts → (after : Bool) (es : List Enclosing) → SpeaksStrands (λ i j. weight_strands i j ts) es (shown_strands after ts) ts
  says_strands proper_none b es = no_strands_is es
  says_strands (proper_more t ts p q) b es = strand_is es b t ts (strand_of b t) (leaf_text p) (says p (around.Brace ∷ around.Weave ∷ es) refl) (says_strands q (is_text t) es)

-- The text of a proper tree is a formula of that tree, up to positions, with so many brackets and commas.
pub record Shown (t : Tree) : Type 0 where
  pub items : List Item
  pub tokens : AreTokensOf (shown t) items t
  pub counted : (i j : ℕ) → tokens_weight i j items ≡ weight i j t

pub shown_is : (t : Tree) → Proper t → Shown t
shown_is t p =
    let x = loosened Chain (line_of t) [] (shown t ++ []) t (λ at. []) (highest (line_of t)) (says p [] refl [] (λ at. []) safe_end (at_end [])) in
    let r = x.rest 0 in
    let g = x.told 0 in
    let h : AreTokensOf (shown t ++ []) (x.items 0) t = ((r.lexemes, (r.marks, r.upto, r.reads), r.mean), g.depth, g.seen, g.same, (g.depth, omega arith, bare (x.items 0) g.depth g.seen g.parses)) in
    record {
      items = x.items 0;
      tokens = subst (λ cs. AreTokensOf cs (x.items 0) t) (append-nil (shown t)) h;
      counted = λ i j. let c = g.counted i j in omega (arith, c);
    }

pub proper_of : (n : ℕ) (cs : List ℕ) (t : Tree) → HasTree n cs t → Proper t
proper_of n cs t h =
    let i = h.1 in
    let l = i.1 in
    formula_proper h.2.2 (all_good l.2 i.2 refl)

pub round_trip : (n : ℕ) (cs : List ℕ) (t : Tree) → HasTree n cs t → HasTreeLike (shown t) t
round_trip n cs t h =
    let x = shown_is t (proper_of n cs t h) in
    let k = x.tokens in
    (k.1, k.2, k.3, (x.items, k.0, k.4))
