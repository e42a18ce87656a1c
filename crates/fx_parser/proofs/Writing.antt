-- What is written, in characters.
use Rattle.std.proofs.Common.{eqb, eqb-true, ◌≡◌, ℕ, ◌<◌, ◌≤◌, ◌+◌, Bool, true, false, ◌&&◌, List, [], ◌∷◌, ◌++◌, length, drop, get_or, refl, ap, sym, ◌∙◌, encode_utf8_all}
use Rattle.std.specs.Str.{chars, IsAscii, IsUtf8}
use Rattle.std.proofs.lemmas.Str.{chars-append, chars-IsAscii, chars-nil}
use Rattle.std.proofs.lemmas.List.{at_drop_more, at_drop_all}
use Rattle.fx_lexer.specs.Spelling.{in_name}
use Rattle.std.proofs.Common.{ℤ, pos, negsuc, zero, suc, ◌/◌, arith, decimal}
use Rattle.std.proofs.lemmas.Fmt.{IsAscii-decimal, IsAscii-from_digits}
use Rattle.std.proofs.lemmas.Str.{IsAscii-append}
use Rattle.std.proofs.lemmas.Str.Ascii.{IsAscii-nil, IsAscii-from_all}
use Rattle.std.proofs.lemmas.Int.{ints}
use Rattle.fx_number.specs.Decimal.{greatest, IsInRange}
use Rattle.fx_number.specs.Spelling.{text_of, magnitude_text, point_and}
use Rattle.fx_core.specs.Tree.{Tree, NamedTree, forest, tree_field_names, field_trees}
use Rattle.fx_grammar.specs.declared.line.Line.{Line}
use Rattle.fx_grammar.specs.declared.line.Line.TheVariants.{Several}
use Rattle.fx_grammar.specs.declared.line.Join.TheVariants as join
use Rattle.fx_parser.proofs.Says.{is_decimal, fraction_of}
use Rattle.fx_parser.specs.Printing.{all_in_name, is_several, printed_within, is_text, printed_piece, strand_text, comma_text, label_text, shown, shown_further, shown_further_fields, shown_strands}

pub appended : (old new text : List ℕ) → IsUtf8 old → new ≡ old ++ text → chars new ≡ chars old ++ chars text
appended old new text u e = ap chars e ∙ chars-append old text u

pub appended_ascii : (old new text : List ℕ) → IsUtf8 old → IsAscii text → new ≡ old ++ text → chars new ≡ chars old ++ text
appended_ascii old new text u a e = appended old new text u e ∙ ap (λ x. chars old ++ x) (chars-IsAscii text a)

-- each character passes
pub names_more : (cs : List ℕ) (i d : ℕ) → i < length cs → all_in_name (drop i cs) ≡ (in_name (get_or cs i d) && all_in_name (drop (i + 1) cs))
names_more cs i d h = at_drop_more all_in_name cs i d h

pub names_end : (cs : List ℕ) (i : ℕ) → length cs ≤ i → all_in_name (drop i cs) ≡ true
names_end cs i h = at_drop_all all_in_name cs i h

-- parts that are still to be written
pub further_more : (b : List ℕ) (l : Line) (ps : List Tree) (i : ℕ) (d : Tree) → i < length ps
    → shown_further b l (forest (drop i ps)) ≡ b ++ (printed_within l (get_or ps i d) (shown (get_or ps i d)) ++ shown_further b l (forest (drop (i + 1) ps)))
further_more b l ps i d h = at_drop_more (λ xs. shown_further b l (forest xs)) ps i d h

pub further_end : (b : List ℕ) (l : Line) (ps : List Tree) (i : ℕ) → length ps ≤ i → shown_further b l (forest (drop i ps)) ≡ []
further_end b l ps i h = at_drop_all (λ xs. shown_further b l (forest xs)) ps i h

pub fields_more : (fs : List NamedTree) (i : ℕ) (d : NamedTree) → i < length fs
    → shown_further_fields (tree_field_names (drop i fs)) (field_trees (drop i fs)) ≡ comma_text ++ (label_text (get_or fs i d).0.text ++ (printed_within (Several join.Or) (get_or fs i d).1 (shown (get_or fs i d).1) ++ shown_further_fields (tree_field_names (drop (i + 1) fs)) (field_trees (drop (i + 1) fs))))
fields_more fs i d h = at_drop_more (λ xs. shown_further_fields (tree_field_names xs) (field_trees xs)) fs i d h

pub fields_end : (fs : List NamedTree) (i : ℕ) → length fs ≤ i → shown_further_fields (tree_field_names (drop i fs)) (field_trees (drop i fs)) ≡ []
fields_end fs i h = at_drop_all (λ xs. shown_further_fields (tree_field_names xs) (field_trees xs)) fs i h

pub strands_more : (after : Bool) (ps : List Tree) (i : ℕ) (d : Tree) → i < length ps
    → shown_strands after (forest (drop i ps)) ≡ strand_text (printed_piece after (get_or ps i d)) (shown (get_or ps i d)) ++ shown_strands (is_text (get_or ps i d)) (forest (drop (i + 1) ps))
strands_more after ps i d h = at_drop_more (λ xs. shown_strands after (forest xs)) ps i d h

pub strands_end : (after : Bool) (ps : List Tree) (i : ℕ) → length ps ≤ i → shown_strands after (forest (drop i ps)) ≡ []
strands_end after ps i h = at_drop_all (λ xs. shown_strands after (forest xs)) ps i h

-- two parts or more
pub several_long : (ps : List Tree) → 1 < length ps → true ≡ is_several (forest ps)
several_long [] h = absurd (omega arith)
several_long (p ∷ []) h = absurd (omega arith)
several_long (p ∷ q ∷ ps) h = refl

pub several_short : (ps : List Tree) → length ps < 2 → false ≡ is_several (forest ps)
several_short [] h = refl
several_short (p ∷ []) h = refl
several_short (p ∷ q ∷ ps) h = absurd (omega arith)

-- the text of a number is ASCII
all_one : (c : ℕ) → c < 128 → (k d : ℕ) → k < length (c ∷ []) → get_or (c ∷ []) k d < 128
all_one c h zero d l = h
all_one c h (suc k) d l = absurd (omega arith)

ascii_mark : (c : ℕ) (cs : List ℕ) → c < 128 → IsAscii cs → IsAscii (c ∷ cs)
ascii_mark c cs h a = IsAscii-append (c ∷ []) cs (IsAscii-from_all (c ∷ []) (all_one c h)) a

ascii_point : (ds : List ℕ) → IsAscii ds → IsAscii (point_and ds)
ascii_point [] a = IsAscii-nil
ascii_point (d ∷ ds) a = ascii_mark 46 (d ∷ ds) (omega arith) a

ascii_magnitude : (n : ℕ) → n ≤ greatest → IsAscii (magnitude_text n)
ascii_magnitude n h = IsAscii-append (decimal (n / 10000)) (point_and (fraction_of n)) (IsAscii-decimal (n / 10000) (omega arith)) (ascii_point (fraction_of n) (IsAscii-from_digits (fraction_of n) (is_decimal n h).has_fraction))

pub ascii_number : (z : ℤ) → IsInRange z → IsAscii (text_of z)
ascii_number (pos n) h = ascii_magnitude n (grind (arith, ints))
ascii_number (negsuc n) h = ascii_mark 45 (magnitude_text (suc n)) (omega arith) (ascii_magnitude (suc n) (grind (arith, ints)))

-- a text is empty where its bytes are
pub empty_is : (bs cs : List ℕ) → chars bs ≡ cs → bs ≡ [] → cs ≡ []
empty_is bs cs e f = sym e ∙ ap chars f ∙ chars-nil

pub empty_bytes : (bs cs : List ℕ) → bs ≡ encode_utf8_all cs → cs ≡ [] → bs ≡ []
empty_bytes bs cs e f = e ∙ ap encode_utf8_all f

pub length_none : (bs : List ℕ) → eqb (length bs) 0 ≡ true → bs ≡ []
length_none [] e = refl
length_none (c ∷ bs) e = let h = eqb-true (length (c ∷ bs)) 0 e in absurd (omega arith)

pub none_length : (bs : List ℕ) → bs ≡ [] → eqb (length bs) 0 ≡ true
none_length bs e = ap (λ x. eqb (length x) 0) e
