-- The comparisons among conjuncts, one conjunct after another.
use Rattle.std.proofs.Common.{◌≡◌, ℕ, zero, suc, ◌+◌, ◌<◌, List, [], ◌∷◌, ◌++◌, length, get_or, take, sym, ap, ◌∙◌, subst, arith, Bool, Option}
use Rattle.std.proofs.lemmas.List.{take_more, append_assoc, append-nil}
use Rattle.fx_types.specs.Types.{Shape}
use Rattle.fx_plan.specs.declared.ranges.Span.{Span}
use Rattle.fx_plan.proofs.SpanLaws.{join_spans, take_first, take_second}
use Rattle.fx_plan.specs.Ranges.{AllTaken, Comparison, all_comparisons, comparisons}
use Rattle.fx_plan.specs.Spans.{IsSpanOf, joined_spans}
use Rattle.row_queries.specs.Conditions.{Condition, condition_list}

-- each is taken
pub taken_part : (t : Shape) (k : ℕ) (cs : List Condition) (i : ℕ) (c : Condition) → i < length cs → c ≡ get_or cs i c → AllTaken t (all_comparisons k (condition_list cs)) → AllTaken t (comparisons k c)
taken_part t k [] i c l e h = absurd (omega (arith, l))
taken_part t k (d ∷ cs) zero c l e h = subst (λ (x : Condition). AllTaken t (comparisons k x)) (sym e) (take_first t (comparisons k d) (all_comparisons k (condition_list cs)) h)
taken_part t k (d ∷ cs) (suc i) c l e h = taken_part t k cs i c (omega (arith, l)) e (take_second t (comparisons k d) (all_comparisons k (condition_list cs)) h)

more : (k : ℕ) (cs : List Condition) (c : Condition) → all_comparisons k (condition_list (cs ++ c ∷ [])) ≡ all_comparisons k (condition_list cs) ++ comparisons k c
more k [] c = append-nil (comparisons k c)
more k (d ∷ cs) c = ap (λ us. comparisons k d ++ us) (more k cs c) ∙ sym (append_assoc (comparisons k d) (all_comparisons k (condition_list cs)) (comparisons k c))

-- the span with one conjunct more
pub span_more : (n : Bool) (k : ℕ) (cs : List Condition) (i : ℕ) (c : Condition) (found next now : Option Span) → i < length cs → c ≡ get_or cs i c →
    IsSpanOf n found (all_comparisons k (condition_list (take i cs))) → IsSpanOf n next (comparisons k c) → now ≡ joined_spans found next →
    IsSpanOf n now (all_comparisons k (condition_list (take (i + 1) cs)))
span_more n k cs i c found next now l e h g q =
    let longer : take (i + 1) cs ≡ take i cs ++ c ∷ [] = take_more cs i c l ∙ ap (λ x. take i cs ++ x ∷ []) (sym e) in
    let both : all_comparisons k (condition_list (take (i + 1) cs)) ≡ all_comparisons k (condition_list (take i cs)) ++ comparisons k c =
    ap (λ xs. all_comparisons k (condition_list xs)) longer ∙ more k (take i cs) c in
    subst (λ (s : Option Span). IsSpanOf n s (all_comparisons k (condition_list (take (i + 1) cs)))) (sym q)
    (subst (λ (ps : List Comparison). IsSpanOf n (joined_spans found next) ps) (sym both)
    (join_spans n found next (all_comparisons k (condition_list (take i cs))) (comparisons k c) h g))
