-- The tree of a formula that is evaluated: it reads no more than the formula's, and is as lawful.
use Rattle.std.proofs.Common.{ℕ, suc, List, [], ◌∷◌, Bool, true, false, not, Option, Some, None, inl, inr}
use Rattle.std.specs.Prelude.{◌&&◌}
use Rattle.app_semantics.proofs.Typings.{among_either}
use Rattle.fx_plan.specs.Sites.{terms_count, deeper, is_first, is_query, opens_row_scope}
use Rattle.filter_parts.specs.Splits.{marked, split_with, unmarked}
use Rattle.fx_semantics.specs.Sound.{AreLawfulTrees, IsLawfulTree}
use Rattle.fx_core.specs.Reads.{IsAmong, read_by, sources_among, sources_in}
use Rattle.fx_core.specs.Term.{Term, Terms, of, nil, cons, Top}
use Rattle.fx_core.specs.Term as top
use Rattle.fx_core.specs.declared.functions.Fun.{Fun}
use Rattle.fx_core.specs.declared.schema.TableShape.{TableShape}
use Rattle.fx_core.specs.declared.sources.Source.{Source}
use Rattle.fx_semantics.proofs.Wider.{among_left, among_right}
use Rattle.fx_plan.specs.Limited.{first_rows_of, limited, over_first, parts_limited, taken_as, takes_first_whole}
use Rattle.fx_plan.specs.Mixed.{MixOf, mix_of}

-- ---- what is read

first_reads : (n : ℕ) (t : Term) (x : Source) → IsAmong x (sources_in (first_rows_of n t)) → IsAmong x (sources_in t)
first_reads n t x a = elim (among_either x (sources_in t) [] a) [ inl h ↦ h | inr h ↦ absurd h ]

marked_reads : (bs : List Bool) (cs : Terms) (x : Source) → IsAmong x (sources_among (marked bs cs)) → IsAmong x (sources_among cs)
marked_reads [] cs x a = absurd a
marked_reads (true ∷ bs) nil x a = a
marked_reads (false ∷ bs) nil x a = a
marked_reads (true ∷ bs) (cons c cs) x a =
    elim (among_either x (sources_in c) (sources_among (marked bs cs)) a) [
      | inl own ↦ among_left x (sources_in c) (sources_among cs) own
      | inr later ↦ among_right x (sources_in c) (sources_among cs) (marked_reads bs cs x later)
    ]
marked_reads (false ∷ bs) (cons c cs) x a = among_right x (sources_in c) (sources_among cs) (marked_reads bs cs x a)

unmarked_reads : (bs : List Bool) (cs : Terms) (x : Source) → IsAmong x (sources_among (unmarked bs cs)) → IsAmong x (sources_among cs)
unmarked_reads [] cs x a = absurd a
unmarked_reads (true ∷ bs) nil x a = a
unmarked_reads (false ∷ bs) nil x a = a
unmarked_reads (false ∷ bs) (cons c cs) x a =
    elim (among_either x (sources_in c) (sources_among (unmarked bs cs)) a) [
      | inl own ↦ among_left x (sources_in c) (sources_among cs) own
      | inr later ↦ among_right x (sources_in c) (sources_among cs) (unmarked_reads bs cs x later)
    ]
unmarked_reads (true ∷ bs) (cons c cs) x a = among_right x (sources_in c) (sources_among cs) (unmarked_reads bs cs x a)

-- a split call reads what the call reads
call_reads : (n : ℕ) (f : Fun) (q : Term) (bs : List Bool) (cs : Terms) (x : Source) →
    IsAmong x (sources_in (over_first n (split_with bs (of (top.over f) (cons q cs))))) → IsAmong x (sources_in (of (top.over f) (cons q cs)))
call_reads n f q bs cs x a =
    let inner : Term = of (top.over f) (cons q (marked bs cs)) in
    elim (among_either x (sources_in (first_rows_of n inner)) (sources_among (unmarked bs cs)) a) [
      | inl first ↦ elim (among_either x (sources_in q) (sources_among (marked bs cs)) (first_reads n inner x first)) [
        | inl own ↦ among_left x (sources_in q) (sources_among cs) own
        | inr chosen ↦ among_right x (sources_in q) (sources_among cs) (marked_reads bs cs x chosen)
      ]
      | inr others ↦ among_right x (sources_in q) (sources_among cs) (unmarked_reads bs cs x others)
    ]

alone_reads : (n : ℕ) (t : Term) (x : Source) → IsAmong x (sources_in (over_first n (t, nil))) → IsAmong x (sources_in t)
alone_reads n t x a = elim (among_either x (sources_in (first_rows_of n t)) [] a) [ inl h ↦ first_reads n t x h | inr h ↦ absurd h ]

split_reads : (n : ℕ) (bs : List Bool) (t : Term) (x : Source) → IsAmong x (sources_in (over_first n (split_with bs t))) → IsAmong x (sources_in t)
split_reads n bs (of (top.over f) (cons q cs)) x a = call_reads n f q bs cs x a
split_reads n bs t x a = alone_reads n t x a

taken_reads : (n : ℕ) (o : Option MixOf) (cut : Bool) (t : Term) (x : Source) → IsAmong x (sources_in (taken_as n o cut t)) → IsAmong x (sources_in t)
taken_reads n (Some m) cut t x a = split_reads n m.marks t x a
taken_reads n None true t x a = first_reads n t x a
taken_reads n None false t x a = a

-- ---- what is lawful

first_lawful : (n : ℕ) (t : Term) → IsLawfulTree t → IsLawfulTree (first_rows_of n t)
first_lawful n t h = (tt, (h, ((tt, tt), tt)))

marked_lawful : (bs : List Bool) (cs : Terms) → AreLawfulTrees cs → AreLawfulTrees (marked bs cs)
marked_lawful [] cs h = tt
marked_lawful (true ∷ bs) nil h = tt
marked_lawful (false ∷ bs) nil h = tt
marked_lawful (true ∷ bs) (cons c cs) h = (h.0, marked_lawful bs cs h.1)
marked_lawful (false ∷ bs) (cons c cs) h = marked_lawful bs cs h.1

unmarked_lawful : (bs : List Bool) (cs : Terms) → AreLawfulTrees cs → AreLawfulTrees (unmarked bs cs)
unmarked_lawful [] cs h = tt
unmarked_lawful (true ∷ bs) nil h = tt
unmarked_lawful (false ∷ bs) nil h = tt
unmarked_lawful (true ∷ bs) (cons c cs) h = unmarked_lawful bs cs h.1
unmarked_lawful (false ∷ bs) (cons c cs) h = (h.0, unmarked_lawful bs cs h.1)

split_lawful : (n : ℕ) (bs : List Bool) (t : Term) → IsLawfulTree t → IsLawfulTree (over_first n (split_with bs t))
split_lawful n bs (of (top.over f) (cons q cs)) h =
    (tt, (first_lawful n (of (top.over f) (cons q (marked bs cs))) (tt, (h.1.0, marked_lawful bs cs h.1.1)), unmarked_lawful bs cs h.1.1))
split_lawful n bs t h = (tt, (first_lawful n t h, tt))

taken_lawful : (n : ℕ) (o : Option MixOf) (cut : Bool) (t : Term) → IsLawfulTree t → IsLawfulTree (taken_as n o cut t)
taken_lawful n (Some m) cut t h = split_lawful n m.marks t h
taken_lawful n None true t h = first_lawful n t h
taken_lawful n None false t h = h

module _ (ts : List TableShape) (n : ℕ) where
  mutual
    pub limited_reads : (k : ℕ) (w : Bool) (t : Term) (x : Source) → IsAmong x (sources_in (limited ts n k w t)) → IsAmong x (sources_in t)
    limited_reads k w (of h cs) x a =
        let first = takes_first_whole ts k (of h cs) in
        let parts : Terms = parts_limited ts n k h (terms_count cs) first 0 cs in
        elim (among_either x (read_by h) (sources_among parts) (taken_reads n (mix_of ts k (of h cs)) (is_query ts k (of h cs) && not w) (of h parts) x a)) [
          | inl own ↦ among_left x (read_by h) (sources_among cs) own
          | inr below ↦ among_right x (read_by h) (sources_among cs) (parts_read k h (terms_count cs) first 0 cs x below)
        ]

    parts_read : (k : ℕ) (h : Top) (m : ℕ) (w : Bool) (i : ℕ) (cs : Terms) (x : Source) → IsAmong x (sources_among (parts_limited ts n k h m w i cs)) → IsAmong x (sources_among cs)
    parts_read k h m w i nil x a = a
    parts_read k h m w i (cons c cs) x a =
        let part : Term = limited ts n (deeper (opens_row_scope h m i) k) (w && is_first i) c in
        elim (among_either x (sources_in part) (sources_among (parts_limited ts n k h m w (suc i) cs)) a) [
          | inl own ↦ among_left x (sources_in c) (sources_among cs) (limited_reads (deeper (opens_row_scope h m i) k) (w && is_first i) c x own)
          | inr later ↦ among_right x (sources_in c) (sources_among cs) (parts_read k h m w (suc i) cs x later)
        ]

  mutual
    pub limited_lawful : (k : ℕ) (w : Bool) (t : Term) → IsLawfulTree t → IsLawfulTree (limited ts n k w t)
    limited_lawful k w (of h cs) l =
        let first = takes_first_whole ts k (of h cs) in
        taken_lawful n (mix_of ts k (of h cs)) (is_query ts k (of h cs) && not w) (of h (parts_limited ts n k h (terms_count cs) first 0 cs)) (l.0, parts_lawful k h (terms_count cs) first 0 cs l.1)

    parts_lawful : (k : ℕ) (h : Top) (m : ℕ) (w : Bool) (i : ℕ) (cs : Terms) → AreLawfulTrees cs → AreLawfulTrees (parts_limited ts n k h m w i cs)
    parts_lawful k h m w i nil l = tt
    parts_lawful k h m w i (cons c cs) l = (limited_lawful (deeper (opens_row_scope h m i) k) (w && is_first i) c l.0, parts_lawful k h m w (suc i) cs l.1)
