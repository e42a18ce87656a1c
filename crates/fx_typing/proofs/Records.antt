-- Records, lists and chains are well typed.
use Rattle.std.proofs.Common.{◌≡◌, ℕ, suc, List, [], ◌∷◌, Bool, true, false, length, Option, Some, None, Ok, Err, Ordering, Less, Equal, Greater, nat_cmp, refl, ap, subst, ◌∙◌, if◌then◌else◌}
use Rattle.std.specs.Cmp.Lexicographic.{slice_cmp, nat_list_cmp_total}
use Rattle.std.specs.Ordering.{match_ordering, ordering_reverse}
use Rattle.fx_types.specs.Rising.{IsBelow}
use Rattle.fx_types.specs.Types.{Shape, blanks, records, no_columns}
use Rattle.fx_core.specs.Term.{Term, of, all, chain}
use Rattle.fx_core.specs.Term as term
use Rattle.fx_typing.specs.Local.{join_all, firsts}
use Rattle.fx_typing.specs.WellTyped.{Context, IsBelowNames, NamesRise, columns_by, last_type}
use Rattle.fx_typing.proofs.Rules.{Typed}
use Rattle.fx_typing.specs.Builds.{list_as, bounded, put_field, put_fields, field_names, field_parts, types_of, are_names_distinct, record_by, typed_record, typed_list}
use Rattle.fx_typing.specs.Typing.{chain_as, chain_by}
use Rattle.fx_typing.proofs.Built.{bounded_ok, list_as_typed}
use Rattle.fx_typing.proofs.Frame.{AllTyped}
use Rattle.fx_typing.proofs.Steps.{typed_by}
use Rattle.fx_typing.proofs.Quiet.{Fields}

-- names that rise, as fields are put at their places
below_further : (n m : List ℕ) (ns : List (List ℕ)) → IsBelow n m → IsBelowNames m ns → IsBelowNames n ns
below_further n m [] h k = tt
below_further n m (l ∷ ns) h k = (nat_list_cmp_total.trans n m l h k.0, below_further n m ns h k.1)

under_put : (m n : List ℕ) (x : Term × Shape) (fs : Fields) → IsBelow m n → IsBelowNames m (field_names fs) → IsBelowNames m (field_names (put_field n x fs))
under_put m n x [] h k = (h, tt)
under_put m n x (f ∷ fs) h k = by_order (slice_cmp nat_cmp n f.0) (under_put m n x fs h k.1)
  where
    by_order : (o : Ordering) → IsBelowNames m (field_names (put_field n x fs)) →
        IsBelowNames m (field_names (match_ordering o ((n, x) ∷ f ∷ fs) ((n, x) ∷ fs) (f ∷ put_field n x fs)))
    by_order Less more = (h, k)
    by_order Equal more = (h, k.1)
    by_order Greater more = (k.0, more)

turned : (m n : List ℕ) → slice_cmp nat_cmp m n ≡ Greater → IsBelow n m
turned m n e = nat_list_cmp_total.antisymm n m ∙ ap ordering_reverse e

same_below : (m n : List ℕ) (ns : List (List ℕ)) → slice_cmp nat_cmp m n ≡ Equal → IsBelowNames n ns → IsBelowNames m ns
same_below m n [] e k = tt
same_below m n (l ∷ ns) e k = (nat_list_cmp_total.congr m n l e ∙ k.0, same_below m n ns e k.1)

rises_put : (n : List ℕ) (x : Term × Shape) (fs : Fields) → NamesRise (field_names fs) → NamesRise (field_names (put_field n x fs))
rises_put n x [] r = (tt, tt)
rises_put n x (f ∷ fs) r = by_order (slice_cmp nat_cmp n f.0) refl (rises_put n x fs r.1)
  where
    by_order : (o : Ordering) → slice_cmp nat_cmp n f.0 ≡ o → NamesRise (field_names (put_field n x fs)) →
        NamesRise (field_names (match_ordering o ((n, x) ∷ f ∷ fs) ((n, x) ∷ fs) (f ∷ put_field n x fs)))
    by_order Less e more = ((e, below_further n f.0 (field_names fs) e r.0), r)
    by_order Equal e more = (same_below n f.0 (field_names fs) e r.0, r.1)
    by_order Greater e more = (under_put f.0 n x fs (turned n f.0 e) r.0, more)

all_rise : (ns : List (List ℕ)) (xs : List (Term × Shape)) → NamesRise (field_names (put_fields ns xs))
all_rise [] xs = tt
all_rise (n ∷ ns) [] = tt
all_rise (n ∷ ns) (x ∷ xs) = rises_put n x (put_fields ns xs) (all_rise ns xs)

put_typed : (c : Context) (n : List ℕ) (x : Term × Shape) (fs : Fields) → Typed c x → AllTyped c (field_parts fs) → AllTyped c (field_parts (put_field n x fs))
put_typed c n x [] h k = (h, tt)
put_typed c n x (f ∷ fs) h k = by_order (slice_cmp nat_cmp n f.0) (put_typed c n x fs h k.1)
  where
    by_order : (o : Ordering) → AllTyped c (field_parts (put_field n x fs)) →
        AllTyped c (field_parts (match_ordering o ((n, x) ∷ f ∷ fs) ((n, x) ∷ fs) (f ∷ put_field n x fs)))
    by_order Less more = (h, k)
    by_order Equal more = (h, k.1)
    by_order Greater more = (k.0, more)

fields_typed : (c : Context) (ns : List (List ℕ)) (xs : List (Term × Shape)) → AllTyped c xs → AllTyped c (field_parts (put_fields ns xs))
fields_typed c [] xs h = tt
fields_typed c (n ∷ ns) [] h = tt
fields_typed c (n ∷ ns) (x ∷ xs) h = put_typed c n x (put_fields ns xs) h.0 (fields_typed c ns xs h.1)

as_many : (fs : Fields) → length (field_names fs) ≡ length (types_of (field_parts fs))
as_many [] = refl
as_many (f ∷ fs) = ap suc (as_many fs)

pub record_typed : (c : Context) (ns : List (List ℕ)) (xs : List (Term × Shape)) (y : Term × Shape) → AllTyped c xs → typed_record ns xs ≡ Ok y → Typed c y
record_typed c ns xs y h e = by_test (are_names_distinct ns) e
  where
    by_test : (b : Bool) → (if b then bounded (Ok (record_by (put_fields ns xs))) else Err 5) ≡ Ok y → Typed c y
    by_test true i =
        let fs = put_fields ns xs in
        let k : Ok (record_by fs) ≡ Ok y = bounded_ok (Ok (record_by fs)) y i in
        let z : record_by fs ≡ y = cc in
        subst (Typed c) z (
        typed_by c (term.rec (field_names fs)) (field_parts fs) (records (columns_by (field_names fs) (types_of (field_parts fs)))) (λ n i. refl)
        (fields_typed c ns xs h) (as_many fs, all_rise ns xs, refl)
        )
    by_test false i = absurd cc

-- rows
pub list_typed : (c : Context) (xs : List (Term × Shape)) (y : Term × Shape) → AllTyped c xs → typed_list xs ≡ Ok y → Typed c y
list_typed c [] y h e = list_as_typed c (Some (records no_columns)) [] y h (bounded_ok (list_as (Some (records no_columns)) []) y e)
list_typed c (x ∷ xs) y h e =
    let joined = join_all (Some blanks) (x ∷ xs) in
    list_as_typed c joined (x ∷ xs) y h (bounded_ok (list_as joined (x ∷ xs)) y e)

-- formulas in turn
pub chain_typed : (c : Context) (xs : List (Term × Shape)) (y : Term × Shape) → AllTyped c xs → chain_by xs ≡ Ok y → Typed c y
chain_typed c xs y h e = by_last (last_type (types_of xs)) refl e
  where
    by_last : (o : Option Shape) → last_type (types_of xs) ≡ o → chain_as xs o ≡ Ok y → Typed c y
    by_last (Some t) i j =
        let z : (of chain (all (firsts xs)), t) ≡ y = cc in
        subst (Typed c) z (typed_by c chain xs t (λ n i. refl) h i)
    by_last None i j = absurd cc
