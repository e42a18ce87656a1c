-- Values as they come in.
use Rattle.std.proofs.Common.{◌≡◌, ℕ, suc, Bool, true, false, cond, List, [], ◌∷◌, length, Option, Some, None, String, refl, ap, sym, ◌∙◌, arith, bytes_eq}
use Rattle.std.specs.Prelude.{IfSome, codes, option_map, slice_get, string_bytes, ℤ}
use Rattle.std.specs.declared.alloc.Global.{Global}
use Rattle.serde_json.specs.Data as json
use Rattle.serde_json.specs.Data.{Members, member, no_members}
use Rattle.serde_json.specs.Events.{members_len}
use Rattle.serde_json.specs.Find.{as_object, as_str}
use Rattle.serde_json.specs.View.{members_view, view as json_view}
use Rattle.serde_json.specs.declared.value.Value.{Value as Json}
use Rattle.fx_types.specs.Values.{Data, date, number}
use Rattle.fx_value.specs.Order.{IsScalar}
use Rattle.field_texts.specs.Spelled.{spelled_day, spelled_number}
use Rattle.numbered_requests.specs.GivenValues.{member_count, member_value, tagged_value, value_in, whole_number}

-- ---- what comes in is a scalar

of_number : (o : Option ℤ) → IfSome (option_map number o) IsScalar
of_number None = tt
of_number (Some z) = tt

of_date : (o : Option ℤ) → IfSome (option_map date o) IsScalar
of_date None = tt
of_date (Some z) = tt

of_either : (b : Bool) (x y : Option Data) → IfSome x IsScalar → IfSome y IsScalar → IfSome (cond b x y) IsScalar
of_either true x y h k = h
of_either false x y h k = k

of_tag : (key s : List ℕ) → IfSome (tagged_value key s) IsScalar
of_tag key s =
    of_either (bytes_eq key (codes "n")) (option_map number (spelled_number s)) (cond (bytes_eq key (codes "d")) (option_map date (spelled_day s)) None) (of_number (spelled_number s))
    (of_either (bytes_eq key (codes "d")) (option_map date (spelled_day s)) None (of_date (spelled_day s)) tt)

of_members : (ms : Members) → IfSome (member_value ms) IsScalar
of_members no_members = tt
of_members (member key json.null ms) = tt
of_members (member key (json.boolean b) ms) = tt
of_members (member key (json.number n) ms) = tt
of_members (member key (json.array ds) ms) = tt
of_members (member key (json.object os) ms) = tt
of_members (member key (json.string s) no_members) = of_tag key s
of_members (member key (json.string s) (member l d ms)) = tt

pub of_value : (d : json.Data) → IfSome (value_in d) IsScalar
of_value json.null = tt
of_value (json.boolean b) = tt
of_value (json.number n) = of_number (whole_number n)
of_value (json.string s) = tt
of_value (json.array ds) = tt
of_value (json.object ms) = of_members ms

-- ---- how many members there are

length_view : (ms : List (String Global × Json)) → members_len (members_view ms) ≡ length ms
length_view [] = refl
length_view (m ∷ ms) = ap suc (length_view ms)

count_view : (ms : Members) (d : json.Data) → Some ms ≡ as_object d → members_len ms ≡ member_count d
count_view ms json.null e = absurd (cc)
count_view ms (json.boolean b) e = absurd (cc)
count_view ms (json.number n) e = absurd (cc)
count_view ms (json.string s) e = absurd (cc)
count_view ms (json.array ds) e = absurd (cc)
count_view ms (json.object other) e = let same : ms ≡ other = cc in ap members_len same

pub count_is : (ms : List (String Global × Json)) (d : json.Data) → Some (members_view ms) ≡ as_object d → length ms ≡ member_count d
count_is ms d e = sym (length_view ms) ∙ count_view (members_view ms) d e

-- ---- objects of one member

of_two : (k l : List ℕ) (d x : json.Data) (ms : Members) → None ≡ member_value (member k d (member l x ms))
of_two k l json.null x ms = refl
of_two k l (json.boolean b) x ms = refl
of_two k l (json.number n) x ms = refl
of_two k l (json.string s) x ms = refl
of_two k l (json.array ds) x ms = refl
of_two k l (json.object os) x ms = refl

pub not_one : (es : List (String Global × Json)) → (length es ≡ 1 → ⊥) → None ≡ member_value (members_view es)
not_one [] h = refl
not_one (e ∷ []) h = absurd (h refl)
not_one (e ∷ f ∷ es) h = of_two (string_bytes e.0) (string_bytes f.0) (json_view e.1) (json_view f.1) (members_view es)

pub is_one : (es : List (String Global × Json)) (key : String Global) (j : Json) → length es ≡ 1 → slice_get es 0 ≡ Some (key, j)
    → member_value (members_view es) ≡ member_value (member (string_bytes key) (json_view j) no_members)
is_one [] key j h e = absurd (omega (arith, h))
is_one (x ∷ y ∷ es) key j h e = absurd (omega (arith, h))
is_one (x ∷ []) key j h e = ap (λ (p : String Global × Json). member_value (member (string_bytes p.0) (json_view p.1) no_members)) (same e)
  where
    same : Some x ≡ Some (key, j) → x ≡ (key, j)
    same k = cc

pub of_text : (k s : List ℕ) (d : json.Data) → Some s ≡ as_str d → tagged_value k s ≡ member_value (member k d no_members)
of_text k s json.null e = absurd cc
of_text k s (json.boolean b) e = absurd cc
of_text k s (json.number n) e = absurd cc
of_text k s (json.string t) e = let same : s ≡ t = cc in ap (tagged_value k) same
of_text k s (json.array ds) e = absurd cc
of_text k s (json.object ms) e = absurd cc

pub of_other : (k : List ℕ) (d : json.Data) → None ≡ as_str d → None ≡ member_value (member k d no_members)
of_other k json.null e = refl
of_other k (json.boolean b) e = refl
of_other k (json.number n) e = refl
of_other k (json.string t) e = absurd cc
of_other k (json.array ds) e = refl
of_other k (json.object ms) e = refl
