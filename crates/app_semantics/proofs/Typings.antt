-- A typing speaks of the sources alone that the tree reads, and each of these has a type.
use Rattle.std.proofs.Common.{◌≡◌, ℕ, ◌+◌, List, [], ◌∷◌, ◌++◌, length, false, Option, Some, refl, sym, subst, inl, inr}
use Rattle.std.specs.Prelude.{◌⊎◌}
use Rattle.std.proofs.lemmas.Bool.{or_parts}
use Rattle.fx_types.specs.Types.{Shape, blanks, numbers, texts, booleans, dates, records, tables}
use Rattle.fx_core.specs.Reads.{IsAmong, read_by, sources_among, sources_in}
use Rattle.fx_core.specs.Term.{Term, Terms, of, nil, cons, Top, const, read, row, item, caught, dot, call, over, user, form, within, rec, list, coerce, chain, act}
use Rattle.fx_core.specs.declared.sources.Source.{Source}
use Rattle.fx_typing.specs.Acts.{acts, any_acts, is_acting}
use Rattle.fx_semantics.specs.Sound.{IsLawfulType}
use Rattle.fx_semantics.proofs.Lawful.{constant_lawful}
use Rattle.fx_typing.specs.WellTyped.{AreTyped, Context, IsRuled, IsTyped, PartScope, bound, catching, context_for, inside, parts_count, plain, standing_at}
use Rattle.fx_semantics.proofs.Wider.{among_left, among_right}

-- ---- lists of sources
pub among_either : (s : Source) (xs ys : List Source) → IsAmong s (xs ++ ys) → IsAmong s xs ⊎ IsAmong s ys
among_either s [] ys h = inr h
among_either s (x ∷ xs) ys (inl e) = inl (inl e)
among_either s (x ∷ xs) ys (inr h) = elim (among_either s xs ys h) [ inl a ↦ inl (inr a) | inr b ↦ inr b ]

-- ---- other sources
abbrev Types : Type 0
Types = Source → Option Shape

abbrev HaveLawfulTypes : Types → Type 0
HaveLawfulTypes S = (s : Source) (t : Shape) → S s ≡ Some t → IsLawfulType t

-- what is read has the type there that it has here
abbrev pub Keeps : Types → Types → List Source → Type 0
Keeps S S' reads = (s : Source) (t : Shape) → IsAmong s reads → S s ≡ Some t → S' s ≡ Some t

abbrev over_types : Types → Context → Context
over_types S c = record c { sources = S }

standing_over : (S : Types) (k : PartScope) (c : Context) (ts : List Shape) → over_types S (context_for k c ts) ≡ context_for k (over_types S c) ts
standing_over S plain c ts = refl
standing_over S inside c [] = refl
standing_over S inside c (t ∷ ts) = refl
standing_over S bound c [] = refl
standing_over S bound c (t ∷ ts) = refl
standing_over S catching c ts = refl

same_sources : (k : PartScope) (c : Context) (ts : List Shape) → (context_for k c ts).sources ≡ c.sources
same_sources plain c ts = refl
same_sources inside c [] = refl
same_sources inside c (t ∷ ts) = refl
same_sources bound c [] = refl
same_sources bound c (t ∷ ts) = refl
same_sources catching c ts = refl

ruled_coerce : (S : Types) (c : Context) (to : Shape) (cs : Terms) (us : List Shape) (t : Shape) → IsRuled c (coerce to) cs us t → IsRuled (over_types S c) (coerce to) cs us t
ruled_coerce S c blanks cs (u ∷ []) t r = r
ruled_coerce S c numbers cs (u ∷ []) t r = r
ruled_coerce S c texts cs (u ∷ []) t r = r
ruled_coerce S c booleans cs (u ∷ []) t r = r
ruled_coerce S c dates cs (u ∷ []) t r = r
ruled_coerce S c (records ds) cs (u ∷ []) t r = r
ruled_coerce S c (tables ds) cs (u ∷ []) t r = r
ruled_coerce S c blanks cs [] t r = absurd r
ruled_coerce S c numbers cs [] t r = absurd r
ruled_coerce S c texts cs [] t r = absurd r
ruled_coerce S c booleans cs [] t r = absurd r
ruled_coerce S c dates cs [] t r = absurd r
ruled_coerce S c (records ds) cs [] t r = absurd r
ruled_coerce S c (tables ds) cs [] t r = absurd r
ruled_coerce S c blanks cs (u ∷ v ∷ us) t r = absurd r
ruled_coerce S c numbers cs (u ∷ v ∷ us) t r = absurd r
ruled_coerce S c texts cs (u ∷ v ∷ us) t r = absurd r
ruled_coerce S c booleans cs (u ∷ v ∷ us) t r = absurd r
ruled_coerce S c dates cs (u ∷ v ∷ us) t r = absurd r
ruled_coerce S c (records ds) cs (u ∷ v ∷ us) t r = absurd r
ruled_coerce S c (tables ds) cs (u ∷ v ∷ us) t r = absurd r

ruled_list : (S : Types) (c : Context) (r : Shape) (cs : Terms) (us : List Shape) (t : Shape) → IsRuled c (list r) cs us t → IsRuled (over_types S c) (list r) cs us t
ruled_list S c blanks cs us t r = r
ruled_list S c numbers cs us t r = r
ruled_list S c texts cs us t r = r
ruled_list S c booleans cs us t r = r
ruled_list S c dates cs us t r = r
ruled_list S c (records ds) cs us t r = r
ruled_list S c (tables ds) cs us t r = absurd r

ruled_within : (S : Types) (c : Context) (cs : Terms) (us : List Shape) (t : Shape) → IsRuled c within cs us t → IsRuled (over_types S c) within cs us t
ruled_within S c cs [] t r = absurd r
ruled_within S c cs (records ds ∷ []) t r = absurd r
ruled_within S c cs (records ds ∷ u ∷ []) t r = r
ruled_within S c cs (records ds ∷ u ∷ v ∷ us) t r = absurd r
ruled_within S c cs (blanks ∷ us) t r = absurd r
ruled_within S c cs (numbers ∷ us) t r = absurd r
ruled_within S c cs (texts ∷ us) t r = absurd r
ruled_within S c cs (booleans ∷ us) t r = absurd r
ruled_within S c cs (dates ∷ us) t r = absurd r
ruled_within S c cs (tables ds ∷ us) t r = absurd r

ruled : (S : Types) (c : Context) (h : Top) (cs : Terms) (us : List Shape) (t : Shape) → is_acting h ≡ false → HaveLawfulTypes c.sources → Keeps c.sources S (read_by h) →
    IsRuled c h cs us t → IsRuled (over_types S c) h cs us t
ruled S c (const v) cs us t q l k r = (r.0, inl (constant_lawful c t l r.1))
ruled S c (read s) cs us t q l k r = k s t (inl refl) r
ruled S c (row i) cs us t q l k r = r
ruled S c item cs us t q l k r = r
ruled S c caught cs us t q l k r = r
ruled S c (dot x) cs [] t q l k r = absurd r
ruled S c (dot x) cs (u ∷ []) t q l k r = r
ruled S c (dot x) cs (u ∷ v ∷ us) t q l k r = absurd r
ruled S c (call f) cs us t q l k r = r
ruled S c (over f) cs us t q l k r = r
ruled S c (user f) cs us t q l k r = r
ruled S c (form f) cs us t q l k r = r
ruled S c within cs us t q l k r = ruled_within S c cs us t r
ruled S c (rec ns) cs us t q l k r = r
ruled S c (list r) cs us t q l k w = ruled_list S c r cs us t w
ruled S c (coerce to) cs us t q l k r = ruled_coerce S c to cs us t r
ruled S c chain cs us t q l k r = absurd cc
ruled S c (act d) cs us t q l k r = absurd cc

mutual
  -- a typing over some lawful types of sources is one over others that keep those of what is read
  pub typed_over : (S : Types) (t : Term) (c : Context) (u : Shape) → acts t ≡ false → HaveLawfulTypes c.sources → Keeps c.sources S (sources_in t) → IsTyped c t u → IsTyped (over_types S c) t u
  typed_over S (of h ts) c u q l k w =
      let calm : (is_acting h ≡ false) × (any_acts ts ≡ false) = or_parts (is_acting h) (any_acts ts) q in (
        w.0,
        parts_over S ts h (parts_count ts) [] c w.0 calm.1 l (λ s t a. k s t (among_right s (read_by h) (sources_among ts) a)) w.1,
        ruled S c h ts w.0 u calm.0 l (λ s t a. k s t (among_left s (read_by h) (sources_among ts) a)) w.2,
      )

  parts_over : (S : Types) (ts : Terms) (h : Top) (n : ℕ) (done : List Shape) (c : Context) (us : List Shape) → any_acts ts ≡ false → HaveLawfulTypes c.sources → Keeps c.sources S (sources_among ts) →
      AreTyped c h n done ts us → AreTyped (over_types S c) h n done ts us
  parts_over S nil h n done c us q l k w = w
  parts_over S (cons t ts) h n done c us q l k w =
      let calm : (acts t ≡ false) × (any_acts ts ≡ false) = or_parts (acts t) (any_acts ts) q in
      let st : PartScope = standing_at h n (length done) in
      let kept : Keeps (context_for st c done).sources S (sources_in t) =
      subst (λ T. Keeps T S (sources_in t)) (sym (same_sources st c done)) (λ s x a. k s x (among_left s (sources_in t) (sources_among ts) a)) in (
        w.0,
        w.1,
        w.2,
        subst (λ d. IsTyped d t w.0) (standing_over S st c done) (typed_over S t (context_for st c done) w.0 calm.0 (subst HaveLawfulTypes (sym (same_sources st c done)) l) kept w.3),
        parts_over S ts h n (done ++ w.0 ∷ []) c w.1 calm.1 l (λ s x a. k s x (among_right s (sources_in t) (sources_among ts) a)) w.4,
      )

-- ---- what is read has a type
abbrev HasType : Types → Source → Type 0
HasType S s = (t : Shape) × (S s ≡ Some t)

ruled_read : (c : Context) (h : Top) (cs : Terms) (us : List Shape) (t : Shape) (s : Source) → IsRuled c h cs us t → IsAmong s (read_by h) → HasType c.sources s
ruled_read c (read x) cs us t s r (inl e) = (t, subst (λ y. c.sources y ≡ Some t) e r)
ruled_read c (read x) cs us t s r (inr a) = absurd a
ruled_read c (const v) cs us t s r a = absurd a
ruled_read c (row i) cs us t s r a = absurd a
ruled_read c item cs us t s r a = absurd a
ruled_read c caught cs us t s r a = absurd a
ruled_read c (dot x) cs us t s r a = absurd a
ruled_read c (call f) cs us t s r a = absurd a
ruled_read c (over f) cs us t s r a = absurd a
ruled_read c (user f) cs us t s r a = absurd a
ruled_read c (form f) cs us t s r a = absurd a
ruled_read c within cs us t s r a = absurd a
ruled_read c (rec ns) cs us t s r a = absurd a
ruled_read c (list x) cs us t s r a = absurd a
ruled_read c (coerce x) cs us t s r a = absurd a
ruled_read c chain cs us t s r a = absurd a
ruled_read c (act d) cs us t s r a = absurd a

mutual
  pub typed_read : (t : Term) (c : Context) (u : Shape) (s : Source) → IsTyped c t u → IsAmong s (sources_in t) → HasType c.sources s
  typed_read (of h ts) c u s w a = elim (among_either s (read_by h) (sources_among ts) a) [
    | inl here ↦ ruled_read c h ts w.0 u s w.2 here
    | inr below ↦ part_read ts h (parts_count ts) [] c w.0 s w.1 below
  ]

  part_read : (ts : Terms) (h : Top) (n : ℕ) (done : List Shape) (c : Context) (us : List Shape) (s : Source) → AreTyped c h n done ts us → IsAmong s (sources_among ts) → HasType c.sources s
  part_read nil h n done c us s w a = absurd a
  part_read (cons t ts) h n done c us s w a = elim (among_either s (sources_in t) (sources_among ts) a) [
    | inl first ↦
        let st : PartScope = standing_at h n (length done) in
        subst (λ S. HasType S s) (same_sources st c done) (typed_read t (context_for st c done) w.0 s w.3 first)
    | inr later ↦ part_read ts h n (done ++ w.0 ∷ []) c w.1 s w.4 later
  ]
