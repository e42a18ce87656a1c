-- Paths, their parts and the patterns of places.
use Rattle.std.proofs.Common.{◌≡◌, ℕ, zero, suc, ◌<◌, ◌≤◌, ◌+◌, List, [], ◌∷◌, ◌++◌, length, get_or, take, drop, Bool, true, false, ltb, not, refl, ap, sym, ◌∙◌, subst, arith, ◌==◌, ◌&&◌, ◌⊎◌, inl, inr, append-nil, lit<}
use Rattle.std.specs.List.{AllZip, after_first, before_first, list_all, position_or_len}
use Rattle.std.specs.Str.{IsUtf8}
use Rattle.std.proofs.lemmas.Bool.Decides.{nat_tests}
use Rattle.std.proofs.lemmas.Bool.{and_parts}
use Rattle.std.proofs.lemmas.List.{length-append}
use Rattle.std.proofs.Math.Seq.{take-length, take-append_seam}
use Rattle.std.proofs.lemmas.Str.{IsUtf8-from_ascii, IsUtf8-append}
use Rattle.matchit.specs.Seek.{has_slash}
use Rattle.app_wire.specs.Routing.{path_parts}
use Rattle.app_wire.specs.RouteTable.{Kind, RoutePartTakes, text, caller, title, number, tokens}
use Rattle.app_wire.proofs.RouteSteps.{split, tail_plain}
use Rattle.app_wire.proofs.RoutePaths.{IsPlain, Matches}

-- the parts of a path, by its first slash
pub parts_plain : (w : List ℕ) → has_slash w ≡ false → path_parts w ≡ w ∷ []
parts_plain [] h = refl
parts_plain (x ∷ w) h = let t = tail_plain x w h in rw (t.0, parts_plain w t.1) refl

pub parts_cut : (w rest : List ℕ) → has_slash w ≡ false → path_parts (w ++ 47 ∷ rest) ≡ w ∷ path_parts rest
parts_cut [] rest h = refl
parts_cut (x ∷ w) rest h = let t = tail_plain x w h in rw (t.0, parts_cut w rest t.1) refl

pub first_of : (p : List ℕ) → (part : List ℕ) × (more : List (List ℕ)) × (path_parts p ≡ part ∷ more) × (has_slash part ≡ false)
first_of p = by (split p)
  where
    by : ((has_slash p ≡ false) ⊎ ((name : List ℕ) × (rest : List ℕ) × (p ≡ name ++ 47 ∷ rest) × (has_slash name ≡ false)))
        → (part : List ℕ) × (more : List (List ℕ)) × (path_parts p ≡ part ∷ more) × (has_slash part ≡ false)
    by (inl h) = (p, [], parts_plain p h, h)
    by (inr s) = (s.0, path_parts s.1, ap path_parts s.2 ∙ parts_cut s.0 s.1 s.3, s.3)

-- the words of a place are bytes without a slash
abbrev pub are_plain : List Kind → Bool
are_plain [] = true
are_plain (text word ∷ ks) = (not (has_slash word) && list_all (λ b. ltb b 128) word) && are_plain ks
are_plain (caller ∷ ks) = are_plain ks
are_plain (title ∷ ks) = are_plain ks
are_plain (number ∷ ks) = are_plain ks

pub word_plain : (word : List ℕ) (ks : List Kind) → are_plain (text word ∷ ks) ≡ true → (has_slash word ≡ false) × (list_all (λ b. ltb b 128) word ≡ true) × (are_plain ks ≡ true)
word_plain word ks h =
    let two = and_parts (not (has_slash word) && list_all (λ b. ltb b 128) word) (are_plain ks) h in
    let one = and_parts (not (has_slash word)) (list_all (λ b. ltb b 128) word) two.0 in
    (by (has_slash word) one.0, one.1, two.1)
  where
    by : (v : Bool) → not v ≡ true → v ≡ false
    by true e = cc
    by false e = refl

-- a slash, a word, a parameter
slash_before : (t path : List ℕ) → Matches (47 ∷ t) path → (rest : List ℕ) × (path ≡ 47 ∷ rest) × Matches t rest
slash_before t path (inl m) = (m.0, m.2, m.3)
slash_before t path (inr m) = let no : 47 ≡ 256 = m.2 in absurd (omega (arith, no))

word_before : (word t path : List ℕ) → list_all (λ b. ltb b 128) word ≡ true → Matches (word ++ t) path → (rest : List ℕ) × (path ≡ word ++ rest) × Matches t rest
word_before [] t path h m = (path, refl, m)
word_before (x ∷ word) t path h (inl m) =
    let two = and_parts (ltb x 128) (list_all (λ b. ltb b 128) word) h in
    let r = word_before word t m.0 two.1 m.3 in
    (r.0, m.2 ∙ ap (λ z. x ∷ z) r.1, r.2)
word_before (x ∷ word) t path h (inr m) =
    let two = and_parts (ltb x 128) (list_all (λ b. ltb b 128) word) h in
    let q = two.0 in
    let no : x ≡ 256 = m.2 in
    absurd (grind (arith, nat_tests))

param_before : (t path : List ℕ) → Matches (256 ∷ t) path → (part : List ℕ) × (rest : List ℕ) × IsPlain part × (path ≡ part ++ rest) × Matches t rest
param_before t path (inl m) = let no : 256 < 256 = m.1 in absurd (omega (arith, no))
param_before t path (inr m) = (m.0, m.1, m.3, m.4, m.5)

pub before_word : (word t rest : List ℕ) → list_all (λ b. ltb b 128) word ≡ true → Matches t rest → Matches (word ++ t) (word ++ rest)
before_word [] t rest h m = m
before_word (x ∷ word) t rest h m =
    let two = and_parts (ltb x 128) (list_all (λ b. ltb b 128) word) h in
    let q = two.0 in
    let small : x < 256 = grind (arith, nat_tests) in
    inl (word ++ rest, small, refl, before_word word t rest two.1 m)

-- what stands in the first part behind the slash
abbrev pub Behind : Kind → List Kind → List ℕ → Type 0
Behind k ks path = (part : List ℕ) × (rest : List ℕ) × (has_slash part ≡ false) × RoutePartTakes part k × (path ≡ part ++ rest) × Matches (tokens ks) rest

kind_before : (k : Kind) (ks : List Kind) (path : List ℕ) → are_plain (k ∷ ks) ≡ true → Matches (tokens (k ∷ ks)) path → (rest : List ℕ) × (path ≡ 47 ∷ rest) × Behind k ks rest
kind_before (text word) ks path h m =
    let plain = word_plain word ks h in
    let s = slash_before (word ++ tokens ks) path m in
    let w = word_before word (tokens ks) s.0 plain.1 s.2 in
    (s.0, s.1, (word, w.0, plain.0, refl, w.1, w.2))
kind_before caller ks path h m =
    let s = slash_before (256 ∷ tokens ks) path m in
    let w = param_before (tokens ks) s.0 s.2 in
    (s.0, s.1, (w.0, w.1, w.2.whole, w.2.some, w.3, w.4))
kind_before title ks path h m =
    let s = slash_before (256 ∷ tokens ks) path m in
    let w = param_before (tokens ks) s.0 s.2 in
    (s.0, s.1, (w.0, w.1, w.2.whole, w.2.some, w.3, w.4))
kind_before number ks path h m =
    let s = slash_before (256 ∷ tokens ks) path m in
    let w = param_before (tokens ks) s.0 s.2 in
    (s.0, s.1, (w.0, w.1, w.2.whole, w.2.some, w.3, w.4))

pub plain_rest : (k : Kind) (ks : List Kind) → are_plain (k ∷ ks) ≡ true → are_plain ks ≡ true
plain_rest (text word) ks h = (word_plain word ks h).2
plain_rest caller ks h = h
plain_rest title ks h = h
plain_rest number ks h = h

-- the parts of a path that matches the pattern
parts_behind : (ks : List Kind) (w path : List ℕ) → are_plain ks ≡ true → has_slash w ≡ false → Matches (tokens ks) path
    → (more : List (List ℕ)) × (path_parts (w ++ path) ≡ w ∷ more) × AllZip RoutePartTakes more ks
parts_behind [] w path h plain m = ([], ap (λ z. path_parts (w ++ z)) m ∙ ap path_parts (append-nil w) ∙ parts_plain w plain, tt)
parts_behind (k ∷ ks) w path h plain m =
    let s = kind_before k ks path h m in
    let b = s.2 in
    let r = parts_behind ks b.0 b.1 (plain_rest k ks h) b.2 b.5 in (
      b.0 ∷ r.0,
      ap (λ z. path_parts (w ++ z)) s.1 ∙ parts_cut w s.0 plain ∙ ap (λ z. w ∷ path_parts z) b.4 ∙ ap (λ z. w ∷ z) r.1,
      (b.3, r.2),
    )

pub parts_of_match : (ks : List Kind) (path : List ℕ) → are_plain ks ≡ true → Matches (tokens ks) path → AllZip RoutePartTakes (path_parts path) (text [] ∷ ks)
parts_of_match ks path h m =
    let r = parts_behind ks [] path h refl m in
    subst (λ ps. AllZip RoutePartTakes ps (text [] ∷ ks)) (sym r.1) (refl, r.2)

-- and the other way
match_kind : (k : Kind) (ks : List Kind) (part rest : List ℕ) → are_plain (k ∷ ks) ≡ true → has_slash part ≡ false → RoutePartTakes part k → Matches (tokens ks) rest
    → Matches (tokens (k ∷ ks)) (47 ∷ (part ++ rest))
match_kind (text word) ks part rest h plain takes m =
    inl (part ++ rest, lit< tt, refl, subst (λ z. Matches (word ++ tokens ks) (z ++ rest)) (sym takes) (before_word word (tokens ks) rest (word_plain word ks h).1 m))
match_kind caller ks part rest h plain takes m = inl (part ++ rest, lit< tt, refl, inr (part, rest, refl, record { some = takes; whole = plain }, refl, m))
match_kind title ks part rest h plain takes m = inl (part ++ rest, lit< tt, refl, inr (part, rest, refl, record { some = takes; whole = plain }, refl, m))
match_kind number ks part rest h plain takes m = inl (part ++ rest, lit< tt, refl, inr (part, rest, refl, record { some = takes; whole = plain }, refl, m))

-- a path is its first part and what stands behind it
abbrev pub Cut : List ℕ → List ℕ → List (List ℕ) → Type 0
Cut p part more = ((p ≡ part) × (more ≡ [])) ⊎ ((rest : List ℕ) × (p ≡ part ++ 47 ∷ rest) × (more ≡ path_parts rest))

cut_of : (p part : List ℕ) (more : List (List ℕ)) → path_parts p ≡ part ∷ more → Cut p part more
cut_of p part more e = by (split p)
  where
    by : ((has_slash p ≡ false) ⊎ ((name : List ℕ) × (rest : List ℕ) × (p ≡ name ++ 47 ∷ rest) × (has_slash name ≡ false))) → Cut p part more
    by (inl h) =
        let same : p ∷ [] ≡ part ∷ more = sym (parts_plain p h) ∙ e in
        let front : p ≡ part = cc in
        let back : [] ≡ more = cc in
        inl (front, sym back)
    by (inr s) =
        let same : s.0 ∷ path_parts s.1 ≡ part ∷ more = sym (parts_cut s.0 s.1 s.3) ∙ sym (ap path_parts s.2) ∙ e in
        let front : s.0 ≡ part = cc in
        let back : path_parts s.1 ≡ more = cc in
        inr (s.1, s.2 ∙ ap (λ z. z ++ 47 ∷ s.1) front, sym back)

match_behind : (ks : List Kind) (p part : List ℕ) (more : List (List ℕ)) → are_plain ks ≡ true → path_parts p ≡ part ∷ more → AllZip RoutePartTakes more ks
    → (rest : List ℕ) × (p ≡ part ++ rest) × Matches (tokens ks) rest
match_behind [] p part more h e z = by (cut_of p part more e) z
  where
    by : Cut p part more → AllZip RoutePartTakes more [] → (rest : List ℕ) × (p ≡ part ++ rest) × Matches [] rest
    by (inl c) z = ([], c.0 ∙ sym (append-nil part), refl)
    by (inr c) z =
        let f = first_of c.0 in
        absurd (subst (λ ps. AllZip RoutePartTakes ps []) (c.2 ∙ f.2) z)
match_behind (k ∷ ks) p part more h e z = by (λ r x xs plain same rest. match_behind ks r x xs (plain_rest k ks h) same rest) (cut_of p part more e) z
  where
    by : ((r x : List ℕ) (xs : List (List ℕ)) → has_slash x ≡ false → path_parts r ≡ x ∷ xs → AllZip RoutePartTakes xs ks → (rest : List ℕ) × (r ≡ x ++ rest) × Matches (tokens ks) rest)
        → Cut p part more → AllZip RoutePartTakes more (k ∷ ks) → (rest : List ℕ) × (p ≡ part ++ rest) × Matches (tokens (k ∷ ks)) rest
    by again (inl c) z = absurd (subst (λ ps. AllZip RoutePartTakes ps (k ∷ ks)) c.1 z)
    by again (inr c) z =
        let f = first_of c.0 in
        let w = subst (λ ps. AllZip RoutePartTakes ps (k ∷ ks)) (c.2 ∙ f.2) z in
        let r = again c.0 f.0 f.1 f.3 f.2 w.1 in
        (47 ∷ (f.0 ++ r.0), c.1 ∙ ap (λ q. part ++ 47 ∷ q) r.1, match_kind k ks f.0 r.0 h f.3 w.0 r.2)

pub match_of_parts : (ks : List Kind) (path : List ℕ) → are_plain ks ≡ true → AllZip RoutePartTakes (path_parts path) (text [] ∷ ks) → Matches (tokens ks) path
match_of_parts ks path h z =
    let f = first_of path in
    let w = subst (λ ps. AllZip RoutePartTakes ps (text [] ∷ ks)) f.2 z in
    let r = match_behind ks path f.0 f.1 h f.2 w.1 in
    let same : path ≡ r.0 = r.1 ∙ ap (λ q. q ++ r.0) w.0 in
    subst (Matches (tokens ks)) (sym same) r.2

-- a path is text where its parts are
slash_text : IsUtf8 (47 ∷ [])
slash_text = IsUtf8-from_ascii (47 ∷ []) ascii
  where
    ascii : (i : ℕ) → get_or (47 ∷ []) i 0 < 128
    ascii zero = lit< tt
    ascii (suc i) = lit< tt

abbrev pub AreTexts : List (List ℕ) → Type 0
AreTexts [] = Unit {0}
AreTexts (part ∷ parts) = IsUtf8 part × AreTexts parts

text_at : (p : List ℕ) → ((q : List ℕ) → length q < length p → AreTexts (path_parts q) → IsUtf8 q)
    → ((has_slash p ≡ false) ⊎ ((name : List ℕ) × (rest : List ℕ) × (p ≡ name ++ 47 ∷ rest) × (has_slash name ≡ false))) → AreTexts (path_parts p) → IsUtf8 p
text_at p again (inl h) t = (subst AreTexts (parts_plain p h) t).0
text_at p again (inr s) t =
    let two = subst AreTexts (ap path_parts s.2 ∙ parts_cut s.0 s.1 s.3) t in
    let less : length s.1 < length p = omega (arith, ap length s.2, length-append s.0 (47 ∷ s.1)) in
    subst IsUtf8 (sym s.2) (IsUtf8-append s.0 (47 ∷ s.1) two.0 (IsUtf8-append (47 ∷ []) s.1 slash_text (again s.1 less two.1)))

text_within : (n : ℕ) (p : List ℕ) → length p ≤ n → AreTexts (path_parts p) → IsUtf8 p
text_within zero p fits h = text_at p (λ q less t. absurd (omega (arith, fits, less))) (split p) h
text_within (suc n) p fits h = text_at p (λ q less t. text_within n q (omega (arith, fits, less)) t) (split p) h

pub path_text : (p : List ℕ) → AreTexts (path_parts p) → IsUtf8 p
path_text p h = text_within (length p) p (omega arith) h

-- the part before the first slash, and the parts behind it
stop_plain : (part : List ℕ) → has_slash part ≡ false → position_or_len (λ b. b == 47) part ≡ length part
stop_plain [] h = refl
stop_plain (x ∷ xs) h = let t = tail_plain x xs h in rw t.0 (omega (arith, stop_plain xs t.1))

stop_slash : (part rest : List ℕ) → has_slash part ≡ false → position_or_len (λ b. b == 47) (part ++ 47 ∷ rest) ≡ length part
stop_slash [] rest h = refl
stop_slash (x ∷ xs) rest h = let t = tail_plain x xs h in rw t.0 (omega (arith, stop_slash xs rest t.1))

drop_past : (name rest : List ℕ) → drop (length name + 1) (name ++ 47 ∷ rest) ≡ rest
drop_past [] rest = refl
drop_past (x ∷ name) rest =
    let more : length (x ∷ name) + 1 ≡ suc (length name + 1) = omega arith in
    rw more (drop_past name rest)

drop_all : (p : List ℕ) → drop (length p + 1) p ≡ []
drop_all [] = refl
drop_all (x ∷ p) =
    let more : length (x ∷ p) + 1 ≡ suc (length p + 1) = omega arith in
    rw more (drop_all p)

no_part : (i : ℕ) → get_or {A = List ℕ} ([] ∷ []) i [] ≡ []
no_part zero = refl
no_part (suc i) = refl

pub first_part : (p : List ℕ) → before_first (λ b. b == 47) p ≡ get_or (path_parts p) 0 []
first_part p = by (split p)
  where
    by : ((has_slash p ≡ false) ⊎ ((name : List ℕ) × (rest : List ℕ) × (p ≡ name ++ 47 ∷ rest) × (has_slash name ≡ false)))
        → before_first (λ b. b == 47) p ≡ get_or (path_parts p) 0 []
    by (inl h) = ap (λ n. take n p) (stop_plain p h) ∙ take-length p ∙ sym (ap (λ ps. get_or ps 0 []) (parts_plain p h))
    by (inr s) =
        ap (before_first (λ b. b == 47)) s.2 ∙ ap (λ n. take n (s.0 ++ 47 ∷ s.1)) (stop_slash s.0 s.1 s.3) ∙ take-append_seam s.0 (47 ∷ s.1)
        ∙ sym (ap (λ ps. get_or ps 0 []) (ap path_parts s.2 ∙ parts_cut s.0 s.1 s.3))

pub next_part : (p : List ℕ) (i : ℕ) → get_or (path_parts (after_first (λ b. b == 47) p)) i [] ≡ get_or (path_parts p) (suc i) []
next_part p i = by (split p)
  where
    by : ((has_slash p ≡ false) ⊎ ((name : List ℕ) × (rest : List ℕ) × (p ≡ name ++ 47 ∷ rest) × (has_slash name ≡ false)))
        → get_or (path_parts (after_first (λ b. b == 47) p)) i [] ≡ get_or (path_parts p) (suc i) []
    by (inl h) =
        ap (λ q. get_or (path_parts q) i []) (ap (λ n. drop (n + 1) p) (stop_plain p h) ∙ drop_all p) ∙ no_part i ∙ sym (ap (λ ps. get_or ps (suc i) []) (parts_plain p h))
    by (inr s) =
        ap (λ q. get_or (path_parts q) i []) (ap (after_first (λ b. b == 47)) s.2 ∙ ap (λ n. drop (n + 1) (s.0 ++ 47 ∷ s.1)) (stop_slash s.0 s.1 s.3) ∙ drop_past s.0 s.1)
        ∙ sym (ap (λ ps. get_or ps (suc i) []) (ap path_parts s.2 ∙ parts_cut s.0 s.1 s.3))
