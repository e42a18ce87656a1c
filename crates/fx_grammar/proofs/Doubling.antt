-- What doubling did, undoubling undoes.
use Rattle.std.proofs.Common.{◌≡◌, ℕ, Bool, true, false, List, [], ◌∷◌, ◌++◌, Option, Some, None, eqb, cond, refl, ap, sym, ◌∙◌, arith}
use Rattle.std.specs.Prelude.{option_map}
use Rattle.std.proofs.lemmas.Bool.Decides.{nat_tests}
use Rattle.std.proofs.lemmas.List.{append_cancel_right}
use Rattle.std.specs.Borrow.{Bor}
use Rattle.std.proofs.Common.{append_assoc}
use Rattle.fx_lexer.specs.Spelling.{doubled, is_quote}
use Rattle.fx_grammar.specs.Means.{between_quotes}
use Rattle.fx_grammar.specs.Undoubling.{put_char, undoubled, step_at, step_seen}

same : (c : ℕ) → eqb c c ≡ true
same c = grind (arith, nat_tests)

plain : (p : ℕ → Bool) (c : ℕ) (xs : List ℕ) → p c ≡ false → undoubled p (c ∷ xs) ≡ put_char c (undoubled p xs)
plain p c [] e = rw e refl
plain p c (d ∷ ds) e = rw e refl

marked : (p : ℕ → Bool) (c : ℕ) (ds : List ℕ) → p c ≡ true → undoubled p (c ∷ c ∷ ds) ≡ put_char c (undoubled p ds)
marked p c ds e = let f = same c in rw (e, f) refl

pub undoubled-doubled : (p : ℕ → Bool) (cs : List ℕ) → undoubled p (doubled p cs) ≡ Some cs
undoubled-doubled p [] = refl
undoubled-doubled p (c ∷ cs) = by (undoubled-doubled p cs) (p c) refl
  where
    by : undoubled p (doubled p cs) ≡ Some cs → (b : Bool) → p c ≡ b → undoubled p (cond b (c ∷ c ∷ doubled p cs) (c ∷ doubled p cs)) ≡ Some (c ∷ cs)
    by h true e = marked p c (doubled p cs) e ∙ ap (put_char c) h
    by h false e = plain p c (doubled p cs) e ∙ ap (put_char c) h

-- texts are told apart by their doublings
pub one_doubled : (p : ℕ → Bool) (cs ds : List ℕ) → doubled p cs ≡ doubled p ds → cs ≡ ds
one_doubled p cs ds e = let f : ◌≡◌ {A = Option (List ℕ)} (Some cs) (Some ds) = sym (undoubled-doubled p cs) ∙ ap (undoubled p) e ∙ undoubled-doubled p ds in cc

pub one_quoted : (q : ℕ) (cs ds : List ℕ) → between_quotes q cs ≡ between_quotes q ds → cs ≡ ds
one_quoted q cs ds e =
    let f : doubled (is_quote q) cs ++ q ∷ [] ≡ doubled (is_quote q) ds ++ q ∷ [] = cc in
    one_doubled (is_quote q) cs ds (append_cancel_right _ _ (q ∷ []) f)

abbrev stuck : Option (Option (ℕ × List ℕ))
stuck = None

abbrev went : ℕ → List ℕ → Option (Option (ℕ × List ℕ))
went c us = Some (Some (c, us))

-- a step takes a character
pub step_on : (p : ℕ → Bool) (xs : List ℕ) (c : ℕ) (us : List ℕ) → step_at p xs ≡ went c us → undoubled p xs ≡ put_char c (undoubled p us)
step_on p [] c us e = cc
step_on p (d ∷ []) c us e = by (p d) e
  where
    by : (b : Bool) → cond b stuck (went d []) ≡ went c us → cond b None (Some (d ∷ [])) ≡ put_char c (undoubled p us)
    by true f = cc
    by false f = let g : ◌≡◌ {A = ℕ × List ℕ} (d, []) (c, us) = cc in λ i. put_char (g i).0 (undoubled p (g i).1)
step_on p (d ∷ x ∷ ds) c us e = by (p d) e
  where
    by_pair : (b : Bool) → cond b (went d ds) stuck ≡ went c us → cond b (put_char d (undoubled p ds)) None ≡ put_char c (undoubled p us)
    by_pair true f = let g : ◌≡◌ {A = ℕ × List ℕ} (d, ds) (c, us) = cc in λ i. put_char (g i).0 (undoubled p (g i).1)
    by_pair false f = cc

    by : (b : Bool) → cond b (cond (eqb x d) (went d ds) stuck) (went d (x ∷ ds)) ≡ went c us → cond b (cond (eqb x d) (put_char d (undoubled p ds)) None) (put_char d (undoubled p (x ∷ ds))) ≡ put_char c (undoubled p us)
    by true f = by_pair (eqb x d) f
    by false f = let g : ◌≡◌ {A = ℕ × List ℕ} (d, x ∷ ds) (c, us) = cc in λ i. put_char (g i).0 (undoubled p (g i).1)

joined : (out : List ℕ) (c : ℕ) (o : Option (List ℕ)) → option_map (λ cs. out ++ cs) (put_char c o) ≡ option_map (λ cs. (out ++ c ∷ []) ++ cs) o
joined out c None = refl
joined out c (Some cs) = ap (λ xs. Some xs) (sym (append_assoc out (c ∷ []) cs))

pub more : (p : ℕ → Bool) (all xs out more_out : List ℕ) (v : Option (ℕ × Bor (List ℕ))) (c : ℕ) (b : Bor (List ℕ)) → undoubled p all ≡ option_map (λ cs. out ++ cs) (undoubled p xs) → step_seen (Some v) ≡ step_at p xs → v ≡ Some (c, b) → more_out ≡ out ++ c ∷ []
    → undoubled p all ≡ option_map (λ cs. more_out ++ cs) (undoubled p b.now)
more p all xs out more_out v c b e f g h =
    e ∙ ap (option_map (λ cs. out ++ cs)) (step_on p xs c b.now (sym f ∙ ap (λ o. step_seen (Some o)) g)) ∙ joined out c (undoubled p b.now) ∙ ap (λ ys. option_map (λ cs. ys ++ cs) (undoubled p b.now)) (sym h)
