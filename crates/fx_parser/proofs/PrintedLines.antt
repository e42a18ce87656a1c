-- A line has the formulas of every tighter line.
use Rattle.std.proofs.Common.{◌≡◌, ℕ, zero, suc, ◌+◌, ◌-◌, ◌≤◌, true, List, refl, sym, subst, arith, leb}
use Rattle.std.proofs.lemmas.Bool.Decides.{nat_tests}
use Rattle.fx_core.specs.Tree.{Tree}
use Rattle.fx_grammar.specs.declared.item.Item.{Item}
use Rattle.fx_grammar.specs.declared.line.Join.TheVariants as join
use Rattle.fx_grammar.specs.declared.line.Left.TheVariants as left
use Rattle.fx_grammar.specs.declared.line.Line.{Line}
use Rattle.fx_grammar.specs.declared.line.Line.TheVariants.{Chain, Several, By, Alias, Prefix, Power, Percent, Access, Atom}
use Rattle.fx_grammar.specs.Grammar.{Parses, plain, one, first, no_alias, no_sign, base, no_percent, no_dot}
use Rattle.fx_parser.specs.Printing.{looseness}

-- the line of this looseness
abbrev level : ℕ → Line
level zero = Atom
level (suc zero) = Access
level (suc (suc zero)) = Percent
level (suc (suc (suc zero))) = Power
level (suc (suc (suc (suc zero)))) = Prefix
level (suc (suc (suc (suc (suc zero))))) = Alias
level (suc (suc (suc (suc (suc (suc zero)))))) = By left.Prod
level (suc (suc (suc (suc (suc (suc (suc zero))))))) = By left.Sum
level (suc (suc (suc (suc (suc (suc (suc (suc zero)))))))) = Several join.Cat
level (suc (suc (suc (suc (suc (suc (suc (suc (suc zero))))))))) = By left.Comp
level (suc (suc (suc (suc (suc (suc (suc (suc (suc (suc zero)))))))))) = By left.Member
level (suc (suc (suc (suc (suc (suc (suc (suc (suc (suc (suc zero))))))))))) = Several join.And
level (suc (suc (suc (suc (suc (suc (suc (suc (suc (suc (suc (suc zero)))))))))))) = Several join.Or
level (suc (suc (suc (suc (suc (suc (suc (suc (suc (suc (suc (suc (suc zero))))))))))))) = Several join.Chain
level (suc (suc (suc (suc (suc (suc (suc (suc (suc (suc (suc (suc (suc (suc n)))))))))))))) = Chain

level_of : (l : Line) → level (looseness l) ≡ l
level_of Atom = refl
level_of Access = refl
level_of Percent = refl
level_of Power = refl
level_of Prefix = refl
level_of Alias = refl
level_of (By left.Prod) = refl
level_of (By left.Sum) = refl
level_of (Several join.Cat) = refl
level_of (By left.Comp) = refl
level_of (By left.Member) = refl
level_of (Several join.And) = refl
level_of (Several join.Or) = refl
level_of (Several join.Chain) = refl
level_of Chain = refl

module _ (d : ℕ) (ts : List Item) (t : Tree) (rest : List Item) where
  up : (n : ℕ) → Parses (level n) d ts t rest → Parses (level (suc n)) d ts t rest
  up zero p = no_dot d ts t rest p
  up (suc zero) p = no_percent d ts t rest p
  up (suc (suc zero)) p = base d ts t rest p
  up (suc (suc (suc zero))) p = no_sign d ts t rest p
  up (suc (suc (suc (suc zero)))) p = no_alias d ts t rest p
  up (suc (suc (suc (suc (suc zero))))) p = first left.Prod d ts t rest p
  up (suc (suc (suc (suc (suc (suc zero)))))) p = first left.Sum d ts t rest p
  up (suc (suc (suc (suc (suc (suc (suc zero))))))) p = one join.Cat d ts t rest p
  up (suc (suc (suc (suc (suc (suc (suc (suc zero)))))))) p = first left.Comp d ts t rest p
  up (suc (suc (suc (suc (suc (suc (suc (suc (suc zero))))))))) p = first left.Member d ts t rest p
  up (suc (suc (suc (suc (suc (suc (suc (suc (suc (suc zero)))))))))) p = one join.And d ts t rest p
  up (suc (suc (suc (suc (suc (suc (suc (suc (suc (suc (suc zero))))))))))) p = one join.Or d ts t rest p
  up (suc (suc (suc (suc (suc (suc (suc (suc (suc (suc (suc (suc zero)))))))))))) p = one join.Chain d ts t rest p
  up (suc (suc (suc (suc (suc (suc (suc (suc (suc (suc (suc (suc (suc zero))))))))))))) p = plain d ts t rest p
  up (suc (suc (suc (suc (suc (suc (suc (suc (suc (suc (suc (suc (suc (suc n)))))))))))))) p = p

  climb : (i n k : ℕ) → i + n ≡ k → Parses (level n) d ts t rest → Parses (level k) d ts t rest
  climb zero n k e p = let f : n ≡ k = omega arith in subst (λ x. Parses (level x) d ts t rest) f p
  climb (suc i) n k e p = climb i (suc n) k (omega arith) (up n p)

  pub holds : (l k : Line) → leb (looseness k) (looseness l) ≡ true → Parses k d ts t rest → Parses l d ts t rest
  holds l k e p =
      let h : looseness k ≤ looseness l = grind (arith, nat_tests) in
      let P : Line → Type 0 = λ x. Parses x d ts t rest in
      subst P (level_of l) (climb (looseness l - looseness k) (looseness k) (looseness l) (omega arith) (subst P (sym (level_of k)) p))
