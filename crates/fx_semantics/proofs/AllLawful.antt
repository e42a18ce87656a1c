-- The types of all trees have rising columns where those around, and those that the tree names, have.
use Rattle.std.proofs.Common.{◌≡◌, ℕ, List, [], ◌∷◌, ◌++◌, length, false, Some, refl, sym, subst}
use Rattle.fx_types.specs.Types.{Shape, booleans, texts, tables}
use Rattle.fx_semantics.specs.Laws.{AllTypingsLawful}
use Rattle.fx_semantics.specs.NamedTypes.{HasLawfulTypes, HaveLawfulTypes, NamesLawfulType}
use Rattle.fx_semantics.proofs.Stilled.{stills, stills_lawful, stills_typed, same_count, still_ruled}
use Rattle.fx_semantics.proofs.Whole.{lawful_here, parts_lawful}
use Rattle.fx_semantics.specs.Sound.{AreLawfulTypes, AreLawfulTypings, IsLawfulContext, IsLawfulTyping, IsLawfulType, NamesLawful, TypingsLawful}
use Rattle.fx_core.specs.declared.deeds.Deed.{Deed}
use Rattle.fx_core.specs.declared.deeds.Deed.TheVariants as deed
use Rattle.fx_core.specs.Term.{Term, Terms, of, nil, cons, Top}
use Rattle.fx_core.specs.Term as top
use Rattle.fx_typing.specs.Acts.{is_acting}
use Rattle.fx_typing.specs.WellTyped.{Context, DeedHasType, IsRuled, IsTyped, AreTyped, context_for, last_type, parts_count, standing_at, target_source}
use Rattle.fx_semantics.proofs.Lawful.{context_lawful, types_more}

-- ---- what acts
last_lawful : (us : List Shape) (t : Shape) → AreLawfulTypes us → last_type us ≡ Some t → IsLawfulType t
last_lawful [] t l e = absurd cc
last_lawful (u ∷ []) t l e = let same : u ≡ t = cc in subst IsLawfulType same l.0
last_lawful (u ∷ v ∷ us) t l e = last_lawful (v ∷ us) t l.1 e

answers_true : (t : Shape) → t ≡ booleans → IsLawfulType t
answers_true t e = subst IsLawfulType (sym e) tt

deed_lawful : (c : Context) (d : Deed) (ts : Terms) (us : List Shape) (t : Shape) → IsLawfulContext c → DeedHasType c d ts us t → IsLawfulType t
deed_lawful c (deed.Set i) ts (u ∷ []) t k r = answers_true t r.1
deed_lawful c (deed.UpdateContext ss) ts us t k r = answers_true t r.1
deed_lawful c (deed.Collect i) ts us t k r = answers_true t r.3
deed_lawful c (deed.Clear i) ts [] t k r = answers_true t r.2
deed_lawful c (deed.ClearCollect i) ts us t k r = answers_true t r.3
deed_lawful c (deed.Patch p) ts (base ∷ us) t k r = subst IsLawfulType (sym r.4) (k.of_sources (target_source p) (tables r.0) r.1)
deed_lawful c (deed.Remove p) ts us t k r = answers_true t r.3
deed_lawful c (deed.RemoveIf p) (cons f nil) us t k r = answers_true t r.1
deed_lawful c (deed.UpdateIf p) (cons f (cons g nil)) (w ∷ u ∷ []) t k r = answers_true t r.4
deed_lawful c (deed.Navigate s) ts [] t k r = answers_true t r.1
deed_lawful c deed.Notify ts (texts ∷ []) t k r = answers_true t r
deed_lawful c (deed.Reset i) ts [] t k r = answers_true t r.1
deed_lawful c d ts us t k r = absurd r

-- ---- each node: one that doesn't act has the type that it has with parts that do nothing
still_node : TypingsLawful → (c : Context) (h : Top) (ts : Terms) (us : List Shape) (t : Shape) → IsLawfulContext c → NamesLawful h → is_acting h ≡ false → AreLawfulTypes us →
    AreTyped c h (parts_count ts) [] ts us → IsRuled c h ts us t → IsLawfulType t
still_node law c h ts us t k n q l w r =
    let parts : AreTyped c h (parts_count (stills ts)) [] (stills ts) us =
    subst (λ m. AreTyped c h m [] (stills ts) us) (same_count ts) (stills_typed c h (parts_count ts) [] ts us w l) in
    let whole : IsTyped c (of h (stills ts)) t = (us, parts, still_ruled c h ts us t q r) in
    lawful_here c (of h (stills ts)) t whole (law c (of h (stills ts)) t whole k (n, stills_lawful ts))

node_lawful : TypingsLawful → (c : Context) (h : Top) (ts : Terms) (us : List Shape) (t : Shape) → IsLawfulContext c → NamesLawfulType h → AreLawfulTypes us →
    AreTyped c h (parts_count ts) [] ts us → IsRuled c h ts us t → IsLawfulType t
node_lawful law c top.chain ts us t k n l w r = last_lawful us t l r
node_lawful law c (top.act d) ts us t k n l w r = deed_lawful c d ts us t k r
node_lawful law c h ts us t k n l w r = still_node law c h ts us t k n refl l w r

-- ---- whole trees
mutual
  tree_lawful : TypingsLawful → (c : Context) (t : Term) (s : Shape) (w : IsTyped c t s) → IsLawfulContext c → HasLawfulTypes t → IsLawfulTyping c t s w
  tree_lawful law c (of h ts) s w k l =
      let parts = trees_lawful law c h (parts_count ts) [] ts w.0 w.1 tt k l.1 in
      (node_lawful law c h ts w.0 s k l.0 (parts_lawful c h (parts_count ts) [] ts w.0 w.1 parts) w.1 w.2, parts)

  trees_lawful : TypingsLawful → (c : Context) (h : Top) (n : ℕ) (done : List Shape) (ts : Terms) (us : List Shape) (w : AreTyped c h n done ts us) → AreLawfulTypes done → IsLawfulContext c →
      HaveLawfulTypes ts → AreLawfulTypings c h n done ts us w
  trees_lawful law c h n done nil us w d k l = tt
  trees_lawful law c h n done (cons t ts) us w d k l =
      let here = context_for (standing_at h n (length done)) c done in
      let first = tree_lawful law here t w.0 w.3 (context_lawful (standing_at h n (length done)) c done d k) l.0 in
      (first, trees_lawful law c h n (done ++ w.0 ∷ []) ts w.1 w.4 (types_more done w.0 d (lawful_here here t w.0 w.3 first)) k l.1)

-- THE law: all types of a tree are lawful, by the law of those that don't act
pub all_lawful : TypingsLawful → AllTypingsLawful
all_lawful law c t s w k l = tree_lawful law c t s w k l
