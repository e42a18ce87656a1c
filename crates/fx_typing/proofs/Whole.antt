-- The law for every node and for whole formulas: what is admitted is well typed.
use Rattle.std.proofs.Common.{◌≡◌, Option, Some, None, Ok, ap, sym, subst}
use Rattle.fx_types.specs.Types.{Shape, blanks, numbers, texts, booleans, dates, records, tables, no_columns, column}
use Rattle.fx_core.specs.Lawful.{IsLawful}
use Rattle.fx_core.specs.Tree as tree
use Rattle.fx_core.specs.Term.{Term}
use Rattle.fx_typing.specs.Local.{value, by_way}
use Rattle.fx_typing.specs.Meaning.{Place}
use Rattle.fx_typing.specs.Ways.{Way, same, changed, refused, way}
use Rattle.fx_typing.specs.WellTyped.{Context, IsTyped}
use Rattle.fx_typing.proofs.Rules.{Typed}
use Rattle.fx_typing.specs.Laws.{AdmittedIsTyped, IsWanted, AdmittedIsWanted}
use Rattle.fx_typing.specs.Parts.{JudgedPart, piece, Setting}
use Rattle.fx_typing.specs.Typing.{context_of, at_node, judge, outermost_setting, to_wanted, whole_argument, position}
use Rattle.fx_typing.proofs.Acting.{acting_typed}
use Rattle.fx_typing.proofs.Calls.{call_typed}
use Rattle.fx_typing.proofs.Frame.{PartTyped, IsSoundLocally, onward_ok, at_node_ok, judged_typed}
use Rattle.fx_typing.proofs.Heads.{IsSound, num_sound, text_sound, truth_sound, name_sound, global_sound, dot_sound, alias_sound, rec_sound, list_sound, chain_sound}
use Rattle.fx_typing.proofs.Operators.{AsTree, neg_typed, opposite_typed, percent_typed, pair_typed, joined_typed, all_typed, any_typed, woven_typed}
use Rattle.fx_typing.proofs.Steps.{came}
use Rattle.fx_typing.proofs.RelatedSteps.{ok_is}

-- a typed tree is sound
tree_sound : (p : Place) (s : Setting) (q : JudgedPart) → AsTree (context_of p s) q → IsSound p s q
tree_sound p s q t = subst (IsSound p s) t.1 (t.2, tt)

-- the local rule
pub sound_locally : (p : Place) → IsLawful p.names → IsSoundLocally p
sound_locally p law s (tree.num z) qs q e t m = num_sound p s qs q z e
sound_locally p law s (tree.text cs) qs q e t m = text_sound p s qs q cs e
sound_locally p law s (tree.truth b) qs q e t m = truth_sound p s qs q b e
sound_locally p law s (tree.name x) qs q e t m = name_sound p s qs q x law e
sound_locally p law s (tree.global x) qs q e t m = global_sound p s qs q x law e
sound_locally p law s (tree.dot x) qs q e t m = dot_sound p x law s qs q e t m
sound_locally p law s (tree.call x) qs q e t m =
    tree_sound p s q (call_typed p s x qs q (λ a y named made. acting_typed p s x qs a y t named made) e t)
sound_locally p law s tree.neg qs q e t m = tree_sound p s q (neg_typed p s qs q e t)
sound_locally p law s tree.opposite qs q e t m = tree_sound p s q (opposite_typed p s qs q e t)
sound_locally p law s tree.percent qs q e t m = tree_sound p s q (percent_typed p s qs q e t)
sound_locally p law s (tree.pair o) qs q e t m = tree_sound p s q (pair_typed p s qs q o e t)
sound_locally p law s tree.joined qs q e t m = tree_sound p s q (joined_typed p s qs q e t)
sound_locally p law s tree.all qs q e t m = tree_sound p s q (all_typed p s qs q e t)
sound_locally p law s tree.any qs q e t m = tree_sound p s q (any_typed p s qs q e t)
sound_locally p law s tree.chain qs q e t m = chain_sound p s qs q e t m
sound_locally p law s (tree.alias x) qs q e t m = alias_sound p x s qs q e t m
sound_locally p law s (tree.rec ns ps) qs q e t m = rec_sound p ns ps s qs q e t m
sound_locally p law s tree.list qs q e t m = list_sound p s qs q e t m
sound_locally p law s tree.woven qs q e t m = tree_sound p s q (woven_typed p s qs q e t)

-- a whole formula, as it is wanted
wanted_typed : (c : Context) (w : Option Shape) (k : Term) (t : Shape) (x : Term × Shape) → IsTyped c k t → to_wanted w (k, t) ≡ Ok x → Typed c x
wanted_typed c None k t x h e = subst (Typed c) (ok_is (k, t) x e) h
wanted_typed c (Some (tables no_columns)) k (tables cs) x h e = subst (Typed c) (ok_is (k, tables cs) x e) h
wanted_typed c (Some u) k t x h e = (came c k t u x e h).0

part_typed : (c : Context) (w : Option Shape) (q : JudgedPart) (x : Term × Shape) → PartTyped c q → whole_argument w q ≡ Ok x → Typed c x
part_typed c w (piece (value a k t)) x h e = wanted_typed c w k t x h e
part_typed c w q x h e = absurd cc

pub admitted_typed : AdmittedIsTyped
admitted_typed p b w e x law h =
    let a = onward_ok (judge p (outermost_setting b) e) (λ q. at_node (position e) (whole_argument w q)) x h in
    part_typed (context_of p (outermost_setting b)) w a.0 x (judged_typed p (sound_locally p law) (outermost_setting b) e a.0 a.1).0
    (at_node_ok (position e) (whole_argument w a.0) x a.2)

came_to : (w : Way) (k : Term) (u : Shape) (x : Term × Shape) → by_way w k u ≡ Ok x → x.1 ≡ u
came_to same k u x e = ap (λ (z : Term × Shape). z.1) (sym (ok_is (k, u) x e))
came_to changed k u x e = ap (λ (z : Term × Shape). z.1) (sym (ok_is _ x e))
came_to refused k u x e = absurd cc

wanted_met : (w : Option Shape) (k : Term) (t : Shape) (x : Term × Shape) → to_wanted w (k, t) ≡ Ok x → IsWanted w x.1
wanted_met None k t x e = tt
wanted_met (Some (tables no_columns)) k (tables cs) x e = (cs, ap (λ (z : Term × Shape). z.1) (sym (ok_is (k, tables cs) x e)))
wanted_met (Some (tables no_columns)) k t x e = (no_columns, came_to (way t (tables no_columns)) k (tables no_columns) x e)
wanted_met (Some (tables (column n v cs))) k t x e = came_to (way t (tables (column n v cs))) k (tables (column n v cs)) x e
wanted_met (Some blanks) k t x e = came_to (way t blanks) k blanks x e
wanted_met (Some numbers) k t x e = came_to (way t numbers) k numbers x e
wanted_met (Some texts) k t x e = came_to (way t texts) k texts x e
wanted_met (Some booleans) k t x e = came_to (way t booleans) k booleans x e
wanted_met (Some dates) k t x e = came_to (way t dates) k dates x e
wanted_met (Some (records cs)) k t x e = came_to (way t (records cs)) k (records cs) x e

part_met : (w : Option Shape) (q : JudgedPart) (x : Term × Shape) → whole_argument w q ≡ Ok x → IsWanted w x.1
part_met w (piece (value a k t)) x e = wanted_met w k t x e
part_met w q x e = absurd cc

pub admitted_wanted : AdmittedIsWanted
admitted_wanted p b w e x h =
    let a = onward_ok (judge p (outermost_setting b) e) (λ q. at_node (position e) (whole_argument w q)) x h in
    part_met w a.0 x (at_node_ok (position e) (whole_argument w a.0) x a.2)
