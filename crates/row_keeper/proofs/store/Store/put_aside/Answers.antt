use Rattle.std.proofs.Common.{◌≡◌, ◌∙◌, Option, Some, ap, subst, sym, true}
use Rattle.std.specs.Prelude.{IfNone, IfSome}
use Rattle.row_keeper.specs.Kept.{IsKept}
use Rattle.row_keeper.specs.StoreView.{StoreView, tables_then}
use Rattle.row_keeper.specs.TableView.{states_now}
use Rattle.row_keeper.specs.declared.store.Aside.{Aside}
use Rattle.row_keeper.proofs.StoreLemmas.{kept_aside, moved_kept}
use Rattle.row_keeper.proofs.store.Store.put_aside.Goals as goal

pub invariant_of-self : goal.invariant_of-self
invariant_of-self c =
    let s = c.self.inside in
    let begun : s.is_begun ≡ true = ap (λ (w : StoreView). w.is_begun) c.self.view_is ∙ c.requires.begun in
    let it : Aside = record { schema = c.replace-schema.result; tables = c.replace-tables.result } in
    let first = subst (λ (o : Option Aside). IfSome o (λ (a : Aside). c.first_of.result ≡ Some a)) c.take.ensures.value c.first_of.ensures.first in
    let now = subst (λ (o : Option Aside). IfNone o (c.first_of.result ≡ Some it)) c.take.ensures.value c.first_of.ensures.now in
    let kept = kept_aside s.schema s.tables.items s.aside c.first_of.result it s.is_begun c.self.invariant c.replace-schema.ensures.value (ap (λ v. v.items) c.replace-tables.ensures.value) first now in
    subst (λ v. IsKept c.replace-schema.new.dest v.items c.first_of.result s.is_begun) (sym c.replace-tables.ensures.after)
    (subst (λ o. IsKept o c.args.tables.items c.first_of.result s.is_begun) (sym c.replace-schema.ensures.after)
    (moved_kept c.args.schema c.args.tables.items c.first_of.result c.requires.lawful c.requires.columns kept.0 s.is_begun begun))

pub returns-clause-now : goal.returns-clause-now
returns-clause-now c = λ k. record { kept = c.replace-schema.ensures.after k; states = states_now (c.replace-tables.ensures.after k).items }

pub returns-clause-then : goal.returns-clause-then
returns-clause-then c =
    let s = c.self.inside in
    let it : Aside = record { schema = c.replace-schema.result; tables = c.replace-tables.result } in
    let first = subst (λ (o : Option Aside). IfSome o (λ (a : Aside). c.first_of.result ≡ Some a)) c.take.ensures.value c.first_of.ensures.first in
    let now = subst (λ (o : Option Aside). IfNone o (c.first_of.result ≡ Some it)) c.take.ensures.value c.first_of.ensures.now in
    let kept = kept_aside s.schema s.tables.items s.aside c.first_of.result it s.is_begun c.self.invariant c.replace-schema.ensures.value (ap (λ v. v.items) c.replace-tables.ensures.value) first now in
    let both = kept.1 c.replace-schema.new.dest c.replace-tables.new.dest.items in
    (λ k. record { kept = both.0 k; states = both.1 k }) ∙ ap tables_then c.self.view_is
