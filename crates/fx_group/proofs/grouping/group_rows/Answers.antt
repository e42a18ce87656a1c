use Rattle.std.proofs.Common.{◌≡◌, List, [], ◌∷◌, ◌++◌, append_assoc, append-nil, ap, arith, map, rules, sym, subst, ◌∙◌}
use Rattle.std.specs.List.{All}
use Rattle.std.proofs.lemmas.List.{nil_from_length}
use Rattle.std.proofs.lemmas.List.Elements.{All-head, All-nil, All-push, All-rest}
use Rattle.std.proofs.lemmas.Result.{IfOk-weaker}
use Rattle.fx_tables.specs.Groups.{firsts_of, grouped_row, value_of}
use Rattle.fx_types.specs.ValueView.{view}
use Rattle.fx_types.specs.Words.{scalars_of}
use Rattle.fx_value.specs.Columns.{Row, fields_only, rows_with_column}
use Rattle.fx_value.specs.Keys.{IsProper}
use Rattle.fx_group.specs.Buckets.{HasKey, HoldsGroups}
use Rattle.fx_group.proofs.Bytes.{all_keys, all_tell, have_keys}
use Rattle.fx_group.proofs.Grouped.{as_long, rows_grouped, shown_lack}
use Rattle.fx_group.proofs.grouping.group_rows.Goals as goal

pub loop-row-init : goal.loop-row-init
loop-row-init c =
    let ns = c.args.keys.now in
    let keys = have_keys ns c.args.rows (all_keys ns (scalars_of c.args.group.now) c.args.rows c.requires.can c.requires.faultless) in
    let e : c.into_iter-row-iterator.result.rest.items ≡ c.args.rows = search rules in (
      [],
      e,
      c.new-buckets.ensures ns,
      subst (All (HasKey ns)) (sym e) keys,
      All-nil (λ r. All (λ n. IsProper (value_of n r)) ns),
    )

pub put_row-requires : goal.put_row-requires
put_row-requires c =
    let ns = c.args.keys.now in
    let inv = c.loop-row.invariant in
    record {
      key = All-head (HasKey ns) c.in-Some.row c.next.new.self.rest.items (subst (All (HasKey ns)) c.in-Some.ensures.steps.0 inv.3);
      held = (inv.0, inv.2);
    }

pub loop-row-preserved : goal.loop-row-preserved
loop-row-preserved c =
    let ns = c.args.keys.now in
    let inv = c.loop-row.invariant in
    let r = c.in-Some.row in
    let rest = c.next.new.self.rest.items in
    let left = c.in-Some.ensures.steps.0 in
    let put = c.in_ok-put_row.ensures in (
      inv.0 ++ r ∷ [],
      append_assoc inv.0 (r ∷ []) rest ∙ ap (λ z. inv.0 ++ z) (sym left) ∙ inv.1,
      put.held inv.0 inv.2,
      All-rest (HasKey ns) r rest _ left inv.3,
      All-push (λ x. All (λ n. IsProper (value_of n x)) ns) inv.0 r inv.4 put.proper,
    )

pub add_column-requires : goal.add_column-requires
add_column-requires c =
    let ns = c.args.keys.now in
    let rows = c.args.rows in
    let inv = c.loop-row.invariant in
    let b = c.loop-row.buckets in
    let ended = c.in-None.ensures.steps in
    let none = nil_from_length c.loop-row.row-iterator.rest.items (omega arith) in
    let all : inv.0 ≡ rows = sym (append-nil inv.0) ∙ ap (λ z. inv.0 ++ z) (sym none) ∙ inv.1 in
    let held = subst (HoldsGroups ns b) all inv.2 in
    let shown = c.in_ok-shown.ensures ∙ ap (map (fields_only ns)) c.from_items.ensures in
    record {
      new = shown_lack ns (scalars_of c.args.group.now) b rows c.in_ok-shown.shown held c.requires.can.new shown;
      long = as_long ns b rows c.in_ok-shown.shown c.in_ok-tables.tables.items held shown c.in_ok-tables.ensures;
    }

pub returns : goal.returns
returns c =
    let ns = c.args.keys.now in
    let g = scalars_of c.args.group.now in
    let rows = c.args.rows in
    let inv = c.loop-row.invariant in
    let b = c.loop-row.buckets in
    let ended = c.in-None.ensures.steps in
    let none = nil_from_length c.loop-row.row-iterator.rest.items (omega arith) in
    let all : inv.0 ≡ rows = sym (append-nil inv.0) ∙ ap (λ z. inv.0 ++ z) (sym none) ∙ inv.1 in
    let held = subst (HoldsGroups ns b) all inv.2 in
    let proper = subst (All (λ r. All (λ n. IsProper (value_of n r)) ns)) all inv.4 in
    let keys = all_keys ns g rows c.requires.can c.requires.faultless in
    let tell = all_tell c.keys_order.ensures.order ns rows keys proper in
    let shown = c.in_ok-shown.ensures ∙ ap (map (fields_only ns)) c.from_items.ensures in
    let tables = map view c.in_ok-tables.tables.items in
    IfOk-weaker c.add_column.result (λ r. r ≡ rows_with_column g c.in_ok-shown.shown tables) (λ r. r ≡ map (grouped_row ns g rows) (firsts_of ns rows))
    (λ r e. rows_grouped ns g b rows c.in_ok-shown.shown r tables held tell shown c.in_ok-tables.ensures e) c.add_column.ensures
