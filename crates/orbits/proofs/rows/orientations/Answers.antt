-- Each operation gives a row, which is new or is listed.
use Rattle.std.proofs.Common.{List, ℤ, Any, ap, map, subst, sym, ◌≡◌, ◌∙◌}
use Rattle.motions.specs.Views.{row_of, vector_of}
use Rattle.closure.specs.Groups.{group_listing}
use Rattle.orbits.proofs.FirstRows.{orientations_of_firsts, wide_from, wide_to}
use Rattle.orbits.proofs.RowLists.{all_rows, motion_is_small, no_rows, not_wide, passed_row, pushed_row, wide_row}
use Rattle.orbits.proofs.rows.orientations.Goals as goal
use Rattle.orbits.proofs.rows.orientations.Goals.{then-not-lists_row+in_ok-push, else-not-lists_row}

pub loop-m-init : goal.loop-m-init
loop-m-init c = no_rows (row_of c.args.plane) (map vector_of c.new-rows.result.items) (ap (map vector_of) c.new-rows.ensures.items)

pub row_image-row-requires : goal.row_image-row-requires
row_image-row-requires c = motion_is_small _ c.ops-m-items.result.now c.loop-m.m-index _ c.ops-m-items.ensures.small c.loop-m-test.true

pub returns-then-not-is_narrow-clause-refused : goal.returns-then-not-is_narrow-clause-refused
returns-then-not-is_narrow-clause-refused c = λ g of.
    wide_from g (group_listing c.args.group.now) of.alike (row_of c.args.plane)
    (wide_row (row_of c.args.plane) c.ops-m-items.result.now c.loop-m.m-index _ c.loop-m-test.true c.row_image-row.result c.row_image-row.ensures
    (group_listing c.args.group.now) c.ops-m-items.ensures.ops (λ n. cc (c.if-not-is_narrow.ensures.1 n)))

pub loop-m-preserved : goal.loop-m-preserved
loop-m-preserved c =
    let row = c.row_image-row.result in
    let P : List (List ℤ) → Type 0 = λ l. Any (λ v. vector_of row ≡ v) (map vector_of l) in
    let new = pushed_row (row_of c.args.plane) c.ops-m-items.result.now c.loop-m.m-index _ c.loop-m-test.true row c.row_image-row.ensures
    c.loop-m.rows.items c.if-not-lists_row.rows.items (c.is_narrow.ensures.0 c.if-not-is_narrow.false) c.loop-m.invariant in
    let old = passed_row (row_of c.args.plane) c.ops-m-items.result.now c.loop-m.m-index _ c.loop-m-test.true row c.row_image-row.ensures
    c.loop-m.rows.items c.if-not-lists_row.rows.items (c.is_narrow.ensures.0 c.if-not-is_narrow.false) c.loop-m.invariant in
    elim c.if-not-lists_row.branch [
      | then-not-lists_row+in_ok-push w ↦
          new ((λ t. (w.rows-is t).items) ∙ w.in_ok-push.ensures.items)
          (λ a. cc (c.lists_row.ensures.1 (subst P (sym c.deref.ensures.value) a), w.if-not-lists_row.true))
      | else-not-lists_row w ↦ old (λ t. (w.rows-is t).items) (subst P c.deref.ensures.value (c.lists_row.ensures.0 w.if-not-lists_row.false))
    ]

pub returns-clause-narrow : goal.returns-clause-narrow
returns-clause-narrow c = λ g of wide.
    let h = group_listing c.args.group.now in
    let r = row_of c.args.plane in
    not_wide h r (map vector_of c.loop-m.rows.items)
    (all_rows h r c.ops-m-items.result.now c.loop-m.m-index (map vector_of c.loop-m.rows.items) c.ops-m-items.ensures.ops c.loop-m-test.false c.loop-m.invariant)
    (wide_to g h of.alike r wide)

pub returns-clause-rows : goal.returns-clause-rows
returns-clause-rows c = λ g of.
    (orientations_of_firsts g (group_listing c.args.group.now) (row_of c.args.plane) _ of.firsts).1
    (all_rows (group_listing c.args.group.now) (row_of c.args.plane) c.ops-m-items.result.now c.loop-m.m-index (map vector_of c.loop-m.rows.items)
    c.ops-m-items.ensures.ops c.loop-m-test.false c.loop-m.invariant).first
