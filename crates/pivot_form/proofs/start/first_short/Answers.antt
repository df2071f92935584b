use Rattle.std.proofs.Common.{◌≡◌, ◌+◌, ◌∙◌, ap, sym, subst, get_or, length, List, Option, None}
use Rattle.pivot_form.specs.declared.places.Pair.{Pair}
use Rattle.pivot_form.specs.Invariant.{row_lists}
use Rattle.pivot_form.specs.Kept.{table_of}
use Rattle.pivot_form.specs.Shorts.{IsShort, store_of}
use Rattle.pivot_form.specs.Starts.{AreFirstRows}
use Rattle.pivot_form.proofs.Starts.{made_start, no_cost_pair, start_is_first, start_of, start_short}
use Rattle.pivot_form.proofs.start.first_short.Goals as goal

pub places_of-requires-clause-cost : goal.places_of-requires-clause-cost
places_of-requires-clause-cost c =
    let p = c.args.program.now in
    ap (λ (xs : List (Option Pair)). get_or xs 0 None) c.as_slice.ensures.value ∙ no_cost_pair (length p.costs) p.rows (length p.rows) c.in_ok-pairs.pairs.items c.in_ok-pairs.ensures

-- what the vectors keep is the start
kept : (c : goal.In_ok-rows)
    → store_of (record { width = c.len-width.result; basics = c.in_ok-basics.basics; places = c.in_ok-places.places; pairs = c.in_ok-pairs.pairs; rows = c.in_ok-rows.rows }) ≡ start_of c.args.program.now c.in_ok-pairs.pairs.items (row_lists c.in_ok-rows.rows.items)
kept c = made_start c.args.program.now c.len-width.result c.len.result c.in_ok-basics.basics.items c.in_ok-places.places.items c.in_ok-pairs.pairs.items c.as_slice.result.now (row_lists c.in_ok-rows.rows.items)
    c.len-width.ensures c.len.ensures c.as_slice.ensures.value c.in_ok-pairs.ensures c.in_ok-basics.ensures c.in_ok-places.ensures

rows_are : (c : goal.In_ok-rows) → AreFirstRows c.args.program.now c.in_ok-pairs.pairs.items (length c.args.program.now.rows + 1) (row_lists c.in_ok-rows.rows.items)
rows_are c = subst (λ (xs : List (Option Pair)). AreFirstRows c.args.program.now xs (length c.args.program.now.rows + 1) (row_lists c.in_ok-rows.rows.items)) c.as_slice-2.ensures.value c.in_ok-rows.ensures

pub returns-clause-value : goal.returns-clause-value
returns-clause-value c = ap table_of (kept c) ∙ start_is_first c.args.program.now c.in_ok-pairs.pairs.items (row_lists c.in_ok-rows.rows.items) c.in_ok-pairs.ensures (rows_are c)

pub returns-clause-short : goal.returns-clause-short
returns-clause-short c = subst IsShort (sym (kept c)) (start_short c.args.program.now c.in_ok-pairs.pairs.items (row_lists c.in_ok-rows.rows.items) c.in_ok-pairs.ensures (rows_are c))
