use Rattle.std.proofs.Common.{◌+◌, ◌-◌, sym, ◌∙◌, arith}
use Rattle.record.proofs.Fills.{node_fillable, filled_none, node_filled, next_fillable, run_filled}
use Rattle.record.specs.Nodes.{count}
use Rattle.record.proofs.Begins.{begins, place_some, place_none}
use Rattle.record.proofs.fill.+filling.Goals as goal
use Rattle.record.proofs.fill.+filling.Goals.{fill_node-then-head, fill_node-else-head, fill_node-then-head-end, fill_node-else-head-end}

pub fill_node-open-head-requires : goal.fill_node-open-head-requires
fill_node-open-head-requires t c = record { at_in_bounds = (node_fillable c.requires.fillable c.requires.at_lt_end).head_fits; bytes_len_bound = c.requires.fillable.short }

pub fill_node-overflow_sub-below : goal.fill_node-overflow_sub-below
fill_node-overflow_sub-below t c = (node_fillable c.requires.fillable c.requires.at_lt_end).some

pub fill_node-fill_run-left-requires : goal.fill_node-fill_run-left-requires
fill_node-fill_run-left-requires t c =
    let w = node_fillable c.requires.fillable c.requires.at_lt_end in
    let e = w.ends c.open-head.ensures in
    let m = c.decreases in
    let l = c.requires.at_lt_end in
    (omega arith, w.inner c.open-head.ensures)

pub fill_node-bounds-list-below : goal.fill_node-bounds-list-below
fill_node-bounds-list-below t c =
    let k = c.fill_run-left.auto.list in
    let l = c.requires.fillable.top_fits in
    let m = (node_fillable c.requires.fillable c.requires.at_lt_end).some in
    omega arith

pub fill_node-returns : goal.fill_node-returns
fill_node-returns t c =
    λ base k t' i a s e.
    let b = begins s c.requires.fillable.up c.requires.fillable.fits c.open-head.ensures in
    let l = c.requires.fillable.fits in
    let x = b.inside_is in
    let y = b.end_is in
    let z = b.fits in
    let f = c.fill_run-left.ensures (base + count a) i b.inner (omega arith) in
    node_filled c.args.list.now c.fill_run-left.new.list base k t' i a b c.requires.fillable.top_fits e
    f
    (elim c.if-head.branch [
      | fill_node-then-head w ↦ w.inside-is ∙ place_some (base + count a) (c.args.top - 1) i b.inner (omega arith) (omega arith) w.if-head.true
      | fill_node-else-head w ↦ w.inside-is ∙ place_none (base + count a) i b.inner (omega arith) (omega arith) w.if-head.false
    ])
    (elim c.if-head-end.branch [
      | fill_node-then-head-end w ↦ w.after-is ∙ place_some base c.fill_run-left.result a b.rest (omega arith) (sym f.left_is) w.if-head-end.true
      | fill_node-else-head-end w ↦ w.after-is ∙ place_none base a b.rest (omega arith) (omega arith) w.if-head-end.false
    ])

pub fill_run-returns-then-at-end : goal.fill_run-returns-then-at-end
fill_run-returns-then-at-end t c = λ base n s e. filled_none c.args.list.now base n s c.requires.up c.requires.fits c.if-at-end.true e

pub fill_run-fill_run-requires : goal.fill_run-fill_run-requires
fill_run-fill_run-requires t c =
    let n = next_fillable c.args.list.now c.fill_node-passed.new.list c.fill_node-passed.result c.if-at-end.false c.fill_node-passed.auto.list c.fill_node-passed.ensures c.requires in
    let m = c.decreases in
    let l = c.if-at-end.false in
    let f = n.0 in
    (omega arith, n.1)

pub fill_run-returns : goal.fill_run-returns
fill_run-returns t c =
    run_filled c.args.list.now c.fill_node-passed.new.list c.fill_node-passed.result c.if-at-end.false c.fill_node-passed.auto.list c.fill_node-passed.ensures
    c.fill_run.new.list c.fill_run.result c.requires.top_fits c.requires.fits c.fill_run.ensures
