use Rattle.std.proofs.Common.{arith}
use Rattle.record.proofs.Parsing.{run_none, faulty, ready_inside, node_parsed, ready_after, run_more}
use Rattle.record.proofs.parse.Rest.+parsing.Goals as goal

pub parse_node-parse_run-requires : goal.parse_node-parse_run-requires
parse_node-parse_run-requires t c =
    let w = c.in-Ok.ensures in
    let r = ready_inside c.requires.ready c.requires.at_lt_end w in
    let i = w.headed.inside_is in
    let e = w.headed.end_is in
    let s = w.sound.size_fits in
    let l = c.requires.at_lt_end in
    let m = c.decreases in
    (omega arith, r)

pub parse_node-returns-in-Err : goal.parse_node-returns-in-Err
parse_node-returns-in-Err t c = faulty c.requires.ready c.requires.at_lt_end c.in-Err.flaw c.in-Err.ensures

pub parse_node-returns-in_ok-count-in-Ok : goal.parse_node-returns-in_ok-count-in-Ok
parse_node-returns-in_ok-count-in-Ok t c = node_parsed c.in-Ok.ensures c.in_ok-count-in-Ok.ensures

pub parse_run-loop-rest-preserved : goal.parse_run-loop-rest-preserved
parse_run-loop-rest-preserved t c =
    let i = c.loop-rest.invariant in
    let u = i.up in
    let w = c.in_ok-passed.ensures in
    let n = w.next_is in
    record { same = i.same; end = i.end; up = omega arith; ready = ready_after i.ready c.loop-rest-test.true w; whole = λ m v. i.whole m (run_more i.ready w v) }

pub parse_run-returns : goal.parse_run-returns
parse_run-returns t c = let i = c.loop-rest.invariant in i.whole c.loop-rest.rest.before (run_none i.ready c.loop-rest-test.false)
