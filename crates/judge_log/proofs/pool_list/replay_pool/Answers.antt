use Rattle.std.proofs.Common.{◌≡◌, ◌≤◌, ◌+◌, ◌++◌, [], ◌∷◌, length, map, ap, ◌∙◌, arith}
use Rattle.key_names.specs.Lanes.PoolList.{crossing}
use Rattle.judge_log.specs.Tables.{tables_of}
use Rattle.judge_log.proofs.Loops.{found}
use Rattle.judge_log.proofs.PoolSteps.{pool_stops, pool_next, pool_visited, pool_end}
use Rattle.judge_log.proofs.pool_list.replay_pool.Goals as goal

pub returns-in_default-clause-none : goal.returns-in_default-clause-none
returns-in_default-clause-none c = λ mixed. absurd
    (pool_stops (tables_of c.args.inferred.now) (map (λ lane. lane.items) c.args.dumps.now) c.requires.dumps
    c.loop-one.one-index _
    (found c.deref-one-items.result.now c.args.inferred.now.pool.items c.loop-one.one-index _
    c.deref-one-items.ensures.value c.loop-one-test.true)
    (c.visit.ensures.none.0 c.in_default.is) mixed)

pub loop-one-preserved : goal.loop-one-preserved
loop-one-preserved c =
    pool_next (tables_of c.args.inferred.now) (c.loop-one.one-index + 1) c.visit.new.lane _ c.push.new.self.items
    (pool_visited (tables_of c.args.inferred.now) (map (λ lane. lane.items) c.args.dumps.now) c.requires.dumps
    c.loop-one.one-index _
    (found c.deref-one-items.result.now c.args.inferred.now.pool.items c.loop-one.one-index _
    c.deref-one-items.ensures.value c.loop-one-test.true)
    c.loop-one.lane c.loop-one.kept.items c.loop-one.invariant c.visit.new.lane c.visit.result c.visit.ensures.none.1
    c.visit.ensures.some c.in-Some.root c.in-Some.is c.crossed-crossing.result
    (c.crossed-crossing.ensures
    ∙ ap (λ b. crossing b c.bits.result) c.bits-before.ensures
    ∙ ap (crossing c.loop-one.lane.pool.bits) c.bits.ensures))
    (c.in_ok-push.ensures.items
    ∙ ap
    (λ b. c.loop-one.kept.items ++ record { before = b; crossing = c.crossed-crossing.result; root = c.in-Some.root } ∷ [])
    c.bits-before.ensures)

pub returns-clause-some : goal.returns-clause-some
returns-clause-some c =
    let same : length c.deref-one-items.result.now ≡ length c.args.inferred.now.pool.items =
    ap length c.deref-one-items.ensures.value in
    let up : c.loop-one.one-index ≤ length c.deref-one-items.result.now = c.loop-one.auto.one-index-end in
    let down : length c.deref-one-items.result.now ≤ c.loop-one.one-index = c.loop-one-test.false in
    pool_end (tables_of c.args.inferred.now) c.loop-one.one-index c.loop-one.lane c.loop-one.kept.items (omega arith)
    c.loop-one.invariant
