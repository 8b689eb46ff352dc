use Rattle.std.proofs.Common.{◌≡◌, ◌≤◌, ◌+◌, ◌++◌, [], ◌∷◌, length, refl, sym, subst, ap, ◌∙◌, false, true, not, Bool, IsTrue, arith}
use Rattle.key_names.specs.Lanes.Book.{list_at, cpu_list}
use Rattle.judge_log.specs.Closed.{closed}
use Rattle.judge_log.specs.Dumps.{DueAt, DumpIs}
use Rattle.judge_log.specs.Tables.{tables_of}
use Rattle.judge_log.proofs.Dumps.{sample_stops, sample_more}
use Rattle.judge_log.proofs.Filling.{closed_fills}
use Rattle.judge_log.proofs.Lanes.{lane_is}
use Rattle.judge_log.proofs.Loops.{After, found, after_none, after_all}
use Rattle.judge_log.proofs.samples.dumps_of.Goals as goal

pub loop-one-init : goal.loop-one-init
loop-one-init c = record {
  items = c.deref-one-items.ensures.value
      ∙ lane_is c.args.inferred.now.cpus.items c.args.cpu c.index.result.now c.requires c.index.ensures;
  fast = c.start-fast.ensures;
  following = (let P = After (DueAt (tables_of c.args.inferred.now) c.args.cpu)
      (DumpIs (closed (tables_of c.args.inferred.now)) c.args.cpu)
      (cpu_list (closed (tables_of c.args.inferred.now)) c.args.cpu) 0 in
      subst P (sym c.new-dumps.ensures.items)
      (after_none (DueAt (tables_of c.args.inferred.now) c.args.cpu)
      (DumpIs (closed (tables_of c.args.inferred.now)) c.args.cpu)
      (cpu_list (closed (tables_of c.args.inferred.now)) c.args.cpu)));
}

pub returns-then-not-sample-clause-none : goal.returns-then-not-sample-clause-none
returns-then-not-sample-clause-none c = λ all. absurd
    (sample_stops (tables_of c.args.inferred.now) c.args.cpu c.loop-one.one-index _ c.loop-one.fast
    (found c.deref-one-items.result.now (list_at (tables_of c.args.inferred.now).cpus c.args.cpu) c.loop-one.one-index _
    c.loop-one.invariant.items c.loop-one-test.true)
    c.loop-one.invariant.fast
    (λ due. fits_not c.take_sample-sample.result.fits c.if-not-sample.true (c.take_sample-sample.ensures.fits.1 due)) all)
  where
    fits_not : (b : Bool) → not b ≡ true → IsTrue b → ⊥
    fits_not true is h = cc
    fits_not false is h = cc

pub loop-one-preserved : goal.loop-one-preserved
loop-one-preserved c =
    let fits : IsTrue c.take_sample-sample.result.fits = yes c.take_sample-sample.result.fits c.if-not-sample.false in
    let more = sample_more (tables_of c.args.inferred.now) c.args.cpu c.loop-one.one-index _ c.loop-one.fast
    (found c.deref-one-items.result.now (list_at (tables_of c.args.inferred.now).cpus c.args.cpu) c.loop-one.one-index _
    c.loop-one.invariant.items c.loop-one-test.true)
    c.loop-one.invariant.fast c.loop-one.dumps.items (c.take_sample-sample.ensures.fits.0 fits)
    c.loop-one.invariant.following in
    record {
      items = c.loop-one.invariant.items;
      fast = c.take_sample-sample.ensures.state ∙ more.1;
      following = (let P = After (DueAt (tables_of c.args.inferred.now) c.args.cpu)
          (DumpIs (closed (tables_of c.args.inferred.now)) c.args.cpu)
          (cpu_list (closed (tables_of c.args.inferred.now)) c.args.cpu) (c.loop-one.one-index + 1) in
          subst P (sym (c.in_ok-push.ensures.items
          ∙ ap (λ d. c.loop-one.dumps.items ++ d ∷ []) c.take_sample-sample.ensures.dump)) more.0);
    }
  where
    yes : (b : Bool) → not b ≡ false → IsTrue b
    yes true is = refl
    yes false is = cc

pub returns-clause-some : goal.returns-clause-some
returns-clause-some c =
    let counts : length (cpu_list (closed (tables_of c.args.inferred.now)) c.args.cpu) ≡
    length (list_at (tables_of c.args.inferred.now).cpus c.args.cpu) =
    (closed_fills (tables_of c.args.inferred.now)).cpu_count c.args.cpu in
    let same : length c.deref-one-items.result.now ≡ length (list_at (tables_of c.args.inferred.now).cpus c.args.cpu) =
    ap length c.loop-one.invariant.items in
    let up : c.loop-one.one-index ≤ length c.deref-one-items.result.now = c.loop-one.auto.one-index-end in
    let down : length c.deref-one-items.result.now ≤ c.loop-one.one-index = c.loop-one-test.false in
    after_all (DueAt (tables_of c.args.inferred.now) c.args.cpu) (DumpIs (closed (tables_of c.args.inferred.now)) c.args.cpu)
    (cpu_list (closed (tables_of c.args.inferred.now)) c.args.cpu) c.loop-one.one-index c.loop-one.dumps.items (omega arith)
    c.loop-one.invariant.following
