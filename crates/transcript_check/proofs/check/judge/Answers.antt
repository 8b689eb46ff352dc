use Rattle.std.proofs.Common.{◌≡◌, true, false, refl}
use Rattle.transcript_check.proofs.Sound.{other_answers, other_data, other_looks, all_same}
use Rattle.transcript_check.proofs.check.judge.Goals as goal

pub returns-then-not-all_agree-clause-judged : goal.returns-then-not-all_agree-clause-judged
returns-then-not-all_agree-clause-judged c =
    let a = rw c.in-Made.is at c.in_ok-clause.ensures.made in
    let answers = rw c.deref.ensures.value at c.if-not-all_agree.ensures in
    other_answers c.args.script.now c.args.t.now c.requires c.in-Made.made a
    (λ agree. let never : false ≡ true = answers.1 agree in cc)

pub returns-then-not-all_agree-2-clause-judged : goal.returns-then-not-all_agree-2-clause-judged
returns-then-not-all_agree-2-clause-judged c =
    let a = rw c.in-Made.is at c.in_ok-clause.ensures.made in
    let answers = rw c.deref.ensures.value at c.if-not-all_agree.ensures in
    let same = rw c.deref-2.ensures.value at c.if-not-all_agree-2.ensures in
    other_data c.args.script.now c.args.t.now c.requires c.in-Made.made a (answers.0 refl)
    (λ agree. let never : false ≡ true = same.1 agree in cc)

pub returns-then-made-clause-judged : goal.returns-then-made-clause-judged
returns-then-made-clause-judged c =
    let a = rw c.in-Made.is at c.in_ok-clause.ensures.made in
    let answers = rw c.deref.ensures.value at c.if-not-all_agree.ensures in
    let same = rw c.deref-2.ensures.value at c.if-not-all_agree-2.ensures in
    all_same c.args.script.now c.args.t.now c.requires c.in-Made.made a (answers.0 refl) (same.0 refl) c.if-made.true

pub returns-clause-judged : goal.returns-clause-judged
returns-clause-judged c =
    let a = rw c.in-Made.is at c.in_ok-clause.ensures.made in
    let answers = rw c.deref.ensures.value at c.if-not-all_agree.ensures in
    let same = rw c.deref-2.ensures.value at c.if-not-all_agree-2.ensures in
    other_looks c.args.script.now c.args.t.now c.requires c.in-Made.made a (answers.0 refl) (same.0 refl)
    (λ conform. let fall : c.in-Made.made.looks_conform ≡ false = c.if-made.false in
    let conforms : c.in-Made.made.looks_conform ≡ true = conform in cc)

pub returns-then-made-clause-lists : goal.returns-then-made-clause-lists
returns-then-made-clause-lists c = rw c.in-Made.is at c.in_ok-clause.ensures.basis
