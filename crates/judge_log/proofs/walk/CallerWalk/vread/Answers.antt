use Rattle.std.proofs.Common.{map, ap, ◌∙◌}
use Rattle.judge_lines.specs.Called.{seen_act}
use Rattle.judge_lines.specs.Seen.{seen_bare}
use Rattle.judge_log.specs.Met.{seen_in}
use Rattle.judge_log.proofs.AnswersMade.ActsSaid.{at_true, at_false, not_followed, acts_undone, vread_done}
use Rattle.judge_log.proofs.walk.CallerWalk.vread.Goals as goal

pub returns-in_default-clause-said : goal.returns-in_default-clause-said
returns-in_default-clause-said g c = λ t writes said.
    let seen_is = c.deref-2.ensures.value ∙ c.in_ok-put_seen.ensures
    ∙ ap (λ x. seen_in x c.deref.result.now) c.cpu.ensures
    ∙ ap (seen_in c.args.set.now.cpu) (c.deref.ensures.value ∙ c.in_ok-put_met.ensures) in
    not_followed c.args.self.now.lists.now c.args.set.now c.args.asked.len c.args.asked.flags (seen_bare c.args.line)
    (map seen_act c.args.acts.now) c.args.self.now.states c.inside_of-inside.result c.deref-2.result.now
    c.inside_of-inside.ensures seen_is
    c.in_default.ensures t writes said

pub returns-then-not-branch-clause-said : goal.returns-then-not-branch-clause-said
returns-then-not-branch-clause-said g c = λ t writes said.
    let seen_is = c.deref-2.ensures.value ∙ c.in_ok-put_seen.ensures
    ∙ ap (λ x. seen_in x c.deref.result.now) c.cpu.ensures
    ∙ ap (seen_in c.args.set.now.cpu) (c.deref.ensures.value ∙ c.in_ok-put_met.ensures) in
    let f = c.in-Some.ensures in
    let undone = at_false c.in_ok-acts.field-0 _ _ c.if-not-branch.true c.in_ok-acts.ensures.said in
    acts_undone c.args.self.now.lists.now c.args.set.now c.args.asked.len c.args.asked.flags (seen_bare c.args.line)
    (map seen_act c.args.acts.now) c.args.self.now.states c.inside_of-inside.result c.deref-2.result.now
    c.inside_of-inside.ensures seen_is
    f.0 c.in-Some.path f.1 f.2 undone t writes said

pub returns-clause-said : goal.returns-clause-said
returns-clause-said g c =
    let seen_is = c.deref-2.ensures.value ∙ c.in_ok-put_seen.ensures
    ∙ ap (λ x. seen_in x c.deref.result.now) c.cpu.ensures
    ∙ ap (seen_in c.args.set.now.cpu) (c.deref.ensures.value ∙ c.in_ok-put_met.ensures) in
    let f = c.in-Some.ensures in
    let done = at_true c.in_ok-acts.field-0 _ _ c.if-not-branch.false c.in_ok-acts.ensures.said in
    vread_done c.args.self.now.lists.now c.args.set.now c.args.asked.len c.args.asked.flags (seen_bare c.args.line)
    (map seen_act c.args.acts.now) c.args.self.now.states c.inside_of-inside.result c.deref-2.result.now
    c.inside_of-inside.ensures seen_is
    f.0 c.in-Some.path f.1 f.2 (g.N.Note.IsNoted c.args.self.now.notes.how.now c.args.self.now.notes.caller)
    c.acts.new.self.states c.args.self.now.notes.noted.items c.acts.new.self.notes.noted.items
    c.put.new.self.noted.items (c.in_ok-acts.ensures.states ∙ f.3) done.0 done.1 (rw c.in_ok-acts.ensures.notes at c.in_ok-put.ensures.put)
