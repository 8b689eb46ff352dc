use Rattle.std.proofs.Common.{◌≡◌, ℕ, ◌+◌, List, length, map, sym, subst, ap, ◌∙◌}
use Rattle.std.specs.List.{AllByRecursion}
use Rattle.std.proofs.lemmas.List.{length_push}
use Rattle.key_names.specs.Lanes.Book.{list_at}
use Rattle.key_names.specs.Callers.Calls.{Setting, Call}
use Rattle.key_names.specs.Transcripts.IsTranscript.{start_setting, CallerMeans}
use Rattle.judge_lines.specs.declared.called.CalledLines.{CalledLines}
use Rattle.judge_lines.specs.Called.{seen_call, seen_calls}
use Rattle.judge_log.specs.Filled.{CallsFill}
use Rattle.judge_log.specs.Said.{NotedAt, CallInRange, IsSaid}
use Rattle.serial_replay.proofs.OneCaller.{here, among, range_of, calls_of, settings_are, said_more}
use Rattle.serial_replay.proofs.remake.all_said.Goals as goal

pub caller_said-requires : goal.caller_said-requires
caller_said-requires g c = record {
  in_range = subst (λ (calls : List CalledLines). AllByRecursion CallInRange (map seen_call calls)) (sym c.deref.ensures.value)
      (range_of c.args.calls.now c.args.settings.now c.loop-caller.caller c.index-calls-caller.result
      c.index-settings-caller.result c.loop-caller-test.true c.index-calls-caller.is c.requires.long
      c.index-settings-caller.is c.requires.in_range);
}

pub returns-in-None-clause-only : goal.returns-in-None-clause-only
returns-in-None-clause-only g c = λ script t lists conform keeps lawful means.
    let calls : List Call = map seen_call c.index-calls-caller.result.items in
    let n : ℕ = c.loop-caller.caller in
    let of = calls_of c.args.calls.now c.args.settings.now n c.index-calls-caller.result c.index-settings-caller.result
    c.loop-caller-test.true c.index-calls-caller.is c.requires.long c.index-settings-caller.is script t conform in
    let found = settings_are c.args.calls.now c.args.settings.now n c.index-calls-caller.result
    c.index-settings-caller.result c.loop-caller-test.true c.index-calls-caller.is c.requires.long
    c.index-settings-caller.is script t conform in
    let one = means n (among c.args.calls.now c.args.settings.now n c.index-calls-caller.result
    c.index-settings-caller.result c.loop-caller-test.true c.index-calls-caller.is c.requires.long
    c.index-settings-caller.is) in
    let same : map seen_call c.index-calls-caller.result.items ≡ list_at (seen_calls c.args.calls.now) n =
    here c.args.calls.now c.args.settings.now n c.index-calls-caller.result c.index-settings-caller.result
    c.loop-caller-test.true c.index-calls-caller.is c.requires.long c.index-settings-caller.is in
    let only = rw (c.in-None.is, c.deref.ensures.value, c.deref-in-loop-caller.ensures.value) at c.in_ok-noted.ensures.only in
    only lists (start_setting (seen_calls c.args.calls.now) n) of.events of.lines one.ms keeps lawful of.are found
    (subst (λ (cs : List Call). CallerMeans lists (start_setting (seen_calls c.args.calls.now) n) cs one.ms) (sym same)
    one.means)

pub loop-caller-preserved : goal.loop-caller-preserved
loop-caller-preserved g c =
    let n : ℕ = c.loop-caller.caller in
    let same : map seen_call c.index-calls-caller.result.items ≡ list_at (seen_calls c.args.calls.now) n =
    here c.args.calls.now c.args.settings.now n c.index-calls-caller.result c.index-settings-caller.result
    c.loop-caller-test.true c.index-calls-caller.is c.requires.long c.index-settings-caller.is in
    let some = rw (c.in-Some.is, c.deref.ensures.value, c.deref-in-loop-caller.ensures.value) at c.in_ok-noted.ensures.some in
    record {
      long = ap length c.in_ok-push-in-Some.ensures.items ∙ length_push c.loop-caller.callers.items c.in-Some.noted
          ∙ ap (λ m. m + 1) c.loop-caller.invariant.long;
      each = λ script t lists conform keeps lawful fill.
          let of = calls_of c.args.calls.now c.args.settings.now n c.index-calls-caller.result
          c.index-settings-caller.result c.loop-caller-test.true c.index-calls-caller.is c.requires.long
          c.index-settings-caller.is script t conform in
          let found = settings_are c.args.calls.now c.args.settings.now n c.index-calls-caller.result
          c.index-settings-caller.result c.loop-caller-test.true c.index-calls-caller.is c.requires.long
          c.index-settings-caller.is script t conform in
          let low = among c.args.calls.now c.args.settings.now n c.index-calls-caller.result
          c.index-settings-caller.result c.loop-caller-test.true c.index-calls-caller.is c.requires.long
          c.index-settings-caller.is in
          let start : Setting = start_setting (seen_calls c.args.calls.now) n in
          let said = some lists start of.events of.lines keeps lawful of.are found
          (subst (λ (cs : List Call). CallsFill lists start cs) (sym same) (fill n low)) in
          rw c.in_ok-push-in-Some.ensures.items
          (said_more (g.N.Note.IsNoted c.args.how.now) lists (seen_calls c.args.calls.now) c.loop-caller.callers.items n c.in-Some.noted
          c.loop-caller.invariant.long
          (λ k k_low. c.loop-caller.invariant.each script t lists conform keeps lawful fill k k_low)
          (subst (λ (cs : List Call). IsSaid lists start cs (NotedAt (g.N.Note.IsNoted c.args.how.now n) c.in-Some.noted.items)) same said));
    }
