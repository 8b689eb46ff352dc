use Rattle.std.proofs.Common.{◌≡◌, ℕ, List, refl, sym, subst, ap, arith, length, take, drop, ◌++◌, ◌∙◌}
use Rattle.rng_core.specs.declared.setting.Setting.{Setting}
use Rattle.caller_run.specs.Says.{most_shown, ShowsFit}
use Rattle.caller_run.proofs.Forks.Alone.{goes_on, made_one, once_called}
use Rattle.caller_run.proofs.Planning.LogFills.{put_back}
use Rattle.caller_run.proofs.alone.LoneRun.make.Goals as goal

-- if the items of a list were lent out and came back as `all`, its first n items are the first n of `all`
front_back : (n most len : ℕ) (all items : List ℕ) → length all ≡ len → n ≡ most
    → take n (take len (all ++ drop (length all) items)) ≡ take most all
front_back n most len all items long is =
    ap (take n) (put_back all items len long) ∙ ap (λ (k : ℕ). take k all) is

pub returns-clause-going : goal.returns-clause-going
returns-clause-going g c script rest lines is =
    let d = c.call_once-self.new.self in let all = c.call_once-self.new.served in let steps = c.call_once-self.new.trace in
    let recorded = c.call_once-self.ensures in let event = c.args.event.now in let front = take (most_shown event) all in
    goes_on c.args.self.now _ event rest d c.call_once-self.result.said front steps is recorded.called
    (record {
      on = c.go_on.ensures;
      number = recorded.event ∙ ap (λ (s : Setting). s.event) (sym (once_called c.args.self.now.lanes front event recorded.called).set);
      word_is = recorded.word;
      reply = refl;
      trace = refl;
      shown = front_back _ _ _ all _ (c.call_once-self.auto.served ∙ c.deref_mut.ensures.len) recorded.shown;
    })
    refl refl

pub returns-clause-made : goal.returns-clause-made
returns-clause-made g c cpus done lines made =
    made_one done c.args.event.now (λ script rest is. returns-clause-going g c script rest lines is) made

pub returns-clause-line : goal.returns-clause-line
returns-clause-line g c =
    let event = c.args.event.now in let all = c.call_once-self.new.served in let recorded = c.call_once-self.ensures in
    let k = once_called c.args.self.now.lanes (take (most_shown event) all) event recorded.called in
    let low = c.requires.3.goes.can.longest.0 in record {
      steps_fit = k.steps_fit;
      shows = subst (λ w. ShowsFit w c.call_once-self.result.said.shows) (sym recorded.word) k.shows;
      within = omega (arith, recorded.shown);
    }
