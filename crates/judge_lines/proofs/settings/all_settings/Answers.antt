use Rattle.std.proofs.Common.{◌≡◌, ℕ, ◌+◌, ◌<◌, List, length, map, sym, subst, ap, ◌∙◌, arith}
use Rattle.std.specs.List.{AllByRecursion}
use Rattle.std.specs.Global.{Vec}
use Rattle.std.proofs.lemmas.List.{length_push, length-map}
use Rattle.key_names.specs.Lanes.Book.{list_at}
use Rattle.key_names.specs.Callers.Calls.{Setting, Call}
use Rattle.key_names.specs.Transcripts.IsTranscript.{start_setting}
use Rattle.judge_lines.specs.declared.called.CalledLines.{CalledLines}
use Rattle.judge_lines.specs.declared.order.Fork.{Fork}
use Rattle.judge_lines.specs.Called.{seen_call, seen_calls}
use Rattle.judge_lines.specs.Orders.{all_forks, front_in}
use Rattle.judge_lines.specs.Settings.{settings_from, first_found}
use Rattle.judge_lines.proofs.Carried.{each_found}
use Rattle.judge_lines.proofs.SettingsFound.{first_is, list_found}
use Rattle.judge_lines.proofs.settings.all_settings.Goals as goal

pub loop-caller-preserved : goal.loop-caller-preserved
loop-caller-preserved c =
    let callers : List (List Call) = seen_calls c.args.callers.now in
    let n : ℕ = c.loop-caller.caller in
    let so_far : List (Vec Setting) = c.loop-caller.settings.items in
    let inv = c.loop-caller.invariant in
    let low : n < length callers =
    (let e : length callers ≡ length c.args.callers.now =
    length-map c.args.callers.now (λ (calls : Vec CalledLines). map seen_call calls.items) in
    omega (arith, c.loop-caller-test.true)) in
    let rise : AllByRecursion (λ fork. fork.parent < fork.child) (all_forks 0 callers) =
    subst (λ (forks : List Fork). AllByRecursion (λ fork. fork.parent < fork.child) forks) c.requires.forks
    c.requires.rise in
    let start : c.start_setting-start.result ≡ start_setting callers n =
    c.start_setting-start.ensures
    ∙ ap (λ (settings : List (Vec Setting)). first_found settings (front_in n c.args.forks.now)) c.deref.ensures.value
    ∙ ap (λ (forks : List Fork). first_found so_far (front_in n forks)) c.requires.forks
    ∙ first_is callers so_far n low inv.long rise inv.each in
    let found : c.in_ok-caller_settings.field-0.items ≡ settings_from (start_setting callers n) (list_at callers n) =
    c.in_ok-caller_settings.ensures
    ∙ ap (λ set. settings_from set (map seen_call c.deref-in-loop-caller.result.now)) start
    ∙ ap (λ (calls : List CalledLines). settings_from (start_setting callers n) (map seen_call calls))
    c.deref-in-loop-caller.ensures.value
    ∙ ap (settings_from (start_setting callers n)) (list_found c.args.callers.now n c.index-callers-caller.result
    c.loop-caller-test.true c.index-callers-caller.is) in record {
      long = ap length c.in_ok-push.ensures.items ∙ length_push so_far c.in_ok-caller_settings.field-0
          ∙ ap (λ m. m + 1) inv.long;
      each = rw c.in_ok-push.ensures.items
          (each_found (λ p (f : Vec Setting). f.items ≡ settings_from (start_setting callers p) (list_at callers p)) so_far
          c.in_ok-caller_settings.field-0 inv.each
          (subst (λ m. c.in_ok-caller_settings.field-0.items ≡ settings_from (start_setting callers m) (list_at callers m))
          (sym inv.long) found));
    }
