-- The steps of specs/UnfitSteps are no form (allowed pattern) of their event, whatever entries the lanes have.
use Rattle.std.proofs.Common.{◌≡◌, ◌≤◌, ℕ, suc, Some, List, [], ◌∷◌, refl, sym, ◌∙◌, ap, is_some, true, length}
use Rattle.std.proofs.Common.{arith, inl, inr, subst, false, ◌++◌}
use Rattle.std.specs.List.{AllByRecursion}
use Rattle.key_names.specs.declared.names.Step.TheVariants.{Look}
use Rattle.key_names.specs.declared.names.Who.{Who}
use Rattle.key_names.specs.Transcripts.SeenLine.{SeenLine}
use Rattle.key_names.specs.Lanes.Book.{Lists, Visit, lists_of, list_at}
use Rattle.key_names.specs.Callers.Calls.{Setting, Call, vread_call}
use Rattle.std.specs.Prelude.{MatchBool}
use Rattle.key_names.specs.Kernel.BatchCopy.{serves_locally}
use Rattle.key_names.specs.Callers.Effects.{Effect, looked, effects_of}
use Rattle.key_names.specs.Callers.Forms.{Looked}
use Rattle.key_names.specs.Callers.Meaning.{CallerState, CallMeaning, Means, VreadMeans, caller_start, current_state}
use Rattle.key_names.specs.Callers.Meaning.{ByLocalCopy, ByVgetrandom, LocalOrCall}
use Rattle.key_names.specs.Kernel.Vgetrandom.{HostStep, publishes, Outcome, IsCall, FromLook, FromPublished, FirstAttempt}
use Rattle.key_names.specs.Kernel.VgetrandomState.{VgetrandomState, wiped_state}
use Rattle.key_names.specs.Callers.VreadSteps.{Shows, published_by}
use Rattle.key_names.specs.Transcripts.IsTranscript.{EachLine, EachCaller, CallsMean, CallerMeans, script_calls}
use Rattle.key_names.specs.Transcripts.IsTranscript.{EachOfCall, forms_clause, stamped, start_setting}
use Rattle.key_names.proofs.Vgetrandom.VreadRefused.{looks_do_not_fall}
use Rattle.key_names.proofs.Lists.ListFacts.{list_beyond}
use Rattle.worked_cases.specs.Runs.{Case, FailsFirst, transcript_with}
use Rattle.worked_cases.specs.UnfitSteps.{read_without_a_look, fork_without_a_visit, visit_of_no_cpu, looks_that_fall}
use Rattle.worked_cases.specs.UnfitSteps.{batch_of_the_parent}
use Rattle.worked_cases.proofs.Decided.{no_first, none_is_not_some}
use Rattle.worked_cases.proofs.FoundMeanings.{After}
use Rattle.worked_cases.proofs.TextVerdicts.{text_verdict, script_in, lines_in, no_form, front_found}

-- `call` has a meaning in `lists`, with the effects of the lines of `call`
pub record CallHas (lists : Lists) (call : Call) : Type 0 where
  pub m : CallMeaning
  pub means : Means call m
  pub effects : EachOfCall (After lists) call m

calls_have : (lists : Lists) (s : CallerState) (calls : List Call) (ms : List CallMeaning) → CallsMean s calls ms →
    EachLine (After lists) calls ms → AllByRecursion (CallHas lists) calls
calls_have lists s [] ms follows effects = tt
calls_have lists s (call ∷ calls) [] follows effects = absurd follows
calls_have lists s (call ∷ calls) (m ∷ ms) follows effects =
    (record { m = m; means = follows.1; effects = effects.0 }, calls_have lists m.after calls ms follows.2 effects.1)

callers_have : (lists : Lists) (settings : ℕ → Setting) (first : ℕ) (callers : List (List Call))
    (ms : List (List CallMeaning)) →
    EachCaller (λ c calls ms. CallerMeans lists (settings c) calls ms) first callers ms →
    AllByRecursion (AllByRecursion (CallHas lists)) callers
callers_have lists settings first [] ms h = tt
callers_have lists settings first (calls ∷ callers) [] h = absurd h
callers_have lists settings first (calls ∷ callers) (m ∷ ms) h = (
  calls_have lists (caller_start (settings first)) calls m h.0.follows h.0.effects,
  callers_have lists settings (suc first) callers ms h.1,
)

abbrev case_calls : Case → List (List Call)
case_calls case = script_calls (script_in case.script) (lines_in case.script (transcript_with case.lines))

-- all calls of a case have meanings in the given lists
abbrev CallsHave : Case → Lists → Type 0
CallsHave case lists = AllByRecursion (AllByRecursion (CallHas lists)) (case_calls case)

-- the case's texts are those of a script and a transcript, and the clauses on lines and marks hold for them
abbrev HasFront : Case → Type 0
HasFront case = is_some (front_found case.script (transcript_with case.lines)) ≡ true

abbrev FailsByForms : Case → Type 0
FailsByForms case = FailsFirst forms_clause case.script (transcript_with case.lines)

by_calls : (case : Case) → HasFront case → ((lists : Lists) → CallsHave case lists → ⊥) → FailsByForms case
by_calls case front none = no_form case.script (transcript_with case.lines)
    (front_found case.script (transcript_with case.lines)) front
    (λ made. none (lists_of made.book) (callers_have (lists_of made.book) (start_setting (case_calls case)) 0
    (case_calls case) made.meanings made.forms.callers))

pub read_without_a_look_fails : FailsByForms read_without_a_look
unfolding text_verdict
read_without_a_look_fails = by_calls read_without_a_look refl
    (λ lists calls. no_first _ _ (calls.0.0.effects ∙ calls.0.0.means.form.2))

pub fork_without_a_visit_fails : FailsByForms fork_without_a_visit
unfolding text_verdict
fork_without_a_visit_fails = by_calls fork_without_a_visit refl (λ lists calls. elim calls.0.0.means.form [
  | inl forked ↦ no_first _ _ (calls.0.0.effects ∙ forked.effects_are)
  | inr stalled ↦ no_first _ _ (calls.0.0.effects ∙ stalled.effects_are)
])

no_fall : (lists : Lists) (m : CallMeaning) → effects_of lists (Look 2 ∷ Look 1 ∷ Look 1 ∷ []) ≡ m.own.effects →
    VreadMeans 8 0 [] m → ⊥
no_fall lists m effects means =
    let falls : 2 ≤ 1 = looks_do_not_fall 8 0 2 1 [] m (looked 1 ∷ []) (sym effects) means in omega arith

pub looks_that_fall_fails : FailsByForms looks_that_fall
unfolding text_verdict
looks_that_fall_fails = by_calls looks_that_fall refl
    (λ lists calls. no_fall lists calls.0.1.0.m calls.0.1.0.effects.0 calls.0.1.0.means)

no_stamp : {E : Type 0} (lists : List (List (Visit E))) (w : ℕ × Who) → length lists ≡ 1 →
    stamped (list_at lists 1) 0 ≡ Some w → ⊥
no_stamp {E} lists w one is =
    let none = list_beyond lists 1 (omega (arith, one)) in
    none_is_not_some w (sym (ap (λ (visits : List (Visit E)). stamped visits 0) none) ∙ is)

pub visit_of_no_cpu_fails : FailsByForms visit_of_no_cpu
unfolding text_verdict
visit_of_no_cpu_fails = no_form visit_of_no_cpu.script (transcript_with visit_of_no_cpu.lines)
    (front_found visit_of_no_cpu.script (transcript_with visit_of_no_cpu.lines)) refl
    (λ made. no_stamp made.book.cpus _ made.forms.cpus made.forms.visits.conform.1.1.1.1.0)

-- `call`, the first call of child 1, has a meaning that begins with the wiped vgetrandom states of a new caller
pub record ChildBegins (lists : Lists) (set : Setting) (call : Call) : Type 0 where
  pub m : CallMeaning
  pub begins : m.before ≡ caller_start set
  pub means : Means call m
  pub effects : EachOfCall (After lists) call m

child_begins : (lists : Lists) (settings : ℕ → Setting) (parents : List Call) (call : Call) (calls : List Call)
    (ms : List (List CallMeaning)) →
    EachCaller (λ c calls ms. CallerMeans lists (settings c) calls ms) 0 (parents ∷ (call ∷ calls) ∷ []) ms →
    ChildBegins lists (settings 1) call
child_begins lists settings parents call calls [] h = absurd h
child_begins lists settings parents call calls (p ∷ []) h = absurd h.1
child_begins lists settings parents call calls (p ∷ [] ∷ ms) h = absurd h.1.0.follows
child_begins lists settings parents call calls (p ∷ (m ∷ rest) ∷ ms) h =
    record { m = m; begins = h.1.0.follows.0; means = h.1.0.follows.1; effects = h.1.0.effects.0 }

-- an attempt has at least one step, so its effects are not empty
no_attempt : (set : Setting) (rest : List HostStep) (n flags : ℕ) (s : VgetrandomState) (outcome : Outcome) →
    FirstAttempt n flags s rest outcome → Shows set rest [] → ⊥
no_attempt set rest n flags s outcome attempt shows =
    let begins : rest ≡ publishes attempt.tries.published ∷ attempt.tries.rest ++ attempt.rest =
    attempt.steps_are ∙ ap (λ (h : List HostStep). h ++ attempt.rest) attempt.tries.steps_are in
    let looks = subst (λ (h : List HostStep). Shows set h []) begins shows in
    no_first _ _ looks.2

-- a `vread` of 40 bytes has no meaning if its state is wiped and its only effect is a look that finds generation 1
wiped_needs_a_key : (m : CallMeaning) → current_state m.before ≡ wiped_state → looked 1 ∷ [] ≡ m.own.effects →
    VreadMeans 40 0 [] m → ⊥
wiped_needs_a_key m wiped effects means =
    let done_by : Looked (LocalOrCall 40 0 [] m) m.own.effects = means.done_by in
    let begins : looked done_by.0 ∷ done_by.1 ≡ looked 1 ∷ [] = sym done_by.2 ∙ sym effects in
    let look : done_by.0 ≡ 1 = cc in
    let serves : serves_locally (published_by done_by.0) (current_state m.before) 40 ≡ false =
    ap (λ g. serves_locally (published_by g) (current_state m.before) 40) look
    ∙ ap (λ s. serves_locally 2 s 40) wiped in
    let call : ByVgetrandom 40 0 [] m = subst
    (λ b. MatchBool b (ByLocalCopy 40 done_by.1 m) (ByVgetrandom 40 0 [] m)) serves done_by.3 in
    let from : FromLook 40 0 wiped_state call.steps call.outcome =
    subst (λ (s : VgetrandomState). IsCall 40 0 s call.steps call.outcome) wiped call.is_call in
    let shown = subst (λ (h : List HostStep). Shows m.before.setting h (looked 1 ∷ [])) from.steps_are
    (subst (λ (d : List Effect). Shows m.before.setting call.steps d) (sym effects) call.shows) in
    let front : looked 1 ∷ [] ≡ looked shown.0 ∷ shown.1 = shown.2 in
    let one : shown.0 ≡ 1 = cc in
    let none : shown.1 ≡ [] = cc in
    let two : from.published ≡ 2 = shown.3.0 ∙ ap published_by one in
    no_attempt m.before.setting from.rest 40 0 (record wiped_state { in_use = true }) call.outcome
    (subst (λ g. FromPublished 40 0 wiped_state g from.rest call.outcome) two from.goes_on)
    (subst (λ (d : List Effect). Shows m.before.setting from.rest d) none shown.3.1)

child_is_served : (lists : Lists) (set : Setting) (line : SeenLine) → effects_of lists line.steps ≡ looked 1 ∷ [] →
    ChildBegins lists set (vread_call 40 0 line []) → ⊥
child_is_served lists set line looks child =
    wiped_needs_a_key child.m (ap current_state child.begins) (sym looks ∙ child.effects.0) child.means

pub batch_of_the_parent_fails : FailsByForms batch_of_the_parent
unfolding text_verdict
batch_of_the_parent_fails = no_form batch_of_the_parent.script (transcript_with batch_of_the_parent.lines)
    (front_found batch_of_the_parent.script (transcript_with batch_of_the_parent.lines)) refl
    (λ made. child_is_served (lists_of made.book) _ _ refl
    (child_begins (lists_of made.book) (start_setting (case_calls batch_of_the_parent)) _ _ _ made.meanings
    made.forms.callers))
