-- Calls one after another: the invariant of a loop over a caller's calls (`CallsDone`) holds again after one more call.
use Rattle.std.proofs.Common.{◌≡◌, ℕ, ◌+◌, subst, arith, List, [], ◌∷◌, ◌++◌, refl, sym, ap, ◌∙◌, append-nil}
use Rattle.std.proofs.lemmas.List.{map-append}
use Rattle.std.proofs.lemmas.Grind.{flat_map-append}
use Rattle.key_names.specs.Callers.Calls.{Call}
use Rattle.caller_run.specs.Items.{call_items, calls_items}
use Rattle.key_names.specs.Transcripts.IsTranscript.{EachOfCall, EachLine, CallsMean}
use Rattle.key_names.specs.Callers.Meaning.{CallerState, CallMeaning, LineMeaning, Means}
use Rattle.key_names.specs.Transcripts.SeenLine.{SeenLine}
use Rattle.key_names.specs.Transcripts.StatesReplayed.{caller_end}
use Rattle.key_names.specs.Lanes.Book.{Lists}
use Rattle.key_names.proofs.Lists.Each.{each_more}
use Rattle.lane_table.specs.declared.view.View.{View}
use Rattle.lane_table.specs.BookLists.{book_lists}
use Rattle.lane_table.proofs.Book.BookEnds.{continues_before}
use Rattle.caller_run.specs.NumberedSteps.{item_of}
use Rattle.caller_run.specs.Done.{CallMeant, CallSamples, CallDone, CallDoneBy, CallsMeant, CallsDone}
use Rattle.rng_core.specs.SampleEffects.{fast_in}
use Rattle.caller_run.proofs.Orders.Chains.{ran_nothing, ran_then}

each_line_more : (P : SeenLine → LineMeaning → Type 0) (calls : List Call) (ms : List CallMeaning) (call : Call)
    (m : CallMeaning) → EachLine P calls ms → EachOfCall P call m → EachLine P (calls ++ call ∷ []) (ms ++ m ∷ [])
each_line_more P [] [] call m all here = (here, tt)
each_line_more P [] (n ∷ ms) call m all here = absurd all
each_line_more P (c ∷ calls) [] call m all here = absurd all
each_line_more P (c ∷ calls) (n ∷ ms) call m all here = (all.0, each_line_more P calls ms call m all.1 here)

calls_mean_more : (s : CallerState) (calls : List Call) (ms : List CallMeaning) (call : Call) (m : CallMeaning) →
    CallsMean s calls ms → m.before ≡ caller_end s ms → Means call m →
    CallsMean s (calls ++ call ∷ []) (ms ++ m ∷ [])
calls_mean_more s [] [] call m all from here = (from, here, tt)
calls_mean_more s [] (n ∷ ms) call m all from here = absurd all
calls_mean_more s (c ∷ calls) [] call m all from here = absurd all
calls_mean_more s (c ∷ calls) (n ∷ ms) call m all from here =
    (all.0, all.1, calls_mean_more n.after calls ms call m all.2 from here)

reached_more : (s : CallerState) (ms : List CallMeaning) (m : CallMeaning) → caller_end s (ms ++ m ∷ []) ≡ m.after
reached_more s [] m = refl
reached_more s (n ∷ ms) m = reached_more n.after ms m

meant_more : (lists : Lists) (s t u : CallerState) (calls : List Call) (call : Call) → CallsMeant lists s calls t →
    CallMeant lists t call u → CallsMeant lists s (calls ++ call ∷ []) u
meant_more lists s t u calls call a b = record {
  meanings = a.meanings ++ b.meaning ∷ [];
  means = calls_mean_more s calls a.meanings call b.meaning a.means (b.before ∙ sym a.reaches) b.means;
  reaches = reached_more s a.meanings b.meaning ∙ b.after;
  effects = each_line_more _ calls a.meanings call b.meaning a.effects b.effects;
  answers = each_line_more _ calls a.meanings call b.meaning a.answers b.answers;
  shown = each_line_more _ calls a.meanings call b.meaning a.shown b.shown;
}

-- the invariant holds before any call
pub calls_done_nothing : (caller : ℕ) (v : View) (s : CallerState) → CallsDone caller 0 v v s s []
calls_done_nothing caller v s = record {
  numbered_steps = [];
  ran = ran_nothing caller v;
  order = refl;
  meant = λ lanes visits callers c. record {
    meanings = [];
    means = tt;
    reaches = refl;
    effects = tt;
    answers = tt;
    shown = tt;
  };
  samples = λ lanes visits callers c. tt;
}

-- if the invariant holds for `calls`, and `CallDoneBy` holds for one more call, the invariant holds with that call
-- added
pub calls_done_then : (caller m n : ℕ) (u v w : View) (s t r : CallerState) (calls : List Call) (call : Call) →
    CallsDone caller m u v s t calls → CallDoneBy caller n v w t r call →
    CallsDone caller (m + n) u w s r (calls ++ call ∷ [])
calls_done_then caller m n u v w s t r calls call a b = record {
  numbered_steps = a.numbered_steps ++ b.numbered_steps;
  ran = ran_then caller m n u v w a.numbered_steps b.numbered_steps a.ran b.ran;
  order = map-append item_of a.numbered_steps b.numbered_steps ∙ (λ i. a.order i ++ b.order i)
      ∙ sym (flat_map-append call_items calls (call ∷ [])
      ∙ ap (λ l. calls_items calls ++ l) (append-nil (call_items call)));
  meant = λ lanes visits callers c.
      meant_more (book_lists lanes visits callers) s t r calls call
      (a.meant lanes visits callers (continues_before lanes v w visits b.ran.same.sized b.ran.grows c))
      (b.meant lanes visits callers c);
  samples = λ lanes visits callers c.
      each_more (CallSamples (fast_in visits) (book_lists lanes visits callers)) calls call
      (a.samples lanes visits callers (continues_before lanes v w visits b.ran.same.sized b.ran.grows c))
      (b.samples lanes visits callers c);
}

-- if the invariant holds for `calls`, and `CallDone` holds for one more call, which forks no caller, the invariant
-- holds with that call added
pub calls_done_plainly : (caller m : ℕ) (u v w : View) (s t r : CallerState) (calls : List Call) (call : Call) →
    CallsDone caller m u v s t calls → CallDone caller v w t r call → CallsDone caller m u w s r (calls ++ call ∷ [])
calls_done_plainly caller m u v w s t r calls call a b =
    let same : m + 0 ≡ m = omega arith in
    subst (λ (n : ℕ). CallsDone caller n u w s r (calls ++ call ∷ [])) same
    (calls_done_then caller m 0 u v w s t r calls call a b)
