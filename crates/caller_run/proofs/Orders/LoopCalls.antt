-- `CallsSoFar` is the invariant of a loop over a caller's events. If it holds, it holds again after one more event of
-- any kind.
use Rattle.std.proofs.Common.{◌≡◌, ℕ, zero, suc, ◌<◌, true, false, List, [], ◌∷◌, ◌++◌, length, refl, sym, ap, ◌∙◌, arith, append_assoc, length-append}
use Rattle.std.specs.Prelude.{if◌then◌else◌}
use Rattle.key_names.specs.declared.events.Event.{Event}
use Rattle.key_names.specs.declared.events.Event.TheVariants.{Vread, Inside}
use Rattle.key_names.specs.Transcripts.SeenLine.{SeenLine}
use Rattle.key_names.specs.Callers.Calls.{Call, alone, vread_call, unbound, ending, BoundAct, has_vread, calls_from, calls_of}
use Rattle.key_names.proofs.Lists.Each.{each_more}
use Rattle.rng_core.specs.Acts.{Ask}
use Rattle.caller_run.specs.Waiting.{emitted_anew, bound_by, all_bound, IsAlone, CallsSoFar}
use Rattle.caller_run.proofs.Orders.EmittedAnew.{emitted_more, anew_front, anew_last}

bound_more : (asks : List Ask) (acts : List SeenLine) (x : Ask) (line : SeenLine) → length acts ≡ length asks →
    all_bound (asks ++ x ∷ []) (acts ++ line ∷ []) ≡ all_bound asks acts ++ bound_by x line ∷ []
bound_more [] [] x line same = refl
bound_more [] (l ∷ acts) x line same = absurd (omega arith)
bound_more (a ∷ asks) [] x line same = absurd (omega arith)
bound_more (a ∷ asks) (l ∷ acts) x line same =
    ap (λ (bs : List BoundAct). bound_by a l ∷ bs) (bound_more asks acts x line (omega arith))

-- `acts` are `n` lines and then the line `line`
record Last (n : ℕ) (acts : List SeenLine) : Type 0 where
  front : List SeenLine
  line : SeenLine
  is : acts ≡ front ++ line ∷ []
  many : length front ≡ n

last_of : (n : ℕ) (acts : List SeenLine) → length acts ≡ suc n → Last n acts
last_of n [] many = absurd (omega arith)
last_of zero (l ∷ []) many = record { front = []; line = l; is = refl; many = refl }
last_of zero (l ∷ m ∷ acts) many = absurd (omega arith)
last_of (suc n) (l ∷ acts) many =
    let rest : Last n acts = last_of n acts (omega arith) in
    record {
      front = l ∷ rest.front;
      line = rest.line;
      is = ap (λ (ls : List SeenLine). l ∷ ls) rest.is;
      many = (let m = rest.many in omega arith);
    }

-- ---- the first call that a list of events makes, by the kind of the first event ----

alone_first : (event : Event) → IsAlone event → (acts : List BoundAct) (es : List Event) (line : SeenLine)
    (lines : List SeenLine) → calls_from acts (event ∷ es) (line ∷ lines) ≡ alone event line ∷ calls_from acts es lines
alone_first (Vread len flags) is acts es line lines = absurd is
alone_first (Inside point act) is acts es line lines = absurd is
alone_first event is acts es line lines = refl

pub alone_follows : (event : Event) → IsAlone event → (es : List Event) → has_vread (event ∷ es) ≡ has_vread es
alone_follows (Vread len flags) is es = absurd is
alone_follows (Inside point act) is es = absurd is
alone_follows event is es = refl

one_call : (calls : List Call) (call : Call) (rest : List Call) → calls ++ call ∷ rest ≡ (calls ++ call ∷ []) ++ rest
one_call calls call rest = sym (append_assoc calls (call ∷ []) rest)

-- before the first event, `CallsSoFar` holds with no call
pub so_far_nothing : (events : List Event) → CallsSoFar events events [] [] []
so_far_nothing events = record {
  recorded = tt;
  follows = λ none. refl;
  calls_are = λ acts more none. refl;
}

module _ (events es : List Event) (lines : List SeenLine) (waiting : List Ask) (calls : List Call) where
  -- if the next event makes one call by itself, there is one more line and one more call, and the same acts wait
  one_more : (event : Event) (line : SeenLine) (call : Call) → CallsSoFar events (event ∷ es) lines waiting calls →
      (has_vread es ≡ false → waiting ≡ []) →
      ((acts : List BoundAct) (more : List SeenLine) →
      calls_from acts (event ∷ es) (line ∷ more) ≡ call ∷ calls_from acts es more) →
      CallsSoFar events es (lines ++ line ∷ []) waiting (calls ++ call ∷ [])
  one_more event line call s follows first = record {
    recorded = emitted_more lines line waiting s.recorded;
    follows = follows;
    calls_are = λ acts more many.
        ap (λ (ls : List SeenLine). calls_of events (ls ++ more)) (anew_front lines (line ∷ []) waiting acts s.recorded)
        ∙ ap (calls_of events) (append_assoc (emitted_anew lines waiting acts) (line ∷ []) more)
        ∙ s.calls_are acts (line ∷ more) many
        ∙ ap (λ (cs : List Call). calls ++ cs) (first (all_bound waiting acts) more)
        ∙ one_call calls call (calls_from (all_bound waiting acts) es more);
  }

  -- after an event that is a call by itself, `CallsSoFar` holds with one more line and one more call
  pub so_far_alone : (event : Event) (line : SeenLine) → IsAlone event →
      CallsSoFar events (event ∷ es) lines waiting calls →
      CallsSoFar events es (lines ++ line ∷ []) waiting (calls ++ alone event line ∷ [])
  so_far_alone event line is s =
      one_more event line (alone event line) s (λ none. s.follows (alone_follows event is es ∙ none))
      (λ acts more. alone_first event is acts es line more)

  -- after an act that no vread follows, `CallsSoFar` holds with one more line and one more call
  pub so_far_idle : (x : Ask) (line : SeenLine) → has_vread es ≡ false →
      CallsSoFar events (Inside x.point x.act ∷ es) lines waiting calls →
      CallsSoFar events es (lines ++ line ∷ []) waiting (calls ++ unbound (bound_by x line) ∷ [])
  so_far_idle x line none s =
      one_more (Inside x.point x.act) line (unbound (bound_by x line)) s s.follows
      (λ acts more. ap (λ b. if b then calls_from (acts ++ bound_by x line ∷ []) es more else
      unbound (bound_by x line) ∷ calls_from acts es more) none)

  -- after an act that waits for a vread, `CallsSoFar` holds with one more line and one more waiting act
  pub so_far_waits : (x : Ask) (idle : SeenLine) → has_vread es ≡ true → x.event ≡ length lines →
      CallsSoFar events (Inside x.point x.act ∷ es) lines waiting calls →
      CallsSoFar events es (lines ++ idle ∷ []) (waiting ++ x ∷ []) calls
  so_far_waits x idle has at s = record {
    recorded = each_more (λ (a : Ask). a.event < length (lines ++ idle ∷ [])) waiting x
        (emitted_more lines idle waiting s.recorded)
        (omega (arith, length-append lines (idle ∷ [])));
    follows = λ none. cc;
    calls_are = λ acts more many. goes acts more
        (last_of (length waiting) acts (omega (arith, length-append waiting (x ∷ []))));
  }
    where
      goes : (acts more : List SeenLine) → Last (length waiting) acts →
          calls_of events (emitted_anew (lines ++ idle ∷ []) (waiting ++ x ∷ []) acts ++ more)
          ≡ calls ++ calls_from (all_bound (waiting ++ x ∷ []) acts) es more
      goes acts more l =
          ap (λ (ls : List SeenLine). calls_of events (emitted_anew (lines ++ idle ∷ []) (waiting ++ x ∷ []) ls ++ more))
          l.is
          ∙ ap (λ (ls : List SeenLine). calls_of events (ls ++ more))
          (anew_last lines idle l.line waiting x l.front at s.recorded l.many)
          ∙ ap (calls_of events) (append_assoc (emitted_anew lines waiting l.front) (l.line ∷ []) more)
          ∙ s.calls_are l.front (l.line ∷ more) l.many
          ∙ ap (λ b. calls ++ (if b then calls_from (all_bound waiting l.front ++ bound_by x l.line ∷ []) es more else
          unbound (bound_by x l.line) ∷ calls_from (all_bound waiting l.front) es more)) has
          ∙ ap (λ (bs : List BoundAct). calls ++ calls_from bs es more)
          (sym (bound_more waiting l.front x l.line l.many))
          ∙ ap (λ (ls : List SeenLine). calls ++ calls_from (all_bound (waiting ++ x ∷ []) ls) es more) (sym l.is)

  -- after a vread, `CallsSoFar` holds with one more call, which has the lines of the acts that waited for the vread
  pub so_far_vread : (len flags : ℕ) (line : SeenLine) (acts : List SeenLine) → length acts ≡ length waiting →
      CallsSoFar events (Vread len flags ∷ es) lines waiting calls →
      CallsSoFar events es (emitted_anew lines waiting acts ++ line ∷ []) []
      (calls ++ vread_call len flags line (all_bound waiting acts) ∷ [])
  so_far_vread len flags line acts many s = record {
    recorded = tt;
    follows = λ none. refl;
    calls_are = λ none more many_none.
        ap (calls_of events) (append_assoc (emitted_anew lines waiting acts) (line ∷ []) more)
        ∙ s.calls_are acts (line ∷ more) many
        ∙ one_call calls (vread_call len flags line (all_bound waiting acts)) (calls_from [] es more);
  }

-- if `CallsSoFar` holds after all events, the caller's calls are `calls` and then its end
pub so_far_end : (events : List Event) (lines : List SeenLine) (waiting : List Ask) (calls : List Call)
    (line : SeenLine) → CallsSoFar events [] lines waiting calls →
    calls_of events (lines ++ line ∷ []) ≡ calls ++ ending line ∷ []
so_far_end events lines waiting calls line s =
    let none : waiting ≡ [] = s.follows refl in
    ap (λ (asks : List Ask). calls_of events (emitted_anew lines asks [] ++ line ∷ [])) (sym none)
    ∙ s.calls_are [] (line ∷ []) (ap length (sym none))
    ∙ ap (λ (asks : List Ask). calls ++ calls_from (all_bound asks []) [] (line ∷ [])) none
