-- A fork: its visit, the split of the pass, and the two visits around the child's run if the child has no thread.
use Rattle.std.proofs.Common.{◌≡◌, ℕ, ◌+◌, ◌<◌, ◌≤◌, List, [], ◌∷◌, ◌++◌, length, map, refl, sym, ap, ◌∙◌, subst, arith, append_assoc, append-nil, inl, inr, length-append}
use Rattle.std.proofs.lemmas.List.{map-append}
use Rattle.std.proofs.lemmas.List.Sums.{fold-append}
use Rattle.key_names.specs.declared.events.Answer.TheVariants.{Ok as Done}
use Rattle.key_names.specs.declared.events.Event.{Event}
use Rattle.key_names.specs.declared.events.Event.TheVariants.{Fork}
use Rattle.key_names.specs.declared.entries.BaseEntry.TheVariants.{Fork as Forks, Stall, Unstall}
use Rattle.key_names.specs.declared.names.Step.{Step}
use Rattle.key_names.specs.Lanes.Book.{Lists}
use Rattle.key_names.specs.Callers.Calls.{alone, setting_after_call}
use Rattle.key_names.specs.Callers.Effects.{effect_of, effects_of}
use Rattle.key_names.specs.Callers.Forms.{BaseOnly}
use Rattle.key_names.specs.Callers.History.{through_visit}
use Rattle.key_names.specs.Callers.Meaning.{CallerState, caller_start, caller_after}
use Rattle.key_names.specs.Transcripts.SeenLine.{SeenLine, no_data}
use Rattle.lane_table.specs.declared.view.Visit.{Visit}
use Rattle.lane_table.specs.declared.view.View.{View}
use Rattle.lane_table.specs.WorldRule.{at, known_of}
use Rattle.lane_table.specs.Steps.{halved}
use Rattle.lane_table.specs.BookLists.{StateLists, book_lists}
use Rattle.lane_table.specs.BookLaws.{Continues}
use Rattle.lane_table.specs.Advances.{MadeStep, step_of, floor}
use Rattle.lane_table.proofs.Book.BookEnds.{continues_before}
use Rattle.rng_core.specs.declared.setting.Setting.{Setting}
use Rattle.rng_core.specs.Traces.{Moment, knowing}
use Rattle.rng_core.specs.Traces as recorded
use Rattle.rng_core.specs.Makes.{Makes, setting_of}
use Rattle.rng_core.specs.SampleEffects.{fast_in}
use Rattle.caller_run.specs.NumberedSteps.{numbered_steps_from, item_of}
use Rattle.caller_run.specs.Done.{CallDoneBy}
use Rattle.caller_run.specs.Items.{Item, items_from}
use Rattle.caller_run.specs.Ran.{RanBy}
use Rattle.caller_run.specs.Took.{Tells, Took}
use Rattle.caller_run.proofs.Orders.Chains.{items_from_doings, ran_went, ran_then}
use Rattle.caller_run.proofs.Orders.PartItems.{items_append}
use Rattle.key_names.proofs.Transcripts.QuietForms.{form_samples}
use Rattle.key_names.specs.declared.events.Word.TheVariants.{Fork as ForkWord}
use Rattle.key_names.specs.declared.names.Mark.{Mark}
use Rattle.key_names.specs.declared.names.Step.TheVariants.{Visit as Marked}
use Rattle.key_names.specs.Callers.Forms.{Stalled}
use Rattle.key_names.proofs.Lists.Each.{each_append}
use Rattle.lane_table.specs.Calls.{view}
use Rattle.lane_table.specs.Steps.{child as split_off}
use Rattle.rng_core.specs.Acts.{Ask}
use Rattle.caller_run.specs.declared.making.caller.Caller.{Caller}
use Rattle.caller_run.specs.declared.output.reply.LineData.TheVariants.{Nothing}
use Rattle.caller_run.specs.Calling.{caller_at, conform}
use Rattle.caller_run.specs.Done.{CallsDone}
use Rattle.caller_run.specs.Items.{steps_of, calls_items}
use Rattle.caller_run.specs.Says.{line_of}
use Rattle.caller_run.specs.Standing.{Start, Forked, HasAdvanced}
use Rattle.caller_run.proofs.Orders.CallChains.{calls_done_then}
use Rattle.caller_run.proofs.Events.CanAdvance.{GoesOn}
use Rattle.caller_run.proofs.Forks.HasForked.{forked_more}
use Rattle.caller_run.proofs.Forks.HasAdvanced.{gone_on, fit_more}
use Rattle.caller_run.proofs.Orders.ItemSteps.{same_steps}
use Rattle.caller_run.proofs.Orders.LoopCalls.{so_far_alone}
use Rattle.caller_run.proofs.Orders.EmittedAnew.{idle_more}

pub tells_emitted : (set : Setting) (m n : Moment) (made_steps : List MadeStep) → recorded.TraceRecords set m n made_steps →
    Tells set 0 m n (map step_of made_steps)
tells_emitted set m n made_steps t = record {
  trace = t.trace;
  numbered_steps = numbered_steps_from set.event (length m.steps) made_steps;
  ran = ran_went set.caller set.event (length m.steps) m.view n.view made_steps t.went;
  order = items_from_doings set.event (length m.steps) made_steps;
}

-- a split of the pass makes no step
pub ran_halved : (caller : ℕ) (v : View) → RanBy caller 1 v (halved v) []
ran_halved caller v = record {
  same = record { first = refl; share = refl; halvings = refl; sized = refl };
  grows = λ lane low. ([], sym (append-nil (known_of v lane)));
  places = λ lane low. sym (append-nil (at lane v).places);
  made = λ lane low. omega arith;
  heard = λ lane low. refl;
  climbs = refl;
  sees = (let q : floor v ≤ floor v = omega arith in q);
  stood = tt;
}

abbrev pub cut : Moment → Moment
cut m = record { view = halved m.view; steps = m.steps }

pub tells_split : (set : Setting) (m : Moment) → Tells set 1 m (cut m) []
tells_split set m =
    record { trace = sym (append-nil m.steps); numbered_steps = []; ran = ran_halved set.caller m.view; order = refl }

pub tells_then : (set : Setting) (a b : ℕ) (l m n : Moment) (xs ys : List Step) → Tells set a l m xs →
    Tells set b m n ys → Tells set (a + b) l n (xs ++ ys)
tells_then set a b l m n xs ys p q =
    let long : length m.steps ≡ length xs + length l.steps =
    (let e = ap length p.trace in omega (arith, length-append l.steps xs)) in record {
      trace = q.trace ∙ ap (λ (s : List Step). s ++ ys) p.trace ∙ append_assoc l.steps xs ys;
      numbered_steps = p.numbered_steps ++ q.numbered_steps;
      ran = ran_then set.caller a b l.view m.view n.view p.numbered_steps q.numbered_steps p.ran q.ran;
      order = map-append item_of p.numbered_steps q.numbered_steps
          ∙ (λ i. p.order i ++ (q.order ∙ ap (λ (k : ℕ). items_from set.event k ys) long) i)
          ∙ sym (items_append set.event (length l.steps) xs ys);
    }

-- suppose that the visit of the fork took the pass from the view v to u
module _ (set : Setting) (child : ℕ) (v u : View) (mark : Mark)
    (did : Makes (BaseOnly (Forks child)) set (knowing v []) (knowing u (Marked mark ∷ []))) where
  first_tells : Tells set 0 (knowing v []) (knowing u (Marked mark ∷ [])) (Marked mark ∷ [])
  first_tells =
      subst (λ (l : List Step). Tells set 0 (knowing v []) (knowing u (Marked mark ∷ [])) l) (sym did.recorded.trace)
      (tells_emitted set (knowing v []) (knowing u (Marked mark ∷ [])) did.made_steps did.recorded)

  first_form : (lanes : ℕ) (visits : ℕ → List Visit) (callers : StateLists) → Continues lanes u visits →
      BaseOnly (Forks child) (effects_of (book_lists lanes visits callers) (Marked mark ∷ []))
  first_form lanes visits callers c =
      subst (λ (l : List Step). BaseOnly (Forks child) (effects_of (book_lists lanes visits callers) l))
      (sym did.recorded.trace) (did.conforms lanes visits callers c)

  -- if the child has its own thread, the fork's visit is the only step of the fork's line, and `Took` holds
  pub took_thread : Took set child v u (halved u) (Marked mark ∷ [])
  took_thread = record {
    mark = mark;
    rest = [];
    steps_are = refl;
    first = first_tells;
    following = tells_split set (knowing u (Marked mark ∷ []));
    form = λ lanes visits callers c any.
        inl (first_form lanes visits callers (record { long = c.long; begins = c.begins; closed = c.closed }));
  }

  -- suppose that the child ran in its parent's thread, between two more visits of the parent
  module _ (x w : View) (before steps : List Step)
      (stall : Makes (BaseOnly Stall) set (knowing (halved u) (Marked mark ∷ [])) (knowing x before))
      (unstall : Makes (BaseOnly Unstall) set (knowing x before) (knowing w steps)) where
    abbrev xs : List Step
    xs = map step_of stall.made_steps

    abbrev ys : List Step
    ys = map step_of unstall.made_steps

    waits : Tells set 0 (knowing (halved u) (Marked mark ∷ [])) (knowing x before) xs
    waits = tells_emitted set (knowing (halved u) (Marked mark ∷ [])) (knowing x before) stall.made_steps stall.recorded

    goes_on : Tells set 0 (knowing x before) (knowing w steps) ys
    goes_on = tells_emitted set (knowing x before) (knowing w steps) unstall.made_steps unstall.recorded

    after_all : Tells set 1 (knowing u (Marked mark ∷ [])) (knowing w steps) (xs ++ ys)
    after_all =
        tells_then set 1 0 (knowing u (Marked mark ∷ [])) (knowing x before) (knowing w steps) xs ys
        (tells_then set 1 0 (knowing u (Marked mark ∷ [])) (knowing (halved u) (Marked mark ∷ [])) (knowing x before) [] xs
        (tells_split set (knowing u (Marked mark ∷ []))) waits) goes_on

    whole : steps ≡ Marked mark ∷ (xs ++ ys)
    whole = unstall.recorded.trace ∙ ap (λ (l : List Step). l ++ ys) stall.recorded.trace

    three : (lists : Lists) → BaseOnly (Forks child) (effects_of lists (Marked mark ∷ [])) →
        BaseOnly Stall (effects_of lists xs) → BaseOnly Unstall (effects_of lists ys) → Stalled child (effects_of lists steps)
    three lists a b c = record {
      fork = a.base;
      stall = b.base;
      unstall = c.base;
      effects_are =
          ap (effects_of lists) whole ∙ map-append (effect_of lists) (Marked mark ∷ xs) ys
          ∙ (λ i. (a.effects_are i ++ b.effects_are i) ++ c.effects_are i);
      forks = a.is;
      stalls = b.is;
      unstalls = c.is;
    }

    pub took_here : Took set child v u w steps
    took_here = record {
      mark = mark;
      rest = xs ++ ys;
      steps_are = whole;
      first = first_tells;
      following = after_all;
      form = λ lanes visits callers c any.
          let at_x : Continues lanes x visits =
          continues_before lanes x w visits goes_on.ran.same.sized goes_on.ran.grows c in
          let at_u : Continues lanes (halved u) visits =
          continues_before lanes (halved u) x visits waits.ran.same.sized waits.ran.grows at_x in
          inr (three (book_lists lanes visits callers)
          (first_form lanes visits callers
          (record { long = at_u.long; begins = at_u.begins; closed = at_u.closed }))
          (stall.conforms lanes visits callers at_x) (unstall.conforms lanes visits callers c));
    }

-- the call of a fork is one of the caller's calls: `CallDoneBy` holds for it, with one split of the pass
module _ (set : Setting) (v u w : View) (s : CallerState) (child : ℕ) (line : SeenLine)
    (event : line.event ≡ set.event) (answer : line.answer ≡ Done) (shown : line.shown ≡ no_data)
    (t : Took set child v u w line.steps) where
  all_steps : Tells set 1 (knowing v []) (knowing w line.steps) line.steps
  all_steps =
      subst (λ (l : List Step). Tells set 1 (knowing v []) (knowing w line.steps) l) (sym t.steps_are)
      (tells_then set 0 1 (knowing v []) (knowing u (Marked t.mark ∷ [])) (knowing w line.steps) (Marked t.mark ∷ []) t.rest
      t.first t.following)

  pub fork_done : CallDoneBy set.caller 1 v w s (caller_after s (Fork child)) (alone (Fork child) line)
  fork_done = record {
    numbered_steps = all_steps.numbered_steps;
    ran = all_steps.ran;
    order = all_steps.order ∙ ap (λ (n : ℕ). items_from n 0 line.steps) (sym event);
    meant = λ lanes visits callers c. record {
      meaning = record {
        own = record {
          effects = effects_of (book_lists lanes visits callers) line.steps;
          answer = line.answer;
          shown = line.shown;
        };
        acts = [];
        entries = [];
        before = s;
        after = caller_after s (Fork child);
      };
      before = refl;
      means = record {
        form = t.form lanes visits callers c s.setting;
        answer = answer;
        shown = shown;
        no_acts = refl;
        entries = refl;
        after = refl;
      };
      after = refl;
      effects = refl;
      answers = refl;
      shown = refl;
    };
    samples = λ lanes visits callers c. (
      form_samples (fast_in visits) s.setting (Fork child) (effects_of (book_lists lanes visits callers) line.steps) tt
          (t.form lanes visits callers c s.setting),
      tt,
    );
  }

-- suppose that a caller goes on after a fork. The caller is c before the fork, d after the fork's visits, and e when it
-- goes on. The child starts with the caller's setting, and the child's pass was split off after the first visit
module _ {begun : Start} {events rest : List Event} {child : ℕ} {c : Caller} {lines : List SeenLine}
    {asks : List Ask} {kids : List Start} (d e : Caller) (u : View) (steps : List Step)
    (g : HasAdvanced begun events (Fork child ∷ rest) c lines asks kids) (set : d.set ≡ c.set)
    (states : d.states ≡ c.states) (on : GoesOn (Fork child) d e) (above : begun.caller < child)
    (t : Took c.set child (view c.pass) u (view d.pass) steps) where
  abbrev line : SeenLine
  line = line_of c.set ForkWord [] (record { answer = Done; shows = Nothing }) steps

  abbrev pub kid : Start
  kid = record { caller = child; set = (conform c).setting; view = split_off u }

  one : CallDoneBy begun.caller 1 (view c.pass) (view d.pass) (conform c) (caller_after (conform c) (Fork child))
      (alone (Fork child) line)
  one = subst (λ (n : ℕ). CallDoneBy n 1 (view c.pass) (view d.pass) (conform c) (caller_after (conform c) (Fork child))
      (alone (Fork child) line)) g.own
      (fork_done c.set (view c.pass) u (view d.pass) (conform c) child line refl refl refl t)

  first : RanBy begun.caller 0 (view c.pass) u t.first.numbered_steps
  first = subst (λ (n : ℕ). RanBy n 0 (view c.pass) u t.first.numbered_steps) g.own t.first.ran

  conforms : conform d ≡ conform c
  conforms = (λ i. caller_at (setting_of (set i)) (states i).value)

  forked : Forked begun (view d.pass) (g.calls ++ alone (Fork child) line ∷ []) kid
  forked = record {
    before = g.calls;
    line = line;
    after = [];
    calls_are = refl;
    above = above;
    splits = length kids + 0;
    middle = u;
    numbered_steps = g.done.numbered_steps ++ t.first.numbered_steps;
    ran = ran_then begun.caller (length kids) 0 begun.view (view c.pass) u g.done.numbered_steps t.first.numbered_steps
        g.done.ran first;
    order = ap steps_of (map-append item_of g.done.numbered_steps t.first.numbered_steps
        ∙ (λ i. g.done.order i ++ t.first.order i))
        ∙ map-append (λ (item : Item). item.step) (calls_items g.calls) (items_from c.set.event 0 (Marked t.mark ∷ []))
        ∙ (λ i. same_steps g.calls i ++ ap through_visit (sym t.steps_are) i);
    sized = t.following.ran.same.sized;
    grows = t.following.ran.grows;
    view_is = refl;
    set_is = g.settings;
  }

  pub gone_fork : HasAdvanced begun events rest e (lines ++ line ∷ []) asks (kids ++ kid ∷ [])
  gone_fork =
      let many : length kids + 1 ≡ length (kids ++ kid ∷ []) = omega (arith, length-append kids (kid ∷ [])) in
      gone_on d g set on (g.calls ++ alone (Fork child) line ∷ []) (lines ++ line ∷ []) asks g.waiting
      (kids ++ kid ∷ [])
      (subst (λ (s : CallerState). CallsDone begun.caller (length (kids ++ kid ∷ [])) begun.view (view d.pass)
      (caller_start begun.set) (caller_after s (Fork child)) (g.calls ++ alone (Fork child) line ∷ [])) (sym conforms)
      (subst (λ (n : ℕ). CallsDone begun.caller n begun.view (view d.pass) (caller_start begun.set)
      (caller_after (conform c) (Fork child)) (g.calls ++ alone (Fork child) line ∷ [])) many
      (calls_done_then begun.caller (length kids) 1 begun.view (view c.pass) (view d.pass) (caller_start begun.set)
      (conform c) (caller_after (conform c) (Fork child)) g.calls (alone (Fork child) line) g.done one)))
      (ap (λ (s : CallerState). s.setting) conforms ∙ g.settings
      ∙ sym (fold-append setting_after_call begun.set g.calls (alone (Fork child) line ∷ [])))
      (each_append (Forked begun (view d.pass) (g.calls ++ alone (Fork child) line ∷ [])) kids (kid ∷ [])
      (forked_more begun (view c.pass) (view d.pass) g.calls (alone (Fork child) line ∷ []) kids one.ran.same.sized
      one.ran.grows g.forked) (forked, tt))
      (λ has. g.waits has)
      (so_far_alone events rest lines g.waiting g.calls (Fork child) line tt g.so_far)
      (fit_more begun.caller c.set.event events (Fork child) rest lines line
      (record { caller = g.own; event = refl; word_is = refl }) g.fit)
      (idle_more begun.caller lines line asks g.idle)
